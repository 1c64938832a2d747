-- `number::group_count` meets its contract, by the thresholds.
-- Assumes nothing.
use native.Mathlib.Omega.{arith}
use borrow.Author.Tests.{le-leb, lt-leb}
use Rattle.table.specs.Number.{group_count}
use Rattle.table.proofs.number.group_count.Goals as goal

pub returns-then-n-lt-TWO_GROUPS : goal.returns-then-n-lt-TWO_GROUPS
unfolding group_count
returns-then-n-lt-TWO_GROUPS c =
    let n = c.args.n in
    (simp (lt-leb 128 n (omega arith), lt-leb 16384 n (omega arith), lt-leb 2097152 n (omega arith)), omega arith)

pub returns-then-n-lt-THREE_GROUPS : goal.returns-then-n-lt-THREE_GROUPS
unfolding group_count
returns-then-n-lt-THREE_GROUPS c =
    let n = c.args.n in
    (simp (le-leb 128 n (omega arith), lt-leb 16384 n (omega arith), lt-leb 2097152 n (omega arith)), omega arith)

pub returns-then-n-lt-FOUR_GROUPS : goal.returns-then-n-lt-FOUR_GROUPS
unfolding group_count
returns-then-n-lt-FOUR_GROUPS c =
    let n = c.args.n in
    (simp (le-leb 128 n (omega arith), le-leb 16384 n (omega arith), lt-leb 2097152 n (omega arith)), omega arith)

pub returns : goal.returns
unfolding group_count
returns c =
    let n = c.args.n in
    (simp (le-leb 128 n (omega arith), le-leb 16384 n (omega arith), le-leb 2097152 n (omega arith)), omega arith)
