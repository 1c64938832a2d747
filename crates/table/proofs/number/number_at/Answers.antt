-- `number::number_at` meets its contract: by the count of bytes with bit 7 set.
-- Assumes nothing.
use mathlib.Core.Bool.{false}
use mathlib.Core.Logic.{inl, inr, ◌⊎◌}
use mathlib.Core.Path.{◌≡◌}
use Prim.Native.Nat.{◌≤◌}
use lib.Dec.{eqb}
use Rattle.std.proofs.lemmas.Bool.Decides.{nat_tests}
use Rattle.table.proofs.number.number_at.Goals.{else-more-gt0-via-then-more-gt0+else-bytes-last-eq0, else-more-gt0-via-else-more-gt0}
use native.Mathlib.Omega.{arith}
use lib.ListN.{drop, get_or, length-drop}
use lib.Seq.{get_or-drop}
use Rattle.table.specs.Code.Cursor.{number_at}
use Rattle.table.proofs.Cursor.{number_past, number_short, number_long, number_zero, number_whole}
use Rattle.table.proofs.number.number_at.Goals as goal

pub returns-then-bytes-at : goal.returns-then-bytes-at
returns-then-bytes-at c = number_past _ _ c.if-bytes-at.true

pub returns-then-more-ge-MAX_GROUPS : goal.returns-then-more-ge-MAX_GROUPS
unfolding number_at
returns-then-more-ge-MAX_GROUPS c = number_long _ _ c.more_at-more.ensures (omega arith)

pub returns-then-bytes-last : goal.returns-then-bytes-last
unfolding number_at
returns-then-bytes-last c = number_short _ _ c.more_at-more.ensures c.if-more-ge-MAX_GROUPS.false (simp length-drop (omega arith))

pub returns-then-bytes-last-eq0 : goal.returns-then-bytes-last-eq0
unfolding number_at
returns-then-bytes-last-eq0 c =
    number_zero _ _ c.more_at-more.ensures c.if-more-ge-MAX_GROUPS.false
    (simp length-drop (omega arith)) (omega arith) (rw get_or-drop (c.if-bytes-last-eq0.true))

pub returns : goal.returns
unfolding number_at
returns c =
    let low : (c.more_at-more.result ≤ 0) ⊎ (eqb (get_or (drop c.args.at c.args.bytes.now) c.more_at-more.result 0) 0 ≡ false) =
    elim c.else-more-gt0.branch [
      | else-more-gt0-via-then-more-gt0+else-bytes-last-eq0 w ↦ inr (rw get_or-drop (grind (arith, nat_tests)))
      | else-more-gt0-via-else-more-gt0 w ↦ inl w.if-more-gt0.false
    ]
    in
    number_whole _ _ c.more_at-more.ensures c.if-more-ge-MAX_GROUPS.false
    (simp length-drop (omega arith)) low c.groups_at.ensures
