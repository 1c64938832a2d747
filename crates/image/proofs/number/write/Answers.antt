-- `image::number::write` meets its contract. Assumes nothing.
use mathlib.Core.Path.{ap}
use Prim.Native.Nat.{◌+◌, ◌≤◌}
use native.Mathlib.Omega.{arith}
use lib.ListN.{length, length-set}
use Rattle.image.proofs.Decimal.{decimal_one, decimal_two, decimal_three, wrote_one, wrote_two, wrote_three}
use Rattle.image.proofs.number.write.Goals as goal

pub bounds-out-at : goal.bounds-out-at
bounds-out-at c =
    let one : c.args.at + 1 ≤ length c.args.out.now = omega (arith, ap length (decimal_one c.args.n c.if-n-lt-RADIX.true)) in
    omega (arith, one)

pub returns-then-n-lt-RADIX : goal.returns-then-n-lt-RADIX
returns-then-n-lt-RADIX c = wrote_one _ _ _ c.if-n-lt-RADIX.true c.digit.ensures

pub bounds-out-at-then-n-lt-HUNDRED : goal.bounds-out-at-then-n-lt-HUNDRED
bounds-out-at-then-n-lt-HUNDRED c =
    let two : c.args.at + 2 ≤ length c.args.out.now = omega (arith, ap length (decimal_two c.args.n c.if-n-lt-RADIX.false c.if-n-lt-HUNDRED.true)) in
    omega (arith, two)

pub bounds-out-at-then-n-lt-HUNDRED-2 : goal.bounds-out-at-then-n-lt-HUNDRED-2
bounds-out-at-then-n-lt-HUNDRED-2 c =
    let two : c.args.at + 2 ≤ length c.args.out.now = omega (arith, ap length (decimal_two c.args.n c.if-n-lt-RADIX.false c.if-n-lt-HUNDRED.true)) in
    simp length-set (omega (arith, two))

pub returns-then-n-lt-HUNDRED : goal.returns-then-n-lt-HUNDRED
returns-then-n-lt-HUNDRED c = wrote_two _ _ _ c.if-n-lt-RADIX.false c.if-n-lt-HUNDRED.true c.digit-then-n-lt-HUNDRED.ensures c.digit-then-n-lt-HUNDRED-2.ensures

pub bounds-out-at-2 : goal.bounds-out-at-2
bounds-out-at-2 c =
    let three : c.args.at + 3 ≤ length c.args.out.now = omega (arith, ap length (decimal_three c.args.n c.if-n-lt-HUNDRED.false)) in
    omega (arith, three)

pub bounds-out-at-3 : goal.bounds-out-at-3
bounds-out-at-3 c =
    let three : c.args.at + 3 ≤ length c.args.out.now = omega (arith, ap length (decimal_three c.args.n c.if-n-lt-HUNDRED.false)) in
    simp length-set (omega (arith, three))

pub bounds-out-at-4 : goal.bounds-out-at-4
bounds-out-at-4 c =
    let three : c.args.at + 3 ≤ length c.args.out.now = omega (arith, ap length (decimal_three c.args.n c.if-n-lt-HUNDRED.false)) in
    simp length-set (omega (arith, three))

pub returns : goal.returns
returns c = wrote_three _ _ _ c.if-n-lt-HUNDRED.false c.digit-2.ensures c.digit-3.ensures c.digit-4.ensures
