-- `filter::preview::answer` meets its contract: what is looked up is the pattern. Assumes nothing.
use mathlib.Core.Path.{◌≡◌, ap, ◌∙◌}
use Prim.Native.Nat.{◌+◌, ◌*◌}
use native.Mathlib.Omega.{arith}
use Rattle.seq.proofs.Tab.{get_d_tab}
use Rattle.operator.specs.Preview.{pattern, five_or_more}
use Rattle.filter.proofs.PreviewLaws.{nine_pattern}
use Rattle.filter.proofs.preview.answer.Goals as goal

pub bounds-table-nine : goal.bounds-table-nine
bounds-table-nine c =
    let nine : c.three.result + 8 * c.three-2.result + 64 * c.three-3.result
    ≡ pattern c.args.win = nine_pattern c.args.win
    c.three.ensures.0 c.three-2.ensures.0 c.three-3.ensures.0 in
    omega (arith, nine, c.answers-table.type_inv)

pub returns : goal.returns
returns c =
    let nine : c.three.result + 8 * c.three-2.result + 64 * c.three-3.result
    ≡ pattern c.args.win = nine_pattern c.args.win
    c.three.ensures.0 c.three-2.ensures.0 c.three-3.ensures.0 in
    rw c.answers-table.ensures
    (get_d_tab five_or_more 512 _ 0 (omega (arith, nine)) ∙ ap five_or_more nine)
