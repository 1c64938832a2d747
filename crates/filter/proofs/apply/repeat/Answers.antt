-- `apply::repeat` meets its contract: what is refused, then the passes on one plane.
-- Assumes nothing.
use Rattle.std.proofs.lemmas.Result.{err_from_is_err_and}
use mathlib.Core.Path.{refl, sym, ◌∙◌}
use native.Mathlib.Omega.{arith}
use lib.ListN.{length}
use lib.Seq.{length-take-le}
use Rattle.filter.proofs.PassCodeChecks.{accepted_ranged, ranged_count, ranged_ranks, ranged_valid, elements_part, persistents_part}
use Rattle.filter.proofs.RepeatLaws.{Admitted, admitted, repeat_refused, repeat_made}
use Rattle.filter.proofs.apply.repeat.Goals as goal

pub returns-in_err-admit : goal.returns-in_err-admit
returns-in_err-admit c =
    let p = err_from_is_err_and c.from_residual.result c.from_residual.ensures.1 in
    rw (p.1, p.2) (repeat_refused _ _ _ _ _ _ (sym c.admit.ensures ∙ c.in_err-admit.was))

pub shared_ref_as_front-run : goal.shared_ref_as_front-run
shared_ref_as_front-run c =
    let facts : Admitted c.args.table c.args.width c.args.height c.args.first.now (length c.args.second.now) = admitted _ _ _ _ _ (sym c.admit.ensures ∙ c.in_ok-admit.was) in
    ranged_count _ (accepted_ranged _ facts.table)

pub shared_ref_as_front-run-2 : goal.shared_ref_as_front-run-2
shared_ref_as_front-run-2 c =
    let facts : Admitted c.args.table c.args.width c.args.height c.args.first.now (length c.args.second.now) = admitted _ _ _ _ _ (sym c.admit.ensures ∙ c.in_ok-admit.was) in
    ranged_ranks _ (accepted_ranged _ facts.table)

pub run-requires : goal.run-requires
run-requires c =
    let facts : Admitted c.args.table c.args.width c.args.height c.args.first.now (length c.args.second.now) = admitted _ _ _ _ _ (sym c.admit.ensures ∙ c.in_ok-admit.was) in
    let in_range = accepted_ranged _ facts.table in (
      rw (elements_part c.args.table refl) (ranged_valid _ in_range),
      omega (arith, length-take-le c.args.table.count c.args.table.elements (omega (arith, ranged_count _ in_range)), ranged_count _ in_range),
      facts.image,
      facts.first_long,
      facts.second_long,
    )

pub invariant_of-run : goal.invariant_of-run
invariant_of-run c =
    let facts : Admitted c.args.table c.args.width c.args.height c.args.first.now (length c.args.second.now) = admitted _ _ _ _ _ (sym c.admit.ensures ∙ c.in_ok-admit.was) in
    record { wide = facts.image.wide; narrow = facts.narrow; low = facts.low }

pub returns : goal.returns
returns c =
    let facts : Admitted c.args.table c.args.width c.args.height c.args.first.now (length c.args.second.now) = admitted _ _ _ _ _ (sym c.admit.ensures ∙ c.in_ok-admit.was) in
    repeat_made _ _ _ _ _ _ (sym c.admit.ensures ∙ c.in_ok-admit.was)
    (c.run.ensures _ (sym (elements_part _ refl)) (sym (persistents_part _ refl)) facts.table)
