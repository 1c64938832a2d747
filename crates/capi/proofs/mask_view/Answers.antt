-- `capi::mask_view`: by the verdict; on a sound record the pixels are few. Assumes nothing.
use mathlib.Core.Path.{sym, ◌∙◌}
use native.Mathlib.Omega.{arith}
use Rattle.capi.proofs.PartLaws.{part_refused, part_accepted}
use Rattle.history.proofs.Ready.{accepted_ready, ready_small}
use Rattle.capi.proofs.mask_view.Goals as goal

pub overflow_mul-result : goal.overflow_mul-result
overflow_mul-result c =
    record { fits = omega (arith, ready_small (accepted_ready _ (sym c.view_verdict-checked.ensures ∙ c.in-Ok.is))) }

pub returns-in-Err : goal.returns-in-Err
returns-in-Err c =
    rw c.of_verdict.ensures (part_refused _ (sym c.view_verdict-checked.ensures ∙ c.in-Err.is))

pub returns-in-Ok : goal.returns-in-Ok
returns-in-Ok c =
    rw c.of_verdict-in-Ok.ensures (part_accepted _ (sym c.view_verdict-checked.ensures ∙ c.in-Ok.is) c.holder.ensures)
