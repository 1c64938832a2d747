-- `job::view`: an empty part, or the part that holds the image.
-- Assumes nothing.
use mathlib.Core.Path.{sym, ◌∙◌}
use Rattle.job.proofs.Views.{ready_by, view_refused, view_shown}
use Rattle.job.proofs.view.Goals as goal

pub returns-in-Err : goal.returns-in-Err
returns-in-Err c = view_refused _ (sym c.ready.ensures ∙ c.in-Err.is)

pub image-requires : goal.image-requires
image-requires c =
    let ready = ready_by c.ready.ensures c.in_default.is in
    (ready.first, ready.second)

pub returns : goal.returns
returns c =
    view_shown _ (sym c.ready.ensures ∙ c.in_default.is) c.image.ensures
