-- View and figures (01): 14, 16; nothing is altered.
--     view_of s       the present image, or an empty part; `ready_verdict s` is the call of its own for number and place
--     cover n m      n of m in thousandths, to the nearest whole one, an exact half to the even one (02, T-05)
--     figures_of s    balance = added − removed, signed; cover of the black pixels
--     view_as v s, figures_as v s     these by the verdict of 14 and 16
-- Assumes nothing.
use Rattle.std.specs.Prelude.{List, [], ℕ, ◌*◌, Ok, Err}
use Rattle.std.proofs.Math.IntN.{sub_ℕ}
use Rattle.history.specs.Answers.{Figured}
use Rattle.operator.specs.Image.{black}
use Rattle.history.specs.Rounding.{nearest}
use Rattle.history.specs.State.{State, pixels, image, ready_verdict}
use Rattle.verdict.specs.Rules.{Verdict}

abbrev pub view_as : Verdict → State → List ℕ
view_as (Ok _) s = image s
view_as (Err r) s = []

unfoldable pub view_of : State → List ℕ
view_of s = view_as (ready_verdict s) s

unfoldable pub cover : ℕ → ℕ → ℕ
cover blacks all = nearest (1000 * blacks) all

abbrev pub figures_as : Verdict → State → Figured
figures_as (Ok _) s = Ok (record { balance = sub_ℕ s.job.added s.job.removed; cover = cover (black (image s)) (pixels s.job) })
figures_as (Err r) s = Err r

unfoldable pub figures_of : State → Figured
figures_of s = figures_as (ready_verdict s) s
