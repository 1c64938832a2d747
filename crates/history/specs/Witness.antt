-- Every call that answers 5 or 7 passes on witness and position (02, T-07).
--     Told c x     the refusal x of the call c: of a load as the check of its table says it, of any other call with zeros
--     PassedOn     so is every refusal of a call, whatever the record holds
-- Assumes nothing.
use Rattle.history.specs.Call.{Call, load, pass, run, view, figures, collect, channel_pass, channel_run, answer_of, refusal_of}
use Rattle.history.specs.State.{State}
use Rattle.table.specs.Witness.{Neither, Witness}
use Rattle.verdict.specs.Rules.{Refusal}
use Rattle.verdict.specs.Numbers.{Says}

abbrev pub Told : Call → Refusal → Type 0
Told (load t x) = Witness t
Told pass = Neither
Told run = Neither
Told view = Neither
Told figures = Neither
Told (collect out) = Neither
Told (channel_pass q i) = Neither
Told (channel_run q i) = Neither

abbrev pub PassedOn : Type 0
PassedOn = (c : Call) (s : State) → Says (Told c) (refusal_of (answer_of c s))
