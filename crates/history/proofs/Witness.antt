-- Every call that answers 5 or 7 passes on witness and position, proved (specs/Witness).
-- Assumes nothing.
use Rattle.std.specs.Prelude.{Ok, Err}
use mathlib.Core.Bool.{true, false, not}
use mathlib.Core.List.{List, [], ◌∷◌}
use mathlib.Core.Path.{◌≡◌, refl, subst}
use Prim.Native.Nat.{ℕ}
use borrow.Author.Tests.{not-true}
use lib.Dec.{ltb, eqb}
use lib.ListN.{length}
use Rattle.history.specs.Call.{Call, load, pass, run, view, figures, collect, channel_pass, channel_run, is_load, is_collect, answer_of, refusal_of}
use Rattle.history.specs.Collect.{collected, collect_verdict, collect_written}
use Rattle.history.specs.Demand1.{state_numbers, placed}
use Rattle.history.specs.Source.{Source, from_file, from_three, from_strip, source_verdict}
use Rattle.history.specs.State.{State, unsound}
use Rattle.history.specs.Witness.{PassedOn}
use Rattle.verdict.specs.declared.Rule.TheVariants as why
use Rattle.history.proofs.Refusals.{written_refusal, load_says}
use Rattle.history.proofs.States.{given, only, by_state}
use Rattle.image.proofs.Facts.{file_says}
use Rattle.image.proofs.Strips.{strip_says}
use Rattle.image.proofs.ThreeFiles.{three_says}
use Rattle.table.proofs.Witness.{witnesses}
use Rattle.table.specs.declared.Table.{Table}
use Rattle.table.specs.Witness.{Neither, zeros, Witness, neither}
use Rattle.verdict.specs.Numbers.{Says, accepts, refuses, among, by}
use Rattle.verdict.specs.Rules.{refusal, Verdict, number_of, Refusal}
use Rattle.verdict.proofs.Numbers.{says_if, says_or, says_more, one_of_passes}

source_says : (x : Source) → Says Neither (source_verdict x)
source_says (from_file f) = file_says f (zeros refl) (zeros refl) (zeros refl)
source_says (from_strip p px) = strip_says p px (λ k. zeros refl) (zeros refl) (λ k. zeros refl) (λ k. zeros refl)
source_says (from_three f g h) = three_says f g h (zeros refl) (zeros refl) (zeros refl) (zeros refl) (zeros refl)

load_witness : (t : Table) (x : Source) (s : State) → Says (Witness t) (refusal_of (answer_of (load t x) s))
unfolding answer_of
load_witness t x s =
    load_says t x s (neither (zeros refl)) (neither (zeros refl)) (witnesses.of_record t) (says_more (λ r. neither) (source_says x)) (neither (zeros refl))

-- a refusal because of the state or of the quota is its number and its place
state_says : (c : Call) (s : State) (r : Refusal) → refusal_of (answer_of c s) ≡ Err r → among state_numbers (number_of r) ≡ true → Neither r
state_says c s r q m =
    let again = given c s r.rule (only c s r q m).0 in
    let same : refusal r.rule (placed c r.rule) ≡ r = cc in
    subst Neither same (zeros (not-true _ (one_of_passes {ns = state_numbers} (λ n. not (among (5 ∷ 7 ∷ []) n)) (refuses {r = r} (by m)) refl refl)))

other_says : (c : Call) (s : State) → is_load c ≡ false → is_collect c ≡ false → Says Neither (refusal_of (answer_of c s))
other_says c s a b = step (refusal_of (answer_of c s)) refl
  where
    step : (v : Verdict) → refusal_of (answer_of c s) ≡ v → Says Neither v
    step (Ok _) q = accepts
    step (Err r) q = refuses (state_says c s r q (by_state c s r a b q))

collect_says : (out : List ℕ) (s : State) → Says Neither (refusal_of (answer_of (collect out) s))
unfolding answer_of collect_written collect_verdict
collect_says out s =
    rw (written_refusal (collect_verdict (length out) s) (collected s))
    (says_or (says_if (unsound s) why.Unsound 0 (zeros refl))
    (says_or (says_if (eqb s.job.stage 0) why.NothingLoaded 0 (zeros refl))
    (says_or (says_if (eqb s.job.stage 1) why.NotStable 0 (zeros refl)) (says_or (says_if (ltb (length out) (length (collected s))) why.AreaShort 0 (zeros refl)) accepts))))

pub passed_on : PassedOn
passed_on (load t x) s = load_witness t x s
passed_on pass s = other_says pass s refl refl
passed_on run s = other_says run s refl refl
passed_on view s = other_says view s refl refl
passed_on figures s = other_says figures s refl refl
passed_on (collect out) s = collect_says out s
passed_on (channel_pass q i) s = other_says (channel_pass q i) s refl refl
passed_on (channel_run q i) s = other_says (channel_run q i) s refl refl
