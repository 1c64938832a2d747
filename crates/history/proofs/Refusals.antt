-- A refused call answers nothing else, and alters nothing.
--     written_refusal     a writer's answer holds its verdict's refusal
--     zeroed              all else in a refused answer is zero, and the output is as it was
--     unaltered           a refused call but a run alters neither record nor areas
--     input_says, load_says     what a load is refused by because of its input, and by all its rules
-- Assumes nothing.
use Rattle.std.specs.Prelude.{Ok, Err}
use mathlib.Core.Bool.{false, not, ◌||◌}
use mathlib.Core.List.{List, [], ◌∷◌}
use mathlib.Core.Path.{◌≡◌, refl, sym, ap, ◌∙◌}
use Prim.Native.Nat.{ℕ, ◌*◌}
use lib.Dec.{ltb, eqb}
use lib.ListN.{length}
use Rattle.history.specs.declared.Effect.TheVariants.{Changed, Stable}
use Rattle.history.specs.declared.Quota.{Quota}
use Rattle.history.specs.Answers.{Passed}
use Rattle.history.specs.Call.{Call, load, pass, run, view, figures, collect, channel_pass, channel_run, is_run, answer_of, state_of, refusal_of, refusing, passed}
use Rattle.history.specs.Channel.{ChannelOutcome, channel_pass_of}
use Rattle.history.specs.Collect.{collected, collect_verdict, collect_written, collect_output, collect_state}
use Rattle.history.specs.Load.{areas_rule, load_verdict, load_state}
use Rattle.history.specs.Pass.{Outcome, pass_of}
use Rattle.history.specs.Source.{Source, source_verdict, source_width, source_height}
use Rattle.history.specs.State.{State, unsound, ready_verdict}
use Rattle.history.specs.View.{view_of, figures_of}
use Rattle.verdict.specs.declared.Rule.TheVariants as why
use Rattle.history.proofs.ChannelPasses as ways
use Rattle.history.proofs.ChannelPasses.{ChannelWay, channel_way}
use Rattle.history.proofs.Passes as passes
use Rattle.history.proofs.Passes.{Way, way}
use Rattle.seq.proofs.Lists.{clash}
use Rattle.table.specs.declared.Table.{Table}
use Rattle.table.specs.Record.{record_verdict}
use Rattle.verdict.specs.Answers.{verdict_of}
use Rattle.verdict.specs.Numbers.{Says, accepts}
use Rattle.verdict.specs.Rules.{refusal, judge, Verdict, Refusal}
use Rattle.verdict.specs.Writer.{written_of}
use Rattle.verdict.proofs.Numbers.{says_if, says_or}
use Rattle.verdict.proofs.Rules.{refused_accepted}

pub written_refusal : (v : Verdict) (file : List ℕ) → verdict_of (written_of v file) ≡ v
written_refusal (Ok _) file = refl
written_refusal (Err r) file = refl

module _ {P : Refusal → Type 0} (t : Table) (x : Source) where
  pub input_says : (n m : ℕ) → Says P (record_verdict t) → Says P (source_verdict x) → P (refusal why.AreaShort 0)
      → Says P (judge (record_verdict t ∷ source_verdict x ∷ areas_rule x n m ∷ []))
  input_says n m a b c =
      says_or a (says_or b (says_or (says_if (ltb n (source_width x * source_height x) || ltb m (source_width x * source_height x)) why.AreaShort 0 c) accepts))

  pub load_says : (s : State) → P (refusal why.Unsound 0) → P (refusal why.NotCollected 0) → Says P (record_verdict t) → Says P (source_verdict x) → P (refusal why.AreaShort 0)
      → Says P (load_verdict t x s)
  unfolding load_verdict
  load_says s u v a b c =
      says_or (says_if (unsound s) why.Unsound 0 u)
      (says_or (says_if (not (eqb s.job.stage 0)) why.NotCollected 0 v) (input_says (length s.first) (length s.second) a b c))

passed_refused : (a : Passed) {r : Refusal} → verdict_of a ≡ Err r → a ≡ Err r
passed_refused (Ok Changed) q = refused_accepted q refl
passed_refused (Ok Stable) q = refused_accepted q refl
passed_refused (Err x) q = cc

-- figures goes by its verdict
figured_refused : (s : State) {r : Refusal} → refusal_of (answer_of figures s) ≡ Err r → ready_verdict s ≡ Err r
unfolding answer_of figures_of
figured_refused s {r} q = by (ready_verdict s) refl
  where
    by : (v : Verdict) → ready_verdict s ≡ v → v ≡ Err r
    by (Ok _) e = refused_accepted q (rw e)
    by (Err x) e = sym (rw e) ∙ q

module _ (s : State) {r : Refusal} where
  -- so does collect
  collect_refused : (out : List ℕ) → refusal_of (answer_of (collect out) s) ≡ Err r → collect_verdict (length out) s ≡ Err r
  unfolding answer_of collect_written
  collect_refused out q = sym (written_refusal (collect_verdict (length out) s) (collected s)) ∙ q

  pub zeroed : (c : Call) → refusal_of (answer_of c s) ≡ Err r → answer_of c s ≡ refusing c r
  unfolding answer_of view_of figures_of collect_written collect_output
  zeroed (load t x) q = rw q
  zeroed pass q = ap passed (passed_refused (pass_of s).answer q)
  zeroed run q = ap passed (passed_refused _ q)
  zeroed view q = rw q
  zeroed figures q = rw (figured_refused s q)
  zeroed (collect out) q = rw (collect_refused out q)
  zeroed (channel_pass c i) q = ap passed (passed_refused _ q)
  zeroed (channel_run c i) q = ap passed (passed_refused _ q)

  -- a pass that is refused goes one of two ways
  pass_unaltered : refusal_of (answer_of pass s) ≡ Err r → (pass_of s).state ≡ s
  unfolding answer_of
  pass_unaltered q = by (way s)
    where
      by : Way s → (pass_of s).state ≡ s
      by (passes.refused x e p) = ap (λ (o : Outcome). o.state) p
      by (passes.resting x z p) = ap (λ (o : Outcome). o.state) p
      by (passes.quiet x z d p) = refused_accepted q (rw p)
      by (passes.changes x z d e p) = refused_accepted q (rw p)
      by (passes.stopped x z d e p) = ap (λ (o : Outcome). o.state) p

  channel_unaltered : (c : Quota) (i : ℕ) → refusal_of (answer_of (channel_pass c i) s) ≡ Err r → (channel_pass_of c i s).state ≡ s
  unfolding answer_of
  channel_unaltered c i q = by (channel_way c i s)
    where
      by : ChannelWay c i s → (channel_pass_of c i s).state ≡ s
      by (ways.barred x e p) = ap (λ (o : ChannelOutcome). o.state) p
      by (ways.unready e x y p) = ap (λ (o : ChannelOutcome). o.state) p
      by (ways.spent_out_lem e x z l p) = ap (λ (o : ChannelOutcome). o.state) p
      by (ways.resting e x z p) = ap (λ (o : ChannelOutcome). o.state) p
      by (ways.paying e x z l p) =
          ap (λ (o : ChannelOutcome). o.state) p
          ∙ pass_unaltered (sym (ap (λ (o : ChannelOutcome). verdict_of o.answer) p) ∙ q)

  pub unaltered : (c : Call) → is_run c ≡ false → refusal_of (answer_of c s) ≡ Err r → state_of c s ≡ s
  unfolding answer_of state_of load_state collect_state
  unaltered (load t x) n q = rw q
  unaltered pass n q = pass_unaltered q
  unaltered run n q = clash refl n
  unaltered view n q = refl
  unaltered figures n q = refl
  unaltered (collect out) n q = rw (collect_refused out q)
  unaltered (channel_pass c i) n q = channel_unaltered c i q
  unaltered (channel_run c i) n q = clash refl n
