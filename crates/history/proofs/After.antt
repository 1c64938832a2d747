-- What 01 says of record, areas and history after a list, from the relation.
--     files_sized                      the parts have the last image's pixels
--     agrees                           record, areas and entry agree
--     stage_empty, stage_settled       stage 0 and 2
--     after_related                    all of it
-- Assumes nothing.
use Rattle.std.specs.Prelude.{Ok}
use mathlib.Core.Bool.{Bool, true, false}
use mathlib.Core.Logic.{◌↔◌}
use mathlib.Core.Path.{◌≡◌, refl, sym, ap, ◌∙◌, subst}
use Prim.Native.Nat.{ℕ, ◌*◌}
use native.Mathlib.Omega.{arith}
use lib.ListN.{length, get_or}
use Rattle.history.specs.declared.Job.{Job}
use Rattle.history.specs.declared.Quota.{Quota}
use Rattle.history.specs.Demand3.{Agrees, RunAsPasses, ChannelAsPasses, AfterList}
use Rattle.history.specs.History.{Entry, History, empty, holds, Lengths, barred_by}
use Rattle.history.specs.Lists.{Course, lengths_of, over_steps}
use Rattle.history.specs.Quota.{channel_rule}
use Rattle.history.specs.State.{State, empty_job}
use Rattle.history.proofs.Channel.{channel_as_passes}
use Rattle.history.proofs.Never14.{never_14}
use Rattle.history.proofs.Pass.{last_image}
use Rattle.history.proofs.Refused.{answered, refused, unaltered, quota_back}
use Rattle.history.proofs.Related.{stage_of, step_counts, Held, RelatedTo, Related, stage_of_lem, stage_two}
use Rattle.history.proofs.Row.{row_bound, row_single, row_balance}
use Rattle.history.proofs.Run.{run_as_passes}
use Rattle.history.proofs.View.{view_held, operated_held}
use Rattle.image.proofs.PartFiles.{parts_back}
use Rattle.image.proofs.Shapes.{good_shape, of_heights, of_shape, padded_tab}
use Rattle.image.specs.Strip.{max_parts, strip_of}
use Rattle.operator.specs.Parts.{added_in, removed_in}
use Rattle.seq.proofs.Tab.{get_d_tab}
use Rattle.seq.specs.Lists.{sum_of}

-- what part i gained and lost, over all steps
abbrev steps_added : Entry → ℕ → ℕ
steps_added e i = over_steps (λ a b. added_in e.width e.parts a b i) e

abbrev steps_removed : Entry → ℕ → ℕ
steps_removed e i = over_steps (λ a b. removed_in e.width e.parts a b i) e

-- the parts have the last image's pixels
pub files_sized : {s : State} {e : Entry} {n : ℕ} → Held s e n → length e.last ≡ e.width * sum_of e.parts
files_sized {e = e} r = (last_image r).sized ∙ ap (λ (h : ℕ). e.width * h) (r.parts.height ∙ ap sum_of (of_heights r.listed))

pub agrees : {s : State} {e : Entry} {n : ℕ} → Held s e n → Agrees s e
unfolding step_counts
agrees {s} {e} r = record {
  table = ap (λ (j : Job). j.table) r.job;
  width = ap (λ (j : Job). j.width) r.job;
  height = ap (λ (j : Job). j.height) r.job;
  strip = ap (λ (j : Job). j.strip) r.job;
  rows = sym (r.parts.height ∙ ap sum_of (of_heights r.listed));
  accepted = r.accepted;
  sized = good_shape (strip_of e.width e.parts) (of_shape r.listed);
  image = last_image r;
  view = view_held r;
  passes = ap (λ (j : Job). j.passes) r.job;
  added = ap (λ (j : Job). j.added) r.job;
  removed = ap (λ (j : Job). j.removed) r.job;
  part_added = λ i l. ap (λ (j : Job). get_or j.counts.added i 0) r.job ∙ get_d_tab (steps_added e) max_parts i 0 (omega (arith, r.listed.few));
  part_removed = λ i l. ap (λ (j : Job). get_or j.counts.removed i 0) r.job ∙ get_d_tab (steps_removed e) max_parts i 0 (omega (arith, r.listed.few));
  added_sum = rw r.job (sym (ap sum_of (padded_tab (steps_added e))) ∙ r.parts.added.sum);
  removed_sum = rw r.job (sym (ap sum_of (padded_tab (steps_removed e))) ∙ r.parts.removed.sum);
  files = parts_back r.listed e.last (files_sized r) (last_image r).binary;
  balance = rw r.job (row_balance r.accepted r.row r.begun);
  single = row_single r.accepted r.row r.begun;
  bound = row_bound r.accepted r.row r.begun;
}

stage_nonzero : (b : Bool) → stage_of b ≡ 0 → ⊥
stage_nonzero true q = omega arith
stage_nonzero false q = omega arith

-- an entry is not the empty history
holds_empty {ℓ} : {P : Type ℓ} (e : Entry) → holds e ≡ empty → P
holds_empty e q = absurd (let z : ◌≡◌ {A = ℕ} 0 1 = cc in omega arith)

stage_zero : (s : State) → s.job ≡ empty_job → s.job.stage ≡ 0
unfolding empty_job
stage_zero s q = ap (λ (j : Job). j.stage) q

stage_empty : (s : State) (H : History) (n : ℕ) → RelatedTo s H n → (s.job.stage ≡ 0) ↔ (H ≡ empty)
stage_empty s empty n q = (λ x. refl, λ x. stage_zero s q)
stage_empty s (holds e) n r = (λ x. absurd (stage_nonzero e.settled (sym (stage_of_lem r) ∙ x)), holds_empty e)

stage_settled : (s : State) (H : History) (n : ℕ) → RelatedTo s H n
    → (s.job.stage ≡ 2) ↔ ((e : Entry) × (H ≡ holds e) × (e.settled ≡ true))
stage_settled s empty n q = (λ x. absurd (let z = stage_zero s q in omega arith), λ x. holds_empty x.0 (sym x.1))
stage_settled s (holds e) n r = (
  λ x. (e, refl, stage_two e.settled (sym (stage_of_lem r) ∙ x)),
  λ x. let same : e ≡ x.0 = cc x.1 in stage_of_lem r ∙ ap (λ (d : Entry). stage_of d.settled) same ∙ ap stage_of x.2,
)

-- the record and the areas hold the entry that the history holds
pub held : (w : Course) → Related w → (e : Entry) → w.history ≡ holds e → Held w.state e w.tally
held w r e q = subst (λ (H : History). RelatedTo w.state H w.tally) q r

run_from : (w : Course) → Related w → (e : Entry) → w.history ≡ holds e → RunAsPasses w e
run_from w r e q =
    subst (λ (H : History). RunAsPasses (record { state = w.state; history = H; tally = w.tally }) e) (sym q)
    (run_as_passes (held w r e q))

channel_from : (w : Course) → Related w → (e : Entry) → w.history ≡ holds e → (c : Quota) (i : ℕ) → channel_rule c i ≡ Ok tt → ChannelAsPasses w e c i
channel_from w r e q c i k =
    subst (λ (H : History). ChannelAsPasses (record { state = w.state; history = H; tally = w.tally }) e c i) (sym q)
    (channel_as_passes c i k (held w r e q))

pub after_related : (n : Lengths) (w : Course) → Related w → lengths_of w.state ≡ n → AfterList n w
after_related n w r l = record {
  lengths = l;
  stage_empty = stage_empty w.state w.history w.tally r;
  stage_settled = stage_settled w.state w.history w.tally r;
  agrees = λ e q. agrees (held w r e q);
  operated = λ e q. operated_held (held w r e q);
  passed = λ e q. let h = held w r e q in view_held h ∙ sym h.tallied;
  run_as_passes = run_from w r;
  answered = λ c. rw l at (answered c w.state w.history w.tally r);
  refused = λ c. rw l at (refused c w.state w.history w.tally r);
  never_14 = λ c x q. never_14 c (lengths_of w.state) w.history x (sym (refused c w.state w.history w.tally r) ∙ q);
  unaltered = λ c x b. unaltered c w.state w.history w.tally x r (ap (λ (k : Lengths). barred_by c k w.history) l ∙ b);
  channel_as_passes = channel_from w r;
  quota_back = λ c i. quota_back c i w.state w.history w.tally r;
}
