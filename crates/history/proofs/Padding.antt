-- Unused bits and jobs: the proof of specs/Padding.
--     load_refusals   the numbers that a load is refused by; 12 is none of them
--     job_padding     the claim
-- Assumes nothing.
use Rattle.std.specs.Prelude.{Ok, Err}
use mathlib.Core.Bool.{true}
use mathlib.Core.List.{List, [], ◌∷◌}
use mathlib.Core.Logic.{◌≢◌}
use mathlib.Core.Path.{◌≡◌, refl, sym, ap, subst}
use Prim.Native.Nat.{ℕ, ◌<◌}
use native.Mathlib.Omega.{arith}
use lib.ListN.{length, take, drop}
use Rattle.history.specs.Call.{load, collect, collected, answer_of, refusal_of}
use Rattle.history.specs.Collect as collecting
use Rattle.history.specs.Load.{load_verdict}
use Rattle.history.specs.Padding.{part_file, part_start, JobPadding}
use Rattle.history.specs.Source.{Source, from_file, source_verdict}
use Rattle.history.specs.State.{State, image, ready_verdict}
use Rattle.history.proofs.Ready.{accepted_ready, ready_parts, ready_image}
use Rattle.history.proofs.Refusals.{load_says}
use Rattle.history.proofs.Reload.{by_answer}
use Rattle.history.proofs.SameSource.{SameSource, same_answer, same_course}
use Rattle.history.proofs.Sources.{file_numbers, file_numbers_lem}
use Rattle.history.proofs.States.{collect_split}
use Rattle.image.proofs.Ignored.{same_image}
use Rattle.history.proofs.Parts.{good_rows}
use Rattle.image.proofs.PartFiles.{part_file_lem, part_good}
use Rattle.image.proofs.RoundTrip.{image_round_trip}
use Rattle.image.proofs.Shapes.{Listed, shape_count, shape_listed}
use Rattle.image.specs.Strip.{heights_of}
use Rattle.image.specs.Padding.{unused_zero, cleared}
use Rattle.table.proofs.Verdicts.{record_numbers}
use Rattle.table.specs.declared.Table.{Table}
use Rattle.verdict.specs.Numbers.{by, OneOf}
use Rattle.verdict.proofs.Numbers.{one_of_more, one_of_other}
use Rattle.verdict.proofs.Rules.{or_else_left}
use Rattle.verdict.specs.Rules.{number_of, Refusal}

abbrev load_numbers : List ℕ
load_numbers = 3 ∷ 4 ∷ 5 ∷ 6 ∷ 7 ∷ 13 ∷ 14 ∷ 15 ∷ 18 ∷ file_numbers

pub load_refusals : (t : Table) (x : Source) (s : State) → OneOf file_numbers (source_verdict x) → OneOf load_numbers (load_verdict t x s)
load_refusals t x s n = load_says t x s (by refl) (by refl) (one_of_more (record_numbers t) refl) (one_of_more n refl) (by refl)

-- files that differ in unused bits alone
alike : (f g : List ℕ) → cleared f ≡ cleared g → SameSource (from_file f) (from_file g)
alike f g e = let i = same_image f g e in record { verdict = i.verdict; width = i.width; height = i.height; parts = ap (λ (h : ℕ). h ∷ []) i.height; pixels = i.pixels }

zeros : (out : List ℕ) (s : State) (m : ℕ) (after : List ℕ) → answer_of (collect out) s ≡ collected (Ok m) after
    → (i : ℕ) → i < s.job.strip.parts → unused_zero (take (length (part_file s i)) (drop (part_start s i) (take m after))) ≡ true
unfolding answer_of collecting.collect_written collecting.collect_output collecting.collected
zeros out s m after q i l =
    let (ok, bytes) = by_answer (collecting.collect_verdict (length out) s) (collecting.collected s) out q in
    let ready = accepted_ready s (or_else_left (ready_verdict s) _ (rw (collect_split (length out) s) at ok)) in
    let good = ready_parts ready in
    let hs = heights_of s.job.strip in
    let listed = subst (λ (w : ℕ). Listed w hs) (sym good.width) (shape_listed good.shape) in
    let place : i < length hs = omega (arith, shape_count good.shape) in
    rw (bytes, part_file_lem s.job.width hs (image s) i place)
    (image_round_trip.written_zero _ _ _ (part_good listed (image s) (good_rows good (image s) (ready_image ready).sized) (ready_image ready).binary i place))

never : (t : Table) (f : List ℕ) (s : State) (r : Refusal) → refusal_of (answer_of (load t (from_file f)) s) ≡ Err r → number_of r ≢ 12
unfolding answer_of
never t f s r q = one_of_other (load_refusals t (from_file f) s (file_numbers_lem f)) refl q

pub job_padding : JobPadding
job_padding = record {
  answer = λ t f g e. same_answer (alike f g e) t;
  course = λ t f g e. same_course (alike f g e) t;
  never_12 = never;
  collected_zero = zeros;
}
