-- Three files in place of one: the proof of specs/Majority.
--     as_one, as_same, as_alike     sources that have verdict, size and pixels in common
--     job_majority                  the claim
-- Assumes nothing.
use Rattle.std.specs.Prelude.{Ok, Err}
use mathlib.Core.Bool.{false}
use mathlib.Core.List.{List, [], ◌∷◌}
use mathlib.Core.Logic.{◌≢◌}
use mathlib.Core.Path.{◌≡◌, refl, sym, ap, ◌∙◌}
use Prim.Native.Nat.{ℕ}
use borrow.Author.Tests.{eq-eqb}
use lib.ListN.{length}
use Rattle.history.specs.Call.{load, answer_of, refusal_of}
use Rattle.history.specs.History.{Entry, entered}
use Rattle.history.specs.Lists.{first_of}
use Rattle.history.specs.Load.{areas_rule, admit_rules, load_verdict}
use Rattle.history.specs.Majority.{majority_file, FromThree, JobMajority}
use Rattle.history.specs.Source.{from_file, from_three}
use Rattle.history.specs.State.{State}
use Rattle.verdict.specs.declared.Rule.TheVariants as why
use Rattle.history.proofs.Demand3.{demand_3}
use Rattle.history.proofs.Images.{image_writable}
use Rattle.history.proofs.Padding.{load_refusals}
use Rattle.history.proofs.SameSource.{SameSource, same_answer, same_course}
use Rattle.history.proofs.Sources.{three_images, source_image, three_numbers}
use Rattle.image.proofs.Facts.{accepted_file, image_binary}
use Rattle.image.proofs.Ignored.{same_image}
use Rattle.image.proofs.RoundTrip.{image_round_trip}
use Rattle.image.proofs.ThreeFiles.{majority_same, three_good}
use Rattle.image.specs.File.{image_of, file_verdict}
use Rattle.image.specs.Header.{width_of, height_of}
use Rattle.image.specs.Majority.{size_differs, three_rules, three_verdict}
use Rattle.image.specs.Padding.{cleared}
use Rattle.operator.proofs.Majority.{majority_exchanged, majority_ordered}
use Rattle.operator.specs.Image.{exchange, Below}
use Rattle.table.specs.declared.Table.{Table}
use Rattle.verdict.specs.Rules.{refuse_if, judge, Verdict, number_of, Refusal}
use Rattle.verdict.proofs.Numbers.{one_of_other}
use Rattle.verdict.proofs.Rules.{judge_within}

-- the parts of a single image
abbrev one_part : ℕ → List ℕ
one_part h = h ∷ []

-- the file of the majority is accepted, and gives it back
as_one : (f g h : List ℕ) → three_verdict f g h ≡ Ok tt → SameSource (from_three f g h) (from_file (majority_file f g h))
as_one f g h e =
    let whole = source_image (from_three f g h) e in
    let back = image_round_trip.image_back (width_of f) (height_of f) _ (image_writable (accepted_file f (three_good f g h e).first).sized whole) in
    record { verdict = e ∙ sym back.accepted; width = sym back.width; height = sym back.height; parts = ap one_part (sym back.height); pixels = sym back.pixels }

same_verdict : (f : List ℕ) → three_verdict f f f ≡ file_verdict f
unfolding three_verdict
same_verdict f = by (file_verdict f)
  where
    -- a file has its own size
    own : size_differs f f ≡ false
    own = rw (eq-eqb (width_of f) (width_of f) refl, eq-eqb (height_of f) (height_of f) refl)

    by : (v : Verdict) → judge (v ∷ v ∷ v ∷ refuse_if (size_differs f f) why.SizesDiffer 2 ∷ refuse_if (size_differs f f) why.SizesDiffer 3 ∷ []) ≡ v
    by (Ok _) = rw own
    by (Err r) = refl

as_same : (f : List ℕ) → SameSource (from_three f f f) (from_file f)
as_same f = record { verdict = same_verdict f; width = refl; height = refl; parts = refl; pixels = majority_same (image_of f) (image_binary f) }

as_alike : (f g h f' g' h' : List ℕ) → cleared f ≡ cleared f' → cleared g ≡ cleared g' → cleared h ≡ cleared h'
    → SameSource (from_three f g h) (from_three f' g' h')
unfolding three_verdict
as_alike f g h f' g' h' p q r =
    let x = same_image f f' p in
    let y = same_image g g' q in
    let z = same_image h h' r in
    record {
      verdict = rw (x.verdict, y.verdict, z.verdict, x.width, x.height, y.width, y.height, z.width, z.height);
      width = x.width;
      height = x.height;
      parts = ap one_part x.height;
      pixels = rw (x.pixels, y.pixels, z.pixels);
    }

module _ {e e' : Entry} {f g h f' g' h' : List ℕ} (x : FromThree e f g h) (x' : FromThree e' f' g' h') where
  first_exchanged : image_of f' ≡ exchange (image_of f) → image_of g' ≡ exchange (image_of g) → image_of h' ≡ exchange (image_of h)
      → first_of e' ≡ exchange (first_of e)
  first_exchanged p q r =
      let i = three_images f g h x.accepted in
      rw (x.first, x'.first, p, q, r) (majority_exchanged i.first i.second i.third)

  first_ordered : e.width ≡ e'.width → e.height ≡ e'.height → Below (image_of f) (image_of f') → Below (image_of g) (image_of g')
      → Below (image_of h) (image_of h') → Below (first_of e) (first_of e')
  first_ordered w l p q r =
      let i = three_images f g h x.accepted in
      let j = three_images f' g' h' x'.accepted in
      let wide : width_of f' ≡ width_of f = sym x'.width ∙ sym w ∙ x.width in
      let high : height_of f' ≡ height_of f = sym x'.height ∙ sym l ∙ x.height in
      rw (x.first, x'.first)
      (majority_ordered i.first i.second i.third (rw (wide, high) at j.first) (rw (wide, high) at j.second) (rw (wide, high) at j.third) p q r)

never : (t : Table) (f g h : List ℕ) (s : State) (r : Refusal) → refusal_of (answer_of (load t (from_three f g h)) s) ≡ Err r → number_of r ≢ 12
unfolding answer_of
never t f g h s r q = one_of_other (load_refusals t (from_three f g h) s (three_numbers f g h)) refl q

entry : (t : Table) (f g h : List ℕ) → three_verdict f g h ≡ Ok tt → FromThree (entered t (from_three f g h)) f g h
unfolding entered
entry t f g h e = record { accepted = e; width = refl; height = refl; first = refl }

pub job_majority : JobMajority
unfolding load_verdict three_verdict
job_majority = record {
  order = λ t f g h s. judge_within (admit_rules t s) (three_rules f g h) (areas_rule (from_three f g h) (length s.first) (length s.second) ∷ []);
  answer = λ t f g h e. same_answer (as_one f g h e) t;
  course = λ t f g h e. same_course (as_one f g h e) t;
  same_answer = λ t f. same_answer (as_same f) t;
  same_course = λ t f. same_course (as_same f) t;
  ignored_answer = λ t f g h f' g' h' p q r. same_answer (as_alike f g h f' g' h' p q r) t;
  ignored_course = λ t f g h f' g' h' p q r. same_course (as_alike f g h f' g' h' p q r) t;
  never_12 = never;
  entry = entry;
  exchanged = λ cs cs' a b a' b' e e' twins f g h f' g' h' x x' p q r. demand_3.exchanged cs cs' a b a' b' e e' twins (first_exchanged x x' p q r);
  ordered = λ cs cs' a b a' b' e e' twins f g h f' g' h' x x' p q r.
      demand_3.ordered cs cs' a b a' b' e e' twins (first_ordered x x' twins.width twins.height p q r);
}
