-- Three files in place of one (02, T-12): to the demands and the book their majority is the image of the load.
--     majority_file f g h      the file of the majority
--     FromThree e f g h       the entry's first image is the majority of three accepted files
--     JobMajority             the claim, over every record (made by whomever) and over lists of calls
-- Assumes nothing.
use Rattle.std.specs.Prelude.{not, List, [], ◌∷◌, ◌≢◌, ◌≡◌, ℕ, eqb, length, Ok, Err}
use Rattle.history.specs.Call.{Call, load, answer_of, refusal_of}
use Rattle.history.specs.Demand3.{Twins, played}
use Rattle.history.specs.History.{Entry, entered}
use Rattle.history.specs.Lists.{Course, step, first_of}
use Rattle.history.specs.Load.{areas_rule, load_verdict}
use Rattle.history.specs.Source.{from_file, from_three}
use Rattle.history.specs.State.{State, sound_rule}
use Rattle.history.specs.View.{view_of}
use Rattle.image.specs.File.{image_of, file_verdict, image_bytes}
use Rattle.image.specs.Header.{width_of, height_of}
use Rattle.image.specs.Majority.{majority_of, size_differs, three_verdict}
use Rattle.image.specs.Padding.{cleared}
use Rattle.operator.specs.Image.{exchange, Below}
use Rattle.table.specs.declared.Table.{Table}
use Rattle.table.specs.Record.{record_verdict}
use Rattle.verdict.specs.Rules.{refuse_if, judge, number_of, Refusal}
use Rattle.verdict.specs.declared.Rule.TheVariants as why

abbrev pub majority_file : List ℕ → List ℕ → List ℕ → List ℕ
majority_file f g h = image_bytes (width_of f) (height_of f) (majority_of (image_of f) (image_of g) (image_of h))

pub record FromThree (e : Entry) (f g h : List ℕ) : Type 0 where
  pub accepted : three_verdict f g h ≡ Ok tt
  pub width : e.width ≡ width_of f
  pub height : e.height ≡ height_of f
  pub first : first_of e ≡ majority_of (image_of f) (image_of g) (image_of h)

pub record JobMajority : Type 0 where
  -- what a load of three files is refused by, in its order
  pub order : (t : Table) (f g h : List ℕ) (s : State)
      → load_verdict t (from_three f g h) s
      ≡ judge (
      sound_rule s
      ∷ refuse_if (not (eqb s.job.stage 0)) why.NotCollected 0
      ∷ record_verdict t
      ∷ file_verdict f
      ∷ file_verdict g
      ∷ file_verdict h
      ∷ refuse_if (size_differs g f) why.SizesDiffer 2
      ∷ refuse_if (size_differs h f) why.SizesDiffer 3
      ∷ areas_rule (from_three f g h) (length s.first) (length s.second)
      ∷ []
      )
  -- a load of three accepted files is a load of their majority's file: the same answer, and the same record, areas, history and tally
  pub answer : (t : Table) (f g h : List ℕ) → three_verdict f g h ≡ Ok tt → (s : State)
      → answer_of (load t (from_three f g h)) s ≡ answer_of (load t (from_file (majority_file f g h))) s
  pub course : (t : Table) (f g h : List ℕ) → three_verdict f g h ≡ Ok tt → (w : Course)
      → step (load t (from_three f g h)) w ≡ step (load t (from_file (majority_file f g h))) w
  -- three times one file, accepted or not, is that file
  pub same_answer : (t : Table) (f : List ℕ) (s : State) → answer_of (load t (from_three f f f)) s ≡ answer_of (load t (from_file f)) s
  pub same_course : (t : Table) (f : List ℕ) (w : Course) → step (load t (from_three f f f)) w ≡ step (load t (from_file f)) w
  -- unused bits are ignored in each, and 12 never comes from them (02, T-02)
  pub ignored_answer : (t : Table) (f g h f' g' h' : List ℕ) → cleared f ≡ cleared f' → cleared g ≡ cleared g' → cleared h ≡ cleared h' → (s : State)
      → answer_of (load t (from_three f g h)) s ≡ answer_of (load t (from_three f' g' h')) s
  pub ignored_course : (t : Table) (f g h f' g' h' : List ℕ) → cleared f ≡ cleared f' → cleared g ≡ cleared g' → cleared h ≡ cleared h' → (w : Course)
      → step (load t (from_three f g h)) w ≡ step (load t (from_three f' g' h')) w
  pub never_12 : (t : Table) (f g h : List ℕ) (s : State) (r : Refusal) → refusal_of (answer_of (load t (from_three f g h)) s) ≡ Err r → number_of r ≢ 12
  -- an accepted load enters it as the first image
  pub entry : (t : Table) (f g h : List ℕ) → three_verdict f g h ≡ Ok tt → FromThree (entered t (from_three f g h)) f g h
  -- two jobs with one table, one size and equally many accepted passes, or both settled: colours exchanged in all three
  pub exchanged : (cs cs' : List Call) (a b a' b' : List ℕ) (e e' : Entry) → Twins (played cs a b) (played cs' a' b') e e'
      → (f g h f' g' h' : List ℕ) → FromThree e f g h → FromThree e' f' g' h'
      → image_of f' ≡ exchange (image_of f) → image_of g' ≡ exchange (image_of g) → image_of h' ≡ exchange (image_of h)
      → view_of (played cs' a' b').state ≡ exchange (view_of (played cs a b).state)
  -- and pixels blackened in any of them
  pub ordered : (cs cs' : List Call) (a b a' b' : List ℕ) (e e' : Entry) → Twins (played cs a b) (played cs' a' b') e e'
      → (f g h f' g' h' : List ℕ) → FromThree e f g h → FromThree e' f' g' h'
      → Below (image_of f) (image_of f') → Below (image_of g) (image_of g') → Below (image_of h) (image_of h')
      → Below (view_of (played cs a b).state) (view_of (played cs' a' b').state)
