-- 02, T-12: three files in place of one.
--     Three                            three images of one size, and three more
--     two_of_three, is_image           the majority of three images
--     exchanged, rest_exchanged        colours exchanged in all three exchange it, and what it rests as
--     ordered, rest_ordered            pixels blackened in any of the three whiten none of it, and none of what it rests as
--     load_order                       what a load of three files is refused by, in its order
--     as_one_answer, as_one_course     to the demands and the book the majority is the image of the load
--     same_answer, same_course         three times one file is that file
--     ignored_answer, ignored_course, load_never_12   unused bits are ignored, and 12 never comes (T-02)
--     entry, job_exchanged, job_ordered     jobs that were loaded from three files
--     bad_threes_computed                       02's sentences on refusals, computed
-- Assumes nothing.
use Rattle.std.specs.Prelude.{true, not, ◌&&◌, ◌||◌, List, [], ◌∷◌, ◌↔◌, ◌⊎◌, ◌≢◌, ◌≡◌, ℕ, ◌+◌, ◌*◌, ◌≤◌, ◌<◌, eqb, ltb, length, get_or, Ok, Err}
use Rattle.verdict.specs.declared.Rule.TheVariants as why
use Rattle.history.proofs.Majority.{job_majority}
use Rattle.history.specs.Call.{Call, load, answer_of, refusal_of}
use Rattle.history.specs.Cases.{empty_with, bad_threes, parts, threes_met}
use Rattle.history.specs.History.{Entry, holds, entered}
use Rattle.history.specs.Lists.{Course, start, step, play}
use Rattle.history.specs.Load.{load_verdict}
use Rattle.history.specs.Majority.{FromThree}
use Rattle.history.specs.Source.{from_file, from_three}
use Rattle.history.specs.State.{State, unsound}
use Rattle.history.specs.View.{view_of}
use Rattle.image.specs.File.{image_of, file_verdict, image_bytes}
use Rattle.image.specs.Header.{width_of, height_of}
use Rattle.image.specs.Majority.{majority_of, three_verdict}
use Rattle.image.specs.Padding.{cleared}
use Rattle.operator.proofs.Majority.{all_majority, all_majority_rest}
use Rattle.operator.specs.Image.{IsImage, exchange}
use Rattle.operator.specs.Rest.{rested}
use Rattle.operator.specs.Samples.{ring}
use Rattle.seq.specs.Lists.{all, same_list}
use Rattle.table.specs.declared.Table.{Table}
use Rattle.table.specs.Record.{zero_table, record_verdict}
use Rattle.verdict.specs.Answers.{said}
use Rattle.verdict.specs.Rules.{refuse_if, judge, number_of, Refusal}

pub record Three (w h : ℕ) (a b c : List ℕ) : Type 0 where
  pub first : IsImage w h a
  pub second : IsImage w h b
  pub third : IsImage w h c

module _ (w h : ℕ) (a b c : List ℕ) (i : Three w h a b c) where
  -- a pixel is black when at least two have it black
  pub two_of_three : (k : ℕ) → k < w * h → (get_or (majority_of a b c) k 0 ≡ 1) ↔ (2 ≤ get_or a k 0 + get_or b k 0 + get_or c k 0)
  two_of_three = (all_majority w h).black a b c i.first i.second i.third

  pub is_image : IsImage w h (majority_of a b c)
  is_image = (all_majority w h).image a b c i.first i.second i.third

  pub exchanged : majority_of (exchange a) (exchange b) (exchange c) ≡ exchange (majority_of a b c)
  exchanged = (all_majority w h).exchanged a b c i.first i.second i.third

  -- what it rests as
  pub rest_exchanged : (t : Table) → record_verdict t ≡ Ok tt
      → rested t w h (majority_of (exchange a) (exchange b) (exchange c)) ≡ exchange (rested t w h (majority_of a b c))
  rest_exchanged t ok = (all_majority_rest t w h ok).exchanged a b c i.first i.second i.third

  -- more black in any of the three
  module _ (a' b' c' : List ℕ) (i' : Three w h a' b' c') (p : (k : ℕ) → k < length a → get_or a k 0 ≤ get_or a' k 0)
      (q : (k : ℕ) → k < length b → get_or b k 0 ≤ get_or b' k 0) (r : (k : ℕ) → k < length c → get_or c k 0 ≤ get_or c' k 0) where
    pub ordered : (k : ℕ) → k < length (majority_of a b c) → get_or (majority_of a b c) k 0 ≤ get_or (majority_of a' b' c') k 0
    ordered = (all_majority w h).ordered a b c a' b' c' i.first i.second i.third i'.first i'.second i'.third p q r

    pub rest_ordered : (t : Table) → record_verdict t ≡ Ok tt → (k : ℕ) → k < length (rested t w h (majority_of a b c))
        → get_or (rested t w h (majority_of a b c)) k 0 ≤ get_or (rested t w h (majority_of a' b' c')) k 0
    rest_ordered t ok =
        (all_majority_rest t w h ok).ordered a b c a' b' c' i.first i.second i.third i'.first i'.second i'.third p q r

module _ (t : Table) (f g h : List ℕ) where
  -- 14, 15, table, the files one after the other, 26 at 2, 26 at 3, 13 where either area is below width × height
  pub load_order : (s : State)
      → load_verdict t (from_three f g h) s
      ≡ judge (
      refuse_if (unsound s) why.Unsound 0
      ∷ refuse_if (not (eqb s.job.stage 0)) why.NotCollected 0
      ∷ record_verdict t
      ∷ file_verdict f
      ∷ file_verdict g
      ∷ file_verdict h
      ∷ refuse_if (not (eqb (width_of g) (width_of f) && eqb (height_of g) (height_of f))) why.SizesDiffer 2
      ∷ refuse_if (not (eqb (width_of h) (width_of f) && eqb (height_of h) (height_of f))) why.SizesDiffer 3
      ∷ refuse_if (ltb (length s.first) (width_of f * height_of f) || ltb (length s.second) (width_of f * height_of f)) why.AreaShort 0
      ∷ []
      )
  load_order = job_majority.order t f g h

  -- a file of the majority gives the same answer, and the same record, areas, history and tally
  module _ (good : three_verdict f g h ≡ Ok tt) where
    abbrev whole : List ℕ
    whole = image_bytes (width_of f) (height_of f) (majority_of (image_of f) (image_of g) (image_of h))

    pub as_one_answer : (s : State) → answer_of (load t (from_three f g h)) s ≡ answer_of (load t (from_file whole)) s
    as_one_answer = job_majority.answer t f g h good

    pub as_one_course : (w : Course) → step (load t (from_three f g h)) w ≡ step (load t (from_file whole)) w
    as_one_course = job_majority.course t f g h good

    pub entry : FromThree (entered t (from_three f g h)) f g h
    entry = job_majority.entry t f g h good

  pub load_never_12 : (s : State) (r : Refusal) → refusal_of (answer_of (load t (from_three f g h)) s) ≡ Err r → number_of r ≢ 12
  load_never_12 = job_majority.never_12 t f g h

  -- files that differ in unused bits alone
  module _ (f' g' h' : List ℕ) (p : cleared f ≡ cleared f') (q : cleared g ≡ cleared g') (r : cleared h ≡ cleared h') where
    pub ignored_answer : (s : State) → answer_of (load t (from_three f g h)) s ≡ answer_of (load t (from_three f' g' h')) s
    ignored_answer = job_majority.ignored_answer t f g h f' g' h' p q r

    pub ignored_course : (w : Course) → step (load t (from_three f g h)) w ≡ step (load t (from_three f' g' h')) w
    ignored_course = job_majority.ignored_course t f g h f' g' h' p q r

pub same_answer : (t : Table) (f : List ℕ) (s : State) → answer_of (load t (from_three f f f)) s ≡ answer_of (load t (from_file f)) s
same_answer = job_majority.same_answer

pub same_course : (t : Table) (f : List ℕ) (w : Course) → step (load t (from_three f f f)) w ≡ step (load t (from_file f)) w
same_course = job_majority.same_course

-- two jobs with one table, loaded from three files each, after equally many accepted passes since their loads, or both settled
module _ (cs cs' : List Call) (a b a' b' : List ℕ) (e e' : Entry) (held : (play cs (start a b)).history ≡ holds e)
    (held' : (play cs' (start a' b')).history ≡ holds e') (t : e.table ≡ e'.table) (w : e.width ≡ e'.width) (l : e.height ≡ e'.height)
    (k : ((play cs (start a b)).tally ≡ (play cs' (start a' b')).tally) ⊎ ((e.settled ≡ true) × (e'.settled ≡ true)))
    (f g h f' g' h' : List ℕ) (x : FromThree e f g h) (x' : FromThree e' f' g' h') where
  pub job_exchanged : image_of f' ≡ exchange (image_of f) → image_of g' ≡ exchange (image_of g) → image_of h' ≡ exchange (image_of h)
      → view_of (play cs' (start a' b')).state ≡ exchange (view_of (play cs (start a b)).state)
  job_exchanged =
      job_majority.exchanged cs cs' a b a' b' e e' (record { here = held; there = held'; table = t; width = w; height = l; together = k }) f g h f' g' h' x x'

  pub job_ordered : ((i : ℕ) → i < length (image_of f) → get_or (image_of f) i 0 ≤ get_or (image_of f') i 0)
      → ((i : ℕ) → i < length (image_of g) → get_or (image_of g) i 0 ≤ get_or (image_of g') i 0)
      → ((i : ℕ) → i < length (image_of h) → get_or (image_of h) i 0 ≤ get_or (image_of h') i 0)
      → (i : ℕ) → i < length (view_of (play cs (start a b)).state)
      → get_or (view_of (play cs (start a b)).state) i 0 ≤ get_or (view_of (play cs' (start a' b')).state) i 0
  job_ordered =
      job_majority.ordered cs cs' a b a' b' e e' (record { here = held; there = held'; table = t; width = w; height = l; together = k }) f g h f' g' h' x x'

pub bad_threes_computed : all (λ c. same_list (parts (said (refusal_of (answer_of (load ring c.0) (empty_with zero_table))))) (parts c.1)) bad_threes ≡ true
bad_threes_computed = threes_met
