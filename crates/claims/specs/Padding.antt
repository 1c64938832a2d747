-- 02, T-02: the unused bits of an image file are ignored, never refused, and written as 0. (What a file returns as: Files.)
--     ignored_answer, ignored_area, never_12             the reader
--     load_ignored, load_course, load_never_12           load
--     collected_zero                                     collect
-- Assumes nothing.
use Rattle.std.specs.Prelude.{true, List, ◌≢◌, ◌≡◌, ℕ, ◌<◌, length, take, drop, Ok, Err}
use Rattle.history.proofs.Padding.{job_padding}
use Rattle.history.specs.Call.{load, collect, collected, answer_of, refusal_of}
use Rattle.history.specs.Lists.{Course, step}
use Rattle.history.specs.Padding.{part_file, part_start}
use Rattle.history.specs.Source.{from_file}
use Rattle.history.specs.State.{State}
use Rattle.image.proofs.Ignored.{padding_ignored}
use Rattle.image.specs.File.{image_verdict, image_read, image_area}
use Rattle.image.specs.Padding.{unused_zero, cleared}
use Rattle.table.specs.declared.Table.{Table}
use Rattle.verdict.specs.Rules.{number_of, Refusal}

-- files that differ in unused bits alone: the same answer, refusals too, and the same area afterwards
module _ (f g : List ℕ) (alike : cleared f ≡ cleared g) where
  pub ignored_answer : (n : ℕ) → image_read f n ≡ image_read g n
  ignored_answer = padding_ignored.answer f g alike

  pub ignored_area : (area : List ℕ) → image_area f area ≡ image_area g area
  ignored_area = padding_ignored.area f g alike

  -- and from a load of either on, record, areas and history are the same
  module _ (t : Table) where
    pub load_ignored : (s : State) → answer_of (load t (from_file f)) s ≡ answer_of (load t (from_file g)) s
    load_ignored = job_padding.answer t f g alike

    pub load_course : (w : Course) → step (load t (from_file f)) w ≡ step (load t (from_file g)) w
    load_course = job_padding.course t f g alike

-- 12 never comes from a file
pub never_12 : (f : List ℕ) (n : ℕ) (r : Refusal) → image_verdict f n ≡ Err r → number_of r ≢ 12
never_12 = padding_ignored.never_12

pub load_never_12 : (t : Table) (f : List ℕ) (s : State) (r : Refusal) → refusal_of (answer_of (load t (from_file f)) s) ≡ Err r → number_of r ≢ 12
load_never_12 = job_padding.never_12

-- what an accepted collect leaves at the front of its output: the file of each part
pub collected_zero : (out : List ℕ) (s : State) (m : ℕ) (after : List ℕ) → answer_of (collect out) s ≡ collected (Ok m) after
    → (i : ℕ) → i < s.job.strip.parts → unused_zero (take (length (part_file s i)) (drop (part_start s i) (take m after))) ≡ true
collected_zero = job_padding.collected_zero
