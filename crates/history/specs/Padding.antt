-- Unused bits of image files, and jobs (02, T-02): load ignores them, and collect writes zeros.
--     part_file s i, part_start s i     the file of part i, and where it starts in what collect writes
--     JobPadding     the claim, over every record (made by whomever) and over lists of calls
-- Assumes nothing.
use Rattle.std.specs.Prelude.{true, List, ◌≢◌, ◌≡◌, ℕ, ◌<◌, length, take, drop, Ok, Err}
use Rattle.history.specs.Call.{load, collect, collected, answer_of, refusal_of}
use Rattle.history.specs.Lists.{Course, step}
use Rattle.history.specs.Source.{from_file}
use Rattle.history.specs.State.{State, image}
use Rattle.image.specs.Padding.{unused_zero, cleared}
use Rattle.image.specs.Strip.{heights_of, start_of, file_of}
use Rattle.table.specs.declared.Table.{Table}
use Rattle.verdict.specs.Rules.{number_of, Refusal}

abbrev pub part_file : State → ℕ → List ℕ
part_file s = file_of s.job.width (heights_of s.job.strip) (image s)

abbrev pub part_start : State → ℕ → ℕ
part_start s = start_of s.job.width (heights_of s.job.strip) (image s)

pub record JobPadding : Type 0 where
  -- files that differ in unused bits alone: load gives the same answer, and record, areas and history are the same afterwards
  pub answer : (t : Table) (f g : List ℕ) → cleared f ≡ cleared g → (s : State)
      → answer_of (load t (from_file f)) s ≡ answer_of (load t (from_file g)) s
  pub course : (t : Table) (f g : List ℕ) → cleared f ≡ cleared g → (w : Course) → step (load t (from_file f)) w ≡ step (load t (from_file g)) w
  -- 12 never comes from a file that is loaded
  pub never_12 : (t : Table) (f : List ℕ) (s : State) (r : Refusal) → refusal_of (answer_of (load t (from_file f)) s) ≡ Err r → number_of r ≢ 12
  -- a file that collect writes has zeros there, whatever was loaded: of each part
  pub collected_zero : (out : List ℕ) (s : State) (m : ℕ) (after : List ℕ) → answer_of (collect out) s ≡ collected (Ok m) after
      → (i : ℕ) → i < s.job.strip.parts → unused_zero (take (length (part_file s i)) (drop (part_start s i) (take m after))) ≡ true
