-- 14 in words of the record (01, Refused because of the state), and a record that a pass may begin with.
--     Inconsistent s     what 14 asks at stage 1 and 2: one of its conditions holds
--     Unsound s          14, without its pass clause
--     Overruns s         14's pass clause: a changing pass that would take passes, or added + removed, above pixels
--     Ready s            a sound record at stage 1 or 2: none of 14's conditions holds
-- Assumes nothing.
use Rattle.std.specs.Prelude.{false, ◌⊎◌, ◌≢◌, ◌≡◌, ℕ, ◌+◌, ◌≤◌, ◌<◌, ltb, length, drop, Ok}
use mathlib.Core.List.{List, Memᴰ}
use Rattle.history.specs.Pass.{next_image, now_added, now_removed}
use Rattle.history.specs.State.{State, fields_of, part_fields, pixels, bad_parts, image}
use Rattle.image.specs.Strip.{padded, strip_width, strip_height, shape_verdict}
use Rattle.seq.specs.Lists.{any, sum_of}
use Rattle.table.specs.Record.{record_verdict}

pub data Inconsistent (s : State) : Type 0 where
  -- 23, or 10 for one of the parts
  bad_shape : shape_verdict s.job.strip ≢ Ok tt → Inconsistent s
  other_width : s.job.width ≢ strip_width s.job.strip → Inconsistent s
  other_height : s.job.height ≢ strip_height s.job.strip → Inconsistent s
  -- a place past the parts: of the widths, the heights, the added or the removed
  past_the_parts : (xs : List ℕ) → Memᴰ xs (part_fields s.job) → (v : ℕ) → Memᴰ v (drop s.job.strip.parts xs) → v ≢ 0 → Inconsistent s
  other_added : s.job.added ≢ sum_of (padded s.job.counts.added) → Inconsistent s
  other_removed : s.job.removed ≢ sum_of (padded s.job.counts.removed) → Inconsistent s
  bad_table : record_verdict s.job.table ≢ Ok tt → Inconsistent s
  first_short : length s.first < pixels s.job → Inconsistent s
  second_short : length s.second < pixels s.job → Inconsistent s
  -- a present pixel above 1
  above_one : (v : ℕ) → Memᴰ v (image s) → 1 < v → Inconsistent s
  many_passes : pixels s.job < s.job.passes → Inconsistent s
  many_changes : pixels s.job < s.job.added + s.job.removed → Inconsistent s

pub data Unsound (s : State) : Type 0 where
  stage_above : 2 < s.job.stage → Unsound s
  -- stage 0 with a nonzero field
  field_set : s.job.stage ≡ 0 → (v : ℕ) → Memᴰ v (fields_of s.job) → v ≢ 0 → Unsound s
  -- else
  held_wrong : s.job.stage ≢ 0 → s.job.stage ≤ 2 → Inconsistent s → Unsound s

pub record Overruns (s : State) : Type 0 where
  pub sound : Unsound s → ⊥
  pub loaded : s.job.stage ≡ 1
  pub changes : next_image s ≢ image s
  pub above : (pixels s.job < s.job.passes + 1) ⊎ (pixels s.job < now_added s + now_removed s)

pub record Ready (s : State) : Type 0 where
  pub begun : 1 ≤ s.job.stage
  pub staged : s.job.stage ≤ 2
  pub parts : bad_parts s.job ≡ false
  pub table : record_verdict s.job.table ≡ Ok tt
  pub first : pixels s.job ≤ length s.first
  pub second : pixels s.job ≤ length s.second
  pub binary : any (ltb 1) (image s) ≡ false
  pub passes : s.job.passes ≤ pixels s.job
  pub counts : s.job.added + s.job.removed ≤ pixels s.job
