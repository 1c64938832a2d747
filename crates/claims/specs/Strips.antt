-- 02, T-08: a whole road as one strip.
--     load_order                         what a load of a strip is refused by, in its order
--     single_record, strip_record        the record of a load: a single image has one part; a strip its own, and zeros past them
--     bad_shape, other_width, other_height, past_the_parts, other_added, other_removed     14 of a record's parts, one condition after the other
--     parts, rows, part_added, part_removed, added_sum, removed_sum     after every list: the parts, and what each gained and lost
--     collected_files, file_stands, file_back     collect writes the parts' files one after another, and each reads back as its part
--     relaid_accepted, relaid_view, relaid_counts, relaid_answers     the parts laid end to end again stay as they are
--     alone                              a strip beside its part cleaned alone (T-09)
--     bad_strips_computed, bad_parts_computed              refused strips, and records whose parts are wrong, computed
--     seam_counts, seam_files_computed            a strip whose one black pixel stands beside the seam, computed: its parts' counts, and its files
-- Assumes nothing.
use Rattle.std.specs.Prelude.{true, false, not, ◌||◌, ◌⊎◌, ◌≢◌, ◌≡◌, refl, ℕ, suc, ◌+◌, ◌*◌, ◌/◌, ◌≤◌, ◌<◌, eqb, length, get_or, take, drop, replicate, Ok, Err}
use mathlib.Core.List.{List, [], ◌∷◌, ◌++◌, map, Memᴰ}
use Rattle.verdict.specs.declared.Rule.TheVariants as why
use Rattle.std.proofs.Common.{sym, ◌∙◌}
use Rattle.std.proofs.Math.Path.{ap}
use Rattle.std.proofs.Math.Dec.{ltb}
use Rattle.claims.specs.Demand3.{course, state}
use Rattle.history.proofs.Demand1.{demand_1}
use Rattle.history.proofs.Demand3.{demand_3}
use Rattle.history.specs.Call.{Call, load, pass, run, collect, passed, collected, answer_of, refusal_of}
use Rattle.history.specs.Cases as cases
use Rattle.history.specs.Cases.{empty_with, white, bad_strips, strips_met, part_job, sound_strip, sound_counts, bad_part_jobs, parts_unsound_met, seam_ran, seam_files, part_counts_met, part_files_met}
use Rattle.history.specs.Collect as collecting
use Rattle.history.specs.declared.Effect.TheVariants.{Stable}
use Rattle.history.specs.Demand1.{quota_rule, unsound}
use Rattle.history.specs.History.{Entry, holds}
use Rattle.history.specs.Lists.{Course, step, play, uncollected, first_of, over_steps}
use Rattle.history.specs.Load.{admit_rules, load_verdict, loaded_job, load_state}
use Rattle.history.specs.Sound as wrong
use Rattle.history.specs.Sound.{Inconsistent, held_wrong}
use Rattle.history.specs.Source.{from_file, from_strip}
use Rattle.history.specs.State as rules
use Rattle.history.specs.State.{State, sound_rule, image}
use Rattle.history.specs.View.{view_of}
use Rattle.image.specs.declared.strip.Strip.{Strip}
use Rattle.image.specs.File.{file_verdict, image_of, image_bytes, bytes_rules, bytes_verdict}
use Rattle.image.specs.Header.{width_of, height_of}
use Rattle.image.specs.Parts.{above, part_of}
use Rattle.image.specs.Size.{within, bad_size}
use Rattle.image.specs.Strip.{padded, shape_rules, shape_verdict, strip_verdict, strip_bytes, strip_of, no_counts}
use Rattle.operator.specs.Image.{pixel, added, removed}
use Rattle.operator.specs.Samples.{ring}
use Rattle.seq.specs.Lists.{all, sum_of, same_list}
use Rattle.seq.specs.Tab.{first}
use Rattle.table.specs.declared.Table.{Table}
use Rattle.table.specs.Record.{zero_table, record_verdict}
use Rattle.verdict.proofs.Rules.{judge_append, judge_within}
use Rattle.verdict.specs.Answers.{said}
use Rattle.verdict.specs.Rules.{refusal, refuse_if, refuse_at, judge, Verdict}

module _ (t : Table) (p : Strip) (px : List ℕ) (s : State) where
  abbrev w : ℕ
  w = get_or p.widths 0 0

  abbrev h : ℕ
  h = sum_of (take p.parts p.heights)

  pub load_order : load_verdict t (from_strip p px) s
      ≡ judge (
      sound_rule s
      ∷ refuse_if (not (eqb s.job.stage 0)) why.NotCollected 0
      ∷ record_verdict t
      ∷ refuse_if (not (within 16 p.parts)) why.Parts 0
      ∷ refuse_at (first (λ i. bad_size (get_or p.widths i 0) (get_or p.heights i 0)) p.parts) why.SizeRange suc
      ∷ refuse_at (first (λ i. not (eqb (get_or p.widths i 0) w)) p.parts) why.Parts suc
      ∷ refuse_if (not (eqb (length px) (w * h))) why.RasterLength 0
      ∷ refuse_at (first (λ i. ltb 1 (get_or px i 0)) (w * h)) why.PixelValue (λ i. i / w)
      ∷ refuse_if (ltb (length s.first) (w * h) || ltb (length s.second) (w * h)) why.AreaShort 0
      ∷ []
      )
  unfolding load_verdict strip_verdict shape_verdict bytes_verdict
  load_order =
      ap (λ (v : Verdict). judge (admit_rules t s ++ v ∷ area ∷ [])) (sym (judge_append (shape_rules p) (bytes_rules w h px)))
      ∙ judge_within (admit_rules t s) (shape_rules p ++ bytes_rules w h px) (area ∷ [])
    where
      area : Verdict
      area = refuse_if (ltb (length s.first) (w * h) || ltb (length s.second) (w * h)) why.AreaShort 0

  pub strip_record : load_verdict t (from_strip p px) s ≡ Ok tt
      → ((load_state t (from_strip p px) s).job.strip ≡ strip_of w (take p.parts p.heights)) × ((load_state t (from_strip p px) s).job.counts ≡ no_counts)
  unfolding load_state loaded_job
  strip_record e = rw e (refl, refl)

pub single_record : (t : Table) (f : List ℕ) (s : State) → load_verdict t (from_file f) s ≡ Ok tt
    → ((load_state t (from_file f) s).job.strip ≡ strip_of (width_of f) (height_of f ∷ [])) × ((load_state t (from_file f) s).job.counts ≡ no_counts)
unfolding load_state loaded_job
single_record t f s e = rw e (refl, refl)

-- 14 at stage 1 and 2, of the parts of any record; of a channel's call only 25 comes before it
module _ (c : Call) (s : State) (rule : quota_rule c ≡ Ok tt) (held : s.job.stage ≢ 0) (staged : s.job.stage ≤ 2) where
  by_14 : Inconsistent s → refusal_of (answer_of c s) ≡ Err (refusal why.Unsound 0)
  by_14 x = demand_1.given c s why.Unsound (unsound rule (held_wrong held staged x))

  pub bad_shape : shape_verdict s.job.strip ≢ Ok tt → refusal_of (answer_of c s) ≡ Err (refusal why.Unsound 0)
  bad_shape x = by_14 (wrong.bad_shape x)

  pub other_width : s.job.width ≢ get_or s.job.strip.widths 0 0 → refusal_of (answer_of c s) ≡ Err (refusal why.Unsound 0)
  other_width x = by_14 (wrong.other_width x)

  pub other_height : s.job.height ≢ sum_of (take s.job.strip.parts s.job.strip.heights) → refusal_of (answer_of c s) ≡ Err (refusal why.Unsound 0)
  other_height x = by_14 (wrong.other_height x)

  -- a place past the parts
  pub past_the_parts : (xs : List ℕ) → Memᴰ xs (s.job.strip.widths ∷ s.job.strip.heights ∷ s.job.counts.added ∷ s.job.counts.removed ∷ [])
      → (v : ℕ) → Memᴰ v (drop s.job.strip.parts xs) → v ≢ 0 → refusal_of (answer_of c s) ≡ Err (refusal why.Unsound 0)
  past_the_parts xs m v k n = by_14 (wrong.past_the_parts xs m v k n)

  pub other_added : s.job.added ≢ sum_of (padded s.job.counts.added) → refusal_of (answer_of c s) ≡ Err (refusal why.Unsound 0)
  other_added x = by_14 (wrong.other_added x)

  pub other_removed : s.job.removed ≢ sum_of (padded s.job.counts.removed) → refusal_of (answer_of c s) ≡ Err (refusal why.Unsound 0)
  other_removed x = by_14 (wrong.other_removed x)

-- after every list of calls, where the history holds an entry
module _ (cs : List Call) (a b : List ℕ) (e : Entry) (q : (course cs a b).history ≡ holds e) where
  pub parts : (state cs a b).job.strip ≡ strip_of e.width e.parts
  parts = ((demand_3.after_list cs a b).agrees e q).strip

  pub rows : sum_of e.parts ≡ e.height
  rows = ((demand_3.after_list cs a b).agrees e q).rows

  pub part_added : (i : ℕ) → i < length e.parts
      → get_or (state cs a b).job.counts.added i 0 ≡ over_steps (λ x y. added (part_of e.width e.parts i x) (part_of e.width e.parts i y)) e
  part_added = ((demand_3.after_list cs a b).agrees e q).part_added

  pub part_removed : (i : ℕ) → i < length e.parts
      → get_or (state cs a b).job.counts.removed i 0 ≡ over_steps (λ x y. removed (part_of e.width e.parts i x) (part_of e.width e.parts i y)) e
  part_removed = ((demand_3.after_list cs a b).agrees e q).part_removed

  pub added_sum : sum_of (state cs a b).job.counts.added ≡ (state cs a b).job.added
  added_sum = ((demand_3.after_list cs a b).agrees e q).added_sum

  pub removed_sum : sum_of (state cs a b).job.counts.removed ≡ (state cs a b).job.removed
  removed_sum = ((demand_3.after_list cs a b).agrees e q).removed_sum

  -- the file of part i, and where it starts among the files
  abbrev file : ℕ → List ℕ
  file i = image_bytes e.width (get_or e.parts i 0) (part_of e.width e.parts i e.last)

  abbrev begins : ℕ → ℕ
  begins i = length (strip_bytes e.width (take i e.parts) e.last)

  pub file_stands : (i : ℕ) → i < length e.parts → take (length (file i)) (drop (begins i) (strip_bytes e.width e.parts e.last)) ≡ file i
  file_stands = ((demand_3.after_list cs a b).agrees e q).files.file

  pub file_back : (i : ℕ) → i < length e.parts
      → (file_verdict (file i) ≡ Ok tt) × (width_of (file i) ≡ e.width) × (height_of (file i) ≡ get_or e.parts i 0)
      × (image_of (file i) ≡ part_of e.width e.parts i e.last)
  file_back i l =
      let r = ((demand_3.after_list cs a b).agrees e q).files.back i l in
      (r.accepted, r.width, r.height, r.pixels)

  -- after an accepted collect, the parts laid end to end again
  module _ (out : List ℕ) (m : ℕ) (after : List ℕ) (wrote : answer_of (collect out) (state cs a b) ≡ collected (Ok m) after) where
    abbrev again : Call
    again = load e.table (from_strip (strip_of e.width e.parts) e.last)

    abbrev emptied : Course
    emptied = step (collect out) (course cs a b)

    pub relaid_accepted : refusal_of (answer_of again emptied.state) ≡ Ok tt
    relaid_accepted = (demand_3.relaid cs a b out e m after q wrote).accepted

    module _ (ds : List Call) (u : uncollected ds (step again emptied) ≡ true) where
      abbrev later : State
      later = (play ds (step again emptied)).state

      pub relaid_view : view_of later ≡ e.last
      relaid_view = ((demand_3.relaid cs a b out e m after q wrote).rests ds u).view

      pub relaid_counts : (later.job.passes ≡ 0) × (later.job.added ≡ 0) × (later.job.removed ≡ 0)
      relaid_counts =
          let r = (demand_3.relaid cs a b out e m after q wrote).rests ds u in
          (r.passes, r.added, r.removed)

      pub relaid_answers : (answer_of pass later ≡ passed (Ok Stable)) × (answer_of run later ≡ passed (Ok Stable))
      relaid_answers =
          let r = (demand_3.relaid cs a b out e m after q wrote).rests ds u in
          (r.pass_answer, r.run_answer)

-- what collect writes, of any record
pub collected_files : (s : State) → collecting.collected s ≡ strip_bytes s.job.width (take s.job.strip.parts s.job.strip.heights) (image s)
unfolding collecting.collected
collected_files s = refl

-- a job on a strip, and one that loaded its part i alone, after equally many accepted passes: 6 rows of the part for each between a pixel and every seam
module _ (cs cs' : List Call) (a b a' b' : List ℕ) (e e' : Entry) (i : ℕ) (q : (course cs a b).history ≡ holds e) (q' : (course cs' a' b').history ≡ holds e')
    (table : e.table ≡ e'.table) (width : e.width ≡ e'.width) (part : i < length e.parts) (height : e'.height ≡ get_or e.parts i 0)
    (one : first_of e' ≡ part_of e.width e.parts i (first_of e)) (together : (course cs a b).tally ≡ (course cs' a' b').tally) where
  pub alone : (r c : ℕ) → r < e'.height → c < e.width → (i ≡ 0) ⊎ (6 * (course cs a b).tally ≤ r)
      → (suc i ≡ length e.parts) ⊎ (r + 6 * (course cs a b).tally < get_or e.parts i 0)
      → pixel e.width (view_of (state cs a b)) (above e.parts i + r) c ≡ pixel e.width (view_of (state cs' a' b')) r c
  alone r c l m upper lower =
      demand_3.alone cs cs' a b a' b' e e' i
      (record { here = q; there = q'; table = table; width = width; part = part; height = height; first = one; together = together }) r c l m
      (record { upper = upper; lower = lower })

pub bad_strips_computed : all (λ c. same_list (cases.parts (said (refusal_of (answer_of (load ring c.0) (empty_with zero_table))))) (cases.parts c.1)) bad_strips ≡ true
bad_strips_computed = strips_met

pub bad_parts_computed : map (λ j. rules.unsound (record { job = j; first = white; second = white })) (part_job 5 5 sound_strip sound_counts ∷ bad_part_jobs)
    ≡ false ∷ map (λ j. true) bad_part_jobs
bad_parts_computed = parts_unsound_met

pub seam_counts : same_list (seam_ran.job.counts.added ++ seam_ran.job.counts.removed) (replicate 16 0 ++ 1 ∷ replicate 15 0) ≡ true
seam_counts = part_counts_met

pub seam_files_computed : same_list (collecting.collect_output (replicate 21 7) seam_ran) (seam_files ++ 7 ∷ 7 ∷ []) ≡ true
seam_files_computed = part_files_met
