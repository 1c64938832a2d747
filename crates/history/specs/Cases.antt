-- Lists of calls whose every step is computed, with what 01 says of it; and covers, empty records, bad tables, three files and strips, with what 02
-- (T-05, T-01, T-07, T-12, T-08) says of them.
--     row c w       after the call c: refusal number, stage, passes, added, removed, black in view, cover, history (0 empty, 1 held, 2 settled)
--     trace cs w    the rows of a list of calls
--     dot_file       a 5 × 5 image, black only in the middle; blank_file: a white one; low_file: a 5 × 4 one; wide_file, bad_file: refused by 10, by 9
--     cases_met     one theorem, computed
--     covers        black pixels, pixels, and the cover expected of them
--     covers_met    computed
--     empty_with t   an empty record, but for its table
--     tables        one field of each is not zero; unsound_met: computed, with such a table it is unsound
--     held_with t    a record of a blank 5 × 5 image, with a table
--     bad_threes     three files, with the refusal of each load on empty areas; threes_met: computed; parts r: what a refusal consists of
--     three_cases_met   one theorem, computed: loads of three files in a list
--     given n ws hs     a strip of n parts; white, seam: 5 × 5 pixels, all white, and black only at (2, 2)
--     bad_strips         strips, with the refusal of each load on empty areas; strips_met: computed
--     seam_strip         parts of 5 × 3 and 5 × 2, black only beside the seam; strip_cases_met: one theorem, computed: its load in a list
--     seam_ran           that strip at rest; part_counts_met: computed, its parts' counts
--     seam_files         the files of its parts; part_files_met: computed, collect writes them and leaves the output behind them
--     alone_file         the file of the first part; alone_met: computed, alone it keeps the black pixel
--     counted g l       the counts of parts; part_job w h p c: a record of 3 added and 4 removed, with its parts
--     sound_strip, sound_counts   of a sound record; bad_part_jobs: records that differ from it in one thing of the parts
--     parts_unsound_met     computed: each of these is unsound, and the sound one is not
--     bad_tables     with the refusal of each; loads_met: computed, a load passes it on; held_met: computed, held in a record the table is 14 with zeros
-- Assumes nothing.
use Rattle.std.specs.Prelude.{true, false, cond, List, [], ◌∷◌, ◌++◌, map, ◌≡◌, refl, ℕ, replicate}
use Rattle.operator.specs.Image.{black}
use Rattle.operator.specs.Samples.{ring}
use Rattle.history.specs.Answers.{figured_cover}
use Rattle.history.specs.Call.{Call, load, pass, run, collect, answer_of, refusal_of}
use Rattle.history.specs.Collect.{collect_output}
use Rattle.history.specs.Computing.{computing}
use Rattle.history.specs.declared.Job.{Job}
use Rattle.history.specs.History.{History, empty, holds}
use Rattle.history.specs.Lists.{Course, start, step}
use Rattle.history.specs.Source.{Source, from_file, from_three, from_strip}
use Rattle.history.specs.State.{State, unsound}
use Rattle.history.specs.View.{view_of, cover, figures_of}
use Rattle.image.specs.declared.strip.PartCounts.{PartCounts}
use Rattle.image.specs.declared.strip.Strip.{Strip}
use Rattle.image.specs.Strip.{padded, strip_of, no_parts, no_counts}
use Rattle.seq.specs.Lists.{all, same_list}
use Rattle.table.specs.declared.Table.{Table}
use Rattle.table.specs.Record.{zero_table}
use Rattle.table.specs.Sample.{filled, listed}
use Rattle.verdict.specs.Answers.{said, Said, refused, refused_for}

abbrev standing : History → ℕ
standing empty = 0
standing (holds e) = cond e.settled 2 1

abbrev row : Call → Course → List ℕ
row c w =
    let v = step c w in
    (said (refusal_of (answer_of c w.state))).number
    ∷ v.state.job.stage
    ∷ v.state.job.passes
    ∷ v.state.job.added
    ∷ v.state.job.removed
    ∷ black (view_of v.state)
    ∷ figured_cover (figures_of v.state)
    ∷ standing v.history
    ∷ []

abbrev trace : List Call → Course → List ℕ
trace [] w = []
trace (c ∷ cs) w = row c w ++ trace cs (step c w)

-- the file of 5 × 5 pixels, black only at (2, 2)
abbrev pub dot_file : List ℕ
dot_file = 0x50 ∷ 0x34 ∷ 0x0A ∷ 0x35 ∷ 0x20 ∷ 0x35 ∷ 0x0A ∷ 0x00 ∷ 0x00 ∷ 0x20 ∷ 0x00 ∷ 0x00 ∷ []

abbrev calls : List Call
calls =
    pass
    ∷ load ring (from_file dot_file)
    ∷ load ring (from_file dot_file)
    ∷ collect (replicate 12 0)
    ∷ pass
    ∷ pass
    ∷ pass
    ∷ collect (replicate 11 0)
    ∷ collect (replicate 12 0)
    ∷ load ring (from_file dot_file)
    ∷ run
    ∷ []

abbrev expected : List ℕ
expected =
    (16 ∷ 0 ∷ 0 ∷ 0 ∷ 0 ∷ 0 ∷ 0 ∷ 0 ∷ [])
    ++ (0 ∷ 1 ∷ 0 ∷ 0 ∷ 0 ∷ 1 ∷ 40 ∷ 1 ∷ [])
    ++ (15 ∷ 1 ∷ 0 ∷ 0 ∷ 0 ∷ 1 ∷ 40 ∷ 1 ∷ [])
    ++ (17 ∷ 1 ∷ 0 ∷ 0 ∷ 0 ∷ 1 ∷ 40 ∷ 1 ∷ [])
    ++ (0 ∷ 1 ∷ 1 ∷ 0 ∷ 1 ∷ 0 ∷ 0 ∷ 1 ∷ [])
    ++ (0 ∷ 2 ∷ 1 ∷ 0 ∷ 1 ∷ 0 ∷ 0 ∷ 2 ∷ [])
    ++ (0 ∷ 2 ∷ 1 ∷ 0 ∷ 1 ∷ 0 ∷ 0 ∷ 2 ∷ [])
    ++ (13 ∷ 2 ∷ 1 ∷ 0 ∷ 1 ∷ 0 ∷ 0 ∷ 2 ∷ [])
    ++ (0 ∷ 0 ∷ 0 ∷ 0 ∷ 0 ∷ 0 ∷ 0 ∷ 0 ∷ [])
    ++ (0 ∷ 1 ∷ 0 ∷ 0 ∷ 0 ∷ 1 ∷ 40 ∷ 1 ∷ [])
    ++ (0 ∷ 2 ∷ 1 ∷ 0 ∷ 1 ∷ 0 ∷ 0 ∷ 2 ∷ [])

pub cases_met : same_list (trace calls (start (replicate 25 7) (replicate 25 7))) expected ≡ true
unfolding computing
cases_met = refl

-- black pixels, pixels, cover: 02's two, other exact halves, between halves, both ends, the largest image
abbrev pub covers : List (ℕ × ℕ × ℕ)
covers =
    (1, 16, 62)
    ∷ (3, 16, 188)
    ∷ (5, 16, 312)
    ∷ (15, 16, 938)
    ∷ (3, 80, 38)
    ∷ (1, 400, 2)
    ∷ (1, 2000, 0)
    ∷ (3, 2000, 2)
    ∷ (1999, 2000, 1000)
    ∷ (4, 15, 267)
    ∷ (2, 3, 667)
    ∷ (1, 3, 333)
    ∷ (0, 7, 0)
    ∷ (7, 7, 1000)
    ∷ (32, 65536, 0)
    ∷ (33, 65536, 1)
    ∷ (99, 65536, 2)
    ∷ (4096, 65536, 62)
    ∷ (12288, 65536, 188)
    ∷ (65535, 65536, 1000)
    ∷ []

pub covers_met : map (λ c. cover c.0 c.1) covers ≡ map (λ c. c.2) covers
unfolding computing
covers_met = refl

abbrev pub empty_with : Table → State
empty_with t =
    record {
      job = record { stage = 0; width = 0; height = 0; passes = 0; added = 0; removed = 0; table = t; strip = no_parts; counts = no_counts };
      first = [];
      second = [];
    }

abbrev pub tables : List Table
tables =
    filled 1 [] 0 []
    ∷ filled 0 (0 ∷ 5 ∷ []) 0 []
    ∷ filled 0 [] 1 []
    ∷ filled 0 [] 0 (5 ∷ [])
    ∷ filled 0 [] 0 (0 ∷ 5 ∷ [])
    ∷ filled 0 [] 0 (0 ∷ 0 ∷ 5 ∷ [])
    ∷ filled 0 [] 0 (0 ∷ 0 ∷ 0 ∷ 5 ∷ [])
    ∷ []

pub unsound_met : map (λ t. unsound (empty_with t)) (zero_table ∷ tables) ≡ false ∷ map (λ t. true) tables
unfolding computing
unsound_met = refl

abbrev pub held_with : Table → State
held_with t =
    record {
      job = record { stage = 1; width = 5; height = 5; passes = 0; added = 0; removed = 0; table = t; strip = strip_of 5 (5 ∷ []); counts = no_counts };
      first = replicate 25 0;
      second = replicate 25 0;
    }

abbrev pub bad_tables : List (Table × Said)
bad_tables =
    (listed (192 ∷ 320 ∷ 384 ∷ 2560 ∷ []) (12288 ∷ []), refused_for 5 4 1 0)
    ∷ (listed (10244 ∷ 131204 ∷ []) (12288 ∷ 135168 ∷ []), refused_for 7 1 2 12)
    ∷ (listed (141440 ∷ []) (12288 ∷ 12288 ∷ []), refused 6 4)
    ∷ []

pub loads_met : map (λ c. said (refusal_of (answer_of (load c.0 (from_file dot_file)) (empty_with zero_table)))) bad_tables ≡ map (λ c. c.1) bad_tables
unfolding computing
loads_met = refl

pub held_met : map (λ c. said (refusal_of (answer_of pass (held_with c.0)))) bad_tables ≡ map (λ c. refused 14 0) bad_tables
unfolding computing
held_met = refl

abbrev pub blank_file : List ℕ
blank_file = 0x50 ∷ 0x34 ∷ 0x0A ∷ 0x35 ∷ 0x20 ∷ 0x35 ∷ 0x0A ∷ 0x00 ∷ 0x00 ∷ 0x00 ∷ 0x00 ∷ 0x00 ∷ []

abbrev pub low_file : List ℕ
low_file = 0x50 ∷ 0x34 ∷ 0x0A ∷ 0x35 ∷ 0x20 ∷ 0x34 ∷ 0x0A ∷ 0x00 ∷ 0x00 ∷ 0x20 ∷ 0x00 ∷ []

abbrev pub wide_file : List ℕ
wide_file = 0x50 ∷ 0x34 ∷ 0x0A ∷ 0x33 ∷ 0x30 ∷ 0x30 ∷ 0x20 ∷ 0x31 ∷ 0x0A ∷ []

abbrev pub bad_file : List ℕ
bad_file = 0x78 ∷ []

abbrev pub bad_threes : List (Source × Said)
bad_threes =
    (from_three dot_file wide_file bad_file, refused 10 0)
    ∷ (from_three dot_file low_file bad_file, refused 9 0)
    ∷ (from_three dot_file low_file dot_file, refused 26 2)
    ∷ (from_three dot_file dot_file low_file, refused 26 3)
    ∷ (from_three dot_file low_file low_file, refused 26 2)
    ∷ (from_three dot_file dot_file dot_file, refused 13 0)
    ∷ []

abbrev pub parts : Said → List ℕ
parts r = r.number ∷ r.place ∷ r.witness ∷ r.position ∷ []

pub threes_met : all (λ c. same_list (parts (said (refusal_of (answer_of (load ring c.0) (empty_with zero_table))))) (parts c.1)) bad_threes ≡ true
unfolding computing
threes_met = refl

-- black in two of three, then in one of three
abbrev three_calls : List Call
three_calls =
    load ring (from_three dot_file low_file dot_file)
    ∷ load ring (from_three dot_file blank_file dot_file)
    ∷ load ring (from_three dot_file dot_file dot_file)
    ∷ run
    ∷ collect (replicate 12 0)
    ∷ load ring (from_three dot_file blank_file blank_file)
    ∷ run
    ∷ []

abbrev three_expected : List ℕ
three_expected =
    (26 ∷ 0 ∷ 0 ∷ 0 ∷ 0 ∷ 0 ∷ 0 ∷ 0 ∷ [])
    ++ (0 ∷ 1 ∷ 0 ∷ 0 ∷ 0 ∷ 1 ∷ 40 ∷ 1 ∷ [])
    ++ (15 ∷ 1 ∷ 0 ∷ 0 ∷ 0 ∷ 1 ∷ 40 ∷ 1 ∷ [])
    ++ (0 ∷ 2 ∷ 1 ∷ 0 ∷ 1 ∷ 0 ∷ 0 ∷ 2 ∷ [])
    ++ (0 ∷ 0 ∷ 0 ∷ 0 ∷ 0 ∷ 0 ∷ 0 ∷ 0 ∷ [])
    ++ (0 ∷ 1 ∷ 0 ∷ 0 ∷ 0 ∷ 0 ∷ 0 ∷ 1 ∷ [])
    ++ (0 ∷ 2 ∷ 0 ∷ 0 ∷ 0 ∷ 0 ∷ 0 ∷ 2 ∷ [])

pub three_cases_met : same_list (trace three_calls (start (replicate 25 7) (replicate 25 7))) three_expected ≡ true
unfolding computing
three_cases_met = refl

abbrev pub given : ℕ → List ℕ → List ℕ → Strip
given n ws hs = record { parts = n; widths = padded ws; heights = padded hs }

abbrev pub white : List ℕ
white = replicate 25 0

abbrev pub seam : List ℕ
seam = replicate 12 0 ++ 1 ∷ replicate 12 0

-- the last two are good; the last has rubbish past its number
abbrev pub bad_strips : List (Source × Said)
bad_strips =
    (from_strip (given 0 (5 ∷ []) (5 ∷ [])) white, refused 23 0)
    ∷ (from_strip (given 17 (replicate 16 5) (replicate 16 1)) white, refused 23 0)
    ∷ (from_strip (given 3 (5 ∷ 0 ∷ 5 ∷ []) (1 ∷ 2 ∷ 300 ∷ [])) white, refused 10 2)
    ∷ (from_strip (given 3 (5 ∷ 4 ∷ 5 ∷ []) (1 ∷ 2 ∷ 257 ∷ [])) white, refused 10 3)
    ∷ (from_strip (given 1 (257 ∷ []) (1 ∷ [])) white, refused 10 1)
    ∷ (from_strip (given 3 (5 ∷ 4 ∷ 6 ∷ []) (1 ∷ 2 ∷ 2 ∷ [])) white, refused 23 2)
    ∷ (from_strip (given 2 (5 ∷ 5 ∷ []) (3 ∷ 2 ∷ [])) (replicate 24 0), refused 11 0)
    ∷ (from_strip (given 2 (5 ∷ 5 ∷ []) (3 ∷ 2 ∷ [])) (replicate 20 0 ++ 2 ∷ replicate 4 0), refused 12 4)
    ∷ (from_strip (given 2 (5 ∷ 5 ∷ []) (3 ∷ 2 ∷ [])) white, refused 13 0)
    ∷ (from_strip (given 2 (5 ∷ 5 ∷ 0 ∷ 900 ∷ []) (3 ∷ 2 ∷ 300 ∷ [])) white, refused 13 0)
    ∷ []

pub strips_met : all (λ c. same_list (parts (said (refusal_of (answer_of (load ring c.0) (empty_with zero_table))))) (parts c.1)) bad_strips ≡ true
unfolding computing
strips_met = refl

abbrev pub seam_strip : Source
seam_strip = from_strip (given 2 (5 ∷ 5 ∷ []) (3 ∷ 2 ∷ [])) seam

abbrev strip_calls : List Call
strip_calls =
    load ring seam_strip
    ∷ load ring seam_strip
    ∷ run
    ∷ collect (replicate 18 0)
    ∷ collect (replicate 19 0)
    ∷ []

abbrev strip_expected : List ℕ
strip_expected =
    (0 ∷ 1 ∷ 0 ∷ 0 ∷ 0 ∷ 1 ∷ 40 ∷ 1 ∷ [])
    ++ (15 ∷ 1 ∷ 0 ∷ 0 ∷ 0 ∷ 1 ∷ 40 ∷ 1 ∷ [])
    ++ (0 ∷ 2 ∷ 1 ∷ 0 ∷ 1 ∷ 0 ∷ 0 ∷ 2 ∷ [])
    ++ (13 ∷ 2 ∷ 1 ∷ 0 ∷ 1 ∷ 0 ∷ 0 ∷ 2 ∷ [])
    ++ (0 ∷ 0 ∷ 0 ∷ 0 ∷ 0 ∷ 0 ∷ 0 ∷ 0 ∷ [])

pub strip_cases_met : same_list (trace strip_calls (start (replicate 25 7) (replicate 25 7))) strip_expected ≡ true
unfolding computing
strip_cases_met = refl

abbrev pub seam_ran : State
seam_ran = (step run (step (load ring seam_strip) (start (replicate 25 7) (replicate 25 7)))).state

pub part_counts_met : same_list (seam_ran.job.counts.added ++ seam_ran.job.counts.removed) (replicate 16 0 ++ 1 ∷ replicate 15 0) ≡ true
unfolding computing
part_counts_met = refl

abbrev pub seam_files : List ℕ
seam_files =
    (0x50 ∷ 0x34 ∷ 0x0A ∷ 0x35 ∷ 0x20 ∷ 0x33 ∷ 0x0A ∷ 0x00 ∷ 0x00 ∷ 0x00 ∷ [])
    ++ (0x50 ∷ 0x34 ∷ 0x0A ∷ 0x35 ∷ 0x20 ∷ 0x32 ∷ 0x0A ∷ 0x00 ∷ 0x00 ∷ [])

pub part_files_met : same_list (collect_output (replicate 21 7) seam_ran) (seam_files ++ 7 ∷ 7 ∷ []) ≡ true
unfolding computing
part_files_met = refl

-- the file of the first part: at its lower edge the pixel stays
abbrev pub alone_file : List ℕ
alone_file = 0x50 ∷ 0x34 ∷ 0x0A ∷ 0x35 ∷ 0x20 ∷ 0x33 ∷ 0x0A ∷ 0x00 ∷ 0x00 ∷ 0x20 ∷ []

abbrev alone_calls : List Call
alone_calls = load ring (from_file alone_file) ∷ run ∷ []

abbrev alone_expected : List ℕ
alone_expected = (0 ∷ 1 ∷ 0 ∷ 0 ∷ 0 ∷ 1 ∷ 67 ∷ 1 ∷ []) ++ (0 ∷ 2 ∷ 0 ∷ 0 ∷ 0 ∷ 1 ∷ 67 ∷ 2 ∷ [])

pub alone_met : same_list (trace alone_calls (start (replicate 15 7) (replicate 15 7))) alone_expected ≡ true
unfolding computing
alone_met = refl

abbrev pub part_job : ℕ → ℕ → Strip → PartCounts → Job
part_job w h p c =
    record { stage = 1; width = w; height = h; passes = 2; added = 3; removed = 4; table = ring; strip = p; counts = c }

abbrev pub counted : List ℕ → List ℕ → PartCounts
counted g l = record { added = padded g; removed = padded l }

abbrev pub sound_strip : Strip
sound_strip = given 2 (5 ∷ 5 ∷ []) (3 ∷ 2 ∷ [])

abbrev pub sound_counts : PartCounts
sound_counts = counted (1 ∷ 2 ∷ []) (4 ∷ [])

-- the number of parts; a part's size; the record's; a place past the parts; the sums
abbrev pub bad_part_jobs : List Job
bad_part_jobs =
    part_job 5 5 (given 0 (5 ∷ 5 ∷ []) (3 ∷ 2 ∷ [])) sound_counts
    ∷ part_job 5 5 (given 1 (5 ∷ 5 ∷ []) (3 ∷ 2 ∷ [])) sound_counts
    ∷ part_job 5 5 (given 3 (5 ∷ 5 ∷ []) (3 ∷ 2 ∷ [])) sound_counts
    ∷ part_job 5 5 (given 2 (5 ∷ 4 ∷ []) (3 ∷ 2 ∷ [])) sound_counts
    ∷ part_job 5 5 (given 2 (5 ∷ 5 ∷ []) (3 ∷ 1 ∷ [])) sound_counts
    ∷ part_job 5 5 (given 2 (5 ∷ 5 ∷ []) (5 ∷ 0 ∷ [])) sound_counts
    ∷ part_job 4 5 sound_strip sound_counts
    ∷ part_job 5 4 sound_strip sound_counts
    ∷ part_job 5 5 (given 2 (5 ∷ 5 ∷ 1 ∷ []) (3 ∷ 2 ∷ [])) sound_counts
    ∷ part_job 5 5 (given 2 (5 ∷ 5 ∷ []) (3 ∷ 2 ∷ 1 ∷ [])) sound_counts
    ∷ part_job 5 5 sound_strip (counted (1 ∷ 1 ∷ 1 ∷ []) (4 ∷ []))
    ∷ part_job 5 5 sound_strip (counted (1 ∷ 2 ∷ []) (3 ∷ 0 ∷ 1 ∷ []))
    ∷ part_job 5 5 sound_strip (counted (1 ∷ 1 ∷ []) (4 ∷ []))
    ∷ part_job 5 5 sound_strip (counted (1 ∷ 2 ∷ []) (4 ∷ 1 ∷ []))
    ∷ []

pub parts_unsound_met :
    map (λ j. unsound (record { job = j; first = white; second = white })) (part_job 5 5 sound_strip sound_counts ∷ bad_part_jobs)
    ≡ false ∷ map (λ j. true) bad_part_jobs
unfolding computing
parts_unsound_met = refl
