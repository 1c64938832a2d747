-- Quotas, a channel's calls and a fleet of two channels, computed, with what 02 (T-10) says of them.
--     quota_of n m rs      a quota of n channels with the allowance m and the reserves rs, not opened yet
--     openings            such quotas, with what is left when they are opened; openings_met: computed
--     bad_openings         quotas that are refused by 25; bad_openings_met, handed_back_met: computed, and they are handed back
--     spoken v            number and place; left_in q: what is left, and the pool
--     full                a record whose next pass 14's pass clause refuses; unsound_full: an unsound one; no_job: an empty one
--     spent_out, one_pass_left, five_channels     quotas with nothing and with one pass left, and with a channel too many
--     orders              records with a quota and a channel, with the refusal of a pass and of a run; orders_met: computed
--     uncharged_met       computed: what 14's pass clause refuses is not charged
--     asked m F           what a move is refused by; seen F i: what is seen of channel i
--     row m F             after a move: its refusal, what is left, and of both channels stage, passes, the tally and what was spent
--     trace ms F          the rows of a list of moves
--     moves, expected     two channels that clean a black pixel each; fleet_met: one theorem, computed
-- Assumes nothing.
use Rattle.std.specs.Prelude.{true, List, [], ◌∷◌, ◌++◌, map, ◌≡◌, refl, ℕ, ◌-◌, ◌^◌, replicate}
use Rattle.operator.specs.Samples.{ring}
use Rattle.history.specs.declared.Quota.{Quota}
use Rattle.history.specs.Call.{load, channel_pass, channel_run, answer_of, refusal_of}
use Rattle.history.specs.Cases.{dot_file, seam}
use Rattle.history.specs.Channel.{channel_pass_of, channel_run_of}
use Rattle.history.specs.Computing.{computing}
use Rattle.history.specs.Fleet.{Fleet, begun, Move, passes, runs, own, renew, perform}
use Rattle.history.specs.Quota.{open_verdict, open_quota}
use Rattle.history.specs.Source.{from_file}
use Rattle.history.specs.State.{State, empty_job}
use Rattle.image.specs.Strip.{strip_of, no_counts}
use Rattle.seq.specs.Lists.{all, same_list}
use Rattle.verdict.specs.Answers.{said, Said, refused}
use Rattle.verdict.specs.Rules.{Verdict}

abbrev pub quota_of : ℕ → ℕ → List ℕ → Quota
quota_of n m rs = record { channels = n; allowance = m; reserves = rs; left = replicate 4 7; pool = 7 }

-- what is left, and the pool
abbrev left_in : Quota → List ℕ
left_in q = q.left ++ q.pool ∷ []

abbrev pub openings : List (Quota × List ℕ)
openings =
    (quota_of 2 5 (2 ∷ 1 ∷ 9 ∷ 9 ∷ []), 2 ∷ 1 ∷ 0 ∷ 0 ∷ 2 ∷ [])
    ∷ (quota_of 2 5 (3 ∷ 2 ∷ 0 ∷ 0 ∷ []), 3 ∷ 2 ∷ 0 ∷ 0 ∷ 0 ∷ [])
    ∷ (quota_of 4 10 (1 ∷ 2 ∷ 3 ∷ 4 ∷ []), 1 ∷ 2 ∷ 3 ∷ 4 ∷ 0 ∷ [])
    ∷ (quota_of 1 0 (0 ∷ 1 ∷ 1 ∷ 1 ∷ []), 0 ∷ 0 ∷ 0 ∷ 0 ∷ 0 ∷ [])
    ∷ []

pub openings_met : map (λ c. left_in (open_quota c.0)) openings ≡ map (λ c. c.1) openings
unfolding computing
openings_met = refl

-- the number of channels, and sums that are above the allowance, one of them above 64 bits
abbrev pub bad_openings : List Quota
bad_openings =
    quota_of 0 5 (0 ∷ 0 ∷ 0 ∷ 0 ∷ [])
    ∷ quota_of 5 5 (0 ∷ 0 ∷ 0 ∷ 0 ∷ [])
    ∷ quota_of 2 5 (3 ∷ 3 ∷ 0 ∷ 0 ∷ [])
    ∷ quota_of 2 (2 ^ 64 - 1) (2 ^ 63 ∷ 2 ^ 63 ∷ 0 ∷ 0 ∷ [])
    ∷ []

-- number and place
abbrev spoken : Verdict → List ℕ
spoken v = (said v).number ∷ (said v).place ∷ []

pub bad_openings_met : all (λ q. same_list (spoken (open_verdict q)) (25 ∷ 0 ∷ [])) bad_openings ≡ true
unfolding computing
bad_openings_met = refl

pub handed_back_met : map open_quota bad_openings ≡ bad_openings
unfolding computing
handed_back_met = refl

-- as many passes as pixels, and a black pixel that the next one would remove
abbrev pub full : State
full =
    record {
      job = record { stage = 1; width = 5; height = 5; passes = 25; added = 0; removed = 0; table = ring; strip = strip_of 5 (5 ∷ []); counts = no_counts };
      first = seam;
      second = seam;
    }

abbrev pub unsound_full : State
unsound_full =
    record {
      job = record { stage = 1; width = 5; height = 5; passes = 26; added = 0; removed = 0; table = ring; strip = strip_of 5 (5 ∷ []); counts = no_counts };
      first = seam;
      second = seam;
    }

abbrev pub no_job : State
no_job = record { job = empty_job; first = seam; second = seam }

-- two channels with nothing left, and with one pass in the pool; five channels
abbrev pub spent_out : Quota
spent_out = record { channels = 2; allowance = 9; reserves = replicate 4 0; left = replicate 4 0; pool = 0 }

abbrev pub one_pass_left : Quota
one_pass_left = record { channels = 2; allowance = 9; reserves = replicate 4 0; left = replicate 4 0; pool = 1 }

abbrev pub five_channels : Quota
five_channels = record { channels = 5; allowance = 9; reserves = replicate 4 0; left = replicate 4 0; pool = 1 }

-- 25, 14, 16, 24, and 14's pass clause
abbrev pub orders : List (Quota × ℕ × State × Said)
orders =
    (one_pass_left, 0, unsound_full, refused 25 0)
    ∷ (one_pass_left, 3, no_job, refused 25 0)
    ∷ (five_channels, 1, unsound_full, refused 25 0)
    ∷ (spent_out, 2, unsound_full, refused 14 0)
    ∷ (spent_out, 2, no_job, refused 16 0)
    ∷ (spent_out, 2, full, refused 24 2)
    ∷ (one_pass_left, 2, full, refused 14 0)
    ∷ []

-- of one of them: what a pass and a run are refused by, and what is wanted
abbrev as_pass : Quota × ℕ × State × Said → List ℕ
as_pass c = spoken (refusal_of (answer_of (channel_pass c.0 c.1) c.2))

abbrev as_run : Quota × ℕ × State × Said → List ℕ
as_run c = spoken (refusal_of (answer_of (channel_run c.0 c.1) c.2))

abbrev wanted : Quota × ℕ × State × Said → List ℕ
wanted c = c.3.number ∷ c.3.place ∷ []

pub orders_met :
    all (λ c. same_list (as_pass c ++ as_run c) (wanted c ++ wanted c)) orders ≡ true
unfolding computing
orders_met = refl

-- a pass that 14's pass clause refuses is not charged
pub uncharged_met : left_in (channel_pass_of one_pass_left 2 full).quota ++ left_in (channel_run_of one_pass_left 2 full).quota ≡ left_in one_pass_left ++ left_in one_pass_left
unfolding computing
uncharged_met = refl

abbrev asked : Move → Fleet → Verdict
asked (passes i) F = refusal_of (answer_of (channel_pass F.quota i) (F.courses i).state)
asked (runs i) F = refusal_of (answer_of (channel_run F.quota i) (F.courses i).state)
asked (own i c) F = refusal_of (answer_of c (F.courses i).state)
asked renew F = open_verdict F.quota

-- of one channel
abbrev seen : Fleet → ℕ → List ℕ
seen F i = (F.courses i).state.job.stage ∷ (F.courses i).state.job.passes ∷ (F.courses i).tally ∷ F.spent i ∷ []

abbrev row : Move → Fleet → List ℕ
row m F = let G = perform m F in spoken (asked m F) ++ left_in G.quota ++ seen G 1 ++ seen G 2

abbrev trace : List Move → Fleet → List ℕ
trace [] F = []
trace (m ∷ ms) F = row m F ++ trace ms (perform m F)

-- a black pixel takes one pass and a quiet one: the first to run takes the pool, and 24 stops the other on its way
abbrev moves : List Move
moves =
    runs 1
    ∷ own 1 (load ring (from_file dot_file))
    ∷ own 2 (load ring (from_file dot_file))
    ∷ runs 2
    ∷ runs 1
    ∷ passes 1
    ∷ passes 2
    ∷ passes 3
    ∷ renew
    ∷ passes 1
    ∷ runs 1
    ∷ []

abbrev expected : List ℕ
expected =
    (16 ∷ 0 ∷ []) ++ (1 ∷ 1 ∷ 0 ∷ 0 ∷ 1 ∷ []) ++ (0 ∷ 0 ∷ 0 ∷ 0 ∷ []) ++ (0 ∷ 0 ∷ 0 ∷ 0 ∷ [])
    ++ (0 ∷ 0 ∷ []) ++ (1 ∷ 1 ∷ 0 ∷ 0 ∷ 1 ∷ []) ++ (1 ∷ 0 ∷ 0 ∷ 0 ∷ []) ++ (0 ∷ 0 ∷ 0 ∷ 0 ∷ [])
    ++ (0 ∷ 0 ∷ []) ++ (1 ∷ 1 ∷ 0 ∷ 0 ∷ 1 ∷ []) ++ (1 ∷ 0 ∷ 0 ∷ 0 ∷ []) ++ (1 ∷ 0 ∷ 0 ∷ 0 ∷ [])
    ++ (0 ∷ 0 ∷ []) ++ (1 ∷ 0 ∷ 0 ∷ 0 ∷ 0 ∷ []) ++ (1 ∷ 0 ∷ 0 ∷ 0 ∷ []) ++ (2 ∷ 1 ∷ 2 ∷ 2 ∷ [])
    ++ (24 ∷ 1 ∷ []) ++ (0 ∷ 0 ∷ 0 ∷ 0 ∷ 0 ∷ []) ++ (1 ∷ 1 ∷ 1 ∷ 1 ∷ []) ++ (2 ∷ 1 ∷ 2 ∷ 2 ∷ [])
    ++ (24 ∷ 1 ∷ []) ++ (0 ∷ 0 ∷ 0 ∷ 0 ∷ 0 ∷ []) ++ (1 ∷ 1 ∷ 1 ∷ 1 ∷ []) ++ (2 ∷ 1 ∷ 2 ∷ 2 ∷ [])
    ++ (0 ∷ 0 ∷ []) ++ (0 ∷ 0 ∷ 0 ∷ 0 ∷ 0 ∷ []) ++ (1 ∷ 1 ∷ 1 ∷ 1 ∷ []) ++ (2 ∷ 1 ∷ 3 ∷ 2 ∷ [])
    ++ (25 ∷ 0 ∷ []) ++ (0 ∷ 0 ∷ 0 ∷ 0 ∷ 0 ∷ []) ++ (1 ∷ 1 ∷ 1 ∷ 1 ∷ []) ++ (2 ∷ 1 ∷ 3 ∷ 2 ∷ [])
    ++ (0 ∷ 0 ∷ []) ++ (1 ∷ 1 ∷ 0 ∷ 0 ∷ 1 ∷ []) ++ (1 ∷ 1 ∷ 1 ∷ 0 ∷ []) ++ (2 ∷ 1 ∷ 3 ∷ 0 ∷ [])
    ++ (0 ∷ 0 ∷ []) ++ (0 ∷ 1 ∷ 0 ∷ 0 ∷ 1 ∷ []) ++ (2 ∷ 1 ∷ 2 ∷ 1 ∷ []) ++ (2 ∷ 1 ∷ 3 ∷ 0 ∷ [])
    ++ (0 ∷ 0 ∷ []) ++ (0 ∷ 1 ∷ 0 ∷ 0 ∷ 1 ∷ []) ++ (2 ∷ 1 ∷ 3 ∷ 1 ∷ []) ++ (2 ∷ 1 ∷ 3 ∷ 0 ∷ [])

pub fleet_met : same_list (trace moves (begun (quota_of 2 3 (1 ∷ 1 ∷ 9 ∷ 9 ∷ [])) (λ i. replicate 25 7) (λ i. replicate 25 7))) expected ≡ true
unfolding computing perform begun
fleet_met = refl
