-- No call of a list answers 14: the history refuses by other numbers only.
--     input_numbers, load_numbers_lem     what a load is refused by because of its input
--     call_numbers, call_numbers_lem      what the history refuses by
--     never_14                       the claim
-- Assumes nothing.
use Rattle.std.specs.Prelude.{Err}
use mathlib.Core.Bool.{not}
use mathlib.Core.List.{List, [], ◌∷◌}
use mathlib.Core.Logic.{◌≢◌}
use mathlib.Core.Path.{◌≡◌, refl}
use Prim.Native.Nat.{ℕ, ◌+◌, ◌*◌}
use lib.Dec.{ltb}
use lib.ListN.{length}
use Rattle.history.specs.Call.{Call, load, pass, run, view, figures, collect, channel_pass, channel_run}
use Rattle.history.specs.History.{History, empty, holds, Lengths, needed, files_of, refused_by}
use Rattle.history.specs.declared.Quota.{Quota}
use Rattle.history.specs.Load.{areas_rule}
use Rattle.history.specs.Quota.{lacks, channel_rule, available}
use Rattle.history.specs.Source.{Source, source_verdict}
use Rattle.verdict.specs.declared.Rule.TheVariants as why
use Rattle.history.proofs.Refusals.{input_says}
use Rattle.history.proofs.Sources.{source_numbers}
use Rattle.table.proofs.Verdicts.{record_numbers}
use Rattle.table.specs.declared.Table.{Table}
use Rattle.table.specs.Record.{record_verdict}
use Rattle.verdict.specs.Numbers.{by, OneOf, accepts, refuses}
use Rattle.verdict.specs.Rules.{judge, number_of, Refusal}
use Rattle.verdict.proofs.Numbers.{says_if, says_or, one_of_more, one_of_other}

-- because of the input
abbrev pub input_numbers : List ℕ
input_numbers = 3 ∷ 4 ∷ 5 ∷ 6 ∷ 7 ∷ 9 ∷ 10 ∷ 11 ∷ 12 ∷ 13 ∷ 18 ∷ 23 ∷ 26 ∷ []

-- and because of the state, without 14, or of the quota
abbrev call_numbers : List ℕ
call_numbers = 15 ∷ 16 ∷ 17 ∷ 24 ∷ 25 ∷ input_numbers

pub load_numbers_lem : (t : Table) (x : Source) (n m : ℕ) → OneOf input_numbers (judge (record_verdict t ∷ source_verdict x ∷ areas_rule x n m ∷ []))
load_numbers_lem t x n m = input_says t x n m (one_of_more (record_numbers t) refl) (one_of_more (source_numbers x) refl) (by refl)

channel_numbers : (q : Quota) (i : ℕ) → OneOf call_numbers (channel_rule q i)
unfolding channel_rule
channel_numbers q i = says_if (lacks q i) why.QuotaRange 0 (by refl)

call_numbers_lem : (c : Call) (n : Lengths) (H : History) → OneOf call_numbers (refused_by c n H)
unfolding refused_by
call_numbers_lem (load t x) n empty = one_of_more (load_numbers_lem t x n.first n.second) refl
call_numbers_lem (load t x) n (holds e) = refuses (by refl)
call_numbers_lem pass n empty = refuses (by refl)
call_numbers_lem pass n (holds e) = accepts
call_numbers_lem run n empty = refuses (by refl)
call_numbers_lem run n (holds e) = accepts
call_numbers_lem view n empty = refuses (by refl)
call_numbers_lem view n (holds e) = accepts
call_numbers_lem figures n empty = refuses (by refl)
call_numbers_lem figures n (holds e) = accepts
call_numbers_lem (collect out) n empty = refuses (by refl)
call_numbers_lem (collect out) n (holds e) =
    says_or (says_if (not e.settled) why.NotStable 0 (by refl))
    (says_or (says_if (ltb (length out) (length (files_of e))) why.AreaShort 0 (by refl)) accepts)
call_numbers_lem (channel_pass q i) n empty = says_or (channel_numbers q i) (says_or (refuses (by refl)) accepts)
call_numbers_lem (channel_pass q i) n (holds e) = says_or (channel_numbers q i) (says_or (says_if (ltb (available q i) (needed 1 e)) why.AllowanceSpent i (by refl)) accepts)
call_numbers_lem (channel_run q i) n empty = says_or (channel_numbers q i) (says_or (refuses (by refl)) accepts)
call_numbers_lem (channel_run q i) n (holds e) =
    says_or (channel_numbers q i) (says_or (says_if (ltb (available q i) (needed (e.width * e.height + 1) e)) why.AllowanceSpent i (by refl)) accepts)

pub never_14 : (c : Call) (n : Lengths) (H : History) (r : Refusal) → refused_by c n H ≡ Err r → number_of r ≢ 14
never_14 c n H r q = one_of_other (call_numbers_lem c n H) refl q
