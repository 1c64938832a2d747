-- Load: what it answers on an empty job and on one that holds an entry, and that the relation is kept.
--     load_empty, load_held        the verdict is the history's
--     Fits t x s, fits             what an accepted load has shown
--     load_entered                 after it the job holds its entry
--     load_keeps                   the relation after it
-- Assumes nothing.
use Rattle.std.specs.Prelude.{Ok, Err}
use mathlib.Core.Bool.{false, ◌||◌}
use mathlib.Core.List.{[], ◌∷◌}
use mathlib.Core.Path.{◌≡◌, refl, sym}
use Prim.Native.Nat.{ℕ, ◌*◌, ◌≤◌}
use native.Mathlib.Omega.{arith}
use borrow.Author.Tests.{ltb-false}
use lib.Dec.{ltb}
use lib.ListN.{length}
use Rattle.history.specs.Call.{load}
use Rattle.history.specs.History.{Entry, History, empty, holds, Lengths, entered, refused_by, barred_by, accepted, after_as, after}
use Rattle.history.specs.Lists.{lengths_of, tallied, tally_as}
use Rattle.history.specs.Load.{areas_rule, load_verdict, loaded_job, load_as, load_state}
use Rattle.history.specs.Source.{Source, source_verdict, source_width, source_height, source_pixels}
use Rattle.history.specs.State.{State, empty_job, present, image}
use Rattle.verdict.specs.declared.Rule.TheVariants as why
use Rattle.history.proofs.Related.{step_counts, Held, RelatedTo}
use Rattle.history.proofs.Parts.{good_loaded}
use Rattle.history.proofs.Row.{alone}
use Rattle.history.proofs.Sources.{source_parts_lem, source_listed, source_image}
use Rattle.history.proofs.Sound.{sound_empty, sound_held, stage_held}
use Rattle.seq.proofs.Lists.{clash}
use Rattle.seq.proofs.Tests.{or_none_left, or_none_right}
use Rattle.table.specs.declared.Table.{Table}
use Rattle.table.specs.Record.{record_verdict}
use Rattle.verdict.specs.Rules.{refusal, judge, Verdict}
use Rattle.verdict.proofs.Rules.{or_else_left, or_else_right, refuse_if_accepted}
use Rattle.verdict.proofs.Writer.{take_over, length_over}

pub load_empty : (t : Table) (x : Source) (s : State) → s.job ≡ empty_job → load_verdict t x s ≡ refused_by (load t x) (lengths_of s) empty
unfolding load_verdict refused_by lengths_of empty_job
load_empty t x s q = rw (sound_empty s q, q)

pub load_held : (t : Table) (x : Source) {s : State} {e : Entry} {n : ℕ} → Held s e n → load_verdict t x s ≡ Err (refusal why.NotCollected 0)
unfolding load_verdict
load_held t x r = simp (sound_held r, r.job, stage_held)

refused_held : (t : Table) (x : Source) (n : Lengths) (e : Entry) → refused_by (load t x) n (holds e) ≡ Err (refusal why.NotCollected 0)
unfolding refused_by
refused_held t x n e = refl

-- what an accepted load has shown
record Fits (t : Table) (x : Source) (s : State) : Type 0 where
  table : record_verdict t ≡ Ok tt
  source : source_verdict x ≡ Ok tt
  first_long : source_width x * source_height x ≤ length s.first
  second_long : source_width x * source_height x ≤ length s.second

fits : (t : Table) (x : Source) (s : State) → refused_by (load t x) (lengths_of s) empty ≡ Ok tt → Fits t x s
unfolding refused_by lengths_of
fits t x s a = record {
  table = or_else_left (record_verdict t) rest a;
  source = or_else_left (source_verdict x) (judge (areas ∷ [])) after_table;
  first_long = ltb-false (length s.first) _ (or_none_left (ltb (length s.first) size) (ltb (length s.second) size) long);
  second_long = ltb-false (length s.second) _ (or_none_right (ltb (length s.first) size) (ltb (length s.second) size) long);
}
  where
    size : ℕ
    size = source_width x * source_height x

    areas : Verdict
    areas = areas_rule x (length s.first) (length s.second)

    rest : Verdict
    rest = judge (source_verdict x ∷ areas ∷ [])

    after_table : rest ≡ Ok tt
    after_table = or_else_right (record_verdict t) rest a

    long : (ltb (length s.first) size || ltb (length s.second) size) ≡ false
    long =
        refuse_if_accepted (ltb (length s.first) size || ltb (length s.second) size) why.AreaShort 0
        (or_else_left areas (Ok tt) (or_else_right (source_verdict x) (judge (areas ∷ [])) after_table))

-- the image is read back from the first area, and there is no step yet
load_entered : (t : Table) (x : Source) (s : State) → Fits t x s → Held (load_as (Ok tt) t x s) (entered t x) 0
unfolding entered loaded_job step_counts image present
load_entered t x s y = let sized = (source_image x y.source).sized in record {
  job = refl;
  accepted = y.table;
  parts = good_loaded (loaded_job t x) (source_listed x y.source) refl (sym (source_parts_lem x)) refl refl refl refl;
  listed = source_listed x y.source;
  first_long = rw (length_over (source_pixels x) s.first (omega (arith, y.first_long))) y.first_long;
  second_long = y.second_long;
  shown = take_over (source_pixels x) s.first _ sized;
  begun = source_image x y.source;
  row = alone;
  stable = λ q. clash q refl;
  tallied = refl;
}

pub load_keeps : (t : Table) (x : Source) (s : State) (H : History) (n : ℕ) → RelatedTo s H n
    → RelatedTo (load_state t x s) (after (load t x) (lengths_of s) H) (tally_as (refused_by (load t x) (lengths_of s) H) (load t x) H n)
unfolding load_state after barred_by accepted tallied
load_keeps t x s empty n q = rw (load_empty t x s q) (go (refused_by (load t x) (lengths_of s) empty) refl)
  where
    go : (v : Verdict) → refused_by (load t x) (lengths_of s) empty ≡ v
        → RelatedTo (load_as v t x s) (after_as v (load t x) empty) (tally_as v (load t x) empty n)
    go (Ok _) a = load_entered t x s (fits t x s a)
    go (Err r) a = q
load_keeps t x s (holds e) n r = rw (load_held t x r, refused_held t x (lengths_of s) e) r
