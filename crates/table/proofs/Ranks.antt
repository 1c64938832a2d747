-- Several persistent elements in one table, proved (specs/Ranks).
-- Assumes nothing.
use Rattle.std.specs.Prelude.{Option, None, is_some, Ok}
use mathlib.Core.Bool.{Bool, true, false, not, ◌||◌}
use mathlib.Core.List.{Memᴰ}
use mathlib.Core.Path.{◌≡◌, refl, ap, ap₂}
use Prim.Native.Nat.{ℕ, ◌<◌}
use Rattle.seq.specs.Tab.{first, first_or}
use Rattle.seq.proofs.Tab.{first_none}
use Rattle.table.specs.declared.Table.{Table}
use Rattle.table.specs.Mask.{valid_mask, persistent_for}
use Rattle.table.specs.Ranks.{alone, Ranks}
use Rattle.table.specs.Record.{element, persistents, not_rising, bad_ranks, bad_mask, bad_element, bad_persistent, bad_place, disjoint_from, missed_by, missed_refusal, meet_rule, persist_rule, record_verdict}
use Rattle.table.proofs.Facts.{few_ranks, past_ranks, ranks_rise, valid_persistent, persist_at, at_persistents}
use Rattle.table.proofs.Verdicts.{lowest_persistent, Sound, record_sound, sound_record}
use Rattle.verdict.specs.Rules.{refuse_by, or_else}
use Rattle.verdict.proofs.Rules.{or_else_left}

module _ (t : Table) (s : Sound t) (K : ℕ) (m : Memᴰ K (persistents t)) where
  valid : valid_mask K ≡ true
  valid = at_persistents t (λ x. valid_mask x ≡ true) (valid_persistent t s) K m

  -- K in its place, and zeros behind it
  ordered : lowest_persistent (alone t K) ≡ None
  unfolding bad_persistent bad_place bad_mask not_rising
  ordered = ap (λ (b : Bool). first_or (not b || false) None) valid

  none_missed : (k : ℕ) → k < t.count → is_some (missed_by (alone t K) k) ≡ false
  unfolding missed_by
  none_missed k l = ap (λ (b : Bool). is_some (first (λ r. not b) 1)) (at_persistents t (λ x. persistent_for x (element t k) ≡ true) (λ r i. persist_at t s k r l i) K m)

  sound_alone : Sound (alone t K)
  unfolding disjoint_from bad_element bad_ranks
  sound_alone =
      record {
        counted = s.counted;
        placed = s.placed;
        ranked = refl;
        ordered = ordered;
        related =
            ap₂ or_else (or_else_left (meet_rule t) (persist_rule t) s.related)
            (ap (λ (o : Option ℕ). refuse_by o (missed_refusal (alone t K))) (first_none (λ k. is_some (missed_by (alone t K) k)) t.count none_missed));
      }

pub accepted_ranks : (t : Table) → record_verdict t ≡ Ok tt → Ranks t
accepted_ranks t ok =
    record {
      few = few_ranks t s;
      rising = ranks_rise t s;
      zero_past = past_ranks t s;
      each_alone = λ K m. sound_record (alone t K) (sound_alone t s K m);
    }
  where
    s : Sound t
    s = record_sound t ok
