-- The walk over the parts of a strip.
--     PartsMade t w h px hs d l more less from i     the first i parts are written and counted, and from is the row behind them
--     parts_fit, parts_more, parts_all   the part at hand, one part more, and its end
-- Assumes nothing.
use mathlib.Core.List.{List, ◌++◌}
use mathlib.Core.Path.{◌≡◌, refl, sym, ap, ap₂, ◌∙◌, subst}
use Prim.Native.Nat.{ℕ, ◌+◌, ◌*◌, ◌≤◌, ◌<◌}
use native.Mathlib.Nat.{mul-le-mul_left}
use native.Mathlib.Omega.{arith}
use lib.ListN.{length, get_or, drop, set, replicate, get_or-replicate}
use lib.Seq.{take_all}
use Rattle.filter.specs.Code.Strip.{RowsChanged, RowsMade}
use Rattle.image.specs.declared.strip.PartCounts.{PartCounts}
use Rattle.image.specs.Parts.{above}
use Rattle.image.specs.Strip.{max_parts}
use Rattle.image.proofs.Parts.{part_ends}
use Rattle.operator.specs.Parts.{added_in, removed_in, part_counts}
use Rattle.operator.specs.Pass.{pass}
use Rattle.operator.proofs.Bands.{pass_length}
use Rattle.operator.proofs.PartCounts.{added_past, removed_past}
use Rattle.seq.specs.Lists.{sum_of}
use Rattle.seq.specs.Loops.{Swept}
use Rattle.seq.specs.Tab.{Filled}
use Rattle.seq.proofs.Fronts.{sum_front}
use Rattle.seq.proofs.Joins.{fill_rest}
use Rattle.seq.proofs.Loops.{sweep_end, sweep_join, sweep_front}
use Rattle.seq.proofs.Tab.{tab_get_d, fill_more}
use Rattle.table.specs.declared.Table.{Table}
use Rattle.verdict.specs.Writer.{over}

abbrev zeros : List ℕ
zeros = replicate max_parts 0

-- the record of the parts' places is filled, zeros past them
pub record PartsMade (t : Table) (w h : ℕ) (px hs d l more less : List ℕ) (from i : ℕ) : Type 0 where
  pub within : i ≤ length hs
  pub place : from ≡ above hs i
  pub filled : Swept (λ j. get_or (pass t w h px) j 0) d l 0 (w * from)
  pub added : Filled (added_in w hs px (pass t w h px)) zeros more i
  pub removed : Filled (removed_in w hs px (pass t w h px)) zeros less i

module _ {t : Table} {w h : ℕ} {px hs d l more less : List ℕ} {from i : ℕ} (s : PartsMade t w h px hs d l more less from i) where
  module _ (here : i < length hs) where
    pub parts_fit : h ≡ sum_of hs → from + get_or hs i 0 ≤ h
    parts_fit e = omega (arith, s.place, part_ends hs i here)

    pub parts_more : length hs ≤ max_parts → {k : List ℕ} {x y : ℕ} → RowsMade t w h px from (get_or hs i 0) l k x y
        → PartsMade t w h px hs d k (set more i x) (set less i y) (from + get_or hs i 0) (i + 1)
    parts_more few {k} {x} {y} made = record {
      within = omega arith;
      place = omega (arith, s.place, sum_front hs i here);
      filled = sweep_join s.filled made.filled (omega arith) (mul-le-mul_left w (omega arith)) (λ j p q. refl);
      added = fill_more s.added (omega arith) changed.more;
      removed = fill_more s.removed (omega arith) changed.less;
    }
      where
        changed : RowsChanged t w h px (above hs i) (get_or hs i 0) x y
        changed = subst (λ (r : ℕ). RowsChanged t w h px r (get_or hs i 0) x y) s.place made.changed

  pub parts_all : h ≡ sum_of hs → length hs ≤ i → w * h ≤ length d
      → (◌≡◌ {A = PartCounts} (record { added = more; removed = less }) (part_counts w hs px (pass t w h px))) × (l ≡ over (pass t w h px) d)
  unfolding part_counts over
  parts_all e past room = (
    ap₂ (λ (a b : List ℕ). record { added = a; removed = b })
        (fill_rest 0 s.added (λ k p q. get_or-replicate max_parts k 0 0 q ∙ sym (added_past w hs px (pass t w h px) k (omega arith))))
        (fill_rest 0 s.removed (λ k p q. get_or-replicate max_parts k 0 0 q ∙ sym (removed_past w hs px (pass t w h px) k (omega arith)))),
    sweep_front whole room
        ∙ rw (sym (pass_length t w h px)) (ap (λ (x : List ℕ). x ++ drop (length (pass t w h px)) d) (tab_get_d (pass t w h px) 0)),
  )
    where
      rows : from ≡ h
      rows = s.place ∙ ap sum_of (take_all i hs past) ∙ sym e

      whole : Swept (λ j. get_or (pass t w h px) j 0) d l 0 (w * h)
      whole = sweep_end (w * h) s.filled (ap (λ (k : ℕ). w * k) rows)
