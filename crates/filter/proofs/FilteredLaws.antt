-- A pass from pixels to pixels.
--     switched_image      the image after a pass is one
--     shown_over          rows that are shown, over rows that were right before, are the image
--     all_fresh           where every row is marked, all rows are shown
--     still_all           and any pixel may change
--     filtered            the image after a pass, shown whole
-- Assumes nothing.
use mathlib.Core.Bool.{Bool, true, false, cond}
use mathlib.Core.List.{List, ◌++◌}
use mathlib.Core.Path.{◌≡◌, refl, sym, ap, ◌∙◌}
use Prim.Native.Nat.{ℕ, zero, suc, ◌+◌, ◌-◌, ◌*◌, ◌/◌, ◌%◌, ◌≤◌, ◌<◌}
use native.Mathlib.Omega.{arith}
use borrow.Author.Tests.{le-leb}
use lib.ListN.{length, get_or, drop}
use Rattle.filter.specs.Applied.{switches, switched_at, switched}
use Rattle.filter.specs.Code.Blocks.{Advanced, Switched, Fresh}
use Rattle.filter.specs.Code.Plane.{Shown}
use Rattle.filter.specs.Code.Turn.{Still}
use Rattle.image.proofs.PixelsOf.{binary_at}
use Rattle.operator.specs.Image.{pixel, IsImage}
use Rattle.seq.specs.Loops.{Swept}
use Rattle.seq.proofs.Grid.{by_cell}
use Rattle.seq.proofs.Loops.{sweep_front}
use Rattle.seq.proofs.Members.{all_tab}
use Rattle.seq.proofs.Tab.{length_tab, tab_get_d}
use Rattle.table.specs.declared.Table.{Table}
use Rattle.verdict.specs.Writer.{over}

pub switched_image : (t : Table) {w h : ℕ} {img : List ℕ} → IsImage w h img → IsImage w h (switched t w h img)
unfolding switched switched_at
switched_image t {w} {h} {img} m = record {
  wide = m.wide;
  high = m.high;
  sized = length_tab _ (w * h);
  binary = all_tab _ (λ i. switched_at t w h img (i / w) (i % w)) (w * h)
      (λ i _. le-leb _ 1 (small (switches t w h img (i / w) (i % w)) (pixel w img (i / w) (i % w)) (binary_at img (i / w * w + i % w) m.binary)));
}
  where
    small : (b : Bool) (p : ℕ) → p ≤ 1 → cond b (1 - p) p ≤ 1
    small true p l = omega arith
    small false p l = l

pub shown_over : {w h : ℕ} {img marks d l : List ℕ} → IsImage w h img → w * h ≤ length d → Fresh w h img marks d → Shown w h img marks d l → l ≡ over img d
unfolding over
shown_over {w} {h} {img} {marks} {d} {l} m room fresh s =
    sweep_front whole room ∙ rw (sym m.sized) (ap (λ (x : List ℕ). x ++ drop (length img) d) (tab_get_d img 0))
  where
    at : (r c : ℕ) → r < h → c < w → get_or l (r * w + c) 0 ≡ get_or img (r * w + c) 0
    at r c i j = row (get_or marks r 0) refl
      where
        row : (n : ℕ) → get_or marks r 0 ≡ n → get_or l (r * w + c) 0 ≡ get_or img (r * w + c) 0
        row zero e = s.other r c i j e ∙ fresh.same r c i j e
        row (suc n) e = s.marked r c i j (λ z. omega arith)

    whole : Swept (λ j. get_or img j 0) d l 0 (w * h)
    whole = record { long = s.long; inner = λ j _ q. by_cell w h (λ i. get_or l i 0 ≡ get_or img i 0) at j q; before = λ j q. absurd (omega arith); after = s.behind }

-- where every row is marked there is none to be right before, and none in which no pixel may change
module _ {h : ℕ} {marks : List ℕ} (low : h ≤ 256) (all : (i : ℕ) → i < 256 → get_or marks i 0 ≡ 1) where
  pub all_fresh : (w : ℕ) (img d : List ℕ) → Fresh w h img marks d
  all_fresh w img d = record { same = λ r c i j z. absurd (omega (arith, all r (omega arith))) }

  pub still_all : (S : ℕ → ℕ → Bool) (w : ℕ) → Still S w h 0 marks
  still_all S w = record { still = λ r c i j z. absurd (omega (arith, all (0 + r) (omega arith))) }

pub filtered : {t : Table} {w h : ℕ} {px plane marks e d l : List ℕ} {a b : ℕ} → IsImage w h px → h ≤ 256 → w * h ≤ length d → ((i : ℕ) → i < 256 → get_or marks i 0 ≡ 1)
    → Advanced t w h px plane e a b → Shown w h (switched t w h px) marks d l → Switched t w h px d l a b
filtered {t} {w} {h} {px} {d = d} m low room all r s =
    record { filled = shown_over (switched_image t m) room (all_fresh low all w (switched t w h px) d) s; more = r.more; less = r.less }
