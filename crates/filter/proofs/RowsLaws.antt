-- Marks of rows, and what they say of a next pass.
--     or_none              a join of no marks has none
--     spread_more      marks that are spread: one join more
--     quiet_next                    where no row within reach changed in a pass, the next pass changes nothing
--     turned_kept, kept_turned      a pixel of the image after the changes S stays exactly where S does not hold
--     still_next                    the marks of a pass, spread, are marks for the next pass
-- Assumes nothing.
use mathlib.Core.Bool.{Bool, true, false}
use mathlib.Core.List.{List}
use mathlib.Core.Logic.{⊎_elim}
use mathlib.Core.Path.{◌≡◌, refl, sym, ◌∙◌}
use Prim.Native.Nat.{ℕ, ◌+◌, ◌-◌, ◌≤◌, ◌<◌}
use native.Mathlib.Nat.{eq-or-lt_of_le}
use native.Mathlib.Omega.{arith}
use lib.Bits.{bit_and, bit_or, or_add_and, and_le_l, and_comm}
use lib.ListN.{get_or}
use Rattle.filter.specs.Code.Plane.{rim}
use Rattle.filter.specs.Code.Rows.{nearby, Quiet, Spread}
use Rattle.filter.specs.Code.Turn.{Still, turned}
use Rattle.filter.proofs.TurnImage.{turned_at_lem}
use Rattle.operator.proofs.Locality.{locality}
use Rattle.operator.specs.Image.{pixel}
use Rattle.operator.specs.Locality.{reach}
use Rattle.operator.specs.Pass.{pass}
use Rattle.seq.specs.Loops.{Swept}
use Rattle.table.specs.declared.Table.{Table}

pub or_none : (a b : ℕ) → bit_or a b ≡ 0 → (a ≡ 0) × (b ≡ 0)
or_none a b e =
    let s : bit_or a b + bit_and a b ≡ a + b = or_add_and a b in
    let l : bit_and a b ≤ a = and_le_l a b in
    let r : bit_and b a ≤ b = and_le_l b a in
    (omega (arith, and_comm a b), omega (arith, and_comm a b))

module _ {c d l m : List ℕ} {h n : ℕ} where
  pub spread_more : Spread n c h d l → Swept (λ j. bit_or (get_or l j 0) (get_or c (n + j) 0)) l m 0 h → Spread (n + 1) c h d m
  spread_more s t = record { long = t.long ∙ s.long; clear = clear; behind = λ j a. t.after j a ∙ s.behind j a }
    where
      clear : (i : ℕ) → i < h → get_or m i 0 ≡ 0 → (e : ℕ) → e < n + 1 → get_or c (i + e) 0 ≡ 0
      clear i a z e b =
          let both = or_none (get_or l i 0) (get_or c (n + i) 0) (sym (t.inner i (omega arith) a) ∙ z) in
          ⊎_elim (λ q. let g : i + e ≡ n + i = omega arith in rw g both.1) (s.clear i a both.0 e) (eq-or-lt_of_le (omega arith))

-- a row with no mark kept its pixels; the mark of row r stands at reach + r
pub quiet_next : (t : Table) (w h : ℕ) (img c : List ℕ)
    → ((r : ℕ) → r < h → get_or c (reach + r) 0 ≡ 0 → (x : ℕ) → x < w → pixel w (pass t w h img) r x ≡ pixel w img r x)
    → (i x : ℕ) → i < h → x < w → Quiet c i → pixel w (pass t w h (pass t w h img)) i x ≡ pixel w (pass t w h img) i x
quiet_next t w h img c kept i x a b quiet = locality t w h (pass t w h img) img 1 i x a b alike
  where
    alike : (r y : ℕ) → r < h → y < w → (i ≤ r + reach) × (r ≤ i + reach) → (x ≤ y + reach) × (y ≤ x + reach) → pixel w (pass t w h img) r y ≡ pixel w img r y
    alike r y p q rows columns =
        let g : i + (r + reach - i) ≡ reach + r = omega arith in
        kept r p (rw g at (quiet (r + reach - i) (omega arith))) y q

module _ (S : ℕ → ℕ → Bool) (w h : ℕ) (img : List ℕ) (r x : ℕ) (i : r < h) (j : x < w) where
  pub turned_kept : S r x ≡ false → pixel w (turned S w h img) r x ≡ pixel w img r x
  turned_kept e = turned_at_lem w h img S r x i j ∙ rw e refl

  -- no number p is 1 − p
  pub kept_turned : pixel w (turned S w h img) r x ≡ pixel w img r x → S r x ≡ false
  kept_turned e = by (S r x) refl
    where
      by : (b : Bool) → S r x ≡ b → b ≡ false
      by true q = let g : 1 - pixel w img r x ≡ pixel w img r x = rw q at (sym (turned_at_lem w h img S r x i j) ∙ e) in absurd (omega arith)
      by false q = refl

-- S are the changes of a pass, and T those of the next
pub still_next : (t : Table) (w h : ℕ) (img : List ℕ) (S T : ℕ → ℕ → Bool) {c d l : List ℕ}
    → turned S w h img ≡ pass t w h img → turned T w h (pass t w h img) ≡ pass t w h (pass t w h img)
    → Still S w h rim c → Spread nearby c h d l → Still T w h 0 l
still_next t w h img S T {c} {d} {l} e f s p = record { still = still }
  where
    kept : (r : ℕ) → r < h → get_or c (reach + r) 0 ≡ 0 → (x : ℕ) → x < w → pixel w (pass t w h img) r x ≡ pixel w img r x
    kept r i z x j = rw e at (turned_kept S w h img r x i j (s.still r x i j z))

    still : (r x : ℕ) → r < h → x < w → get_or l (0 + r) 0 ≡ 0 → T r x ≡ false
    still r x i j z =
        let g : 0 + r ≡ r = omega arith in
        kept_turned T w h (pass t w h img) r x i j (rw f (quiet_next t w h img c kept r x i j (p.clear r i (rw g at z))))
