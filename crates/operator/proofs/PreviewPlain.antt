-- The preview is the plain rule of the 56 five-point subsets of the eight neighbours: at a pixel both depend on the nine pixels around it
-- only, and one computed test compares them for the 512 patterns.
--     plain_of p         the plain rule on a pattern
--     value_at          the bits of a window's pattern are its values
--     preview_plain     the claim
-- Assumes nothing.
use mathlib.Core.Bool.{Bool, true, cond, ◌&&◌}
use mathlib.Core.List.{List, Memᴰ}
use mathlib.Core.Path.{◌≡◌, refl, sym, ap, ap₂, ◌∙◌}
use Prim.Native.Nat.{ℕ, zero, suc, ◌+◌, ◌-◌, ◌*◌, ◌/◌, ◌%◌, ◌≤◌, ◌<◌}
use native.Mathlib.Omega.{arith}
use borrow.Author.Tests.{eqb-true, ltb-true}
use lib.Dec.{eqb, ltb, lit<}
use lib.ListN.{length, replicate}
use lib.Seq.{take-append_seam}
use Rattle.seq.specs.Bits.{bit, bits_of}
use Rattle.seq.specs.Lists.{any, all, one}
use Rattle.seq.specs.Tab.{up_to}
use Rattle.seq.proofs.Bits.{bits_of_elim}
use Rattle.seq.proofs.Grid.{grid_ext}
use Rattle.seq.proofs.Lists.{and_left, and_right, any_ext, all_ext, all_elim}
use Rattle.seq.proofs.Tab.{tab_ext, up_to_intro}
use Rattle.image.proofs.PixelsOf.{binary_at}
use Rattle.table.specs.Mask.{position_count, centre, positions}
use Rattle.table.specs.Record.{masks}
use Rattle.operator.specs.Image.{pixel, IsImage}
use Rattle.operator.specs.Plain.{opposed, plain_at, plain}
use Rattle.operator.specs.Preview.{from_bits, pattern, five_or_more, preview, chosen, median_elements, median_table, Preview}
use Rattle.operator.specs.Window.{site_row, site_col, window, window_at}
use Rattle.operator.proofs.Pattern.{bits_tab, pattern_lt}
use Rattle.operator.proofs.Window.{window_at_lem}

-- the bit of a pattern that stands for position n, and the position of bit k
abbrev spot : ℕ → ℕ
spot n = 3 * (n / 5 - 1) + (n % 5 - 1)

abbrev place : ℕ → ℕ
place k = 5 * (k / 3 + 1) + (k % 3 + 1)

abbrev value : ℕ → ℕ → ℕ
value p n = one (bit p (spot n))

-- some element has the value v at all its positions
abbrev opposes : ℕ → ℕ → Bool
opposes p v = any (λ e. all (λ n. eqb (value p n) v) (positions e)) median_elements

abbrev plain_of : ℕ → ℕ
plain_of p = cond (opposes p (1 - value p centre)) (1 - value p centre) (value p centre)

all_plain : all (λ p. eqb (five_or_more p) (plain_of p)) (up_to 512) ≡ true
unfolding five_or_more median_elements chosen positions bits_of bit up_to
all_plain = refl

-- n is one of the nine positions
abbrev inner : ℕ → Bool
inner n = eqb (place (spot n)) n && ltb (spot n) 9

all_inner : all (λ e. all inner (positions e)) median_elements ≡ true
unfolding median_elements chosen positions bits_of bit up_to
all_inner = refl

masks_median : masks median_table ≡ median_elements
unfolding masks median_table
masks_median = take-append_seam median_elements (replicate (64 - length median_elements) 0)

position_lt : (e : ℕ) {n : ℕ} → Memᴰ n (positions e) → n < position_count
unfolding positions
position_lt e m = (bits_of_elim position_count e m).0

-- a value that is 0 or 1 is its own test
own : (v : ℕ) → v ≤ 1 → one (eqb v 1) ≡ v
own zero h = refl
own (suc zero) h = refl
own (suc (suc v)) h = absurd (omega arith)

value_at : (win : List (List ℕ)) → ((n : ℕ) → n < position_count → window_at win n ≤ 1) → (n : ℕ) → inner n ≡ true → value (pattern win) n ≡ window_at win n
unfolding pattern
value_at win h n e =
    ap (λ (p : ℕ). one (bit p (spot n))) (ap from_bits (tab_ext (λ k. window_at win (place k)) (λ k. one (q k)) 9 (λ k l. sym (own (window_at win (place k)) (h (place k) (omega arith))))))
    ∙ ap one (bits_tab q 9 (spot n) small)
    ∙ ap (λ (m : ℕ). one (eqb (window_at win m) 1)) there
    ∙ own (window_at win n) (rw there at (h (place (spot n)) (omega (arith, small))))
  where
    q : ℕ → Bool
    q k = eqb (window_at win (place k)) 1

    small : spot n < 9
    small = ltb-true (spot n) 9 (and_right (eqb (place (spot n)) n) (ltb (spot n) 9) e)

    there : place (spot n) ≡ n
    there = eqb-true (place (spot n)) n (and_left (eqb (place (spot n)) n) (ltb (spot n) 9) e)

module _ (w h : ℕ) (img : List ℕ) (is : IsImage w h img) (r c : ℕ) (hr : r < h) (hc : c < w) where
  abbrev win : List (List ℕ)
  win = window w h img r c

  abbrev site : ℕ → ℕ
  site n = pixel w img (site_row h r n) (site_col w c n)

  site_at_lem : (n : ℕ) → n < position_count → inner n ≡ true → value (pattern win) n ≡ site n
  site_at_lem n l e = value_at win binary n e ∙ window_at_lem w h img r c n l
    where
      binary : (m : ℕ) → m < position_count → window_at win m ≤ 1
      binary m k = rw (window_at_lem w h img r c m k) (binary_at img (site_row h r m * w + site_col w c m) is.binary)

  -- the pixel itself is position 12
  centre_at : value (pattern win) centre ≡ pixel w img r c
  centre_at = site_at_lem centre (lit< tt) refl ∙ ap₂ (pixel w img) (omega arith) (omega arith)

  opposes_at : (v : ℕ) → opposes (pattern win) v ≡ opposed median_table w h img v r c
  unfolding opposed
  opposes_at v =
      any_ext (λ e. all (λ n. eqb (value (pattern win) n) v) (positions e)) (λ e. all (λ n. eqb (site n) v) (positions e)) median_elements
      (λ e m. all_ext (λ n. eqb (value (pattern win) n) v) (λ n. eqb (site n) v) (positions e)
      (λ n i. ap (λ (x : ℕ). eqb x v) (site_at_lem n (position_lt e i) (all_elim inner (all_elim (λ e. all inner (positions e)) all_inner m) i))))
      ∙ ap (any (λ e. all (λ n. eqb (site n) v) (positions e))) (sym masks_median)

  plain_at_lem : five_or_more (pattern win) ≡ plain_at median_table w h img r c
  unfolding plain_at
  plain_at_lem =
      eqb-true (five_or_more (pattern win)) (plain_of (pattern win))
      (all_elim (λ p. eqb (five_or_more p) (plain_of p)) all_plain (up_to_intro (pattern_lt w h img r c is.binary)))
      ∙ ap (λ (v : ℕ). cond (opposes (pattern win) (1 - v)) (1 - v) v) centre_at
      ∙ ap (λ (b : Bool). cond b (1 - pixel w img r c) (pixel w img r c)) (opposes_at (1 - pixel w img r c))

pub preview_plain : Preview
unfolding preview plain
preview_plain w h img is = grid_ext w h (λ r c. five_or_more (pattern (window w h img r c))) (plain_at median_table w h img) (plain_at_lem w h img is)
