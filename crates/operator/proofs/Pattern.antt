-- Truth values as the bits of a number, and the pattern of nine pixels.
--     bits_tab       a number made of a table of truth values has them as its bits
--     pattern_lt     the pattern of nine pixels of value 0 and 1
-- Assumes nothing.
use mathlib.Core.Bool.{Bool, true, false}
use mathlib.Core.List.{List}
use mathlib.Core.Path.{◌≡◌, sym, ap, ◌∙◌}
use Prim.Native.Nat.{ℕ, zero, suc, ◌+◌, ◌*◌, ◌%◌, ◌≤◌, ◌<◌}
use native.Mathlib.Nat.{not-suc-le-zero, le_of_suc-le-suc, div-one}
use native.Mathlib.Omega.{arith}
use lib.Dec.{leb, lit<}
use Rattle.seq.specs.Bits.{bit}
use Rattle.seq.specs.Lists.{all, one}
use Rattle.seq.specs.Tab.{tab}
use Rattle.seq.proofs.Bits.{bit_half, bit_one, bit_none}
use Rattle.seq.proofs.Lists.{one_le}
use Rattle.image.proofs.PixelsOf.{binary_at}
use Rattle.table.specs.Mask.{position_count}
use Rattle.operator.specs.Preview.{from_bits, pattern}
use Rattle.operator.specs.Window.{site_row, site_col, window, window_at}
use Rattle.operator.proofs.Window.{window_at_lem}

-- the lowest bit of b + 2 · x is b
bit_first : (b : Bool) (x : ℕ) → bit (one b + 2 * x) 0 ≡ b
bit_first true x = bit_one (1 + 2 * x) 0 (ap (λ (m : ℕ). m % 2) (div-one (1 + 2 * x)) ∙ omega arith)
bit_first false x = bit_none (0 + 2 * x) 0 (λ e. omega (arith, ap (λ (m : ℕ). m % 2) (div-one (0 + 2 * x))))

pub bits_tab : (p : ℕ → Bool) (n k : ℕ) → k < n → bit (from_bits (tab (λ i. one (p i)) n)) k ≡ p k
bits_tab p zero k l = absurd (not-suc-le-zero l)
bits_tab p (suc n) zero l = bit_first (p zero) (from_bits (tab (λ i. one (p (suc i))) n))
bits_tab p (suc n) (suc k) l =
    step (p zero) (from_bits (tab (λ i. one (p (suc i))) n)) ∙ bits_tab (λ i. p (suc i)) n k (le_of_suc-le-suc l)
  where
    step : (b : Bool) (x : ℕ) → bit (one b + 2 * x) (suc k) ≡ bit x k
    step b x = sym (bit_half (one b + 2 * x) k) ∙ ap (λ (m : ℕ). bit m k) (omega (arith, one_le b))

-- nine values of 0 and 1 make a number below 512
pub pattern_lt : (w h : ℕ) (img : List ℕ) (r c : ℕ) → all (λ v. leb v 1) img ≡ true → pattern (window w h img r c) < 512
unfolding pattern
pattern_lt w h img r c e =
    omega (arith, bound 6 (lit< tt), bound 7 (lit< tt), bound 8 (lit< tt), bound 11 (lit< tt), bound 12 (lit< tt), bound 13 (lit< tt), bound 16 (lit< tt), bound 17 (lit< tt), bound 18 (lit< tt))
  where
    bound : (n : ℕ) → n < position_count → window_at (window w h img r c) n ≤ 1
    bound n l = rw (window_at_lem w h img r c n l) (binary_at img (site_row h r n * w + site_col w c n) e)
