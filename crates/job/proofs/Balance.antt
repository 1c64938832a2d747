-- The balance as a signed number of 64 bits.
--     sub_pos           a difference of two numbers as integers
--     balance_stored    a difference of small numbers is what the code computes, where a variant holds it
-- Assumes nothing.
use mathlib.Core.Bool.{Bool, true, false, cond}
use mathlib.Core.Path.{◌≡◌, refl, ap, ap₂, ◌∙◌}
use Prim.Native.Nat.{ℕ, zero, suc, ◌+◌, ◌-◌, ◌^◌, ◌≤◌, ◌<◌}
use native.Mathlib.Omega.{arith}
use borrow.Author.Tests.{le-ltb}
use lib.Dec.{ltb}
use lib.IntN.{ℤ, pos, negsuc, sub_ℕ, ◌-ℤ◌}
use lib.Signed.{mag}
use mir.Syntax.{w64}
use mir.Val.{SFits, to_z, of_z}
use mir.ValLaws.{to_z_pos, to_z-of_z}
use Rattle.image.specs.Strip.{max_strip}

sub_pos : (a b : ℕ) → pos a -ℤ pos b ≡ sub_ℕ a b
sub_pos a zero = rw (le-ltb a 0 (omega arith)) (ap pos (omega arith))
sub_pos a (suc b) = refl

module _ (a b : ℕ) (h : a + b ≤ max_strip) where
  fits : SFits w64 (sub_ℕ a b)
  fits = record { sfits = by (ltb a b) refl }
    where
      by : (t : Bool) → ltb a b ≡ t → mag (cond t (negsuc (b - suc a)) (pos (a - b))) < 2 ^ 63
      by true e = omega arith
      by false e = omega arith

  difference : to_z w64 a -ℤ to_z w64 b ≡ sub_ℕ a b
  difference = ap₂ ◌-ℤ◌ (to_z_pos w64 a (omega arith)) (to_z_pos w64 b (omega arith)) ∙ sub_pos a b

  -- as the variant of an enum stores it
  pub balance_stored : {z : ℤ} → z ≡ sub_ℕ a b → to_z w64 (of_z w64 z) ≡ sub_ℕ a b
  balance_stored e = rw e (to_z-of_z w64 (sub_ℕ a b) fits)
