-- An opened pixel has the value for which it is opened, and no pass changes it: the code tests only other pixels.
--     not_self, by_value    no truth value is its negation, and what holds of 0 and 1 holds of a pixel
--     opened_pixel          an opened pixel's value
--     opened_kept           it is not held for the other value
-- Assumes nothing.
use Rattle.std.specs.Prelude.{Ok}
use mathlib.Core.Bool.{Bool, true, false, not, true≢false, false≢true}
use mathlib.Core.List.{List}
use mathlib.Core.Path.{◌≡◌, sym, ap₂, ◌∙◌, subst}
use Prim.Native.Nat.{ℕ, ◌+◌, ◌-◌, ◌*◌, ◌≤◌, ◌<◌}
use native.Mathlib.Omega.{arith}
use borrow.Author.Tests.{eqb-true}
use lib.Dec.{eqb}
use Rattle.operator.specs.Image.{pixel, IsImage}
use Rattle.operator.specs.Pass.{placed, inside, solid, opened, held}
use Rattle.morph.proofs.Operator as sites
use Rattle.seq.specs.Lists.{one, any}
use Rattle.seq.proofs.Lists.{not_true_false, any_elim, all_elim, and_right}
use Rattle.table.specs.declared.Table.{Table}
use Rattle.table.specs.Mask.{across, down, positions}
use Rattle.table.specs.Record.{persistents, record_verdict}
use Rattle.operator.proofs.Image.{one_not, value_one, black_of, image_shows}
use Rattle.operator.proofs.Operator.{opened_shows, held_shows}
use Rattle.operator.proofs.System.{lawful}

not_self : (b : Bool) → b ≡ not b → ⊥
not_self true e = true≢false e
not_self false e = false≢true e

by_value : (P : ℕ → Type 0) → ((b : Bool) → P (one b)) → (v : ℕ) → v ≤ 1 → P v
by_value P f v l = subst P (sym (value_one v l)) (f (eqb v 1))

-- the translate that opens a pixel contains it
pub opened_pixel : (t : Table) (w h : ℕ) (img : List ℕ) (v r c : ℕ) → opened t w h img v r c ≡ true → pixel w img r c ≡ v
unfolding opened solid
opened_pixel t w h img v r c o =
    let (K, k, q) = any_elim (λ K. any (solid w h img v r c K) (positions K)) (persistents t) o in
    let (b, m, x) = any_elim (solid w h img v r c K) (positions K) q in
    let same = and_right (inside w h r c b b) _ (all_elim _ x m) in
    ap₂ (pixel w img) (omega arith) (omega arith) ∙ eqb-true (pixel w img (placed r (down b) (down b)) (placed c (across b) (across b))) v same

module _ (t : Table) (w h : ℕ) (img : List ℕ) (ok : record_verdict t ≡ Ok tt) (m : IsImage w h img) where
  pub opened_kept : (v r c : ℕ) → v ≤ 1 → r < h → c < w → opened t w h img v r c ≡ true → held t w h img (1 - v) r c ≡ false
  opened_kept v r c l i j = by_value (λ u. opened t w h img u r c ≡ true → held t w h img (1 - u) r c ≡ false) at_value v l
    where
      at_value : (b : Bool) → opened t w h img (one b) r c ≡ true → held t w h img (1 - one b) r c ≡ false
      at_value b o =
          let s = sym (opened_shows t (image_shows m) b r c i j) ∙ o in
          rw (one_not b, held_shows t (image_shows m) (not b) r c i j)
          (not_true_false _ (λ k. not_self b (sites.opened_kept (lawful t w h ok) (black_of img) b (not b) (r * w + c) s k)))
