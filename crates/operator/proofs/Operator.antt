-- One pass over a list of pixels is one pass of the operator.
--     translates_any, hits_any, hits_all, blocks_any     tests over the elements and the blocks of a pixel, by positions
--     opened_shows, held_shows           `opened` and `held` on a list are those of the operator
--     turned_one, pass_shows, passes_shows     so is a pass, and any number of passes
--     pass_image, passes_image           a pass gives an image
--     next_outside, iterate_outside, passes_black     the black pixels after n passes, at any index
-- Assumes nothing.
use mathlib.Core.Bool.{Bool, true, false, cond, not, ◌&&◌}
use mathlib.Core.List.{List, map, Memᴰ}
use mathlib.Core.Logic.{⊎_elim}
use mathlib.Core.Path.{◌≡◌, refl, sym, ap, ◌∙◌}
use Prim.Native.Nat.{ℕ, zero, suc, ◌+◌, ◌-◌, ◌*◌, ◌≤◌, ◌<◌}
use native.Mathlib.Omega.{arith}
use lib.Dec.{ltb, eqb}
use borrow.Author.Tests.{ltb-true, ltb-false}
use Rattle.operator.specs.Image.{pixel, IsImage}
use Rattle.operator.specs.Pass.{placed, inside, solid, opened, held, pass_at, pass, passes}
use Rattle.morph.specs.Operator as operator
use Rattle.morph.specs.System.{Image}
use Rattle.morph.proofs.Operator.{next_cases}
use Rattle.seq.specs.Lists.{any, all, keep, one, same}
use Rattle.seq.proofs.Lists.{either, any_elim, any_ext, all_ext, any_map, all_map}
use Rattle.seq.proofs.Members.{and_cong, any_join, any_keep, all_both}
use Rattle.seq.proofs.Tab.{up_to_elim}
use Rattle.table.specs.declared.Table.{Table}
use Rattle.table.specs.Mask.{across, down, positions}
use Rattle.table.specs.Record.{masks, persistents}
use Rattle.operator.proofs.Image.{one_not, black_of, outside_white, Shows, image_shows, shows_image}
use Rattle.operator.proofs.Image.{shows_black, shows_pixel, shows_value, shows_pixels}
use Rattle.operator.proofs.Placed.{clamp_below, inside_elim}
use Rattle.operator.proofs.System.{system, hits_at, blocks_at, listed}
use Rattle.operator.proofs.Translates.{site_at, elements_at, moved_at, translate, translates, blocks_of}

-- some translate passes p throughout: some position of K, all of whose translate lies inside and passes p
translates_any : (w h r c K : ℕ) (p : ℕ → Bool)
    → any (all p) (translates w h r c K)
    ≡ any (λ b. all (λ b'. inside w h r c b b' && p (moved_at w r c b b')) (positions K)) (positions K)
unfolding translates translate
translates_any w h r c K p =
    any_map (translate w r c K) (all p) (keep whole (positions K))
    ∙ any_keep (λ b. all p (translate w r c K b)) whole (positions K)
    ∙ any_ext _ _ (positions K) (λ b n.
    ap (λ x. whole b && x) (all_map (moved_at w r c b) p (positions K)) ∙ all_both (inside w h r c b) (λ b'. p (moved_at w r c b b')) (positions K))
  where
    whole : ℕ → Bool
    whole b = all (inside w h r c b) (positions K)

module _ (t : Table) (w h r c : ℕ) (i : r < h) (j : c < w) where
  pub hits_any : (p : ℕ → Bool)
      → any (all p) ((system t w h).hits (r * w + c)) ≡ any (λ e. all (λ n. p (site_at w h r c n)) (positions e)) (masks t)
  unfolding elements_at
  hits_any p =
      ap (any (all p)) (hits_at t w h r i j)
      ∙ any_map _ (all p) (masks t)
      ∙ any_ext _ _ (masks t) (λ e m. all_map (site_at w h r c) p (positions e))

  pub hits_all : (p : ℕ → Bool)
      → all (any p) ((system t w h).hits (r * w + c)) ≡ all (λ e. any (λ n. p (site_at w h r c n)) (positions e)) (masks t)
  unfolding elements_at
  hits_all p =
      ap (all (any p)) (hits_at t w h r i j)
      ∙ all_map _ (any p) (masks t)
      ∙ all_ext _ _ (masks t) (λ e m. any_map (site_at w h r c) p (positions e))

  pub blocks_any : (p : ℕ → Bool)
      → any (all p) ((system t w h).blocks (r * w + c))
      ≡ any (λ K. any (λ b. all (λ b'. inside w h r c b b' && p (moved_at w r c b b')) (positions K)) (positions K)) (persistents t)
  unfolding blocks_of
  blocks_any p =
      ap (any (all p)) (blocks_at t w h r i j)
      ∙ any_join (all p) (map (translates w h r c) (persistents t))
      ∙ any_map (translates w h r c) (any (all p)) (persistents t)
      ∙ any_ext _ _ (persistents t) (λ K m. translates_any w h r c K p)

module _ (t : Table) {w h : ℕ} {img : List ℕ} {X : Image ℕ} (s : Shows w h img X) (v : Bool) where
  pub opened_shows : (r c : ℕ) → r < h → c < w → opened t w h img (one v) r c ≡ operator.opened (system t w h) X v (r * w + c)
  unfolding opened solid operator.opened
  opened_shows r c i j =
      any_ext _ _ (persistents t) (λ K m. any_ext _ _ (positions K) (λ b n.
      all_ext _ _ (positions K) (λ b' k. and_cong (inside w h r c b b') (value b b'))))
      ∙ sym (blocks_any t w h r c i j (λ q. same (X q) v))
    where
      value : (b b' : ℕ) → inside w h r c b b' ≡ true
          → eqb (pixel w img (placed r (down b) (down b')) (placed c (across b) (across b'))) (one v) ≡ same (X (moved_at w r c b b')) v
      value b b' k = let m = inside_elim w h r c b b' k in shows_value s v _ _ m.rows.below m.columns.below

  pub held_shows : (r c : ℕ) → r < h → c < w → held t w h img (one v) r c ≡ operator.held (system t w h) X v (r * w + c)
  unfolding held operator.held
  held_shows r c i j =
      any_ext _ _ (masks t) (λ e m. all_ext _ _ (positions e) (λ n k.
      opened_shows _ _ (clamp_below h r (down n) i) (clamp_below w c (across n) j)))
      ∙ sym (hits_any t w h r c i j (operator.opened (system t w h) X v))

-- a pixel that is turned where the test q of its other value holds
pub turned_one : (q : ℕ → Bool) (b : Bool → Bool) (v : ℕ) (x : Bool) → v ≡ one x → ((y : Bool) → q (one y) ≡ b y)
    → cond (q (1 - v)) (1 - v) v ≡ one (cond (b (not x)) (not x) x)
turned_one q b v x e f = rw (e, one_not x, f (not x)) (cond_one (b (not x)))
  where
    cond_one : (t : Bool) → cond t (one (not x)) (one x) ≡ one (cond t (not x) x)
    cond_one true = refl
    cond_one false = refl

module _ (t : Table) (w h i : ℕ) (l : w * h ≤ i) where
  -- outside the image there is no element
  next_outside : (X : Image ℕ) → operator.next (system t w h) X i ≡ X i
  unfolding operator.held
  next_outside X = ⊎_elim (λ e. e) (λ k. absurd (none (any_elim _ ((system t w h).hits i) k))) (next_cases (system t w h) X i)
    where
      none : {P : List ℕ → Type 0} → (A : List ℕ) × Memᴰ A ((system t w h).hits i) × P A → ⊥
      none (A, m, p) = omega (arith, up_to_elim (w * h) ((listed t w h).covers i A m))

  iterate_outside : (X : Image ℕ) (n : ℕ) → operator.iterate (system t w h) n X i ≡ X i
  iterate_outside X zero = refl
  iterate_outside X (suc n) = next_outside (operator.iterate (system t w h) n X) ∙ iterate_outside X n

module _ (t : Table) {w h : ℕ} where
  pub pass_shows : {img : List ℕ} {X : Image ℕ} → Shows w h img X → Shows w h (pass t w h img) (operator.next (system t w h) X)
  unfolding pass pass_at operator.next
  pass_shows {img} {X} s = shows_pixels (λ r c i j.
      turned_one (λ v. held t w h img v r c) (λ y. operator.held (system t w h) X y (r * w + c)) (pixel w img r c) (X (r * w + c))
      (shows_pixel s r c i j) (λ y. held_shows t s y r c i j))

  pub passes_shows : {img : List ℕ} {X : Image ℕ} → Shows w h img X → (n : ℕ)
      → Shows w h (passes t w h n img) (operator.iterate (system t w h) n X)
  passes_shows s zero = s
  passes_shows s (suc n) = pass_shows (passes_shows s n)

  pub pass_image : {img : List ℕ} → IsImage w h img → IsImage w h (pass t w h img)
  pass_image m = shows_image m.wide m.high (pass_shows (image_shows m))

  pub passes_image : {img : List ℕ} → IsImage w h img → (n : ℕ) → IsImage w h (passes t w h n img)
  passes_image m zero = m
  passes_image m (suc n) = pass_image (passes_image m n)

  -- inside by what the list shows; outside both are white
  pub passes_black : {img : List ℕ} → IsImage w h img → (n i : ℕ)
      → black_of (passes t w h n img) i ≡ operator.iterate (system t w h) n (black_of img) i
  passes_black {img} m n i = ⊎_elim inside_image (λ e. outside_image (ltb-false i (w * h) e)) (either (ltb i (w * h)))
    where
      inside_image : ltb i (w * h) ≡ true → black_of (passes t w h n img) i ≡ operator.iterate (system t w h) n (black_of img) i
      inside_image e = shows_black (passes_shows (image_shows m) n) i (ltb-true i (w * h) e)

      outside_image : w * h ≤ i → black_of (passes t w h n img) i ≡ operator.iterate (system t w h) n (black_of img) i
      outside_image l =
          outside_white (passes_image m n) i l ∙ sym (outside_white m i l) ∙ sym (iterate_outside t w h i l (black_of img) n)
