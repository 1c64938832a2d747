-- The majority of three images, proved (specs/Majority).
--     majority_shows        of three sets of black pixels, those that lie in two of them
--     majority_image, majority_exchanged, majority_ordered     an image; exchanged; ordered
--     all_majority, all_majority_rest     the claims
-- Assumes nothing.
use mathlib.Core.Bool.{Bool, true, false, not}
use mathlib.Core.List.{List}
use mathlib.Core.Logic.{◌↔◌, ⊎_elim}
use mathlib.Core.Path.{◌≡◌, refl, sym, ap, ◌∙◌}
use Prim.Native.Nat.{ℕ, ◌+◌, ◌*◌, ◌≤◌, ◌<◌}
use native.Mathlib.Omega.{arith}
use borrow.Author.Tests.{leb-true, le-leb}
use lib.Dec.{leb}
use lib.ListN.{length, get_or}
use Rattle.image.specs.Majority.{majority_at, majority_of}
use Rattle.morph.specs.System.{Image}
use Rattle.operator.specs.Image.{IsImage, exchange, Below}
use Rattle.operator.specs.Majority.{AllMajority, AllMajorityRest}
use Rattle.operator.specs.Rest.{rested}
use Rattle.operator.proofs.Image.{Shows, black_of, image_shows, shows_image, shows_equal, shows_exchange}
use Rattle.operator.proofs.Rest.{all_rest}
use Rattle.seq.specs.Lists.{one}
use Rattle.seq.proofs.Lists.{one_le, either}
use Rattle.seq.proofs.Tab.{length_tab, get_d_tab}

-- at least two of three
abbrev two : Bool → Bool → Bool → Bool
two x y z = leb 2 (one x + one y + one z)

two_not : (x y z : Bool) → two (not x) (not y) (not z) ≡ not (two x y z)
two_not true true true = refl
two_not true true false = refl
two_not true false true = refl
two_not true false false = refl
two_not false true true = refl
two_not false true false = refl
two_not false false true = refl
two_not false false false = refl

one_true : (x : Bool) → one x ≡ 1 → x ≡ true
one_true true e = refl
one_true false e = absurd (omega arith)

two_more : (m n : ℕ) → m ≤ n → one (leb 2 m) ≤ one (leb 2 n)
two_more m n l =
    ⊎_elim (λ e. rw (le-leb 2 n (omega (arith, leb-true 2 m e))) (one_le (leb 2 m))) (λ e. rw e (omega arith)) (either (leb 2 m))

majority_at_lem : (a b c : List ℕ) {n : ℕ} → length a ≡ n → (i : ℕ) → i < n
    → get_or (majority_of a b c) i 0 ≡ majority_at (get_or a i 0) (get_or b i 0) (get_or c i 0)
unfolding majority_of
majority_at_lem a b c e i l = get_d_tab _ (length a) i 0 (rw e l)

two_black : (a b c : List ℕ) {n : ℕ} → length a ≡ n → (i : ℕ) → i < n
    → (get_or (majority_of a b c) i 0 ≡ 1) ↔ (2 ≤ get_or a i 0 + get_or b i 0 + get_or c i 0)
two_black a b c e i l =
    let m = get_or a i 0 + get_or b i 0 + get_or c i 0 in
    let value = majority_at_lem a b c e i l in
    (λ q. leb-true 2 m (one_true (leb 2 m) (sym value ∙ q)), λ q. value ∙ ap one (le-leb 2 m q))

module _ {w h : ℕ} where
  pub majority_shows : {a b c : List ℕ} {X Y Z : Image ℕ} → Shows w h a X → Shows w h b Y → Shows w h c Z
      → Shows w h (majority_of a b c) (λ i. two (X i) (Y i) (Z i))
  unfolding majority_of
  majority_shows {a} {b} {c} s t u = record {
    pixels = length_tab _ (length a) ∙ s.pixels;
    value = λ i l. majority_at_lem a b c s.pixels i l ∙ rw (s.value i l, t.value i l, u.value i l);
  }

  module _ {a b c : List ℕ} (ia : IsImage w h a) (ib : IsImage w h b) (ic : IsImage w h c) where
    shown : Shows w h (majority_of a b c) (λ i. two (black_of a i) (black_of b i) (black_of c i))
    shown = majority_shows (image_shows ia) (image_shows ib) (image_shows ic)

    pub majority_image : IsImage w h (majority_of a b c)
    majority_image = shows_image ia.wide ia.high shown

    pub majority_exchanged : majority_of (exchange a) (exchange b) (exchange c) ≡ exchange (majority_of a b c)
    majority_exchanged =
        shows_equal
        (majority_shows (shows_exchange (image_shows ia)) (shows_exchange (image_shows ib)) (shows_exchange (image_shows ic)))
        (shows_exchange shown)
        (λ i l. two_not (black_of a i) (black_of b i) (black_of c i))

    pub majority_ordered : {a' b' c' : List ℕ} → IsImage w h a' → IsImage w h b' → IsImage w h c' → Below a a' → Below b b' → Below c c'
        → Below (majority_of a b c) (majority_of a' b' c')
    majority_ordered {a'} {b'} {c'} ia' ib' ic' p q r i l =
        let k : i < w * h = rw shown.pixels at l in
        rw (majority_at_lem a b c ia.sized i k, majority_at_lem a' b' c' ia'.sized i k)
        (two_more (get_or a i 0 + get_or b i 0 + get_or c i 0) (get_or a' i 0 + get_or b' i 0 + get_or c' i 0)
        (omega (arith, p i (rw ia.sized k), q i (rw ib.sized k), r i (rw ic.sized k))))

pub all_majority : AllMajority
all_majority w h = record {
  black = λ a b c ia ib ic i l. two_black a b c ia.sized i l;
  image = λ a b c ia ib ic. majority_image ia ib ic;
  exchanged = λ a b c ia ib ic. majority_exchanged ia ib ic;
  ordered = λ a b c a' b' c' ia ib ic ia' ib' ic' p q r. majority_ordered ia ib ic ia' ib' ic' p q r;
}

pub all_majority_rest : AllMajorityRest
all_majority_rest t w h ok = record {
  exchanged = λ a b c ia ib ic.
      ap (rested t w h) (majority_exchanged ia ib ic) ∙ (all_rest t w h ok).exchanged (majority_of a b c) (majority_image ia ib ic);
  ordered = λ a b c a' b' c' ia ib ic ia' ib' ic' p q r.
      (all_rest t w h ok).ordered _ _ (majority_image ia ib ic) (majority_image ia' ib' ic') (majority_ordered ia ib ic ia' ib' ic' p q r);
}
