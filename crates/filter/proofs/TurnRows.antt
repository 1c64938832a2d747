-- The loop over the rows of a pass's changes (the module `turn`).
--     Turning S w h img plane c e a d n     where it stands after n rows
--     row_tallied                           the count of a marked row's flips, by pixels
--     row_quiet                             a row whose counts are 0 has no change
--     turning_none, turning_quiet, turning_more, turning_all     its start, a row without changes, one with changes, its end
--     Walked h flips p c plane e a d n      the same for all images and changes that the plane p and the flips stand for
--     walked_none, walked_unmarked, walked_quiet, walked_more, walked_all     its start, a row without a mark, without changes, with changes, its end
--     walked_like                           written in another way
-- Assumes nothing.
use mathlib.Core.Bool.{Bool, true, false, ◌&&◌}
use mathlib.Core.List.{List}
use mathlib.Core.Logic.{◌⊎◌, inl, inr, ⊎_elim}
use mathlib.Core.Path.{◌≡◌, refl, sym, ap, ◌∙◌}
use Prim.Native.Nat.{ℕ, ◌+◌, ◌-◌, ◌*◌, ◌≤◌, ◌<◌}
use native.Mathlib.Nat.{eq-or-lt_of_le}
use native.Mathlib.Omega.{arith}
use borrow.Author.Tests.{eq-eqb, lt-ltb, le-ltb}
use lib.Dec.{ltb, eqb}
use lib.ListN.{length, get_or, set, length-set}
use lib.Seq.{get_or-set_other}
use Rattle.seq.specs.Lists.{count}
use Rattle.seq.specs.Tab.{up_to}
use Rattle.seq.proofs.Lists.{not_true_false, and_intro, count_ext, count_none, count_some}
use Rattle.seq.proofs.Tab.{up_to_intro, up_to_elim}
use Rattle.seq.proofs.Tests.{lt_or_le}
use Rattle.image.specs.Size.{max_side}
use Rattle.image.proofs.PixelsOf.{binary_at}
use Rattle.operator.specs.Image.{pixel, IsImage}
use Rattle.filter.specs.Code.Plane.{band, step, rim, Packed}
use Rattle.filter.specs.Code.Turn.{flip_is, tallied, turned, Judged, RowTurned, Turned}
use Rattle.filter.proofs.TurnImage.{before, passed, changes, changed, turned_ext, turned_same, added_changed, removed_changed, changed_none, changed_more}
use Rattle.filter.proofs.TurnPlane.{row_packed}
use Rattle.filter.proofs.TurnTally.{count_behind, tallied_le, tallied_row}

pub record Turning (S : ℕ → ℕ → Bool) (w h : ℕ) (img plane c e : List ℕ) (a d n : ℕ) : Type 0 where
  pub packed : Packed w h (turned (before n S) w h img) plane
  pub more : a ≡ changed S w img 0 n
  pub less : d ≡ changed S w img 1 n
  pub still : (r col : ℕ) → r < n → col < w → get_or e (rim + r) 0 ≡ 0 → S r col ≡ false
  pub long : length e ≡ length c
  pub front : (j : ℕ) → j < rim → get_or e j 0 ≡ get_or c j 0
  pub ahead : (j : ℕ) → rim + n ≤ j → get_or e j 0 ≡ get_or c j 0

-- for all images and changes that the plane and the flips stand for
pub record Walked (h : ℕ) (flips p c plane e : List ℕ) (a d n : ℕ) : Type 0 where
  pub within : n ≤ h
  pub plane_long : length plane ≡ length p
  pub marks_long : length e ≡ length c
  pub few_added : a ≤ max_side * n
  pub few_removed : d ≤ max_side * n
  pub rows : (S : ℕ → ℕ → Bool) (w : ℕ) (img : List ℕ) → IsImage w h img → w ≤ max_side → Packed w h img p → Judged S w h img flips c
      → Turning S w h img plane c e a d n

-- an `and` fails where its second part does
and_none : (a : Bool) {b : Bool} → b ≡ false → (a && b) ≡ false
and_none true e = e
and_none false e = refl

equal_or_not : (m n : ℕ) → (m ≡ n) ⊎ (m ≡ n → ⊥)
equal_or_not m n = ⊎_elim (λ a. inr (omega arith)) (λ a. ⊎_elim (λ e. inl (sym e)) (λ b. inr (omega arith)) (eq-or-lt_of_le a)) (lt_or_le m n)

module _ {S : ℕ → ℕ → Bool} {w h : ℕ} {img : List ℕ} (i : IsImage w h img) where
  pub turning_none : {plane : List ℕ} (c : List ℕ) → Packed w h img plane → Turning S w h img plane c c 0 0 0
  turning_none c p = record {
    packed = rw (turned_same w h img (before 0 S) i.sized (λ r col a b. ap (λ (t : Bool). t && S r col) (le-ltb r 0 (omega arith)))) p;
    more = sym (changed_none S w img 0);
    less = sym (changed_none S w img 1);
    still = λ r col a b z. absurd (omega arith);
    long = refl;
    front = λ j a. refl;
    ahead = λ j a. refl;
  }

  pub turning_all : {plane c e : List ℕ} {a d : ℕ} → Turning S w h img plane c e a d h → Turned S w h img plane c e a d
  turning_all t = record {
    packed = rw (turned_ext w h img S (before h S) (λ r col a b. sym (ap (λ (z : Bool). z && S r col) (lt-ltb r h a)))) t.packed;
    more = t.more ∙ sym (added_changed S w h img i);
    less = t.less ∙ sym (removed_changed S w h img i);
    quiet = record { still = t.still };
    long = t.long;
    before = t.front;
    after = t.ahead;
  }

module _ {S : ℕ → ℕ → Bool} {w h : ℕ} {img plane c e : List ℕ} {a d n : ℕ} (t : Turning S w h img plane c e a d n) where
  -- the marks may lose the row's own
  pub turning_quiet : (e' : List ℕ) → ((col : ℕ) → col < w → S n col ≡ false) → length e' ≡ length e → ((j : ℕ) → (j ≡ rim + n → ⊥) → get_or e' j 0 ≡ get_or e j 0)
      → Turning S w h img plane c e' a d (n + 1)
  turning_quiet e' q l same = record {
    packed = rw (turned_ext w h img (before (n + 1) S) (before n S) (λ r col x y. kept r col y)) t.packed;
    more = t.more ∙ sym (none 0);
    less = t.less ∙ sym (none 1);
    still = λ r col x y z. ⊎_elim (λ f. rw f (q col y)) (λ b. t.still r col b y (sym (same (rim + r) (omega arith)) ∙ z)) (eq-or-lt_of_le (omega arith));
    long = l ∙ t.long;
    front = λ j x. same j (omega arith) ∙ t.front j x;
    ahead = λ j x. same j (omega arith) ∙ t.ahead j (omega arith);
  }
    where
      kept : (r col : ℕ) → col < w → before (n + 1) S r col ≡ before n S r col
      kept r col y =
          ⊎_elim (λ f. let z : S r col ≡ false = rw f at (q col y) in and_none (ltb r (n + 1)) z ∙ sym (and_none (ltb r n) z))
          (λ f. ap (λ (b : Bool). b && S r col) (sym (passed r n (λ x. f (sym x))))) (equal_or_not n r)

      none : (u : ℕ) → changed S w img u (n + 1) ≡ changed S w img u n
      none u =
          changed_more S w img u n
          ∙ omega (arith, count_none (changes S w img u n) (up_to w) (λ col m. and_none (eqb (pixel w img n col) u) (q col (up_to_elim w m))))

module _ {S : ℕ → ℕ → Bool} {w h : ℕ} {img flips c : List ℕ} (i : IsImage w h img) (narrow : w ≤ max_side) (g : Judged S w h img flips c)
    {n : ℕ} (below : n < h) (marked : get_or c (rim + n) 0 ≡ 0 → ⊥) where
  pub row_tallied : (v : ℕ) → v < 2 → tallied v flips (n * band) band ≡ count (changes S w img (1 - v) n) (up_to w)
  unfolding flip_is
  row_tallied v q =
      tallied_row v flips (n * band) (flip_is S w img v n) (λ k l x y. let z : n * band + k ≡ band * n + k = omega arith in rw z (g.flipped n k l v below x y q marked))
      ∙ count_behind (flip_is S w img v n) w max_side narrow (λ col l. rw (le-ltb col w l))
      ∙ count_ext (flip_is S w img v n) (changes S w img (1 - v) n) (up_to w) (λ col m. rw (lt-ltb col w (up_to_elim w m)))

  pub row_quiet : tallied 1 flips (n * band) band + tallied 0 flips (n * band) band ≡ 0 → (col : ℕ) → col < w → S n col ≡ false
  row_quiet z col l =
      not_true_false (S n col)
      (λ s. ⊎_elim (λ x. omega (arith, row_tallied 0 (omega arith), found 1 x s)) (λ x. omega (arith, row_tallied 1 (omega arith), found 0 (omega arith) s))
      (eq-or-lt_of_le (binary_at img (n * w + col) i.binary)))
    where
      found : (u : ℕ) → pixel w img n col ≡ u → S n col ≡ true → 1 ≤ count (changes S w img u n) (up_to w)
      found u x s = count_some (changes S w img u n) (up_to_intro l) (and_intro (eq-eqb _ _ x) s)

  pub turning_more : {plane p e : List ℕ} {a d : ℕ} → Turning S w h img plane c e a d n → RowTurned flips (n * band) plane p ((n + rim) * step)
      → Turning S w h img p c e (a + tallied 1 flips (n * band) band) (d + tallied 0 flips (n * band) band) (n + 1)
  turning_more t r = record {
    packed = row_packed S i narrow below t.packed r (λ k m v x y z. g.flipped n k m v below x y z marked);
    more = omega (arith, t.more, changed_more S w img 0 n, row_tallied 1 (omega arith));
    less = omega (arith, t.less, changed_more S w img 1 n, row_tallied 0 (omega arith));
    still = λ y col x b z. ⊎_elim (λ f. absurd (marked (sym (t.ahead (rim + n) (omega arith)) ∙ (rw f at z)))) (λ s. t.still y col s b z) (eq-or-lt_of_le (omega arith));
    long = t.long;
    front = t.front;
    ahead = λ j x. t.ahead j (omega arith);
  }

pub walked_none : (h : ℕ) (flips p c : List ℕ) → Walked h flips p c p c 0 0 0
walked_none h flips p c = record {
  within = omega arith;
  plane_long = refl;
  marks_long = refl;
  few_added = omega arith;
  few_removed = omega arith;
  rows = λ S w img i narrow q g. turning_none i c q;
}

pub walked_all : {h : ℕ} {flips p c plane e : List ℕ} {a d n : ℕ} → Walked h flips p c plane e a d n → h ≤ n
    → (S : ℕ → ℕ → Bool) (w : ℕ) (img : List ℕ) → IsImage w h img → w ≤ max_side → Packed w h img p → Judged S w h img flips c → Turned S w h img plane c e a d
walked_all {h} {n = n} t l S w img i narrow q g =
    let z : n ≡ h = omega arith in
    turning_all i (rw z at (t.rows S w img i narrow q g))

-- what the loop has may be written in another way
pub walked_like : {h : ℕ} {flips p c plane plane' e e' : List ℕ} {a a' d d' n : ℕ} → Walked h flips p c plane e a d n
    → plane' ≡ plane → e' ≡ e → a' ≡ a → d' ≡ d → Walked h flips p c plane' e' a' d' n
walked_like t x y z u = rw (x, y, z, u) t

module _ {h : ℕ} {flips p c plane e : List ℕ} {a d n : ℕ} (t : Walked h flips p c plane e a d n) (below : n < h) where
  -- nothing changes in row n, and only its own mark may go
  walked_still : (e' : List ℕ) → length e' ≡ length e → ((j : ℕ) → (j ≡ rim + n → ⊥) → get_or e' j 0 ≡ get_or e j 0)
      → ((S : ℕ → ℕ → Bool) (w : ℕ) (img : List ℕ) → IsImage w h img → w ≤ max_side → Judged S w h img flips c → get_or e (rim + n) 0 ≡ get_or c (rim + n) 0
      → (col : ℕ) → col < w → S n col ≡ false)
      → Walked h flips p c plane e' a d (n + 1)
  walked_still e' long same quiet = record {
    within = omega arith;
    plane_long = t.plane_long;
    marks_long = long ∙ t.marks_long;
    few_added = omega arith;
    few_removed = omega arith;
    rows = λ S w img i narrow q g. let r = t.rows S w img i narrow q g in
        turning_quiet r e' (quiet S w img i narrow g (r.ahead (rim + n) (omega arith))) long same;
  }

  pub walked_unmarked : get_or e (rim + n) 0 ≡ 0 → Walked h flips p c plane e a d (n + 1)
  walked_unmarked z = walked_still e refl (λ j x. refl) (λ S w img i narrow g f col l. g.quiet.still n col below l (sym f ∙ z))

  module _ (marked : get_or e (rim + n) 0 ≡ 0 → ⊥) where
    pub walked_quiet : tallied 1 flips (n * band) band + tallied 0 flips (n * band) band ≡ 0 → Walked h flips p c plane (set e (rim + n) 0) a d (n + 1)
    walked_quiet z =
        walked_still (set e (rim + n) 0) (length-set e (rim + n) 0) (λ j x. get_or-set_other e (rim + n) j 0 0 x)
        (λ S w img i narrow g f. row_quiet i narrow g below (λ x. marked (f ∙ x)) z)

    pub walked_more : {l : List ℕ} → RowTurned flips (n * band) plane l ((n + rim) * step)
        → Walked h flips p c l e (a + tallied 1 flips (n * band) band) (d + tallied 0 flips (n * band) band) (n + 1)
    walked_more u = record {
      within = omega arith;
      plane_long = u.refreshed.long ∙ u.exchanged.long ∙ t.plane_long;
      marks_long = t.marks_long;
      few_added = omega (arith, tallied_le 1 flips (n * band) band);
      few_removed = omega (arith, tallied_le 0 flips (n * band) band);
      rows = λ S w img i narrow q g. let r = t.rows S w img i narrow q g in
          turning_more i narrow g below (λ x. marked (r.ahead (rim + n) (omega arith) ∙ x)) r u;
    }
