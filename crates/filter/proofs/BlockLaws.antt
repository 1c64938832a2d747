-- What is judged in a block of rows is what the operator changes there.
--     held_in          at a pixel inside, an element holds in the map exactly where the pixel is held
--     own_code         the plane's bits of a pixel of the block; outside the image there are none
--     own_opened       the map's bits at the pixel itself
--     candidate_inside a candidate by the operator's words; candidate-outside: none lies outside
--     block_judged     a marked row has the flips, and no pixel of another row changes; scene_judged: where the masks are given beside the table
--     rows_untouched   nothing else is written
-- Assumes nothing.
use mathlib.Core.Bool.{Bool, true, false, not, ◌&&◌, and-false}
use mathlib.Core.List.{List}
use mathlib.Core.Logic.{⊎_elim}
use mathlib.Core.Path.{◌≡◌, refl, sym, ap, ap₂, ◌∙◌, subst}
use Prim.Native.Nat.{ℕ, ◌+◌, ◌-◌, ◌*◌, ◌/◌, ◌%◌, ◌≤◌, ◌<◌}
use native.Mathlib.Omega.{arith}
use borrow.Author.Tests.{eqb-true, eq-eqb, lt-ltb, le-ltb, le-leb}
use lib.Dec.{leb, ltb, eqb}
use lib.ListN.{get_or}
use Rattle.filter.specs.Applied.{switches}
use Rattle.filter.specs.Code.Blocks.{Scene, Untouched}
use Rattle.filter.specs.Code.Candidate.{candidate_is}
use Rattle.filter.specs.Code.Judge.{block_candidate, JudgedRows, JudgedIn}
use Rattle.filter.specs.Code.Opening.{held_within, Mapped}
use Rattle.filter.specs.Code.Plane.{band, halo, step, rim, within, framed_is, Packed}
use Rattle.filter.specs.Code.Turn.{flip_is}
use Rattle.image.proofs.PixelsOf.{binary_at}
use Rattle.image.specs.Size.{max_side}
use Rattle.operator.specs.Image.{pixel, IsImage}
use Rattle.operator.specs.Pass.{opened, held}
use Rattle.seq.specs.Bits.{bit}
use Rattle.seq.proofs.Lists.{clash, any_ext, all_ext}
use Rattle.seq.proofs.Tests.{lt_or_le}
use Rattle.table.proofs.Masks.{position_elim}
use Rattle.table.specs.declared.Table.{Table}
use Rattle.table.specs.Mask.{centre, positions}
use Rattle.table.specs.Record.{masks}

module _ (t : Table) (w h : ℕ) (img : List ℕ) (image : IsImage w h img) (top rows : ℕ) (below : top + rows ≤ h)
    {plane : List ℕ} (packed : Packed w h img plane) {map : List ℕ} (mapped : Mapped (opened t w h img) w h top rows map) where
  module _ (r k l v : ℕ) (r-in : r < rows) (k-in : k < band) (l-in : l < 4) (v-in : v < 2) where
    -- the plane's bits of the pixel
    own_code : (u : ℕ) → u < 2
        → bit (get_or plane (step * (top + r + rim) + halo + k) 0) (2 * l + u) ≡ framed_is w h img u (top + r + rim) (band * l + (halo + k))
    own_code u u-in =
        ap (λ (i : ℕ). bit (get_or plane i 0) (2 * l + u)) (omega arith)
        ∙ packed.coded (top + r + rim) (halo + k) l u (omega arith) (omega arith) l-in u-in

    outside : w ≤ band * l + k → (u : ℕ) → framed_is w h img u (top + r + rim) (band * l + (halo + k)) ≡ false
    unfolding framed_is
    outside o u =
        let e : ltb (band * l + (halo + k) - halo) w ≡ false = le-ltb (band * l + (halo + k) - halo) w (omega arith) in
        rw e (ap (λ (b : Bool). b && eqb (pixel w img (top + r + rim - rim) (band * l + (halo + k) - halo)) u)
        (ap (λ (b : Bool). within rim h (top + r + rim) && b) (and-false (leb halo (band * l + (halo + k)))) ∙ and-false (within rim h (top + r + rim))))

    module _ (inside : band * l + k < w) where
      own_pixel : (u : ℕ) → framed_is w h img u (top + r + rim) (band * l + (halo + k)) ≡ eqb (pixel w img (top + r) (band * l + k)) u
      unfolding framed_is
      own_pixel u =
          let a : top + r + rim - rim ≡ top + r = omega arith in
          let b : band * l + (halo + k) - halo ≡ band * l + k = omega arith in
          rw (
            le-leb rim (top + r + rim) (omega arith),
            le-leb halo (band * l + (halo + k)) (omega arith),
            a,
            b,
            lt-ltb (top + r) h (omega arith),
            lt-ltb (band * l + k) w inside,
          ) refl

      held_in : held_within (masks t) map (step * r + (6 + k)) (2 * l + v) ≡ held t w h img v (top + r) (band * l + k)
      unfolding held_within held
      held_in =
          any_ext _ _ (masks t) (λ e _. all_ext _ _ (positions e)
          (λ n m. mapped.coded r k l v n r-in k-in l-in v-in (position_elim e m).0 inside))

      -- the window's centre is the pixel itself
      own_opened : (u : ℕ) → u < 2 → bit (get_or map (step * r + 6 + 162 + k) 0) (2 * l + u) ≡ opened t w h img u (top + r) (band * l + k)
      own_opened u u-in =
          ap (λ (i : ℕ). bit (get_or map i 0) (2 * l + u)) (omega arith)
          ∙ mapped.coded r k l u centre r-in k-in l-in u-in (omega arith) inside
          ∙ ap₂ (opened t w h img u) (omega (arith, image.high)) (omega (arith, image.wide))

      abbrev own : Bool
      own = eqb (pixel w img (top + r) (band * l + k)) (1 - v)

      abbrev kept : Bool
      kept = opened t w h img (1 - v) (top + r) (band * l + k)

      module _ (hit : List ℕ) (hits : held_within (masks t) map (step * r + (6 + k)) (2 * l + v) ≡ true → bit (get_or hit (step * r + 6 + k) 0) (2 * l + v) ≡ true) where
        candidate_inside : block_candidate hit map plane top r k l v ≡ (bit (get_or hit (step * r + 6 + k) 0) (2 * l + v) && (own && not kept))
        unfolding candidate_is
        candidate_inside =
            ap₂ (λ (a b : Bool). bit (get_or hit (step * r + 6 + k) 0) (2 * l + v) && (a && not b))
            (own_code (1 - v) (omega arith) ∙ own_pixel (1 - v)) (own_opened (1 - v) (omega arith))

        -- a pixel of the other value that is not opened for it switches where it is held
        switch_own : own ≡ true → switches t w h img (top + r) (band * l + k) ≡ (not kept && held t w h img v (top + r) (band * l + k))
        unfolding switches
        switch_own e =
            let p = eqb-true (pixel w img (top + r) (band * l + k)) (1 - v) e in
            let q : 1 - (1 - v) ≡ v = omega arith in
            rw (p, q) refl

        flip_inside : (block_candidate hit map plane top r k l v && held_within (masks t) map (step * r + (6 + k)) (2 * l + v))
            ≡ flip_is (switches t w h img) w img v (top + r) (band * l + k)
        unfolding flip_is
        flip_inside =
            rw (candidate_inside, held_in, lt-ltb (band * l + k) w inside)
            (join _ own kept (held t w h img v (top + r) (band * l + k)) (switches t w h img (top + r) (band * l + k)) (λ e. hits (held_in ∙ e)) switch_own)
          where
            join : (a p o x s : Bool) → (x ≡ true → a ≡ true) → (p ≡ true → s ≡ (not o && x)) → ((a && (p && not o)) && x) ≡ (p && s)
            join true true o x s f g = sym (g refl)
            join true false o x s f g = refl
            join false p o true s f g = clash (f refl) refl
            join false true true false s f g = sym (g refl)
            join false true false false s f g = sym (g refl)
            join false false o false s f g = refl

        -- where there is no candidate, a pixel of the other value does not change
        stays_inside : own ≡ true → block_candidate hit map plane top r k l v ≡ false → switches t w h img (top + r) (band * l + k) ≡ false
        stays_inside e n =
            switch_own e ∙ step_out _ own kept (held t w h img v (top + r) (band * l + k)) (λ q. hits (held_in ∙ q)) e (sym candidate_inside ∙ n)
          where
            step_out : (a p o x : Bool) → (x ≡ true → a ≡ true) → p ≡ true → (a && (p && not o)) ≡ false → (not o && x) ≡ false
            step_out a p true x f e n = refl
            step_out a p false false f e n = refl
            step_out true true false true f e n = n
            step_out true false false true f e n = clash e refl
            step_out false p false true f e n = clash (f refl) refl

    flip_outside : (hit : List ℕ) (x : Bool) → w ≤ band * l + k
        → (block_candidate hit map plane top r k l v && x) ≡ flip_is (switches t w h img) w img v (top + r) (band * l + k)
    unfolding candidate_is flip_is
    flip_outside hit x o =
        rw (own_code (1 - v) (omega arith), outside o (1 - v), le-ltb (band * l + k) w o)
        (ap (λ (b : Bool). b && x) (and-false (bit (get_or hit (step * r + 6 + k) 0) (2 * l + v))))

-- the rows of the block: r counts from the image's first row
module _ (t : Table) (w h : ℕ) (img : List ℕ) (image : IsImage w h img) (top rows : ℕ) (below : top + rows ≤ h)
    {plane : List ℕ} (packed : Packed w h img plane) {map : List ℕ} (mapped : Mapped (opened t w h img) w h top rows map)
    {hit d f c e : List ℕ} (hits : (j s : ℕ) → j < step * rows - 4 → s < 8 → held_within (masks t) map j s ≡ true → bit (get_or hit j 0) s ≡ true)
    (judged : JudgedRows (masks t) hit map plane top rows d f c e) where
  abbrev S : ℕ → ℕ → Bool
  S = switches t w h img

  hits_at : (r k l v : ℕ) → r < rows → k < band → l < 4 → v < 2 → held_within (masks t) map (step * r + (6 + k)) (2 * l + v) ≡ true
      → bit (get_or hit (step * r + 6 + k) 0) (2 * l + v) ≡ true
  hits_at r k l v r-in k-in l-in v-in q =
      ap (λ (i : ℕ). bit (get_or hit i 0) (2 * l + v)) (omega arith) ∙ hits (step * r + (6 + k)) (2 * l + v) (omega arith) (omega arith) q

  flipped : (r k l v : ℕ) → r < rows → k < band → l < 4 → v < 2 → (get_or e (rim + (top + r)) 0 ≡ 0 → ⊥)
      → bit (get_or f (band * (top + r) + k) 0) (2 * l + v) ≡ flip_is S w img v (top + r) (band * l + k)
  flipped r k l v r-in k-in l-in v-in m =
      judged.marked r k l v r-in k-in l-in v-in m
      ∙ ⊎_elim (λ i. flip_inside t w h img image top rows below packed mapped r k l v r-in k-in l-in v-in i hit (hits_at r k l v r-in k-in l-in v-in))
      (flip_outside t w h img image top rows below packed mapped r k l v r-in k-in l-in v-in hit _)
      (lt_or_le (band * l + k) w)

  quiet : (r x : ℕ) → r < rows → x < w → w ≤ band * 4 → get_or e (rim + (top + r)) 0 ≡ 0 → S (top + r) x ≡ false
  quiet r x r-in x-in narrow z =
      let v : ℕ = 1 - pixel w img (top + r) x in
      let whole : band * (x / band) + x % band ≡ x = omega arith in
      let own : pixel w img (top + r) (band * (x / band) + x % band) ≡ 1 - v
      = ap (pixel w img (top + r)) whole ∙ omega (arith, binary_at img ((top + r) * w + x) image.binary) in
      ap (S (top + r)) (sym whole)
      ∙ stays_inside t w h img image top rows below packed mapped r (x % band) (x / band) v r-in (omega arith) (omega arith) (omega arith) (omega arith)
      hit (hits_at r (x % band) (x / band) v r-in (omega arith) (omega arith) (omega arith))
      (eq-eqb _ _ own) (judged.none r (x % band) (x / band) v r-in (omega arith) (omega arith) (omega arith) z)

  pub block_judged : w ≤ band * 4 → JudgedIn S w top (top + rows) img f e
  block_judged narrow = record {
    flipped = λ r k l v lo hi a b g m.
        let q : top + (r - top) ≡ r = omega arith in
        subst (λ (y : ℕ). (get_or e (rim + y) 0 ≡ 0 → ⊥) → bit (get_or f (band * y + k) 0) (2 * l + v) ≡ flip_is S w img v y (band * l + k)) q
        (flipped (r - top) k l v (omega arith) a b g) m;
    quiet = λ r x lo hi a z.
        let q : top + (r - top) ≡ r = omega arith in
        subst (λ (y : ℕ). get_or e (rim + y) 0 ≡ 0 → S y x ≡ false) q (λ m. quiet (r - top) x (omega arith) a narrow m) z;
  }

-- the same where the masks are those of the scene
pub scene_judged : {t : Table} {w h : ℕ} {img es ms plane : List ℕ} (top rows : ℕ) {map hit d f c e : List ℕ} → Scene t w h img es ms plane → top + rows ≤ h
    → w ≤ max_side → Mapped (opened t w h img) w h top rows map
    → ((j s : ℕ) → j < step * rows - 4 → s < 8 → held_within es map j s ≡ true → bit (get_or hit j 0) s ≡ true)
    → JudgedRows es hit map plane top rows d f c e → JudgedIn (switches t w h img) w top (top + rows) img f e
scene_judged {t} {w} {h} {img} {plane = plane} top rows {map} {hit} {d} {f} {c} {e} s below narrow m hits j =
    block_judged t w h img s.image top rows below s.packed m (rw (sym s.elements) at hits) (rw (sym s.elements) at j) (omega arith)

pub rows_untouched : {es hit map plane : List ℕ} {top rows : ℕ} {d f c e : List ℕ} → JudgedRows es hit map plane top rows d f c e → Untouched top rows d f c e
rows_untouched j = record {
  flips_long = j.flips_long;
  marks_long = j.marks_long;
  flips_before = j.flips_before;
  flips_after = j.flips_after;
  marks_before = j.marks_before;
  marks_after = j.marks_after;
}
