-- Three files that are read into one image.
--     first_refused, second_refused, third_refused, second_differs, third_differs, one_size     what is found of the files, one after the other
--     ThreeGood, three_good, three_says     what three accepted files have shown; what they are refused by
--     last_length                       the end of a file
--     Ends, three_sides, first_ends, second_ends, third_ends     the size that was found, and the files by it
--     three_refused, three_counted, three_read     what the reader answers and leaves in the area
--     majority_same                     the majority of one image three times is that image
--     pixels_majority                   the pixels of the majority of three rasters are the majority of their pixels
-- Assumes nothing.
use Rattle.std.specs.Prelude.{Ok, Err}
use mathlib.Core.Bool.{Bool, true, false, not, ◌&&◌}
use mathlib.Core.List.{List, [], ◌∷◌}
use mathlib.Core.Logic.{⊎_elim}
use mathlib.Core.Path.{◌≡◌, refl, sym, ap, ap₂, ◌∙◌}
use Prim.Native.Nat.{ℕ, zero, suc, ◌+◌, ◌-◌, ◌*◌, ◌/◌, ◌%◌, ◌^◌, ◌≤◌, ◌<◌, min, max}
use native.Mathlib.Omega.{arith}
use borrow.Author.Tests.{eqb-true, leb-true, leb-false, not-false}
use lib.Bits.{bit_and, bit_or}
use lib.Dec.{leb, eqb}
use lib.ListN.{length, get_or, length-drop}
use Rattle.image.specs.declared.size.Size.{Size}
use Rattle.image.specs.Code.Layout.{raster_start}
use Rattle.image.specs.Code.Rows.{Sides}
use Rattle.image.specs.Code.Three.{size_of, size_of_three, last_bytes, majority_byte, majority_bytes}
use Rattle.image.specs.File.{raster_pixel, pixels_of, image_of, file_verdict, area_rule, read_as, ImageRead}
use Rattle.image.specs.Header.{raster, width_of, height_of}
use Rattle.image.specs.Majority.{majority_at, majority_of, size_differs, three_verdict, majority_verdict, majority_read, majority_area}
use Rattle.image.specs.Size.{row_bytes}
use Rattle.verdict.specs.declared.Rule.TheVariants as why
use Rattle.image.proofs.Facts.{FileGood, file_good, file_says}
use Rattle.image.proofs.HeaderOf.{raster_place}
use Rattle.image.proofs.LayoutOf.{start_within}
use Rattle.image.proofs.PixelsOf.{binary_at}
use Rattle.image.proofs.RowBytes.{row_bytes_fit, sides}
use Rattle.seq.specs.Lists.{all}
use Rattle.seq.specs.Tab.{tab}
use Rattle.seq.proofs.Bits.{and_digit, or_digit}
use Rattle.seq.proofs.Grid.{cell_below, grid, grid_ext}
use Rattle.seq.proofs.Lists.{and_left, and_right, either}
use Rattle.seq.proofs.Tab.{length_tab, get_d_tab, tab_ext, tab_get_d}
use Rattle.verdict.specs.Numbers.{Says, accepts}
use Rattle.verdict.specs.Rules.{refusal, refuse_if, judge, Verdict, Refusal}
use Rattle.verdict.specs.Writer.{output_of}
use Rattle.verdict.proofs.Numbers.{says_if, says_or}
use Rattle.verdict.proofs.Rules.{or_else_left, or_else_right, refuse_if_accepted}

-- what an answer says of the verdict and the size that it was made of
record Sized (v : Verdict) (f : List ℕ) (s : Size) : Type 0 where
  accepted : v ≡ Ok tt
  width : width_of f ≡ s.width
  height : height_of f ≡ s.height

by_size : (v : Verdict) (f : List ℕ) {s : Size} → read_as v (width_of f) (height_of f) ≡ Ok s → Sized v f s
by_size (Ok _) f e = record { accepted = refl; width = cc; height = cc }
by_size (Err r) f e = cc

by_refusal : (v : Verdict) (f : List ℕ) {r : Refusal} → read_as v (width_of f) (height_of f) ≡ Err r → v ≡ Err r
by_refusal (Ok _) f e = cc
by_refusal (Err q) f e = cc

sized : (f : List ℕ) {s : Size} → size_of f ≡ Ok s → Sized (file_verdict f) f s
unfolding size_of
sized f e = by_size (file_verdict f) f e

refused : (f : List ℕ) {r : Refusal} → size_of f ≡ Err r → file_verdict f ≡ Err r
unfolding size_of
refused f e = by_refusal (file_verdict f) f e

module _ (f g h : List ℕ) where
  pub first_refused : {r : Refusal} → size_of f ≡ Err r → Err r ≡ size_of_three f g h
  unfolding size_of_three three_verdict
  first_refused p = rw (refused f p)

  module _ {s₁ : Size} (p : size_of f ≡ Ok s₁) where
    pub second_refused : {r : Refusal} → size_of g ≡ Err r → Err r ≡ size_of_three f g h
    unfolding size_of_three three_verdict
    second_refused q = rw ((sized f p).accepted, refused g q)

    module _ {s₂ : Size} (q : size_of g ≡ Ok s₂) where
      pub third_refused : {r : Refusal} → size_of h ≡ Err r → Err r ≡ size_of_three f g h
      unfolding size_of_three three_verdict
      third_refused e = rw ((sized f p).accepted, (sized g q).accepted, refused h e)

      module _ {s₃ : Size} (r : size_of h ≡ Ok s₃) where
        -- by the two tests of sizes
        by_sizes : (a b : Bool) → not (eqb s₂.width s₁.width && eqb s₂.height s₁.height) ≡ a → not (eqb s₃.width s₁.width && eqb s₃.height s₁.height) ≡ b
            → size_of_three f g h ≡ read_as (judge (refuse_if a why.SizesDiffer 2 ∷ refuse_if b why.SizesDiffer 3 ∷ [])) s₁.width s₁.height
        unfolding size_of_three three_verdict
        by_sizes a b x y =
            let s = sized f p in
            let t = sized g q in
            let u = sized h r in
            rw (s.accepted, t.accepted, u.accepted, s.width, s.height, t.width, t.height, u.width, u.height, x, y)

        pub second_differs : not (eqb s₂.width s₁.width && eqb s₂.height s₁.height) ≡ true → Err (refusal why.SizesDiffer 2) ≡ size_of_three f g h
        second_differs x = sym (by_sizes true _ x refl)

        module _ (same : not (eqb s₂.width s₁.width && eqb s₂.height s₁.height) ≡ false) where
          pub third_differs : not (eqb s₃.width s₁.width && eqb s₃.height s₁.height) ≡ true → Err (refusal why.SizesDiffer 3) ≡ size_of_three f g h
          third_differs y = sym (by_sizes false true same y)

          pub one_size : not (eqb s₃.width s₁.width && eqb s₃.height s₁.height) ≡ false → Ok s₁ ≡ size_of_three f g h
          one_size y = sym (by_sizes false false same y)

majority_tab : (f g k : ℕ → ℕ) (n : ℕ) → majority_of (tab f n) (tab g n) (tab k n) ≡ tab (λ i. majority_at (f i) (g i) (k i)) n
unfolding majority_of
majority_tab f g k n =
    rw (length_tab f n) (tab_ext _ _ n (λ i l. rw (get_d_tab f n i 0 l, get_d_tab g n i 0 l, get_d_tab k n i 0 l)))

-- of one image three times
pub majority_same : (a : List ℕ) → all (λ v. leb v 1) a ≡ true → majority_of a a a ≡ a
unfolding majority_of
majority_same a e = tab_ext _ (λ i. get_or a i 0) (length a) (λ i l. value (get_or a i 0) (binary_at a i e)) ∙ tab_get_d a 0
  where
    value : (v : ℕ) → v ≤ 1 → majority_at v v v ≡ v
    value zero l = refl
    value (suc zero) l = refl
    value (suc (suc v)) l = absurd (omega arith)

-- a digit of the majority of three bytes
digits : (x y z : ℕ) → x < 2 → y < 2 → z < 2 → max (max (min x y) (min x z)) (min y z) ≡ majority_at x y z
digits x y z p q r =
    ⊎_elim (λ e. rw e (omega (arith, leb-true 2 (x + y + z) e))) (λ e. rw e (omega (arith, leb-false 2 (x + y + z) e))) (either (leb 2 (x + y + z)))

majority_digit : (x y z n : ℕ) → majority_byte x y z / 2 ^ n % 2 ≡ majority_at (x / 2 ^ n % 2) (y / 2 ^ n % 2) (z / 2 ^ n % 2)
majority_digit x y z n =
    or_digit (bit_or (bit_and x y) (bit_and x z)) (bit_and y z) n
    ∙ ap₂ max (or_digit (bit_and x y) (bit_and x z) n ∙ ap₂ max (and_digit x y n) (and_digit x z n)) (and_digit y z n)
    ∙ digits (x / 2 ^ n % 2) (y / 2 ^ n % 2) (z / 2 ^ n % 2) (omega arith) (omega arith) (omega arith)

-- the rasters of three images of one size
module _ (w h : ℕ) (r s t : List ℕ) (long : length r ≡ row_bytes w * h) where
  -- a pixel of the image lies in a byte of the raster
  byte_below : (row col : ℕ) → row < h → col < w → row * row_bytes w + col / 8 < row_bytes w * h
  byte_below row col i j = cell_below i (omega (arith, row_bytes_fit w))

  pixel_majority : (row col : ℕ) → row < h → col < w
      → raster_pixel w (majority_bytes r s t) row col ≡ majority_at (raster_pixel w r row col) (raster_pixel w s row col) (raster_pixel w t row col)
  unfolding raster_pixel majority_bytes
  pixel_majority row col i j =
      ap (λ (x : ℕ). x / 2 ^ (7 - col % 8) % 2) (get_d_tab _ (length r) (row * row_bytes w + col / 8) 0 (rw long (byte_below row col i j)))
      ∙ majority_digit (get_or r (row * row_bytes w + col / 8) 0) (get_or s (row * row_bytes w + col / 8) 0) (get_or t (row * row_bytes w + col / 8) 0) (7 - col % 8)

  pub pixels_majority : pixels_of w h (majority_bytes r s t) ≡ majority_of (pixels_of w h r) (pixels_of w h s) (pixels_of w h t)
  unfolding pixels_of
  pixels_majority =
      grid_ext w h (raster_pixel w (majority_bytes r s t)) _ pixel_majority
      ∙ sym (majority_tab (grid w (raster_pixel w r)) (grid w (raster_pixel w s)) (grid w (raster_pixel w t)) (w * h))

-- what an accepted triple has shown
pub record ThreeGood (f g h : List ℕ) : Type 0 where
  pub first : file_verdict f ≡ Ok tt
  pub second : file_verdict g ≡ Ok tt
  pub third : file_verdict h ≡ Ok tt
  pub second_size : (width_of g ≡ width_of f) × (height_of g ≡ height_of f)
  pub third_size : (width_of h ≡ width_of f) × (height_of h ≡ height_of f)

same_size : (g f : List ℕ) → size_differs g f ≡ false → (width_of g ≡ width_of f) × (height_of g ≡ height_of f)
same_size g f e =
    let both = not-false (eqb (width_of g) (width_of f) && eqb (height_of g) (height_of f)) e in
    (eqb-true _ _ (and_left (eqb (width_of g) (width_of f)) _ both), eqb-true _ _ (and_right (eqb (width_of g) (width_of f)) _ both))

pub three_good : (f g h : List ℕ) → three_verdict f g h ≡ Ok tt → ThreeGood f g h
unfolding three_verdict
three_good f g h e =
    let e₁ = or_else_right (file_verdict f) _ e in
    let e₂ = or_else_right (file_verdict g) _ e₁ in
    let e₃ = or_else_right (file_verdict h) _ e₂ in
    let e₄ = or_else_right (refuse_if (size_differs g f) why.SizesDiffer 2) _ e₃ in
    record {
      first = or_else_left (file_verdict f) _ e;
      second = or_else_left (file_verdict g) _ e₁;
      third = or_else_left (file_verdict h) _ e₂;
      second_size = same_size g f (refuse_if_accepted (size_differs g f) why.SizesDiffer 2 (or_else_left _ _ e₃));
      third_size = same_size h f (refuse_if_accepted (size_differs h f) why.SizesDiffer 3 (or_else_left _ _ e₄));
    }

pub three_says : {P : Refusal → Type 0} (f g h : List ℕ) → P (refusal why.HeaderForm 0) → P (refusal why.SizeRange 0) → P (refusal why.RasterLength 0) → P (refusal why.SizesDiffer 2) → P (refusal why.SizesDiffer 3)
    → Says P (three_verdict f g h)
unfolding three_verdict
three_says f g h a b c d e =
    says_or (file_says f a b c)
    (says_or (file_says g a b c)
    (says_or (file_says h a b c)
    (says_or (says_if (size_differs g f) why.SizesDiffer 2 d) (says_or (says_if (size_differs h f) why.SizesDiffer 3 e) accepts))))

pub last_length : (n : ℕ) (f : List ℕ) → n ≤ length f → length (last_bytes n f) ≡ n
unfolding last_bytes
last_length n f l = length-drop (length f - n) f ∙ omega arith

-- a file of the size that was found: its raster is what it ends with
pub record Ends (f : List ℕ) (w l : ℕ) : Type 0 where
  pub long : row_bytes w * l ≤ length f
  pub counted : length (raster f) ≡ row_bytes w * l
  pub last : last_bytes (row_bytes w * l) f ≡ raster f
  pub pixels : image_of f ≡ pixels_of w l (raster f)

ends : (f : List ℕ) {w l : ℕ} → file_verdict f ≡ Ok tt → width_of f ≡ w → height_of f ≡ l → Ends f w l
unfolding image_of last_bytes
ends f {w} {l} ok p q = record { long = omega (arith, counted, start, within); counted = counted; last = last; pixels = rw (p, q) }
  where
    good : FileGood f
    good = file_good f ok

    counted : length (raster f) ≡ row_bytes w * l
    counted = rw (p, q) at good.count

    start : length (raster f) ≡ length f - raster_start f
    start = ap length (raster_place f) ∙ length-drop (raster_start f) f

    within : raster_start f ≤ length f
    within = start_within f good.form

    last : last_bytes (row_bytes w * l) f ≡ raster f
    last = let k : length f - row_bytes w * l ≡ raster_start f = omega (arith, counted, start, within) in rw k (sym (raster_place f))

module _ (f g h : List ℕ) {s : Size} (found : size_of_three f g h ≡ Ok s) where
  abbrev w : ℕ
  w = s.width

  abbrev l : ℕ
  l = s.height

  agreed : Sized (three_verdict f g h) f s
  unfolding size_of_three
  agreed = by_size (three_verdict f g h) f found

  good : ThreeGood f g h
  good = three_good f g h agreed.accepted

  pub three_sides : Sides w l
  three_sides = rw (agreed.width, agreed.height) at (sides (width_of f) (height_of f) (file_good f good.first).size)

  pub first_ends : Ends f w l
  first_ends = ends f good.first agreed.width agreed.height

  pub second_ends : Ends g w l
  second_ends = ends g good.second (good.second_size.0 ∙ agreed.width) (good.second_size.1 ∙ agreed.height)

  pub third_ends : Ends h w l
  third_ends = ends h good.third (good.third_size.0 ∙ agreed.width) (good.third_size.1 ∙ agreed.height)

  -- the majority of the rasters, which is all that is looked at
  module _ {b : ℕ} {part : List ℕ} (wide : b ≡ row_bytes w) (combined : part ≡ majority_bytes (last_bytes (b * l) f) (last_bytes (b * l) g) (last_bytes (b * l) h)) where
    pub three_counted : length part ≡ row_bytes w * l
    unfolding majority_bytes
    three_counted = ap length combined ∙ length_tab _ (length (last_bytes (b * l) f)) ∙ rw wide (last_length (row_bytes w * l) f first_ends.long)

    three_pixels : pixels_of w l part ≡ majority_of (image_of f) (image_of g) (image_of h)
    three_pixels =
        rw (combined, wide, first_ends.last, second_ends.last, third_ends.last, first_ends.pixels, second_ends.pixels, third_ends.pixels)
        (pixels_majority w l (raster f) (raster g) (raster h) first_ends.counted)

    pub three_read : (area : List ℕ) {after : List ℕ} {a : ImageRead} → a ≡ read_as (area_rule w l (length area)) w l
        → after ≡ output_of (area_rule w l (length area)) (pixels_of w l part) area
        → (a ≡ majority_read f g h (length area)) × (after ≡ majority_area f g h area)
    unfolding majority_read majority_area majority_verdict
    three_read area p q =
        let t = agreed in
        (p ∙ simp (t.accepted, t.width, t.height), q ∙ simp (t.accepted, t.width, t.height, three_pixels))

pub three_refused : (f g h : List ℕ) {r : Refusal} → size_of_three f g h ≡ Err r → (area : List ℕ)
    → (Err r ≡ majority_read f g h (length area)) × (area ≡ majority_area f g h area)
unfolding majority_read majority_area majority_verdict size_of_three
three_refused f g h e area = let q = by_refusal (three_verdict f g h) f e in (simp q, simp q)
