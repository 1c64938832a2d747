-- Where the walks over the parts of a strip stand.
--     each_rows, rows_each     the test of each height, as orders
--     part_sides         a part's size is within the limits
--     part_below, part_binary     a part's pixels lie among those of the strip, and are 0 or 1
--     files_alike        the length of the files does not hang on the pixels
--     file_few, files_few     how long they are at most
--     files_next         the files that are left: that of the part at hand, and those behind it
--     Measured           the lengths of the parts' files, added up; measured_fits, measured_more
--     PartsPut           the files of the parts passed are written; put_source, put_target, put_more, put_all
-- Assumes nothing.
use mathlib.Core.Bool.{true}
use mathlib.Core.List.{List, [], ◌∷◌, ◌++◌}
use mathlib.Core.Logic.{⊎_elim}
use mathlib.Core.Path.{◌≡◌, refl, sym, ap, ap₂, ◌∙◌}
use Prim.Native.Nat.{ℕ, suc, ◌+◌, ◌-◌, ◌*◌, ◌≤◌, ◌<◌}
use native.Mathlib.Nat.{mul-le-mul_left}
use native.Mathlib.Numerals.{add-one}
use native.Mathlib.Omega.{arith}
use lib.ListN.{length, get_or, take, drop, length-append, length-take, drop_of_length-le, get_or-eq_default}
use lib.Seq.{drop-cons, drop-drop, get_or-take, get_or-drop, sets, length-sets}
use Rattle.image.specs.Code.Rows.{Sides, Binary}
use Rattle.image.specs.Code.Strip.{Heights}
use Rattle.image.specs.File.{image_bytes}
use Rattle.image.specs.Parts.{above}
use Rattle.image.specs.Size.{max_side, within}
use Rattle.image.specs.Strip.{max_parts, strip_bytes}
use Rattle.image.proofs.Decimal.{decimal_short}
use Rattle.image.proofs.HeaderWritten.{header_length}
use Rattle.image.proofs.Parts.{part_ends}
use Rattle.image.proofs.RowBytes.{raster_few, within_range, range_within}
use Rattle.image.proofs.Shapes.{Rows}
use Rattle.image.proofs.WriteOf.{bytes_length}
use Rattle.seq.proofs.Fronts.{sum_front}
use Rattle.seq.proofs.Lists.{and_left, and_right, and_intro}
use Rattle.seq.proofs.Members.{all_at}
use Rattle.seq.proofs.Stores.{sets_append, sets_front}
use Rattle.seq.proofs.Tests.{lt_or_le}
use Rattle.seq.specs.Lists.{all, sum_of}
use Rattle.verdict.specs.Writer.{over}
use Rattle.verdict.proofs.Writer.{over_part}

-- the test of each height, and the orders that it stands for
pub each_rows : (hs : List ℕ) → all (within max_side) hs ≡ true → Rows hs
each_rows hs e i l = within_range max_side (get_or hs i 0) (all_at (within max_side) hs 0 e i l)

pub rows_each : (hs : List ℕ) → Rows hs → all (within max_side) hs ≡ true
rows_each [] g = refl
rows_each (h ∷ hs) g =
    let b = g 0 (omega arith) in
    and_intro (range_within max_side h b.0 b.1) (rows_each hs (λ i l. g (suc i) (omega arith)))

pub part_sides : {w : ℕ} (hs : List ℕ) → 1 ≤ w → w ≤ max_side → Heights hs → (i : ℕ) → i < length hs → Sides w (get_or hs i 0)
part_sides hs p q g i l = let b = each_rows hs g.each i l in record { wide = p; narrow = q; tall = b.0; short = b.1 }

pub part_below : (w : ℕ) (hs : List ℕ) (i : ℕ) → i < length hs → w * above hs i + w * get_or hs i 0 ≤ w * sum_of hs
part_below w hs i l = omega (arith, mul-le-mul_left w (part_ends hs i l))

pub part_binary : (n from : ℕ) {px : List ℕ} → Binary px → Binary (take n (drop from px))
part_binary n from {px} b = record { small = λ i. ⊎_elim (inner i) (past i) (lt_or_le i n) }
  where
    inner : (i : ℕ) → i < n → get_or (take n (drop from px)) i 0 ≤ 1
    inner i l = rw (get_or-take n (drop from px) i 0 l, get_or-drop from px i 0) (b.small (from + i))

    past : (i : ℕ) → n ≤ i → get_or (take n (drop from px)) i 0 ≤ 1
    past i l = omega (arith, get_or-eq_default (take n (drop from px)) 0 {n = i} (simp length-take (omega arith)))

pub file_few : {w h : ℕ} (px : List ℕ) → Sides w h → length (image_bytes w h px) ≤ 8203
file_few {w} {h} px s = omega (arith, bytes_length w h px, header_length w h, decimal_short w, decimal_short h, raster_few s refl)

-- a part's file is as long for any pixels
file_alike : (w h : ℕ) (px qx : List ℕ) → length (image_bytes w h px) ≡ length (image_bytes w h qx)
file_alike w h px qx = bytes_length w h px ∙ sym (bytes_length w h qx)

pub files_alike : (w : ℕ) (hs px qx : List ℕ) → length (strip_bytes w hs px) ≡ length (strip_bytes w hs qx)
files_alike w [] px qx = refl
files_alike w (h ∷ hs) px qx =
    length-append (image_bytes w h (take (w * h) px)) (strip_bytes w hs (drop (w * h) px))
    ∙ ap₂ ◌+◌ (file_alike w h (take (w * h) px) (take (w * h) qx)) (files_alike w hs (drop (w * h) px) (drop (w * h) qx))
    ∙ sym (length-append (image_bytes w h (take (w * h) qx)) (strip_bytes w hs (drop (w * h) qx)))

pub files_few : (w : ℕ) (hs px : List ℕ) → 1 ≤ w → w ≤ max_side → all (within max_side) hs ≡ true → length (strip_bytes w hs px) ≤ length hs * 8203
files_few w [] px p q e = omega arith
files_few w (h ∷ hs) px p q e =
    let b = within_range max_side h (and_left (within max_side h) (all (within max_side) hs) e) in
    let s : Sides w h = record { wide = p; narrow = q; tall = b.0; short = b.1 } in
    let r = files_few w hs (drop (w * h) px) p q (and_right (within max_side h) (all (within max_side) hs) e) in
    omega (arith, file_few (take (w * h) px) s, length-append (image_bytes w h (take (w * h) px)) (strip_bytes w hs (drop (w * h) px)))

module _ (w : ℕ) (hs : List ℕ) (i : ℕ) (l : i < length hs) where
  -- the part at hand, and those behind it
  next : (px : List ℕ) → strip_bytes w (drop i hs) px
      ≡ image_bytes w (get_or hs i 0) (take (w * get_or hs i 0) px) ++ strip_bytes w (drop (i + 1) hs) (drop (w * get_or hs i 0) px)
  next px = rw add-one (ap (λ (t : List ℕ). strip_bytes w t px) (drop-cons hs i 0 l))

  pub files_next : (px : List ℕ) (from : ℕ) → strip_bytes w (drop i hs) (drop from px)
      ≡ image_bytes w (get_or hs i 0) (take (w * get_or hs i 0) (drop from px)) ++ strip_bytes w (drop (i + 1) hs) (drop (from + w * get_or hs i 0) px)
  files_next px from =
      next (drop from px)
      ∙ ap (λ (t : List ℕ). image_bytes w (get_or hs i 0) (take (w * get_or hs i 0) (drop from px)) ++ strip_bytes w (drop (i + 1) hs) t)
      (drop-drop (w * get_or hs i 0) from px)

  next_length : (px : List ℕ) {n : ℕ} → n ≡ length (image_bytes w (get_or hs i 0) (take (w * get_or hs i 0) px))
      → n + length (strip_bytes w (drop (i + 1) hs) px) ≡ length (strip_bytes w (drop i hs) px)
  next_length px e =
      ap₂ ◌+◌ e (files_alike w (drop (i + 1) hs) px (drop (w * get_or hs i 0) px))
      ∙ sym (length-append (image_bytes w (get_or hs i 0) (take (w * get_or hs i 0) px)) (strip_bytes w (drop (i + 1) hs) (drop (w * get_or hs i 0) px)))
      ∙ ap length (sym (next px))

-- the length of the parts passed, and of those that are left
pub record Measured (w : ℕ) (hs : List ℕ) (bytes i : ℕ) : Type 0 where
  pub within : i ≤ length hs
  pub left : (px : List ℕ) → bytes + length (strip_bytes w (drop i hs) px) ≡ length (strip_bytes w hs px)

module _ {w : ℕ} {hs : List ℕ} {bytes i : ℕ} (s : Measured w hs bytes i) where
  module _ {n : ℕ} (e : (px : List ℕ) → n ≡ length (image_bytes w (get_or hs i 0) px)) (l : i < length hs) where
    pub measured_fits : 1 ≤ w → w ≤ max_side → Heights hs → bytes + n ≤ max_parts * 8203
    measured_fits p q g = omega (arith, next_length w hs i l [] (e _), s.left [], files_few w hs [] p q g.each, g.few)

    pub measured_more : Measured w hs (bytes + n) (i + 1)
    measured_more = record { within = omega arith; left = λ px. omega (arith, next_length w hs i l px (e _), s.left px) }

-- what is stored from here on is what was to be stored from the front
pub record PartsPut (w : ℕ) (hs px d out : List ℕ) (from to i : ℕ) : Type 0 where
  pub within : i ≤ length hs
  pub source : from ≡ w * above hs i
  pub target : to + length (strip_bytes w (drop i hs) (drop from px)) ≡ length (strip_bytes w hs px)
  pub long : length out ≡ length d
  pub left : sets out to (strip_bytes w (drop i hs) (drop from px)) ≡ sets d 0 (strip_bytes w hs px)

module _ {w : ℕ} {hs px d out : List ℕ} {from to i : ℕ} (s : PartsPut w hs px d out from to i) where
  module _ (l : i < length hs) where
    pub put_source : length px ≡ w * sum_of hs → from + w * get_or hs i 0 ≤ length px
    put_source e = omega (arith, s.source, part_below w hs i l)

    pub put_target : length (strip_bytes w hs px) ≤ length d → {n : ℕ} → n ≡ length (image_bytes w (get_or hs i 0) (take (w * get_or hs i 0) (drop from px)))
        → to + n ≤ length out
    put_target room e = omega (arith, s.target, s.long, next_length w hs i l (drop from px) e)

    -- a part's file goes to the part of the output that is lent for it
    pub put_more : {n : ℕ} {ys : List ℕ} → ((qx : List ℕ) → n ≡ length (image_bytes w (get_or hs i 0) qx)) → to + n ≤ length out
        → ys ≡ over (image_bytes w (get_or hs i 0) (take (from + w * get_or hs i 0 - from) (drop from px))) (take (to + n - to) (drop to out))
        → PartsPut w hs px d (take to out ++ (ys ++ drop (to + n - to) (drop to out))) (from + w * get_or hs i 0) (to + n) (i + 1)
    put_more {n} {ys} e room q = record {
      within = omega arith;
      source = omega (arith, s.source, ap (λ (k : ℕ). w * k) (sum_front hs i l));
      target = omega (arith, s.target, next_length w hs i l (drop from px) (e _), files_alike w (drop (i + 1) hs) (drop from px) (drop (from + w * get_or hs i 0) px));
      long = ap length stored ∙ length-sets out to file ∙ s.long;
      left =
          ap₂ (λ (t : List ℕ) (k : ℕ). sets t (to + k) rest) stored (e (take (w * get_or hs i 0) (drop from px)))
          ∙ sets_append file rest out to
          ∙ ap (sets out to) (sym (files_next w hs i l px from))
          ∙ s.left;
    }
      where
        file : List ℕ
        file = image_bytes w (get_or hs i 0) (take (w * get_or hs i 0) (drop from px))

        rest : List ℕ
        rest = strip_bytes w (drop (i + 1) hs) (drop (from + w * get_or hs i 0) px)

        cut : (a k : ℕ) → a + k - a ≡ k
        cut a k = omega arith

        stored : take to out ++ (ys ++ drop (to + n - to) (drop to out)) ≡ sets out to file
        stored = rw (q, cut from (w * get_or hs i 0), cut to n) (over_part file out to n (sym (e (take (w * get_or hs i 0) (drop from px)))) room)

  pub put_all : length (strip_bytes w hs px) ≤ length d → length hs ≤ i → out ≡ over (strip_bytes w hs px) d
  unfolding over
  put_all room l =
      ap (λ (t : List ℕ). sets out to (strip_bytes w t (drop from px))) (sym (drop_of_length-le hs l))
      ∙ s.left
      ∙ sets_front (strip_bytes w hs px) d room
