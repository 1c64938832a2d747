-- What the checks, the reader and the writer of strips answer, from what their parts find.
--     shape_number, shape_size, shape_width     the number of parts is refused; a part's size is; else the verdict on the widths
--     widths_some, sizes_few                    there is a width; a part that is found is one of them
--     strip_shape, strip_bytes_lem                  the parts are refused; else the bytes' verdict
--     accepted_shape                            an accepted strip has an accepted shape
--     read_refused, read_short, read_whole      the strip is refused; the area is too short; the area is filled
--     write_refused, write_short, write_whole   the strip is refused; the output is too short; the output is filled
-- Assumes nothing.
use Rattle.std.specs.List.{position, zip}
use Rattle.std.specs.Prelude.{Option, IfSome, Ok, Err}
use Rattle.verdict.specs.declared.Rule.TheVariants as why
use Rattle.std.proofs.lemmas.Slice.Zip.{get_or-zip, length-zip}
use mathlib.Core.Bool.{true, false, not}
use mathlib.Core.List.{List}
use mathlib.Core.Path.{◌≡◌, sym, ap, ap₂, ◌∙◌}
use Prim.Native.Nat.{ℕ, suc, ◌*◌, ◌≤◌, ◌<◌}
use native.Mathlib.Omega.{arith}
use borrow.Author.Tests.{lt-ltb, le-ltb}
use lib.Dec.{eqb}
use lib.ListN.{length, get_or, take}
use lib.Seq.{length-take-le, get_or-take}
use Rattle.image.specs.declared.strip.Strip.{Strip}
use Rattle.image.specs.File.{bytes_verdict}
use Rattle.image.specs.Size.{within, bad_size, extent}
use Rattle.image.specs.Strip.{max_parts, heights_of, strip_width, strip_height, shape_verdict, strip_verdict, strip_read_verdict, strip_read, strip_area, strip_bytes, strip_write_verdict, strip_written, strip_output}
use Rattle.image.proofs.RowBytes.{within_range}
use Rattle.image.proofs.Searches.{position_first, found_below}
use Rattle.image.proofs.Strips.{strip_good}
use Rattle.seq.proofs.Tab.{first_ext}
use Rattle.seq.specs.Tab.{first}
use Rattle.verdict.specs.Rules.{refusal, refuse_at, Verdict, Refusal}
use Rattle.verdict.specs.Writer.{over}
use Rattle.verdict.proofs.Rules.{or_else_left, or_else_accepted}

module _ (p : Strip) where
  pub shape_number : within max_parts p.parts ≡ false → shape_verdict p ≡ Err (refusal why.Parts 0)
  unfolding shape_verdict
  shape_number e = simp e

  -- the code looks at the places of the parts alone
  module _ (e : within max_parts p.parts ≡ true) (w : length p.widths ≡ max_parts) (h : length p.heights ≡ max_parts) where
    abbrev ws : List ℕ
    ws = take p.parts p.widths

    few : p.parts ≤ max_parts
    few = (within_range max_parts p.parts e).1

    wide : length ws ≡ p.parts
    wide = length-take-le p.parts p.widths (omega (arith, few))

    pub widths_some : 0 < length ws
    widths_some = omega (arith, wide, within_range max_parts p.parts e)

    -- the lowest part of another width
    widths : position (λ v. not (eqb v (get_or ws 0 0))) ws ≡ first (λ i. not (eqb (get_or p.widths i 0) (strip_width p))) p.parts
    widths =
        position_first (λ v. not (eqb v (get_or ws 0 0))) ws 0
        ∙ ap (first (λ i. not (eqb (get_or ws i 0) (get_or ws 0 0)))) wide
        ∙ first_ext (λ i. not (eqb (get_or ws i 0) (get_or ws 0 0))) (λ i. not (eqb (get_or p.widths i 0) (strip_width p))) p.parts
        (λ i l. ap₂ (λ (a b : ℕ). not (eqb a b)) (get_or-take p.parts p.widths i 0 l) (get_or-take p.parts p.widths 0 0 (omega arith)))

    module _ {hs : List ℕ} (same : hs ≡ heights_of p) where
      tall : length hs ≡ p.parts
      tall = ap length same ∙ length-take-le p.parts p.heights (omega (arith, few))

      zipped : (i : ℕ) → i < p.parts → get_or (zip ws hs) i (0, 0) ≡ (get_or p.widths i 0, get_or p.heights i 0)
      zipped i l =
          get_or-zip ws hs i (0, 0) (omega (arith, wide)) (omega (arith, tall))
          ∙ ap₂ (λ (a b : ℕ). (a, b)) (get_or-take p.parts p.widths i 0 l) (rw same (get_or-take p.parts p.heights i 0 l))

      -- the lowest part of a bad size
      sizes : position (λ q. bad_size q.0 q.1) (zip ws hs) ≡ first (λ i. bad_size (get_or p.widths i 0) (get_or p.heights i 0)) p.parts
      sizes =
          position_first (λ q. bad_size q.0 q.1) (zip ws hs) (0, 0)
          ∙ ap (first (λ i. bad_size (get_or (zip ws hs) i (0, 0)).0 (get_or (zip ws hs) i (0, 0)).1)) (length-zip ws hs ∙ omega (arith, wide, tall))
          ∙ first_ext (λ i. bad_size (get_or (zip ws hs) i (0, 0)).0 (get_or (zip ws hs) i (0, 0)).1)
          (λ i. bad_size (get_or p.widths i 0) (get_or p.heights i 0)) p.parts
          (λ i l. ap (λ (q : ℕ × ℕ). bad_size q.0 q.1) (zipped i l))

      module _ {o : Option ℕ} (found : o ≡ position (λ q. bad_size q.0 q.1) (zip ws hs)) where
        pub sizes_few : IfSome o (λ i. i < max_parts)
        sizes_few = rw (found, sizes) (found_below (λ i. bad_size (get_or p.widths i 0) (get_or p.heights i 0)) p.parts max_parts few)

        module _ {v : Verdict} (q : v ≡ refuse_at o why.SizeRange suc) where
          sized : refuse_at (first (λ i. bad_size (get_or p.widths i 0) (get_or p.heights i 0)) p.parts) why.SizeRange suc ≡ v
          sized = sym (q ∙ ap (λ (o : Option ℕ). refuse_at o why.SizeRange suc) (found ∙ sizes))

          pub shape_size : {r : Refusal} → v ≡ Err r → shape_verdict p ≡ Err r
          unfolding shape_verdict
          shape_size s = simp (e, sized, s)

          pub shape_width : v ≡ Ok tt → {o : Option ℕ} → o ≡ position (λ v. not (eqb v (get_or ws 0 0))) ws → {u : Verdict} → u ≡ refuse_at o why.Parts suc
              → shape_verdict p ≡ u
          unfolding shape_verdict
          shape_width s f r = simp (e, sized, s, or_else_accepted) (sym (r ∙ ap (λ (o : Option ℕ). refuse_at o why.Parts suc) (f ∙ widths)))

module _ (p : Strip) (px : List ℕ) where
  pub strip_shape : {r : Refusal} → shape_verdict p ≡ Err r → strip_verdict p px ≡ Err r
  unfolding strip_verdict
  strip_shape e = simp e

  pub strip_bytes_lem : shape_verdict p ≡ Ok tt → {h : ℕ} → h ≡ strip_height p → strip_verdict p px ≡ bytes_verdict (strip_width p) h px
  unfolding strip_verdict
  strip_bytes_lem e q = simp (e, q)

  pub accepted_shape : strip_verdict p px ≡ Ok tt → shape_verdict p ≡ Ok tt
  unfolding strip_verdict
  accepted_shape e = or_else_left (shape_verdict p) _ e

  pub read_refused : {r : Refusal} → strip_verdict p px ≡ Err r → (area : List ℕ)
      → (Err r ≡ strip_read p px (length area)) × (area ≡ strip_area p px area)
  unfolding strip_read strip_area strip_read_verdict
  read_refused e area = (simp e, simp e)

  pub write_refused : {r : Refusal} → strip_verdict p px ≡ Err r → (out : List ℕ)
      → (Err r ≡ strip_written p px (length out)) × (out ≡ strip_output p px out)
  unfolding strip_written strip_output strip_write_verdict
  write_refused e out = (simp e, simp e)

  module _ (good : strip_verdict p px ≡ Ok tt) where
    pub read_short : (area : List ℕ) → length area < length px → (Err (refusal why.AreaShort 0) ≡ strip_read p px (length area)) × (area ≡ strip_area p px area)
    unfolding strip_read strip_area strip_read_verdict
    read_short area l =
        let s = lt-ltb (length area) (strip_width p * strip_height p) (omega (arith, (strip_good p px good).bytes.count)) in
        (simp (good, s), simp (good, s))

    pub read_whole : (area : List ℕ) {after : List ℕ} → length px ≤ length area → after ≡ over px area
        → (Ok (extent (strip_width p) (strip_height p)) ≡ strip_read p px (length area)) × (after ≡ strip_area p px area)
    unfolding strip_read strip_area strip_read_verdict
    read_whole area l e =
        let s = le-ltb (length area) (strip_width p * strip_height p) (omega (arith, (strip_good p px good).bytes.count)) in
        (simp (good, s), e ∙ simp (good, s))

    module _ (out : List ℕ) {end : ℕ} (size : end ≡ length (strip_bytes (strip_width p) (heights_of p) px)) where
      pub write_short : length out < end → (Err (refusal why.AreaShort 0) ≡ strip_written p px (length out)) × (out ≡ strip_output p px out)
      unfolding strip_written strip_output strip_write_verdict
      write_short l =
          let s = lt-ltb (length out) (length (strip_bytes (strip_width p) (heights_of p) px)) (omega arith) in
          (simp (good, s), simp (good, s))

      pub write_whole : {after : List ℕ} → end ≤ length out → after ≡ over (strip_bytes (strip_width p) (heights_of p) px) out
          → (Ok end ≡ strip_written p px (length out)) × (after ≡ strip_output p px out)
      unfolding strip_written strip_output strip_write_verdict
      write_whole l e =
          let s = le-ltb (length out) (length (strip_bytes (strip_width p) (heights_of p) px)) (omega arith) in
          (ap Ok size ∙ simp (good, s), e ∙ simp (good, s))
