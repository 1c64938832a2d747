-- `image::write` meets its contract. Assumes nothing.
use Rattle.std.proofs.lemmas.Result.{err_from_is_err_and}
use Rattle.std.specs.Prelude.{Ok}
use mathlib.Core.List.{List}
use mathlib.Core.Path.{◌≡◌, sym, ◌∙◌}
use Prim.Native.Nat.{ℕ}
use native.Mathlib.Omega.{arith}
use Rattle.image.specs.Code.Rows.{Sides}
use Rattle.image.specs.File.{pixel_verdict}
use Rattle.image.proofs.PixelsOf.{PixelsGood, pixels_good}
use Rattle.image.proofs.RowBytes.{sides}
use Rattle.image.proofs.WriteOf.{binary, write_refused, write_short, write_filled}
use Rattle.image.proofs.write.Goals as goal

pub length_of-length-requires : goal.length_of-length-requires
length_of-length-requires c =
    let w : ℕ = c.args.width in
    let h : ℕ = c.args.height in
    let px : List ℕ = c.args.pixels.now in
    let accepted : pixel_verdict w h px ≡ Ok tt = sym c.check_pixels.ensures ∙ c.in_ok-check_pixels.was in
    let good : PixelsGood w h px = pixels_good _ _ _ accepted in
    let both-sides : Sides w h = sides _ _ good.size in
    both-sides

pub returns-then-out-length : goal.returns-then-out-length
returns-then-out-length c =
    let w : ℕ = c.args.width in
    let h : ℕ = c.args.height in
    let px : List ℕ = c.args.pixels.now in
    let accepted : pixel_verdict w h px ≡ Ok tt = sym c.check_pixels.ensures ∙ c.in_ok-check_pixels.was in
    rw c.refused.ensures (write_short _ _ _ accepted _ (c.length_of-length.ensures _) c.if-out-length.true)

pub put-requires : goal.put-requires
put-requires c =
    let px : List ℕ = c.args.pixels.now in
    let w : ℕ = c.args.width in
    let h : ℕ = c.args.height in
    let accepted : pixel_verdict w h px ≡ Ok tt = sym c.check_pixels.ensures ∙ c.in_ok-check_pixels.was in
    let good : PixelsGood w h px = pixels_good _ _ _ accepted in
    let both-sides : Sides w h = sides _ _ good.size in
    let g = good in
    (both-sides, binary g, g.count, omega (arith, c.length_of-length.ensures px, c.if-out-length.false))

pub returns : goal.returns
returns c =
    let w : ℕ = c.args.width in
    let h : ℕ = c.args.height in
    let px : List ℕ = c.args.pixels.now in
    let accepted : pixel_verdict w h px ≡ Ok tt = sym c.check_pixels.ensures ∙ c.in_ok-check_pixels.was in
    write_filled _ _ _ accepted _ (c.length_of-length.ensures _) c.if-out-length.false c.put.ensures

pub returns-in_err-check_pixels : goal.returns-in_err-check_pixels
returns-in_err-check_pixels c =
    let p = err_from_is_err_and c.from_residual.result c.from_residual.ensures.1 in
    rw (p.1, p.2) (write_refused _ _ _ (sym c.check_pixels.ensures ∙ c.in_err-check_pixels.was) _)
