-- `image::pixels::row_above` meets its contract: the band of the first byte above 1, then its row. Assumes nothing.
use native.Mathlib.Omega.{arith}
use Rattle.image.proofs.Values.{band_fits, row_missing, row_fits, row_found}
use Rattle.image.proofs.pixels.row_above.Goals as goal

pub overflow_mul-clean : goal.overflow_mul-clean
overflow_mul-clean c = omega (arith, band_fits c.args.pixels.now c.args.width c.requires.0 c.in_ok-band.ensures)

pub overflow_mul-clean-2 : goal.overflow_mul-clean-2
overflow_mul-clean-2 c = omega (arith, band_fits c.args.pixels.now c.args.width c.requires.0 c.in_ok-band.ensures)

pub slice_bounds-piece_above-count : goal.slice_bounds-piece_above-count
slice_bounds-piece_above-count c = (band_fits _ _ c.requires.0 c.in_ok-band.ensures).1

pub slice_bounds-piece_above-start : goal.slice_bounds-piece_above-start
slice_bounds-piece_above-start c = (band_fits _ _ c.requires.0 c.in_ok-band.ensures).1

pub returns-in_err-row : goal.returns-in_err-row
returns-in_err-row c = absurd (row_missing _ _ c.requires.0 c.in_ok-band.ensures c.in_err-row.ensures)

pub overflow_add-result : goal.overflow_add-result
overflow_add-result c = omega (arith, row_fits c.args.pixels.now c.args.width c.requires.0 c.in_ok-band.ensures c.in_ok-row.ensures)

pub returns : goal.returns
returns c = row_found _ _ c.requires.0 c.in_ok-band.ensures c.in_ok-row.ensures
