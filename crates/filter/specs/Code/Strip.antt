-- One pass over a strip, some rows at a time (the modules `strip` and `tally`).
--     row_limit, band_pixels             the most rows that are taken at a time, and the pixels of a band of them
--     gained a i b j n, lost a i b j n     of the n pixels of a from i on, those that go from 0 to 1 in the pixels of b from j on, and from 1 to 0
--     Counted a i b j n x y            x and y are these
--     Tall t w h px                    an accepted table, and an image no larger than the largest strip
--     BandMade t w h px from n band at     the n rows of the image after a pass from row from on stand in the band, from its byte at on
--     RowsChanged t w h px from n x y      in these rows x pixels are added and y removed
--     RowsMade t w h px from n d l x y     and they stand in l at their own place; outside of it l is d
--     totalled c                       what a pass answers that changed the parts so
-- Assumes nothing.
use Rattle.std.specs.Prelude.{cond, ◌&&◌, List, ◌≡◌, ℕ, ◌+◌, ◌*◌, ◌≤◌, eqb, length, get_or, take, drop, Ok}
use Rattle.filter.specs.declared.Crossed.{Crossed}
use Rattle.filter.specs.declared.End.TheVariants as ending
use Rattle.image.specs.declared.strip.PartCounts.{PartCounts}
use Rattle.image.specs.Parts.{rows_of}
use Rattle.image.specs.Size.{max_side}
use Rattle.image.specs.Strip.{max_rows}
use Rattle.operator.specs.Image.{IsImage, added, removed}
use Rattle.operator.specs.Locality.{reach}
use Rattle.operator.specs.Pass.{pass}
use Rattle.seq.specs.Lists.{count, sum_of}
use Rattle.seq.specs.Loops.{Swept}
use Rattle.seq.specs.Tab.{up_to}
use Rattle.table.specs.declared.Table.{Table}
use Rattle.table.specs.Record.{record_verdict}

abbrev pub row_limit : ℕ
row_limit = 128

abbrev pub band_pixels : ℕ
band_pixels = max_side * (row_limit + 2 * reach)

unfoldable pub gained : List ℕ → ℕ → List ℕ → ℕ → ℕ → ℕ
gained a i b j n = count (λ k. eqb (get_or a (i + k) 0) 0 && eqb (get_or b (j + k) 0) 1) (up_to n)

unfoldable pub lost : List ℕ → ℕ → List ℕ → ℕ → ℕ → ℕ
lost a i b j n = count (λ k. eqb (get_or a (i + k) 0) 1 && eqb (get_or b (j + k) 0) 0) (up_to n)

pub record Counted (a : List ℕ) (i : ℕ) (b : List ℕ) (j n x y : ℕ) : Type 0 where
  pub more : x ≡ gained a i b j n
  pub less : y ≡ lost a i b j n

pub record Tall (t : Table) (w h : ℕ) (px : List ℕ) : Type 0 where
  pub table : record_verdict t ≡ Ok tt
  pub image : IsImage w h px
  pub narrow : w ≤ max_side
  pub low : h ≤ max_rows

pub record BandMade (t : Table) (w h : ℕ) (px : List ℕ) (from n : ℕ) (band : List ℕ) (at : ℕ) : Type 0 where
  pub long : length band ≡ band_pixels
  pub fits : at + w * n ≤ band_pixels
  pub rows : take (w * n) (drop at band) ≡ rows_of w from n (pass t w h px)

pub record RowsChanged (t : Table) (w h : ℕ) (px : List ℕ) (from n x y : ℕ) : Type 0 where
  pub more : x ≡ added (rows_of w from n px) (rows_of w from n (pass t w h px))
  pub less : y ≡ removed (rows_of w from n px) (rows_of w from n (pass t w h px))

pub record RowsMade (t : Table) (w h : ℕ) (px : List ℕ) (from n : ℕ) (d l : List ℕ) (x y : ℕ) : Type 0 where
  pub changed : RowsChanged t w h px from n x y
  pub filled : Swept (λ j. get_or (pass t w h px) j 0) d l (w * from) (w * (from + n))

unfoldable pub totalled : PartCounts → Crossed
totalled c =
    record {
      added = sum_of c.added;
      removed = sum_of c.removed;
      parts = c;
      end = cond (eqb (sum_of c.added + sum_of c.removed) 0) ending.Stable ending.Limit;
    }
