-- One pass over the plane (the module `blocks`).
--     Room h plane flips               room for the rows of an image and for its flips
--     Scene t w h img es ms plane      the plane has the image, and the masks are those of the table
--     Untouched top rows d f c e       the flips d become f and the marks c become e, in the rows from top on only
--     Advanced t w h img plane e a d   after a pass on img the plane has the next image, a pixels were added and d removed, and no pixel changed in a row that e does not mark
--     Fresh w h img marks d            in every row that is not marked, d has the image's pixels
--     Switched t w h px d l a e        l has the image after a pass on px at the front of d, with a pixels added and e removed
-- Assumes nothing.
use Rattle.std.specs.Prelude.{List, ◌≡◌, ℕ, ◌+◌, ◌*◌, ◌≤◌, ◌<◌, length, get_or}
use Rattle.filter.specs.Applied.{switches, switched}
use Rattle.filter.specs.Code.Plane.{band, step, rim, Packed}
use Rattle.filter.specs.Code.Turn.{Still}
use Rattle.operator.specs.Image.{pixel, IsImage, added, removed}
use Rattle.table.specs.declared.Table.{Table}
use Rattle.table.specs.Record.{masks, persistents}
use Rattle.verdict.specs.Writer.{over}

pub record Room (h : ℕ) (plane flips : List ℕ) : Type 0 where
  pub plane_long : step * (h + 2 * rim) ≤ length plane
  pub flips_long : band * h ≤ length flips

pub record Scene (t : Table) (w h : ℕ) (img es ms plane : List ℕ) : Type 0 where
  pub elements : masks t ≡ es
  pub kept : persistents t ≡ ms
  pub image : IsImage w h img
  pub packed : Packed w h img plane

pub record Untouched (top rows : ℕ) (d f c e : List ℕ) : Type 0 where
  pub flips_long : length f ≡ length d
  pub marks_long : length e ≡ length c
  pub flips_before : (j : ℕ) → j < band * top → get_or f j 0 ≡ get_or d j 0
  pub flips_after : (j : ℕ) → band * (top + rows) ≤ j → get_or f j 0 ≡ get_or d j 0
  pub marks_before : (j : ℕ) → j < rim + top → get_or e j 0 ≡ get_or c j 0
  pub marks_after : (j : ℕ) → rim + (top + rows) ≤ j → get_or e j 0 ≡ get_or c j 0

pub record Advanced (t : Table) (w h : ℕ) (img plane e : List ℕ) (a d : ℕ) : Type 0 where
  pub packed : Packed w h (switched t w h img) plane
  pub more : a ≡ added img (switched t w h img)
  pub less : d ≡ removed img (switched t w h img)
  pub quiet : Still (switches t w h img) w h rim e

pub record Switched (t : Table) (w h : ℕ) (px d l : List ℕ) (a e : ℕ) : Type 0 where
  pub filled : l ≡ over (switched t w h px) d
  pub more : a ≡ added px (switched t w h px)
  pub less : e ≡ removed px (switched t w h px)

pub record Fresh (w h : ℕ) (img marks d : List ℕ) : Type 0 where
  pub same : (r c : ℕ) → r < h → c < w → get_or marks r 0 ≡ 0 → get_or d (r * w + c) 0 ≡ pixel w img r c
