-- A grid of rows of w cells, laid out row by row.
--     Cell w h i r c     index i of a grid of h rows is that of row r and column c (02, T-03)
-- Assumes nothing.
use Rattle.std.specs.Prelude.{◌≡◌, ℕ, ◌*◌, ◌/◌, ◌%◌, ◌<◌}

pub record Cell (w h i r c : ℕ) : Type 0 where
  pub row : r ≡ i / w
  pub column : c ≡ i % w
  pub below : i < w * h
