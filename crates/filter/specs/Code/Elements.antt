-- The elements against the 25 codes of a window (the module `elements`), and windows that are read from a map (the module `judge`).
--     matched es win v      some element of es has bit v at all its positions
--     code_of x l            the code of lane l in a byte
--     seen map at l         the window at byte at, as five rows of five codes
-- Assumes nothing.
use Rattle.std.specs.Prelude.{Bool, List, ℕ, ◌+◌, ◌*◌, ◌/◌, ◌%◌, ◌^◌, get_or}
use Rattle.filter.specs.Code.Plane.{step}
use Rattle.operator.specs.Window.{window_at}
use Rattle.seq.specs.Bits.{bit}
use Rattle.seq.specs.Lists.{any, all}
use Rattle.seq.specs.Tab.{tab}
use Rattle.table.specs.Mask.{positions}

unfoldable pub matched : List ℕ → List (List ℕ) → ℕ → Bool
matched es win v = any (λ e. all (λ n. bit (window_at win n) v) (positions e)) es

abbrev pub code_of : ℕ → ℕ → ℕ
code_of x l = x / 4 ^ l % 4

unfoldable pub seen : List ℕ → ℕ → ℕ → List (List ℕ)
seen map at l = tab (λ y. tab (λ x. code_of (get_or map (at + step * y + x) 0) l) 5) 5
