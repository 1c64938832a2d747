-- Records of given lists, as the cases have them.
--     placed m l          the list in m places, the others 0
--     filled n es m ks    a record with these counts, and what its places hold
--     listed es ks        a record with these elements and these persistent elements
-- Assumes nothing.
use Rattle.std.specs.Prelude.{List, ◌++◌, ℕ, ◌-◌, length, replicate}
use Rattle.table.specs.declared.Table.{Table}
use Rattle.table.specs.Record.{max_elements, max_ranks}

abbrev pub placed : ℕ → List ℕ → List ℕ
placed m l = l ++ replicate (m - length l) 0

abbrev pub filled : ℕ → List ℕ → ℕ → List ℕ → Table
filled n es m ks = record { count = n; elements = placed max_elements es; ranks = m; persistents = placed max_ranks ks }

abbrev pub listed : List ℕ → List ℕ → Table
listed es ks = filled (length es) es (length ks) ks
