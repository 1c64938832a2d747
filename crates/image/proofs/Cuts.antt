-- Parts of memory, as the code cuts them out.
--     part_length     a part is as long as is due
--     put_part        a part that is lent and filled with a table is a run of stores
-- Assumes nothing.
use mathlib.Core.List.{List, ◌++◌}
use mathlib.Core.Path.{◌≡◌, sym, ◌∙◌}
use Prim.Native.Nat.{ℕ, ◌+◌, ◌-◌, ◌≤◌}
use native.Mathlib.Omega.{arith}
use lib.ListN.{length, take, drop, length-take, length-drop}
use lib.Seq.{sets}
use Rattle.seq.proofs.Stores.{sets_part}
use Rattle.seq.proofs.Tab.{length_tab}
use Rattle.seq.specs.Tab.{tab}

pub part_length : (n from : ℕ) (px : List ℕ) → from + n ≤ length px → length (take (from + n - from) (drop from px)) ≡ n
part_length n from px h = simp (length-take, length-drop) (omega arith)

pub put_part : (f : ℕ → ℕ) (n : ℕ) (d : List ℕ) (a : ℕ) {k : ℕ} {new : List ℕ} → k ≡ n → a + n ≤ length d → new ≡ tab f (length (take k (drop a d)))
    → take a d ++ (new ++ drop k (drop a d)) ≡ sets d a (tab f n)
put_part f n d a {k} q h e =
    let long : length (take k (drop a d)) ≡ n = simp (length-take, length-drop) (omega arith) in
    rw (e, long) (sets_part (tab f n) d a k (length_tab f n ∙ sym q) (omega arith))
