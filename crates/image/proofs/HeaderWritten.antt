-- The header of a size, written piece by piece.
--     header_length      its length
--     header_room        what is stored first keeps the output's length, which is enough
--     header_written     the stores that write it, as one run
-- Assumes nothing.
use mathlib.Core.List.{List, [], ◌∷◌, ◌++◌, append_assoc}
use mathlib.Core.Path.{◌≡◌, refl, sym, ap, ◌∙◌}
use Prim.Native.Nat.{ℕ, ◌+◌, ◌≤◌}
use native.Mathlib.Nat.{zero-add}
use native.Mathlib.Omega.{arith}
use lib.ListN.{length, drop, set, length-append, length-drop}
use lib.Seq.{sets}
use Rattle.image.specs.Header.{magic, space, line_feed, decimal, header}
use Rattle.seq.proofs.Stores.{sets_append, sets_front}

pub header_length : (w h : ℕ) → length (header w h) ≡ 3 + length (decimal w) + 1 + length (decimal h) + 1
unfolding header
header_length w h = simp length-append (omega arith)

-- a run that goes on where the run from the front ended
after : (us vs d : List ℕ) (n : ℕ) {l : List ℕ} → l ≡ sets d 0 us → n ≡ length us → sets l n vs ≡ sets d 0 (us ++ vs)
after us vs d n e q = rw (e, q, ← zero-add (length us)) (sets_append us vs d 0)

module _ (w h : ℕ) (d : List ℕ) {m : List ℕ} (copied : m ≡ magic) (room : length (header w h) ≤ length d) where
  pub header_room : 3 + length (decimal w) + 1 + length (decimal h) + 1 ≤ length (m ++ drop 3 d)
  header_room = simp (length-append, length-drop) (omega (arith, ap length copied, room, header_length w h))

  pub header_written : {l l' : List ℕ} {middle end : ℕ} → middle ≡ 3 + length (decimal w) → l ≡ sets (m ++ drop 3 d) 3 (decimal w)
      → end ≡ middle + 1 + length (decimal h) → l' ≡ sets (set l middle space) (middle + 1) (decimal h)
      → set l' end line_feed ≡ sets d 0 (header w h)
  unfolding header
  header_written {l} {l'} {middle} {end} a e b f =
      let u = magic ++ decimal w in
      let u' = u ++ space ∷ [] in
      let front : m ++ drop 3 d ≡ sets d 0 magic = rw copied (sym (sets_front magic d (omega (arith, room, header_length w h)))) in
      let p = e ∙ after magic (decimal w) d 3 front refl in
      let p' = after u (space ∷ []) d middle p (omega arith) in
      let q = f ∙ after u' (decimal h) d (middle + 1) p' (omega (arith, length-append u (space ∷ []))) in
      let q' = after (u' ++ decimal h) (line_feed ∷ []) d end q (omega (arith, length-append u (space ∷ []), length-append u' (decimal h))) in
      let same : (u' ++ decimal h) ++ line_feed ∷ [] ≡ magic ++ decimal w ++ space ∷ decimal h ++ line_feed ∷ [] = simp append_assoc in
      q' ∙ ap (sets d 0) same
