-- The search for a pixel byte above 1.
--     place             where the first one is
--     exceeds_first     what is noted of some bytes, as a search among them
--     pieces_place      the first piece that has one is the piece of its place, where pieces of n bytes are cut
--     rest_place        its place among the bytes from s on
--     band_fits         the first band of eight rows that has one lies in the bytes
--     row_missing, row_fits, row_found     its row in that band: there is one, it lies in the bytes, and it is the row of the place
-- Assumes nothing.
use Rattle.std.proofs.lemmas.Option.{none-some}
use Rattle.std.specs.Prelude.{Option, None, Some, is_some, option_map}
use mathlib.Core.Bool.{Bool, true, false, ◌||◌, or-false, or_assoc}
use mathlib.Core.List.{List, [], ◌∷◌}
use mathlib.Core.Logic.{⊎_elim}
use mathlib.Core.Path.{◌≡◌, refl, sym, ap, ◌∙◌}
use Prim.Native.Nat.{ℕ, zero, suc, ◌+◌, ◌-◌, ◌*◌, ◌/◌, ◌≤◌, ◌<◌}
use native.Mathlib.Nat.{add-mul-div_right, div-le_self, div-mul-le_self, le-mul_of_pos_right, mul_assoc, mul_comm}
use native.Mathlib.Omega.{arith}
use lib.Dec.{ltb}
use lib.ListN.{length, take, drop, length-take, length-drop, get_or-eq_default}
use lib.Seq.{get_or-take, get_or-drop}
use Rattle.image.specs.Code.Rows.{too_large, piece_too_large}
use Rattle.image.proofs.HeaderOf.{rest_part}
use Rattle.image.proofs.Pieces.{piece, noted}
use Rattle.seq.proofs.Grid.{row_passes, first_rows}
use Rattle.seq.proofs.Tab.{first_at, first_none, first_ext, first_found, first_nothing}
use Rattle.seq.proofs.Tests.{lt_or_le}
use Rattle.seq.specs.Tab.{first, first_or}

abbrev pub place : List ℕ → Option ℕ
place px = first (too_large px) (length px)

some_or : (b : Bool) (o : Option ℕ) → is_some (first_or b o) ≡ (b || is_some o)
some_or true o = refl
some_or false None = refl
some_or false (Some k) = refl

pub exceeds_first : (b : Bool) (px : List ℕ) (n : ℕ) → length px ≤ n → noted b px ≡ (b || is_some (first (too_large px) n))
exceeds_first b [] n l = sym (ap (λ (o : Option ℕ). b || is_some o) (first_none (too_large []) n (λ k l. refl)) ∙ or-false b)
exceeds_first b (v ∷ px) zero l = absurd (omega (arith, l))
exceeds_first b (v ∷ px) (suc n) l =
    exceeds_first (b || ltb 1 v) px n (omega (arith, l))
    ∙ or_assoc b (ltb 1 v) (is_some (first (too_large px) n))
    ∙ ap (λ (t : Bool). b || t) (sym (some_or (ltb 1 v) (first (too_large px) n)))

-- past the last byte none is above 1
place_past : (px : List ℕ) (n : ℕ) → length px ≤ n → first (too_large px) n ≡ place px
place_past px n l = step (place px) refl
  where
    p : ℕ → Bool
    p = too_large px

    clean : place px ≡ None → (k : ℕ) → k < n → p k ≡ false
    clean e k b = ⊎_elim (first_nothing p (length px) e k) (λ q. ap (ltb 1) (get_or-eq_default px 0 q)) (lt_or_le k (length px))

    step : (o : Option ℕ) → place px ≡ o → first p n ≡ o
    step None e = first_none p n (clean e)
    step (Some i) e = let f = first_found p (length px) i e in first_at p n i (omega (arith, f.below)) f.lowest f.passes

pub pieces_place : (px : List ℕ) (n : ℕ) → 0 < n → first (λ k. noted false (piece n px k)) (length px) ≡ piece_too_large px n
pieces_place px n pos =
    first_ext (λ k. noted false (piece n px k)) (row_passes (too_large px) n) (length px) (λ k b. passes k)
    ∙ sym (first_rows (too_large px) n (length px))
    ∙ ap (option_map (λ i. i / n)) (place_past px (n * length px) (omega (arith, le-mul_of_pos_right (length px) pos, mul_comm n (length px))))
  where
    passes : (k : ℕ) → noted false (piece n px k) ≡ row_passes (too_large px) n k
    passes k =
        exceeds_first false (piece n px k) n (simp length-take (omega arith))
        ∙ ap is_some
        (first_ext (too_large (piece n px k)) (λ c. too_large px (k * n + c)) n
        (λ c b. ap (ltb 1) (get_or-take n (drop (k * n) px) c 0 b ∙ get_or-drop (k * n) px c 0)))

-- the bytes from s on
abbrev rest : List ℕ → ℕ → List ℕ
rest px s = take (length px - s) (drop s px)

rest_place : (px : List ℕ) (s : ℕ) {i : ℕ} → place px ≡ Some i → s ≤ i → place (rest px s) ≡ Some (i - s)
rest_place px s {i} e l =
    let f = first_found (too_large px) (length px) i e in
    let at : s + (i - s) ≡ i = omega arith in
    rw (rest_part px s)
    (first_at (too_large (drop s px)) (length (drop s px)) (i - s) (simp length-drop (omega (arith, f.below)))
    (λ k b. same k ∙ f.lowest (s + k) (omega arith)) (same (i - s) ∙ rw at f.passes))
  where
    same : (k : ℕ) → too_large (drop s px) k ≡ too_large px (s + k)
    same k = ap (ltb 1) (get_or-drop s px k 0)

some_same : {i j : ℕ} → Some i ≡ Some j → i ≡ j
some_same e = cc

-- the place, by the first band of eight rows that has one: all before it are clean
record Banded (px : List ℕ) (w band : ℕ) : Type 0 where
  pub index : ℕ
  pub at : place px ≡ Some index
  pub clean : 8 * band * w ≤ index
  pub inside : index < length px

banded : (px : List ℕ) (w : ℕ) {band : ℕ} → Some band ≡ piece_too_large px (8 * w) → Banded px w band
banded px w {band} e = step (place px) refl e
  where
    below : (i k : ℕ) → k * (8 * w) ≤ i → 8 * k * w ≤ i
    below i k l = omega (arith, l, mul_assoc 8 k w, mul_assoc 8 w k, mul_comm w k)

    step : (o : Option ℕ) → place px ≡ o → Some band ≡ option_map (λ i. i / (8 * w)) o → Banded px w band
    step None at q = absurd (none-some band (sym q))
    step (Some i) at q =
        let same : band ≡ i / (8 * w) = some_same q in
        record {
          index = i;
          at = at;
          clean = rw same (below i (i / (8 * w)) (div-mul-le_self i (8 * w)));
          inside = (first_found (too_large px) (length px) i at).below;
        }

-- that band in the bytes, then its row
module _ (px : List ℕ) (w : ℕ) {band : ℕ} (pos : 0 < w) (e : Some band ≡ piece_too_large px (8 * w)) where
  b : Banded px w band
  b = banded px w e

  pub band_fits : (8 * band ≤ length px) × (8 * band * w ≤ length px)
  band_fits = (omega (arith, b.clean, b.inside, le-mul_of_pos_right (8 * band) pos), omega (arith, b.clean, b.inside))

  left : piece_too_large (rest px (8 * band * w)) w ≡ Some ((b.index - 8 * band * w) / w)
  left = ap (option_map (λ i. i / w)) (rest_place px (8 * band * w) b.at b.clean)

  pub row_missing : None ≡ piece_too_large (rest px (8 * band * w)) w → ⊥
  row_missing n = none-some _ (n ∙ left)

  module _ {row : ℕ} (r : Some row ≡ piece_too_large (rest px (8 * band * w)) w) where
    row_is : 8 * band + row ≡ b.index / w
    row_is =
        let here : row ≡ (b.index - 8 * band * w) / w = some_same (r ∙ left) in
        let whole : b.index - 8 * band * w + 8 * band * w ≡ b.index = omega (arith, b.clean) in
        omega (arith, here, ap (λ (i : ℕ). i / w) whole, add-mul-div_right (b.index - 8 * band * w) (8 * band) pos)

    pub row_fits : 8 * band + row ≤ length px
    row_fits = rw row_is (omega (arith, div-le_self b.index w, b.inside))

    pub row_found : Some (8 * band + row) ≡ piece_too_large px w
    row_found = ap Some row_is ∙ sym (ap (option_map (λ i. i / w)) b.at)
