-- Elements and translates of persistent elements at a pixel, as lists of pixels by their index.
--     site_at w h r c n        the pixel that stands for position n at (r, c)
--     elements_at t w h r c    the elements at (r, c)
--     moved_at w r c b b'      where the translate that puts b at (r, c) puts b'
--     translate w r c K b     that translate of K; translates w h r c K: those that lie wholly inside
--     blocks_of t w h r c      the translates of the persistent elements that contain (r, c)
--     Block t w h r c T       T is such a translate
--     block_elim, block_intro     the members of blocks_of
--     pixel_path, element_sites    pixels by row and column, and the sites of an element
--     elements_meet           two elements at (r, c) share a pixel
--     block_contains          a block contains (r, c)
--     row, column, translate_moved, moved, block_moved     it is a block at each of its pixels
--     block_meets             every element at (r, c) shares a pixel with it
-- Assumes nothing.
use Rattle.std.specs.Prelude.{Ok}
use mathlib.Core.List.Memᴰ
use mathlib.Core.List.{List, map, Memᴰ}
use mathlib.Core.Path.{◌≡◌, sym, ap₂, ◌∙◌, subst}
use Prim.Native.Nat.{ℕ, ◌+◌, ◌*◌, ◌<◌}
use native.Mathlib.Nat.{add-sub_cancel}
use Rattle.operator.specs.Pass.{placed, inside}
use Rattle.operator.specs.Window.{site_row, site_col}
use Rattle.seq.specs.Lists.{all, keep, join}
use Rattle.seq.proofs.Lists.{all_intro, all_elim, keep_intro, keep_elim, map_intro, map_elim, join_intro, join_elim}
use Rattle.seq.proofs.Members.{map_ext}
use Rattle.table.specs.declared.Table.{Table}
use Rattle.table.specs.Mask.{across, down, positions}
use Rattle.table.specs.Record.{masks, persistents, record_verdict}
use Rattle.table.proofs.Facts.{accepted_table}
use Rattle.table.proofs.Masks.{sum_down, sum_across}
use Rattle.operator.proofs.Placed.{placed_again, fits_again, clamp_placed, Within, inside_elim, inside_intro}

abbrev pub site_at : ℕ → ℕ → ℕ → ℕ → ℕ → ℕ
site_at w h r c n = site_row h r n * w + site_col w c n

unfoldable pub elements_at : Table → ℕ → ℕ → ℕ → ℕ → List (List ℕ)
elements_at t w h r c = map (λ e. map (site_at w h r c) (positions e)) (masks t)

abbrev pub moved_at : ℕ → ℕ → ℕ → ℕ → ℕ → ℕ
moved_at w r c b b' = placed r (down b) (down b') * w + placed c (across b) (across b')

unfoldable pub translate : ℕ → ℕ → ℕ → ℕ → ℕ → List ℕ
translate w r c K b = map (moved_at w r c b) (positions K)

unfoldable pub translates : ℕ → ℕ → ℕ → ℕ → ℕ → List (List ℕ)
translates w h r c K = map (translate w r c K) (keep (λ b. all (inside w h r c b) (positions K)) (positions K))

unfoldable pub blocks_of : Table → ℕ → ℕ → ℕ → ℕ → List (List ℕ)
blocks_of t w h r c = join (map (translates w h r c) (persistents t))

-- the translate that puts b of K at (r, c), wholly inside
pub record Block (t : Table) (w h r c : ℕ) (T : List ℕ) : Type 0 where
  pub K : ℕ
  pub b : ℕ
  pub persistent : Memᴰ K (persistents t)
  pub position : Memᴰ b (positions K)
  pub whole : (b' : ℕ) → Memᴰ b' (positions K) → Within w h r c b b'
  pub shape : T ≡ translate w r c K b

pub block_elim : (t : Table) (w h r c : ℕ) (T : List ℕ) → Memᴰ T (blocks_of t w h r c) → Block t w h r c T
unfolding blocks_of translates
block_elim t w h r c T m =
    let (l, i, j) = join_elim _ m in
    let (K, k, e) = map_elim (translates w h r c) (persistents t) j in
    let (b, n, d) = map_elim (translate w r c K) _ (rw e at i) in
    let (p, x) = keep_elim _ (positions K) n in
    record { K = K; b = b; persistent = k; position = p; whole = λ b' q. inside_elim w h r c b b' (all_elim _ x q); shape = d }

pub block_intro : {t : Table} {w h r c : ℕ} {T : List ℕ} → Block t w h r c T → Memᴰ T (blocks_of t w h r c)
unfolding blocks_of translates
block_intro {t} {w} {h} {r} {c} B =
    let x = all_intro (inside w h r c B.b) (positions B.K) (λ b' m. inside_intro (B.whole b' m)) in
    join_intro (Memᴰ.cast B.shape (map_intro (translate w r c B.K) (keep_intro _ B.position x)))
    (map_intro (translates w h r c) B.persistent)

pixel_path : (w : ℕ) {r r' c c' : ℕ} → r ≡ r' → c ≡ c' → r * w + c ≡ r' * w + c'
pixel_path w p q = ap₂ (λ x y. x * w + y) p q

-- a member of elements_at has the sites of an element's positions
element_sites : (t : Table) (w h r c : ℕ) (A : List ℕ) → Memᴰ A (elements_at t w h r c)
    → (e : ℕ) × Memᴰ e (masks t) × ((n : ℕ) → Memᴰ n (positions e) → Memᴰ (site_at w h r c n) A)
unfolding elements_at
element_sites t w h r c A m =
    let (e, k, p) = map_elim (λ f. map (site_at w h r c) (positions f)) (masks t) m in
    (e, k, λ n x. subst (Memᴰ (site_at w h r c n)) (sym p) (map_intro (site_at w h r c) x))

-- a shared position gives a shared site
pub elements_meet : (t : Table) (w h r c : ℕ) → record_verdict t ≡ Ok tt → (A B : List ℕ)
    → Memᴰ A (elements_at t w h r c) → Memᴰ B (elements_at t w h r c) → (s : ℕ) × Memᴰ s A × Memᴰ s B
elements_meet t w h r c ok A B m n =
    let (e, k, left) = element_sites t w h r c A m in
    let (f, l, right) = element_sites t w h r c B n in
    let (a, x, y) = (accepted_table t ok).masks_meet e f k l in
    (site_at w h r c a, left a x, right a y)

module _ {t : Table} {w h r c : ℕ} {T : List ℕ} (B : Block t w h r c T) where
  -- b itself is put at (r, c)
  pub block_contains : Memᴰ (r * w + c) T
  unfolding translate
  block_contains =
      let e = pixel_path w (sym (add-sub_cancel r (down B.b))) (sym (add-sub_cancel c (across B.b))) in
      rw B.shape (Memᴰ.cast e (map_intro (moved_at w r c B.b) B.position))

  -- the row and the column of position b'
  row : ℕ → ℕ
  row b' = placed r (down B.b) (down b')

  column : ℕ → ℕ
  column b' = placed c (across B.b) (across b')

  -- the translate that puts b' at its own pixel is the same
  translate_moved : (b' : ℕ) → Memᴰ b' (positions B.K) → T ≡ translate w (row b') (column b') B.K b'
  unfolding translate row column
  translate_moved b' n = B.shape ∙ map_ext (moved_at w r c B.b) (moved_at w (row b') (column b') b') (positions B.K) same_pixel
    where
      same_pixel : (b'' : ℕ) → Memᴰ b'' (positions B.K) → moved_at w r c B.b b'' ≡ moved_at w (row b') (column b') b' b''
      same_pixel b'' k =
          let x = B.whole b' n in
          let y = B.whole b'' k in
          pixel_path w (sym (placed_again x.rows y.rows)) (sym (placed_again x.columns y.columns))

  -- so it is a block there
  moved : (b' : ℕ) → Memᴰ b' (positions B.K) → Block t w h (row b') (column b') T
  unfolding row column
  moved b' n = record {
    K = B.K;
    b = b';
    persistent = B.persistent;
    position = n;
    whole = λ b'' k. let x = B.whole b' n in let y = B.whole b'' k in record {
      rows = fits_again x.rows y.rows;
      columns = fits_again x.columns y.columns;
    };
    shape = translate_moved b' n;
  }

  pub block_moved : (q : ℕ) → Memᴰ q T → (r' : ℕ) × (c' : ℕ) × (r' < h) × (c' < w) × (q ≡ r' * w + c') × Block t w h r' c' T
  unfolding translate row column
  block_moved q m =
      let (b', n, e) = map_elim (moved_at w r c B.b) (positions B.K) (rw B.shape at m) in
      (row b', column b', (B.whole b' n).rows.below, (B.whole b' n).columns.below, e, moved b' n)

  -- the partner of b: its site at (r, c) is the translate's pixel for the sum, which is inside, so nothing is clamped
  pub block_meets : record_verdict t ≡ Ok tt → (A : List ℕ) → Memᴰ A (elements_at t w h r c)
      → (s : ℕ) × Memᴰ s A × Memᴰ s T
  unfolding translate
  block_meets ok A m =
      let (e, k, site) = element_sites t w h r c A m in
      let (a, x, i, y) = (accepted_table t ok).masks_persist B.K e B.b B.persistent k B.position in
      let j = B.whole _ y in
      let p = clamp_placed (down a) j.rows (sum_down B.b a i) in
      let q = clamp_placed (across a) j.columns (sum_across B.b a i) in
      (site_at w h r c a, site a x, rw B.shape (Memᴰ.cast (pixel_path w p q) (map_intro (moved_at w r c B.b) y)))
