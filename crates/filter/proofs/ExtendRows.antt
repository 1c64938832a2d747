-- The edge rule from row to row of the opening map.
--     widen_more            a walk that widens each row: one row more
--     rows_none     a walk that puts a row in place of others: its start
--     site_row_lem                          the map's row that stands for a row has the image's row that the edge rule gives
--     mapped                            all rows widened and those outside the image replaced: every window reads its sites
-- Assumes nothing.
use mathlib.Core.Bool.{Bool, ◌&&◌}
use mathlib.Core.List.{List}
use mathlib.Core.Logic.{⊎_elim}
use mathlib.Core.Path.{◌≡◌, refl, ap, ◌∙◌}
use Prim.Native.Nat.{ℕ, ◌+◌, ◌-◌, ◌*◌, ◌≤◌, ◌<◌, min, max}
use native.Mathlib.Nat.{eq-or-lt_of_le}
use native.Mathlib.Omega.{arith}
use lib.ListN.{get_or}
use Rattle.seq.specs.Bits.{bit}
use Rattle.seq.specs.Loops.{Swept}
use Rattle.seq.proofs.Tests.{lt_or_le}
use Rattle.table.specs.Mask.{position_count, across, down}
use Rattle.operator.specs.Window.{clamp, site_row, site_col}
use Rattle.filter.specs.Code.Extend.{RowOf, Widened, Widening, Widenings, RowsBy}
use Rattle.filter.specs.Code.Opening.{MapRows, Mapped, shift}
use Rattle.filter.specs.Code.Plane.{band, halo, step, rim, within}
use Rattle.filter.proofs.ExtendRow.{within_true}

pub widen_more : {w r : ℕ} {d l m : List ℕ} (at : ℕ) → at ≡ step * r → Widenings w d l r → Widening w l m at → Widenings w d m (r + 1)
widen_more {w} {r} {d} {l} {m} at e s t =
    record { long = t.long ∙ s.long; widened = row; after = λ j h. t.after j (omega arith) ∙ s.after j (omega arith) }
  where
    -- a row before stays
    old : (i : ℕ) (P : ℕ → ℕ → Bool) → i < r → Widened w P l (step * i) → Widened w P m (step * i)
    old i P h f =
        record {
          coded = λ k n v x a b c g o. ap (λ (y : ℕ). bit y (2 * n + v)) (t.before (step * i + (6 + k) + x) (omega arith)) ∙ f.coded k n v x a b c g o;
        }

    -- the row that is widened was not touched before
    new : (P : ℕ → ℕ → Bool) → RowOf w P d (step * r) → Widened w P m (step * r)
    new P f =
        let g : RowOf w P l (step * r) = record {
          coded = λ k n v a b c u. ap (λ (y : ℕ). bit y (2 * n + v)) (s.after (step * r + k) (omega arith)) ∙ f.coded k n v a b c u;
        } in
        rw e at (t.widened P (rw e g))

    row : (i : ℕ) (P : ℕ → ℕ → Bool) → i < r + 1 → RowOf w P d (step * i) → Widened w P m (step * i)
    row i P h f = ⊎_elim (λ q. rw q (new P (rw q at f))) (λ q. old i P q (s.widened i P q f)) (eq-or-lt_of_le (omega arith))

pub rows_none : (f : ℕ → ℕ) (d : List ℕ) (n : ℕ) → ((r : ℕ) → r < n → f r ≡ r) → RowsBy f d d n
rows_none f d n h = record { long = refl; placed = λ r k a b. rw (h r a) refl; after = λ j a. refl }

rows_more : {f : ℕ → ℕ} {r : ℕ} {d l m : List ℕ} (from to : ℕ) → to ≡ step * r → RowsBy f d l r
    → ((k : ℕ) → k < step → get_or l (from + k) 0 ≡ get_or d (step * f r + k) 0)
    → Swept (λ j. get_or l (from + (j - to)) 0) l m to (to + step) → RowsBy f d m (r + 1)
rows_more {f} {r} {d} {l} {m} from to g p h t =
    record { long = t.long ∙ p.long; placed = placed; after = λ j a. t.after j (omega arith) ∙ p.after j (omega arith) }
  where
    new : (k : ℕ) → k < step → get_or m (step * r + k) 0 ≡ get_or d (step * f r + k) 0
    new k a =
        let i : from + (step * r + k - to) ≡ from + k = omega arith in
        t.inner (step * r + k) (omega arith) (omega arith) ∙ ap (λ (x : ℕ). get_or l x 0) i ∙ h k a

    placed : (i k : ℕ) → i < r + 1 → k < step → get_or m (step * i + k) 0 ≡ get_or d (step * f i + k) 0
    placed i k a b =
        ⊎_elim (λ q. rw q (new k b)) (λ q. t.before (step * i + k) (omega arith) ∙ p.placed i k q b) (eq-or-lt_of_le (omega arith))

-- the map's row that stands for row R, of those that stand for the image's first and last
abbrev stands_for : ℕ → ℕ → ℕ → ℕ
stands_for h top R = min (max R (2 - top)) (h + 1 - top)

-- row S of the map stands for row R, of the map's rows + 4
record Site (h top rows R S : ℕ) : Type 0 where
  site : top + S - 2 ≡ clamp h (top + R)
  low : 2 ≤ top + S
  high : top + S < h + 2
  near : S < rows + 4

module _ (h top rows R : ℕ) (a : top < h) (b : 1 ≤ rows) (c : R < rows + 4) where
  above : (S : ℕ) → top + R < 2 → top + S ≡ 2 → Site h top rows R S
  above S g s = record { site = omega arith; low = omega arith; high = omega arith; near = omega arith }

  inside : (S : ℕ) → 2 ≤ top + R → top + R < h + 2 → S ≡ R → Site h top rows R S
  inside S g i s = record { site = omega arith; low = omega arith; high = omega arith; near = omega arith }

  below : (S : ℕ) → h + 2 ≤ top + R → top + S ≡ h + 1 → Site h top rows R S
  below S g s = record { site = omega arith; low = omega arith; high = omega arith; near = omega arith }

  site_row_lem : Site h top rows R (stands_for h top R)
  site_row_lem =
      ⊎_elim
      (λ g. above _ g (omega arith))
      (λ g. ⊎_elim (λ i. inside _ g i (omega arith)) (λ i. below _ i (omega arith)) (lt_or_le (top + R) (h + 2)))
      (lt_or_le (top + R) 2)

module _ (O : ℕ → ℕ → ℕ → Bool) (w h top rows : ℕ) {d a b m : List ℕ} (fits : top + rows ≤ h) (some : 1 ≤ rows) (f : MapRows O w h top rows d)
    (s : Widenings w d a (rows + 4)) (p : RowsBy (λ i. min i (h + 1 - top)) a b (max (h + 2 - top) (rows + 4)))
    (q : RowsBy (λ i. 2 - top) b m (2 - top)) where
  -- a row of the map as it was, of a row of the image
  row_of : (r : ℕ) → r < rows + 4 → 2 ≤ top + r → top + r < h + 2 → RowOf w (λ v. O v (top + r - 2)) d (step * r)
  row_of r g i j =
      record {
        coded = λ k l v x y z u. f.coded r k l v g x y z u
            ∙ ap (λ (t : Bool). (t && within halo w (band * l + k)) && O v (top + r - 2) (band * l + k - halo))
            (within_true rim h (top + r + 4) (omega arith) (omega arith));
      }

  -- what stands in a row at the end
  replaced : (R k : ℕ) → R < rows + 4 → k < step → get_or m (step * R + k) 0 ≡ get_or a (step * stands_for h top R + k) 0
  replaced R k g u =
      ⊎_elim
      (λ i. let e : max R (2 - top) ≡ 2 - top = omega arith in q.placed R k i u ∙ rw e (p.placed (2 - top) k (omega arith) u))
      (λ i. let e : max R (2 - top) ≡ R = omega arith in q.after (step * R + k) (omega arith) ∙ rw e (p.placed R k (omega arith) u))
      (lt_or_le R (2 - top))

  pub mapped : Mapped O w h top rows m
  mapped = record { long = rw (q.long ∙ p.long ∙ s.long) f.long; coded = coded }
    where
      coded : (r k l v n : ℕ) → r < rows → k < band → l < 4 → v < 2 → n < position_count → band * l + k < w
          → bit (get_or m (step * r + (6 + k) + shift n) 0) (2 * l + v) ≡ O v (site_row h (top + r) n) (site_col w (band * l + k) n)
      coded r k l v n g x y u z c =
          let S : ℕ = stands_for h top (r + down n) in
          let t : Site h top rows (r + down n) S = site_row_lem h top rows (r + down n) (omega arith) some (omega arith) in
          let i : step * r + (6 + k) + shift n ≡ step * (r + down n) + (6 + k + across n) = omega arith in
          let j : step * S + (6 + k + across n) ≡ step * S + (6 + k) + across n = omega arith in
          let e : top + S - 2 ≡ site_row h (top + r) n = t.site ∙ ap (clamp h) (omega arith) in
          rw i (ap (λ (x : ℕ). bit x (2 * l + v)) (replaced (r + down n) (6 + k + across n) (omega arith) (omega arith) ∙ ap (λ (x : ℕ). get_or a x 0) j)
          ∙ (s.widened S (λ o. O o (top + S - 2)) t.near (row_of S t.near t.low t.high)).coded k l v (across n) x y u (omega arith) c
          ∙ ap (λ (o : ℕ). O v o (site_col w (band * l + k) n)) e)
