-- One pass over a strip, some rows at a time.
--     sum_as                                  the library's sum
--     totalled_stable, totalled_limit         the answer, by the test of the code
--     area_few                                the largest strip
--     row_changes t w h px from n              the changes in some rows
--     changes_none, changes_join, changes_few, changes_whole     of no row, of more rows, how many at most, and of all rows
--     changes_fit, room_fits                  all these numbers are small
--     changed_sum, changed_none, changed_join, changes_next     the counts of the code
--     made_none, made_join, made_all          rows that are written, one stretch behind the other; joined_few: few changes in both
--     within_room, over_room                  whether there is room for all changes
-- Assumes nothing.
use mathlib.Core.Bool.{false}
use mathlib.Core.List.{List, [], ◌∷◌}
use mathlib.Core.Path.{◌≡◌, refl, sym, ap, ap₂, ◌∙◌, subst}
use Prim.Native.Nat.{ℕ, ◌+◌, ◌-◌, ◌*◌, ◌≤◌}
use native.Mathlib.Nat.{mul-add, mul-zero, mul-le-mul, mul-le-mul_left}
use native.Mathlib.Omega.{arith}
use borrow.Author.Tests.{eq-eqb, ne_eqb, le-ltb}
use lib.Dec.{ltb}
use lib.ListN.{length}
use lib.Seq.{take_all}
use Rattle.std.specs.List.{sum}
use Rattle.std.proofs.lemmas.List.Sums.{sum_by-cons}
use Rattle.filter.specs.declared.Crossed.{Crossed}
use Rattle.filter.specs.declared.End.TheVariants as ending
use Rattle.filter.specs.Code.Strip.{Tall, RowsChanged, RowsMade, totalled}
use Rattle.filter.specs.Crossed.{overfull}
use Rattle.image.specs.declared.strip.PartCounts.{PartCounts}
use Rattle.image.specs.Parts.{rows_of}
use Rattle.image.specs.Size.{max_side}
use Rattle.image.specs.Strip.{max_rows}
use Rattle.operator.specs.Image.{added, removed}
use Rattle.operator.specs.Pass.{pass}
use Rattle.operator.proofs.Bands.{rows_length, pass_length}
use Rattle.operator.proofs.PartCounts.{changed_few, added_rows, removed_rows}
use Rattle.seq.specs.Lists.{sum_of}
use Rattle.seq.proofs.Loops.{sweep_none, sweep_end, sweep_join}
use Rattle.table.specs.declared.Table.{Table}

pub sum_as : (l : List ℕ) → sum l ≡ sum_of l
sum_as [] = refl
sum_as (x ∷ l) = sum_by-cons (λ n. n) x l ∙ ap (λ n. x + n) (sum_as l)

module _ (c : PartCounts) {x y : ℕ} (p : x ≡ sum_of c.added) (q : y ≡ sum_of c.removed) where
  pub totalled_stable : x + y ≡ 0 → ◌≡◌ {A = Crossed} (record { added = x; removed = y; parts = c; end = ending.Stable }) (totalled c)
  unfolding totalled
  totalled_stable e = let z : sum_of c.added + sum_of c.removed ≡ 0 = omega arith in rw (p, q, eq-eqb (sum_of c.added + sum_of c.removed) 0 z)

  pub totalled_limit : (x + y ≡ 0 → ⊥) → ◌≡◌ {A = Crossed} (record { added = x; removed = y; parts = c; end = ending.Limit }) (totalled c)
  unfolding totalled
  totalled_limit n = rw (p, q, ne_eqb (sum_of c.added + sum_of c.removed) 0 (λ e. n (omega arith)))

pub area_few : {t : Table} {w h : ℕ} {px : List ℕ} → Tall t w h px → w * h ≤ max_side * max_rows
area_few tall = mul-le-mul tall.narrow tall.low

module _ (t : Table) (w h : ℕ) (px : List ℕ) where
  abbrev pub row_changes : ℕ → ℕ → ℕ
  row_changes from n =
      added (rows_of w from n px) (rows_of w from n (pass t w h px)) + removed (rows_of w from n px) (rows_of w from n (pass t w h px))

  pub changes_join : (from n m : ℕ) → row_changes from (n + m) ≡ row_changes from n + row_changes (from + n) m
  changes_join from n m = omega (arith, added_rows px (pass t w h px) w from n m, removed_rows px (pass t w h px) w from n m)

  module _ (sized : length px ≡ w * h) where
    pub changes_few : (from n : ℕ) → from + n ≤ h → row_changes from n ≤ w * n
    changes_few from n l = omega (arith, changed_few (rows_of w from n px) (rows_of w from n (pass t w h px)), rows_length w h from n px sized l)

    pub changes_none : (from : ℕ) → from ≤ h → row_changes from 0 ≡ 0
    changes_none from l = omega (arith, changes_few from 0 (omega arith), mul-zero w)

    pub changes_whole : row_changes 0 h ≡ added px (pass t w h px) + removed px (pass t w h px)
    unfolding rows_of
    changes_whole = ap₂ (λ a b. added a b + removed a b) (whole px sized) (whole (pass t w h px) (pass_length t w h px))
      where
        whole : (l : List ℕ) → length l ≡ w * h → rows_of w 0 h l ≡ l
        whole l e = rw (mul-zero w) (take_all (w * h) l (omega arith))

    -- of the rows that are left no more can change than they have pixels
    pub within_room : (room from : ℕ) {x : ℕ} → x ≡ row_changes 0 from → from ≤ h → x + w * (h - from) ≤ room → false ≡ overfull room px (pass t w h px)
    within_room room from e l few =
        let all : from + (h - from) ≡ h = omega arith in
        sym
        (le-ltb room (added px (pass t w h px) + removed px (pass t w h px))
        (omega (
          arith,
          changes_whole,
          ap (λ (k : ℕ). row_changes 0 k) all,
          changes_join 0 from (h - from),
          changes_few (0 + from) (h - from) (omega arith),
        )))

    pub over_room : (room from : ℕ) {x : ℕ} → x ≡ row_changes 0 from → from ≡ h → ltb room x ≡ overfull room px (pass t w h px)
    over_room room from e l = ap (ltb room) (e ∙ ap (row_changes 0) l ∙ changes_whole)

-- all these numbers are small
module _ {t : Table} {w h : ℕ} {px : List ℕ} (tall : Tall t w h px) where
  pub changes_fit : (from n : ℕ) → from + n ≤ h → row_changes t w h px from n ≤ max_side * max_rows
  changes_fit from n l =
      let low : n ≤ max_rows = omega arith in
      let few : w * n ≤ max_side * max_rows = mul-le-mul tall.narrow low in
      omega (arith, changes_few t w h px tall.image.sized from n l)

  pub room_fits : (from : ℕ) {x : ℕ} → x ≡ row_changes t w h px 0 from → from ≤ h → x + w * (h - from) ≤ max_side * max_rows
  room_fits from e l =
      let all : from + (h - from) ≡ h = omega arith in
      omega (arith, changes_few t w h px tall.image.sized 0 from (omega arith), mul-add w from (h - from), ap (λ (k : ℕ). w * k) all, area_few tall)

module _ {t : Table} {w h : ℕ} {px : List ℕ} {from n x y : ℕ} (s : RowsChanged t w h px from n x y) where
  pub changed_sum : x + y ≡ row_changes t w h px from n
  changed_sum = ap₂ ◌+◌ s.more s.less

  pub changed_join : {m u v : ℕ} → RowsChanged t w h px (from + n) m u v → RowsChanged t w h px from (n + m) (x + u) (y + v)
  changed_join {m} r = record {
    more = ap₂ ◌+◌ s.more r.more ∙ sym (added_rows px (pass t w h px) w from n m);
    less = ap₂ ◌+◌ s.less r.less ∙ sym (removed_rows px (pass t w h px) w from n m);
  }

pub changes_next : {t : Table} {w h : ℕ} {px : List ℕ} {from n x u v : ℕ} → x ≡ row_changes t w h px 0 from → RowsChanged t w h px from n u v
    → x + (u + v) ≡ row_changes t w h px 0 (from + n)
changes_next {t} {w} {h} {px} {from} {n} e s =
    let here : 0 + from ≡ from = omega arith in
    omega (arith, changed_sum s, changes_join t w h px 0 from n, ap (λ (k : ℕ). row_changes t w h px k n) here)

pub changed_none : (t : Table) (w h : ℕ) (px : List ℕ) (from : ℕ) → length px ≡ w * h → from ≤ h → RowsChanged t w h px from 0 0 0
changed_none t w h px from e l = let z = changes_none t w h px e from l in record { more = omega arith; less = omega arith }

pub made_none : {t : Table} {w h : ℕ} {px : List ℕ} (from : ℕ) (d : List ℕ) → length px ≡ w * h → from ≤ h → RowsMade t w h px from 0 d d 0 0
made_none {t} {w} {h} {px} from d e l = record {
  changed = changed_none t w h px from e l;
  filled = sweep_end (w * (from + 0)) (sweep_none _ d (w * from)) (ap (λ (k : ℕ). w * k) (omega arith));
}

module _ {t : Table} {w h : ℕ} {px : List ℕ} {from n : ℕ} {d l : List ℕ} {x y : ℕ} (s : RowsMade t w h px from n d l x y) where
  pub made_join : {m : ℕ} {k : List ℕ} {u v : ℕ} → RowsMade t w h px (from + n) m l k u v → RowsMade t w h px from (n + m) d k (x + u) (y + v)
  made_join {m} r = record {
    changed = changed_join s.changed r.changed;
    filled =
        sweep_end (w * (from + (n + m)))
        (sweep_join s.filled r.filled (mul-le-mul_left w (omega arith)) (mul-le-mul_left w (omega arith)) (λ j p q. refl))
        (ap (λ (k : ℕ). w * k) (omega arith));
  }

  pub made_all : (m : ℕ) → n ≡ m → RowsMade t w h px from m d l x y
  made_all m e = subst (λ (k : ℕ). RowsMade t w h px from k d l x y) e s

-- what two stretches change together is small
pub joined_few : {t : Table} {w h : ℕ} {px : List ℕ} {from n m : ℕ} {d l k : List ℕ} {x y u v : ℕ} → Tall t w h px → RowsMade t w h px from n d l x y
    → RowsMade t w h px (from + n) m l k u v → from + (n + m) ≤ h → (x + u) + (y + v) ≤ max_side * max_rows
joined_few {from = from} {n} {m} tall s r within = omega (arith, changed_sum (changed_join s.changed r.changed), changes_fit tall from (n + m) within)
