-- A pass over the dirty rows, block by block.
--     Half top                    where the walk stands: the rows above top are judged, and those from top on are not marked
--     half_none, half_more, half_all     its start, one block more, and its end
-- Assumes nothing.
use mathlib.Core.Bool.{Bool}
use mathlib.Core.List.{List}
use mathlib.Core.Logic.{⊎_elim}
use mathlib.Core.Path.{◌≡◌, refl, sym, ap, ◌∙◌}
use Prim.Native.Nat.{ℕ, ◌+◌, ◌-◌, ◌*◌, ◌≤◌, ◌<◌}
use native.Mathlib.Omega.{arith}
use lib.ListN.{get_or}
use Rattle.filter.specs.Applied.{switches}
use Rattle.filter.specs.Code.Blocks.{Scene, Untouched}
use Rattle.filter.specs.Code.Judge.{JudgedIn}
use Rattle.filter.specs.Code.Plane.{band, rim}
use Rattle.filter.specs.Code.Rows.{NextMarked, MarkedRun}
use Rattle.filter.specs.Code.Turn.{Still, Judged}
use Rattle.seq.specs.Bits.{bit}
use Rattle.seq.specs.Loops.{Swept}
use Rattle.seq.proofs.Tests.{lt_or_le}
use Rattle.table.specs.declared.Table.{Table}

-- the flips d and the marks c, none of which is set, are those before the first block
pub record Half (es ms : List ℕ) (w h : ℕ) (dirty plane d c flips changed : List ℕ) (top : ℕ) : Type 0 where
  pub within : top ≤ h
  pub marked : top < h → get_or dirty top 0 ≡ 0 → ⊥
  pub untouched : Untouched 0 h d flips c changed
  pub ahead : (r : ℕ) → top ≤ r → r < h → get_or changed (rim + r) 0 ≡ 0
  pub judged : (t : Table) (img : List ℕ) → Scene t w h img es ms plane → Still (switches t w h img) w h 0 dirty
      → JudgedIn (switches t w h img) w 0 top img flips changed

-- rows that are neither dirty nor marked
clean : {S : ℕ → ℕ → Bool} {w h : ℕ} {dirty img flips changed : List ℕ} (lo hi : ℕ) → hi ≤ h → Still S w h 0 dirty → ((i : ℕ) → lo ≤ i → i < hi → get_or dirty i 0 ≡ 0)
    → ((r : ℕ) → lo ≤ r → r < hi → get_or changed (rim + r) 0 ≡ 0) → JudgedIn S w lo hi img flips changed
clean {dirty = dirty} lo hi below still none zeros = record {
  flipped = λ r k l v a b x y z m. absurd (m (zeros r a b));
  quiet = λ r x a b y z. still.still r x (omega arith) y (ap (λ (i : ℕ). get_or dirty i 0) (omega arith) ∙ none r a b);
}

-- two stretches of rows
both : {S : ℕ → ℕ → Bool} {w : ℕ} {img flips changed : List ℕ} {lo hi : ℕ} (mid : ℕ) → JudgedIn S w lo mid img flips changed → JudgedIn S w mid hi img flips changed
    → JudgedIn S w lo hi img flips changed
both mid p q = record {
  flipped = λ r k l v a b x y z m. ⊎_elim (λ i. p.flipped r k l v a i x y z m) (λ i. q.flipped r k l v i b x y z m) (lt_or_le r mid);
  quiet = λ r x a b y z. ⊎_elim (λ i. p.quiet r x a i y z) (λ i. q.quiet r x i b y z) (lt_or_le r mid);
}

-- rows above a block are left as they are
above : {S : ℕ → ℕ → Bool} {w : ℕ} {img d f c e : List ℕ} {top rows : ℕ} → Untouched top rows d f c e → JudgedIn S w 0 top img d c → JudgedIn S w 0 top img f e
above {d = d} {f} {c} {e} u p = record {
  flipped = λ r k l v a b x y z m.
      ap (λ (n : ℕ). bit n (2 * l + v)) (u.flips_before (band * r + k) (omega arith))
      ∙ p.flipped r k l v a b x y z (λ n. m (u.marks_before (rim + r) (omega arith) ∙ n));
  quiet = λ r x a b y z. p.quiet r x a b y (sym (u.marks_before (rim + r) (omega arith)) ∙ z);
}

module _ {es ms : List ℕ} {w h : ℕ} {dirty plane : List ℕ} where
  pub half_none : {c₀ c d : List ℕ} {top : ℕ} → Swept (λ j. 0) c₀ c rim (rim + h) → NextMarked dirty h 0 top → Half es ms w h dirty plane d c d c top
  half_none {c = c} {d} {top} s n = record {
    within = n.within;
    marked = n.found;
    untouched = record {
      flips_long = refl;
      marks_long = refl;
      flips_before = λ j i. refl;
      flips_after = λ j i. refl;
      marks_before = λ j i. refl;
      marks_after = λ j i. refl;
    };
    ahead = λ r i j. s.inner (rim + r) (omega arith) (omega arith);
    judged = λ t img scene still. clean 0 top n.within still n.skipped (λ r i j. s.inner (rim + r) (omega arith) (omega arith));
  }

  pub half_more : {d c f e f' e' : List ℕ} {top end next : ℕ} → Half es ms w h dirty plane d c f e top → MarkedRun dirty h top end
      → Untouched top (end - top) f f' e e'
      → ((t : Table) (img : List ℕ) → Scene t w h img es ms plane → JudgedIn (switches t w h img) w top (top + (end - top)) img f' e')
      → NextMarked dirty h end next → Half es ms w h dirty plane d c f' e' next
  half_more {d} {c} {f} {e} {f'} {e'} {top} {end} {next} g run u j n = record {
    within = n.within;
    marked = n.found;
    untouched = record {
      flips_long = u.flips_long ∙ g.untouched.flips_long;
      marks_long = u.marks_long ∙ g.untouched.marks_long;
      flips_before = λ i q. absurd (omega arith);
      flips_after = λ i q. u.flips_after i (omega arith) ∙ g.untouched.flips_after i q;
      marks_before = λ i q. u.marks_before i (omega arith) ∙ g.untouched.marks_before i q;
      marks_after = λ i q. u.marks_after i (omega arith) ∙ g.untouched.marks_after i q;
    };
    ahead = λ r i q. behind r (omega arith) q;
    judged = λ t img scene still.
        let whole : top + (end - top) ≡ end = omega arith in
        both end (both top (above u (g.judged t img scene still)) (rw whole at (j t img scene))) (clean end next n.within still n.skipped (λ r i q. behind r i (omega arith)));
  }
    where
      behind : (r : ℕ) → end ≤ r → r < h → get_or e' (rim + r) 0 ≡ 0
      behind r i q = u.marks_after (rim + r) (omega arith) ∙ g.ahead r (omega arith) q

  pub half_all : {d c f e : List ℕ} {top : ℕ} → Half es ms w h dirty plane d c f e top → h ≤ top → (t : Table) (img : List ℕ) → Scene t w h img es ms plane
      → Still (switches t w h img) w h 0 dirty → Judged (switches t w h img) w h img f e
  half_all g up t img scene still =
      let j = g.judged t img scene still in
      let e = g.within in
      record {
        flipped = λ r k l v a x y z m. j.flipped r k l v (omega arith) (omega arith) x y z m;
        quiet = record { still = λ r x a y z. j.quiet r x (omega arith) (omega arith) y z };
      }

-- what the filling before the first block does to the marks
pub fill_untouched : {h : ℕ} {d f c₀ c e : List ℕ} → Swept (λ j. 0) c₀ c rim (rim + h) → Untouched 0 h d f c e → Untouched 0 h d f c₀ e
fill_untouched s u = record {
  flips_long = u.flips_long;
  marks_long = u.marks_long ∙ s.long;
  flips_before = u.flips_before;
  flips_after = u.flips_after;
  marks_before = λ j i. u.marks_before j i ∙ s.before j (omega arith);
  marks_after = λ j i. u.marks_after j i ∙ s.after j (omega arith);
}
