-- Passes one after the other: what one pass more makes of the trail.
--     fresh_joined           the stale rows and those that changed now have the next image where they are not marked
--     rests, overflows, goes, limited     the four ways that the passes go on: at rest, too far, one more, and the limit
--     onward_running         after one pass more
-- Assumes nothing.
use Rattle.std.specs.Prelude.{Ok}
use mathlib.Core.Bool.{Bool, true, false, ◌||◌}
use mathlib.Core.List.{List}
use mathlib.Core.Path.{◌≡◌, refl, sym, ap, ap₂, ◌∙◌, subst}
use Prim.Native.Nat.{ℕ, suc, ◌+◌, ◌-◌, ◌*◌, ◌≤◌, ◌<◌}
use native.Mathlib.Omega.{arith}
use lib.Bits.{bit_or}
use lib.Dec.{ltb}
use lib.ListN.{get_or}
use lib.Seq.{get_or-take}
use Rattle.filter.specs.declared.Budget.{Budget}
use Rattle.filter.specs.declared.End.TheVariants as ending
use Rattle.filter.specs.Applied.{switches, switched}
use Rattle.filter.specs.Code.Blocks.{Advanced, Fresh}
use Rattle.filter.specs.Code.Plane.{rim, Packed}
use Rattle.filter.specs.Code.Rows.{nearby, Spread}
use Rattle.filter.specs.Code.Run.{Running}
use Rattle.filter.specs.Code.Turn.{Still}
use Rattle.filter.specs.Repeated.{Trail, shown, next, onward, stops, rested, follow}
use Rattle.filter.proofs.RowsLaws.{or_none, turned_kept, still_next}
use Rattle.filter.proofs.SwitchedLaws.{turned_switched, switched_pass}
use Rattle.operator.specs.Image.{pixel, IsImage, added, removed, differs}
use Rattle.operator.proofs.Counts.{differs_equal, equal_differs, unchanged_equal, equal_unchanged}
use Rattle.operator.proofs.Operator.{pass_image}
use Rattle.seq.specs.Loops.{Swept}
use Rattle.seq.proofs.Grid.{cell_below}
use Rattle.table.specs.declared.Table.{Table}
use Rattle.table.specs.Record.{record_verdict}
use Rattle.verdict.proofs.Writer.{take_over}

module _ (t : Table) (w h : ℕ) (b : Budget) (c₀ : Trail) {es ms plane dirty stale : List ℕ} {c : Trail} (ok : record_verdict t ≡ Ok tt)
    (run : Running t w h b c₀ es ms plane dirty stale c) where
  abbrev img : List ℕ
  img = shown w h c

  abbrev S : ℕ → ℕ → Bool
  S = switches t w h img

  image : IsImage w h img
  image = run.scene.image

  pub next_image_lem : IsImage w h (next t w h c)
  unfolding next
  next_image_lem = pass_image t image

  switched_next : switched t w h img ≡ next t w h c
  unfolding next
  switched_next = switched_pass t w h img image ok

  -- a pixel of a row in which nothing switches
  row_kept : (r x : ℕ) → r < h → x < w → S r x ≡ false → pixel w (next t w h c) r x ≡ pixel w img r x
  row_kept r x i j z = ap (λ (l : List ℕ). pixel w l r x) (sym (turned_switched t w h img ∙ switched_next)) ∙ turned_kept S w h img r x i j z

  -- the area that holds the image has its pixels
  here_pixel : (r x : ℕ) → r < h → x < w → get_or c.here (r * w + x) 0 ≡ pixel w img r x
  unfolding shown
  here_pixel r x i j = sym (get_or-take (w * h) c.here (r * w + x) 0 (cell_below i j))

  module _ {plane' e : List ℕ} {x y : ℕ} (made : Advanced t w h img plane' e x y) where
    pub next_packed : Packed w h (next t w h c) plane'
    next_packed = subst (λ (l : List ℕ). Packed w h l plane') switched_next made.packed

    pub next_counts : (x ≡ added img (next t w h c)) × (y ≡ removed img (next t w h c))
    next_counts = (made.more ∙ ap (added img) switched_next, made.less ∙ ap (removed img) switched_next)

    counted : added img (next t w h c) + removed img (next t w h c) ≡ x + y
    counted = sym (ap₂ ◌+◌ next_counts.0 next_counts.1)

    quiet : x + y ≡ 0 → differs img (next t w h c) ≡ false
    quiet z = equal_differs img (next t w h c) (unchanged_equal image next_image_lem (counted ∙ z))

    changes : (x + y ≡ 0 → ⊥) → differs img (next t w h c) ≡ true
    changes n = by (differs img (next t w h c)) refl
      where
        by : (d : Bool) → differs img (next t w h c) ≡ d → d ≡ true
        by true q = refl
        by false q = absurd (n (sym counted ∙ equal_unchanged image next_image_lem (differs_equal img (next t w h c) (image.sized ∙ sym next_image_lem.sized) q)))

    -- where nothing changes, rows that are not stale have the next image too
    pub fresh_same : x + y ≡ 0 → Fresh w h (next t w h c) stale c.there
    fresh_same z = subst (λ (l : List ℕ). Fresh w h l stale c.there) (unchanged_equal image next_image_lem (counted ∙ z)) run.fresh

    pub fresh_joined : {both : List ℕ} → Swept (λ j. bit_or (get_or stale j 0) (get_or e (rim + j) 0)) stale both 0 h → Fresh w h (next t w h c) both c.there
    fresh_joined {both} s = record { same = same }
      where
        same : (r k : ℕ) → r < h → k < w → get_or both r 0 ≡ 0 → get_or c.there (r * w + k) 0 ≡ pixel w (next t w h c) r k
        same r k i j z =
            let none = or_none (get_or stale r 0) (get_or e (rim + r) 0) (sym (s.inner r (omega arith) i) ∙ z) in
            run.fresh.same r k i j none.0 ∙ sym (row_kept r k i j (made.quiet.still r k i j none.1))

    module _ (go : c.passes < b.limit) where
      one_more : b.limit - c.passes ≡ suc (b.limit - (c.passes + 1))
      one_more = omega arith

      pub rests : x + y ≡ 0 → follow t w h b b.limit c₀ ≡ record { end = ending.Stable; trail = rested t w h c }
      unfolding follow
      rests z = run.left ∙ ap (λ (n : ℕ). follow t w h b n c) one_more ∙ rw (quiet z)

      module _ (some : x + y ≡ 0 → ⊥) where
        pub overflows : stops t w h b c ≡ true → follow t w h b b.limit c₀ ≡ record { end = ending.Full; trail = c }
        unfolding follow
        overflows f = run.left ∙ ap (λ (n : ℕ). follow t w h b n c) one_more ∙ rw (changes some, f)

        goes : stops t w h b c ≡ false → follow t w h b b.limit c₀ ≡ follow t w h b (b.limit - (c.passes + 1)) (onward t w h c)
        unfolding follow
        goes f = run.left ∙ ap (λ (n : ℕ). follow t w h b n c) one_more ∙ rw (changes some, f)

        -- the areas exchange their parts, and the rows that changed are the stale ones
        pub onward_running : stops t w h b c ≡ false → {old stale' dirty' : List ℕ} → Swept (λ j. get_or e (rim + (j - 0)) 0) old stale' 0 (0 + h)
            → Spread nearby e h dirty dirty' → Running t w h b c₀ es ms plane' dirty' stale' (onward t w h c)
        unfolding onward shown next
        onward_running f {old} {stale'} {dirty'} s p = record {
          left = goes f;
          scene = record { elements = run.scene.elements; kept = run.scene.kept; image = rw onward_shown next_image_lem; packed = rw onward_shown next_packed };
          still = rw onward_shown still;
          fresh = rw onward_shown (record { same = same });
        }
          where
            onward_shown : shown w h (onward t w h c) ≡ next t w h c
            onward_shown = take_over (next t w h c) c.there (w * h) next_image_lem.sized

            still : Still (switches t w h (next t w h c)) w h 0 dirty'
            still =
                still_next t w h img S (switches t w h (next t w h c)) (turned_switched t w h img ∙ switched_pass t w h img image ok)
                (turned_switched t w h (next t w h c) ∙ switched_pass t w h (next t w h c) next_image_lem ok) made.quiet p

            same : (r k : ℕ) → r < h → k < w → get_or stale' r 0 ≡ 0 → get_or c.here (r * w + k) 0 ≡ pixel w (next t w h c) r k
            same r k i j z =
                let at : rim + (r - 0) ≡ rim + r = omega arith in
                let none : get_or e (rim + r) 0 ≡ 0 = ap (λ (n : ℕ). get_or e n 0) (sym at) ∙ sym (s.inner r (omega arith) (omega arith)) ∙ z in
                here_pixel r k i j ∙ sym (row_kept r k i j (made.quiet.still r k i j none))

    -- the code's test of the budget
    stop_sum : (onward t w h c).added + (onward t w h c).removed ≡ c.added + c.removed + (x + y)
    unfolding onward
    stop_sum = omega (arith, next_counts)

    stop_passes : (onward t w h c).passes ≡ c.passes + 1
    unfolding onward
    stop_passes = refl

    pub stops_test : {d : Bool} → d ≡ (ltb b.most (c.passes + 1) || ltb b.room (c.added + c.removed + (x + y))) → d ≡ stops t w h b c
    unfolding stops
    stops_test e = e ∙ sym (rw (stop_passes, stop_sum) refl)

  pub limited : b.limit ≤ c.passes → follow t w h b b.limit c₀ ≡ record { end = ending.Limit; trail = c }
  unfolding follow
  limited l = let none : b.limit - c.passes ≡ 0 = omega arith in run.left ∙ ap (λ (n : ℕ). follow t w h b n c) none
