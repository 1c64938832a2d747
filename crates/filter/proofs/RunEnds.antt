-- The loop over passes: where it stands, one pass more, and its ends.
--     parity                     one pass more exchanges the areas
--     Looping ..                 where the loop stands after n passes that added x and removed y
--     running_none               before the first pass
--     ends_stable, ends_full, ends_limit     what it answers and leaves at each of its ends
--     over_stops, overruns_not   what the code's test of the budget says
--     runs_on                    one pass more of the loop
-- Assumes nothing.
use Rattle.std.specs.Prelude.{Ok}
use mathlib.Core.Bool.{Bool, true, false, cond, not}
use mathlib.Core.List.{List}
use mathlib.Core.Path.{◌≡◌, refl, sym, ap, ap₂, ◌∙◌, subst}
use Prim.Native.Nat.{ℕ, ◌+◌, ◌-◌, ◌*◌, ◌%◌, ◌≤◌, ◌<◌}
use native.Mathlib.Omega.{arith}
use borrow.Author.Tests.{eq-eqb, ne_eqb, eqb-true, eqb-false, ltb-false}
use lib.Dec.{ltb, eqb}
use lib.ListN.{length, get_or, take}
use Rattle.filter.specs.declared.Budget.{Budget}
use Rattle.filter.specs.declared.End.{End}
use Rattle.filter.specs.declared.End.TheVariants as ending
use Rattle.filter.specs.Applied.{switches}
use Rattle.filter.specs.Code.Blocks.{Advanced, Fresh}
use Rattle.filter.specs.Code.Plane.{rim, Packed}
use Rattle.filter.specs.Code.Rows.{nearby, Spread}
use Rattle.filter.specs.Code.Run.{holding, trail_of, Running, EndedAs, Put, overruns, ended}
use Rattle.filter.specs.Repeated.{Trail, begin, shown, next, onward, stops, rested, follow, first_area, second_area}
use Rattle.filter.proofs.FilteredLaws.{shown_over, all_fresh, still_all}
use Rattle.filter.proofs.RunLaws.{next_image_lem, next_packed, next_counts, stops_test, rests, overflows, onward_running, limited}
use Rattle.image.specs.Size.{max_side}
use Rattle.operator.specs.Image.{IsImage}
use Rattle.seq.specs.Loops.{Swept}
use Rattle.seq.proofs.Tests.{or_none_right}
use Rattle.table.specs.declared.Table.{Table}
use Rattle.table.specs.Record.{masks, persistents, record_verdict}
use Rattle.verdict.specs.Writer.{over}

pub parity : (n : ℕ) → eqb ((n + 1) % 2) 0 ≡ not (eqb (n % 2) 0)
parity n = by (eqb (n % 2) 0) refl
  where
    by : (b : Bool) → eqb (n % 2) 0 ≡ b → eqb ((n + 1) % 2) 0 ≡ not b
    by true e = ne_eqb ((n + 1) % 2) 0 (λ z. omega (arith, eqb-true (n % 2) 0 e))
    by false e = let odd : n % 2 ≡ 0 → ⊥ = eqb-false (n % 2) 0 e in eq-eqb ((n + 1) % 2) 0 (omega arith)

-- the two areas, taken by a truth value and put back
pick_first : (d : Bool) (f s : List ℕ) → f ≡ cond d (cond d f s) (cond d s f)
pick_first true f s = refl
pick_first false f s = refl

pick_second : (d : Bool) (f s : List ℕ) → s ≡ cond d (cond d s f) (cond d f s)
pick_second true f s = refl
pick_second false f s = refl

turned_pick : (d : Bool) (f s : List ℕ) → cond (not d) f s ≡ cond d s f
turned_pick true f s = refl
turned_pick false f s = refl

holding_long : (d : Bool) {m : ℕ} (a b : List ℕ) → m ≤ length a → m ≤ length b → m ≤ length (cond d a b)
holding_long true a b p q = p
holding_long false a b p q = q

-- the areas of an end, by the area that holds the image and the other one
areas : {n : ℕ} {x y : ℕ} {f s here there : List ℕ} (end : End) → holding n f s ≡ here → holding n s f ≡ there
    → EndedAs (record { end = end; trail = record { here = here; there = there; passes = n; added = x; removed = y } }) (record { passes = n; added = x; removed = y; end = end }) f s
unfolding first_area second_area
areas {n} {f = f} {s} end p q = (refl, pick_first (eqb (n % 2) 0) f s ∙ ap₂ (cond (eqb (n % 2) 0)) p q, pick_second (eqb (n % 2) 0) f s ∙ ap₂ (cond (eqb (n % 2) 0)) q p)

module _ {t : Table} {w h : ℕ} {b : Budget} {c₀ : Trail} {es ms plane dirty stale : List ℕ} (first second : List ℕ) {n x y : ℕ} (ok : record_verdict t ≡ Ok tt)
    (run : Running t w h b c₀ es ms plane dirty stale (trail_of first second n x y)) where
  abbrev c : Trail
  c = trail_of first second n x y

  pub ends_limit : b.limit ≤ n → EndedAs (follow t w h b b.limit c₀) (ended n x y ending.Limit) first second
  ends_limit l = rw (limited t w h b c₀ ok run l) (areas ending.Limit refl refl)

  module _ {plane' e : List ℕ} {p q : ℕ} (made : Advanced t w h (shown w h c) plane' e p q) (go : n < b.limit) where
    pub over_stops : {u : ℕ} {d : Bool} → u ≡ x + y → d ≡ overruns b n u (p + q) → stops t w h b c ≡ d
    over_stops k e = sym (stops_test t w h b c₀ ok run made (e ∙ ap (λ (u : ℕ). overruns b n u (p + q)) k))

    pub ends_full : (p + q ≡ 0 → ⊥) → stops t w h b c ≡ true
        → EndedAs (follow t w h b b.limit c₀) (ended n x y ending.Full) first second
    ends_full some f = rw (overflows t w h b c₀ ok run made go some f) (areas ending.Full refl refl)

    module _ (first_long : w * h ≤ length first) (second_long : w * h ≤ length second) {marks f s : List ℕ} (put : Put n w h marks plane' first second f s)
        (fresh : Fresh w h (next t w h c) marks c.there) where
      put_next : holding n s f ≡ over (next t w h c) c.there
      put_next =
          shown_over (next_image_lem t w h b c₀ ok run) (holding_long (eqb (n % 2) 0) second first second_long first_long) fresh
          (put.put (next t w h c) (next_image_lem t w h b c₀ ok run) (next_packed t w h b c₀ ok run made))

      pub ends_stable : p + q ≡ 0 → EndedAs (follow t w h b b.limit c₀) (ended n x y ending.Stable) f s
      unfolding rested
      ends_stable z = rw (rests t w h b c₀ ok run made go z) (areas ending.Stable put.kept put_next)

      onward_trail : onward t w h c ≡ trail_of f s (n + 1) (x + p) (y + q)
      unfolding onward
      onward_trail =
          let k = next_counts t w h b c₀ ok run made in
          trail_ext (sym put_next ∙ sym (turned_pick (eqb (n % 2) 0) f s) ∙ ap (λ (d : Bool). cond d f s) (sym (parity n)))
          (sym put.kept ∙ sym (turned_pick (eqb (n % 2) 0) s f) ∙ ap (λ (d : Bool). cond d s f) (sym (parity n)))
          (ap (λ (m : ℕ). x + m) (sym k.0)) (ap (λ (m : ℕ). y + m) (sym k.1))
        where
          trail_ext : {a a' d d' : List ℕ} {m i i' j j' : ℕ} → a ≡ a' → d ≡ d' → i ≡ i' → j ≡ j'
              → ◌≡◌ {A = Trail} (record { here = a; there = d; passes = m; added = i; removed = j }) (record { here = a'; there = d'; passes = m; added = i'; removed = j' })
          trail_ext α β γ δ = cc

      pub runs_on : (p + q ≡ 0 → ⊥) → stops t w h b c ≡ false → {stale' dirty' : List ℕ} → Swept (λ j. get_or e (rim + (j - 0)) 0) marks stale' 0 (0 + h)
          → Spread nearby e h dirty dirty' → Running t w h b c₀ es ms plane' dirty' stale' (trail_of f s (n + 1) (x + p) (y + q))
      runs_on some st {stale'} {dirty'} sw sp = subst (λ (k : Trail). Running t w h b c₀ es ms plane' dirty' stale' k) onward_trail (onward_running t w h b c₀ ok run made go some st sw sp)

-- a pass that the budget allows keeps within it
pub overruns_not : (b : Budget) (n u k : ℕ) → false ≡ overruns b n u k → u + k ≤ b.room
overruns_not b n u k e = ltb-false b.room (u + k) (or_none_right (ltb b.most (n + 1)) (ltb b.room (u + k)) (sym e))

-- before the first pass every row is dirty and every row is stale
pub running_none : {t : Table} {w h : ℕ} {b : Budget} (first second : List ℕ) {es ms plane dirty stale : List ℕ} → masks t ≡ es → persistents t ≡ ms
    → IsImage w h (take (w * h) first) → Packed w h (take (w * h) first) plane → h ≤ max_side → ((i : ℕ) → i < max_side → get_or dirty i 0 ≡ 1)
    → ((i : ℕ) → i < max_side → get_or stale i 0 ≡ 1) → Running t w h b (begin first second) es ms plane dirty stale (begin first second)
unfolding shown
running_none {t} {w} {h} {b} first second e k m p low d s =
    let whole : b.limit ≡ b.limit - 0 = omega arith in
    record {
      left = ap (λ (n : ℕ). follow t w h b n (begin first second)) whole;
      scene = record { elements = e; kept = k; image = m; packed = p };
      still = still_all low d (switches t w h (take (w * h) first)) w;
      fresh = all_fresh low s w (take (w * h) first) second;
    }

-- the loop's state: every memory has its length, the changes are within the budget, and the passes stand where the areas say
pub record Looping (es ms : List ℕ) (w h : ℕ) (b : Budget) (plane₀ flips₀ first₀ second₀ plane flips dirty stale first second : List ℕ) (n x y : ℕ) : Type 0 where
  pub plane_same : length plane ≡ length plane₀
  pub flips_same : length flips ≡ length flips₀
  pub first_same : length first ≡ length first₀
  pub second_same : length second ≡ length second₀
  pub few : x + y ≤ b.room
  pub running : (t : Table) → masks t ≡ es → persistents t ≡ ms → record_verdict t ≡ Ok tt
      → Running t w h b (begin first₀ second₀) es ms plane dirty stale (trail_of first second n x y)
