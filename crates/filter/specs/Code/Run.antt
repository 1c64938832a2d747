-- Passes one after the other on one plane (the module `run`).
--     holding n a b              of two areas the one that holds the image after n passes: the first where n is even
--     trail_of a b n x y          the trail after n passes that added x and removed y, from the areas as they stand
--     Put n w h marks plane a b x y   the areas a and b become x and y: the plane's image in the marked rows of the one that does not hold the image
--     RunRoom w h plane flips a b      room in every memory
--     Running t w h b c₀ es ms plane dirty stale c     where the passes stand: what is left of those from c₀ is what follows c; the plane has c's image, no row that is
--                                not dirty changes in the next pass, and no row that is not stale differs between the areas
--     Settled n w h plane e d d' s s' a b x y     after a pass that marked e: the dirty rows d and the stale rows s become d' and s', and the areas a and b become x and y
--     overruns b n u k           after n passes that changed u pixels, one more that changes k is above what the budget b allows
--     Within b u r               a pass that is made keeps within the budget
--     Went ..                    one pass more: where the passes stand then, or how they have ended
--     ended n x y e              the answer where passes end by e
--     EndedAs e r x y            r, x and y are the answer and the areas of the end e
--     Followed es ms w h b c r x y   r, x and y are the answer and the areas after the passes from c, for every accepted table that has these masks
-- Assumes nothing.
use Rattle.std.specs.Prelude.{cond, ◌||◌, List, ◌≡◌, ℕ, ◌+◌, ◌-◌, ◌*◌, ◌%◌, ◌≤◌, ltb, eqb, length, get_or, Bool, Result, Ok, Err, IfOk}
use Rattle.std.specs.Int.Bits.{bit_or}
use Rattle.filter.specs.declared.Budget.{Budget}
use Rattle.filter.specs.declared.Changes.{Changes}
use Rattle.filter.specs.declared.End.{End}
use Rattle.filter.specs.declared.Repeated.{Repeated}
use Rattle.filter.specs.Applied.{switches}
use Rattle.filter.specs.Code.Blocks.{Room, Scene, Fresh}
use Rattle.filter.specs.Code.Plane.{rim, Packed, Shown}
use Rattle.filter.specs.Code.Rows.{nearby, Spread}
use Rattle.filter.specs.Code.Turn.{Still}
use Rattle.filter.specs.Repeated.{Trail, Ended, shown, follow, answered, first_area, second_area}
use Rattle.operator.specs.Image.{IsImage}
use Rattle.seq.specs.Loops.{Swept}
use Rattle.table.specs.declared.Table.{Table}
use Rattle.table.specs.Record.{masks, persistents, record_verdict}

abbrev pub holding : ℕ → List ℕ → List ℕ → List ℕ
holding n a b = cond (eqb (n % 2) 0) a b

abbrev pub trail_of : List ℕ → List ℕ → ℕ → ℕ → ℕ → Trail
trail_of a b n x y = record { here = holding n a b; there = holding n b a; passes = n; added = x; removed = y }

pub record RunRoom (w h : ℕ) (plane flips first second : List ℕ) : Type 0 where
  pub room : Room h plane flips
  pub first_long : w * h ≤ length first
  pub second_long : w * h ≤ length second

pub record Running (t : Table) (w h : ℕ) (b : Budget) (c₀ : Trail) (es ms plane dirty stale : List ℕ) (c : Trail) : Type 0 where
  pub left : follow t w h b b.limit c₀ ≡ follow t w h b (b.limit - c.passes) c
  pub scene : Scene t w h (shown w h c) es ms plane
  pub still : Still (switches t w h (shown w h c)) w h 0 dirty
  pub fresh : Fresh w h (shown w h c) stale c.there

abbrev pub EndedAs : Ended → Repeated → List ℕ → List ℕ → Type 0
EndedAs e r x y = (r ≡ answered e) × (x ≡ first_area e) × (y ≡ second_area e)

abbrev pub Followed : List ℕ → List ℕ → ℕ → ℕ → Budget → Trail → Repeated → List ℕ → List ℕ → Type 0
Followed es ms w h b c r x y =
    (t : Table) → masks t ≡ es → persistents t ≡ ms → record_verdict t ≡ Ok tt → EndedAs (follow t w h b b.limit c) r x y

pub record Put (n w h : ℕ) (marks plane a b x y : List ℕ) : Type 0 where
  pub kept : holding n x y ≡ holding n a b
  pub put : (img : List ℕ) → IsImage w h img → Packed w h img plane → Shown w h img marks (holding n b a) (holding n y x)

-- the stale rows and those that changed now are put; those that changed now are the stale ones then
pub record Settled (n w h : ℕ) (plane e d d' s s' a b x y : List ℕ) : Type 0 where
  pub both : List ℕ
  pub joined : Swept (λ j. bit_or (get_or s j 0) (get_or e (rim + j) 0)) s both 0 h
  pub putting : Put n w h both plane a b x y
  pub stale : Swept (λ j. get_or e (rim + (j - 0)) 0) both s' 0 (0 + h)
  pub dirty : Spread nearby e h d d'

abbrev pub ended : ℕ → ℕ → ℕ → End → Repeated
ended n x y e = record { passes = n; added = x; removed = y; end = e }

abbrev pub overruns : Budget → ℕ → ℕ → ℕ → Bool
overruns b n u k = ltb b.most (n + 1) || ltb b.room (u + k)

abbrev pub Within : Budget → ℕ → Result Changes End → Type 0
Within b u r = IfOk r (λ m. u + (m.added + m.removed) ≤ b.room)

abbrev pub Went : Table → ℕ → ℕ → Budget → Trail → List ℕ → List ℕ → ℕ → ℕ → ℕ → Result Changes End → List ℕ → List ℕ → List ℕ → List ℕ → List ℕ → Type 0
Went t w h b c₀ es ms n x y (Ok m) plane dirty stale first second =
    Running t w h b c₀ es ms plane dirty stale (trail_of first second (n + 1) (x + m.added) (y + m.removed))
Went t w h b c₀ es ms n x y (Err e) plane dirty stale first second = EndedAs (follow t w h b b.limit c₀) (ended n x y e) first second
