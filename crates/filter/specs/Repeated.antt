-- Passes one after the other over two areas (01, The job: run): the image goes to and fro between them.
--     Trail                 the area that holds the image and the other one, the passes made, and what they added and removed
--     begin a b             before the first pass: the image stands in a
--     shown w h c           the image; next t w h c: the image after one pass more
--     stops t w h b c       with that pass, the passes or the changed pixels are above what the budget b allows
--     onward t w h c        after a pass that changes pixels: the new image stands in the other area
--     rested t w h c        after a pass that changes none: the image stands in both
--     Ended                 why passes end, and where
--     follow t w h b n c    at most n passes that change pixels
--     repeated t w h b f s  the passes from an image in the area f; refused as `pass` refuses
--     answered e            what they answer; first_area e, second_area e: the areas afterwards. The image stands in the first after an even number of passes
--     answer r              the answer of passes that may be refused; leaves area r l: what they leave in l, which a refusal does not alter
-- Assumes nothing.
use Rattle.std.specs.Prelude.{Bool, cond, ◌||◌, List, ℕ, zero, suc, ◌+◌, ◌*◌, ◌%◌, ltb, eqb, length, take, Ok, Err, Result}
use Rattle.filter.specs.declared.Budget.{Budget}
use Rattle.filter.specs.declared.End.{End}
use Rattle.filter.specs.declared.End.TheVariants as ending
use Rattle.filter.specs.declared.Repeated.{Repeated}
use Rattle.filter.specs.Applied.{pass_verdict}
use Rattle.operator.specs.Image.{added, removed, differs}
use Rattle.operator.specs.Pass.{pass}
use Rattle.table.specs.declared.Table.{Table}
use Rattle.verdict.specs.Rules.{result_of, Refusal}
use Rattle.verdict.specs.Writer.{over}

pub record Trail : Type 0 where
  pub here : List ℕ
  pub there : List ℕ
  pub passes : ℕ
  pub added : ℕ
  pub removed : ℕ

abbrev pub begin : List ℕ → List ℕ → Trail
begin a b = record { here = a; there = b; passes = 0; added = 0; removed = 0 }

unfoldable pub shown : ℕ → ℕ → Trail → List ℕ
shown w h c = take (w * h) c.here

unfoldable pub next : Table → ℕ → ℕ → Trail → List ℕ
next t w h c = pass t w h (shown w h c)

unfoldable pub onward : Table → ℕ → ℕ → Trail → Trail
onward t w h c =
    record {
      here = over (next t w h c) c.there;
      there = c.here;
      passes = c.passes + 1;
      added = c.added + added (shown w h c) (next t w h c);
      removed = c.removed + removed (shown w h c) (next t w h c);
    }

unfoldable pub stops : Table → ℕ → ℕ → Budget → Trail → Bool
stops t w h b c = ltb b.most (onward t w h c).passes || ltb b.room ((onward t w h c).added + (onward t w h c).removed)

unfoldable pub rested : Table → ℕ → ℕ → Trail → Trail
rested t w h c = record { here = c.here; there = over (next t w h c) c.there; passes = c.passes; added = c.added; removed = c.removed }

pub record Ended : Type 0 where
  pub end : End
  pub trail : Trail

unfoldable pub follow : Table → ℕ → ℕ → Budget → ℕ → Trail → Ended
follow t w h b zero c = record { end = ending.Limit; trail = c }
follow t w h b (suc n) c =
    cond (differs (shown w h c) (next t w h c))
    (cond (stops t w h b c) (record { end = ending.Full; trail = c }) (follow t w h b n (onward t w h c)))
    (record { end = ending.Stable; trail = rested t w h c })

unfoldable pub repeated : Table → ℕ → ℕ → Budget → List ℕ → List ℕ → Result Ended Refusal
repeated t w h b f s = result_of (pass_verdict t w h (take (w * h) f) (length s)) (follow t w h b b.limit (begin f s))

abbrev pub answered : Ended → Repeated
answered e = record { passes = e.trail.passes; added = e.trail.added; removed = e.trail.removed; end = e.end }

unfoldable pub first_area : Ended → List ℕ
first_area e = cond (eqb (e.trail.passes % 2) 0) e.trail.here e.trail.there

unfoldable pub second_area : Ended → List ℕ
second_area e = cond (eqb (e.trail.passes % 2) 0) e.trail.there e.trail.here

abbrev pub answer : Result Ended Refusal → Result Repeated Refusal
answer (Ok e) = Ok (answered e)
answer (Err r) = Err r

abbrev pub leaves : (Ended → List ℕ) → Result Ended Refusal → List ℕ → List ℕ
leaves area (Ok e) l = area e
leaves area (Err r) l = l
