-- One pass over slices: what it answers, and what it leaves in the area that it fills.
--     counts_as v px next            the counts from px to next, or the refusal
--     pass_verdict t w h px n        the table's rules; 10, 11, 12 on the pixel bytes; 13 on an area of n bytes
--     filtered t w h px n           the answer of `pass`; filtered_area t w h px area: the area afterwards
--     switches t w h img r c        a pixel changes: not opened for its own value v, and held for 1 − v
--     switched_at t w h img r c      the pixel afterwards; switched t w h img: the image. As one pass, but a pixel opened for its own value stays
--     ranged t                      the table has fitting counts, and its elements are valid masks
--     range_verdict t                only that is judged; a table that is out of range is refused by its own number
--     again_verdict t w h px n       as `pass_verdict`, but of the table only the ranges are judged
--     again t w h px n              the answer of `again`; again_area t w h px area: the area afterwards
--     Again t w h px area           `again` is `pass`; AllAgain: for every accepted table
-- Assumes nothing.
use Rattle.std.specs.Prelude.{Bool, cond, not, ◌&&◌, List, [], ◌∷◌, ◌≡◌, ℕ, ◌-◌, ◌*◌, ◌/◌, ◌%◌, leb, length, Ok, Err}
use Rattle.filter.specs.Answers.{Filtered}
use Rattle.operator.specs.Image.{pixel, added, removed}
use Rattle.operator.specs.Pass.{opened, held, pass}
use Rattle.image.specs.File.{pixel_verdict, area_rule}
use Rattle.seq.specs.Lists.{all}
use Rattle.seq.specs.Tab.{tab}
use Rattle.table.specs.declared.Table.{Table}
use Rattle.table.specs.Mask.{valid_mask}
use Rattle.table.specs.Record.{max_elements, max_ranks, masks, record_verdict}
use Rattle.verdict.specs.Rules.{judge, Verdict}
use Rattle.verdict.specs.Writer.{output_of}

abbrev pub counts_as : Verdict → List ℕ → List ℕ → Filtered
counts_as (Ok _) px next = Ok (record { added = added px next; removed = removed px next })
counts_as (Err r) px next = Err r

unfoldable pub pass_verdict : Table → ℕ → ℕ → List ℕ → ℕ → Verdict
pass_verdict t w h px n = judge (record_verdict t ∷ pixel_verdict w h px ∷ area_rule w h n ∷ [])

unfoldable pub filtered : Table → ℕ → ℕ → List ℕ → ℕ → Filtered
filtered t w h px n = counts_as (pass_verdict t w h px n) px (pass t w h px)

unfoldable pub filtered_area : Table → ℕ → ℕ → List ℕ → List ℕ → List ℕ
filtered_area t w h px area = output_of (pass_verdict t w h px (length area)) (pass t w h px) area

unfoldable pub switches : Table → ℕ → ℕ → List ℕ → ℕ → ℕ → Bool
switches t w h img r c = not (opened t w h img (pixel w img r c) r c) && held t w h img (1 - pixel w img r c) r c

unfoldable pub switched_at : Table → ℕ → ℕ → List ℕ → ℕ → ℕ → ℕ
switched_at t w h img r c = cond (switches t w h img r c) (1 - pixel w img r c) (pixel w img r c)

unfoldable pub switched : Table → ℕ → ℕ → List ℕ → List ℕ
switched t w h img = tab (λ i. switched_at t w h img (i / w) (i % w)) (w * h)

unfoldable pub ranged : Table → Bool
ranged t = (leb t.count max_elements && leb t.ranks max_ranks) && all valid_mask (masks t)

unfoldable pub range_verdict : Table → Verdict
range_verdict t = cond (ranged t) (Ok tt) (record_verdict t)

unfoldable pub again_verdict : Table → ℕ → ℕ → List ℕ → ℕ → Verdict
again_verdict t w h px n = judge (range_verdict t ∷ pixel_verdict w h px ∷ area_rule w h n ∷ [])

unfoldable pub again : Table → ℕ → ℕ → List ℕ → ℕ → Filtered
again t w h px n = counts_as (again_verdict t w h px n) px (switched t w h px)

unfoldable pub again_area : Table → ℕ → ℕ → List ℕ → List ℕ → List ℕ
again_area t w h px area = output_of (again_verdict t w h px (length area)) (switched t w h px) area

pub record Again (t : Table) (w h : ℕ) (px area : List ℕ) : Type 0 where
  pub answer : again t w h px (length area) ≡ filtered t w h px (length area)
  pub left : again_area t w h px area ≡ filtered_area t w h px area

abbrev pub AllAgain : Type 0
AllAgain = (t : Table) (w h : ℕ) (px area : List ℕ) → record_verdict t ≡ Ok tt → Again t w h px area
