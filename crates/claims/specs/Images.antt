-- 01, One pass and demand 3, on images: for every accepted table, size and image.
--     pass_is_image, pass_is_modified, plain_is_psi, opened_stays     one pass
--     changes_once, black_balance, changes_bound, changing_passes     its changes, over any number of passes
--     rests, rests_first, stays           the first image that a pass leaves as it is
--     exchanged, rest_exchanged           colours exchanged
--     ordered, rest_ordered               an image that is black wherever the first is
--     preview_is_plain                    the preview is the plain rule of the 56 five-point subsets of the eight neighbours
--     again_answers, again_fills          a pass over slices with a table that was judged before
-- Assumes nothing.
use Rattle.std.specs.Prelude.{true, false, List, ◌≡◌, ℕ, suc, ◌+◌, ◌-◌, ◌*◌, ◌≤◌, ◌<◌, length, get_or, Ok}
use Rattle.operator.proofs.Counts.{all_counts}
use Rattle.operator.proofs.Exchange.{exchange_passes}
use Rattle.operator.proofs.Heijmans.{all_heijmans}
use Rattle.operator.proofs.Kept.{opened_kept}
use Rattle.operator.proofs.Order.{order_passes}
use Rattle.filter.proofs.PassCodeApplied.{all_again}
use Rattle.operator.proofs.PreviewPlain.{preview_plain}
use Rattle.operator.proofs.Rest.{all_rest}
use Rattle.operator.proofs.SingleChange.{single_change}
use Rattle.filter.specs.Applied.{filtered, filtered_area, again, again_area}
use Rattle.operator.specs.Heijmans.{psi, modified}
use Rattle.operator.specs.Image.{IsImage, black, added, removed, differs, differs_at, exchange}
use Rattle.operator.specs.Pass.{opened, held, pass, passes}
use Rattle.operator.specs.Plain.{plain}
use Rattle.operator.specs.Preview.{preview, median_table}
use Rattle.operator.specs.Rest.{rested}
use Rattle.morph.specs.Bound.{total}
use Rattle.seq.specs.Lists.{count}
use Rattle.seq.specs.Tab.{up_to}
use Rattle.table.specs.declared.Table.{Table}
use Rattle.table.specs.Record.{record_verdict}

module _ (t : Table) (w h : ℕ) (img : List ℕ) (ok : record_verdict t ≡ Ok tt) (i : IsImage w h img) where
  pub pass_is_image : (n : ℕ) → IsImage w h (passes t w h n img)
  pass_is_image = (all_counts t w h img ok i).image

  pub pass_is_modified : pass t w h img ≡ modified t w h img
  pass_is_modified = (all_heijmans t w h img ok i).pass_modified

  pub plain_is_psi : plain t w h img ≡ psi t w h img
  plain_is_psi = (all_heijmans t w h img ok i).plain_psi

  -- an opened pixel never changes
  pub opened_stays : (v r c : ℕ) → v ≤ 1 → r < h → c < w → opened t w h img v r c ≡ true → held t w h img (1 - v) r c ≡ false
  opened_stays = opened_kept t w h img ok i

  pub changes_once : (k m n : ℕ) → differs_at (passes t w h m img) (passes t w h (suc m) img) k ≡ true
      → differs_at (passes t w h n img) (passes t w h (suc n) img) k ≡ true → m ≡ n
  changes_once = single_change t w h img ok i

  pub black_balance : black (pass t w h img) + removed img (pass t w h img) ≡ black img + added img (pass t w h img)
  black_balance = (all_counts t w h img ok i).balance

  pub changes_bound : (n : ℕ)
      → total (λ k. added (passes t w h k img) (passes t w h (suc k) img)) n
      + total (λ k. removed (passes t w h k img) (passes t w h (suc k) img)) n
      ≤ w * h
  changes_bound = (all_counts t w h img ok i).changes

  pub changing_passes : (n : ℕ) → count (λ k. differs (passes t w h k img) (passes t w h (suc k) img)) (up_to n) ≤ w * h
  changing_passes = (all_counts t w h img ok i).bound

  pub exchanged : (n : ℕ) → passes t w h n (exchange img) ≡ exchange (passes t w h n img)
  exchanged = exchange_passes t w h img ok i

  pub rests : pass t w h (rested t w h img) ≡ rested t w h img
  rests = (all_rest t w h ok).reached img i

  pub rests_first : (n : ℕ) → pass t w h (passes t w h n img) ≡ passes t w h n img → rested t w h img ≡ passes t w h n img
  rests_first = (all_rest t w h ok).first img i

  pub stays : (n m : ℕ) → pass t w h (passes t w h n img) ≡ passes t w h n img → n ≤ m → passes t w h m img ≡ passes t w h n img
  stays = (all_rest t w h ok).stays img

  pub rest_exchanged : rested t w h (exchange img) ≡ exchange (rested t w h img)
  rest_exchanged = (all_rest t w h ok).exchanged img i

  -- an image that is black wherever the first is
  module _ (other : List ℕ) (j : IsImage w h other) (below : (k : ℕ) → k < length img → get_or img k 0 ≤ get_or other k 0) where
    pub ordered : (n k : ℕ) → k < length (passes t w h n img) → get_or (passes t w h n img) k 0 ≤ get_or (passes t w h n other) k 0
    ordered = order_passes t w h img other ok i j below

    pub rest_ordered : (k : ℕ) → k < length (rested t w h img) → get_or (rested t w h img) k 0 ≤ get_or (rested t w h other) k 0
    rest_ordered = (all_rest t w h ok).ordered img other i j below

pub preview_is_plain : (w h : ℕ) (img : List ℕ) → IsImage w h img → preview w h img ≡ plain median_table w h img
preview_is_plain = preview_plain

-- a pass over slices with a table that was judged before
module _ (t : Table) (w h : ℕ) (px area : List ℕ) (ok : record_verdict t ≡ Ok tt) where
  pub again_answers : again t w h px (length area) ≡ filtered t w h px (length area)
  again_answers = (all_again t w h px area ok).answer

  pub again_fills : again_area t w h px area ≡ filtered_area t w h px area
  again_fills = (all_again t w h px area ok).left
