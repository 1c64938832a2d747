-- Two jobs with one table after equally many accepted passes, or both settled; and a stable image that was loaded.
--     rested_last        a settled entry's last image is the rested one
--     Shared e e'        one operator takes the first images to the last ones, and keeps exchange and order
--     shared             two such jobs have one
--     exchanged, ordered, located, alone, rests     the claims
-- Assumes nothing.
use Rattle.std.specs.Prelude.{Ok}
use mathlib.Core.Bool.{true}
use mathlib.Core.List.{List, []}
use mathlib.Core.Logic.{◌⊎◌, inl, inr}
use mathlib.Core.Path.{◌≡◌, sym, ap, ◌∙◌, subst₂}
use Prim.Native.Nat.{ℕ, ◌+◌, ◌*◌, ◌<◌}
use native.Mathlib.Omega.{arith}
use lib.ListN.{length, get_or}
use Rattle.history.specs.declared.Effect.TheVariants as effect
use Rattle.operator.specs.Heijmans.{modified}
use Rattle.operator.specs.Image.{pixel, IsImage, added, removed, exchange, Below}
use Rattle.operator.specs.Locality.{reach, Alike, Inner}
use Rattle.operator.specs.Pass.{passes, Stable}
use Rattle.operator.specs.Rest.{rested}
use Rattle.operator.proofs.Exchange.{exchange_passes}
use Rattle.operator.proofs.Heijmans.{all_heijmans}
use Rattle.operator.proofs.Locality.{locality, part_alone}
use Rattle.operator.proofs.Order.{order_passes}
use Rattle.operator.proofs.Rest.{all_rest}
use Rattle.history.specs.Call.{pass, passed, answer_of}
use Rattle.history.specs.Demand3.{Twins, Alone, Rests}
use Rattle.history.specs.History.{Entry}
use Rattle.history.specs.Lists.{Course, oldest, first_of, sum_steps}
use Rattle.history.specs.State.{State}
use Rattle.history.specs.View.{view_of}
use Rattle.history.proofs.After.{agrees}
use Rattle.history.proofs.Related.{Held}
use Rattle.history.proofs.Row.{row_stable}
use Rattle.history.proofs.ChannelRuns.{pass_accepted, run_accepted}
use Rattle.history.proofs.Run.{run_answer}
use Rattle.history.proofs.View.{view_held, operated_held}
use Rattle.image.specs.Parts.{above, part_of}
use Rattle.seq.specs.Lists.{sum_of}

-- one operator takes both first images to the last ones, and keeps exchange and order
record Shared (e e' : Entry) : Type 0 where
  operator : List ℕ → List ℕ
  here : operator (first_of e) ≡ e.last
  there : operator (first_of e') ≡ e'.last
  exchanging : (img : List ℕ) → IsImage e.width e.height img → operator (exchange img) ≡ exchange (operator img)
  ordering : (a b : List ℕ) → IsImage e.width e.height a → IsImage e.width e.height b → Below a b → Below (operator a) (operator b)

-- the last image of a settled entry is stable, so it is the rested one
rested_last : {s : State} {e : Entry} {n : ℕ} → Held s e n → e.settled ≡ true → rested e.table e.width e.height (first_of e) ≡ e.last
rested_last {e = e} {n = n} r q =
    (all_rest e.table e.width e.height r.accepted).first (first_of e) r.begun n (rw r.tallied (r.stable q)) ∙ r.tallied

module _ {w w' : Course} {e e' : Entry} (two : Twins w w' e e') (r : Held w.state e w.tally) (r' : Held w'.state e' w'.tally) where
  -- the second's last image, by the first's table, size and number of passes
  tallied : w.tally ≡ w'.tally → passes e.table e.width e.height w.tally (first_of e') ≡ e'.last
  tallied same = rw (same, two.table, two.width, two.height) r'.tallied

  -- as many passes as both have made, or the operator that gives the rested image
  shared : (w.tally ≡ w'.tally) ⊎ ((e.settled ≡ true) × (e'.settled ≡ true)) → Shared e e'
  shared (inl same) = record {
    operator = passes e.table e.width e.height w.tally;
    here = r.tallied;
    there = tallied same;
    exchanging = λ img i. exchange_passes e.table e.width e.height img r.accepted i w.tally;
    ordering = λ a b i j c. order_passes e.table e.width e.height a b r.accepted i j c w.tally;
  }
  shared (inr both) = record {
    operator = rested e.table e.width e.height;
    here = rested_last r both.0;
    there = rw (two.table, two.width, two.height) (rested_last r' both.1);
    exchanging = (all_rest e.table e.width e.height r.accepted).exchanged;
    ordering = (all_rest e.table e.width e.height r.accepted).ordered;
  }

  pub exchanged : first_of e' ≡ exchange (first_of e) → view_of w'.state ≡ exchange (view_of w.state)
  exchanged q =
      let f = shared two.together in
      view_held r'
      ∙ sym f.there
      ∙ ap f.operator q
      ∙ f.exchanging (first_of e) r.begun
      ∙ ap exchange (f.here ∙ sym (view_held r))

  pub ordered : Below (first_of e) (first_of e') → Below (view_of w.state) (view_of w'.state)
  ordered c =
      let f = shared two.together in
      subst₂ Below (f.here ∙ sym (view_held r)) (f.there ∙ sym (view_held r'))
      (f.ordering (first_of e) (first_of e') r.begun (rw (two.width, two.height) r'.begun) c)

  pub located : w.tally ≡ w'.tally → (x y : ℕ) → x < e.height → y < e.width
      → Alike (reach * w.tally) e.width e.height (first_of e) (first_of e') x y
      → pixel e.width (view_of w.state) x y ≡ pixel e.width (view_of w'.state) x y
  located same x y l m alike =
      ap (λ img. pixel e.width img x y) (view_held r ∙ sym r.tallied)
      ∙ locality e.table e.width e.height (first_of e) (first_of e') w.tally x y l m alike
      ∙ ap (λ img. pixel e.width img x y) (tallied same ∙ sym (view_held r'))

-- a strip beside its part alone
module _ {w w' : Course} {e e' : Entry} {i : ℕ} (two : Alone w w' e e' i) (r : Held w.state e w.tally) (r' : Held w'.state e' w'.tally) where
  strip_passed : view_of w.state ≡ passes e.table e.width (sum_of e.parts) w.tally (first_of e)
  strip_passed = view_held r ∙ sym r.tallied ∙ ap (λ h. passes e.table e.width h w.tally (first_of e)) (sym (agrees r).rows)

  part_passed : passes e.table e.width (get_or e.parts i 0) w.tally (part_of e.width e.parts i (first_of e)) ≡ view_of w'.state
  part_passed = rw (sym two.first, sym two.height, two.table, two.width, two.together) r'.tallied ∙ sym (view_held r')

  pub alone : (x y : ℕ) → x < e'.height → y < e.width → Inner (reach * w.tally) e.parts i x
      → pixel e.width (view_of w.state) (above e.parts i + x) y ≡ pixel e.width (view_of w'.state) x y
  alone x y l m far =
      ap (λ img. pixel e.width img (above e.parts i + x) y) strip_passed
      ∙ part_alone e.table e.width e.parts (first_of e) w.tally i x y two.part (omega (arith, two.height)) m far
      ∙ ap (λ img. pixel e.width img x y) part_passed

-- every pass on a stable image is quiet, so there is no step from it
pub rests : {s : State} {e : Entry} {n : ℕ} → Held s e n → Stable e.table e.width e.height (first_of e) → Rests (first_of e) s
unfolding answer_of
rests {s} {e} r q = record {
  view = view_held r ∙ last_first;
  passes = (agrees r).passes ∙ ap length none;
  added = (agrees r).added ∙ ap (sum_steps added e.last) none;
  removed = (agrees r).removed ∙ ap (sum_steps removed e.last) none;
  pass_answer = quiet;
  run_answer = ap passed (run_answer r);
  channel_pass_answer = λ c i ok. ap passed (pass_accepted c i s ok) ∙ quiet;
  channel_run_answer = λ c i ok. ap passed (run_accepted c i s ok ∙ run_answer r);
}
  where
    none : e.earlier ≡ []
    none = row_stable r.accepted r.row q

    last_first : e.last ≡ first_of e
    last_first = sym (ap (oldest e.last) none)

    fixed : modified e.table e.width e.height (first_of e) ≡ first_of e
    fixed = sym (all_heijmans e.table e.width e.height (first_of e) r.accepted r.begun).pass_modified ∙ q

    quiet : answer_of pass s ≡ passed (Ok effect.Stable)
    quiet = (operated_held r).reported.1 (rw (view_held r, last_first) fixed)
