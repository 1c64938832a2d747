-- The operator theory over any set of sites (000, sections 4 to 6; 01, demand 3), for every lawful system.
--     changes_once, changes_are_distance, changing_passes     what changes
--     exchanged, ordered                        over any number of passes
--     rests, stays, rests_first, rest_exchanged, rest_ordered     the first image that a pass leaves as it is
--     pass_is_modified, plain_is_psi            the report's formulas
--     psi_increasing, psi_self_dual             ψ
--     alpha_increasing, alpha_idempotent, alpha_below_identity, alpha_below_psi     α
-- Assumes nothing.
use Rattle.std.specs.Prelude.{true, not, List, ◌≡◌, ℕ, suc, ◌≤◌, length}
use Rattle.morph.proofs.Bound.{bound}
use Rattle.morph.proofs.Exchange as exchange
use Rattle.morph.proofs.Heijmans.{heijmans}
use Rattle.morph.proofs.Order as order
use Rattle.morph.proofs.Rest.{rest}
use Rattle.morph.proofs.SingleChange.{single_change}
use Rattle.morph.specs.Bound.{differing, total}
use Rattle.morph.specs.Heijmans.{plain, psi, alpha, modified}
use Rattle.morph.specs.Operator.{next, iterate, changes}
use Rattle.morph.specs.Rest.{rested}
use Rattle.morph.specs.System.{System, Image, Lawful, Listed}
use Rattle.seq.specs.Lists.{any, count}
use Rattle.seq.specs.Tab.{up_to}

module _ {S : Type 0} (𝓢 : System S) (law : Lawful 𝓢) (X Y : Image S) (p : S) where
  pub changes_once : (i j : ℕ) → changes 𝓢 X i p ≡ true → changes 𝓢 X j p ≡ true → i ≡ j
  changes_once = single_change law X p

  pub changes_are_distance : (l : List S) (n : ℕ)
      → differing X (iterate 𝓢 n X) l ≡ total (λ i. differing (iterate 𝓢 i X) (iterate 𝓢 (suc i) X) l) n
  changes_are_distance = (bound law).distance X

  pub changing_passes : (l : List S) (n : ℕ) → count (λ i. any (changes 𝓢 X i) l) (up_to n) ≤ length l
  changing_passes = (bound law).passes X

  pub exchanged : (n : ℕ) → iterate 𝓢 n (λ q. not (X q)) p ≡ not (iterate 𝓢 n X p)
  exchanged n = exchange.exchange 𝓢 X n p

  pub ordered : ((q : S) → X q ≡ true → Y q ≡ true) → (n : ℕ) → iterate 𝓢 n X p ≡ true → iterate 𝓢 n Y p ≡ true
  ordered below n = order.order law X Y below n p

  pub rests : (sites : List S) → Listed 𝓢 sites → (q : S) → next 𝓢 (rested 𝓢 sites X) q ≡ rested 𝓢 sites X q
  rests sites listed = (rest law listed).reached X

  pub stays : (sites : List S) → Listed 𝓢 sites → (n m : ℕ) → ((q : S) → next 𝓢 (iterate 𝓢 n X) q ≡ iterate 𝓢 n X q) → n ≤ m
      → iterate 𝓢 m X p ≡ iterate 𝓢 n X p
  stays sites listed n m stable later = (rest law listed).stays X n m stable later p

  pub rests_first : (sites : List S) → Listed 𝓢 sites → (n : ℕ) → ((q : S) → next 𝓢 (iterate 𝓢 n X) q ≡ iterate 𝓢 n X q)
      → rested 𝓢 sites X p ≡ iterate 𝓢 n X p
  rests_first sites listed n stable = (rest law listed).first X n stable p

  pub rest_exchanged : (sites : List S) → Listed 𝓢 sites → rested 𝓢 sites (λ q. not (X q)) p ≡ not (rested 𝓢 sites X p)
  rest_exchanged sites listed = (rest law listed).exchange X p

  pub rest_ordered : (sites : List S) → Listed 𝓢 sites → ((q : S) → X q ≡ true → Y q ≡ true)
      → rested 𝓢 sites X p ≡ true → rested 𝓢 sites Y p ≡ true
  rest_ordered sites listed below = (rest law listed).order X Y below p

  pub pass_is_modified : next 𝓢 X p ≡ modified 𝓢 X p
  pass_is_modified = (heijmans law).next_modified X p

  pub plain_is_psi : plain 𝓢 X p ≡ psi 𝓢 X p
  plain_is_psi = (heijmans law).psi_plain X p

  pub psi_increasing : ((q : S) → X q ≡ true → Y q ≡ true) → psi 𝓢 X p ≡ true → psi 𝓢 Y p ≡ true
  psi_increasing below = (heijmans law).psi_increasing X Y below p

  pub psi_self_dual : psi 𝓢 (λ q. not (X q)) p ≡ not (psi 𝓢 X p)
  psi_self_dual = (heijmans law).psi_self_dual X p

  pub alpha_increasing : ((q : S) → X q ≡ true → Y q ≡ true) → alpha 𝓢 X p ≡ true → alpha 𝓢 Y p ≡ true
  alpha_increasing below = (heijmans law).alpha_increasing X Y below p

  pub alpha_idempotent : alpha 𝓢 (alpha 𝓢 X) p ≡ alpha 𝓢 X p
  alpha_idempotent = (heijmans law).alpha_idempotent X p

  pub alpha_below_identity : alpha 𝓢 X p ≡ true → X p ≡ true
  alpha_below_identity = (heijmans law).alpha_below X p

  pub alpha_below_psi : alpha 𝓢 X p ≡ true → psi 𝓢 X p ≡ true
  alpha_below_psi = (heijmans law).alpha_psi X p
