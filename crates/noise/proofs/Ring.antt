-- The ring that holds the last 55 numbers while an image is drawn.
--     Ring seed ring oldest recent i     the ring after i numbers are drawn: counted round, the oldest number stands at i, and the one 24 places
--                                        before the next at 31 more
--     ring_none, ring_drawn, ring_more     its start; the sum of the two slots is the number drawn; a turn
-- Assumes nothing.
use Rattle.std.proofs.Common.{◌≡◌, ℕ, suc, ◌+◌, ◌-◌, ◌%◌, ◌^◌, ◌<◌, List, length, get_or, set, sym, refl, ap, ◌∙◌, ap₂, add-one, arith, length-set, get_or-set_other, get_or-set_same}
use Rattle.noise.specs.Generator.{long_lag, short_lag, seeded, lagged, drawn}
use Rattle.noise.proofs.Lagged.{lagged_moved, lagged_last, each_place}
use Rattle.seq.proofs.Tab.{length_tab}
use Rattle.seq.specs.Tab.{tab}

pub record Ring (seed : ℕ) (ring : List ℕ) (oldest recent i : ℕ) : Type 0 where
  pub slots : length ring ≡ long_lag
  pub old : oldest ≡ i % long_lag
  pub new : recent ≡ (i + (long_lag - short_lag)) % long_lag
  pub holds : (j : ℕ) → j < long_lag → get_or ring ((i + j) % long_lag) 0 ≡ get_or (lagged seed i) j 0

pub ring_none : {seed : ℕ} {ring : List ℕ} → ring ≡ tab (seeded seed) long_lag → Ring seed ring 0 (long_lag - short_lag) 0
ring_none {seed} {ring} e = record {
  slots = ap length e ∙ length_tab (seeded seed) long_lag;
  old = refl;
  new = refl;
  holds = λ j l. let here : (0 + j) % long_lag ≡ j = omega arith in rw (here, e);
}

module _ {seed : ℕ} {ring : List ℕ} {oldest recent i : ℕ} (s : Ring seed ring oldest recent i) where
  -- what the two slots hold
  at_old : get_or ring oldest 0 ≡ get_or (lagged seed i) 0 0
  at_old = let here : oldest ≡ (i + 0) % long_lag = omega (arith, s.old) in rw here (s.holds 0 (omega arith))

  at_new : get_or ring recent 0 ≡ get_or (lagged seed i) (long_lag - short_lag) 0
  at_new = rw s.new (s.holds (long_lag - short_lag) (omega arith))

  pub ring_drawn : {n : ℕ} → n ≡ (get_or ring recent 0 + get_or ring oldest 0) % 2 ^ 32 → n ≡ drawn seed i
  unfolding drawn
  ring_drawn e = e ∙ ap₂ (λ (a b : ℕ). (a + b) % 2 ^ 32) at_new at_old

  -- the number drawn takes the oldest one's slot, and both slots move on
  module _ {n : ℕ} (drew : n ≡ drawn seed i) where
    -- where place j stands after the turn
    abbrev slot : ℕ → ℕ
    slot j = (suc i + j) % long_lag

    moved : (j : ℕ) → suc j < long_lag → get_or (set ring oldest n) (slot j) 0 ≡ get_or (lagged seed (suc i)) j 0
    moved j l =
        let other : slot j ≡ (i + suc j) % long_lag = omega arith in
        get_or-set_other ring oldest (slot j) n 0 (λ q. omega (arith, q, s.old))
        ∙ ap (λ (k : ℕ). get_or ring k 0) other
        ∙ s.holds (suc j) l
        ∙ sym (lagged_moved seed i j l)

    last : get_or (set ring oldest n) (slot (long_lag - 1)) 0 ≡ get_or (lagged seed (suc i)) (long_lag - 1) 0
    last =
        let same : slot (long_lag - 1) ≡ oldest = omega (arith, s.old) in
        ap (λ (k : ℕ). get_or (set ring oldest n) k 0) same
        ∙ get_or-set_same ring oldest n 0 (omega (arith, s.slots, s.old))
        ∙ drew
        ∙ sym (lagged_last seed i)

    pub ring_more : {o r : ℕ} → o ≡ (oldest + 1) % long_lag → r ≡ (recent + 1) % long_lag → Ring seed (set ring oldest n) o r (i + 1)
    ring_more p q = record {
      slots = length-set ring oldest n ∙ s.slots;
      old = omega (arith, p, s.old);
      new = omega (arith, q, s.new);
      holds = rw add-one (each_place (λ j. get_or (set ring oldest n) (slot j) 0 ≡ get_or (lagged seed (suc i)) j 0) moved last);
    }
