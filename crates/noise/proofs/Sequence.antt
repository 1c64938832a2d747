-- 02's numbers by their places: the 55 in a row hold them, and no other sequence meets its sentences.
--     number_seeded, number_drawn    number k of the first 55, and of those behind them
--     lagged_number                  where each of the 55 in a row stands
--     sequence_alone                 two sequences of one seed are equal
--     all_numbers                    the claim
-- Assumes nothing.
use Rattle.std.specs.Prelude.{Ok}
use Rattle.std.proofs.Common.{◌≡◌, ℕ, zero, suc, ◌+◌, ◌-◌, ◌*◌, ◌%◌, ◌^◌, ◌<◌, ◌≤◌, false, ltb, leb, get_or, sym, refl, ap, ◌∙◌, ap₂, ⊎_elim, add-one, arith, below_none, below_more, ltb-false, ltb-true, le-ltb, lt-ltb}
use Rattle.image.proofs.PixelsOf.{good_pixels}
use Rattle.image.specs.File.{pixel_verdict}
use Rattle.image.specs.Size.{bad_size}
use Rattle.noise.specs.Generator.{long_lag, short_lag, increment, seeded, lagged, drawn}
use Rattle.noise.specs.Noise.{half, blackness, noise_pixel, noise}
use Rattle.noise.specs.Sequence.{number, Sequence, Numbers}
use Rattle.noise.proofs.Lagged.{lagged_first, lagged_moved, lagged_last, each_place}
use Rattle.seq.proofs.Lists.{either, one_le}
use Rattle.seq.proofs.Tab.{length_tab, get_d_tab, tab_ext}
use Rattle.seq.specs.Tab.{tab}

module _ (seed : ℕ) where
  pub number_seeded : (k : ℕ) → k < long_lag → number seed k ≡ seeded seed k
  number_seeded k l = rw (lt-ltb k long_lag l)

  pub number_drawn : (k : ℕ) → long_lag ≤ k → number seed k ≡ drawn seed (k - long_lag)
  number_drawn k l = rw (le-ltb k long_lag l)

  pub lagged_number : (n j : ℕ) → j < long_lag → get_or (lagged seed n) j 0 ≡ number seed (n + j)
  lagged_number zero j l = let here : j ≡ 0 + j = omega arith in lagged_first seed j l ∙ sym (number_seeded j l) ∙ ap (number seed) here
  lagged_number (suc n) j l = each_place (λ k. get_or (lagged seed (suc n)) k 0 ≡ number seed (suc n + k)) (earlier (lagged_number n)) last j l
    where
      earlier : ((k : ℕ) → k < long_lag → get_or (lagged seed n) k 0 ≡ number seed (n + k)) → (k : ℕ) → suc k < long_lag
          → get_or (lagged seed (suc n)) k 0 ≡ number seed (suc n + k)
      earlier before k m = let here : n + suc k ≡ suc n + k = omega arith in lagged_moved seed n k m ∙ before (suc k) m ∙ ap (number seed) here

      last : get_or (lagged seed (suc n)) (long_lag - 1) 0 ≡ number seed (suc n + (long_lag - 1))
      last =
          let here : n ≡ suc n + (long_lag - 1) - long_lag = omega arith in
          lagged_last seed n ∙ ap (drawn seed) here ∙ sym (number_drawn (suc n + (long_lag - 1)) (omega arith))

  -- the number drawn, by its place
  drawn_sum : (k : ℕ) → long_lag ≤ k → number seed k ≡ (number seed (k - short_lag) + number seed (k - long_lag)) % 2 ^ 32
  unfolding drawn
  drawn_sum k l =
      let recent : k - long_lag + (long_lag - short_lag) ≡ k - short_lag = omega arith in
      let oldest : k - long_lag + 0 ≡ k - long_lag = omega arith in
      number_drawn k l
      ∙ ap₂ (λ (a b : ℕ). (a + b) % 2 ^ 32)
      (lagged_number (k - long_lag) (long_lag - short_lag) (omega arith) ∙ ap (number seed) recent)
      (lagged_number (k - long_lag) 0 (omega arith) ∙ ap (number seed) oldest)

  number_sequence : Sequence seed (number seed)
  number_sequence = record { starts = refl; seeding = seeding; lagging = drawn_sum }
    where
      seeding : (k : ℕ) → suc k < long_lag → number seed (suc k) ≡ (number seed k + increment) % 2 ^ 32
      seeding k l = number_seeded (suc k) l ∙ ap (λ (n : ℕ). (n + increment) % 2 ^ 32) (sym (number_seeded k (omega arith)))

  -- by what lies below k
  module _ {s t : ℕ → ℕ} (p : Sequence seed s) (q : Sequence seed t) where
    next_same : (k : ℕ) → ((j : ℕ) → j < k → s j ≡ t j) → s k ≡ t k
    next_same zero below = p.starts ∙ sym q.starts
    next_same (suc k) below =
        ⊎_elim
        (λ e. let l = ltb-true (suc k) long_lag e in p.seeding k l ∙ ap (λ (n : ℕ). (n + increment) % 2 ^ 32) (below k (omega arith)) ∙ sym (q.seeding k l))
        (λ e. let l = ltb-false (suc k) long_lag e in
        p.lagging (suc k) l
        ∙ ap₂ (λ (a b : ℕ). (a + b) % 2 ^ 32) (below (suc k - short_lag) (omega arith)) (below (suc k - long_lag) (omega arith))
        ∙ sym (q.lagging (suc k) l))
        (either (ltb (suc k) long_lag))

    same_below : (n k : ℕ) → k < n → s k ≡ t k
    same_below zero = below_none (λ k. s k ≡ t k)
    same_below (suc n) = rw add-one at (below_more (λ k. s k ≡ t k) n (same_below n) (next_same n (same_below n)))

    pub sequence_alone : (k : ℕ) → s k ≡ t k
    sequence_alone k = same_below (suc k) k (omega arith)

  number_bits : seed < 2 ^ 32 → (k : ℕ) → number seed k < 2 ^ 32
  unfolding drawn
  number_bits l zero = l
  number_bits l (suc k) = ⊎_elim (λ e. rw e (omega arith)) (λ e. rw e (omega arith)) (either (ltb (suc k) long_lag))

  noise_pixels : (s : ℕ → ℕ) → Sequence seed s → (w h : ℕ) → noise seed w h ≡ tab (λ i. blackness (s (long_lag + i))) (w * h)
  unfolding noise
  noise_pixels s p w h = tab_ext (noise_pixel seed) (λ i. blackness (s (long_lag + i))) (w * h) (λ i l. ap blackness (taken i))
    where
      taken : (i : ℕ) → drawn seed i ≡ s (long_lag + i)
      taken i =
          let here : i ≡ long_lag + i - long_lag = omega arith in
          ap (drawn seed) here ∙ sym (number_drawn (long_lag + i) (omega arith)) ∙ sequence_alone number_sequence p (long_lag + i)

  noise_writable : (w h : ℕ) → bad_size w h ≡ false → pixel_verdict w h (noise seed w h) ≡ Ok tt
  unfolding noise
  noise_writable w h e = good_pixels w h (tab (noise_pixel seed) (w * h)) (record {
    size = e;
    count = length_tab (noise_pixel seed) (w * h);
    small = λ i l. rw (get_d_tab (noise_pixel seed) (w * h) i 0 l) (one_le (leb half (drawn seed i)));
  })

  pub all_numbers : Numbers seed
  all_numbers = record {
    sequence = number_sequence;
    only = λ s p k. sequence_alone p number_sequence k;
    bits = number_bits;
    pixels = noise_pixels;
    writable = noise_writable;
  }
