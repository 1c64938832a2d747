-- Numbers one after the other in a list of bytes.
--     one_back, chain_back        numbers that the rules accept, written again: one, and n of them
--     read_front                  a number that stands written at the front
--     chain_rest, chain_number, chain_accepted, chain_end     what is read where masks stand written: what follows each; each; by the rules; all of them
-- Assumes nothing.
use Rattle.std.specs.Prelude.{Ok}
use mathlib.Core.Bool.{true}
use mathlib.Core.List.{List, [], ◌∷◌, ◌++◌, append_assoc}
use mathlib.Core.Path.{◌≡◌, refl, sym, ap, ◌∙◌}
use Prim.Native.Nat.{ℕ, zero, suc, ◌^◌, ◌≤◌, ◌<◌}
use native.Mathlib.Nat.{le_refl, le_of_lt, lt_of_lt_of_le}
use lib.Dec.{ltb}
use lib.ListN.{length, get_or, drop}
use lib.Pow.{are_bytes}
use lib.Seq.{drop-cons, drop-length}
use Rattle.seq.specs.Tab.{tab}
use Rattle.seq.proofs.Lists.{and_right}
use Rattle.seq.proofs.Tab.{tab_suc}
use Rattle.table.specs.File.{rest, number, masks_bytes}
use Rattle.table.specs.Number.{size, value, number_rules, number_bytes}
use Rattle.table.proofs.Bytes.{masks_last}
use Rattle.table.proofs.Front.{ReadAs, bytes_front, front_bytes, front_reads, rules_front}
use Rattle.verdict.specs.Rules.{judge}

-- ---- from the numbers to the bytes

drop_bytes : (n : ℕ) (l : List ℕ) → are_bytes l ≡ true → are_bytes (drop n l) ≡ true
drop_bytes zero l b = b
drop_bytes (suc n) [] b = refl
drop_bytes (suc n) (a ∷ l) b = drop_bytes n l (and_right (ltb a 256) (are_bytes l) b)

pub rest_bytes : (h : List ℕ) (i : ℕ) → are_bytes h ≡ true → are_bytes (rest h i) ≡ true
rest_bytes h zero b = b
rest_bytes h (suc i) b = drop_bytes (size (rest h i)) (rest h i) (rest_bytes h i b)

module _ (h : List ℕ) (b : are_bytes h ≡ true) where
  pub one_back : (i place : ℕ) → judge (number_rules place (rest h i)) ≡ Ok tt → rest h i ≡ number_bytes (number h i) ++ rest h (suc i)
  one_back i place e = front_bytes (rules_front (rest h i) place (rest_bytes h i b) e)

  pub chain_back : (place : ℕ → ℕ) (n : ℕ) → ((k : ℕ) → k < n → judge (number_rules (place k) (rest h k)) ≡ Ok tt) → h ≡ masks_bytes (tab (number h) n) ++ rest h n
  chain_back place zero e = refl
  chain_back place (suc n) e =
      chain_back place n (λ k l. e k (lt_of_lt_of_le l (le_of_lt (le_refl (suc n))))) ∙ ap (λ (l : List ℕ). masks_bytes (tab (number h) n) ++ l) (one_back n (place n) (e n (le_refl (suc n))))
      ∙ sym (append_assoc (masks_bytes (tab (number h) n)) (number_bytes (number h n)) (rest h (suc n)))
      ∙ ap (λ (l : List ℕ). l ++ rest h (suc n)) (sym (ap masks_bytes (tab_suc (number h) n) ∙ masks_last (tab (number h) n) (number h n)))

-- ---- from the bytes to the numbers

pub read_front : (n : ℕ) (r : List ℕ) → n < 2 ^ 28 → ReadAs (number_bytes n ++ r) n r
read_front n r h = front_reads (bytes_front n r h)

module _ (ms r : List ℕ) (small : (k : ℕ) → k < length ms → get_or ms k 0 < 2 ^ 28) where
  -- what stands from mask k on starts with it
  read_at : (k : ℕ) → k < length ms → ReadAs (masks_bytes (drop k ms) ++ r) (get_or ms k 0) (masks_bytes (drop (suc k) ms) ++ r)
  read_at k h = rw (drop-cons ms k 0 h, append_assoc) (read_front (get_or ms k 0) (masks_bytes (drop (suc k) ms) ++ r) (small k h))

  pub chain_rest : (k : ℕ) → k ≤ length ms → rest (masks_bytes ms ++ r) k ≡ masks_bytes (drop k ms) ++ r
  chain_rest zero h = refl
  chain_rest (suc k) h = ap (λ (l : List ℕ). drop (size l) l) (chain_rest k (le_of_lt h)) ∙ (read_at k h).behind

  pub chain_number : (k : ℕ) → k < length ms → number (masks_bytes ms ++ r) k ≡ get_or ms k 0
  chain_number k h = ap value (chain_rest k (le_of_lt h)) ∙ (read_at k h).is

  pub chain_accepted : (k place : ℕ) → k < length ms → judge (number_rules place (rest (masks_bytes ms ++ r) k)) ≡ Ok tt
  chain_accepted k place h = ap (λ (l : List ℕ). judge (number_rules place l)) (chain_rest k (le_of_lt h)) ∙ (read_at k h).accepted place

  pub chain_end : rest (masks_bytes ms ++ r) (length ms) ≡ r
  chain_end = chain_rest (length ms) (le_refl (length ms)) ∙ ap (λ (l : List ℕ). masks_bytes l ++ r) (drop-length ms)
