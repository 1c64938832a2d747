-- The laws of a run of stores: `sets d i vs` of `lib.Seq` is d with the elements of vs stored from index i on. They do not ask that the run
-- lies within d, since a store past the end alters nothing.
--     sets_append        one run after the other is one run
--     sets_front         a run from index 0 within d, and d behind it
--     sets_part          a part of d that is put in whole
--     sets_tab           one store more behind a table
--     tab_add            a table in two parts
--     Stored f d i l n   l is d with the elements of tab f n stored from index i on: where a loop that stores them one by one stands after n turns
--     stored_none, stored_more, stored_run, stored_all, stored_length    its start, one store, a run of stores, its end, its length
--     fill_run           a list that is filled from the front, and a run of stores more
-- Assumes nothing.
use mathlib.Core.List.{List, [], ◌∷◌, ◌++◌, append-nil, append_assoc}
use mathlib.Core.Path.{◌≡◌, refl, sym, ap, ◌∙◌}
use Prim.Native.Nat.{ℕ, zero, suc, ◌+◌, ◌≤◌, ◌<◌, suc-le-suc}
use native.Mathlib.Nat.{zero-add, add-zero, add-suc, suc-add}
use native.Mathlib.Numerals.{add-one}
use native.Mathlib.Omega.{arith}
use lib.ListN.{length, take, drop, set}
use lib.Seq.{drop-drop, sets, sets-eq, length-sets}
use Rattle.seq.specs.Tab.{tab, Filled}
use Rattle.seq.proofs.Tab.{length_tab, tab_suc, tab_ext, fill_more}

pub record Stored {ℓ} {A : Type ℓ} (f : ℕ → A) (d : List A) (i : ℕ) (l : List A) (n : ℕ) : Type ℓ where
  pub stored : l ≡ sets d i (tab f n)

module _ {ℓ} {A : Type ℓ} where
  pub sets_append : (us vs d : List A) (i : ℕ) → sets (sets d i us) (i + length us) vs ≡ sets d i (us ++ vs)
  sets_append [] vs d i = rw (add-zero i)
  sets_append (a ∷ us) vs d i = rw (add-suc i (length us), ← suc-add i (length us)) (sets_append us vs (set d i a) (suc i))

  pub sets_front : (vs d : List A) → length vs ≤ length d → sets d 0 vs ≡ vs ++ drop (length vs) d
  sets_front vs d h = sets-eq vs d 0 (omega arith) ∙ ap (λ (k : ℕ). vs ++ drop k d) (zero-add (length vs))

  pub sets_part : (vs d : List A) (a k : ℕ) → length vs ≡ k → a + k ≤ length d → take a d ++ (vs ++ drop k (drop a d)) ≡ sets d a vs
  sets_part vs d a k e h =
      ap (λ (t : List A). take a d ++ (vs ++ t)) (drop-drop k a d ∙ ap (λ (n : ℕ). drop (a + n) d) (sym e))
      ∙ sym (append_assoc (take a d) vs (drop (a + length vs) d))
      ∙ sym (sets-eq vs d a (omega arith))

  -- one store more behind a table
  pub sets_tab : (d : List A) (i : ℕ) (f : ℕ → A) (n : ℕ) → set (sets d i (tab f n)) (i + n) (f n) ≡ sets d i (tab f (n + 1))
  sets_tab d i f n =
      ap (λ (k : ℕ). set (sets d i (tab f n)) (i + k) (f n)) (sym (length_tab f n))
      ∙ sets_append (tab f n) (f n ∷ []) d i
      ∙ ap (sets d i) (sym (tab_suc f n))
      ∙ ap (λ (k : ℕ). sets d i (tab f k)) (sym (add-one n))

  pub tab_add : (f : ℕ → A) (n m : ℕ) → tab f (n + m) ≡ tab f n ++ tab (λ k. f (n + k)) m
  tab_add f n zero = rw (add-zero n) (sym (append-nil (tab f n)))
  tab_add f n (suc m) =
      rw (add-suc n m)
      (tab_suc f (n + m)
      ∙ ap (λ (t : List A). t ++ f (n + m) ∷ []) (tab_add f n m)
      ∙ append_assoc (tab f n) (tab (λ k. f (n + k)) m) (f (n + m) ∷ [])
      ∙ ap (λ (t : List A). tab f n ++ t) (sym (tab_suc (λ k. f (n + k)) m)))

  pub stored_none : (f : ℕ → A) (d : List A) (i : ℕ) → Stored f d i d 0
  stored_none f d i = record { stored = refl }

  pub stored_length : {f : ℕ → A} {d l : List A} {i n : ℕ} → Stored f d i l n → length l ≡ length d
  stored_length {f} {d} {l} {i} {n} s = ap length s.stored ∙ length-sets d i (tab f n)

  pub stored_all : {f : ℕ → A} {d l : List A} {i n : ℕ} (m : ℕ) → Stored f d i l n → n ≡ m → l ≡ sets d i (tab f m)
  stored_all {f} {d} {l} {i} {n} m s e = s.stored ∙ ap (λ (k : ℕ). sets d i (tab f k)) e

  pub stored_run : {f : ℕ → A} {d l l' : List A} {i n : ℕ} (v : ℕ → A) (m : ℕ) → Stored f d i l n → ((k : ℕ) → k < m → v k ≡ f (n + k))
      → l' ≡ sets l (i + n) (tab v m) → Stored f d i l' (n + m)
  stored_run {f} {d} {l} {l'} {i} {n} v m s e q = record { stored = q ∙ rw (s.stored, tab_ext v (λ k. f (n + k)) m e) joined }
    where
      joined : sets (sets d i (tab f n)) (i + n) (tab (λ k. f (n + k)) m) ≡ sets d i (tab f (n + m))
      joined =
          ap (λ (k : ℕ). sets (sets d i (tab f n)) (i + k) (tab (λ k. f (n + k)) m)) (sym (length_tab f n))
          ∙ sets_append (tab f n) (tab (λ k. f (n + k)) m) d i
          ∙ ap (λ (t : List A). sets d i t) (sym (tab_add f n m))

  pub stored_more : {f : ℕ → A} {d l : List A} {i n : ℕ} {a : A} → Stored f d i l n → a ≡ f n → Stored f d i (set l (i + n) a) (n + 1)
  stored_more {f} {d} {l} {i} {n} {a} s e = stored_run (λ k. a) 1 s (λ k b. e ∙ ap f (omega arith)) refl

  -- one turn a store, so the run is a loop's turns
  fill_table : {f : ℕ → A} {d l : List A} {n : ℕ} (v : ℕ → A) (m : ℕ) → Filled f d l n → n + m ≤ length d → ((k : ℕ) → k < m → v k ≡ f (n + k))
      → Filled f d (sets l n (tab v m)) (n + m)
  fill_table {f} {d} {l} {n} v zero r h e = rw (add-zero n) r
  fill_table {f} {d} {l} {n} v (suc m) r h e =
      rw (add-suc n m, ← suc-add n m) (fill_table {l = set l n (v 0)} (λ k. v (suc k)) m one (omega arith) (λ k b. e (suc k) (suc-le-suc b) ∙ ap f (omega arith)))
    where
      one : Filled f d (set l n (v 0)) (suc n)
      one = rw add-one at (fill_more r (omega arith) (e 0 (omega arith) ∙ ap f (add-zero n)))

  pub fill_run : {f : ℕ → A} {d l l' : List A} {n : ℕ} (v : ℕ → A) (m : ℕ) → Filled f d l n → n + m ≤ length d → ((k : ℕ) → k < m → v k ≡ f (n + k))
      → l' ≡ sets l n (tab v m) → Filled f d l' (n + m)
  fill_run v m r h e q = rw q (fill_table v m r h e)
