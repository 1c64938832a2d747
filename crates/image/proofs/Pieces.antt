-- The search through pieces of n bytes that are cut from the front on, the last of which may be short.
--     piece            piece k
--     noted            some byte is above 1, noted from the first to the last
--     pieces_first     what `position` finds among them is the first that has a byte above 1
-- Assumes nothing.
use Rattle.std.proofs.lemmas.Option.{slice_get_cases}
use Rattle.std.specs.Iterator.Runs.{Run, YieldsRun, IsChunksRun, CallKeepsClosure, AllItemsGive, IsFirstToGive}
use Rattle.std.specs.List.{fold, IsSubsliceAt, slice_get}
use Rattle.std.specs.Prelude.{Option, None, Some, MatchOption, IfSome, IsSomeAnd, IsTrue, option_to_list}
use Rattle.std.specs.Slice.Iter.{chunks_steps, chunk_count}
use mathlib.Core.Bool.{Bool, true, false, ◌||◌}
use mathlib.Core.List.{List}
use mathlib.Core.Logic.{⊎_elim}
use mathlib.Core.Path.{◌≡◌, refl, sym, ap, subst, ◌∙◌}
use Prim.Native.Nat.{ℕ, ◌+◌, ◌-◌, ◌*◌, ◌/◌, ◌≤◌, ◌<◌}
use native.Mathlib.Nat.{div-lt_iff_lt-mul, le-mul_of_pos_right}
use native.Mathlib.Omega.{arith}
use denote.Ref.{Bor}
use denote.Param.Members.{Mut, Called}
use lib.Dec.{ltb}
use lib.ListN.{length, take, drop, drop_of_length-le}
use lib.Seq.{take-nil}
use Rattle.seq.proofs.Tab.{first_at, first_none}
use Rattle.seq.proofs.Tests.{lt_or_le}
use Rattle.seq.specs.Tab.{first}

abbrev pub piece : ℕ → List ℕ → ℕ → List ℕ
piece n px k = take n (drop (k * n) px)

abbrev pub noted : Bool → List ℕ → Bool
noted b px = fold (λ (above : Bool) (v : ℕ). above || ltb 1 v) b px

none_past : {X : Type 0} (xs : List X) (k : ℕ) → slice_get xs k ≡ None → length xs ≤ k
none_past xs k e = ⊎_elim (λ s. absurd (omega (arith, ap (λ o. length (option_to_list o)) (sym e ∙ s.2)))) (λ p. p.0) (slice_get_cases xs k).1

module _ {F : Type 0} (g : Mut F (Bor (List ℕ) × Unit {0}) Bool) (f : F)
    (answers : (x : Bor (List ℕ)) (b : Bool) (q : F) → Called g f (x, tt) b q → (q ≡ f) × (b ≡ noted false x.now))
    (px : List ℕ) (n : ℕ) (pos : 0 < n) (u : Run (chunks_steps {A = ℕ})) (cut : IsChunksRun u n px) where
  keeps : CallKeepsClosure g f
  keeps a b q c = (answers a.0 b q c).0

  -- past the last piece nothing is left
  past : u.whole ≡ true → (k : ℕ) → u.at k ≡ None → noted false (piece n px k) ≡ false
  unfolding YieldsRun
  past w k e =
      let items : length u.items ≤ k = none_past u.items k (sym (u.gave.1 k) ∙ e) in
      let count : chunk_count (length px) n ≤ k = omega (arith, cut.1 w, u.long, items) in
      let end : length px ≤ k * n = covered count in
      ap (λ (l : List ℕ). noted false (take n l)) (drop_of_length-le px end) ∙ ap (noted false) (take-nil n)
    where
      covered : chunk_count (length px) n ≤ k → length px ≤ k * n
      covered l =
          let round : (length px + n - 1) / n < k + 1 → length px + n - 1 < (k + 1) * n = (div-lt_iff_lt-mul pos).0 in
          ⊎_elim (λ p. omega (arith, round p, pos)) (λ p. let few : length px ≤ k = omega (arith, l, p) in omega (arith, few, le-mul_of_pos_right k pos))
          (lt_or_le ((length px + n - 1) / n) (k + 1))

  -- what was answered at an item is what the piece says
  said : {k : ℕ} {b : Bool} (o : Option (Bor (List ℕ))) → u.at k ≡ o → IsSomeAnd o (λ x. Called g f (x, tt) b f) → noted false (piece n px k) ≡ b
  said None e a = absurd a
  said {k} {b} (Some x) e a =
      let here = subst (λ (o : Option (Bor (List ℕ))). IfSome o (λ x. (0 < length x.now) × (k * n < length px) × IsSubsliceAt n px (k * n) x.now)) e (cut.2 k) in
      sym ((answers x b f a).1 ∙ ap (noted false) here.2.0)

  clean : u.whole ≡ true → (k : ℕ) → IfSome (u.at k) (λ x. Called g f (x, tt) false f) → noted false (piece n px k) ≡ false
  clean w k = step (u.at k) refl
    where
      step : (o : Option (Bor (List ℕ))) → u.at k ≡ o → IfSome o (λ x. Called g f (x, tt) false f) → noted false (piece n px k) ≡ false
      step None e a = past w k e
      step (Some x) e a = said (Some x) e a

  pub pieces_first : (r : Option ℕ) → MatchOption r (IsTrue u.whole × AllItemsGive u g f false) (λ i. (u.len ≡ i + 1) × IsFirstToGive u g f true false i)
      → r ≡ first (λ k. noted false (piece n px k)) (length px)
  pieces_first None h = sym (first_none _ (length px) (λ k l. clean h.0 k (h.1 keeps k)))
  pieces_first (Some i) h =
      let found = h.1 keeps in
      sym (first_at _ (length px) i (omega (arith, cut.0, h.0)) (λ k l. said (u.at k) refl (found.1 k l)) (said (u.at i) refl found.0))
