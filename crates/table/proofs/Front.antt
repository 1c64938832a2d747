-- A whole number at the front of a list of bytes, which may be 0 in one group.
--     Front l n r          l starts with the fewest groups of n and goes on with r
--     bytes_front          a written number stands so
--     front_bytes          what stands so is the written number, then r
--     front_reads          what the definitions read there
--     rules_front          what the rules accept stands so
-- Assumes nothing.
use Rattle.std.specs.Prelude.{Ok}
use mathlib.Core.Bool.{Bool, true, false, ◌&&◌, and-true, and-false}
use mathlib.Core.List.{List, [], ◌∷◌, ◌++◌}
use mathlib.Core.Logic.{◌⊎◌, inl, inr}
use mathlib.Core.Path.{◌≡◌, refl, sym, ap, ◌∙◌}
use Prim.Native.Nat.{ℕ, suc, ◌+◌, ◌*◌, ◌%◌, ◌^◌, ◌≤◌, ◌<◌}
use native.Mathlib.Omega.{arith}
use borrow.Author.Tests.{leb-false, lt-leb, lt-ltb, eq-eqb, ne_eqb}
use lib.Dec.{leb, eqb}
use lib.ListN.{length, get_or, take, drop}
use lib.Pow.{are_bytes}
use Rattle.verdict.specs.declared.Rule.TheVariants as why
use Rattle.seq.proofs.Tests.{lt_or_le}
use Rattle.table.specs.Number.{more, size, groups, value, ends, too_long, not_fewest, number_rules, number_bytes}
use Rattle.verdict.specs.Rules.{refuse_if, judge}
use Rattle.verdict.proofs.Rules.{refused_accepted}
use Rattle.table.proofs.Fewest.{bytes_last, Fewest, reads, written, stands, fewest_lt, found}

pub data Front : List ℕ → ℕ → List ℕ → Type 0 where
  single : {a : ℕ} {r : List ℕ} → a < 128 → Front (a ∷ r) a r
  several : {l : List ℕ} {n : ℕ} {r : List ℕ} → Fewest 4 l n r → Front l n r

pub bytes_front : (n : ℕ) (r : List ℕ) → n < 2 ^ 28 → Front (number_bytes n ++ r) n r
bytes_front n r b = step (lt_or_le n 128)
  where
    step : (n < 128) ⊎ (128 ≤ n) → Front (number_bytes n ++ r) n r
    step (inl l) = rw (bytes_last n l) (single l)
    step (inr l) = several (stands 4 n r (omega arith) b b)

pub front_bytes : {l : List ℕ} {n : ℕ} {r : List ℕ} → Front l n r → l ≡ number_bytes n ++ r
front_bytes (single {a} {r} h) = ap (λ (x : List ℕ). x ++ r) (sym (bytes_last a h))
front_bytes (several f) = written f (fewest_lt f)

pub record ReadAs (l : List ℕ) (n : ℕ) (r : List ℕ) : Type 0 where
  pub is : value l ≡ n
  pub behind : drop (size l) l ≡ r
  pub accepted : (place : ℕ) → judge (number_rules place l) ≡ Ok tt

-- what is read where m bytes have bit 7 set
reads_at : (l : List ℕ) (m : ℕ) → more l ≡ m → m < 4 → m < length l → (leb 1 m && eqb (get_or l m 0) 0) ≡ false
    → ReadAs l (groups (take (suc m) l)) (drop (suc m) l)
unfolding value size ends too_long not_fewest
reads_at l m e h w z =
    record {
      is = ap (λ (k : ℕ). groups (take k l)) next_one;
      behind = ap (λ (k : ℕ). drop k l) next_one;
      accepted = λ place. simp (e, lt-ltb m 4 h, lt-leb (length l) m w, lt-leb 4 m h, z);
    }
  where
    next_one : more l + 1 ≡ suc m
    next_one = omega (arith, e)

pub front_reads : {l : List ℕ} {n : ℕ} {r : List ℕ} → Front l n r → ReadAs l n r
unfolding more
front_reads (single {a} {r} h) = rw one_group at (reads_at (a ∷ r) 0 (simp (lt-leb 128 a h)) (omega arith) (omega arith) refl)
  where
    one_group : a % 128 + 128 * 0 ≡ a
    one_group = omega arith
front_reads (several {l} {n} {r} f) =
    let w = reads f in
    rw (w.is, w.behind) at
    (reads_at l w.index w.counted w.few w.whole
    (ap (λ (b : Bool). leb 1 w.index && b) (ne_eqb (get_or l w.index 0) 0 (λ e. omega (arith, w.nonzero))) ∙ and-false (leb 1 w.index)))

-- what three rules that accept say
three : (a b c : Bool) (place : ℕ) → judge (refuse_if a why.NumberEnds place ∷ refuse_if b why.NumberForm place ∷ refuse_if c why.NumberForm place ∷ []) ≡ Ok tt → (a ≡ false) × (b ≡ false) × (c ≡ false)
three true b c place e = refused_accepted refl e
three false true c place e = refused_accepted refl e
three false false true place e = refused_accepted refl e
three false false false place e = (refl, refl, refl)

-- a number that is 0 has one group
zero_front : (l : List ℕ) → 0 < length l → get_or l 0 0 ≡ 0 → (n : ℕ) × (r : List ℕ) × Front l n r
zero_front [] w z = absurd (omega arith)
zero_front (a ∷ r) w z = (a, r, single {a = a} (omega arith))

pub rules_front : (l : List ℕ) (place : ℕ) → are_bytes l ≡ true → judge (number_rules place l) ≡ Ok tt → Front l (value l) (drop (size l) l)
unfolding ends too_long not_fewest more
rules_front l place b e =
    let front = step (lt_or_le (get_or l (more l) 0) 1) in
    let w = front_reads front.2 in
    rw (w.is, w.behind) front.2
  where
    rules : (ends l ≡ false) × (too_long l ≡ false) × (not_fewest l ≡ false)
    rules = three (ends l) (too_long l) (not_fewest l) place e

    few : more l < 4
    few = leb-false 4 (more l) rules.1

    whole : more l < length l
    whole = leb-false (length l) (more l) (ap (λ (t : Bool). t && leb (length l) (more l)) (sym (lt-ltb (more l) 4 few)) ∙ rules.0)

    none : get_or l (more l) 0 ≡ 0 → more l ≡ 0
    none z =
        let h = leb-false 1 (more l) (sym (and-true (leb 1 (more l))) ∙ ap (λ (t : Bool). leb 1 (more l) && t) (sym (eq-eqb (get_or l (more l) 0) 0 z)) ∙ rules.2) in
        omega arith

    step : (get_or l (more l) 0 < 1) ⊎ (1 ≤ get_or l (more l) 0) → (n : ℕ) × (r : List ℕ) × Front l n r
    step (inr z) = let x = found 4 l b few whole z in (x.0, x.1, several x.2)
    step (inl z) =
        let y : get_or l (more l) 0 ≡ 0 = omega arith in
        zero_front l (omega (arith, whole)) (ap (λ (k : ℕ). get_or l k 0) (sym (none y)) ∙ y)
