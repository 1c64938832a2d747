-- What the candidates are swept by: the only element's shifts, or a pair of each element.
--     parts_only                          the shifts of the only element
--     Paired es at n                      the first n shifts are pairs, and each element of es has one among them
--     paired_more            where a loop over the elements stands
--     parts_paired                        the pairs, the last again where their number is odd
-- Assumes nothing.
use mathlib.Core.List.Memᴰ
use mathlib.Core.List.{List, Memᴰ}
use mathlib.Core.Logic.{⊎_elim}
use mathlib.Core.Path.{◌≡◌, sym, ◌∙◌, subst}
use Prim.Native.Nat.{ℕ, ◌+◌, ◌*◌, ◌%◌, ◌≤◌, ◌<◌}
use native.Mathlib.Numerals.{add-one}
use native.Mathlib.Omega.{arith}
use lib.ListN.{length, get_or, take}
use lib.Seq.{length-take-le, take-suc, get_or-take}
use Rattle.seq.proofs.Members.{take_place}
use Rattle.seq.proofs.Tests.{lt_or_le}
use Rattle.filter.specs.Code.Candidate.{Pair, Added, Evened, Parts}
use Rattle.filter.specs.Code.Opening.{farthest, Shifts}
use Rattle.filter.proofs.ShiftLaws.{shifts_fours}

pub parts_only : (es at : List ℕ) → length es ≡ 1 → Shifts (get_or es 0 0) at → Parts es at
parts_only es at h s = record { fours = shifts_fours (get_or es 0 0) s; alone = λ q. s.only; each = λ q. absurd (q h) }

pub record Paired (es at : List ℕ) (n : ℕ) : Type 0 where
  pub even : n % 2 ≡ 0
  pub near : (j : ℕ) → j < n → get_or at j 0 ≤ farthest
  pub each : (e : ℕ) → Memᴰ e es → (i : ℕ) × (2 * i + 1 < n) × Pair at i e

-- a pair stands in any list that has the same shifts there
pair_keep : {d f : List ℕ} {n i e : ℕ} → n ≤ length f → ((j : ℕ) → j < n → get_or f j 0 ≡ get_or d j 0) → 2 * i + 1 < n → Pair d i e → Pair f i e
pair_keep {d} {f} {n} {i} h k l p =
    let (x, m, a) = p.low in
    let (y, o, b) = p.high in
    record { room = omega arith; low = (x, m, k (2 * i) (omega arith) ∙ a); high = (y, o, k (2 * i + 1) l ∙ b) }

pub paired_more : (es : List ℕ) {d f : List ℕ} {n m : ℕ} (i : ℕ) → i < length es → m ≤ length d → Paired (take i es) d n → Added (get_or es i 0) d f n m
    → Paired (take (i + 1) es) f m
paired_more es {d} {f} {n} {m} i l h r s = record { even = s.even; near = near; each = each }
  where
    near : (j : ℕ) → j < m → get_or f j 0 ≤ farthest
    near j k = ⊎_elim (λ a. rw (s.kept j a) (r.near j a)) (λ a. s.near j a k) (lt_or_le j n)

    old : (e : ℕ) → Memᴰ e (take i es) → (k : ℕ) × (2 * k + 1 < m) × Pair f k e
    old e o = let (k, a, p) = r.each e o in (k, omega (arith, s.more), pair_keep (omega (arith, s.more, s.long)) s.kept a p)

    each : (e : ℕ) → Memᴰ e (take (i + 1) es) → (k : ℕ) × (2 * k + 1 < m) × Pair f k e
    each e o =
        ⊎_elim (old e) (λ a. subst (λ (x : ℕ). (k : ℕ) × (2 * k + 1 < m) × Pair f k x) (sym (Memᴰ.eq_of_singleton a)) s.has)
        (Memᴰ.append_cases (take i es) (rw (add-one i, take-suc es i 0 l) at o))

pub parts_paired : {es d f : List ℕ} {n m : ℕ} → (length es ≡ 1 → ⊥) → m ≤ length d → Paired es d n → Evened d f n m → Parts es (take m f)
parts_paired {es} {d} {f} {n} {m} q h r s = record { fours = record { fours = rw long s.fours; near = near }; alone = λ e. absurd (q e); each = λ z. each }
  where
    long : length (take m f) ≡ m
    long = length-take-le m f (rw s.long h)

    low : (j : ℕ) → j < m → get_or f j 0 ≤ farthest
    low j l =
        ⊎_elim (λ a. rw (s.kept j a) (r.near j a)) (λ a. let (k, b, e) = s.again j a l in rw e (r.near k b)) (lt_or_le j n)

    near : (a : ℕ) → Memᴰ a (take m f) → a ≤ farthest
    near a o = let (j, l, e) = take_place m f 0 o in rw e (low j l)

    each : (e : ℕ) → Memᴰ e es → (i : ℕ) × Pair (take m f) i e
    each e o =
        let (i, l, p) = r.each e o in
        (i, pair_keep (rw long s.more) (λ j k. get_or-take m f j 0 (omega (arith, s.more)) ∙ s.kept j k) l p)
