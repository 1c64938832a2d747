-- Black pixels by a sum over parts of an image: a pixel is 0 or 1, so it counts itself.
--     black_few, part_few       at most as many as there are pixels
--     black_split, binary_rest  a list in two parts
--     Behind bytes rest         what is left behind whole blocks; behind_none, behind_more, behind_last: none of them, one more, all
--     black_more                one pixel more
-- Assumes nothing.
use mathlib.Core.Bool.{Bool, true, false, ◌&&◌}
use mathlib.Core.List.{List, [], ◌++◌, append_assoc}
use mathlib.Core.Path.{◌≡◌, refl, sym, ap, ◌∙◌}
use Prim.Native.Nat.{ℕ, ◌+◌, ◌-◌, ◌*◌, ◌%◌, ◌≤◌, ◌<◌}
use native.Mathlib.Omega.{arith}
use borrow.Author.Tests.{leb-true, eqb-true, eqb-false}
use lib.Dec.{leb, eqb}
use lib.ListN.{length, get_or, take, drop, length-take, length-append}
use Rattle.std.proofs.lemmas.List.Prefix.{end_rest}
use Rattle.operator.specs.Image.{black}
use Rattle.seq.specs.Lists.{all, one}
use Rattle.seq.proofs.Fronts.{count_front, all_append}
use Rattle.seq.proofs.Lists.{count_le, count_append}
use Rattle.seq.proofs.Members.{all_get_d}

pub black_few : (l : List ℕ) → black l ≤ length l
unfolding black
black_few l = count_le (λ v. eqb v 1) l

pub part_few : (n : ℕ) (l : List ℕ) → black (take n l) ≤ n
part_few n l = omega (arith, black_few (take n l), length-take n l)

-- a list in two parts
module _ {whole : List ℕ} (front rest : List ℕ) (e : whole ≡ front ++ rest) where
  pub black_split : black whole ≡ black front + black rest
  unfolding black
  black_split = rw e (count_append (λ v. eqb v 1) front rest)

  pub binary_rest : all (λ v. leb v 1) whole ≡ true → all (λ v. leb v 1) rest ≡ true
  binary_rest b = by (all (λ v. leb v 1) front) (sym (all_append (λ v. leb v 1) front rest) ∙ rw e at b)
    where
      by : (t : Bool) → (t && all (λ v. leb v 1) rest) ≡ true → all (λ v. leb v 1) rest ≡ true
      by true f = f
      by false f = absurd (let z : ◌≡◌ {A = ℕ} 0 1 = cc in omega arith)

-- what is left behind whole blocks
pub record Behind (bytes rest : List ℕ) : Type 0 where
  pub front : List ℕ
  pub blocks : ℕ
  pub joined : bytes ≡ front ++ rest
  pub whole : length front ≡ 64 * blocks

pub behind_none : (bytes : List ℕ) → Behind bytes bytes
behind_none bytes = record { front = []; blocks = 0; joined = refl; whole = refl }

pub behind_more : {bytes rest : List ℕ} (block left : List ℕ) → Behind bytes rest → rest ≡ block ++ left → length block ≡ 64 → Behind bytes left
behind_more block left b e l = record {
  front = b.front ++ block;
  blocks = b.blocks + 1;
  joined = b.joined ∙ ap (λ (r : List ℕ). b.front ++ r) e ∙ sym (append_assoc b.front block left);
  whole = omega (arith, length-append b.front block, b.whole, l);
}

pub behind_last : (bytes rest : List ℕ) → Behind bytes rest → length rest < 64 → drop (length bytes - length bytes % 64) bytes ≡ rest
behind_last bytes rest b l =
    let whole : length bytes ≡ length b.front + length rest = ap length b.joined ∙ length-append b.front rest in
    let e : length bytes - length bytes % 64 ≡ length bytes - length rest = omega (arith, whole, b.whole) in
    ap (λ (n : ℕ). drop n bytes) e ∙ end_rest bytes rest b.front b.joined

-- a pixel of value 0 or 1 counts itself
counts_itself : (v : ℕ) → v ≤ 1 → one (eqb v 1) ≡ v
counts_itself v h = by (eqb v 1) refl
  where
    by : (b : Bool) → eqb v 1 ≡ b → one b ≡ v
    by true e = sym (eqb-true v 1 e)
    by false e = let n = eqb-false v 1 e in omega arith

module _ (l : List ℕ) (binary : all (λ v. leb v 1) l ≡ true) where
  pub pixel_low : (i : ℕ) → get_or l i 0 ≤ 1
  pixel_low i = leb-true _ _ (all_get_d (λ v. leb v 1) l 0 binary refl i)

  pub black_more : (k : ℕ) → k < length l → black (take (k + 1) l) ≡ black (take k l) + get_or l k 0
  unfolding black
  black_more k h =
      count_front (λ v. eqb v 1) l k 0 h ∙ ap (λ (n : ℕ). black (take k l) + n) (counts_itself _ (pixel_low k))
