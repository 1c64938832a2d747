-- The shape of a strip: what rules 23 and 10 leave of its parts, and the record that is made of them.
--     sides_good                               a size that rule 10 lets pass
--     Rows hs, rows_few, rows_some             heights within the limit: at most max_side rows for each part, and at least one
--     Shape p, shape_good, good_shape          each rule of an accepted shape, and an accepted shape from its rules
--     shape_count, shape_heights, shape_rows   as many heights as parts, each within the limit; the rows of the strip
--     Listed w hs, shape_listed, one_listed    parts as the rules leave them: those of an accepted shape, and a single image
--     past_padded                              zeros past them
--     of_heights, of_width, of_shape           the record of such parts gives back their heights and width, and is accepted
--     of_widths_past, of_heights_past          zeros past them
--     padded_tab, padded_whole                 16 places as they are
--     kept_strip                               an accepted strip with zeros past its number is the record of its parts
-- Assumes nothing.
use Rattle.std.specs.Prelude.{Ok}
use mathlib.Core.Bool.{true, false, not}
use mathlib.Core.List.{List, [], ◌∷◌}
use mathlib.Core.Logic.{⊎_elim}
use mathlib.Core.Path.{◌≡◌, sym, ap, ap₂, ◌∙◌}
use Prim.Native.Nat.{ℕ, zero, suc, ◌*◌, ◌≤◌, ◌<◌}
use native.Mathlib.Omega.{arith}
use borrow.Author.Tests.{not-false, eqb-true, eq-eqb}
use lib.Dec.{eqb}
use lib.ListN.{length, get_or, take, drop, replicate, length-take, length-replicate, get_or-replicate, get_or-eq_default}
use lib.Seq.{length-take-le, get_or-take}
use Rattle.image.specs.Code.Rows.{Sides}
use Rattle.image.specs.declared.strip.Strip.{Strip}
use Rattle.image.specs.Size.{max_side, within, bad_size}
use Rattle.image.specs.Strip.{max_parts, max_rows, heights_of, strip_width, strip_height, shape_verdict, padded, strip_of, kept}
use Rattle.verdict.specs.declared.Rule.TheVariants as why
use Rattle.image.proofs.RowBytes.{sides}
use Rattle.seq.proofs.Joins.{take_tab, past_zeros}
use Rattle.seq.proofs.Lists.{and_intro}
use Rattle.seq.proofs.Tab.{get_d_tab, tab_ext, tab_get_d, first_none, first_nothing}
use Rattle.seq.proofs.Tests.{between, in_range, lt_or_le}
use Rattle.seq.specs.Lists.{all, sum_of}
use Rattle.seq.specs.Tab.{tab, first}
use Rattle.verdict.specs.Rules.{refuse_if, refuse_at}
use Rattle.verdict.proofs.Rules.{or_else_left, or_else_right, refuse_if_accepted, refuse_at_accepted}

pub sides_good : {w h : ℕ} → Sides w h → bad_size w h ≡ false
unfolding bad_size within
sides_good {w} {h} s = ap not (and_intro (in_range 1 w max_side s.wide s.narrow) (in_range 1 h max_side s.tall s.short))

-- each height is from 1 to the limit
abbrev pub Rows : List ℕ → Type 0
Rows hs = (i : ℕ) → i < length hs → (1 ≤ get_or hs i 0) × (get_or hs i 0 ≤ max_side)

rows_rest : (h : ℕ) (hs : List ℕ) → Rows (h ∷ hs) → Rows hs
rows_rest h hs g i l = g (suc i) (omega arith)

pub rows_few : (hs : List ℕ) → Rows hs → sum_of hs ≤ max_side * length hs
rows_few [] g = omega arith
rows_few (h ∷ hs) g = omega (arith, rows_few hs (rows_rest h hs g), (g 0 (omega arith)).1)

pub rows_some : (hs : List ℕ) → Rows hs → 1 ≤ length hs → 1 ≤ sum_of hs
rows_some [] g l = absurd (omega arith)
rows_some (h ∷ hs) g l = omega (arith, (g 0 (omega arith)).0)

pub record Shape (p : Strip) : Type 0 where
  pub some : 1 ≤ p.parts
  pub few : p.parts ≤ max_parts
  pub sized : (i : ℕ) → i < p.parts → Sides (get_or p.widths i 0) (get_or p.heights i 0)
  pub one_width : (i : ℕ) → i < p.parts → get_or p.widths i 0 ≡ strip_width p

pub shape_good : (p : Strip) → shape_verdict p ≡ Ok tt → Shape p
unfolding shape_verdict within
shape_good p e =
    let number = not-false _ (refuse_if_accepted _ why.Parts 0 (or_else_left _ _ e)) in
    let e₁ = or_else_right (refuse_if (not (within max_parts p.parts)) why.Parts 0) _ e in
    let sizes = refuse_at_accepted (first (λ i. bad_size (get_or p.widths i 0) (get_or p.heights i 0)) p.parts) why.SizeRange suc (or_else_left _ _ e₁) in
    let e₂ = or_else_right (refuse_at (first (λ i. bad_size (get_or p.widths i 0) (get_or p.heights i 0)) p.parts) why.SizeRange suc) _ e₁ in
    let widths = refuse_at_accepted (first (λ i. not (eqb (get_or p.widths i 0) (strip_width p))) p.parts) why.Parts suc (or_else_left _ _ e₂) in
    record {
      some = (between 1 p.parts max_parts number).0;
      few = (between 1 p.parts max_parts number).1;
      sized = λ i l. sides _ _ (first_nothing (λ i. bad_size (get_or p.widths i 0) (get_or p.heights i 0)) p.parts sizes i l);
      one_width = λ i l. eqb-true _ _ (not-false _ (first_nothing (λ i. not (eqb (get_or p.widths i 0) (strip_width p))) p.parts widths i l));
    }

pub good_shape : (p : Strip) → Shape p → shape_verdict p ≡ Ok tt
unfolding shape_verdict within
good_shape p g =
    simp (
      in_range 1 p.parts max_parts g.some g.few,
      first_none (λ i. bad_size (get_or p.widths i 0) (get_or p.heights i 0)) p.parts (λ i l. sides_good (g.sized i l)),
      first_none (λ i. not (eqb (get_or p.widths i 0) (strip_width p))) p.parts (λ i l. ap not (eq-eqb _ _ (g.one_width i l))),
    )

module _ {p : Strip} (g : Shape p) where
  -- a height past the places would be 0
  places : p.parts ≤ length p.heights
  places = ⊎_elim (λ l. absurd (short l)) (λ l. l) (lt_or_le (length p.heights) p.parts)
    where
      none : get_or p.heights (length p.heights) 0 ≡ 0
      none = get_or-eq_default p.heights 0 (omega arith)

      short : length p.heights < p.parts → ⊥
      short l = omega (arith, none, (g.sized (length p.heights) l).tall)

  pub shape_count : length (heights_of p) ≡ p.parts
  shape_count = length-take-le p.parts p.heights places

  pub shape_heights : Rows (heights_of p)
  shape_heights i l =
      let k : i < p.parts = omega (arith, shape_count) in
      let s = g.sized i k in
      rw (get_or-take p.parts p.heights i 0 k) (s.tall, s.short)

  pub shape_wide : (1 ≤ strip_width p) × (strip_width p ≤ max_side)
  shape_wide = let s = g.sized 0 (omega (arith, g.some)) in (s.wide, s.narrow)

  pub shape_rows : (1 ≤ strip_height p) × (strip_height p ≤ max_rows)
  shape_rows = (rows_some (heights_of p) shape_heights (omega (arith, shape_count, g.some)), omega (arith, rows_few (heights_of p) shape_heights, shape_count, g.few))

-- the record of parts of the width w and the heights hs
pub past_padded : (xs : List ℕ) → all (eqb 0) (drop (length xs) (padded xs)) ≡ true
past_padded xs = past_zeros (λ i. get_or xs i 0) (length xs) max_parts (λ i l m. get_or-eq_default xs 0 l)

pub padded_tab : (f : ℕ → ℕ) → padded (tab f max_parts) ≡ tab f max_parts
padded_tab f = tab_ext (λ i. get_or (tab f max_parts) i 0) f max_parts (λ i l. get_d_tab f max_parts i 0 l)

pub padded_whole : (xs : List ℕ) → length xs ≡ max_parts → padded xs ≡ xs
padded_whole xs e = ap (tab (λ i. get_or xs i 0)) (sym e) ∙ tab_get_d xs 0

-- parts of the width w and the heights hs, as rules 23 and 10 leave them
pub record Listed (w : ℕ) (hs : List ℕ) : Type 0 where
  pub some : 1 ≤ length hs
  pub few : length hs ≤ max_parts
  pub wide : 1 ≤ w
  pub narrow : w ≤ max_side
  pub rows : Rows hs

pub shape_listed : {p : Strip} → Shape p → Listed (strip_width p) (heights_of p)
shape_listed g = record {
  some = omega (arith, shape_count g, g.some);
  few = omega (arith, shape_count g, g.few);
  wide = (shape_wide g).0;
  narrow = (shape_wide g).1;
  rows = shape_heights g;
}

pub one_listed : {w h : ℕ} → Sides w h → Listed w (h ∷ [])
one_listed {w} {h} s = record { some = omega arith; few = omega arith; wide = s.wide; narrow = s.narrow; rows = row }
  where
    row : Rows (h ∷ [])
    row zero l = (s.tall, s.short)
    row (suc i) l = absurd (omega arith)

-- their record
module _ {w : ℕ} {hs : List ℕ} (g : Listed w hs) where
  pub of_heights : heights_of (strip_of w hs) ≡ hs
  unfolding strip_of
  of_heights = take_tab (λ i. get_or hs i 0) (length hs) max_parts g.few ∙ tab_get_d hs 0

  pub of_width : strip_width (strip_of w hs) ≡ w
  unfolding strip_of
  of_width = get_or-replicate (length hs) 0 w 0 g.some

  width_at : (i : ℕ) → i < length hs → get_or (strip_of w hs).widths i 0 ≡ w
  unfolding strip_of
  width_at i l = get_d_tab (λ k. get_or (replicate (length hs) w) k 0) max_parts i 0 (omega (arith, g.few)) ∙ get_or-replicate (length hs) i w 0 l

  height_at : (i : ℕ) → i < length hs → get_or (strip_of w hs).heights i 0 ≡ get_or hs i 0
  unfolding strip_of
  height_at i l = get_d_tab (λ k. get_or hs k 0) max_parts i 0 (omega (arith, g.few))

  pub of_shape : Shape (strip_of w hs)
  unfolding strip_of
  of_shape = record {
    some = g.some;
    few = g.few;
    sized = λ i l. rw (width_at i l, height_at i l) (record { wide = g.wide; narrow = g.narrow; tall = (g.rows i l).0; short = (g.rows i l).1 });
    one_width = λ i l. width_at i l ∙ sym of_width;
  }

  pub of_widths_past : all (eqb 0) (drop (strip_of w hs).parts (strip_of w hs).widths) ≡ true
  unfolding strip_of
  of_widths_past = rw (length-replicate (length hs) w) at (past_padded (replicate (length hs) w))

  pub of_heights_past : all (eqb 0) (drop (strip_of w hs).parts (strip_of w hs).heights) ≡ true
  unfolding strip_of
  of_heights_past = past_padded hs

pub kept_strip : (p : Strip) → shape_verdict p ≡ Ok tt → kept p ≡ strip_of (strip_width p) (heights_of p)
unfolding kept strip_of
kept_strip p e =
    ap₂ (λ (n : ℕ) (ws : List ℕ). record { parts = n; widths = ws; heights = padded (heights_of p) }) (sym (shape_count g))
    (tab_ext (λ i. get_or (take p.parts p.widths) i 0) (λ i. get_or (replicate (length (heights_of p)) (strip_width p)) i 0) max_parts width)
  where
    g : Shape p
    g = shape_good p e

    width : (i : ℕ) → i < max_parts → get_or (take p.parts p.widths) i 0 ≡ get_or (replicate (length (heights_of p)) (strip_width p)) i 0
    width i l = ⊎_elim within_parts past (lt_or_le i p.parts)
      where
        within_parts : i < p.parts → get_or (take p.parts p.widths) i 0 ≡ get_or (replicate (length (heights_of p)) (strip_width p)) i 0
        within_parts m =
            get_or-take p.parts p.widths i 0 m ∙ g.one_width i m
            ∙ sym (get_or-replicate (length (heights_of p)) i (strip_width p) 0 (omega (arith, shape_count g)))

        past : p.parts ≤ i → get_or (take p.parts p.widths) i 0 ≡ get_or (replicate (length (heights_of p)) (strip_width p)) i 0
        past m =
            get_or-eq_default (take p.parts p.widths) 0 (omega (arith, length-take p.parts p.widths))
            ∙ sym (get_or-eq_default (replicate (length (heights_of p)) (strip_width p)) 0 (omega (arith, length-replicate (length (heights_of p)) (strip_width p), shape_count g)))
