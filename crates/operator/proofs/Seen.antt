-- One pass on an image of h rows and on a taller one of H, whose rows from row top on it has.
--     spread, radius             how far apart two positions of a mask lie at most, and how far an offset leads
--     Side d top h H r           row r of the image is d or more rows away from each edge that the taller one has not
--     Agree d r c                the two agree at every pixel within d rows and d columns of (r, c)
--     side_near, agree_near      both, less far around a pixel near by
--     opened_seen, held_seen     an opening sees as far as spread, and an element radius further: as far as reach
--     pass_at_seen                so a pass gives both the same pixel
-- Assumes nothing.
use mathlib.Core.Bool.{true, cond, ◌&&◌}
use mathlib.Core.List.{List}
use mathlib.Core.Logic.{◌⊎◌, inl, inr, ⊎_elim}
use mathlib.Core.Path.{◌≡◌, sym, ap, ◌∙◌}
use Prim.Native.Nat.{ℕ, ◌+◌, ◌-◌, ◌≤◌, ◌<◌}
use native.Mathlib.Omega.{arith}
use lib.Dec.{eqb}
use Rattle.operator.specs.Image.{pixel}
use Rattle.operator.specs.Locality.{reach, Near}
use Rattle.operator.specs.Pass.{placed, inside, solid, opened, held, pass_at}
use Rattle.operator.specs.Window.{clamp, site_row, site_col}
use Rattle.operator.proofs.Placed.{Fits, inside_elim, inside_intro}
use Rattle.seq.proofs.Lists.{bool_ext, any_ext, all_ext}
use Rattle.seq.proofs.Members.{and_cong}
use Rattle.table.proofs.Masks.{position_elim}
use Rattle.table.specs.declared.Table.{Table}
use Rattle.table.specs.Mask.{position_count, across, down, positions}
use Rattle.table.specs.Record.{masks, persistents}

abbrev spread : ℕ
spread = 4

abbrev radius : ℕ
radius = 2

pub record Side (d top h H r : ℕ) : Type 0 where
  pub upper : (top ≡ 0) ⊎ (d ≤ r)
  pub lower : (top + h ≡ H) ⊎ (r + d < h)

-- of D rows at least d are left, e rows further on
pub side_near : {D top h H r : ℕ} (d e r' : ℕ) → d + e ≤ D → Near e r r' → Side D top h H r → Side d top h H r'
side_near d e r' less (p, q) s = record {
  upper = ⊎_elim inl (λ l. inr (omega arith)) s.upper;
  lower = ⊎_elim inl (λ l. inr (omega arith)) s.lower;
}

module _ (h H top : ℕ) (tall : top + h ≤ H) where
  -- a translate lies inside both or inside neither
  fits_up : (r : ℕ) {b b' : ℕ} → Fits h r b b' → Fits H (top + r) b b'
  fits_up r f = record { reach = omega arith; below = omega arith }

  fits_back : (r : ℕ) {b b' : ℕ} → b ≤ spread → b' ≤ spread → Side spread top h H r → Fits H (top + r) b b' → Fits h r b b'
  fits_back r {b} {b'} i j s f =
      let from : b ≤ r + b' = ⊎_elim (λ e. omega arith) (λ l. omega arith) s.upper in
      record { reach = from; below = ⊎_elim (λ e. omega arith) (λ l. omega arith) s.lower }

  -- an offset leads to the same row
  clamp_up : (r y : ℕ) → y ≤ spread → r < h → Side reach top h H r → clamp H (top + r + y) ≡ top + clamp h (r + y)
  clamp_up r y i l s =
      ⊎_elim (λ e. ⊎_elim (λ f. omega arith) (λ f. omega arith) s.lower) (λ e. ⊎_elim (λ f. omega arith) (λ f. omega arith) s.lower) s.upper

  inside_up : (w r c n m : ℕ) → n < position_count → m < position_count → Side spread top h H r → inside w h r c n m ≡ inside w H (top + r) c n m
  inside_up w r c n m i j s = bool_ext _ _ up back
    where
      up : inside w h r c n m ≡ true → inside w H (top + r) c n m ≡ true
      up e = let x = inside_elim w h r c n m e in inside_intro (record { rows = fits_up r x.rows; columns = x.columns })

      back : inside w H (top + r) c n m ≡ true → inside w h r c n m ≡ true
      back e =
          let x = inside_elim w H (top + r) c n m e in
          inside_intro (record { rows = fits_back r (omega arith) (omega arith) s x.rows; columns = x.columns })

module _ (h top w : ℕ) (a b : List ℕ) where
  abbrev pub Agree : ℕ → ℕ → ℕ → Type 0
  Agree d r c = (r' c' : ℕ) → r' < h → c' < w → Near d r r' → Near d c c' → pixel w a r' c' ≡ pixel w b (top + r') c'

  pub agree_near : {D r c : ℕ} (d e r' c' : ℕ) → d + e ≤ D → Near e r r' → Near e c c' → Agree D r c → Agree d r' c'
  agree_near d e r' c' less (p, q) (p', q') g r'' c'' i j (x, y) (x', y') = g r'' c'' i j (omega arith, omega arith) (omega arith, omega arith)

  module _ (H : ℕ) (tall : top + h ≤ H) where
    solid_seen : (v r c K n : ℕ) → n < position_count → Side spread top h H r → Agree spread r c → solid w h a v r c K n ≡ solid w H b v (top + r) c K n
    unfolding solid
    solid_seen v r c K n i s g =
        all_ext _ _ (positions K) (λ m p.
        and_cong (inside w h r c n m) (same m (position_elim K p).0)
        ∙ ap (λ x. x && eqb (pixel w b (placed (top + r) (down n) (down m)) (placed c (across n) (across m))) v)
        (inside_up h H top tall w r c n m i (position_elim K p).0 s))
      where
        same : (m : ℕ) → m < position_count → inside w h r c n m ≡ true
            → eqb (pixel w a (placed r (down n) (down m)) (placed c (across n) (across m))) v
            ≡ eqb (pixel w b (placed (top + r) (down n) (down m)) (placed c (across n) (across m))) v
        same m j e =
            let x = inside_elim w h r c n m e in
            let y = x.rows.reach in
            let z = x.columns.reach in
            let q : top + placed r (down n) (down m) ≡ placed (top + r) (down n) (down m) = omega arith in
            ap (λ p. eqb p v)
            (g _ _ x.rows.below x.columns.below (omega arith, omega arith) (omega arith, omega arith)
            ∙ ap (λ z. pixel w b z (placed c (across n) (across m))) q)

    module _ (t : Table) where
      opened_seen : (v r c : ℕ) → Side spread top h H r → Agree spread r c → opened t w h a v r c ≡ opened t w H b v (top + r) c
      unfolding opened
      opened_seen v r c s g =
          any_ext _ _ (persistents t) (λ K _. any_ext _ _ (positions K) (λ n i. solid_seen v r c K n (position_elim K i).0 s g))

      held_seen : (v r c : ℕ) → r < h → c < w → Side reach top h H r → Agree reach r c → held t w h a v r c ≡ held t w H b v (top + r) c
      unfolding held
      held_seen v r c l m s g =
          any_ext _ _ (masks t) (λ e _. all_ext _ _ (positions e) (λ n i. at_site n (position_elim e i).0))
        where
          at_site : (n : ℕ) → n < position_count → opened t w h a v (site_row h r n) (site_col w c n) ≡ opened t w H b v (site_row H (top + r) n) (site_col w c n)
          at_site n i =
              let rows : Near radius r (site_row h r n) = (omega arith, omega arith) in
              let columns : Near radius c (site_col w c n) = (omega arith, omega arith) in
              let less : spread + radius ≤ reach = omega arith in
              opened_seen v (site_row h r n) (site_col w c n) (side_near spread radius (site_row h r n) less rows s)
              (agree_near spread radius (site_row h r n) (site_col w c n) less rows columns g)
              ∙ ap (λ z. opened t w H b v z (site_col w c n)) (sym (clamp_up h H top tall r (down n) (omega arith) l s))

      pub pass_at_seen : (r c : ℕ) → r < h → c < w → Side reach top h H r → Agree reach r c → pass_at t w h a r c ≡ pass_at t w H b (top + r) c
      unfolding pass_at
      pass_at_seen r c l m s g =
          let p = g r c l m (omega arith, omega arith) (omega arith, omega arith) in
          ap (λ v. cond (held t w h a (1 - v) r c) (1 - v) v) p
          ∙ ap (λ x. cond x (1 - pixel w b (top + r) c) (pixel w b (top + r) c)) (held_seen (1 - pixel w b (top + r) c) r c l m s g)
