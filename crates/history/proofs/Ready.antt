-- A job that is ready: sound, and at stage 1 or 2.
--     accepted_ready, ready_accepted     exactly then 14 and 16 do not speak
--     ready_image, ready_next            its image, and the image after a pass, are images
--     ready_parts, ready_small           its parts; no more pixels than the largest strip has
--     ready_writable, ready_single       the writer of strips accepts its image, and of a single one the image writer does
--     ready_changed, ready_stable        a changing pass leaves it ready, and so does a quiet one
-- Assumes nothing.
use Rattle.std.specs.Prelude.{Ok}
use mathlib.Core.Bool.{true, false, not, ◌||◌}
use mathlib.Core.List.{Memᴰ}
use mathlib.Core.Logic.{⊎_elim}
use mathlib.Core.Path.{◌≡◌, subst₂}
use Prim.Native.Nat.{ℕ, ◌+◌, ◌≤◌, ◌<◌}
use native.Mathlib.Nat.{mul-pos}
use native.Mathlib.Omega.{arith}
use borrow.Author.Tests.{ltb-false, eqb-false, le-ltb, ne_eqb, le-leb}
use lib.Dec.{ltb, eqb, leb}
use lib.ListN.{length}
use lib.Seq.{length-take-le}
use Rattle.operator.specs.Image.{IsImage}
use Rattle.verdict.specs.declared.Rule.TheVariants as why
use Rattle.operator.proofs.Operator.{pass_image}
use Rattle.history.specs.Pass.{next_image, exceeds, with_next, changed_job, stable_job}
use Rattle.history.specs.State.{State, pixels, even, present, image, bad_parts, inconsistent, unsound, sound_rule, loaded_rule, ready_verdict}
use Rattle.history.proofs.Areas.{next_job, next_first, next_second, next_changed, next_stable}
use Rattle.history.proofs.Images.{none_above, image_writable, strip_writable}
use Rattle.history.proofs.Parts.{is_accepted_lem, GoodParts, parts_good, good_parts, good_wide, good_high, good_small, good_sides, good_changed}
use Rattle.image.specs.File.{pixel_verdict}
use Rattle.image.specs.Strip.{max_strip, strip_verdict}
use Rattle.history.specs.Sound.{Ready}
use Rattle.seq.specs.Lists.{any}
use Rattle.seq.proofs.Lists.{clash, either, any_intro, all_intro, not_true_false}
use Rattle.seq.proofs.Tests.{or_none_left, or_none_right}
use Rattle.table.specs.Record.{record_verdict}
use Rattle.verdict.specs.Rules.{is_accepted}
use Rattle.verdict.proofs.Rules.{or_else_left, or_else_right, refuse_if_accepted}

-- what a sound record at stage 1 or 2 says, one condition of 14 after the other
pub consistent_ready : (s : State) → ltb 2 s.job.stage ≡ false → eqb s.job.stage 0 ≡ false → inconsistent s ≡ false → Ready s
unfolding inconsistent
consistent_ready s high low e =
    let e₁ = or_none_right (bad_parts s.job) _ e in
    let e₂ = or_none_right (not (is_accepted (record_verdict s.job.table))) _ e₁ in
    let areas = or_none_left (ltb (length s.first) (pixels s.job) || ltb (length s.second) (pixels s.job)) _ e₂ in
    let e₃ = or_none_right (ltb (length s.first) (pixels s.job) || ltb (length s.second) (pixels s.job)) _ e₂ in
    let e₄ = or_none_right (any (ltb 1) (image s)) _ e₃ in
    record {
      begun = let z = eqb-false s.job.stage 0 low in omega arith;
      staged = ltb-false 2 s.job.stage high;
      parts = or_none_left (bad_parts s.job) _ e;
      table = is_accepted_lem (record_verdict s.job.table) (or_none_left (not (is_accepted (record_verdict s.job.table))) _ e₁);
      first = ltb-false _ _ (or_none_left (ltb (length s.first) (pixels s.job)) _ areas);
      second = ltb-false _ _ (or_none_right (ltb (length s.first) (pixels s.job)) _ areas);
      binary = or_none_left (any (ltb 1) (image s)) _ e₃;
      passes = ltb-false _ _ (or_none_left (ltb (pixels s.job) s.job.passes) _ e₄);
      counts = ltb-false _ _ (or_none_right (ltb (pixels s.job) s.job.passes) _ e₄);
    }

pub accepted_ready : (s : State) → ready_verdict s ≡ Ok tt → Ready s
unfolding ready_verdict unsound
accepted_ready s e = consistent_ready s (or_none_left (ltb 2 s.job.stage) _ sound) begun (rw begun at (or_none_right (ltb 2 s.job.stage) _ sound))
  where
    sound : unsound s ≡ false
    sound = refuse_if_accepted (unsound s) why.Unsound 0 (or_else_left (sound_rule s) _ e)

    begun : eqb s.job.stage 0 ≡ false
    begun = refuse_if_accepted (eqb s.job.stage 0) why.NothingLoaded 0 (or_else_left (loaded_rule s) (Ok tt) (or_else_right (sound_rule s) _ e))

module _ {s : State} (r : Ready s) where
  pub ready_sound : unsound s ≡ false
  unfolding unsound inconsistent
  ready_sound =
      rw (
        le-ltb 2 s.job.stage r.staged,
        ne_eqb s.job.stage 0 (λ z. omega (arith, r.begun)),
        r.parts,
        r.table,
        le-ltb _ _ r.first,
        le-ltb _ _ r.second,
        r.binary,
        le-ltb _ _ r.passes,
        le-ltb _ _ r.counts,
      )

  pub ready_accepted : ready_verdict s ≡ Ok tt
  unfolding ready_verdict
  ready_accepted = rw (ready_sound, ne_eqb s.job.stage 0 (λ z. omega (arith, r.begun)))

  pub ready_parts : GoodParts s.job
  ready_parts = parts_good s.job r.parts

  pub ready_small : pixels s.job ≤ max_strip
  ready_small = good_small ready_parts

  -- the area that holds the image is long enough
  present_long : pixels s.job ≤ length (present s)
  unfolding present
  present_long = ⊎_elim (λ e. rw e r.first) (λ e. rw e r.second) (either (even s.job.passes))

  -- no present pixel is above 1
  pub ready_image : IsImage s.job.width s.job.height (image s)
  unfolding image
  ready_image = record {
    wide = good_wide ready_parts;
    high = good_high ready_parts;
    sized = length-take-le (pixels s.job) (present s) present_long;
    binary = all_intro (λ v. leb v 1) (image s) low;
  }
    where
      low : (v : ℕ) → Memᴰ v (image s) → leb v 1 ≡ true
      low v m = le-leb v 1 (ltb-false 1 v (not_true_false (ltb 1 v) (λ e. clash (any_intro (ltb 1) m e) r.binary)))

  -- the writer of strips accepts it
  pub ready_writable : strip_verdict s.job.strip (image s) ≡ Ok tt
  ready_writable = strip_writable ready_parts.shape (subst₂ (λ w h. IsImage w h (image s)) ready_parts.width ready_parts.height ready_image)

  -- a single image is the one part of its strip
  pub ready_single : s.job.strip.parts ≡ 1 → pixel_verdict s.job.width s.job.height (image s) ≡ Ok tt
  ready_single e = image_writable (good_sides ready_parts e) ready_image

  -- it has a pixel
  pub ready_some : 0 < pixels s.job
  ready_some = mul-pos ready_image.wide ready_image.high

  pub ready_next : IsImage s.job.width s.job.height (next_image s)
  unfolding next_image
  ready_next = pass_image s.job.table ready_image

  pub ready_changed : exceeds s ≡ false → Ready (with_next (changed_job s) s)
  unfolding exceeds changed_job
  ready_changed e = record {
    begun = rw job (omega arith);
    staged = rw job (omega arith);
    parts = rw job (good_parts (changed_job s) (good_changed s ready_parts ready_image));
    table = rw job r.table;
    first = rw job (omega (arith, next_first (changed_job s) s (omega (arith, ready_next.sized))));
    second = rw job (omega (arith, next_second (changed_job s) s (omega (arith, ready_next.sized))));
    binary = rw (next_changed s ready_next.sized) (none_above ready_next);
    passes = rw job (ltb-false _ _ (or_none_left (ltb (pixels s.job) (s.job.passes + 1)) _ e));
    counts = rw job (ltb-false _ _ (or_none_right (ltb (pixels s.job) (s.job.passes + 1)) _ e));
  }
    where
      job : (with_next (changed_job s) s).job ≡ changed_job s
      job = next_job (changed_job s) s

  pub ready_stable : Ready (with_next (stable_job s) s)
  unfolding stable_job bad_parts
  ready_stable = record {
    begun = rw job (omega arith);
    staged = rw job (omega arith);
    parts = rw job r.parts;
    table = rw job r.table;
    first = rw job (omega (arith, next_first (stable_job s) s (omega (arith, ready_next.sized))));
    second = rw job (omega (arith, next_second (stable_job s) s (omega (arith, ready_next.sized))));
    binary = rw (next_stable s) r.binary;
    passes = rw job r.passes;
    counts = rw job r.counts;
  }
    where
      job : (with_next (stable_job s) s).job ≡ stable_job s
      job = next_job (stable_job s) s
