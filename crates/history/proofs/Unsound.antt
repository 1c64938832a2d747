-- 14 in words of the record is 14 as the calls test it.
--     unsound_words, words_unsound     where the test holds a condition does, and the other way round
--     sound_none                       where it does not hold, none does
--     sound_ready                      a sound record that is not empty is ready
-- Assumes nothing.
use Rattle.std.specs.Prelude.{Ok, Err}
use mathlib.Core.Bool.{Bool, true, false, cond, not, ◌&&◌, ◌||◌}
use mathlib.Core.Logic.{◌⊎◌, inl, inr, ⊎_elim}
use mathlib.Core.Path.{◌≡◌, refl, sym, ◌∙◌}
use Prim.Native.Nat.{◌+◌}
use native.Mathlib.Omega.{arith}
use borrow.Author.Tests.{ltb-true, ltb-false, lt-ltb, eqb-true, eqb-false, eq-eqb, ne_eqb, not-true, not-false}
use lib.Dec.{ltb, eqb}
use lib.ListN.{drop}
use Rattle.history.specs.declared.Job.{Job}
use Rattle.history.specs.Sound.{Inconsistent, bad_shape, other_width, other_height, past_the_parts, other_added, other_removed, bad_table, first_short, second_short, above_one, many_passes, many_changes, Unsound, stage_above, field_set, held_wrong, Ready}
use Rattle.history.specs.State.{State, fields_of, part_fields, pixels, image, short, nonzero, past_parts, bad_parts, inconsistent, unsound}
use Rattle.history.proofs.Ready.{consistent_ready, ready_parts}
use Rattle.history.proofs.Parts.{good_past, misshapen, resized, past, miscounted}
use Rattle.image.proofs.Shapes.{good_shape}
use Rattle.image.specs.Strip.{shape_verdict}
use Rattle.seq.specs.Lists.{any, all}
use Rattle.seq.proofs.Lists.{clash, either, or_cases, any_intro, any_elim, all_elim, not_all}
use Rattle.seq.proofs.Tests.{or_none_left, or_none_right}
use Rattle.table.specs.Record.{record_verdict}
use Rattle.verdict.specs.Rules.{is_accepted, Verdict}
use Rattle.verdict.proofs.Rules.{refused_accepted}

not_accepted : (v : Verdict) → not (is_accepted v) ≡ true → v ≡ Ok tt → ⊥
not_accepted (Ok _) e q = clash e refl
not_accepted (Err r) e q = refused_accepted refl q

-- one of two does not hold
not_and : (a b : Bool) → not (a && b) ≡ true → (a ≡ false) ⊎ (b ≡ false)
not_and true b e = inr (not-true b e)
not_and false b e = inl refl

module _ (s : State) where
  abbrev job : Job
  job = s.job

  -- a place past the parts that is not zero
  past_words : past job ≡ true → Inconsistent s
  past_words e =
      let (xs, m, q) = any_elim (past_parts job) (part_fields job) e in
      let (v, k, z) = any_elim (λ v. not (eqb 0 v)) (drop job.strip.parts xs) (sym (not_all (eqb 0) (drop job.strip.parts xs)) ∙ q) in
      past_the_parts xs m v k (λ x. eqb-false 0 v (not-true _ z) (sym x))

  parts_words : bad_parts job ≡ true → Inconsistent s
  unfolding bad_parts
  parts_words e =
      ⊎_elim (λ x. bad_shape (not_accepted (shape_verdict job.strip) x))
      (λ x. ⊎_elim size (λ y. ⊎_elim past_words count (or_cases (past job) (miscounted job) y)) (or_cases (resized job) (past job || miscounted job) x))
      (or_cases (misshapen job) (resized job || (past job || miscounted job)) e)
    where
      size : resized job ≡ true → Inconsistent s
      size x = ⊎_elim (λ y. other_width (eqb-false _ _ y)) (λ y. other_height (eqb-false _ _ y)) (not_and _ _ x)

      count : miscounted job ≡ true → Inconsistent s
      count x = ⊎_elim (λ y. other_added (eqb-false _ _ y)) (λ y. other_removed (eqb-false _ _ y)) (not_and _ _ x)

  -- the conditions in their order, as `inconsistent` joins them
  abbrev late : Bool
  late = ltb (pixels s.job) s.job.passes || ltb (pixels s.job) (s.job.added + s.job.removed)

  abbrev areas : Bool
  areas = short s.job s.first || short s.job s.second

  abbrev seen : Bool
  seen = any (ltb 1) (image s) || late

  abbrev behind : Bool
  behind = not (is_accepted (record_verdict s.job.table)) || (areas || seen)

  inconsistent_words : inconsistent s ≡ true → Inconsistent s
  unfolding inconsistent
  inconsistent_words e = ⊎_elim parts_words table (or_cases (bad_parts s.job) behind e)
    where
      count : late ≡ true → Inconsistent s
      count q =
          ⊎_elim (λ x. many_passes (ltb-true _ _ x)) (λ x. many_changes (ltb-true _ _ x))
          (or_cases (ltb (pixels s.job) s.job.passes) (ltb (pixels s.job) (s.job.added + s.job.removed)) q)

      pixel : seen ≡ true → Inconsistent s
      pixel q = ⊎_elim (λ x. let (v, m, l) = any_elim (ltb 1) (image s) x in above_one v m (ltb-true 1 v l)) count (or_cases (any (ltb 1) (image s)) late q)

      area : areas ≡ true → Inconsistent s
      area q =
          ⊎_elim (λ x. first_short (ltb-true _ _ x)) (λ x. second_short (ltb-true _ _ x))
          (or_cases (short s.job s.first) (short s.job s.second) q)

      table : behind ≡ true → Inconsistent s
      table q =
          ⊎_elim (λ x. bad_table (not_accepted (record_verdict s.job.table) x)) (λ x. ⊎_elim area pixel (or_cases areas seen x))
          (or_cases (not (is_accepted (record_verdict s.job.table))) (areas || seen) q)

  pub unsound_words : unsound s ≡ true → Unsound s
  unfolding unsound nonzero
  unsound_words e = ⊎_elim (λ x. stage_above (ltb-true 2 s.job.stage x)) low (either (ltb 2 s.job.stage))
    where
      low : ltb 2 s.job.stage ≡ false → Unsound s
      low a = ⊎_elim empty held (either (eqb s.job.stage 0))
        where
          rest : cond (eqb s.job.stage 0) (nonzero s.job) (inconsistent s) ≡ true
          rest = rw a at e

          empty : eqb s.job.stage 0 ≡ true → Unsound s
          empty z =
              let (v, m, q) = any_elim (λ v. not (eqb 0 v)) (fields_of s.job) (sym (not_all (eqb 0) (fields_of s.job)) ∙ (rw z at rest)) in
              field_set (eqb-true _ 0 z) v m (λ x. eqb-false 0 v (not-true _ q) (sym x))

          held : eqb s.job.stage 0 ≡ false → Unsound s
          held z = held_wrong (eqb-false s.job.stage 0 z) (ltb-false 2 s.job.stage a) (inconsistent_words (rw z at rest))

-- none of 14's conditions holds of a record that is ready
ready_none : {s : State} → Ready s → Inconsistent s → ⊥
ready_none {s} r (bad_shape n) = n (good_shape s.job.strip (ready_parts r).shape)
ready_none r (other_width n) = n (ready_parts r).width
ready_none r (other_height n) = n (ready_parts r).height
ready_none {s} r (past_the_parts xs m v k n) = n (sym (eqb-true 0 v (all_elim (eqb 0) (good_past (ready_parts r) m) k)))
ready_none r (other_added n) = n (sym (ready_parts r).added.sum)
ready_none r (other_removed n) = n (sym (ready_parts r).removed.sum)
ready_none r (bad_table n) = n r.table
ready_none r (first_short l) = omega (arith, r.first)
ready_none r (second_short l) = omega (arith, r.second)
ready_none r (above_one v m l) = clash (any_intro (ltb 1) m (lt-ltb 1 v l)) r.binary
ready_none r (many_passes l) = omega (arith, r.passes)
ready_none r (many_changes l) = omega (arith, r.counts)

module _ (s : State) (sound : unsound s ≡ false) where
  staged : ltb 2 s.job.stage ≡ false
  unfolding unsound
  staged = or_none_left (ltb 2 s.job.stage) _ sound

  rest : cond (eqb s.job.stage 0) (nonzero s.job) (inconsistent s) ≡ false
  unfolding unsound
  rest = or_none_right (ltb 2 s.job.stage) _ sound

  -- a sound record that is not empty is ready
  pub sound_ready : (s.job.stage ≡ 0 → ⊥) → Ready s
  sound_ready n = let z = ne_eqb s.job.stage 0 n in consistent_ready s staged z (rw z at rest)

  pub sound_none : Unsound s → ⊥
  unfolding nonzero
  sound_none (stage_above l) = omega (arith, ltb-false 2 s.job.stage staged)
  sound_none (field_set z v m n) = n (sym (eqb-true 0 v (all_elim (eqb 0) zeros m)))
    where
      zeros : all (eqb 0) (fields_of s.job) ≡ true
      zeros = not-false _ (rw (eq-eqb s.job.stage 0 z) at rest)
  sound_none (held_wrong n l i) = ready_none (sound_ready n) i

pub words_unsound : (s : State) → Unsound s → unsound s ≡ true
words_unsound s u = ⊎_elim (λ e. e) (λ e. absurd (sound_none s e u)) (either (unsound s))
