-- Load by what the code does: 14, 15 and the table, then what the reader of a source answers on the part of the first area that both areas have.
--     LoadedAs t x s v j after      answer, record and areas are as the definition says
--     not_admitted, entered_as      refused before the reader is called, and after it
--     PartsOf x n p                 p is the record of the parts of the source x, where its reader accepts an area of n bytes
--     ReadsAs t x s R, loaded_by    a reader that goes by R answers as the source x says; then a load by it is as the definition says
--     single_parts, strip_parts     so it is of a single image, and of a strip with zeros past its parts
-- Assumes nothing.
use Rattle.std.specs.Prelude.{Ok, Err}
use mathlib.Core.Bool.{Bool, true, false, ◌||◌}
use mathlib.Core.List.{List, [], ◌∷◌, ◌++◌, append_assoc}
use mathlib.Core.Path.{◌≡◌, refl, sym, ap, ◌∙◌}
use Prim.Native.Nat.{ℕ, ◌*◌, ◌≤◌, min}
use native.Mathlib.Omega.{arith}
use borrow.Author.Tests.{ltb-true, ltb-false, lt-ltb, le-ltb}
use lib.Dec.{ltb}
use lib.ListN.{length, take, drop, length-take, take-append-drop}
use lib.Seq.{drop-append-le}
use Rattle.history.specs.declared.Job.{Job}
use Rattle.history.specs.Load.{areas_rule, admit_rules, load_verdict, loaded_job, load_state}
use Rattle.history.specs.Source.{Source, from_strip, source_verdict, source_width, source_height, source_parts, source_pixels, source_read, source_area}
use Rattle.history.specs.State.{State}
use Rattle.verdict.specs.declared.Rule.TheVariants as why
use Rattle.history.proofs.Sources.{source_length, area_verdict, source_read_lem, source_area_lem}
use Rattle.image.proofs.Shapes.{kept_strip}
use Rattle.image.proofs.StripOf.{accepted_shape}
use Rattle.image.specs.Answers.{read_width, read_height}
use Rattle.image.specs.File.{ImageRead, area_rule, read_as}
use Rattle.image.specs.declared.strip.Strip.{Strip}
use Rattle.image.specs.Strip.{strip_verdict, strip_of, kept}
use Rattle.job.specs.declared.Reading.{Reading}
use Rattle.job.specs.Code.Loads.{entered, both, LoadedBy}
use Rattle.table.specs.declared.Table.{Table}
use Rattle.verdict.specs.Answers.{verdict_of}
use Rattle.verdict.specs.Rules.{Verdict, or_else, judge, Refusal}
use Rattle.verdict.specs.Writer.{over, output_of}
use Rattle.verdict.proofs.Rules.{or_else_left, or_else_right, refuse_if_accepted, or_else_accepted, judge_append}

abbrev pub LoadedAs : Table → Source → State → Verdict → Job → List ℕ → Type 0
LoadedAs t x s v j after =
    (v ≡ load_verdict t x s) × (j ≡ (load_state t x s).job) × (after ≡ (load_state t x s).first) × ((load_state t x s).second ≡ s.second)

-- the shorter of two areas is too short exactly when one of them is
short_both : (n k p : ℕ) → (ltb n p || ltb k p) ≡ ltb (min n k) p
short_both n k p = by (ltb n p) refl (ltb k p) refl
  where
    by : (a : Bool) → ltb n p ≡ a → (b : Bool) → ltb k p ≡ b → (a || b) ≡ ltb (min n k) p
    by true e b f = sym (lt-ltb (min n k) p (omega (arith, ltb-true n p e)))
    by false e true f = sym (lt-ltb (min n k) p (omega (arith, ltb-true k p f)))
    by false e false f = sym (le-ltb (min n k) p (omega (arith, ltb-false n p e, ltb-false k p f)))

-- an image that is put at the front of an area's part is put at the front of the area
over_part : (px area : List ℕ) (m : ℕ) → length px ≤ length (take m area) → over px (take m area) ++ drop m area ≡ over px area
unfolding over
over_part px area m h =
    append_assoc px (drop (length px) (take m area)) (drop m area)
    ∙ ap (λ (l : List ℕ). px ++ l) (sym (drop-append-le (length px) (take m area) (drop m area) h) ∙ ap (drop (length px)) (take-append-drop m area))

-- the record of the source's parts, where its reader accepts
abbrev pub PartsOf : Source → ℕ → Strip → Type 0
PartsOf x n p = area_verdict x n ≡ Ok tt → p ≡ strip_of (source_width x) (source_parts x)

pub single_parts : (x : Source) (n : ℕ) → source_parts x ≡ source_height x ∷ [] → {a : ImageRead} {p : Strip} → a ≡ source_read x n
    → p ≡ strip_of (read_width a) (read_height a ∷ []) → PartsOf x n p
single_parts x n one q e ok = e ∙ ap (λ (a : ImageRead). strip_of (read_width a) (read_height a ∷ [])) (q ∙ source_read_lem x n) ∙ rw (ok, one)

pub strip_parts : (p : Strip) (px : List ℕ) (n : ℕ) {q : Strip} → q ≡ kept p → PartsOf (from_strip p px) n q
strip_parts p px n e ok = e ∙ kept_strip p (accepted_shape p px (or_else_left (strip_verdict p px) _ ok))

-- a reader answers by the verdict
read_as_verdict : (v : Verdict) (w h : ℕ) → verdict_of (read_as v w h) ≡ v
read_as_verdict (Ok tt) w h = refl
read_as_verdict (Err r) w h = refl

module _ (t : Table) (x : Source) (s : State) where
  -- what is judged before the reader, and behind it
  split : load_verdict t x s ≡ or_else (judge (admit_rules t s)) (judge (source_verdict x ∷ areas_rule x (length s.first) (length s.second) ∷ []))
  unfolding load_verdict
  split = judge_append (admit_rules t s) (source_verdict x ∷ areas_rule x (length s.first) (length s.second) ∷ [])

  refused : {r : Refusal} → load_verdict t x s ≡ Err r → LoadedAs t x s (Err r) s.job s.first
  unfolding load_state
  refused e = rw e (refl, refl, refl, refl)

  not_admitted : {r : Refusal} → judge (admit_rules t s) ≡ Err r → LoadedAs t x s (Err r) s.job s.first
  not_admitted e = refused (split ∙ rw e)

  module _ (ok : judge (admit_rules t s) ≡ Ok tt) {m : ℕ} (shared : m ≡ min (length s.first) (length s.second)) where
    part : List ℕ
    part = take m s.first

    -- the reader's verdict is what is left
    verdict : load_verdict t x s ≡ area_verdict x (length part)
    unfolding part
    verdict =
        let long : length (take m s.first) ≡ min (length s.first) (length s.second) = length-take m s.first ∙ omega arith in
        split
        ∙ rw (ok, long, short_both (length s.first) (length s.second) (source_width x * source_height x))
        (ap (or_else (source_verdict x)) (or_else_accepted _))

    -- an accepted image fits the part
    fits : area_verdict x (length part) ≡ Ok tt → length (source_pixels x) ≤ length part
    fits e =
        let rule = or_else_right (source_verdict x) (area_rule (source_width x) (source_height x) (length part)) e in
        rw (source_length x (or_else_left (source_verdict x) _ e)) (ltb-false _ _ (refuse_if_accepted (ltb (length part) (source_width x * source_height x)) why.AreaShort 0 rule))

    by_verdict : (p : Strip) → PartsOf x (length part) p → (v : Verdict) → area_verdict x (length part) ≡ v
        → LoadedAs t x s v (entered s.job t p (read_as v (source_width x) (source_height x))) (output_of v (source_pixels x) part ++ drop m s.first)
    unfolding load_state loaded_job part
    by_verdict p k (Ok tt) e = rw (verdict, e, over_part (source_pixels x) s.first m (fits e), k e) (refl, refl, refl, refl)
    by_verdict p k (Err r) e = rw (take-append-drop m s.first) (refused (verdict ∙ e))

    entered_as : {a : ImageRead} {area : List ℕ} {p : Strip} {v : Verdict} {j : Job} → a ≡ source_read x (length (take m s.first)) → area ≡ source_area x (take m s.first)
        → PartsOf x (length (take m s.first)) p → (v ≡ verdict_of a) × (j ≡ entered s.job t p a) → LoadedAs t x s v j (area ++ drop m s.first)
    unfolding part
    entered_as {p = p} a q k e =
        rw (e.0, e.1, a ∙ source_read_lem x (length part), q ∙ source_area_lem x part) (rw read_as_verdict (by_verdict p k (area_verdict x (length part)) refl))

  -- the loads by a reader that answers as the source says
  abbrev pub ReadsAs : (List ℕ → Reading → List ℕ → Type 0) → Type 0
  ReadsAs R = (l : List ℕ) (a : Reading) (l' : List ℕ) → R l a l' → (a.read ≡ source_read x (length l)) × (l' ≡ source_area x l) × PartsOf x (length l) a.parts

  pub loaded_by : {R : List ℕ → Reading → List ℕ → Type 0} {v : Verdict} {j : Job} {first : List ℕ} → ReadsAs R → LoadedBy R t s v j first
      → LoadedAs t x s v j first
  loaded_by {R} {v} {j} {first} reads l = by (judge (admit_rules t s)) refl
    where
      by : (w : Verdict) → judge (admit_rules t s) ≡ w → LoadedAs t x s v j first
      by (Err r) e = let same = l.refused r e in rw (same.0, same.1, same.2) (not_admitted e)
      by (Ok tt) e =
          let made = l.read e in
          let as_source = reads (take (both s) s.first) made.0 made.1 made.2 in
          rw made.5 (entered_as e refl as_source.0 as_source.1 as_source.2 (made.3, made.4))
