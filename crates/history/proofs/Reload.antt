-- What an accepted collect wrote, loaded again with its table, stays until a collect is accepted.
--     Same e d, same_passed, same_ran     two entries with one table, size and first image; so are those before and after passes
--     Keeps e w, keeps-step, keeps_play   the history holds such an entry, and keeps one until a collect is accepted
--     by_answer                           what an accepted collect wrote is the file of the last image
--     Again e x, again_file, again_strip  a source of the last image: the file of a single one, and the parts of any
--     reloads, relaid                     the claims
-- Assumes nothing.
use Rattle.std.specs.Prelude.{Ok, Err}
use mathlib.Core.Bool.{Bool, true, false, cond, not, ◌&&◌}
use mathlib.Core.List.{List, [], ◌∷◌}
use mathlib.Core.Path.{◌≡◌, refl, sym, ap, ◌∙◌, subst}
use Prim.Native.Nat.{ℕ, zero, suc, ◌+◌, ◌*◌}
use native.Mathlib.Nat.{add-zero}
use native.Mathlib.Omega.{arith}
use borrow.Author.Tests.{not-false, le-ltb}
use lib.ListN.{length, take, replicate}
use Rattle.operator.specs.Image.{differs}
use Rattle.operator.specs.Pass.{Stable}
use Rattle.history.specs.Answered.{answered_by}
use Rattle.history.specs.Call.{Call, load, pass, run, view, figures, collect, channel_pass, channel_run, is_collect, collected, answer_of, state_of, refusal_of}
use Rattle.history.specs.Collect.{collect_state}
use Rattle.history.specs.Demand3.{Rests, Reloads}
use Rattle.history.specs.History.{Entry, History, empty, holds, Lengths, entered, next_of, joined, marked, passed, passed_for, ran, files_of, made, refused_by, barred_by, accepted, after_as, after}
use Rattle.history.specs.Lists.{Course, lengths_of, tallied, step, play, uncollected, first_of}
use Rattle.history.specs.Quota.{channel_rule}
use Rattle.history.specs.Source.{Source, from_file, from_strip, source_verdict, source_width, source_height, source_pixels}
use Rattle.history.specs.State.{State, empty_job}
use Rattle.verdict.specs.declared.Rule.TheVariants as why
use Rattle.history.proofs.After.{held}
use Rattle.history.proofs.Channel.{plays_passes, channel_as_passes}
use Rattle.history.proofs.Collect.{collect_held}
use Rattle.history.proofs.Kept.{kept}
use Rattle.history.proofs.Lists.{keeps, play_related}
use Rattle.history.proofs.Images.{image_writable, strip_writable}
use Rattle.history.proofs.Parts.{good_sides}
use Rattle.history.proofs.Pass.{last_image}
use Rattle.history.proofs.Refused.{answered, refused}
use Rattle.history.proofs.Related.{Held, Related}
use Rattle.history.proofs.Run.{course}
use Rattle.history.proofs.Twins.{rests}
use Rattle.image.proofs.PartFiles.{one_file}
use Rattle.image.proofs.RoundTrip.{image_round_trip}
use Rattle.image.proofs.Shapes.{of_heights, of_width, of_shape}
use Rattle.image.specs.RoundTrip.{ReadBack}
use Rattle.image.specs.File.{image_bytes}
use Rattle.image.specs.Strip.{strip_bytes, strip_of}
use Rattle.seq.specs.Lists.{sum_of}
use Rattle.seq.proofs.Lists.{clash, and_left, and_right}
use Rattle.verdict.specs.Rules.{is_accepted, Verdict}
use Rattle.verdict.specs.Writer.{over, written_of, output_of}
use Rattle.verdict.proofs.Rules.{or_else_left, refuse_if_accepted}
use Rattle.verdict.proofs.Writer.{take_over}

record Same (e d : Entry) : Type 0 where
  table : d.table ≡ e.table
  width : d.width ≡ e.width
  height : d.height ≡ e.height
  first : first_of d ≡ first_of e

same : (e : Entry) → Same e e
same e = record { table = refl; width = refl; height = refl; first = refl }

then : {e d c : Entry} → Same e d → Same d c → Same e c
then a b = record {
  table = b.table ∙ a.table;
  width = b.width ∙ a.width;
  height = b.height ∙ a.height;
  first = b.first ∙ a.first;
}

-- a pass leaves the entry, lengthens its row at the other end, or sets the mark
same_passed : (e : Entry) → Same e (passed e)
unfolding passed joined marked
same_passed e = by e.settled (differs e.last (next_of e))
  where
    by : (b d : Bool) → Same e (cond b e (cond d (joined e) (marked e)))
    by true d = same e
    by false true = record { table = refl; width = refl; height = refl; first = refl }
    by false false = record { table = refl; width = refl; height = refl; first = refl }

same_for : (n : ℕ) (e : Entry) → Same e (passed_for n e)
same_for zero e = same e
same_for (suc n) e = then (same_passed e) (same_for n (passed e))

same_ran : (e : Entry) → Same e (ran e)
unfolding ran
same_ran e = same_for (e.width * e.height + 1) e

-- the history holds an entry like e
record Keeps (e : Entry) (w : Course) : Type 0 where
  entry : Entry
  held_by : w.history ≡ holds entry
  like : Same e entry

-- so it does after passes
kept_for : (j : ℕ) {s : State} {e : Entry} {n : ℕ} → Held s e n → {w : Course} → w ≡ play (replicate j pass) (course s e n) → Keeps e w
kept_for j {s} {e} {n} r p = record { entry = passed_for j e; held_by = ap (λ (v : Course). v.history) (p ∙ plays_passes j s e n); like = same_for j e }

-- and after a call that is no accepted collect
keeps_call : (c : Call) {s : State} {e : Entry} {n : ℕ} → Held s e n → not (is_collect c && is_accepted (refusal_of (answer_of c s))) ≡ true
    → Keeps e (step c (course s e n))
unfolding step after barred_by refused_by accepted
keeps_call (load t x) {s} {e} r u = record { entry = e; held_by = refl; like = same e }
keeps_call pass {s} {e} r u = record { entry = passed e; held_by = refl; like = same_passed e }
keeps_call run {s} {e} r u = record { entry = ran e; held_by = refl; like = same_ran e }
keeps_call view {s} {e} r u = record { entry = e; held_by = refl; like = same e }
keeps_call figures {s} {e} r u = record { entry = e; held_by = refl; like = same e }
keeps_call (collect out) {s} {e} {n} r u = record { entry = e; held_by = by (refused_by (collect out) (lengths_of s) (holds e)) refl; like = same e }
  where
    by : (v : Verdict) → refused_by (collect out) (lengths_of s) (holds e) ≡ v → after_as v (collect out) (holds e) ≡ holds e
    by (Err x) q = refl
    by (Ok _) q = clash u (ap (λ (v : Verdict). not (is_accepted v)) (refused (collect out) s (holds e) n r ∙ q))
keeps_call (channel_pass c i) {s} {e} {n} r u = by (channel_rule c i) refl
  where
    by : (v : Verdict) → channel_rule c i ≡ v → Keeps e (step (channel_pass c i) (course s e n))
    by (Ok _) k = kept_for (made 1 c i e) r (channel_as_passes c i k r).pass_singly
    by (Err x) k = record { entry = e; held_by = rw k; like = same e }
keeps_call (channel_run c i) {s} {e} {n} r u = by (channel_rule c i) refl
  where
    by : (v : Verdict) → channel_rule c i ≡ v → Keeps e (step (channel_run c i) (course s e n))
    by (Ok _) k = kept_for (made (e.width * e.height + 1) c i e) r (channel_as_passes c i k r).run_singly
    by (Err x) k = record { entry = e; held_by = rw k; like = same e }

keeps_play : (cs : List Call) (w : Course) (e : Entry) → Related w → Keeps e w → uncollected cs w ≡ true → Keeps e (play cs w)
keeps_play [] w e r k u = k
keeps_play (c ∷ cs) w e r k u =
    keeps_play cs (step c w) e (keeps c w.state w.history w.tally r) next (and_right (not (is_collect c && is_accepted (refusal_of (answer_of c w.state)))) _ u)
  where
    here : Held w.state k.entry w.tally
    here = held w r k.entry k.held_by

    next : Keeps e (step c w)
    next =
        let x = keeps_call c here (and_left _ (uncollected cs (step c w)) u) in
        let same_course : course w.state k.entry w.tally ≡ w = ap (λ (H : History). record { state = w.state; history = H; tally = w.tally }) (sym k.held_by) in
        record { entry = x.entry; held_by = ap (λ (v : Course). (step c v).history) (sym same_course) ∙ x.held_by; like = then k.like x.like }

-- what a writer's answer says of its verdict
pub by_answer : (v : Verdict) (bytes out : List ℕ) {m : ℕ} {after : List ℕ} → collected (written_of v bytes) (output_of v bytes out) ≡ collected (Ok m) after
    → (v ≡ Ok tt) × (take m after ≡ bytes)
by_answer (Ok tt) bytes out {m} {after} q =
    let n : length bytes ≡ m = cc in
    let o : over bytes out ≡ after = cc in
    (refl, ap (take m) (sym o) ∙ take_over bytes out m n)
by_answer (Err x) bytes out q = absurd (let z : ◌≡◌ {A = ℕ} 0 1 = cc in omega arith)

-- a list of one
single : (l : List ℕ) → length l ≡ 1 → (a : ℕ) × (l ≡ a ∷ [])
single [] e = absurd (omega arith)
single (a ∷ []) e = (a, refl)
single (a ∷ b ∷ l) e = absurd (omega arith)

-- a source whose image is the last one of an entry, loaded with its table
record Again (e : Entry) (x : Source) : Type 0 where
  accepted : source_verdict x ≡ Ok tt
  width : source_width x ≡ e.width
  height : source_height x ≡ e.height
  pixels : source_pixels x ≡ e.last

module _ {s : State} {e : Entry} {n : ℕ} (r : Held s e n) where
  -- the file of a single last image is accepted, and gives it back
  again_file : length e.parts ≡ 1 → Again e (from_file (files_of e))
  unfolding files_of strip_of
  again_file one = by (single e.parts one)
    where
      by : (h : ℕ) × (e.parts ≡ h ∷ []) → Again e (from_file (files_of e))
      by (h, list) =
          let rows : e.height ≡ h = r.parts.height ∙ ap sum_of (of_heights r.listed) ∙ ap sum_of list ∙ add-zero h in
          let back : ReadBack e.width e.height e.last = image_round_trip.image_back e.width e.height e.last (image_writable (good_sides r.parts one) (last_image r)) in
          let file : strip_bytes e.width e.parts e.last ≡ image_bytes e.width e.height e.last =
          ap (λ hs. strip_bytes e.width hs e.last) (list ∙ ap (λ (k : ℕ). k ∷ []) (sym rows)) ∙ one_file e.width e.height e.last (last_image r).sized in
          rw file (record { accepted = back.accepted; width = back.width; height = back.height; pixels = back.pixels })

  -- so are the parts of the last image, laid end to end again
  again_strip : Again e (from_strip (strip_of e.width e.parts) e.last)
  again_strip = record {
    accepted = strip_writable (of_shape r.listed) (rw (of_width r.listed, of_heights r.listed, sym rows) (last_image r));
    width = of_width r.listed;
    height = ap sum_of (of_heights r.listed) ∙ sym rows;
    pixels = refl;
  }
    where
      rows : e.height ≡ sum_of e.parts
      rows = r.parts.height ∙ ap sum_of (of_heights r.listed)

  module _ (out : List ℕ) (ok : refused_by (collect out) (lengths_of s) (holds e) ≡ Ok tt) where
    settled : e.settled ≡ true
    unfolding refused_by
    settled = not-false e.settled (refuse_if_accepted (not e.settled) why.NotStable 0 (or_else_left _ _ ok))

    -- record and areas after the collect
    abbrev left : State
    left = collect_state (length out) s

    after_collect : step (collect out) (course s e n) ≡ record { state = left; history = empty; tally = 0 }
    unfolding step state_of after barred_by accepted tallied
    after_collect = rw ok

    emptied : left.job ≡ empty_job
    unfolding collect_state
    emptied = rw (collect_held r out ∙ ok)

    -- both areas are as long as they were
    room : lengths_of left ≡ lengths_of s
    unfolding state_of
    room = (kept (collect out) s).lengths

    abbrev between : Course
    between = record { state = left; history = empty; tally = 0 }

    module _ {x : Source} (a : Again e x) where
      abbrev again : Call
      again = load e.table x

      abbrev anew : Entry
      anew = entered e.table x

      -- so the load is accepted
      fitting : refused_by again (lengths_of s) empty ≡ Ok tt
      unfolding refused_by lengths_of
      fitting = rw (r.accepted, a.accepted, a.width, a.height, le-ltb _ _ r.first_long, le-ltb _ _ r.second_long)

      admitted : refused_by again (lengths_of left) empty ≡ Ok tt
      admitted = ap (λ (k : Lengths). refused_by again k empty) room ∙ fitting

      -- the history then holds an entry whose first image is the last one, which is stable
      begun : Keeps anew (step again between)
      unfolding step after barred_by accepted
      begun = record { entry = anew; held_by = rw admitted; like = same anew }

      like_last : (d : Entry) → Same anew d → (first_of d ≡ e.last) × Stable d.table d.width d.height (first_of d)
      unfolding entered
      like_last d y =
          let first : first_of d ≡ e.last = y.first ∙ a.pixels in
          (first, rw (first, y.table, y.width ∙ a.width, y.height ∙ a.height) (r.stable settled))

      stays : (cs : List Call) → uncollected cs (step again between) ≡ true → Rests e.last (play cs (step again between)).state
      stays cs u =
          let related : Related between = emptied in
          let loaded = keeps again left empty 0 related in
          let k = keeps_play cs (step again between) anew loaded begun u in
          let last = play_related cs (step again between) loaded in
          let (first, stable) = like_last k.entry k.like in
          subst (λ (img : List ℕ). Rests img (play cs (step again between)).state) first
          (rests (held (play cs (step again between)) last k.entry k.held_by) stable)

      reloads_held : Reloads (step (collect out) (course s e n)) e x
      reloads_held =
          subst (λ (w : Course). Reloads w e x) (sym after_collect)
          (record { accepted = refused again left empty 0 emptied ∙ admitted; rests = stays })

-- after an accepted collect
module _ (w : Course) (r : Related w) (e : Entry) (q : w.history ≡ holds e) (out : List ℕ) {m : ℕ} {after : List ℕ}
    (a : answer_of (collect out) w.state ≡ collected (Ok m) after) where
  here : Held w.state e w.tally
  here = held w r e q

  -- what was written
  wrote : (refused_by (collect out) (lengths_of w.state) (holds e) ≡ Ok tt) × (take m after ≡ files_of e)
  unfolding answered_by
  wrote = by_answer (refused_by (collect out) (lengths_of w.state) (holds e)) (files_of e) out (sym (answered (collect out) w.state (holds e) w.tally here) ∙ a)

  from_again : {x : Source} → Again e x → Reloads (step (collect out) w) e x
  from_again {x} y =
      let same_course : course w.state e w.tally ≡ w = ap (λ (H : History). record { state = w.state; history = H; tally = w.tally }) (sym q) in
      subst (λ (v : Course). Reloads (step (collect out) v) e x) same_course (reloads_held here out wrote.0 y)

  pub reloads : length e.parts ≡ 1 → Reloads (step (collect out) w) e (from_file (take m after))
  reloads one = rw wrote.1 (from_again (again_file here one))

  pub relaid : Reloads (step (collect out) w) e (from_strip (strip_of e.width e.parts) e.last)
  relaid = from_again (again_strip here)
