-- All that a load takes from its source is a verdict, a size, parts and pixels.
--     SameSource                    two sources that have these in common
--     same_answer, same_course      a load from either gives the same answer, and the same record, areas, history and tally
-- Assumes nothing.
use Rattle.std.specs.Prelude.{Ok, Err}
use mathlib.Core.Path.{◌≡◌, refl}
use Rattle.history.specs.Call.{load, answer_of, state_of}
use Rattle.history.specs.History.{History, empty, holds, Lengths, entered, refused_by, barred_by, accepted, after_as, after}
use Rattle.history.specs.Lists.{Course, lengths_of, tallied, tally_as, step}
use Rattle.history.specs.Load.{load_verdict, loaded_job, load_as, load_state}
use Rattle.history.specs.Source.{Source, source_verdict, source_width, source_height, source_parts, source_pixels}
use Rattle.history.specs.State.{State}
use Rattle.table.specs.declared.Table.{Table}
use Rattle.verdict.specs.Rules.{Verdict}

pub record SameSource (x y : Source) : Type 0 where
  pub verdict : source_verdict x ≡ source_verdict y
  pub width : source_width x ≡ source_width y
  pub height : source_height x ≡ source_height y
  pub parts : source_parts x ≡ source_parts y
  pub pixels : source_pixels x ≡ source_pixels y

module _ {x y : Source} (same : SameSource x y) (t : Table) where
  same_verdict : (s : State) → load_verdict t x s ≡ load_verdict t y s
  unfolding load_verdict
  same_verdict s = rw (same.verdict, same.width, same.height)

  pub same_answer : (s : State) → answer_of (load t x) s ≡ answer_of (load t y) s
  unfolding answer_of
  same_answer s = rw (same_verdict s)

  same_state : (s : State) → state_of (load t x) s ≡ state_of (load t y) s
  unfolding state_of load_state loaded_job
  same_state s = rw (same_verdict s) (by (load_verdict t y s))
    where
      by : (v : Verdict) → load_as v t x s ≡ load_as v t y s
      by (Ok _) = rw (same.width, same.height, same.parts, same.pixels)
      by (Err r) = refl

  same_refusal : (n : Lengths) (H : History) → refused_by (load t x) n H ≡ refused_by (load t y) n H
  unfolding refused_by
  same_refusal n empty = rw (same.verdict, same.width, same.height)
  same_refusal n (holds e) = refl

  same_history : (n : Lengths) (H : History) → after (load t x) n H ≡ after (load t y) n H
  unfolding after barred_by accepted entered
  same_history n H = rw (same_refusal n H) (by (refused_by (load t y) n H))
    where
      by : (v : Verdict) → after_as v (load t x) H ≡ after_as v (load t y) H
      by (Ok _) = rw (same.width, same.height, same.parts, same.pixels)
      by (Err r) = refl

  pub same_course : (w : Course) → step (load t x) w ≡ step (load t y) w
  unfolding step barred_by tallied
  same_course w =
      let n = lengths_of w.state in
      rw (same_state w.state, same_history n w.history, same_refusal n w.history, by (refused_by (load t y) n w.history))
    where
      by : (v : Verdict) → tally_as v (load t x) w.history w.tally ≡ tally_as v (load t y) w.history w.tally
      by (Ok _) = refl
      by (Err r) = refl
