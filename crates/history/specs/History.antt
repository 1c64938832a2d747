-- The reference model beside a list of calls (01: the book). It sees the calls' arguments and the areas' lengths, never the record
-- or the areas' bytes.
--     Entry            a table, a row of images, the heights of their parts and perhaps a mark (settled)
--     History          empty, or an entry
--     Lengths          the lengths of the two areas
--     entered t f      a load enters its table and its image, no mark
--     next_of e         the last image through one pass; joined e: it joins the row; marked e: the mark is set
--     passed e         pass: with the mark, nothing; else a result that differs joins the row, one that does not sets the mark
--     ran e            run: passes until the mark stands; passed_for n e: at most n
--     passes_of_run n e  the passes that a run of at most n makes: one answers "at rest", and those before it change the image
--     needed n e       those that a channel's call of at most n passes needs from its quota: none at rest
--     spends n q i e   those that it spends: what it needs, or what it has
--     made n q i e     those that it makes: the one at rest costs nothing
--     files_of e        the files of the last image's parts, one after another
--     refused_by c n H      what is refused follows from 01's lists, the history standing for the record, without 14
--     barred_by c n H       what is refused with nothing done: all but 24 on the way of a channel's run
--     after c n H          the history after a call: a refused one leaves it alone, but for such a run; after_as v c H: by the verdict
--     accepted c H         the history after an accepted call
-- Assumes nothing.
use Rattle.std.specs.Prelude.{Bool, true, false, cond, not, List, [], ◌∷◌, ℕ, zero, suc, ◌+◌, ◌*◌, min, ltb, length, Ok, Err}
use Rattle.operator.specs.Image.{differs}
use Rattle.operator.specs.Pass as operator
use Rattle.history.specs.declared.Quota.{Quota}
use Rattle.history.specs.Call.{Call, load, pass, run, view, figures, collect, channel_pass, channel_run}
use Rattle.history.specs.Channel.{spent_rule}
use Rattle.history.specs.Load.{areas_rule}
use Rattle.history.specs.Quota.{channel_rule, available}
use Rattle.history.specs.Source.{Source, source_verdict, source_width, source_height, source_parts, source_pixels}
use Rattle.image.specs.Strip.{strip_bytes}
use Rattle.table.specs.declared.Table.{Table}
use Rattle.table.specs.Record.{record_verdict}
use Rattle.verdict.specs.Rules.{refusal, refuse_if, judge, Verdict}
use Rattle.verdict.specs.declared.Rule.TheVariants as why

pub record Entry : Type 0 where
  pub table : Table
  pub width : ℕ
  pub height : ℕ
  -- the heights of the parts: a single image has one (02, T-08)
  pub parts : List ℕ
  -- the row of images, from the last to the first
  pub last : List ℕ
  pub earlier : List (List ℕ)
  pub settled : Bool

pub data History : Type 0 where
  empty : History
  holds : Entry → History

pub record Lengths : Type 0 where
  pub first : ℕ
  pub second : ℕ

-- a load enters its table and its image, no mark
unfoldable pub entered : Table → Source → Entry
entered t x =
    record {
      table = t;
      width = source_width x;
      height = source_height x;
      parts = source_parts x;
      last = source_pixels x;
      earlier = [];
      settled = false;
    }

unfoldable pub next_of : Entry → List ℕ
next_of e = operator.pass e.table e.width e.height e.last

unfoldable pub joined : Entry → Entry
joined e =
    record {
      table = e.table;
      width = e.width;
      height = e.height;
      parts = e.parts;
      last = next_of e;
      earlier = e.last ∷ e.earlier;
      settled = false;
    }

unfoldable pub marked : Entry → Entry
marked e =
    record {
      table = e.table;
      width = e.width;
      height = e.height;
      parts = e.parts;
      last = e.last;
      earlier = e.earlier;
      settled = true;
    }

unfoldable pub passed : Entry → Entry
passed e = cond e.settled e (cond (differs e.last (next_of e)) (joined e) (marked e))

abbrev pub passed_for : ℕ → Entry → Entry
passed_for zero e = e
passed_for (suc n) e = passed_for n (passed e)

unfoldable pub ran : Entry → Entry
ran e = passed_for (e.width * e.height + 1) e

abbrev pub passes_of_run : ℕ → Entry → ℕ
passes_of_run zero e = 0
passes_of_run (suc n) e = cond e.settled 1 (cond (differs e.last (next_of e)) (suc (passes_of_run n (joined e))) 1)

-- what a quota has to pay for
abbrev pub needed : ℕ → Entry → ℕ
needed n e = cond e.settled 0 (passes_of_run n e)

abbrev pub spends : ℕ → Quota → ℕ → Entry → ℕ
spends n q i e = min (available q i) (needed n e)

abbrev pub made : ℕ → Quota → ℕ → Entry → ℕ
made n q i e = cond e.settled 1 (spends n q i e)

unfoldable pub files_of : Entry → List ℕ
files_of e = strip_bytes e.width e.parts e.last

unfoldable pub refused_by : Call → Lengths → History → Verdict
refused_by (load t x) n empty = judge (record_verdict t ∷ source_verdict x ∷ areas_rule x n.first n.second ∷ [])
refused_by (load t x) n (holds e) = Err (refusal why.NotCollected 0)
refused_by pass n empty = Err (refusal why.NothingLoaded 0)
refused_by pass n (holds e) = Ok tt
refused_by run n empty = Err (refusal why.NothingLoaded 0)
refused_by run n (holds e) = Ok tt
refused_by view n empty = Err (refusal why.NothingLoaded 0)
refused_by view n (holds e) = Ok tt
refused_by figures n empty = Err (refusal why.NothingLoaded 0)
refused_by figures n (holds e) = Ok tt
refused_by (collect out) n empty = Err (refusal why.NothingLoaded 0)
refused_by (collect out) n (holds e) =
    judge (refuse_if (not e.settled) why.NotStable 0 ∷ refuse_if (ltb (length out) (length (files_of e))) why.AreaShort 0 ∷ [])
refused_by (channel_pass q i) n empty = judge (channel_rule q i ∷ Err (refusal why.NothingLoaded 0) ∷ [])
refused_by (channel_pass q i) n (holds e) = judge (channel_rule q i ∷ spent_rule q i (needed 1 e) ∷ [])
refused_by (channel_run q i) n empty = judge (channel_rule q i ∷ Err (refusal why.NothingLoaded 0) ∷ [])
refused_by (channel_run q i) n (holds e) = judge (channel_rule q i ∷ spent_rule q i (needed (e.width * e.height + 1) e) ∷ [])

-- a channel's run that 24 stops on its way has made passes
unfoldable pub barred_by : Call → Lengths → History → Verdict
barred_by (load t x) n H = refused_by (load t x) n H
barred_by pass n H = refused_by pass n H
barred_by run n H = refused_by run n H
barred_by view n H = refused_by view n H
barred_by figures n H = refused_by figures n H
barred_by (collect out) n H = refused_by (collect out) n H
barred_by (channel_pass q i) n H = refused_by (channel_pass q i) n H
barred_by (channel_run q i) n empty = refused_by (channel_run q i) n empty
barred_by (channel_run q i) n (holds e) = channel_rule q i

unfoldable pub accepted : Call → History → History
accepted (load t x) H = holds (entered t x)
accepted pass empty = empty
accepted pass (holds e) = holds (passed e)
accepted run empty = empty
accepted run (holds e) = holds (ran e)
accepted view H = H
accepted figures H = H
accepted (collect out) H = empty
accepted (channel_pass q i) empty = empty
accepted (channel_pass q i) (holds e) = holds (passed e)
accepted (channel_run q i) empty = empty
accepted (channel_run q i) (holds e) = holds (passed_for (made (e.width * e.height + 1) q i e) e)

abbrev pub after_as : Verdict → Call → History → History
after_as (Ok _) c H = accepted c H
after_as (Err r) c H = H

unfoldable pub after : Call → Lengths → History → History
after c n H = after_as (barred_by c n H) c H
