-- The last three conditions of 14, where the others do not hold.
--     pixels_seen                           a test of the present pixels, by the bytes that the code looked at
--     stained, many_passes, counts_left     a present pixel above 1; too many passes; else the counts decide
-- Assumes nothing.
use Rattle.std.specs.Prelude.{Ok}
use mathlib.Core.Bool.{Bool, true, false, ◌||◌}
use mathlib.Core.List.{List}
use mathlib.Core.Path.{◌≡◌, sym, ap, ◌∙◌}
use Prim.Native.Nat.{ℕ, ◌+◌, ◌≤◌, ◌<◌}
use borrow.Author.Tests.{lt-ltb, le-ltb}
use lib.Dec.{ltb}
use lib.ListN.{length}
use Rattle.history.specs.State.{State, pixels, image, bad_parts, inconsistent}
use Rattle.seq.specs.Lists.{any}
use Rattle.table.specs.Record.{record_verdict}

pub pixels_seen : {px qx : List ℕ} {b : Bool} → px ≡ qx → b ≡ any (ltb 1) px → any (ltb 1) qx ≡ b
pixels_seen e p = sym (p ∙ ap (any (ltb 1)) e)

module _ (s : State) (parts : bad_parts s.job ≡ false) (table : record_verdict s.job.table ≡ Ok tt)
    (first : pixels s.job ≤ length s.first) (second : pixels s.job ≤ length s.second) where
  left : inconsistent s
      ≡ (any (ltb 1) (image s) || (ltb (pixels s.job) s.job.passes || ltb (pixels s.job) (s.job.added + s.job.removed)))
  unfolding inconsistent
  left = rw (parts, table, le-ltb _ _ first, le-ltb _ _ second)

  pub stained : any (ltb 1) (image s) ≡ true → true ≡ inconsistent s
  stained e = sym (left ∙ rw e)

  pub many_passes : any (ltb 1) (image s) ≡ false → pixels s.job < s.job.passes → true ≡ inconsistent s
  many_passes e h = sym (left ∙ rw (e, lt-ltb _ _ h))

  pub counts_left : any (ltb 1) (image s) ≡ false → s.job.passes ≤ pixels s.job → ltb (pixels s.job) (s.job.added + s.job.removed) ≡ inconsistent s
  counts_left e h = sym (left ∙ rw (e, le-ltb _ _ h))
