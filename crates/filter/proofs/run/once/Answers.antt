-- `run::once` meets its contract.
-- Assumes nothing.
use Rattle.filter.proofs.RunEnds.{over_stops, overruns_not, ends_stable, ends_full, runs_on}
use Rattle.filter.proofs.RunLaws.{fresh_same, fresh_joined}
use Rattle.filter.proofs.run.once.Goals as goal

pub returns-then-count-eq0 : goal.returns-then-count-eq0
returns-then-count-eq0 c = (
  tt,
  λ t c₀ x y k go ok run.
      let made = c.advance-made.ensures.2 t _ run.scene run.still in
      ends_stable _ _ ok run made go c.requires.1.first_long c.requires.1.second_long c.put.ensures (fresh_same _ _ _ _ _ ok run made c.if-count-eq0.true) c.if-count-eq0.true,
)

pub returns-then-is_over : goal.returns-then-is_over
returns-then-is_over c = (
  tt,
  λ t c₀ x y k go ok run.
      let made = c.advance-made.ensures.2 t _ run.scene run.still in
      ends_full _ _ ok run made go c.if-count-eq0.false (over_stops _ _ ok run made go k c.if-is_over.ensures),
)

pub returns : goal.returns
returns c = (
  overruns_not c.args.budget _ _ _ c.if-is_over.ensures,
  λ t c₀ x y k go ok run.
      let made = c.advance-made.ensures.2 t _ run.scene run.still in
      runs_on _ _ ok run made go c.requires.1.first_long c.requires.1.second_long c.settle.ensures.putting (fresh_joined _ _ _ _ _ ok run made c.settle.ensures.joined) c.if-count-eq0.false
      (over_stops _ _ ok run made go k c.if-is_over.ensures) c.settle.ensures.stale c.settle.ensures.dirty,
)
