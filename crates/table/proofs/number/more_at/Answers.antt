-- `number::more_at` meets its contract: the bytes with bit 7 set are counted.
-- Assumes nothing.
use mathlib.Core.Path.{sym, ◌∙◌}
use Prim.Native.Nat.{◌-◌}
use native.Mathlib.Omega.{arith}
use borrow.Author.Tests.{tests}
use lib.Dec.{leb}
use lib.ListN.{length, drop, length-drop}
use lib.Seq.{take_all}
use Rattle.std.proofs.Common.{rules}
use Rattle.std.proofs.lemmas.Iterator.{YieldsList-from_slice, YieldsList-from_take}
use Rattle.std.proofs.lemmas.Iterator.Consumers.{count_from_yields_List}
use Rattle.std.proofs.lemmas.Iterator.Search.{YieldsList-from_take_while}
use Rattle.table.proofs.Groups.{more_while}
use Rattle.table.proofs.number.more_at.Goals as goal

pub returns : goal.returns
returns c =
    let w = c.take_while.ensures in
    let whole = take_all (length c.args.bytes.now - c.args.at) (drop c.args.at c.args.bytes.now) (simp length-drop (omega arith)) in
    count_from_yields_List c.take_while.result c.count.result c.count.ensures.ran
    (YieldsList-from_take_while _ (λ b. leb 128 b)
    (YieldsList-from_take 4 (YieldsList-from_slice (drop c.args.at c.args.bytes.now) (rw (w.source, c.take.ensures.source) (c.iter.ensures.rest ∙ whole))) (rw w.source c.take.ensures.count))
    w.closure w.done (λ x b q k. search (rules, tests)))
    ∙ sym (more_while _)
