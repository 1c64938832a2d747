-- Demand 3 holds.
--     after_list, inside     what holds after a list, and after each pass inside a run
--     held_after             and of the entry that the history holds
--     demand_3               the claim about every list of calls
-- Assumes nothing.
use mathlib.Core.List.{List, ◌++◌}
use mathlib.Core.Path.{◌≡◌, sym, subst}
use Prim.Native.Nat.{ℕ}
use lib.ListN.{replicate}
use Rattle.history.specs.Call.{Call, pass}
use Rattle.history.specs.Demand3.{AfterList, Demand3, played, lent}
use Rattle.history.specs.History.{Entry, holds}
use Rattle.history.specs.Lists.{start, play}
use Rattle.history.proofs.After.{held, after_related}
use Rattle.history.proofs.Lists.{played_related, played_lengths, play_append}
use Rattle.history.proofs.Related.{Held}
use Rattle.history.proofs.Reload.{reloads, relaid}
use Rattle.history.proofs.Twins.{exchanged, ordered, located, alone, rests}

after_list : (cs : List Call) (a b : List ℕ) → AfterList (lent a b) (played cs a b)
after_list cs a b = after_related (lent a b) (played cs a b) (played_related cs a b) (played_lengths cs a b)

held_after : (cs : List Call) (a b : List ℕ) (e : Entry) → (played cs a b).history ≡ holds e → Held (played cs a b).state e (played cs a b).tally
held_after cs a b = held (played cs a b) (played_related cs a b)

-- the passes of a run after a list are a longer list
inside : (cs : List Call) (a b : List ℕ) (k : ℕ) → AfterList (lent a b) (play (replicate k pass) (played cs a b))
inside cs a b k =
    subst (AfterList (lent a b)) (sym (play_append cs (replicate k pass) (start a b))) (after_list (cs ++ replicate k pass) a b)

pub demand_3 : Demand3
demand_3 = record {
  after_list = after_list;
  inside = inside;
  exchanged = λ cs cs' a b a' b' e e' two. exchanged two (held_after cs a b e two.here) (held_after cs' a' b' e' two.there);
  ordered = λ cs cs' a b a' b' e e' two. ordered two (held_after cs a b e two.here) (held_after cs' a' b' e' two.there);
  located = λ cs cs' a b a' b' e e' two. located two (held_after cs a b e two.here) (held_after cs' a' b' e' two.there);
  rests = λ cs a b e q. rests (held_after cs a b e q);
  reloaded = λ cs a b out e m after q one wrote. reloads (played cs a b) (played_related cs a b) e q out wrote one;
  relaid = λ cs a b out e m after q wrote. relaid (played cs a b) (played_related cs a b) e q out wrote;
  alone = λ cs cs' a b a' b' e e' i two. alone two (held_after cs a b e two.here) (held_after cs' a' b' e' two.there);
}
