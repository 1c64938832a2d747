-- `record::check_persistents` meets its contract: the first rule that fails speaks.
-- Assumes nothing.
use Rattle.std.specs.Prelude.{Err}
use mathlib.Core.Path.{◌≡◌, sym, ap, ◌∙◌}
use Prim.Native.Nat.{ℕ}
use native.Mathlib.Omega.{arith}
use borrow.Author.Rules.{rules}
use lib.ListN.{length}
use Rattle.table.specs.declared.mask.Kind.TheVariants.{Persistent}
use Rattle.table.specs.Record.{max_ranks}
use Rattle.verdict.specs.declared.Rule.TheVariants as why
use Rattle.table.proofs.Places.{place_lt}
use Rattle.table.proofs.Verdicts.{lowest_persistent, persistent_found, ranks_le, ranks_search, persistent_refused, persistents_accepted}
use Rattle.verdict.specs.Rules.{refusal}
use Rattle.table.proofs.record.check_persistents.Goals.{After-first_bad}
use Rattle.table.proofs.record.check_persistents.Goals as goal

-- the search is for the lowest place that breaks rule 6
lowest : (c : After-first_bad) → lowest_persistent c.args.table ≡ c.first_bad.result
lowest c = let whole : length c.args.table.persistents ≡ max_ranks = search rules in sym (c.first_bad.ensures ∙ ranks_search _ whole)

pub persistent_place-requires : goal.persistent_place-requires
persistent_place-requires c =
    (c.requires.0, persistent_found _ (lowest (goal.at.persistent_place-requires c).After-first_bad ∙ c.in-Some.is))

pub returns-in-Some : goal.returns-in-Some
returns-in-Some c =
    c.refused-in-Some.ensures ∙ ap (λ (p : ℕ). Err (refusal why.PersistentRange p)) c.persistent_place.ensures
    ∙ sym (persistent_refused _ (sym c.if-is_bad_ranks.ensures) _ (lowest (goal.at.returns-in-Some c).After-first_bad ∙ c.in-Some.is))

pub invariant_of-relations : goal.invariant_of-relations
invariant_of-relations c =
    let whole : length c.args.table.persistents ≡ max_ranks = search rules in
    let few = (ranks_le 1 _ (sym c.if-is_bad_ranks.ensures)).1 in
    record {
      few = c.requires.0;
      few_ranks = few;
      element_lt = c.requires.1;
      persistent_lt = place_lt Persistent _ _ (sym c.first_bad.ensures ∙ c.in_default.is) (omega (arith, whole));
    }

pub returns : goal.returns
returns c =
    c.relations.ensures
    ∙ sym (persistents_accepted _ (sym c.if-is_bad_ranks.ensures) (lowest (goal.at.returns c).After-first_bad ∙ c.in_default.is))
