-- 01, "Trial sheets and tables": the cases marked (P), and those of 02.
--     trial_cases    the definitions give what each of the cases expects
--     trial_count    there are fifteen of 01, three of T-02, eight of T-01 and three of T-07
-- Assumes nothing.
use Rattle.std.specs.Prelude.{true, length}
use mathlib.Core.Path.{◌≡◌}
use Rattle.seq.specs.Lists.{all}
use Rattle.trials.specs.Case.{meets}
use Rattle.trials.specs.Cases.{cases, cases_met}

pub trial_cases : all meets cases ≡ true
trial_cases = cases_met

pub trial_count : length cases ≡ 29
trial_count = mathlib.Core.Path.refl
