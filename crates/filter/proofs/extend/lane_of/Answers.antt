-- `extend::lane_of` meets its contract.
-- Assumes nothing.
use Rattle.filter.proofs.ExtendLanes.{lane_code}
use Rattle.filter.proofs.extend.lane_of.Goals as goal

pub returns : goal.returns
returns c = λ l v u. lane_code _ _ l v c.requires u
