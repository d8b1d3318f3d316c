use Rattle.fault.proofs.Lowest.{lowest_means}
use Rattle.fault.proofs.laws.lowest_is_lowest.Goals as goal

pub returns : goal.returns
returns c = lowest_means
