use Rattle.followers.proofs.Words.{none_held}
use Rattle.followers.proofs.sets.Targets.none.Goals as goal

pub returns : goal.returns
returns c = none_held
