use Rattle.followers.proofs.Words.{union_held}
use Rattle.followers.proofs.sets.Targets.union.Goals as goal

pub returns : goal.returns
returns c = union_held c.args.self c.args.other
