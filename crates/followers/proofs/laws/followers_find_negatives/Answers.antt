use Rattle.followers.proofs.Negatives.{finds_negatives}
use Rattle.followers.proofs.laws.followers_find_negatives.Goals as goal

pub returns : goal.returns
returns c = finds_negatives
