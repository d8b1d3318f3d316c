use Rattle.sheet.proofs.Empty.{empty_means}
use Rattle.sheet.proofs.laws.emptiness_means.Goals as goal

pub returns : goal.returns
returns c = empty_means
