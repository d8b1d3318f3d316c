use Rattle.sheet.proofs.Empty.{empty_rule_means}
use Rattle.sheet.proofs.laws.empty_rule_means.Goals as goal

pub returns : goal.returns
returns c = empty_rule_means
