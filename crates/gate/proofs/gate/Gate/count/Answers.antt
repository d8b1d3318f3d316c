use Rattle.std.proofs.Common.{ap, ◌∙◌}
use Rattle.gate.specs.Words.{told}
use Rattle.gate.specs.Chains.{count}
use Rattle.gate.proofs.Links.{told_count}
use Rattle.gate.proofs.gate.Gate.count.Goals as goal

pub returns : goal.returns
returns g c = count (ap told c.count.ensures ∙ told_count c.args.kind (g.H.Host.counts c.args.self.now.host c.args.kind))
