use Rattle.gate.specs.Chains.{guarding}
use Rattle.gate.proofs.Links.{mix_chain}
use Rattle.gate.proofs.Following.{chain_keeps}
use Rattle.gate.proofs.laws.calls_keep.Goals as goal

pub returns : goal.returns
returns g c = λ before after qs ws all. chain_keeps (guarding g.W.Watch g.H.Host g.W.Act.Action) before (mix_chain all)
