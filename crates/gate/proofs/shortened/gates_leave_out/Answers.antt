use Rattle.gate.specs.Chains.{guarding}
use Rattle.gate.proofs.Links.{mix_chain}
use Rattle.gate.proofs.Leaving.{gates_never_stop}
use Rattle.gate.proofs.shortened.gates_leave_out.Goals as goal

pub returns : goal.returns
returns g c = λ before after qs ws p q rest vs all is fresh sub again.
    gates_never_stop (guarding g.W.Watch g.H.Host g.W.Act.Action) (guarding g.V.Watch g.K.Host g.W.Act.Action) before (g.met.W.Watch.leaving before.watch) (mix_chain all) p is fresh rest sub (mix_chain again)
