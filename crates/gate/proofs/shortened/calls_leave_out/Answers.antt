use Rattle.gate.specs.Chains.{guarding, known}
use Rattle.gate.proofs.Links.{mix_chain}
use Rattle.gate.proofs.Following.{chain_keeps}
use Rattle.gate.proofs.Leaving.{rest_never_stops}
use Rattle.gate.proofs.shortened.calls_leave_out.Goals as goal

pub returns : goal.returns
returns g c = λ before after qs ws all.
    let kept = chain_keeps (guarding g.W.Watch g.H.Host g.W.Act.Action) before (mix_chain all) in
    rest_never_stops (known (guarding g.W.Watch g.H.Host g.W.Act.Action) before.watch before.host) (g.met.W.Watch.leaving before.watch) kept.ledger
