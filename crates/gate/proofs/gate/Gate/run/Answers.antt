use Rattle.gate.specs.Chains.{guarding, known}
use Rattle.gate.proofs.Leaving.{rest_never_stops}
use Rattle.gate.proofs.gate.Gate.run.Goals as goal

pub returns : goal.returns
returns g c =
    let e = c.serve.ensures in
    record {
      many = e.many;
      later = e.later;
      chain = e.chain;
      ledger = e.ledger;
      decided = e.decided;
      carried = e.carried;
      shortened = rest_never_stops (known (guarding g.W.Watch g.H.Host g.W.Act.Action) c.args.self.now.watch c.args.self.now.host) (g.met.W.Watch.leaving c.args.self.now.watch) e.ledger;
    }
