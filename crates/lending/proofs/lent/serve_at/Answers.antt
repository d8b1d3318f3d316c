use Rattle.std.proofs.Common.{rules}
use Rattle.host.specs.Meaning.{hosting}
use Rattle.gate.specs.Chains.{Guarding}
use Rattle.gate.proofs.Fresh.{fresh_ledger, fresh_decided, fresh_carried}
use Rattle.lending.proofs.Lending.{lent, lent_same, lent_carried}
use Rattle.lending.proofs.lent.serve_at.Goals as goal

pub returns : goal.returns
returns g c =
    let m = hosting g.H.Host g.W.Act.Action in
    let n : Guarding _ _ _ = record { forbids = λ w. g.W.Watch.forbids w.now; host = lent m } in
    let s = c.serve.ensures in
    let carried = fresh_carried n _ _ c.open-gate.result c.serve.new.self c.open-gate.ensures s.carried in
    let same = lent_same m carried in
    record {
      many = s.many;
      later = s.later;
      ledger = fresh_ledger n _ _ c.open-gate.result c.serve.new.self c.open-gate.ensures s.ledger;
      decided = fresh_decided n _ _ c.open-gate.result c.serve.new.self c.open-gate.ensures s.decided;
      carried = lent_carried m (search (rules, same)) carried;
    }
