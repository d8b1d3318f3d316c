use Rattle.std.proofs.Common.{◌≤◌, length, ◌∙◌, rules}
use Rattle.gate.proofs.Ledgers.{runs_alike, runs_decide}
use Rattle.lending.proofs.Lending.{spool_same, spool_holds}
use Rattle.lending.proofs.lent.serve_on_list.Goals as goal

pub returns : goal.returns
returns g c =
    let new = c.new-spool.ensures in
    let s = c.serve_at.ensures in
    let ledger = runs_alike (g.W.Watch.forbids c.args.watch) (λ l. length l ≤ length c.args.list.now) (λ _. 0) (λ l. (λ f. f, λ f. f)) (λ l. (new.begins.only l, new.begins.every l)) new.begins.zero s.ledger in
    let same = spool_same g.W.Act.Action.kind c.new-spool.result c.serve_at.new.host c.args.list.now _ s.carried ∙ new.same in
    let holds = spool_holds g.W.Act.Action.kind c.new-spool.result c.serve_at.new.host c.args.list.now _ s.carried new.begins.record_is new.later in
    record {
      many = s.many;
      later = s.later;
      ledger = ledger;
      decided = runs_decide ledger;
      held = search (rules, same, holds);
    }
