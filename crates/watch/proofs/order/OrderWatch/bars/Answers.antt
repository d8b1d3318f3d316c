use Rattle.watch.proofs.Ordered.{one_barred}
use Rattle.watch.proofs.order.OrderWatch.bars.Goals as goal

pub returns : goal.returns
returns g c = rw (c.bars_kind.ensures, c.kind.ensures) (one_barred g.T.Action.kind c.args.self.now.after c.args.self.now.barred c.args.a.now)
