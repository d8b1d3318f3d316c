use Rattle.watch.specs.Orders.{Paired}
use Rattle.watch.proofs.Ordered.{order_new}
use Rattle.watch.proofs.order.Order.new.Goals as goal

pub returns : goal.returns
returns g c =
    let t = c.in_ok-tabled.ensures in
    (t.0, order_new g.T.Action.kind c.in_ok-tabled.field-0 (Paired c.args.pairs.now) t.1)
