use Rattle.watch.proofs.Ordered.{noted}
use Rattle.watch.proofs.order.OrderWatch.note.Goals as goal

pub returns : goal.returns
returns g c = rw (c.note_kind.ensures.after, c.note_kind.ensures.barred, c.kind.ensures) (noted g.T.Action.kind c.args.a.now c.args.self.now.after c.args.self.now.barred)
