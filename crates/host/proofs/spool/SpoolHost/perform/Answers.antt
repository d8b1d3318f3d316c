use Rattle.std.proofs.Common.{refl}
use Rattle.host.specs.Hosting.{declines}
use Rattle.host.proofs.Filling.{no_room, one_more}
use Rattle.host.proofs.spool.SpoolHost.perform.Goals as goal

pub returns-then-at-self : goal.returns-then-at-self
returns-then-at-self g c = declines refl (no_room c.args.self.now c.args.a.now c.if-at-self.true) refl

pub returns : goal.returns
returns g c = one_more g.T.Action.kind c.args.self.now _ c.args.a.now c.if-at-self.false c.put.ensures refl refl
