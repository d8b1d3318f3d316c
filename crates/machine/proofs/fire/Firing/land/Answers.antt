use Rattle.std.proofs.Common.{arith}
use Rattle.machine.proofs.Places.{lands, lands_not}
use Rattle.machine.proofs.fire.Firing.land.Goals as goal

pub returns-then-b-eq0 : goal.returns-then-b-eq0
returns-then-b-eq0 c = lands_not c.args.reached.now c.args.self.step c.args.v c.args.self.deed c.args.b c.if-b-eq0.true

pub returns-in-Some : goal.returns-in-Some
returns-in-Some c = rw c.place.ensures
    (lands c.args.reached.now c.args.b c.args.self.step c.args.v c.in-Some.u c.args.self.deed (omega arith) c.requires.0 c.requires.1 c.in-Some.ensures.0 c.in-Some.ensures.1)
