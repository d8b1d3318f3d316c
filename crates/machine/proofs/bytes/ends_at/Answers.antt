use Rattle.std.proofs.Common.{refl}
use Rattle.machine.proofs.Places.{end_at, no_end_more}
use Rattle.machine.proofs.bytes.ends_at.Goals as goal

pub returns-then-carry-eq1 : goal.returns-then-carry-eq1
returns-then-carry-eq1 c = (λ _. end_at c.args.reached.now c.loop-b.b-index c.carry.result c.args.next c.loop-b-test.true c.carry.ensures c.if-carry-eq1.true, λ _. refl)

pub loop-b-preserved : goal.loop-b-preserved
loop-b-preserved c = no_end_more c.args.reached.now c.loop-b.b-index c.carry.result c.args.next c.carry.ensures c.if-carry-eq1.false c.loop-b.invariant
