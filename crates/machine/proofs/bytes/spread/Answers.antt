use Rattle.std.proofs.Common.{arith}
use Rattle.machine.proofs.Places.{spread_more}
use Rattle.machine.proofs.bytes.spread.Goals as goal

pub loop-i-preserved : goal.loop-i-preserved
loop-i-preserved c =
    spread_more c.args.marks.now c.loop-i.marks c.args.reached.now c.args.q c.loop-i.i c.carry.result c.args.next (omega arith) c.requires c.loop-i-test.true c.carry.ensures c.loop-i.invariant
