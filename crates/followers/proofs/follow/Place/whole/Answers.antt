use Rattle.std.proofs.Common.{arith}
use Rattle.sheet.proofs.Sound.{sound}
use Rattle.followers.proofs.follow.Place.whole.Goals as goal

pub overflow_sub-result : goal.overflow_sub-result
overflow_sub-result c = omega (arith, (sound c.args.sheet.now.diagram c.args.sheet.now.ok).some)

pub invariant_of-result : goal.invariant_of-result
invariant_of-result c = omega (arith, (sound c.args.sheet.now.diagram c.args.sheet.now.ok).some)
