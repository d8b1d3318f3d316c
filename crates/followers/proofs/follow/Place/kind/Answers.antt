use Rattle.std.proofs.Common.{arith}
use Rattle.sheet.proofs.Sound.{sound}
use Rattle.followers.proofs.follow.Place.kind.Goals as goal

pub offset_bounds-self-self : goal.offset_bounds-self-self
offset_bounds-self-self c = omega (arith, c.args.self.here, (sound c.args.self.sheet.now.diagram c.args.self.sheet.now.ok).most)

pub bounds-self-self : goal.bounds-self-self
bounds-self-self c = omega (arith, c.args.self.here, (sound c.args.self.sheet.now.diagram c.args.self.sheet.now.ok).most)

pub returns-clause-earlier : goal.returns-clause-earlier
returns-clause-earlier c = (sound c.args.self.sheet.now.diagram c.args.self.sheet.now.ok).tree.earlier c.args.self.index c.args.self.here
