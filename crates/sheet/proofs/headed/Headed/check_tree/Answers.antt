use Rattle.std.proofs.Common.{Some, None, rules}
use Rattle.sheet.proofs.Drawn.{tree}
use Rattle.sheet.proofs.headed.Headed.check_tree.Goals as goal

pub returns-in-Some : goal.returns-in-Some
returns-in-Some c = tree c.args.self.now.diagram.now _ c.fragments.ensures.is c.fragments.ensures.count (Some _) (search rules)

pub returns-in-None : goal.returns-in-None
returns-in-None c = tree c.args.self.now.diagram.now _ c.fragments.ensures.is c.fragments.ensures.count None (search rules)
