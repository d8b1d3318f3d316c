use Rattle.std.proofs.Common.{arith}
use Rattle.std.proofs.lemmas.Bool.Decides.{nat_tests}
use Rattle.sheet.proofs.Drawn.{steps}
use Rattle.sheet.proofs.headed.Headed.check_steps.Goals as goal

pub returns-then-count_steps-self : goal.returns-then-count_steps-self
returns-then-count_steps-self c =
    let s = steps c.args.self.now.diagram.now _ c.fragments.ensures.is c.fragments.ensures.count in grind (arith, nat_tests)

pub returns-else-count_steps-self : goal.returns-else-count_steps-self
returns-else-count_steps-self c =
    let s = steps c.args.self.now.diagram.now _ c.fragments.ensures.is c.fragments.ensures.count in grind (arith, nat_tests)
