use Rattle.std.proofs.Common.{sym, ◌∙◌, arith, rules}
use Rattle.sheet.proofs.Sound.{sound}
use Rattle.sheet.specs.declared.diagram.Fragment.{Fragment}
use Rattle.followers.proofs.Following.{first_kind}
use Rattle.followers.proofs.follow.Place.+first.Goals as goal

pub only_step-requires : goal.only_step-requires
only_step-requires t c = omega (arith, c.args.self.here, (sound c.args.self.sheet.now.diagram c.args.self.sheet.now.ok).most)

pub returns-in-Step : goal.returns-in-Step
returns-in-Step t c =
    c.only_step.ensures
    ∙ sym (first_kind c.args.self.sheet.now.diagram c.args.self.index c.kind.result c.kind.ensures.is c.kind.ensures.earlier (Fragment.Step c.in-Step.field-0) c.in-Step.is)

pub returns-in-Seq : goal.returns-in-Seq
returns-in-Seq t c = search (rules, first_kind)

pub returns-in-Alt : goal.returns-in-Alt
returns-in-Alt t c = search (rules, first_kind)

pub returns-in-Loop : goal.returns-in-Loop
returns-in-Loop t c = search (rules, first_kind)

pub returns-in-Neg : goal.returns-in-Neg
returns-in-Neg t c = search (rules, first_kind)
