use Rattle.std.proofs.Common.{rules}
use Rattle.sheet.specs.Forbid.{fragment}
use Rattle.sheet.proofs.Falling.{empty_is}
use Rattle.sheet.proofs.headed.Headed.+emptiness.Goals as goal

pub returns-in-Seq : goal.returns-in-Seq
returns-in-Seq t c = let e = empty_is (fragment c.args.self.now.diagram.now) _ _ c.in-Seq.is (c.requires.earlier _ c.requires.here) in search rules

pub returns-in-Alt : goal.returns-in-Alt
returns-in-Alt t c = let e = empty_is (fragment c.args.self.now.diagram.now) _ _ c.in-Alt.is (c.requires.earlier _ c.requires.here) in search rules

pub returns-in-Loop : goal.returns-in-Loop
returns-in-Loop t c = let e = empty_is (fragment c.args.self.now.diagram.now) _ _ c.in-Loop.is (c.requires.earlier _ c.requires.here) in search rules

pub returns-in-Neg : goal.returns-in-Neg
returns-in-Neg t c = let e = empty_is (fragment c.args.self.now.diagram.now) _ _ c.in-Neg.is (c.requires.earlier _ c.requires.here) in search rules
