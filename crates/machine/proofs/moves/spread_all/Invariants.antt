use Rattle.followers.specs.Next.{at}
use Rattle.followers.specs.Words.{nexts}
use Rattle.machine.specs.Pairs.{may, seen}
use Rattle.machine.proofs.Steps.{SpreadBelow}
use Rattle.machine.proofs.moves.spread_all.Given as goal

abbrev pub invariant-loop-q : goal.invariant-loop-q
invariant-loop-q l = SpreadBelow (may l.initial.marks) (seen l.reached) (λ j. nexts l.next (at j)) l.q (may l.marks)
