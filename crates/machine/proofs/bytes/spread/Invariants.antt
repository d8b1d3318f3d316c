use Rattle.machine.proofs.Places.{SpreadTo}
use Rattle.machine.proofs.bytes.spread.Given as goal

abbrev pub invariant-loop-i : goal.invariant-loop-i
invariant-loop-i l = SpreadTo l.initial.marks l.reached l.q l.next l.i l.marks
