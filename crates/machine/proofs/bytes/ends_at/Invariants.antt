use Rattle.machine.proofs.Places.{NoEndTo}
use Rattle.machine.proofs.bytes.ends_at.Given as goal

abbrev pub invariant-loop-b : goal.invariant-loop-b
invariant-loop-b l = NoEndTo l.reached l.next l.b-index
