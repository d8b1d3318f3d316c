use Rattle.std.proofs.Common.{Bool, T, ◌↔◌}
use Rattle.sheet.specs.declared.diagram.Variables.{Variables}
use Rattle.sheet.specs.Empties.{has}
use Rattle.machine.specs.Pairs.{seen, may}
use Rattle.machine.proofs.Places.{ReachedTo}
use Rattle.machine.proofs.fire.Firing.reached.Given as goal

abbrev pub invariant-loop-i : goal.invariant-loop-i
invariant-loop-i l = (u : Variables) (m : Bool) → T (has (seen l.reached u) m) ↔ ReachedTo (may l.marks l.p) l.self.step l.self.deed l.i u m
