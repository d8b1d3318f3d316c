use Rattle.std.proofs.Common.{ℕ, Bool, T, ◌⊎◌, ◌↔◌, length, Decides}
use Rattle.sheet.specs.declared.diagram.Variables.{Variables}
use Rattle.sheet.specs.Empties.{has}
use Rattle.machine.specs.Pairs.{may}
use Rattle.machine.specs.Charts.{kinds_of, follows_of}
use Rattle.machine.specs.Going.{EndsBelow, MovesBelow}
use Rattle.machine.proofs.chart.Chart.advance.Given as goal

abbrev pub invariant-loop-p : goal.invariant-loop-p
invariant-loop-p l =
    Decides l.ended (EndsBelow (kinds_of l.self) (follows_of l.self) (may l.old) l.d (length l.yielded))
    × ((q : ℕ) (u : Variables) (k : Bool) → T (has (may l.marks q u) k) ↔ (T (has (may l.initial.marks q u) k) ⊎ MovesBelow (kinds_of l.self) (follows_of l.self) (may l.old) l.d (length l.yielded) q u k))
