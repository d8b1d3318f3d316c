use Rattle.std.proofs.Common.{length}
use Rattle.machine.specs.Pairs.{may}
use Rattle.machine.specs.Charts.{kinds_of, follows_of}
use Rattle.machine.specs.Going.{EndsBelow}
use Rattle.machine.proofs.chart.Chart.ends.Given as goal

abbrev pub invariant-loop-p : goal.invariant-loop-p
invariant-loop-p l = EndsBelow (kinds_of l.self) (follows_of l.self) (may l.marks) l.d (length l.yielded) → ⊥
