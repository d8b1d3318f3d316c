use Rattle.machine.specs.Pairs.{may}
use Rattle.machine.specs.Charts.{kinds_of, follows_of}
use Rattle.sheet_watch.proofs.Rehearsed.{Ahead}
use Rattle.sheet_watch.proofs.rehearsal.rehearse.Given as goal

abbrev pub invariant-loop-i : goal.invariant-loop-i
invariant-loop-i l = Ahead (kinds_of l.chart) (follows_of l.chart) (may l.initial.guard.marks.now) l.deeds (may l.guard.marks.now) l.i
