use Rattle.std.proofs.Common.{◌↔◌, List, ◌++◌, take}
use Rattle.action.specs.declared.deed.Deed.{Deed}
use Rattle.sheet.specs.Forbid.{Negative}
use Rattle.machine.specs.Pairs.{may}
use Rattle.machine.specs.Charts.{kinds_of, follows_of}
use Rattle.machine.specs.Going.{Left}
use Rattle.machine.proofs.accepts.accepts.Given as goal

abbrev pub invariant-loop-d : goal.invariant-loop-d
invariant-loop-d l = (rest : List Deed) → Left (kinds_of l.chart) (follows_of l.chart) l.ended (may l.marks) rest ↔ Negative l.sheet.diagram (take l.d-index l.deeds ++ rest)
