use Rattle.std.proofs.Common.{◌≡◌, length, zip}
use Rattle.run_file.specs.Runs.{deed_in}
use Rattle.run_file.proofs.Fronts.{fronted}
use Rattle.run_file.proofs.Run.fill.Given as goal

abbrev pub invariant-loop-i : goal.invariant-loop-i
invariant-loop-i l = l.out ≡ fronted deed_in (zip l.self.heads.now l.self.arguments.now) l.initial.out (length l.yielded)
