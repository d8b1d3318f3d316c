use Rattle.std.proofs.Common.{◌≡◌, None}
use Rattle.fault.specs.Checks.{lowest}
use Rattle.translation.specs.Files.{row_wrong, four_of}
use Rattle.translation.proofs.load.Rows.check_ranges.Given as goal

abbrev pub invariant-loop-i : goal.invariant-loop-i
invariant-loop-i l = lowest (λ i. row_wrong (four_of l.self.rows.now i)) l.i ≡ None
