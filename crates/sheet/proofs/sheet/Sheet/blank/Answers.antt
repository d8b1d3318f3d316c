use Rattle.std.proofs.Common.{refl}
use Rattle.fault.specs.Checks.{lowest, total}
use Rattle.sheet.specs.Rules.{accepted}
use Rattle.sheet.proofs.sheet.Sheet.blank.Goals as goal

pub invariant_of-result : goal.invariant_of-result
unfolding accepted lowest total
invariant_of-result c = record { ok = refl }
