use Rattle.std.proofs.Common.{refl, arith}
use Rattle.fault.specs.Checks.{lowest, total}
use Rattle.sheet.specs.Rules.{accepted}
use Rattle.worked.proofs.Worked.{answers, seven_forbids, eight_never}
use Rattle.worked.proofs.worked_cases.Goals as goal

pub returns : goal.returns
unfolding lowest total accepted
returns c = record {
  one = answers _ _ _ refl refl (omega arith) refl;
  two = answers _ _ _ refl refl (omega arith) refl;
  two_turned = answers _ _ _ refl refl (omega arith) refl;
  three = answers _ _ _ refl refl (omega arith) refl;
  four = answers _ _ _ refl refl (omega arith) refl;
  five = answers _ _ _ refl refl (omega arith) refl;
  six_full = answers _ _ _ refl refl (omega arith) refl;
  six_room = answers _ _ _ refl refl (omega arith) refl;
  seven = refl;
  seven_number = refl;
  seven_why = seven_forbids;
  eight_accepted = refl;
  eight = eight_never;
}
