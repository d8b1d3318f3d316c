-- What a selector takes from a call is within the range of an argument.
use Rattle.std.proofs.Common.{ℕ, zero, suc, ◌≤◌, arith}
use Rattle.action.specs.declared.call.Call.{Call}
use Rattle.action.specs.Ranges.{highest_argument}
use Rattle.translation.specs.Tables.{argument}

pub argument_low : (selector : ℕ) (c : Call) → argument selector c ≤ highest_argument
argument_low zero c = omega arith
argument_low (suc zero) c = omega arith
argument_low (suc (suc zero)) c = omega arith
argument_low (suc (suc (suc zero))) c = omega arith
argument_low (suc (suc (suc (suc n)))) c = omega arith
