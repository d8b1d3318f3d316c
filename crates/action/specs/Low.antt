-- Kinds are in their range.
use Rattle.std.proofs.Common.{◌≤◌, arith}
use Rattle.action.specs.declared.call.Call.{Call}
use Rattle.action.specs.declared.deed.Deed.{Deed}
use Rattle.action.specs.Calls.{family}
use Rattle.action.specs.Deeds.{signal}
use Rattle.action.specs.Ranges.{highest_kind}

pub signal_low : (d : Deed) → signal d ≤ highest_kind
signal_low d = omega arith

pub family_low : (c : Call) → family c ≤ highest_kind
family_low c = omega arith
