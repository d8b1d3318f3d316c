-- A call, read as parts within the ranges.
use Rattle.std.specs.Prelude.{ℕ, ◌%◌, List, [], ◌∷◌, Result, slice_index}
use Rattle.fault.specs.declared.fault.Fault.{Fault}
use Rattle.fault.specs.Checks.{or_fault}
use Rattle.action.specs.declared.call.Call.{Call}
use Rattle.action.specs.Bytes.{action_check}
use Rattle.action.specs.Ranges.{highest_kind, highest_form, highest_argument}

abbrev pub family : Call → ℕ
family c = c.family % 32

abbrev pub form : Call → ℕ
form c = c.form % 8

abbrev pub first : Call → ℕ
first c = c.first % 16

abbrev pub second : Call → ℕ
second c = c.second % 16

abbrev pub third : Call → ℕ
third c = c.third % 16

abbrev pub call_of : List ℕ → Call
call_of b = record { family = slice_index b 0; form = slice_index b 1; first = slice_index b 2; second = slice_index b 3; third = slice_index b 4 }

abbrev pub highest_of_call : List ℕ
highest_of_call = highest_kind ∷ highest_form ∷ highest_argument ∷ highest_argument ∷ highest_argument ∷ []

-- the call of five bytes
abbrev pub call_from : List ℕ → Result Call Fault
call_from b = or_fault (action_check highest_of_call b) (call_of b)
