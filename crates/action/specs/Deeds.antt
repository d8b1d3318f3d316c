-- A deed, read as parts within the ranges.
use Rattle.std.specs.Prelude.{ℕ, ◌%◌, List, [], ◌∷◌, Result, slice_index}
use Rattle.fault.specs.declared.fault.Fault.{Fault}
use Rattle.fault.specs.Checks.{or_fault}
use Rattle.action.specs.declared.deed.Deed.{Deed}
use Rattle.action.specs.Bytes.{action_check}
use Rattle.action.specs.Ranges.{highest_address, highest_kind, highest_argument}

-- what a step matches of the partner
abbrev pub address : Deed → ℕ
address d = d.address % 8

-- whom the deed is exchanged with
abbrev pub partner : Deed → ℕ
partner d = d.address % 8

abbrev pub signal : Deed → ℕ
signal d = d.signal % 32

abbrev pub first : Deed → ℕ
first d = d.first % 16

abbrev pub second : Deed → ℕ
second d = d.second % 16

-- the deed that four numbers are read as, each within its range
abbrev pub reading : ℕ → ℕ → ℕ → ℕ → Deed
reading a s f g = record { address = a % 8; signal = s % 32; first = f % 16; second = g % 16 }

abbrev pub deed_of : List ℕ → Deed
deed_of b = record { address = slice_index b 0; signal = slice_index b 1; first = slice_index b 2; second = slice_index b 3 }

abbrev pub highest_of_deed : List ℕ
highest_of_deed = highest_address ∷ highest_kind ∷ highest_argument ∷ highest_argument ∷ []

-- the deed of four bytes
abbrev pub deed_from : List ℕ → Result Deed Fault
deed_from b = or_fault (action_check highest_of_deed b) (deed_of b)
