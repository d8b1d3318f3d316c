-- The worked cases.
use Rattle.std.specs.Prelude.{◌≡◌, ℕ, false, List, [], ◌∷◌, map, replicate, Ok, Err}
use Rattle.fault.specs.declared.fault.Fault.TheVariants.{EmptyNegative}
use Rattle.fault.specs.Faults.{number}
use Rattle.action.specs.declared.deed.Deed.{Deed}
use Rattle.action.specs.Deeds.{deed_of, signal}
use Rattle.sheet.specs.Forbid.{Forbids}
use Rattle.sheet_file.specs.Sheets.{diagram_of, sheet_verdict}
use Rattle.host.specs.Boards.{counted, Within}
use Rattle.gate.specs.Words.{Word, answer}
use Rattle.gate.specs.Ledger.{Ledger, Known, opening, Runs, submits}
use Rattle.worked.specs.Sheets.{sheet_1, sheet_2, sheet_3, sheet_4, sheet_5, sheet_6, sheet_7, sheet_8}

-- a deed to the partner 0: its signal and arguments
abbrev pub with_arguments : ℕ → ℕ → ℕ → Deed
with_arguments s a b = deed_of (0 ∷ s ∷ a ∷ b ∷ [])

abbrev pub deed : ℕ → Deed
deed s = with_arguments s 0 0

-- the counts of a new board
abbrev pub no_counts : List ℕ
no_counts = replicate 32 0

-- what a ledger knows of the bytes' sheet and a new board
abbrev pub known_of : List ℕ → Known Deed
known_of b = record { forbids = Forbids (diagram_of b); can = Within signal no_counts; counts = counted no_counts; kind = signal }

-- such a ledger, asked to do the deeds, replies so
abbrev pub Told : List ℕ → List Deed → List Word → Ledger Deed → Type 0
Told b ds ws M = Runs (known_of b) (opening false) (submits ds) ws M

-- the bytes are accepted, and the ledger answers the deeds by the numbers, and never otherwise
pub record Answers (b : List ℕ) (ds : List Deed) (ns : List ℕ) : Type 0 where
  pub accepted : sheet_verdict b ≡ Ok tt
  pub answered : (M : Ledger Deed) × Told b ds (map answer ns) M
  pub only : (ws : List Word) (M : Ledger Deed) → Told b ds ws M → ws ≡ map answer ns

pub record WorkedCases : Type 0 where
  pub one : Answers sheet_1 (deed 4 ∷ deed 3 ∷ []) (0 ∷ 21 ∷ [])
  pub two : Answers sheet_2 (deed 3 ∷ deed 4 ∷ []) (0 ∷ 21 ∷ [])
  pub two_turned : Answers sheet_2 (deed 4 ∷ deed 3 ∷ []) (0 ∷ 0 ∷ [])
  pub three : Answers sheet_3 (deed 5 ∷ deed 5 ∷ deed 5 ∷ deed 5 ∷ []) (0 ∷ 0 ∷ 0 ∷ 21 ∷ [])
  pub four : Answers sheet_4 (with_arguments 1 1 0 ∷ with_arguments 1 2 0 ∷ with_arguments 2 3 0 ∷ with_arguments 2 2 0 ∷ []) (0 ∷ 0 ∷ 0 ∷ 21 ∷ [])
  pub five : Answers sheet_5 (deed 1 ∷ deed 2 ∷ deed 1 ∷ deed 2 ∷ deed 1 ∷ []) (0 ∷ 0 ∷ 0 ∷ 0 ∷ 21 ∷ [])
  pub six_full : Answers (sheet_6 15) (deed 1 ∷ deed 2 ∷ []) (0 ∷ 0 ∷ [])
  pub six_room : Answers (sheet_6 14) (deed 1 ∷ deed 2 ∷ []) (0 ∷ 21 ∷ [])
  pub seven : sheet_verdict sheet_7 ≡ Err EmptyNegative
  pub seven_number : number EmptyNegative ≡ 8
  pub seven_why : Forbids (diagram_of sheet_7) []
  pub eight_accepted : sheet_verdict sheet_8 ≡ Ok tt
  pub eight : (l : List Deed) → Forbids (diagram_of sheet_8) l → ⊥
