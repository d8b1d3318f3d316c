-- A board, by its counts.
use Rattle.std.specs.Prelude.{ℕ, ◌+◌, ◌≤◌, List, None, Option, slice_index}
use Rattle.action.specs.Ranges.{highest_kind}
use Rattle.action.specs.Traces.{tally}

-- the most that a board counts of a kind
abbrev pub most : ℕ
most = 999

abbrev pub counted : List ℕ → ℕ → ℕ
counted counts k = slice_index counts k

-- none is above the most
abbrev pub Low : List ℕ → Type 0
Low counts = (k : ℕ) → k ≤ highest_kind → counted counts k ≤ most

-- after the list none is above the most
abbrev pub Within : {X : Type 0} → (X → ℕ) → List ℕ → List X → Type 0
Within kind counts l = (k : ℕ) → k ≤ highest_kind → counted counts k + tally kind k l ≤ most

-- it keeps no record
abbrev pub no_record : {X : Type 0} → Option (List X)
no_record = None
