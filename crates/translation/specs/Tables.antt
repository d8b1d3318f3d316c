-- What a call becomes by a table of rows.
use Rattle.std.specs.Prelude.{ℕ, ◌+◌, ◌*◌, ◌%◌, min, List, [], ◌∷◌, replicate, Option, nat_eq, slice_index, slice_index_or}
use Rattle.std.specs.Option.{option_map}
use Rattle.fault.specs.Checks.{lowest}
use Rattle.action.specs.declared.deed.Deed.{Deed}
use Rattle.action.specs.declared.call.Call.{Call}
use Rattle.action.specs.Ranges.{highest_address, highest_kind}
use Rattle.action.specs.Deeds.{deed_of}
use Rattle.action.specs.Calls.{family, form, first, second, third}
use Rattle.translation.specs.declared.translation.Row.{Row}
use Rattle.translation.specs.declared.translation.Translation.{Translation}

-- the most rows that a translation has
abbrev pub most_rows : ℕ
most_rows = 64

abbrev pub highest_selector : ℕ
highest_selector = 3

-- what names a call in a translation
abbrev pub code : Call → ℕ
code c = 8 * family c + form c

-- selector 0 gives 0, 1 to 3 that argument of the call
abbrev pub argument : ℕ → Call → ℕ
argument selector c = slice_index (0 ∷ first c ∷ second c ∷ third c ∷ []) selector

-- the deed that a call becomes by a row, read as parts within the ranges
abbrev pub deed_by : Row → Call → Deed
deed_by r c =
    deed_of (r.address % (highest_address + 1) ∷ r.signal % (highest_kind + 1) ∷ argument (r.first % (highest_selector + 1)) c ∷ argument (r.second % (highest_selector + 1)) c ∷ [])

abbrev pub blank : Row
blank = record { code = 0; address = 0; signal = 0; first = 0; second = 0 }

-- the first used row of a code
abbrev pub row_of : List Row → ℕ → ℕ → Option Row
row_of rows used k = option_map (λ i. slice_index_or rows i blank) (lowest (λ i. nat_eq (slice_index_or rows i blank).code k) (min used most_rows))

-- the deed that a call becomes, if any
abbrev pub image : Translation → Call → Option Deed
image t c = option_map (λ r. deed_by r c) (row_of t.rows t.used (code c))

abbrev pub no_rows : Translation
no_rows = record { rows = replicate most_rows blank; used = 0 }
