-- A translation in bytes: a count m, then m codes, then m rows of four bytes.
use Rattle.std.specs.Prelude.{◌≡◌, ℕ, ◌+◌, ◌-◌, ◌*◌, ◌<◌, Bool, cond, not, ◌&&◌, ◌||◌, List, [], ◌∷◌, map, length, Some, None, Option, ◌==◌, ◌≢◌, nat_eq, nat_le, nat_lt, slice_index}
use Rattle.std.specs.List.{between, range_with_len}
use Rattle.std.specs.Option.{option_map}
use Rattle.fault.specs.declared.fault.Fault.TheVariants.{TranslationShape, TranslationRow, TranslationOrder}
use Rattle.fault.specs.Checks.{Check, ◌then◌, refuse_if, refuse_at, lowest}
use Rattle.action.specs.declared.deed.Deed.{Deed}
use Rattle.action.specs.declared.call.Call.{Call}
use Rattle.action.specs.Ranges.{highest_address, highest_kind}
use Rattle.action.specs.Deeds.{deed_of}
use Rattle.translation.specs.declared.translation.Row.{Row}
use Rattle.translation.specs.declared.translation.Translation.{Translation}
use Rattle.translation.specs.Tables.{most_rows, highest_selector, code, argument, blank}

-- the count, the codes, and the rows after them
abbrev pub count_of : List ℕ → ℕ
count_of b = slice_index b 0

abbrev pub after_count : List ℕ → List ℕ
after_count b = between 1 (length b) b

abbrev pub codes_of : List ℕ → List ℕ
codes_of b = between 0 (count_of b) (after_count b)

abbrev pub rows_of : List ℕ → List ℕ
rows_of b = between (count_of b) (length (after_count b)) (after_count b)

-- the four bytes of row i: partner, signal and two selectors
abbrev pub four_of : List ℕ → ℕ → List ℕ
four_of rows i = between (4 * i) (4 * i + 4) rows

-- 9: no byte, a count above the most, or a length that is not 1 + 5m
abbrev pub shape_wrong : List ℕ → Bool
shape_wrong b = length b == 0 || nat_lt most_rows (count_of b) || not (length b == 1 + 5 * count_of b)

abbrev pub shape_check : List ℕ → Check
shape_check b = refuse_if TranslationShape (shape_wrong b)

-- 10: a row outside its ranges, the lowest such
abbrev pub row_wrong : List ℕ → Bool
row_wrong row = nat_lt highest_address (slice_index row 0) || nat_lt highest_kind (slice_index row 1) || nat_lt highest_selector (slice_index row 2) || nat_lt highest_selector (slice_index row 3)

abbrev pub rows_check : List ℕ → List ℕ → Check
rows_check codes rows = refuse_at (λ i. TranslationRow i) (lowest (λ i. row_wrong (four_of rows i)) (length codes))

-- 11: a code that is not above the one before it, the lowest such
abbrev pub code_wrong : List ℕ → ℕ → Bool
code_wrong codes i = nat_lt 0 i && nat_le (slice_index codes i) (slice_index codes (i - 1))

abbrev pub codes_check : List ℕ → Check
codes_check codes = refuse_at (λ i. TranslationOrder i) (lowest (code_wrong codes) (length codes))

abbrev pub translation_check : List ℕ → Check
translation_check b =
    shape_check b
    then rows_check (codes_of b) (rows_of b)
    then codes_check (codes_of b)

-- the table of the bytes
abbrev pub row_with : ℕ → List ℕ → Row
row_with k row = record { code = k; address = slice_index row 0; signal = slice_index row 1; first = slice_index row 2; second = slice_index row 3 }

abbrev pub row_at : List ℕ → List ℕ → ℕ → Row
row_at codes rows i = cond (nat_lt i (length codes)) (row_with (slice_index codes i) (four_of rows i)) blank

abbrev pub table_of : List ℕ → List ℕ → List Row
table_of codes rows = map (row_at codes rows) (range_with_len 0 most_rows)

abbrev pub translation_of : List ℕ → Translation
translation_of b = record { rows = table_of (codes_of b) (rows_of b); used = count_of b }

-- the deed that a row's bytes make of a call
abbrev pub deed_in : List ℕ → Call → Deed
deed_in row c = deed_of (slice_index row 0 ∷ slice_index row 1 ∷ argument (slice_index row 2) c ∷ argument (slice_index row 3) c ∷ [])

-- what the bytes themselves make of a call: the first row with its code says the deed; without one there is none
abbrev pub file_image : List ℕ → Call → Option Deed
file_image b c = option_map (λ i. deed_in (four_of (rows_of b) i) c) (lowest (λ i. nat_eq (slice_index (codes_of b) i) (code c)) (count_of b))

-- o is what the row whose code is the call's says, whichever row that is, and None where no row has that code
abbrev pub ByItsRow : List ℕ → Call → Option Deed → Type 0
ByItsRow b c o =
    ((i : ℕ) → i < count_of b → slice_index (codes_of b) i ≡ code c → o ≡ Some (deed_in (four_of (rows_of b) i) c))
    × (((i : ℕ) → i < count_of b → slice_index (codes_of b) i ≢ code c) → o ≡ None)
