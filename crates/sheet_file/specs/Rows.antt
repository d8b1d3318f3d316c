-- The kinds and the rows of the fragments, and what is refused of them.
use Rattle.std.specs.Prelude.{ℕ, ◌+◌, ◌*◌, Bool, true, cond, not, ◌&&◌, ◌||◌, ltb, List, [], ◌∷◌, map, length, drop, ◌==◌, nat_le, nat_lt, slice_index}
use Rattle.std.specs.List.{range_with_len, between}
use Rattle.fault.specs.declared.fault.Fault.TheVariants.{FragmentKind, FragmentRow}
use Rattle.fault.specs.Checks.{Check, refuse_if, refuse_at, lowest}
use Rattle.action.specs.Ranges.{highest_address, highest_kind, highest_argument}
use Rattle.sheet.specs.declared.step.Step.{Step}
use Rattle.sheet.specs.declared.diagram.Fragment.{Fragment}
use Rattle.sheet.specs.declared.diagram.Fragment.TheVariants.{Skip, Seq, Alt, Loop, Neg}
use Rattle.sheet_file.specs.Codes.{guard, change}

-- 4: a kind above 5, at the lowest such fragment
abbrev pub kinds_check : List ℕ → Check
kinds_check kinds = refuse_at (λ i. FragmentKind i) (lowest (λ i. ltb 5 (slice_index kinds i)) (length kinds))

-- the row of the fragment i, and the byte in a column of a row
abbrev pub row_of : List ℕ → ℕ → List ℕ
row_of rows i = between (8 * i) (8 * i + 8) rows

abbrev pub cell : List ℕ → ℕ → ℕ
cell row j = slice_index row j

-- seq and alt name two parts, loop and neg one, in the first columns
abbrev pub parts : ℕ → ℕ
parts kind = cond (kind == 2 || kind == 3) 2 (cond (kind == 4 || kind == 5) 1 0)

abbrev pub all_zero : List ℕ → Bool
all_zero [] = true
all_zero (x ∷ xs) = x == 0 && all_zero xs

-- partner, signal, left, comparison, right, target, source, add: each in its range;
-- without a comparison left and right are 0, without a target source and add are
abbrev pub step_row_fits : List ℕ → Bool
step_row_fits row =
    nat_le (cell row 0) highest_address && nat_le (cell row 1) highest_kind && nat_le (cell row 2) 19 && nat_le (cell row 3) 6
    && nat_le (cell row 4) 19 && nat_le (cell row 5) 2 && nat_le (cell row 6) 19 && nat_le (cell row 7) highest_argument
    && (not (cell row 3 == 0) || (cell row 2 == 0 && cell row 4 == 0))
    && (not (cell row 5 == 0) || (cell row 6 == 0 && cell row 7 == 0))

-- the bytes of the other kinds are 0, places of parts excepted
abbrev pub row_fits : ℕ → List ℕ → Bool
row_fits kind row = cond (kind == 1) (step_row_fits row) (all_zero (drop (parts kind) row))

abbrev pub row_check : ℕ → ℕ → List ℕ → Check
row_check i kind row = refuse_if (FragmentRow i) (not (row_fits kind row))

-- 5: a row byte outside its range, or not the 0 asked for, at the lowest such fragment
abbrev pub rows_check : List ℕ → List ℕ → Check
rows_check kinds rows = refuse_at (λ i. FragmentRow i) (lowest (λ i. not (row_fits (slice_index kinds i) (row_of rows i))) (length kinds))

abbrev pub step_of : List ℕ → Step
step_of row = record {
  address = cell row 0;
  signal = cell row 1;
  guard = guard (cell row 2) (cell row 3) (cell row 4);
  change = change (cell row 5) (cell row 6) (cell row 7);
}

-- 0 skip, 1 step, 2 seq, 3 alt, 4 loop, 5 neg
abbrev pub fragment_of : ℕ → List ℕ → Fragment
fragment_of kind row =
    cond (kind == 1) (Fragment.Step (step_of row))
    (cond (kind == 2) (Seq (cell row 0) (cell row 1))
    (cond (kind == 3) (Alt (cell row 0) (cell row 1))
    (cond (kind == 4) (Loop (cell row 0))
    (cond (kind == 5) (Neg (cell row 0))
    Skip))))

-- the fragment i; past the last stand skips
abbrev pub fragment_at : List ℕ → List ℕ → ℕ → Fragment
fragment_at kinds rows i = cond (nat_lt i (length kinds)) (fragment_of (slice_index kinds i) (row_of rows i)) Skip

abbrev pub fragments_of : List ℕ → List ℕ → List Fragment
fragments_of kinds rows = map (fragment_at kinds rows) (range_with_len 0 64)
