-- What a sheet's bytes mean, and what is refused of them.
use Rattle.std.specs.Prelude.{◌≡◌, ℕ, ◌+◌, ◌*◌, not, List, [], length, Ok, Err, ◌==◌, nat_lt, slice_index}
use Rattle.std.specs.List.{between}
use Rattle.fault.specs.declared.fault.Fault.TheVariants.{SheetShort, SheetHeader, SheetLength, EmptyNegative}
use Rattle.fault.specs.Checks.{Check, ◌then◌, refuse_if}
use Rattle.sheet.specs.declared.diagram.Diagram.{Diagram}
use Rattle.sheet.specs.Forbid.{Negative}
use Rattle.sheet.specs.Rules.{header_fits, tree_check, steps_check, empty_check}
use Rattle.sheet_file.specs.Rows.{kinds_check, rows_check, fragments_of}

-- what follows the first four bytes: n kinds, then the rows
abbrev pub rest_of : List ℕ → List ℕ
rest_of b = between 4 (length b) b

abbrev pub kinds_of : List ℕ → List ℕ
kinds_of b = between 0 (slice_index b 0) (rest_of b)

abbrev pub rows_of : List ℕ → List ℕ
rows_of b = between (slice_index b 0) (length (rest_of b)) (rest_of b)

-- the diagram that bytes say
abbrev pub diagram_of : List ℕ → Diagram
diagram_of b = record {
  count = slice_index b 0;
  steps = slice_index b 1;
  start = record { x = slice_index b 2; y = slice_index b 3 };
  fragments = fragments_of (kinds_of b) (rows_of b);
}

-- 1: shorter than four bytes
abbrev pub short_check : List ℕ → Check
short_check b = refuse_if SheetShort (nat_lt (length b) 4)

-- 2: n, k or a start outside its range
abbrev pub header_check : List ℕ → Check
header_check b = refuse_if SheetHeader (not (header_fits (slice_index b 0) (slice_index b 1) (slice_index b 2) (slice_index b 3)))

-- 3: the length is not 4 + 9n
abbrev pub length_check : List ℕ → Check
length_check b = refuse_if SheetLength (not (length b == 4 + 9 * slice_index b 0))

-- all rules but the last
abbrev pub before_empty : List ℕ → Check
before_empty b =
    short_check b
    then header_check b
    then length_check b
    then kinds_check (kinds_of b)
    then rows_check (kinds_of b) (rows_of b)
    then tree_check (diagram_of b)
    then steps_check (diagram_of b)

-- the first rule that refuses
abbrev pub sheet_verdict : List ℕ → Check
sheet_verdict b = before_empty b then empty_check (diagram_of b)

-- 8 is answered exactly where all other rules pass and the empty list is a negative trace
pub record EmptyRefused (b : List ℕ) (r : Check) : Type 0 where
  pub why : r ≡ Err EmptyNegative → (before_empty b ≡ Ok tt) × Negative (diagram_of b) []
  pub where_so : before_empty b ≡ Ok tt → Negative (diagram_of b) [] → r ≡ Err EmptyNegative
