-- A loop that reads the fragments row after row, and stops at the first row that does not fit.
use Rattle.std.proofs.Common.{◌≡◌, ℕ, ◌+◌, ◌*◌, ◌-◌, ◌<◌, false, not, Ok, Err, None, zip, take, drop, refl, ap₂, zero-add, length-set, List, length, get_or, set, replicate, ap, ◌∙◌, arith}
use Rattle.std.specs.List.{enumerate_from}
use Rattle.std.specs.Simd.{first_chunks}
use Rattle.std.proofs.lemmas.Grind.{get_or_default_zero}
use Rattle.std.proofs.lemmas.List.FromFn.{fill_by_all, get_or-enumerate_from, length-enumerate_from}
use Rattle.std.proofs.lemmas.Slice.Zip.{get_or-zip, length-zip}
use Rattle.fault.specs.declared.fault.Fault.{Fault}
use Rattle.fault.specs.declared.fault.Fault.TheVariants.{FragmentRow}
use Rattle.fault.specs.Checks.{lowest, or_fault}
use Rattle.fault.proofs.Lowest.{lowest_none, lowest_more, refuse_found, refuse_passed}
use Rattle.fault.proofs.Passed.{value_passed, value_stopped, stopped_value, passed_value, if_passed, if_stopped}
use Rattle.sheet.specs.declared.diagram.Fragment.{Fragment}
use Rattle.sheet.specs.declared.diagram.Fragment.TheVariants.{Skip}
use Rattle.sheet_file.specs.Rows.{row_fits, row_of, row_check, rows_check, fragment_of, fragment_at, fragments_of}
use Rattle.sheet_file.proofs.Fills.{upto, filled_none, filled_more}
use Rattle.fault.proofs.Chunks.{length-chunks, chunk_at}

-- the fragments of the first m rows, all of which fit, with skips after them
module _ (kinds rows : List ℕ) where
  abbrev pub ReadSoFar : List Fragment → ℕ → Type 0
  ReadSoFar xs m =
      (lowest (λ i. not (row_fits (get_or kinds i 0) (row_of rows i))) m ≡ None)
      × (length xs ≡ 64)
      × ((k : ℕ) → k < 64 → get_or xs k Skip ≡ upto (λ i. fragment_of (get_or kinds i 0) (row_of rows i)) Skip m k)

  pub read_none : ReadSoFar (replicate 64 Skip) 0
  read_none = (lowest_none _, refl, λ k h. filled_none (λ i. fragment_of (get_or kinds i 0) (row_of rows i)) Skip 64 k h)

  -- one turn, at row m
  module _ (i m : ℕ) (kind : ℕ) (row : List ℕ) (p : i ≡ m) (q : kind ≡ get_or kinds m 0) (r : row ≡ row_of rows m) (xs : List Fragment) (so : ReadSoFar xs m) where
    judged : row_check i kind row ≡ row_check m (get_or kinds m 0) (row_of rows m)
    judged = rw (p, q, r)

    pub read_more : (v : Fragment) (n : ℕ) → m < 64 → Ok v ≡ or_fault (row_check i kind row) (fragment_of kind row) → n ≡ m + 1 → ReadSoFar (set xs i v) n
    read_more v n l e s =
        let z = value_passed (row_check i kind row) v (fragment_of kind row) e in
        let w : not (row_fits (get_or kinds m 0) (row_of rows m)) ≡ false = if_passed (FragmentRow m) _ (z.0 ∙ judged) in
        rw (s, p) (
          lowest_more _ _ so.0 w,
          length-set xs m v ∙ so.1,
          filled_more (λ i. fragment_of (get_or kinds i 0) (row_of rows i)) Skip v m 64 xs so.1 l (z.1 ∙ ap₂ fragment_of q r) so.2,
        )

    pub read_stop : (f : Fault) → m < length kinds → Err f ≡ or_fault (row_check i kind row) (fragment_of kind row) → Err f ≡ or_fault (rows_check kinds rows) (fragments_of kinds rows)
    read_stop f l e =
        let z = if_stopped (FragmentRow m) (not (row_fits (get_or kinds m 0) (row_of rows m))) f (value_stopped (row_check i kind row) _ f e ∙ judged) in
        rw (← z.1) (stopped_value (rows_check kinds rows) (fragments_of kinds rows) (FragmentRow m) (refuse_found (λ i. FragmentRow i) _ _ _ so.0 z.0 l))

  pub read_all : (xs : List Fragment) (m : ℕ) → m ≡ length kinds → ReadSoFar xs m → Ok xs ≡ or_fault (rows_check kinds rows) (fragments_of kinds rows)
  read_all xs m e so =
      let f : xs ≡ fragments_of kinds rows = fill_by_all (fragment_at kinds rows) xs 64 Skip so.1 (λ k h. rw (← e) (so.2 k h)) in
      rw f (passed_value (rows_check kinds rows) (fragments_of kinds rows) (refuse_passed (λ i. FragmentRow i) _ m _ so.0 (omega arith) (omega arith)))

  pub items_size : (k : ℕ) → k ≡ length kinds → length (enumerate_from 0 (zip kinds (first_chunks 8 k rows))) ≡ length kinds
  items_size k e =
      let many = length-chunks 8 k rows in
      length-enumerate_from 0 (zip kinds (first_chunks 8 k rows)) ∙ (length-zip kinds (first_chunks 8 k rows) ∙ grind (arith, many, e))

  -- what a turn over the kinds and the pieces of the rows reads
  pub read_here : (i m k : ℕ) (kind : ℕ) (row : List ℕ) → k ≡ length kinds → m < length (enumerate_from 0 (zip kinds (first_chunks 8 k rows)))
      → ◌≡◌ {A = ℕ × (ℕ × List ℕ)} (i, (kind, row)) (get_or (enumerate_from 0 (zip kinds (first_chunks 8 k rows))) m (i, (kind, row)))
      → (i ≡ m) × (kind ≡ get_or kinds m 0) × (row ≡ row_of rows m) × (m < length kinds)
  read_here i m k kind row e l turn =
      let chunks = first_chunks 8 k rows in
      let many : length chunks ≡ k = length-chunks 8 k rows in
      let size = items_size k e in
      let pairs = length-enumerate_from 0 (zip kinds chunks) in
      let here : m < length kinds = omega (arith, size) in
      let whole : ◌≡◌ {A = ℕ × (ℕ × List ℕ)} (i, (kind, row)) (0 + m, (get_or kinds m kind, get_or chunks m row)) =
      turn
      ∙ (get_or-enumerate_from 0 (zip kinds chunks) m (i, (kind, row)) (omega (arith, size, pairs))
      ∙ ap (λ (z : ℕ × List ℕ). let t : ℕ × (ℕ × List ℕ) = (0 + m, z) in t) (get_or-zip kinds chunks m (kind, row) here (omega (arith, many)))) in
      let n : 8 ≡ 8 * m + 8 - 8 * m = omega arith in
      let b : m * 8 ≡ 8 * m = omega arith in (
        ap (λ (z : ℕ × (ℕ × List ℕ)). z.0) whole ∙ zero-add m,
        ap (λ (z : ℕ × (ℕ × List ℕ)). z.1.0) whole ∙ get_or_default_zero kinds m kind here,
        ap (λ (z : ℕ × (ℕ × List ℕ)). z.1.1) whole ∙ (chunk_at 8 k rows m row (omega arith) ∙ ap₂ (λ x y. take x (drop y rows)) n b),
        here,
      )
