-- The verdict on bytes, rule after rule.
use Rattle.std.proofs.Common.{◌≡◌, ℕ, ◌+◌, ◌*◌, ◌<◌, ◌≤◌, Bool, true, false, cond, not, eqb, ltb, leb, List, length, get_or, drop, Some, None, Ok, Err, sym, refl, ◌∙◌, arith, length-drop, length-take, le-ltb, eq-eqb, ne_eqb}
use Rattle.std.proofs.lemmas.Bool.{lt-ltb, and_from, cond-true, not-false, not_from_true}
use Rattle.std.proofs.lemmas.Bool.Decides.{nat_tests}
use Rattle.std.proofs.lemmas.List.FromFn.{get_or-map-range_with_len}
use Rattle.fault.specs.declared.fault.Fault.{Fault}
use Rattle.fault.specs.declared.fault.Fault.TheVariants.{SheetLength, FragmentRow}
use Rattle.fault.specs.Checks.{Check, ◌then◌}
use Rattle.fault.proofs.Passed.{then_assoc, at_passed, passed_at}
use Rattle.action.specs.Ranges.{highest_address, highest_kind, highest_argument}
use Rattle.sheet.specs.declared.diagram.Fragment.{Fragment}
use Rattle.sheet.specs.declared.diagram.Fragment.TheVariants.{Skip, Seq, Alt, Loop, Neg}
use Rattle.sheet.specs.Forbid.{fragment}
use Rattle.sheet.specs.Rules.{header_fits, term_fits, guard_fits, change_fits, step_fits, fits, ranges_check, tree_check, steps_check, empty_check, verdict}
use Rattle.sheet_file.specs.Codes.{term, comparison, guard, variable, change}
use Rattle.sheet_file.specs.Rows.{cell, parts, all_zero, row_of, row_fits, step_row_fits, kinds_check, rows_check, step_of, fragment_of, fragment_at, fragments_of}
use Rattle.sheet_file.specs.Sheets.{kinds_of, rows_of, diagram_of, sheet_verdict}

-- the rule of the length
module _ (b : List ℕ) where
  pub length_stops : 4 ≤ length b → true ≡ header_fits (get_or b 0 0) (get_or b 1 0) (get_or b 2 0) (get_or b 3 0) → (length b ≡ 4 + 9 * get_or b 0 0 → ⊥) → Err SheetLength ≡ sheet_verdict b
  length_stops l h e = rw (le-ltb (length b) 4 l, ← h, ne_eqb (length b) (4 + 9 * get_or b 0 0) e)

-- the rules that are left where the header and the length are right
pub past_header : (b : List ℕ) (v : Check) → 4 ≤ length b
    → true ≡ header_fits (get_or b 0 0) (get_or b 1 0) (get_or b 2 0) (get_or b 3 0)
    → length b ≡ 4 + 9 * get_or b 0 0
    → v ≡ ((kinds_check (kinds_of b) then (rows_check (kinds_of b) (rows_of b) then (tree_check (diagram_of b) then steps_check (diagram_of b)))) then empty_check (diagram_of b))
    → v ≡ sheet_verdict b
past_header b v l h e q = rw (le-ltb (length b) 4 l, ← h, eq-eqb (length b) (4 + 9 * get_or b 0 0) e) q

term_in : (b : ℕ) → term_fits (term b) ≡ true
term_in b = grind (arith, nat_tests)

guard_in : (l c r : ℕ) → guard_fits (guard l c r) ≡ true
guard_in l c r = given (eqb c 0)
  where
    given : (b : Bool) → guard_fits (cond b None (Some (record { left = term l; comparison = comparison c; right = term r }))) ≡ true
    given true = refl
    given false = and_from _ _ (term_in l) (term_in r)

change_in : (t s a : ℕ) → leb a highest_argument ≡ true → change_fits (change t s a) ≡ true
change_in t s a h = given (eqb t 0)
  where
    given : (b : Bool) → change_fits (cond b None (Some (record { target = variable t; source = term s; add = a }))) ≡ true
    given true = refl
    given false = and_from _ _ (term_in s) h

-- a step's row in its ranges says a step in its ranges
step_in : (row : List ℕ) → step_row_fits row ≡ true → step_fits (step_of row) ≡ true
step_in row e =
    let address : leb (cell row 0) highest_address ≡ true = grind (arith, nat_tests) in
    let signal : leb (cell row 1) highest_kind ≡ true = grind (arith, nat_tests) in
    let add : leb (cell row 7) highest_argument ≡ true = grind (arith, nat_tests) in
    and_from _ _ address (and_from _ _ signal (and_from _ _ (guard_in (cell row 2) (cell row 3) (cell row 4)) (change_in (cell row 5) (cell row 6) (cell row 7) add)))

others_in : (b c d e : Bool) (x y : ℕ) → fits (cond b (Seq x y) (cond c (Alt x y) (cond d (Loop x) (cond e (Neg x) Skip)))) ≡ true
others_in true c d e x y = refl
others_in false true d e x y = refl
others_in false false true e x y = refl
others_in false false false true x y = refl
others_in false false false false x y = refl

-- a row in its ranges says a fragment in its ranges
fragment_in : (k : ℕ) (row : List ℕ) → row_fits k row ≡ true → fits (fragment_of k row) ≡ true
fragment_in k row e = given (eqb k 1) e
  where
    given : (b : Bool) → cond b (step_row_fits row) (all_zero (drop (parts k) row)) ≡ true → fits (cond b (Fragment.Step (step_of row)) (cond (eqb k 2) (Seq (cell row 0) (cell row 1)) (cond (eqb k 3) (Alt (cell row 0) (cell row 1)) (cond (eqb k 4) (Loop (cell row 0)) (cond (eqb k 5) (Neg (cell row 0)) Skip))))) ≡ true
    given true h = step_in row h
    given false h = others_in (eqb k 2) (eqb k 3) (eqb k 4) (eqb k 5) (cell row 0) (cell row 1)

-- the fragment i of the diagram is the one that the kind and the row i say
fragment_there : (kinds rows : List ℕ) (i : ℕ) → i < length kinds → i < 64 → get_or (fragments_of kinds rows) i Skip ≡ fragment_of (get_or kinds i 0) (row_of rows i)
fragment_there kinds rows i h l =
    get_or-map-range_with_len (fragment_at kinds rows) 0 64 i i Skip l (omega arith)
    ∙ cond-true (ltb i (length kinds)) (fragment_of (get_or kinds i 0) (row_of rows i)) Skip (lt-ltb i (length kinds) h)

-- rows in their ranges say a diagram in its ranges
pub ranges_in : (b : List ℕ) → length (kinds_of b) ≡ get_or b 0 0 → get_or b 0 0 ≤ 64 → Ok tt ≡ rows_check (kinds_of b) (rows_of b) → Ok tt ≡ ranges_check (diagram_of b)
ranges_in b n m e =
    passed_at (λ i. FragmentRow i) (λ i. not (fits (fragment (diagram_of b) i))) (get_or b 0 0)
    (λ i l.
    let h : i < length (kinds_of b) = omega arith in
    let f = fragment_in (get_or (kinds_of b) i 0) (row_of (rows_of b) i)
    (not-false _ (at_passed (λ i. FragmentRow i) (λ i. not (row_fits (get_or (kinds_of b) i 0) (row_of (rows_of b) i))) (length (kinds_of b)) e i h)) in
    not_from_true _ (rw (fragment_there (kinds_of b) (rows_of b) i h (omega arith)) f))

-- what is left to the judge
pub past_rows : (b : List ℕ) → true ≡ header_fits (get_or b 0 0) (get_or b 1 0) (get_or b 2 0) (get_or b 3 0) → Ok tt ≡ ranges_check (diagram_of b)
    → verdict (diagram_of b) ≡ ((tree_check (diagram_of b) then steps_check (diagram_of b)) then empty_check (diagram_of b))
past_rows b h r = rw (← h, ← r) (sym (then_assoc (tree_check (diagram_of b)) (steps_check (diagram_of b)) (empty_check (diagram_of b))))

header_most : (n k x y : ℕ) → true ≡ header_fits n k x y → n ≤ 64
header_most n k x y h = grind (arith, nat_tests)

-- the rules of the fragments, where the header and the length are right
module _ (b : List ℕ) (l : 4 ≤ length b) (h : true ≡ header_fits (get_or b 0 0) (get_or b 1 0) (get_or b 2 0) (get_or b 3 0)) (e : length b ≡ 4 + 9 * get_or b 0 0) where
  pub kinds_stop : (f : Fault) → Err f ≡ kinds_check (kinds_of b) → Err f ≡ sheet_verdict b
  kinds_stop f k = past_header b (Err f) l h e (rw (← k))

  pub rows_stop : (f : Fault) → Ok tt ≡ kinds_check (kinds_of b) → Err f ≡ rows_check (kinds_of b) (rows_of b) → Err f ≡ sheet_verdict b
  rows_stop f k r = past_header b (Err f) l h e (rw (← k, ← r))

  pub judge_left : Ok tt ≡ kinds_check (kinds_of b) → Ok tt ≡ rows_check (kinds_of b) (rows_of b) → verdict (diagram_of b) ≡ sheet_verdict b
  judge_left k r =
      let n : length (kinds_of b) ≡ get_or b 0 0 = simp (length-take, length-drop) (omega arith) in
      past_header b (verdict (diagram_of b)) l h e (rw (← k, ← r) (past_rows b h (ranges_in b n (header_most (get_or b 0 0) (get_or b 1 0) (get_or b 2 0) (get_or b 3 0) h) r)))
