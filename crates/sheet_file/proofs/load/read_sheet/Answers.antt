use Rattle.std.proofs.Common.{◌≡◌, ℕ, ◌+◌, ◌*◌, ◌≤◌, List, length, get_or, sym, ap, ap₂, ◌∙◌, arith, length-drop, length-take, rules}
use Rattle.std.proofs.lemmas.Slice.{between_from_start, between_to_end}
use Rattle.std.proofs.lemmas.Result.{err_from_is_err_and}
use Rattle.fault.specs.Checks.{or_fault}
use Rattle.fault.proofs.Passed.{stopped_value, value_passed, value_stopped}
use Rattle.sheet_file.specs.Rows.{kinds_check, rows_check, fragments_of}
use Rattle.sheet_file.specs.Sheets.{kinds_of, rows_of, rest_of, sheet_verdict, diagram_of}
use Rattle.sheet_file.proofs.Verdicts.{length_stops, kinds_stop, rows_stop, judge_left}
use Rattle.sheet_file.proofs.load.read_sheet.Goals as goal

pub returns-then-rest-count : goal.returns-then-rest-count
returns-then-rest-count c =
    let b = c.args.bytes.now in
    let l : 4 ≤ length b = search rules in
    let m : length (rest_of b) ≡ 9 * get_or b 0 0 → ⊥ = c.if-rest-count.true in
    stopped_value (sheet_verdict b) (diagram_of b) _
    (length_stops b l c.if-not-header_fits.ensures (λ e. m (simp (length-take, length-drop) (omega arith))))

-- the length that the code has tested is the one that the rule names
module _ (b : List ℕ) (l : 4 ≤ length b) where
  whole : length (rest_of b) ≡ 9 * get_or b 0 0 → length b ≡ 4 + 9 * get_or b 0 0
  whole e = omega (arith, simp (length-take, length-drop) at e)

pub returns-in_err-check_kinds : goal.returns-in_err-check_kinds
returns-in_err-check_kinds c =
    let b = c.args.bytes.now in
    let l : 4 ≤ length b = search rules in
    let k : c.split_at.result.0.now ≡ kinds_of b = c.split_at.ensures.front ∙ sym (between_from_start (rest_of b) (get_or b 0 0)) in
    let p = err_from_is_err_and c.from_residual.result c.from_residual.ensures.1 in
    rw (p.1, p.2)
    (stopped_value (sheet_verdict b) (diagram_of b) _
    (kinds_stop b l c.if-not-header_fits.ensures (whole b l c.if-rest-count.false) _ (c.in_err-check_kinds.ensures ∙ ap kinds_check k)))

pub returns-in_err-fragments : goal.returns-in_err-fragments
returns-in_err-fragments c =
    let b = c.args.bytes.now in
    let l : 4 ≤ length b = search rules in
    let k : c.split_at.result.0.now ≡ kinds_of b = c.split_at.ensures.front ∙ sym (between_from_start (rest_of b) (get_or b 0 0)) in
    let w : c.split_at.result.1.now ≡ rows_of b = c.split_at.ensures.back ∙ sym (between_to_end (rest_of b) (get_or b 0 0) (length (rest_of b)) (omega arith)) in
    let p = err_from_is_err_and c.from_residual-in_err-fragments.result c.from_residual-in_err-fragments.ensures.1 in
    let r = value_stopped (rows_check (kinds_of b) (rows_of b)) (fragments_of (kinds_of b) (rows_of b)) _ (c.in_err-fragments.ensures ∙ ap₂ (λ x y. or_fault (rows_check x y) (fragments_of x y)) k w) in
    rw (p.1, p.2)
    (stopped_value (sheet_verdict b) (diagram_of b) _
    (rows_stop b l c.if-not-header_fits.ensures (whole b l c.if-rest-count.false) _ (c.in_ok-check_kinds.ensures ∙ ap kinds_check k) r))

pub returns : goal.returns
returns c =
    let b = c.args.bytes.now in
    let l : 4 ≤ length b = search rules in
    let k : c.split_at.result.0.now ≡ kinds_of b = c.split_at.ensures.front ∙ sym (between_from_start (rest_of b) (get_or b 0 0)) in
    let w : c.split_at.result.1.now ≡ rows_of b = c.split_at.ensures.back ∙ sym (between_to_end (rest_of b) (get_or b 0 0) (length (rest_of b)) (omega arith)) in
    let r = value_passed (rows_check (kinds_of b) (rows_of b)) _ (fragments_of (kinds_of b) (rows_of b)) (c.in_ok-fragments.ensures ∙ ap₂ (λ x y. or_fault (rows_check x y) (fragments_of x y)) k w) in
    let v = judge_left b l c.if-not-header_fits.ensures (whole b l c.if-rest-count.false) (c.in_ok-check_kinds.ensures ∙ ap kinds_check k) r.0 in
    rw (← v) (rw r.1 at c.judge.ensures)
