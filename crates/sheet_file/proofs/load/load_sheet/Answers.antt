use Rattle.std.proofs.Common.{◌≡◌, Err, ap, ◌∙◌}
use Rattle.std.proofs.lemmas.Result.{err_from_is_err_and}
use Rattle.fault.proofs.Passed.{value_passed, value_stopped, stopped_filled, passed_filled}
use Rattle.sheet_file.specs.Sheets.{sheet_verdict, diagram_of}
use Rattle.sheet_file.proofs.Empties.{empty_refused}
use Rattle.sheet_file.proofs.load.load_sheet.Goals as goal

pub returns-in_err-place : goal.returns-in_err-place
returns-in_err-place c =
    let b = c.args.bytes.now in
    let p = err_from_is_err_and c.from_residual.result c.from_residual.ensures.1 in
    let v = value_stopped (sheet_verdict b) (diagram_of b) _ c.in_err-place.ensures in
    let e : c.from_residual.result ≡ sheet_verdict b = p.1 ∙ (ap (λ f. Err f) p.2 ∙ v) in
    record {
      verdict = e;
      place = stopped_filled (sheet_verdict b) (diagram_of b) _ _ v;
      empty_refused = empty_refused b _ e;
    }

pub returns : goal.returns
returns c =
    let b = c.args.bytes.now in
    let v = value_passed (sheet_verdict b) _ (diagram_of b) c.in_ok-place.ensures in
    record {
      verdict = v.0;
      place = v.1 ∙ passed_filled (sheet_verdict b) (diagram_of b) _ v.0;
      empty_refused = empty_refused b _ v.0;
    }
