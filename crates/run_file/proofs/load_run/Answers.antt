use Rattle.std.proofs.Common.{◌++◌, drop, ◌∙◌, rules}
use Rattle.std.proofs.lemmas.Result.{err_from_is_err_and}
use Rattle.fault.proofs.Passed.{stopped_value, passed_value, stopped_filled, passed_filled}
use Rattle.run_file.specs.Runs.{count_of, run_verdict, run_deeds}
use Rattle.run_file.proofs.Said.{judged, counted, loaded}
use Rattle.run_file.proofs.load_run.Goals as goal

pub returns-in_err-check-clause-verdict : goal.returns-in_err-check-clause-verdict
returns-in_err-check-clause-verdict c =
    let b = c.args.bytes.now in
    let e = err_from_is_err_and c.from_residual-in_err-check.result c.from_residual-in_err-check.ensures.1 in
    rw (e.1, e.2) (stopped_value (run_verdict b) (count_of b) _ (judged b (search rules) c.in_ok-run.run'.heads.now _ (search rules) c.in_err-check.ensures))

pub returns-in_err-check-clause-place : goal.returns-in_err-check-clause-place
returns-in_err-check-clause-place c =
    let b = c.args.bytes.now in
    stopped_filled (run_verdict b) (run_deeds b ++ drop (count_of b) c.args.place.now) c.args.place.now _ (judged b (search rules) c.in_ok-run.run'.heads.now _ (search rules) c.in_err-check.ensures)

pub returns-clause-verdict : goal.returns-clause-verdict
returns-clause-verdict c =
    let b = c.args.bytes.now in
    rw (counted b (search rules) c.in_ok-run.run'.arguments.now (search rules)) (passed_value (run_verdict b) (count_of b) (judged b (search rules) c.in_ok-run.run'.heads.now _ (search rules) c.in_ok-check.ensures))

pub returns-clause-place : goal.returns-clause-place
returns-clause-place c =
    let b = c.args.bytes.now in
    c.fill.ensures
    ∙ (loaded b (search rules) c.in_ok-run.run'.heads.now c.in_ok-run.run'.arguments.now c.args.place.now (search rules) (search rules)
    ∙ passed_filled (run_verdict b) (run_deeds b ++ drop (count_of b) c.args.place.now) c.args.place.now (judged b (search rules) c.in_ok-run.run'.heads.now _ (search rules) c.in_ok-check.ensures))
