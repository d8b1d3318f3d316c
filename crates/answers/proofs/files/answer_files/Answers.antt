use Rattle.std.proofs.Common.{◌≡◌, ℕ, ◌≤◌, List, map, length, take, Ok, sym, refl, ap, ◌∙◌, subst, arith}
use Rattle.std.proofs.lemmas.List.{take_at, take-take, length-take-le}
use Rattle.std.proofs.lemmas.Result.{IfOk-at_ok, err_from_is_err_and}
use Rattle.std.proofs.lemmas.List.FromFn.{length-map-range_with_len}
use Rattle.fault.proofs.Passed.{value_passed, value_stopped, passed_filled}
use Rattle.action.specs.declared.deed.Deed.{Deed}
use Rattle.sheet.specs.declared.diagram.Diagram.{Diagram}
use Rattle.sheet_file.specs.Sheets.{sheet_verdict, diagram_of}
use Rattle.run_file.specs.Runs.{count_of, deed_at, run_deeds, run_verdict}
use Rattle.gate.specs.Words.{said}
use Rattle.answers.specs.declared.files.Refused.{Refused}
use Rattle.answers.specs.Answered.{Answered}
use Rattle.answers.proofs.Mapped.{mapped_ok, mapped_err}
use Rattle.answers.proofs.files.answer_files.Goals as goal

pub returns-in_err-map_err : goal.returns-in_err-map_err
returns-in_err-map_err c =
    let p = err_from_is_err_and c.from_residual.result c.from_residual.ensures.1 in
    let m = mapped_err _ c.load_sheet.result c.map_err.result c.in_err-map_err.field-0.0 c.map_err.ensures.cases c.in_err-map_err.was in
    let is : c.in_err-map_err.field-0.0 ≡ Refused.Sheet m.0 = m.2 in
    rw (p.1, p.2, is) (sym c.load_sheet.ensures.verdict ∙ m.1, refl)

pub returns-in_err-n : goal.returns-in_err-n
returns-in_err-n c =
    let run = c.args.run.now in
    let p = err_from_is_err_and c.from_residual-in_err-n.result c.from_residual-in_err-n.ensures.1 in
    let good = mapped_ok _ c.load_sheet.result c.map_err.result _ c.map_err.ensures.cases c.in_ok-map_err.was in
    let m = mapped_err _ c.load_run.result c.map_err-2.result c.in_err-n.field-0.0 c.map_err-2.ensures.cases c.in_err-n.was in
    let is : c.in_err-n.field-0.0 ≡ Refused.Run m.0 = m.2 in
    rw (p.1, p.2, is) (sym c.load_sheet.ensures.verdict ∙ good, sym (value_stopped (run_verdict run) (count_of run) m.0 (sym m.1 ∙ c.load_run.ensures.verdict)), refl)

pub slice_bounds-deeds-end : goal.slice_bounds-deeds-end
slice_bounds-deeds-end c =
    let few = IfOk-at_ok (λ n. n ≤ 8000) (mapped_ok _ c.load_run.result c.map_err-2.result c.in_ok-n.n c.map_err-2.ensures.cases c.in_ok-n.was) c.load_run.ensures.few in
    omega (arith, few, c.load_run.array_long)

pub slice_bounds-answer_deeds-end : goal.slice_bounds-answer_deeds-end
slice_bounds-answer_deeds-end c =
    let few = IfOk-at_ok (λ n. n ≤ 8000) (mapped_ok _ c.load_run.result c.map_err-2.result c.in_ok-n.n c.map_err-2.ensures.cases c.in_ok-n.was) c.load_run.ensures.few in
    sym (length-take-le _ c.load_run.new.place (omega (arith, few, c.load_run.array_long)))

pub returns : goal.returns
returns c =
    let rule = c.args.rule.now in
    let run = c.args.run.now in
    let n : ℕ = c.in_ok-n.n in
    let s = c.answer_deeds.ensures in
    let r : ℕ = c.answer_deeds.result.many in
    let ws = map said (take r c.answer_deeds.new.replies) in
    let good : Ok tt ≡ sheet_verdict rule = sym (mapped_ok _ c.load_sheet.result c.map_err.result _ c.map_err.ensures.cases c.in_ok-map_err.was) ∙ c.load_sheet.ensures.verdict in
    let loaded : c.load_run.result ≡ Ok n = mapped_ok _ c.load_run.result c.map_err-2.result n c.map_err-2.ensures.cases c.in_ok-n.was in
    let read = value_passed (run_verdict run) n (count_of run) (sym loaded ∙ c.load_run.ensures.verdict) in
    let few : n ≤ 8000 = IfOk-at_ok (λ n. n ≤ 8000) loaded c.load_run.ensures.few in
    let taken : length (take n c.load_run.new.place) ≡ n = length-take-le n c.load_run.new.place (omega (arith, few, c.load_run.array_long)) in
    let many : r ≡ count_of run = omega (arith, s.many, read.1) in
    let drawn : c.load_sheet.new.place.diagram ≡ diagram_of rule = c.load_sheet.ensures.place ∙ sym (passed_filled (sheet_verdict rule) (diagram_of rule) _ good) in
    let long : length (run_deeds run) ≡ r = length-map-range_with_len (deed_at run (count_of run)) 0 (count_of run) ∙ sym many in
    let all : take r (take n c.load_run.new.place) ≡ run_deeds run = take-take r n c.load_run.new.place (omega (arith, s.many)) ∙ ap (take r) (c.load_run.ensures.place ∙ sym (passed_filled (run_verdict run) _ _ read.0)) ∙ take_at (run_deeds run) _ r long in
    let On : Diagram → List Deed → Type 0 = λ d ds. Answered d ds ws c.answer_deeds.result.gate in
    record {
      rule_passes = sym good;
      run_passes = sym read.0;
      many = many;
      later = s.later;
      answered = subst (On (diagram_of rule)) all (subst (λ (d : Diagram). On d (take r (take n c.load_run.new.place))) drawn s.answered);
    }
