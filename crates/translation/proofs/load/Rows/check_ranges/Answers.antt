use Rattle.std.proofs.Common.{sym, ap, ◌∙◌, arith}
use Rattle.std.proofs.lemmas.Result.{err_from_is_err_and}
use Rattle.fault.specs.declared.fault.Fault.TheVariants.{TranslationRow}
use Rattle.fault.proofs.Lowest.{lowest_none, lowest_more, refuse_found, refuse_passed}
use Rattle.fault.proofs.Passed.{if_passed, if_stopped}
use Rattle.translation.specs.Files.{row_wrong}
use Rattle.translation.proofs.load.Rows.check_ranges.Goals as goal

pub loop-i-init : goal.loop-i-init
loop-i-init c = lowest_none _

pub loop-i-preserved : goal.loop-i-preserved
loop-i-preserved c =
    let same = c.fours-four-items.ensures.each c.loop-i.i c.loop-i-test.true in
    lowest_more _ _ c.loop-i.invariant (ap row_wrong (sym same) ∙ if_passed (TranslationRow c.loop-i.i) _ c.in_ok-check_row.ensures)

pub returns-in_err-check_row : goal.returns-in_err-check_row
returns-in_err-check_row c =
    let same = c.fours-four-items.ensures.each c.loop-i.i c.loop-i-test.true in
    let p = err_from_is_err_and c.from_residual.result c.from_residual.ensures.1 in
    let stop = if_stopped (TranslationRow c.loop-i.i) _ _ c.in_err-check_row.ensures in
    rw (p.1, p.2, ← stop.1) (refuse_found (λ i. TranslationRow i) _ _ _ c.loop-i.invariant (ap row_wrong (sym same) ∙ stop.0) (omega (arith, c.loop-i-test.true, c.fours-four-items.ensures.count)))

pub returns : goal.returns
returns c = refuse_passed (λ i. TranslationRow i) _ _ _ c.loop-i.invariant (omega (arith, c.loop-i-test.false, c.fours-four-items.ensures.count)) (omega (arith, c.loop-i.auto.i-end, c.fours-four-items.ensures.count))
