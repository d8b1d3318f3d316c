use Rattle.std.proofs.Common.{Bool, true, [], None, sym, refl, ap, subst}
use Rattle.action.proofs.Traces.{sub_none}
use Rattle.sheet.proofs.Both.{move}
use Rattle.followers.specs.Next.{end, Nexts}
use Rattle.machine.specs.Pairs.{may}
use Rattle.machine.specs.Charts.{kinds_of, follows_of}
use Rattle.machine.specs.Going.{Left}
use Rattle.machine.proofs.Going.{decides_same, first_left}
use Rattle.sheet_watch.specs.Watching.{may_of}
use Rattle.sheet_watch.proofs.Noted.{broken_all}
use Rattle.sheet_watch.proofs.watching.SheetWatch.new.Goals as goal

pub returns-then-first : goal.returns-then-first
returns-then-first c =
    let d = c.args.sheet.now.diagram in
    let chart = c.new-chart.result in
    let same = first_left d c.args.sheet.now.ok (kinds_of chart) c.new-chart.ensures.kinds (follows_of chart) c.new-chart.ensures.follows c.begin-first.result.marked.end (may c.first_marks-marks.result)
    (record { ends = decides_same _ _ (ap (λ (K : Nexts). (K end).marked) c.begin-first.ensures); steps = c.first_marks-marks.ensures }) in
    λ L. (λ _. ([], (same []).0 (move (sym c.if-first.true) tt), sub_none L), λ _. broken_all (kinds_of chart) (follows_of chart) true (may_of None) refl L)

pub returns-else-first : goal.returns-else-first
returns-else-first c =
    let d = c.args.sheet.now.diagram in
    let chart = c.new-chart.result in
    let marks = may c.first_marks-marks.result in
    let same = first_left d c.args.sheet.now.ok (kinds_of chart) c.new-chart.ensures.kinds (follows_of chart) c.new-chart.ensures.follows c.begin-first.result.marked.end marks
    (record { ends = decides_same _ _ (ap (λ (K : Nexts). (K end).marked) c.begin-first.ensures); steps = c.first_marks-marks.ensures }) in
    let e = c.if-first.false in
    λ L. (
      λ (l, h, s). (l, (same l).0 (subst (λ (b : Bool). Left (kinds_of chart) (follows_of chart) b marks l) (sym e) h), s),
      λ (l, h, s). (l, subst (λ (b : Bool). Left (kinds_of chart) (follows_of chart) b marks l) e ((same l).1 h), s),
    )
