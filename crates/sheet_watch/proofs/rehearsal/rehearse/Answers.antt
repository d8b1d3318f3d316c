use Rattle.std.proofs.Common.{ℕ, List, Option, is_none, sym, subst, arith}
use Rattle.action.specs.declared.deed.Deed.{Deed}
use Rattle.machine.specs.Pairs.{may}
use Rattle.machine.specs.Charts.{kinds_of, follows_of}
use Rattle.sheet_watch.specs.Watching.{Within, may_of}
use Rattle.sheet_watch.specs.declared.watching.SheetWatch.{SheetWatch}
use Rattle.sheet_watch.proofs.Noted.{low, no_marks, broken_all}
use Rattle.sheet_watch.proofs.Rehearsed.{ahead_barred, ahead_more}
use Rattle.sheet_watch.proofs.rehearsal.rehearse.Goals as goal

-- what a watch forbids, were these its marks
abbrev At : SheetWatch → List Deed → Option (List ℕ) → Type 0
At w L o = Within (kinds_of w.chart) (follows_of w.chart) (is_none o) (may_of o) L

pub returns-in_default-clause-barred : goal.returns-in_default-clause-barred
returns-in_default-clause-barred c = λ _.
    let w = c.args.watch.now in
    broken_all (kinds_of w.chart) (follows_of w.chart) (is_none w.marks) (may_of w.marks) (no_marks w.marks c.in_default.not-Some) _

pub loop-i-preserved : goal.loop-i-preserved
loop-i-preserved c =
    let w = c.args.watch.now in
    let cur = c.loop-i.guard.marks.now in
    ahead_more (kinds_of w.chart) (follows_of w.chart) (may c.in-Some.marks) c.args.deeds.now (may cur) (may c.advance.new.marks) (low cur) c.loop-i.i c.loop-i-test.true (record { address = 0; signal = 0; first = 0; second = 0 }) c.advance.result c.advance.ensures.ended c.advance.ensures.marks c.loop-i.invariant c.if-advance.false

pub returns-then-advance-clause-pass : goal.returns-then-advance-clause-pass
returns-then-advance-clause-pass c = λ k h x. c.loop-i.invariant.0 k h (subst (At c.args.watch.now _) c.in-Some.is x)

pub returns-then-advance-clause-barred : goal.returns-then-advance-clause-barred
returns-then-advance-clause-barred c = λ h.
    let w = c.args.watch.now in
    let cur = c.loop-i.guard.marks.now in
    subst (At w _) (sym c.in-Some.is)
    (ahead_barred (kinds_of w.chart) (follows_of w.chart) (may c.in-Some.marks) c.args.deeds.now (may cur) (may c.advance.new.marks) (low cur) c.loop-i.i c.loop-i-test.true (record { address = 0; signal = 0; first = 0; second = 0 }) c.advance.result c.advance.ensures.ended c.advance.ensures.marks c.loop-i.invariant c.if-advance.true)

pub returns-clause-pass : goal.returns-clause-pass
returns-clause-pass c = λ k h x. c.loop-i.invariant.0 k (omega arith) (subst (At c.args.watch.now _) c.in-Some.is x)
