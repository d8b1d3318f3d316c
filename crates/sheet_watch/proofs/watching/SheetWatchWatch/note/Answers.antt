use Rattle.std.proofs.Common.{ℕ, Bool, true, false, T, ◌⊎◌, ◌↔◌, List, None, Option, is_none, sym, refl, subst}
use Rattle.watch.specs.Meaning.{Shifted}
use Rattle.machine.specs.Pairs.{may}
use Rattle.machine.specs.Charts.{kinds_of, follows_of}
use Rattle.machine.specs.Going.{Ends}
use Rattle.sheet_watch.specs.Watching.{Within, may_of}
use Rattle.sheet_watch.proofs.Noted.{low, no_marks, broken_all, breaks, breaks_not, noted_on, noted_back}
use Rattle.sheet_watch.proofs.watching.SheetWatchWatch.note.Goals as goal

pub returns-then-advance : goal.returns-then-advance
returns-then-advance c =
    let w = c.args.self.now in
    let F = kinds_of w.chart in
    let K = follows_of w.chart in
    let a = c.args.a.now in
    let xs = c.in-Some.marks in
    let new = may c.advance.new.marks in
    let Ended : Bool → Type 0 = λ b. T b ↔ (T false ⊎ Ends F K (may xs) a) in
    let on = noted_on F K (may xs) (low xs) a false true new (subst Ended c.if-advance.true (breaks false c.advance.result (Ends F K (may xs) a) c.advance.ensures.ended)) c.advance.ensures.marks in
    let P : Option (List ℕ) → Type 0 = λ o. Shifted (Within F K (is_none o) (may_of o)) a (Within F K true (may_of None)) in
    subst P (sym c.in-Some.is) (record { on = λ l _. on l (broken_all F K true new refl l); back = λ l _. broken_all F K true (may_of None) refl l })

pub returns-else-advance : goal.returns-else-advance
returns-else-advance c =
    let w = c.args.self.now in
    let F = kinds_of w.chart in
    let K = follows_of w.chart in
    let a = c.args.a.now in
    let xs = c.in-Some.marks in
    let new = may c.advance.new.marks in
    let ends = breaks_not c.advance.result (Ends F K (may xs) a) c.if-advance.false c.advance.ensures.ended in
    let P : Option (List ℕ) → Type 0 = λ o. Shifted (Within F K (is_none o) (may_of o)) a (Within F K false new) in
    subst P (sym c.in-Some.is) (record {
      on = noted_on F K (may xs) (low xs) a false false new ends c.advance.ensures.marks;
      back = noted_back F K (may xs) (low xs) a false false new ends c.advance.ensures.marks;
    })

pub returns-in_default : goal.returns-in_default
returns-in_default c =
    let w = c.args.self.now in
    let all = broken_all (kinds_of w.chart) (follows_of w.chart) (is_none w.marks) (may_of w.marks) (no_marks w.marks c.in_default.not-Some) in
    record { on = λ l _. all _; back = λ l _. all l }
