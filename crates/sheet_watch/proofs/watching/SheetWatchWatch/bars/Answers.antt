use Rattle.std.proofs.Common.{ℕ, false, List, [], ◌∷◌, Some, Option, Decides, is_none, sym, refl, ap, subst}
use Rattle.std.proofs.lemmas.Bool.Decides.{Decides-like}
use Rattle.machine.specs.Charts.{kinds_of, follows_of}
use Rattle.sheet_watch.specs.Watching.{Within, may_of}
use Rattle.sheet_watch.proofs.Noted.{low, broken_all, ends_within, within_ends}
use Rattle.sheet_watch.proofs.watching.SheetWatchWatch.bars.Goals as goal

pub returns-in-Some : goal.returns-in-Some
returns-in-Some c =
    let w = c.args.self.now in
    let F = kinds_of w.chart in
    let K = follows_of w.chart in
    let a = c.args.a.now in
    let xs = c.in-Some.marks in
    let P : Option (List ℕ) → Type 0 = λ o. Decides c.ends.result (Within F K (is_none o) (may_of o) (a ∷ [])) in
    subst P (sym c.in-Some.is) (Decides-like c.ends.result (ends_within F K (may_of (Some xs)) (low xs) a false) (within_ends F K (may_of (Some xs)) (low xs) a false refl) c.ends.ensures)

pub returns-in-None : goal.returns-in-None
returns-in-None c = let w = c.args.self.now in (λ _. broken_all (kinds_of w.chart) (follows_of w.chart) (is_none w.marks) (may_of w.marks) (ap is_none c.in-None.is) _, λ _. refl)
