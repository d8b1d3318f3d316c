use Rattle.std.proofs.Common.{◌≡◌, Bool, [], Decides, is_none, sym, subst, rules}
use Rattle.machine.specs.Charts.{kinds_of, follows_of}
use Rattle.sheet_watch.specs.Watching.{may_of, Forbidden}
use Rattle.sheet_watch.proofs.Noted.{within_none}
use Rattle.sheet_watch.proofs.watching.SheetWatchWatch.broken.Goals as goal

pub returns : goal.returns
returns c =
    let w = c.args.self.now in
    let e : c.is_none.result ≡ is_none w.marks = search rules in
    subst (λ (b : Bool). Decides b (Forbidden w [])) (sym e) (within_none (kinds_of w.chart) (follows_of w.chart) (is_none w.marks) (may_of w.marks))
