use Rattle.std.proofs.Common.{arith}
use Rattle.sheet.specs.Forbid.{fragment}
use Rattle.sheet.proofs.Sound.{sound}
use Rattle.followers.specs.Words.{nexts}
use Rattle.followers.specs.Followers.{begin_of}
use Rattle.machine.proofs.Started.{first_spread}
use Rattle.machine.proofs.chart.first_marks.Goals as goal

pub bounds-here-place : goal.bounds-here-place
bounds-here-place c = let g = sound c.args.sheet.now.diagram c.args.sheet.now.ok in omega (arith, c.place.ensures, g.x_fits, g.y_fits)

pub returns : goal.returns
returns c =
    let d = c.args.sheet.now.diagram in
    let g = sound d c.args.sheet.now.ok in
    first_spread d.start g.x_fits g.y_fits c.place.result c.place.ensures (nexts c.begin-next.result) (begin_of (fragment d) d.count) c.begin-next.ensures c.spread_all.new.marks c.spread_all.ensures
