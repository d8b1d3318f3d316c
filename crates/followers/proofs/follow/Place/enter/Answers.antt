use Rattle.std.proofs.Common.{ap, ◌∙◌, ap₂}
use Rattle.sheet.specs.declared.marks.Marks.{Marks}
use Rattle.followers.specs.Next.{join, after}
use Rattle.followers.specs.Words.{nexts}
use Rattle.followers.proofs.follow.Place.enter.Goals as goal

pub returns : goal.returns
returns c = c.union.ensures ∙ ap₂ join c.first.ensures (c.after.ensures ∙ ap (λ (k : Marks). after k (nexts c.args.next)) c.empty_runs.ensures)
