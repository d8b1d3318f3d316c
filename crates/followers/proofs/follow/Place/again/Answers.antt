use Rattle.std.proofs.Common.{ap, ◌∙◌, ap₂}
use Rattle.followers.specs.Next.{join, after}
use Rattle.followers.specs.Words.{nexts}
use Rattle.followers.specs.Followers.{first_at}
use Rattle.followers.proofs.Following.{same_place}
use Rattle.followers.proofs.follow.Place.again.Goals as goal

pub returns : goal.returns
returns c =
    c.after.ensures ∙ ap₂ after c.empty_runs.ensures (c.union-round.ensures ∙ ap (join (nexts c.args.next)) (c.first.ensures ∙ same_place first_at c.part.ensures.sheet c.part.ensures.index))
