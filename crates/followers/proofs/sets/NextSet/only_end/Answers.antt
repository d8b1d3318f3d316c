use Rattle.std.proofs.Common.{◌∙◌}
use Rattle.followers.specs.Next.{only_end}
use Rattle.followers.proofs.Words.{nexts_same, end_held, not_end}
use Rattle.followers.proofs.sets.NextSet.only_end.Goals as goal

pub returns : goal.returns
returns c = nexts_same _ only_end end_held (λ t. c.none.ensures t ∙ not_end t)
