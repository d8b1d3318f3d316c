use Rattle.std.proofs.Common.{◌∙◌}
use Rattle.std.proofs.lemmas.Nat.{one_shl}
use Rattle.followers.specs.Next.{only_step}
use Rattle.followers.proofs.Words.{nexts_same, step_held, not_step}
use Rattle.followers.proofs.sets.NextSet.only_step.Goals as goal

pub returns : goal.returns
returns c = nexts_same _ (only_step c.args.i) (step_held c.args.i _ c.requires (one_shl c.args.i 64 c.requires)) (λ t. c.none.ensures t ∙ not_step c.args.i t)
