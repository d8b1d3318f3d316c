use Rattle.std.proofs.lemmas.Bool.{lt-ltb}
use Rattle.followers.specs.Words.{bit}
use Rattle.followers.proofs.sets.Targets.has_step.Goals as goal

pub returns-then-p-lt64 : goal.returns-then-p-lt64
unfolding bit
returns-then-p-lt64 c = rw (lt-ltb _ _ c.if-p-lt64.true)
