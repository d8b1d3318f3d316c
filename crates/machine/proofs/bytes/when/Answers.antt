use Rattle.followers.proofs.Words.{bit_zero}
use Rattle.machine.proofs.bytes.when.Goals as goal

pub returns-else-on : goal.returns-else-on
returns-else-on c = λ p. rw c.if-on.false (bit_zero p)
