use Rattle.std.proofs.Common.{length}
use Rattle.slowcheck.proofs.slow.+some_negative.Given as goal

abbrev pub decreases-some_negative : goal.decreases-some_negative
decreases-some_negative l = length l.others.now
