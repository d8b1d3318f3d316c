use Rattle.std.proofs.Common.{◌+◌, ◌*◌, max}
use Rattle.slowcheck.proofs.slow.Runs.+running.Given as goal

abbrev pub decreases-alt : goal.decreases-alt
decreases-alt l = 16 * (1 + max l.l l.r)

abbrev pub decreases-fragment : goal.decreases-fragment
decreases-fragment l = 16 * l.i + 15

abbrev pub decreases-rounds : goal.decreases-rounds
decreases-rounds l = 16 * (1 + l.b) + l.most

abbrev pub decreases-seq : goal.decreases-seq
decreases-seq l = 16 * (1 + max l.l l.r)
