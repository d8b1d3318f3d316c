use Rattle.std.proofs.Common.{ℕ, ◌<◌}
use Rattle.watch.proofs.Tables.{Table, Low}
use Rattle.watch.proofs.order.tabled.Given as goal

abbrev pub invariant-loop-pair : goal.invariant-loop-pair
invariant-loop-pair l = record {
  low : (j : ℕ) → j < l.pair-index → Low l.pairs j;
  table : Table l.pairs l.pair-index l.after;
}
