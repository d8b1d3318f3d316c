use Rattle.std.proofs.Common.{◌≡◌, length, take}
use Rattle.gate.specs.Ledger.{submits}
use Rattle.answers.proofs.deeds.submit_all.Given as goal

abbrev pub invariant-loop-i : goal.invariant-loop-i
invariant-loop-i l = record {
  long : length l.asks ≡ 8000;
  so_far : take l.i l.asks ≡ submits (take l.i l.deeds);
}
