use Rattle.std.proofs.Common.{◌≡◌, map, take, drop}
use Rattle.gate.specs.Words.{said}
use Rattle.gate.specs.Chains.{guarding, Chain}
use Rattle.gate.proofs.gate.Gate.serve.Given as goal

abbrev pub invariant-loop-i : goal.invariant-loop-i
invariant-loop-i g l = record {
  later : drop l.i l.replies ≡ drop l.i l.initial.replies;
  chain : Chain (guarding g.W.Watch g.H.Host g.W.Act.Action) l.initial.self (take l.i (take l.many l.asks)) (map said (take l.i l.replies)) l.self;
}
