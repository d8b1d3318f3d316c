use Rattle.std.proofs.Common.{◌≡◌, ◌<◌, length, take, refl, arith, length-take}
use Rattle.std.proofs.lemmas.List.{take_all, take_more_set}
use Rattle.gate.specs.Words.{said}
use Rattle.gate.specs.Chains.{guarding, end}
use Rattle.gate.proofs.Links.{chain_more, later_more}
use Rattle.gate.proofs.Following.{chain_keeps}
use Rattle.gate.proofs.gate.Gate.serve.Goals as goal

pub loop-i-init : goal.loop-i-init
loop-i-init g c = record { later = refl; chain = end }

pub loop-i-preserved : goal.loop-i-preserved
loop-i-preserved g c =
    let few = take c.min-many.result c.args.asks.now in
    let within : c.loop-i.i < length c.loop-i.replies = omega (arith, length-take c.min-many.result c.args.asks.now) in record {
      later = later_more c.loop-i.i c.loop-i.replies c.args.replies.now c.reply.result c.loop-i.invariant.later;
      chain = rw (take_more_set c.loop-i.replies c.loop-i.i c.reply.result within)
          (chain_more said few c.loop-i.i c.ask-item.result (take c.loop-i.i c.loop-i.replies) c.reply.result c.loop-i-test.true c.ask-item.is c.loop-i.invariant.chain c.reply.ensures);
    }

pub returns : goal.returns
returns g c =
    let few = take c.min-many.result c.args.asks.now in
    let all_of : c.loop-i.i ≡ c.min-many.result = omega (arith, length-take c.min-many.result c.args.asks.now) in
    let chain = rw all_of at (rw (take_all c.loop-i.i few c.loop-i-test.false) at c.loop-i.invariant.chain) in
    let kept = chain_keeps (guarding g.W.Watch g.H.Host g.W.Act.Action) c.args.self.now chain in
    record {
      many = c.min-many.ensures;
      later = rw all_of at c.loop-i.invariant.later;
      chain = chain;
      ledger = kept.ledger;
      decided = kept.decided;
      carried = kept.carried;
    }
