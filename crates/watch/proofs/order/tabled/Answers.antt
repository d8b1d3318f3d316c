use Rattle.std.proofs.Common.{◌<◌, length, ap, arith, length-set, below_more}
use Rattle.watch.proofs.Tables.{Low, started, added, grown, ended}
use Rattle.watch.proofs.order.tabled.Goals as goal

pub loop-pair-init : goal.loop-pair-init
loop-pair-init c = record {
  low = λ j l. absurd (omega arith);
  table = started c.args.pairs.now 32;
}

pub loop-pair-preserved : goal.loop-pair-preserved
loop-pair-preserved c =
    let p = c.in_ok-first.ensures in
    let q = c.in_ok-second.ensures in
    let long = simp length-set at (ap length c.add.ensures) in
    let within : c.in_ok-first.first.value < length c.loop-pair.after = omega (arith, long, c.add.array_long) in record {
      low = below_more (Low c.args.pairs.now) _ c.loop-pair.invariant.low (p.0, q.0);
      table = grown c.args.pairs.now c.loop-pair.pair-index _ _ c.loop-pair.after c.add.new.after p.1 q.1 c.loop-pair.invariant.table (λ a b. rw c.add.ensures (added c.loop-pair.after c.in_ok-first.first.value c.in_ok-second.second.value within a b));
    }

pub returns : goal.returns
returns c = ended c.args.pairs.now c.loop-pair.pair-index c.loop-pair.after c.loop-pair-test.false c.loop-pair.auto.pair-index-end c.loop-pair.invariant.low c.loop-pair.invariant.table
