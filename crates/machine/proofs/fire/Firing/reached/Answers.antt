use Rattle.std.proofs.Common.{ℕ, ◌<◌, subst, arith, rules}
use Rattle.machine.proofs.Places.{pair, Lands, none_seen, byte_at, reached_more}
use Rattle.machine.proofs.fire.Firing.reached.Goals as goal

pub loop-i-init : goal.loop-i-init
loop-i-init c = λ u m. (λ h. absurd (none_seen 256 u m h), λ x. absurd (omega (arith, x.1)))

pub loop-i-preserved : goal.loop-i-preserved
loop-i-preserved c =
    let h : c.loop-i.i < 256 = search rules in
    let b = byte_at c.args.marks.now c.args.p _ c.loop-i.i (omega (arith, h)) in
    let L : ℕ → Type 0 = λ b. Lands c.loop-i.reached b c.args.self.step (pair c.loop-i.i) c.args.self.deed c.land.new.reached in
    reached_more c.args.marks.now c.loop-i.reached c.land.new.reached c.args.p c.loop-i.i c.args.self.step c.args.self.deed c.requires h c.loop-i.invariant (subst L b c.land.ensures)
