use Rattle.std.proofs.Common.{inl, inr, arith}
use Rattle.machine.proofs.moves.spread_all.Goals as goal

pub loop-q-init : goal.loop-q-init
loop-q-init c = λ j u m. (λ h. inl h, λ x. elim x [ inl h ↦ h | inr h ↦ absurd (omega (arith, h.0)) ])
