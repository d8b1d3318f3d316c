use Rattle.std.proofs.Common.{refl}
use Rattle.gate.specs.Chains.{guarding, known}
use Rattle.gate.proofs.Agreeing.{same_ledgers}
use Rattle.gate.proofs.laws.ledgers_agree.Goals as goal

pub returns : goal.returns
returns g c = λ w h v k same-F same-C same-n. same_ledgers (known (guarding g.W.Watch g.H.Host g.W.Act.Action) w h) (known (guarding g.V.Watch g.K.Host g.W.Act.Action) v k) same-F same-C same-n refl
