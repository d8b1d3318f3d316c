use Rattle.gate.proofs.Ledgers.{compose}
use Rattle.gate.proofs.laws.ledgers_compose.Goals as goal

pub returns : goal.returns
returns g c = λ w h. compose
