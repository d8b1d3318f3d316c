-- The number of each outcome of an action at its host.
use Rattle.std.specs.Prelude.{ℕ}
use Rattle.host.specs.declared.outcome.Outcome.{Outcome}
use Rattle.host.specs.declared.outcome.Outcome.TheVariants.{Performed, Declined}

abbrev pub number : Outcome → ℕ
number Performed = 0
number Declined = 22
