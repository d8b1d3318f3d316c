-- Firing a step.
use Rattle.std.specs.Prelude.{◌≡◌, Some, None, Option}
use Rattle.action.specs.declared.deed.Deed.{Deed}
use Rattle.action.specs.Deeds.{address, signal}
use Rattle.sheet.specs.declared.step.Step.{Step}

-- the one value that P holds of, or None where it holds of none
abbrev pub Finds : {X : Type 0} → (X → Type 0) → Option X → Type 0
Finds {X} P None = (u : X) → P u → ⊥
Finds {X} P (Some u) = P u × ((w : X) → P w → w ≡ u)

-- the step is of the deed's partner and signal
abbrev pub Suits : Step → Deed → Type 0
Suits s d = (address d ≡ s.address) × (signal d ≡ s.signal)
