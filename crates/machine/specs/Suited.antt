-- Which fragments fire on a deed.
use Rattle.std.specs.Prelude.{◌≡◌, Some, None, Option}
use Rattle.action.specs.declared.deed.Deed.{Deed}
use Rattle.sheet.specs.declared.diagram.Fragment.{Fragment}
use Rattle.sheet.specs.declared.diagram.Variables.{Variables}
use Rattle.followers.specs.Accepts.{Fires}
use Rattle.machine.specs.declared.fire.Firing.{Firing}

-- the step that a fragment is, with the deed, where it suits that; without one it does not fire
abbrev pub Suited : Fragment → Deed → Option Firing → Type 0
Suited f d None = (v u : Variables) → Fires f v d u → ⊥
Suited f d (Some t) = (f ≡ Fragment.Step t.step) × (t.deed ≡ d)
