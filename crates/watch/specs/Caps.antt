-- What a cap forbids.
use Rattle.std.specs.Prelude.{◌≡◌, ℕ, ◌<◌, ◌≤◌, List, Some, None, Option, Ok, Err, Result}
use Rattle.fault.specs.declared.fault.Fault.{Fault}
use Rattle.fault.specs.declared.fault.Fault.TheVariants.{OutOfRange}
use Rattle.action.specs.Ranges.{highest_kind}
use Rattle.action.specs.Traces.{tally}
use Rattle.watch.specs.declared.cap.Cap.{Cap}
use Rattle.watch.specs.Meaning.{Alike}

-- more actions of the kind k than the limit
abbrev pub Over : {X : Type 0} → (X → ℕ) → ℕ → ℕ → List X → Type 0
Over kind k limit l = limit < tally kind k l

-- a cap knows how many are left to it; once there were too many, it forbids every list
abbrev pub OverLeft : {X : Type 0} → (X → ℕ) → ℕ → Option ℕ → List X → Type 0
OverLeft kind k None l = Unit {0}
OverLeft kind k (Some left) l = Over kind k left l

abbrev pub cap_forbids : {X : Type 0} → (X → ℕ) → Cap X → List X → Type 0
cap_forbids kind c = OverLeft kind c.kind.value c.left

-- a new cap, or refusal 13 exactly where k is no kind
abbrev pub NewCap : {X : Type 0} → (X → ℕ) → ℕ → ℕ → Result (Cap X) Fault → Type 0
NewCap kind k limit (Ok c) = (k ≤ highest_kind) × Alike (cap_forbids kind c) (Over kind k limit)
NewCap kind k limit (Err f) = (highest_kind < k) × (f ≡ OutOfRange)
