-- What a watch's meaning, the lists that it forbids, is to keep.
use Rattle.std.specs.Prelude.{List, ◌∷◌}
use Rattle.action.specs.Traces.{Sub}

-- two facts that hold together or not at all
abbrev pub Iff : Type 0 → Type 0 → Type 0
Iff P Q = (P → Q) × (Q → P)

-- two meanings that hold of the same lists
abbrev pub Alike : {X : Type 0} → (List X → Type 0) → (List X → Type 0) → Type 0
Alike {X} F G = (l : List X) → Iff (F l) (G l)

-- after x was noted, a list is what x and then the list was before
pub record Shifted {X : Type 0} (before : List X → Type 0) (x : X) (after : List X → Type 0) : Type 0 where
  pub on : (l : List X) → after l → before (x ∷ l)
  pub back : (l : List X) → before (x ∷ l) → after l

-- a list that has a forbidden list as a sub-trace is forbidden
abbrev pub LeavesOut : {X : Type 0} → (List X → Type 0) → Type 0
LeavesOut {X} F = (s l : List X) → Sub s l → F s → F l
