-- Lists of actions.
use Rattle.std.specs.Prelude.{ℕ, ◌+◌, cond, List, [], ◌∷◌, ◌==◌}

-- a sub-trace: what remains of a list after leaving out zero or more of its actions
pub data Sub {X : Type 0} : List X → List X → Type 0 where
  none : Sub [] []
  keep : {x : X} {s l : List X} → Sub s l → Sub (x ∷ s) (x ∷ l)
  skip : {x : X} {s l : List X} → Sub s l → Sub s (x ∷ l)

-- how many actions of a list are of the kind k
abbrev pub tally : {X : Type 0} → (X → ℕ) → ℕ → List X → ℕ
tally kind k [] = 0
tally kind k (x ∷ l) = cond (k == kind x) 1 0 + tally kind k l
