-- What a watch over another shows it of a list.
use Rattle.std.specs.Prelude.{List, [], ◌∷◌, Some, None, Option}

abbrev pub joined : {X : Type 0} → Option X → List X → List X
joined (Some x) l = x ∷ l
joined None l = l

-- each action as what f makes of it, without those of which f makes none
abbrev pub shown : {X Y : Type 0} → (Y → Option X) → List Y → List X
shown f [] = []
shown f (y ∷ l) = joined (f y) (shown f l)
