-- What a pair of watches forbids.
use Rattle.std.specs.Prelude.{◌⊎◌, List}
use Rattle.watch.specs.declared.pair.Pair.{Pair}

-- what either of two meanings forbids
abbrev pub Either : {X : Type 0} → (List X → Type 0) → (List X → Type 0) → List X → Type 0
Either F G l = F l ⊎ G l

abbrev pub pair_forbids : {V W X : Type 0} → (V → List X → Type 0) → (W → List X → Type 0) → Pair V W → List X → Type 0
pair_forbids F G p = Either (F p.first) (G p.second)
