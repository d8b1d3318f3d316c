-- A spool: places of which the first ones are filled.
use Rattle.std.specs.Prelude.{◌≡◌, ℕ, ◌≤◌, List, length, take, drop}
use Rattle.action.specs.Traces.{tally}
use Rattle.host.specs.declared.spool.Spool.{Spool}

abbrev pub filled : {X : Type 0} → Spool X → List X
filled s = take s.used s.places.now

abbrev pub free : {X : Type 0} → Spool X → List X
free s = drop s.used s.places.now

-- a list no longer than the free places
abbrev pub Room : {X : Type 0} → Spool X → List X → Type 0
Room s l = length l ≤ length (free s)

abbrev pub counted : {X : Type 0} → (X → ℕ) → Spool X → ℕ → ℕ
counted kind s k = tally kind k (filled s)

-- an action took the first free place; the later places keep what they held, and are those of the same owner's list
pub record Filled {X : Type 0} (s : Spool X) (x : X) (t : Spool X) : Type 0 where
  pub later : free t ≡ drop 1 (free s)
  pub same : t.places.ghost_name ≡ s.places.ghost_name
