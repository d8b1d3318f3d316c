-- What a host's meaning is to keep.
use Rattle.std.specs.Prelude.{◌≡◌, ℕ, ◌+◌, cond, List, [], ◌∷◌, ◌++◌, Some, None, Ok, Err, Option, Result, nat_le}
use Rattle.fault.specs.declared.fault.Fault.{Fault}
use Rattle.fault.specs.declared.fault.Fault.TheVariants.{OutOfRange}
use Rattle.action.specs.Ranges.{highest_kind}
use Rattle.action.specs.Traces.{tally}

-- a record, where one is kept, followed by a list
abbrev pub followed : {X : Type 0} → Option (List X) → List X → Option (List X)
followed None d = None
followed (Some l) d = Some (l ++ d)

-- what is answered where the count of the kind k, of 0 to 31, is asked for and is m
abbrev pub count_of : ℕ → ℕ → Result ℕ Fault
count_of k m = cond (nat_le k highest_kind) (Ok m) (Err OutOfRange)

-- what hosts H of actions X mean: the lists that one can do, its counts by kind, its record where it keeps one,
-- its own step (what else doing an action changes), and the kind of an action
pub record Hosting (H X : Type 0) : Type 1 where
  pub can : H → List X → Type 0
  pub counts : H → ℕ → ℕ
  pub recorded : H → Option (List X)
  pub did : H → X → H → Type 0
  pub kind : X → ℕ

-- the host g did x, and is now h
pub record Performs {H X : Type 0} (m : Hosting H X) (g : H) (x : X) (h : H) : Type 0 where
  -- it can do a list exactly when it could do x followed by the list
  pub can_on : (l : List X) → m.can h l → m.can g (x ∷ l)
  pub can_back : (l : List X) → m.can g (x ∷ l) → m.can h l
  pub counted : (k : ℕ) → m.counts h k ≡ m.counts g k + tally m.kind k (x ∷ [])
  pub kept : m.recorded h ≡ followed (m.recorded g) (x ∷ [])
  pub stepped : m.did g x h

-- x was asked of the host g, which answered n and is now h: it could do x and did it, or it could not and is as it was
pub data Attempts {H X : Type 0} (m : Hosting H X) (g : H) (x : X) (n : ℕ) (h : H) : Type 0 where
  performs : n ≡ 0 → m.can g (x ∷ []) → Performs m g x h → Attempts m g x n h
  declines : n ≡ 22 → (m.can g (x ∷ []) → ⊥) → h ≡ g → Attempts m g x n h

-- a new host: it can do exactly the lists that P holds of, counts 0 of each kind, and its record is r
pub record Begins {X : Type 0} (can : List X → Type 0) (counts : ℕ → ℕ) (recorded : Option (List X)) (P : List X → Type 0) (r : Option (List X)) : Type 0 where
  pub only : (l : List X) → can l → P l
  pub every : (l : List X) → P l → can l
  pub zero : (k : ℕ) → counts k ≡ 0
  pub record_is : recorded ≡ r
