-- Runs side by side, deed by deed.
use Rattle.std.specs.Prelude.{◌≡◌, ℕ, ◌<◌, Bool, true, ◌||◌, T, ◌⊎◌, ◌↔◌, List, [], ◌∷◌, Decides}
use Rattle.action.specs.declared.deed.Deed.{Deed}
use Rattle.sheet.specs.declared.diagram.Fragment.{Fragment}
use Rattle.sheet.specs.declared.diagram.Variables.{Variables}
use Rattle.sheet.specs.Empties.{has}
use Rattle.followers.specs.Next.{at, end, Nexts}
use Rattle.followers.specs.Accepts.{Fires, Accepts}
use Rattle.machine.specs.Pairs.{May}

module _ (F : ℕ → Fragment) (follow : ℕ → Nexts) where
  -- some step below n takes the deed to a marked end
  abbrev pub EndsBelow : May → Deed → ℕ → Type 0
  EndsBelow may d n =
      (p : ℕ) × (v : Variables) × (m : Bool) × (u : Variables) × (k : Bool)
      × (p < n) × T (has (may p v) m) × Fires (F p) v d u × T (has (follow p end) k) × T (m || k)

  -- some step below n takes the deed to where the step q may be taken, from u and with the mark k
  abbrev pub MovesBelow : May → Deed → ℕ → ℕ → Variables → Bool → Type 0
  MovesBelow may d n q u k =
      (p : ℕ) × (v : Variables) × (m : Bool) × (j : Bool)
      × (p < n) × T (has (may p v) m) × Fires (F p) v d u × T (has (follow p (at q)) j) × (m || j ≡ k)

  -- the deed leads to a marked end; every step stands below 64
  abbrev pub Ends : May → Deed → Type 0
  Ends may d = EndsBelow may d 64

  -- after is before, and what the deed leads to from the old
  abbrev pub Adds : May → Deed → May → May → Type 0
  Adds old d before after = (q : ℕ) (u : Variables) (k : Bool) → T (has (after q u) k) ↔ (T (has (before q u) k) ⊎ MovesBelow old d 64 q u k)

  -- the deeds that are left to come lead to a marked end: none, where one is reached, or those that some step begins
  abbrev pub Left : Bool → May → List Deed → Type 0
  Left ended may [] = T ended
  Left ended may (d ∷ l) =
      (p : ℕ) × (v : Variables) × (m : Bool) × (u : Variables) × T (has (may p v) m) × Fires (F p) v d u × Accepts F follow (follow p) u m l

-- what may come first, before any deed, from the variables v
pub record Begun (K : Nexts) (v : Variables) (ended : Bool) (may : May) : Type 0 where
  pub ends : Decides ended (T (has (K end) true))
  pub steps : (p : ℕ) (u : Variables) (m : Bool) → T (has (may p u) m) ↔ ((u ≡ v) × T (has (K (at p)) m))
