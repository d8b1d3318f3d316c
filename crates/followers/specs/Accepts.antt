-- Which lists lead from what may come next to a marked end.
use Rattle.std.specs.Prelude.{ℕ, Bool, ◌||◌, T, List, [], ◌∷◌}
use Rattle.action.specs.declared.deed.Deed.{Deed}
use Rattle.sheet.specs.declared.diagram.Fragment.{Fragment}
use Rattle.sheet.specs.declared.diagram.Fragment.TheVariants.{Skip, Seq, Alt, Loop, Neg}
use Rattle.sheet.specs.declared.diagram.Variables.{Variables}
use Rattle.sheet.specs.Meaning.{Takes}
use Rattle.sheet.specs.Empties.{has}
use Rattle.followers.specs.Next.{at, end, Nexts}

-- the fragment is a step that takes the deed
abbrev pub Fires : Fragment → Variables → Deed → Variables → Type 0
Fires Skip v d u = ⊥
Fires (Fragment.Step s) v d u = Takes s v d u
Fires (Seq l r) v d u = ⊥
Fires (Alt l r) v d u = ⊥
Fires (Loop b) v d u = ⊥
Fires (Neg b) v d u = ⊥

-- from K, with the variables v and the mark m so far, the deeds lead to a marked end
abbrev pub Accepts : (ℕ → Fragment) → (ℕ → Nexts) → Nexts → Variables → Bool → List Deed → Type 0
Accepts F follow K v m [] = (n : Bool) × T (has (K end) n) × T (m || n)
Accepts F follow K v m (d ∷ l) =
    (p : ℕ) × (n : Bool) × (u : Variables) × T (has (K (at p)) n) × Fires (F p) v d u × Accepts F follow (follow p) u (m || n) l
