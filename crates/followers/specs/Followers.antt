-- What comes first in a fragment and what may come after a part of it, by recursions over the index.
use Rattle.std.specs.Prelude.{ℕ, ◌-◌, cond, ◌==◌}
use Rattle.sheet.specs.declared.diagram.Fragment.{Fragment}
use Rattle.sheet.specs.declared.diagram.Fragment.TheVariants.{Skip, Seq, Alt, Loop, Neg}
use Rattle.sheet.specs.declared.marks.Marks.{Marks}
use Rattle.sheet.specs.Index.{each}
use Rattle.sheet.specs.Empties.{empty_at}
use Rattle.followers.specs.Next.{Nexts, no_next, only_end, only_step, join, after, marked}

-- the steps that a run of the fragment i can take first, N being the marks of the empty runs and A what comes first in its parts
abbrev pub first_of : Fragment → ℕ → (ℕ → Marks) → (ℕ → Nexts) → Nexts
first_of Skip i N A = no_next
first_of (Fragment.Step s) i N A = only_step i
first_of (Seq l r) i N A = join (A l) (after (N l) (A r))
first_of (Alt l r) i N A = join (A l) (A r)
first_of (Loop b) i N A = after (N i) (A b)
first_of (Neg b) i N A = A b

abbrev pub first_at : (ℕ → Fragment) → ℕ → Nexts
first_at F = each no_next (λ i A. first_of (F i) i (empty_at F) A)

-- what comes next where a fragment begins, K being what comes after it
abbrev pub enter : Marks → Nexts → Nexts → Nexts
enter N A K = join A (after N K)

abbrev pub enter_at : (ℕ → Fragment) → ℕ → Nexts → Nexts
enter_at F i K = enter (empty_at F i) (first_at F i) K

-- what comes after a round of the loop i over b: what comes after the loop, or another round
abbrev pub again_at : (ℕ → Fragment) → ℕ → ℕ → Nexts → Nexts
again_at F i b K = after (empty_at F i) (join K (first_at F b))

-- what comes after a part of a fragment, from what comes after the fragment
abbrev pub Later : Type 0
Later = Nexts → Nexts

abbrev pub never : Later
never K = no_next

-- by the kind of the fragment i, G being what comes after the part in each part of i
abbrev pub follow_of : (ℕ → Fragment) → Fragment → ℕ → (ℕ → Later) → Later
follow_of F Skip i G K = no_next
follow_of F (Fragment.Step s) i G K = no_next
follow_of F (Seq l r) i G K = join (G l (enter_at F r K)) (G r K)
follow_of F (Alt l r) i G K = join (G l K) (G r K)
follow_of F (Loop b) i G K = G b (again_at F i b K)
follow_of F (Neg b) i G K = G b (marked K)

-- what may come after the part p of the fragment i, K being what comes after i: K where p is i itself
abbrev pub follow_in : (ℕ → Fragment) → ℕ → ℕ → (ℕ → Later) → Later
follow_in F p i G K = cond (p == i) K (follow_of F (F i) i G K)

abbrev pub follow_at : (ℕ → Fragment) → ℕ → ℕ → Later
follow_at F p = each never (λ i G. follow_in F p i G)

-- in a whole of n fragments: what may come first, and what may come after the fragment p
abbrev pub begin_of : (ℕ → Fragment) → ℕ → Nexts
begin_of F n = enter_at F (n - 1) only_end

abbrev pub next_after : (ℕ → Fragment) → ℕ → ℕ → Nexts
next_after F n p = follow_at F p (n - 1) only_end
