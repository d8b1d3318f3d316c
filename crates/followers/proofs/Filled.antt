-- Tables of emptiness, first steps and followers, filled as each fragment says of its parts.
use Rattle.std.proofs.Common.{◌≡◌, ℕ, ◌<◌}
use Rattle.sheet.specs.declared.diagram.Fragment.{Fragment}
use Rattle.sheet.specs.declared.diagram.Fragment.TheVariants.{Skip, Seq, Alt, Loop, Neg}
use Rattle.sheet.specs.declared.marks.Marks.{Marks}
use Rattle.sheet.specs.Empties.{empty_of}
use Rattle.sheet.specs.Laws.{Earlier}
use Rattle.followers.specs.Next.{Nexts, join, after, marked}
use Rattle.followers.specs.Followers.{first_of, enter}

-- what comes after the parts of a fragment i, from what comes after i
abbrev pub PassesOn : Fragment → ℕ → (ℕ → Marks) → (ℕ → Nexts) → (ℕ → Nexts) → Type 0
PassesOn Skip i N A K = Unit {0}
PassesOn (Fragment.Step s) i N A K = Unit {0}
PassesOn (Seq l r) i N A K = (K l ≡ enter (N r) (A r) (K r)) × (K r ≡ K i)
PassesOn (Alt l r) i N A K = (K l ≡ K i) × (K r ≡ K i)
PassesOn (Loop b) i N A K = K b ≡ after (N i) (join (K i) (A b))
PassesOn (Neg b) i N A K = K b ≡ marked (K i)

pub record Filled (F : ℕ → Fragment) (n : ℕ) (null : ℕ → Marks) (first follow : ℕ → Nexts) : Type 0 where
  pub earlier : (i : ℕ) → i < n → Earlier (F i) i
  pub nulls : (i : ℕ) → i < n → null i ≡ empty_of (F i) null
  pub firsts : (i : ℕ) → i < n → first i ≡ first_of (F i) i null first
  pub follows : (i : ℕ) → i < n → PassesOn (F i) i null first follow
