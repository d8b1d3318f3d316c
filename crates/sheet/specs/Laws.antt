-- What the definitions mean, in the subject's words.
use Rattle.std.specs.Prelude.{ℕ, ◌<◌, Bool, List, [], Decides}
use Rattle.action.specs.declared.deed.Deed.{Deed}
use Rattle.sheet.specs.declared.diagram.Fragment.{Fragment}
use Rattle.sheet.specs.declared.diagram.Fragment.TheVariants.{Skip, Seq, Alt, Loop, Neg}
use Rattle.sheet.specs.declared.diagram.Variables.{Variables}
use Rattle.sheet.specs.declared.diagram.Diagram.{Diagram}
use Rattle.sheet.specs.Meaning.{Of, meaning}
use Rattle.sheet.specs.Forbid.{Negative, fragment, root}
use Rattle.sheet.specs.Empties.{empty_at, EmptyRuns}

-- the parts of a fragment at i stand earlier
abbrev pub Earlier : Fragment → ℕ → Type 0
Earlier Skip i = Unit {0}
Earlier (Fragment.Step s) i = Unit {0}
Earlier (Seq l r) i = (l < i) × (r < i)
Earlier (Alt l r) i = (l < i) × (r < i)
Earlier (Loop b) i = b < i
Earlier (Neg b) i = b < i

-- the runs of a fragment whose parts stand earlier are those of its kind, from the runs of its parts
abbrev pub MeaningReads : Type 0
MeaningReads =
    (F : ℕ → Fragment) (i : ℕ) → Earlier (F i) i → (v : Variables) (l : List Deed) (u : Variables) (m : Bool)
    → (meaning F i v l u m → Of (F i) (meaning F) v l u m) × (Of (F i) (meaning F) v l u m → meaning F i v l u m)

-- the marks of the empty runs are those that the meaning has
abbrev pub EmptyMeans : Type 0
EmptyMeans = (F : ℕ → Fragment) (i : ℕ) → EmptyRuns F i (empty_at F i)

-- the rule about the empty list refuses exactly where that is a negative trace
abbrev pub EmptyRuleMeans : Type 0
EmptyRuleMeans = (d : Diagram) → Decides (empty_at (fragment d) (root d)).marked (Negative d [])
