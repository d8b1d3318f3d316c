-- Which marks the runs over the empty list can have.
use Rattle.std.specs.Prelude.{ℕ, Bool, true, false, ◌&&◌, ◌||◌, [], Decides}
use Rattle.sheet.specs.declared.diagram.Fragment.{Fragment}
use Rattle.sheet.specs.declared.diagram.Fragment.TheVariants.{Skip, Seq, Alt, Loop, Neg}
use Rattle.sheet.specs.declared.diagram.Variables.{Variables}
use Rattle.sheet.specs.declared.marks.Marks.{Marks}
use Rattle.sheet.specs.Index.{each}
use Rattle.sheet.specs.Meaning.{meaning}

abbrev pub has : Marks → Bool → Bool
has k false = k.plain
has k true = k.marked

abbrev pub nothing : Marks
nothing = record { plain = false; marked = false }

abbrev pub only_plain : Marks
only_plain = record { plain = true; marked = false }

-- the marks of two runs one after the other
abbrev pub both : Marks → Marks → Marks
both a b = record { plain = a.plain && b.plain; marked = (a.marked && (b.plain || b.marked)) || (a.plain && b.marked) }

abbrev pub either : Marks → Marks → Marks
either a b = record { plain = a.plain || b.plain; marked = a.marked || b.marked }

abbrev pub must : Marks → Marks
must a = record { plain = false; marked = a.plain || a.marked }

-- the marks of any number of runs one after another
abbrev pub any : Marks → Marks
any a = record { plain = true; marked = a.marked }

abbrev pub empty_of : Fragment → (ℕ → Marks) → Marks
empty_of Skip N = only_plain
empty_of (Fragment.Step s) N = nothing
empty_of (Seq l r) N = both (N l) (N r)
empty_of (Alt l r) N = either (N l) (N r)
empty_of (Loop b) N = any (N b)
empty_of (Neg b) N = must (N b)

abbrev pub empty_at : (ℕ → Fragment) → ℕ → Marks
empty_at F = each nothing (λ i N. empty_of (F i) N)

-- k has exactly the marks of the runs of the fragment i over the empty list, from any variables
abbrev pub EmptyRuns : (ℕ → Fragment) → ℕ → Marks → Type 0
EmptyRuns F i k = (v : Variables) (m : Bool) → Decides (has k m) ((u : Variables) × meaning F i v [] u m)
