-- The mark bytes: for each step and each pair of x and y a byte, one bit for runs that are unmarked so far and one for marked ones.
use Rattle.std.specs.Prelude.{ℕ, ◌+◌, ◌*◌, Bool, ◌&&◌, T, List, nat_lt, slice_index}
use Rattle.action.specs.declared.deed.Deed.{Deed}
use Rattle.sheet.specs.declared.step.Step.{Step}
use Rattle.sheet.specs.declared.diagram.Variables.{Variables}
use Rattle.sheet.specs.declared.marks.Marks.{Marks}
use Rattle.sheet.specs.Empties.{has}
use Rattle.sheet.specs.Meaning.{Takes}
use Rattle.followers.specs.Words.{bit}

abbrev pub marks_of : ℕ → Marks
marks_of b = record { plain = bit b 0; marked = bit b 1 }

abbrev pub only_if : Bool → Marks → Marks
only_if b k = record { plain = b && k.plain; marked = b && k.marked }

-- variables hold 0 to 15, so a pair has one of 256 places
abbrev pub small : Variables → Bool
small v = nat_lt v.x 16 && nat_lt v.y 16

abbrev pub place : Variables → ℕ
place v = v.x * 16 + v.y

-- the marks at each pair, of 256 bytes
abbrev pub seen : List ℕ → Variables → Marks
seen xs v = only_if (small v) (marks_of (slice_index xs (place v)))

-- which steps may be taken next, by the index of their fragment, from which variables and with which marks so far
abbrev pub May : Type 0
May = ℕ → Variables → Marks

-- as 256 bytes for each of 64 indices say
abbrev pub may : List ℕ → May
may xs p v = only_if (nat_lt p 64 && small v) (marks_of (slice_index xs (p * 256 + place v)))

-- the step takes the deed to u from some pair that has the mark m
abbrev pub Reached : (Variables → Marks) → Step → Deed → Variables → Bool → Type 0
Reached from s d u m = (v : Variables) × T (has (from v) m) × Takes s v d u
