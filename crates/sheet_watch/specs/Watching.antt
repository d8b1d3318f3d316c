-- What a sheet watch forbids: the machine's lists, with deeds left in between.
use Rattle.std.specs.Prelude.{ℕ, Bool, Some, None, Option, List, is_none}
use Rattle.action.specs.declared.deed.Deed.{Deed}
use Rattle.action.specs.Traces.{Sub}
use Rattle.sheet.specs.declared.diagram.Fragment.{Fragment}
use Rattle.sheet.specs.Empties.{nothing}
use Rattle.followers.specs.Next.{Nexts}
use Rattle.machine.specs.Pairs.{May, may}
use Rattle.machine.specs.Charts.{kinds_of, follows_of}
use Rattle.machine.specs.Going.{Left}
use Rattle.sheet_watch.specs.declared.watching.SheetWatch.{SheetWatch}

-- some list that is left to come is a sub-trace of L
abbrev pub Within : (ℕ → Fragment) → (ℕ → Nexts) → Bool → May → List Deed → Type 0
Within F follow broken may L = (l : List Deed) × Left F follow broken may l × Sub l L

-- which steps may be taken next, from the marks of a watch: none, where it has no marks
abbrev pub may_of : Option (List ℕ) → May
may_of None = λ p v. nothing
may_of (Some xs) = may xs

-- from the watch's own tables and marks; an end is reached where it has no marks
abbrev pub Forbidden : SheetWatch → List Deed → Type 0
Forbidden w = Within (kinds_of w.chart) (follows_of w.chart) (is_none w.marks) (may_of w.marks)
