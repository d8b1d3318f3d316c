-- The number and the place of each refusal.
use Rattle.std.specs.Prelude.{ℕ, List, ◌++◌, codes, decimal}
use Rattle.fault.specs.declared.fault.Fault.{Fault}
use Rattle.fault.specs.declared.fault.Fault.TheVariants.{SheetShort, SheetHeader, SheetLength, FragmentKind, FragmentRow, FragmentTree, StepCount, EmptyNegative, TranslationShape, TranslationRow, TranslationOrder, ActionBytes, OutOfRange, RunShape}

abbrev pub number : Fault → ℕ
number SheetShort = 1
number SheetHeader = 2
number SheetLength = 3
number (FragmentKind i) = 4
number (FragmentRow i) = 5
number (FragmentTree i) = 6
number StepCount = 7
number EmptyNegative = 8
number TranslationShape = 9
number (TranslationRow i) = 10
number (TranslationOrder i) = 11
number (ActionBytes i) = 12
number OutOfRange = 13
number RunShape = 14

-- 0 where none is named
abbrev pub place : Fault → ℕ
place SheetShort = 0
place SheetHeader = 0
place SheetLength = 0
place (FragmentKind i) = i
place (FragmentRow i) = i
place (FragmentTree i) = i
place StepCount = 0
place EmptyNegative = 0
place TranslationShape = 0
place (TranslationRow i) = i
place (TranslationOrder i) = i
place (ActionBytes i) = i
place OutOfRange = 0
place RunShape = 0

-- how a refusal is shown
abbrev pub words : Fault → List ℕ
words f = decimal (number f) ++ codes " at " ++ decimal (place f)
