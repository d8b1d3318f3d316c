-- The codes of terms, comparisons and variables.
use Rattle.std.specs.Prelude.{ℕ, cond, Some, None, Option, ◌==◌, nat_le}
use Rattle.sheet.specs.declared.step.Term.{Term}
use Rattle.sheet.specs.declared.step.Term.TheVariants.{Number, First, Second}
use Rattle.sheet.specs.declared.step.Comparison.{Comparison}
use Rattle.sheet.specs.declared.step.Comparison.TheVariants.{Equal, Unequal, Less, AtMost, Greater, AtLeast}
use Rattle.sheet.specs.declared.step.Guard.{Guard}
use Rattle.sheet.specs.declared.step.Variable.{Variable}
use Rattle.sheet.specs.declared.step.Change.{Change}

-- 0 to 15 that number, 16 x, 17 y, 18 the first argument, 19 the second
abbrev pub term : ℕ → Term
term b = cond (nat_le b 15) (Number b) (cond (b == 16) Term.X (cond (b == 17) Term.Y (cond (b == 18) First Second)))

-- 1 equal, 2 unequal, 3 less, 4 at most, 5 greater, 6 at least
abbrev pub comparison : ℕ → Comparison
comparison b = cond (b == 1) Equal (cond (b == 2) Unequal (cond (b == 3) Less (cond (b == 4) AtMost (cond (b == 5) Greater AtLeast))))

-- comparison 0: none
abbrev pub guard : ℕ → ℕ → ℕ → Option Guard
guard l c r = cond (c == 0) None (Some (record { left = term l; comparison = comparison c; right = term r }))

-- 1 x, 2 y
abbrev pub variable : ℕ → Variable
variable t = cond (t == 1) Variable.X Variable.Y

-- target 0: none
abbrev pub change : ℕ → ℕ → ℕ → Option Change
change t s a = cond (t == 0) None (Some (record { target = variable t; source = term s; add = a }))
