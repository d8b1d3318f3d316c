-- Which diagrams are accepted: the rules, in their order.
use Rattle.std.specs.Prelude.{ℕ, ◌+◌, Bool, true, false, not, ◌&&◌, ◌||◌, is_ok, Some, None, Option, ◌==◌, nat_le}
use Rattle.fault.specs.declared.fault.Fault.TheVariants.{SheetHeader, FragmentRow, FragmentTree, StepCount, EmptyNegative}
use Rattle.fault.specs.Checks.{Check, ◌then◌, refuse_if, refuse_at, lowest, total, one_if}
use Rattle.action.specs.Ranges.{highest_address, highest_kind, highest_argument}
use Rattle.sheet.specs.declared.step.Term.{Term}
use Rattle.sheet.specs.declared.step.Term.TheVariants.{Number, First, Second}
use Rattle.sheet.specs.declared.step.Guard.{Guard}
use Rattle.sheet.specs.declared.step.Change.{Change}
use Rattle.sheet.specs.declared.step.Step.{Step}
use Rattle.sheet.specs.declared.diagram.Fragment.{Fragment}
use Rattle.sheet.specs.declared.diagram.Fragment.TheVariants.{Skip, Seq, Alt, Loop, Neg}
use Rattle.sheet.specs.declared.diagram.Diagram.{Diagram}
use Rattle.sheet.specs.Forbid.{fragment, root}
use Rattle.sheet.specs.Empties.{empty_at}

-- 1 to 64 fragments, at most 31 steps, starts of 0 to 15
abbrev pub header_fits : ℕ → ℕ → ℕ → ℕ → Bool
header_fits count steps x y = nat_le 1 count && (nat_le count 64 && (nat_le steps 31 && (nat_le x 15 && nat_le y 15)))

abbrev pub header_check : Diagram → Check
header_check d = refuse_if SheetHeader (not (header_fits d.count d.steps d.start.x d.start.y))

abbrev pub term_fits : Term → Bool
term_fits (Number n) = nat_le n highest_argument
term_fits Term.X = true
term_fits Term.Y = true
term_fits First = true
term_fits Second = true

abbrev pub guard_fits : Option Guard → Bool
guard_fits None = true
guard_fits (Some g) = term_fits g.left && term_fits g.right

abbrev pub change_fits : Option Change → Bool
change_fits None = true
change_fits (Some c) = term_fits c.source && nat_le c.add 15

-- the numbers of a step are in their ranges
abbrev pub step_fits : Step → Bool
step_fits s = nat_le s.address highest_address && (nat_le s.signal highest_kind && (guard_fits s.guard && change_fits s.change))

abbrev pub fits : Fragment → Bool
fits Skip = true
fits (Fragment.Step s) = step_fits s
fits (Seq l r) = true
fits (Alt l r) = true
fits (Loop b) = true
fits (Neg b) = true

abbrev pub ranges_check : Diagram → Check
ranges_check d = refuse_at (λ i. FragmentRow i) (lowest (λ i. not (fits (fragment d i))) d.count)

-- a fragment at i that names a part not earlier than itself
abbrev pub names_late : Fragment → ℕ → Bool
names_late Skip i = false
names_late (Fragment.Step s) i = false
names_late (Seq l r) i = nat_le i l || nat_le i r
names_late (Alt l r) i = nat_le i l || nat_le i r
names_late (Loop b) i = nat_le i b
names_late (Neg b) i = nat_le i b

-- how often a fragment names the part j
abbrev pub names : Fragment → ℕ → ℕ
names Skip j = 0
names (Fragment.Step s) j = 0
names (Seq l r) j = one_if (j == l) + one_if (j == r)
names (Alt l r) j = one_if (j == l) + one_if (j == r)
names (Loop b) j = one_if (j == b)
names (Neg b) j = one_if (j == b)

-- how often all fragments name the part j
abbrev pub times_named : Diagram → ℕ → ℕ
times_named d j = total (λ i. names (fragment d i) j) d.count

-- the fragment i names a part that is not earlier, or is not the last and is not named exactly once
abbrev pub misplaced : Diagram → ℕ → Bool
misplaced d i = names_late (fragment d i) i || (not (i + 1 == d.count) && not (times_named d i == 1))

abbrev pub tree_check : Diagram → Check
tree_check d = refuse_at (λ i. FragmentTree i) (lowest (misplaced d) d.count)

abbrev pub is_step : Fragment → Bool
is_step Skip = false
is_step (Fragment.Step s) = true
is_step (Seq l r) = false
is_step (Alt l r) = false
is_step (Loop b) = false
is_step (Neg b) = false

abbrev pub steps_in : Diagram → ℕ
steps_in d = total (λ i. one_if (is_step (fragment d i))) d.count

abbrev pub steps_check : Diagram → Check
steps_check d = refuse_if StepCount (not (steps_in d == d.steps))

-- the empty list is a negative trace; that this test says so is a law of `empty_at`
abbrev pub empty_check : Diagram → Check
empty_check d = refuse_if EmptyNegative (empty_at (fragment d) (root d)).marked

-- what the rules of the tree, the steps and the empty list say
abbrev pub shape_check : Diagram → Check
shape_check d = tree_check d then steps_check d then empty_check d

-- the first rule that refuses
abbrev pub verdict : Diagram → Check
verdict d = header_check d then ranges_check d then shape_check d

unfoldable pub accepted : Diagram → Bool
accepted d = is_ok (verdict d)
