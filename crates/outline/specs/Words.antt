-- The words of a fragment.
use Rattle.std.specs.Prelude.{ℕ, cond, List, ◌++◌, Some, None, codes, decimal, Option, ◌==◌}
use Rattle.sheet.specs.declared.step.Term.{Term}
use Rattle.sheet.specs.declared.step.Term.TheVariants.{Number, First, Second}
use Rattle.sheet.specs.declared.step.Comparison.{Comparison}
use Rattle.sheet.specs.declared.step.Comparison.TheVariants.{Equal, Unequal, Less, AtMost, Greater, AtLeast}
use Rattle.sheet.specs.declared.step.Guard.{Guard}
use Rattle.sheet.specs.declared.step.Variable.{Variable}
use Rattle.sheet.specs.declared.step.Change.{Change}
use Rattle.sheet.specs.declared.step.Step.{Step}
use Rattle.sheet.specs.declared.diagram.Fragment.{Fragment}
use Rattle.sheet.specs.declared.diagram.Fragment.TheVariants.{Skip, Seq, Alt, Loop, Neg}

abbrev pub term : Term → List ℕ
term (Number n) = decimal n
term Term.X = codes "x"
term Term.Y = codes "y"
term First = codes "first argument"
term Second = codes "second argument"

abbrev pub comparison : Comparison → List ℕ
comparison Equal = codes "equal to"
comparison Unequal = codes "unequal to"
comparison Less = codes "less than"
comparison AtMost = codes "at most"
comparison Greater = codes "greater than"
comparison AtLeast = codes "at least"

abbrev pub guard : Guard → List ℕ
guard g = codes "if " ++ (term g.left ++ (codes " " ++ (comparison g.comparison ++ (codes " " ++ term g.right))))

abbrev pub variable : Variable → List ℕ
variable Variable.X = codes "x"
variable Variable.Y = codes "y"

abbrev pub change : Change → List ℕ
change c =
    cond (c.add == 0)
    (variable c.target ++ (codes " becomes " ++ term c.source))
    (variable c.target ++ (codes " becomes " ++ (term c.source ++ (codes " + " ++ decimal c.add))))

abbrev pub step_on : ℕ → ℕ → Option Guard → Option Change → List ℕ
step_on a s None None = codes "step to partner " ++ (decimal a ++ (codes ", signal " ++ decimal s))
step_on a s (Some g) None = codes "step to partner " ++ (decimal a ++ (codes ", signal " ++ (decimal s ++ (codes ", " ++ guard g))))
step_on a s None (Some c) = codes "step to partner " ++ (decimal a ++ (codes ", signal " ++ (decimal s ++ (codes ", " ++ change c))))
step_on a s (Some g) (Some c) = codes "step to partner " ++ (decimal a ++ (codes ", signal " ++ (decimal s ++ (codes ", " ++ (guard g ++ (codes ", " ++ change c))))))

abbrev pub step : Step → List ℕ
step s = step_on s.address s.signal s.guard s.change

abbrev pub fragment : Fragment → List ℕ
fragment Skip = codes "skip"
fragment (Fragment.Step s) = step s
fragment (Seq l r) = codes "seq"
fragment (Alt l r) = codes "alt"
fragment (Loop b) = codes "loop"
fragment (Neg b) = codes "neg"
