-- What a diagram means: the runs of its fragments.
use Rattle.std.specs.Prelude.{◌≡◌, ℕ, ◌+◌, ◌<◌, ◌≤◌, Bool, true, false, ◌||◌, ◌⊎◌, List, [], ◌∷◌, ◌++◌, Some, None, Option}
use Rattle.action.specs.declared.deed.Deed.{Deed}
use Rattle.action.specs.Deeds.{address, signal, first, second}
use Rattle.sheet.specs.declared.step.Term.{Term}
use Rattle.sheet.specs.declared.step.Term.TheVariants.{Number, First, Second}
use Rattle.sheet.specs.declared.step.Comparison.{Comparison}
use Rattle.sheet.specs.declared.step.Comparison.TheVariants.{Equal, Unequal, Less, AtMost, Greater, AtLeast}
use Rattle.sheet.specs.declared.step.Guard.{Guard}
use Rattle.sheet.specs.declared.step.Variable.{Variable}
use Rattle.sheet.specs.declared.step.Change.{Change}
use Rattle.sheet.specs.declared.step.Step.{Step}
use Rattle.sheet.specs.declared.diagram.Fragment.{Fragment}
use Rattle.sheet.specs.declared.diagram.Fragment.TheVariants.{Skip, Seq, Alt, Loop, Neg}
use Rattle.sheet.specs.declared.diagram.Variables.{Variables}
use Rattle.sheet.specs.Index.{each}

-- what a term stands for, before the deed
abbrev pub value : Term → Variables → Deed → ℕ
value (Number n) v d = n
value Term.X v d = v.x
value Term.Y v d = v.y
value First v d = first d
value Second v d = second d

abbrev pub Holds : Comparison → ℕ → ℕ → Type 0
Holds Equal a b = a ≡ b
Holds Unequal a b = a ≡ b → ⊥
Holds Less a b = a < b
Holds AtMost a b = a ≤ b
Holds Greater a b = b < a
Holds AtLeast a b = b ≤ a

abbrev pub Passes : Option Guard → Variables → Deed → Type 0
Passes None v d = Unit {0}
Passes (Some g) v d = Holds g.comparison (value g.left v d) (value g.right v d)

-- u is v with n put into the variable, which holds 0 to 15
abbrev pub Puts : Variable → ℕ → Variables → Variables → Type 0
Puts Variable.X n v u = (n ≤ 15) × (u.x ≡ n) × (u.y ≡ v.y)
Puts Variable.Y n v u = (n ≤ 15) × (u.x ≡ v.x) × (u.y ≡ n)

-- the variables go from v to u
abbrev pub Changes : Option Change → Variables → Deed → Variables → Type 0
Changes None v d u = u ≡ v
Changes (Some c) v d u = Puts c.target (value c.source v d + c.add) v u

-- the step takes the deed, and the variables go from v to u
pub record Takes (s : Step) (v : Variables) (d : Deed) (u : Variables) : Type 0 where
  pub partner : address d ≡ s.address
  pub signal : signal d ≡ s.signal
  pub guard : Passes s.guard v d
  pub change : Changes s.change v d u

-- the runs of a fragment: the variables at its start, the deeds that it takes, the variables at its end, and whether it is marked
abbrev pub Runs : Type 1
Runs = Variables → List Deed → Variables → Bool → Type 0

abbrev pub Never : Runs
Never v l u m = ⊥

-- skip takes the empty list, changes nothing and marks nothing
abbrev pub Skips : Runs
Skips v l u m = (l ≡ []) × (u ≡ v) × (m ≡ false)

-- a step takes one deed and marks nothing
abbrev pub Steps : Step → Runs
Steps s v l u m = (d : Deed) × (l ≡ d ∷ []) × Takes s v d u × (m ≡ false)

-- a run of the left part, then one of the right from the variables reached; marked if either was
pub record Then (L R : Runs) (v : Variables) (l : List Deed) (u : Variables) (m : Bool) : Type 0 where
  pub front : List Deed
  pub back : List Deed
  pub between : Variables
  pub front_mark : Bool
  pub back_mark : Bool
  pub left : L v front between front_mark
  pub right : R between back u back_mark
  pub deeds : l ≡ front ++ back
  pub mark : m ≡ front_mark || back_mark

-- a run of one of the two parts
abbrev pub Either : Runs → Runs → Runs
Either L R v l u m = L v l u m ⊎ R v l u m

-- any finite number of runs of the body, one after another, zero included; marked if one of them was
pub data Rounds (B : Runs) : Variables → List Deed → Variables → Bool → Type 0 where
  stop : {v : Variables} → Rounds B v [] v false
  round : {v w u : Variables} {a b : List Deed} {m n : Bool} → B v a w m → Rounds B w b u n → Rounds B v (a ++ b) u (m || n)

-- a run of the body, marked
abbrev pub Marked : Runs → Runs
Marked B v l u m = ((n : Bool) × B v l u n) × (m ≡ true)

-- the runs of a fragment of each kind, from those of its parts
abbrev pub Of : Fragment → (ℕ → Runs) → Runs
Of Skip R = Skips
Of (Fragment.Step s) R = Steps s
Of (Seq l r) R = Then (R l) (R r)
Of (Alt l r) R = Either (R l) (R r)
Of (Loop b) R = Rounds (R b)
Of (Neg b) R = Marked (R b)

-- the runs of the fragment i, by a recursion that falls at every part
abbrev pub meaning : (ℕ → Fragment) → ℕ → Runs
meaning F = each Never (λ i R. Of (F i) R)
