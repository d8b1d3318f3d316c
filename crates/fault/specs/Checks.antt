-- A check answers Ok, or the fault that it finds.
use Rattle.std.specs.Prelude.{ℕ, zero, suc, ◌+◌, Bool, cond, Some, None, Ok, Err, Option, Result}
use Rattle.fault.specs.declared.fault.Fault.{Fault}

abbrev pub Check : Type 0
Check = Result (Unit {0}) Fault

-- the first of two checks that refuses
infixr 20 ◌then◌
abbrev pub ◌then◌ : Check → Check → Check
◌then◌ (Ok u) next = next
◌then◌ (Err f) next = Err f

-- refuse where a test holds
abbrev pub refuse_if : Fault → Bool → Check
refuse_if f b = cond b (Err f) (Ok tt)

-- refuse at a place, if there is one
abbrev pub refuse_at : (ℕ → Fault) → Option ℕ → Check
refuse_at f (Some i) = Err (f i)
refuse_at f None = Ok tt

abbrev pub or_here : Option ℕ → Option ℕ → Option ℕ
or_here (Some i) o = Some i
or_here None o = o

-- the lowest index below n at which a test holds
unfoldable pub lowest : (ℕ → Bool) → ℕ → Option ℕ
lowest p zero = None
lowest p (suc n) = or_here (lowest p n) (cond (p n) (Some n) None)

-- the sum of a number over the indices below n
unfoldable pub total : (ℕ → ℕ) → ℕ → ℕ
total f zero = 0
total f (suc n) = total f n + f n

abbrev pub one_if : Bool → ℕ
one_if b = cond b 1 0

-- a value where the check passes, or the fault that it finds
abbrev pub or_fault : {X : Type 0} → Check → X → Result X Fault
or_fault (Ok u) x = Ok x
or_fault (Err f) x = Err f

-- what a place holds after a check that fills it where it passes, and leaves it as it was where it refuses
abbrev pub filled : {X : Type 0} → Check → X → X → X
filled (Ok u) new old = new
filled (Err f) new old = old
