-- Checks one after another, and what is known where one has passed.
use Rattle.std.proofs.Common.{◌≡◌, ℕ, ◌<◌, Bool, true, false, Some, None, Ok, Err, Option, refl, arith}
use Rattle.std.proofs.lemmas.Bool.{both_ways}
use Rattle.fault.specs.declared.fault.Fault.{Fault}
use Rattle.fault.specs.Checks.{Check, ◌then◌, refuse_if, refuse_at, lowest, or_fault, filled}
use Rattle.fault.specs.Laws.{Picks}
use Rattle.fault.proofs.Lowest.{lowest_means}

pub then_parts : (a b : Check) → Ok tt ≡ (a then b) → (Ok tt ≡ a) × (Ok tt ≡ b)
then_parts (Ok u) b e = (refl, e)
then_parts (Err f) b e = absurd (let z : ◌≡◌ {A = ℕ} 0 1 = cc in omega arith)

pub then_assoc : (a b c : Check) → ((a then b) then c) ≡ (a then (b then c))
then_assoc (Ok u) b c = refl
then_assoc (Err f) b c = refl

-- a rule with no place
pub if_holds : (f : Fault) (b : Bool) → b ≡ true → Err f ≡ refuse_if f b
if_holds f b e = rw e

pub if_passed : (f : Fault) (b : Bool) → Ok tt ≡ refuse_if f b → b ≡ false
if_passed f true e = absurd (let z : ◌≡◌ {A = ℕ} 0 1 = cc in omega arith)
if_passed f false e = refl

pub if_stopped : (g : Fault) (b : Bool) (f : Fault) → Err f ≡ refuse_if g b → (b ≡ true) × (g ≡ f)
if_stopped g true f e = (refl, cc)
if_stopped g false f e = absurd (let z : ◌≡◌ {A = ℕ} 0 1 = cc in omega arith)

-- a rule with a place: the test holds at no index
nowhere : (f : ℕ → Fault) (p : ℕ → Bool) (n : ℕ) (o : Option ℕ) → Picks p n o → Ok tt ≡ refuse_at f o → (i : ℕ) → i < n → p i ≡ false
nowhere f p n (Some j) h e = absurd (let z : ◌≡◌ {A = ℕ} 0 1 = cc in omega arith)
nowhere f p n None h e = h

pub at_passed : (f : ℕ → Fault) (p : ℕ → Bool) (n : ℕ) → Ok tt ≡ refuse_at f (lowest p n) → (i : ℕ) → i < n → p i ≡ false
at_passed f p n e = nowhere f p n (lowest p n) (lowest_means p n) e

-- and the other way
none_nowhere : (p : ℕ → Bool) (n : ℕ) (o : Option ℕ) → Picks p n o → ((i : ℕ) → i < n → p i ≡ false) → o ≡ None
none_nowhere p n (Some j) (l, t, h) k = absurd (both_ways (p j) (k j l) t)
none_nowhere p n None h k = refl

pub passed_at : (f : ℕ → Fault) (p : ℕ → Bool) (n : ℕ) → ((i : ℕ) → i < n → p i ≡ false) → Ok tt ≡ refuse_at f (lowest p n)
passed_at f p n k = rw (none_nowhere p n (lowest p n) (lowest_means p n) k)

-- a value where a check has passed, or its fault
pub value_passed : {X : Type 0} (a : Check) (x y : X) → Ok x ≡ or_fault a y → (Ok tt ≡ a) × (x ≡ y)
value_passed (Ok u) x y e = (refl, cc)
value_passed (Err f) x y e = absurd (let z : ◌≡◌ {A = ℕ} 0 1 = cc in omega arith)

pub value_stopped : {X : Type 0} (a : Check) (y : X) (f : Fault) → Err f ≡ or_fault a y → Err f ≡ a
value_stopped (Ok u) y f e = absurd (let z : ◌≡◌ {A = ℕ} 0 1 = cc in omega arith)
value_stopped (Err g) y f e = cc

pub stopped_value : {X : Type 0} (a : Check) (y : X) (f : Fault) → Err f ≡ a → Err f ≡ or_fault a y
stopped_value a y f e = rw (← e)

pub passed_value : {X : Type 0} (a : Check) (y : X) → Ok tt ≡ a → Ok y ≡ or_fault a y
passed_value a y e = rw (← e)

-- what a place holds then
pub stopped_filled : {X : Type 0} (a : Check) (new old : X) (f : Fault) → Err f ≡ a → old ≡ filled a new old
stopped_filled a new old f e = rw (← e)

pub passed_filled : {X : Type 0} (a : Check) (new old : X) → Ok tt ≡ a → new ≡ filled a new old
passed_filled a new old e = rw (← e)
