-- Whether a step takes a deed, and the variables after it, worked out.
use Rattle.std.proofs.Common.{◌≡◌, ℕ, ◌+◌, Bool, true, false, not, ◌&&◌, T, eqb, ltb, leb, Some, None, Option, refl, subst, le→leb, eqb→eq, ltb→lt, lt→ltb, leb→le, T_not}
use lib.Dec.{not_T, eqb_refl}
use Rattle.action.specs.declared.deed.Deed.{Deed}
use Rattle.action.specs.Deeds.{address, signal}
use Rattle.sheet.specs.declared.step.Comparison.{Comparison}
use Rattle.sheet.specs.declared.step.Comparison.TheVariants.{Equal, Unequal, Less, AtMost, Greater, AtLeast}
use Rattle.sheet.specs.declared.step.Guard.{Guard}
use Rattle.sheet.specs.declared.step.Variable.{Variable}
use Rattle.sheet.specs.declared.step.Change.{Change}
use Rattle.sheet.specs.declared.step.Step.{Step}
use Rattle.sheet.specs.declared.diagram.Fragment.{Fragment}
use Rattle.sheet.specs.declared.diagram.Fragment.TheVariants.{Skip, Seq, Alt, Loop, Neg}
use Rattle.sheet.specs.declared.diagram.Variables.{Variables}
use Rattle.sheet.specs.Meaning.{value, Holds, Passes, Puts, Changes}
use Rattle.sheet.proofs.Bools.{and_in, and_out}
use Rattle.followers.specs.Accepts.{Fires}

abbrev holds : Comparison → ℕ → ℕ → Bool
holds Equal a b = eqb a b
holds Unequal a b = not (eqb a b)
holds Less a b = ltb a b
holds AtMost a b = leb a b
holds Greater a b = ltb b a
holds AtLeast a b = leb b a

abbrev passes : Option Guard → Variables → Deed → Bool
passes None v d = true
passes (Some g) v d = holds g.comparison (value g.left v d) (value g.right v d)

abbrev sum : Change → Variables → Deed → ℕ
sum c v d = value c.source v d + c.add

abbrev room : Option Change → Variables → Deed → Bool
room None v d = true
room (Some c) v d = leb (sum c v d) 15

abbrev put : Variable → ℕ → Variables → Variables
put Variable.X n v = record { x = n; y = v.y }
put Variable.Y n v = record { x = v.x; y = n }

abbrev changed : Option Change → Variables → Deed → Variables
changed None v d = v
changed (Some c) v d = put c.target (sum c v d) v

abbrev takes : Step → Variables → Deed → Bool
takes s v d = eqb (address d) s.address && (eqb (signal d) s.signal && (passes s.guard v d && room s.change v d))

abbrev pub fires : Fragment → Variables → Deed → Bool
fires Skip v d = false
fires (Fragment.Step s) v d = takes s v d
fires (Seq l r) v d = false
fires (Alt l r) v d = false
fires (Loop b) v d = false
fires (Neg b) v d = false

abbrev pub moved : Fragment → Variables → Deed → Variables
moved Skip v d = v
moved (Fragment.Step s) v d = changed s.change v d
moved (Seq l r) v d = v
moved (Alt l r) v d = v
moved (Loop b) v d = v
moved (Neg b) v d = v

eq→eqb : (a b : ℕ) → a ≡ b → T (eqb a b)
eq→eqb a b e = subst (λ (n : ℕ). T (eqb a n)) e (eqb_refl a)

holds_to : (c : Comparison) (a b : ℕ) → T (holds c a b) → Holds c a b
holds_to Equal a b h = eqb→eq a b h
holds_to Unequal a b h = λ e. T_not (eqb a b) h (eq→eqb a b e)
holds_to Less a b h = ltb→lt a b h
holds_to AtMost a b h = leb→le a b h
holds_to Greater a b h = ltb→lt b a h
holds_to AtLeast a b h = leb→le b a h

holds_from : (c : Comparison) (a b : ℕ) → Holds c a b → T (holds c a b)
holds_from Equal a b h = eq→eqb a b h
holds_from Unequal a b h = not_T (eqb a b) (λ t. h (eqb→eq a b t))
holds_from Less a b h = lt→ltb a b h
holds_from AtMost a b h = le→leb a b h
holds_from Greater a b h = lt→ltb b a h
holds_from AtLeast a b h = le→leb b a h

passes_to : (g : Option Guard) (v : Variables) (d : Deed) → T (passes g v d) → Passes g v d
passes_to None v d h = tt
passes_to (Some g) v d h = holds_to g.comparison _ _ h

passes_from : (g : Option Guard) (v : Variables) (d : Deed) → Passes g v d → T (passes g v d)
passes_from None v d h = tt
passes_from (Some g) v d h = holds_from g.comparison _ _ h

puts_to : (t : Variable) (n : ℕ) (v : Variables) → T (leb n 15) → Puts t n v (put t n v)
puts_to Variable.X n v h = (leb→le n 15 h, refl, refl)
puts_to Variable.Y n v h = (leb→le n 15 h, refl, refl)

puts_from : (t : Variable) (n : ℕ) (v u : Variables) → Puts t n v u → T (leb n 15) × (u ≡ put t n v)
puts_from Variable.X n v u (h, a, b) = (le→leb n 15 h, λ i. record { x = a i; y = b i })
puts_from Variable.Y n v u (h, a, b) = (le→leb n 15 h, λ i. record { x = a i; y = b i })

changes_to : (c : Option Change) (v : Variables) (d : Deed) → T (room c v d) → Changes c v d (changed c v d)
changes_to None v d h = refl
changes_to (Some c) v d h = puts_to c.target _ v h

changes_from : (c : Option Change) (v : Variables) (d : Deed) (u : Variables) → Changes c v d u → T (room c v d) × (u ≡ changed c v d)
changes_from None v d u e = (tt, e)
changes_from (Some c) v d u h = puts_from c.target _ v u h

pub fires_to : (f : Fragment) (v : Variables) (d : Deed) → T (fires f v d) → Fires f v d (moved f v d)
fires_to Skip v d h = h
fires_to (Fragment.Step s) v d h =
    let a = and_out (eqb (address d) s.address) _ h in
    let b = and_out (eqb (signal d) s.signal) _ a.1 in
    let c = and_out (passes s.guard v d) _ b.1 in
    record {
      partner = eqb→eq _ _ a.0;
      signal = eqb→eq _ _ b.0;
      guard = passes_to s.guard v d c.0;
      change = changes_to s.change v d c.1;
    }
fires_to (Seq l r) v d h = h
fires_to (Alt l r) v d h = h
fires_to (Loop b) v d h = h
fires_to (Neg b) v d h = h

pub fires_from : (f : Fragment) (v : Variables) (d : Deed) (u : Variables) → Fires f v d u → T (fires f v d) × (u ≡ moved f v d)
fires_from Skip v d u h = absurd h
fires_from (Fragment.Step s) v d u h =
    let e = changes_from s.change v d u h.change in
    let c = and_in (passes s.guard v d) _ (passes_from s.guard v d h.guard) e.0 in
    let b = and_in (eqb (signal d) s.signal) _ (eq→eqb _ _ h.signal) c in
    (and_in (eqb (address d) s.address) _ (eq→eqb _ _ h.partner) b, e.1)
fires_from (Seq l r) v d u h = absurd h
fires_from (Alt l r) v d u h = absurd h
fires_from (Loop b) v d u h = absurd h
fires_from (Neg b) v d u h = absurd h
