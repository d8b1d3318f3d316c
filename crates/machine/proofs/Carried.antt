-- The two bits of a mark byte.
use Rattle.std.proofs.Common.{◌≡◌, ℕ, ◌+◌, ◌/◌, ◌%◌, ◌<◌, Bool, true, false, ◌&&◌, ◌||◌, T, eqb, ◌≢◌, ◌⊎◌, ◌↔◌, List, length, get_or, set, sym, refl, ap, ◌∙◌, ap₂, inl, inr, arith, eqb→eq, get_or-set_other, get_or-set_same}
use native.Mathlib.Decide.{dec_lt, ℕ_discrete}
use lib.Bits.{bit_or}
use Rattle.std.proofs.lemmas.Bool.{eq-eqb}
use Rattle.std.proofs.lemmas.Bool.Decides.{nat_tests}
use Rattle.sheet.specs.declared.marks.Marks.{Marks}
use Rattle.sheet.specs.Empties.{has, nothing, both, either, must}
use Rattle.sheet.proofs.Bools.{and_in, and_out}
use Rattle.sheet.proofs.Both.{move, has_same, either_l, either_r, either_out}
use Rattle.followers.specs.Words.{bit}
use Rattle.followers.proofs.Words.{bit_of_or, bit_zero}
use Rattle.machine.specs.Pairs.{marks_of, only_if}

pub same_marks : (a b : Marks) → a.plain ≡ b.plain → a.marked ≡ b.marked → a ≡ b
same_marks a b e f = λ i. record { plain = e i; marked = f i }

pub marks_zero : marks_of 0 ≡ nothing
marks_zero = same_marks (marks_of 0) nothing (bit_zero 0) (bit_zero 1)

pub no_mark : (m : Bool) → T (has nothing m) → ⊥
no_mark false h = h
no_mark true h = h

marks_or : (a b : ℕ) → marks_of (bit_or a b) ≡ either (marks_of a) (marks_of b)
marks_or a b = same_marks (marks_of (bit_or a b)) (either (marks_of a) (marks_of b)) (bit_of_or a b 0) (bit_of_or a b 1)

some_bit : (b : ℕ) → b % 4 ≢ 0 → 0 < b / 1 % 2 + b / 2 % 2
some_bit b h = elim (dec_lt (b / 4) (b / 2 / 2)) [
  | yes l ↦ omega arith
  | no l ↦ elim (dec_lt (b / 2 / 2) (b / 4)) [ yes k ↦ omega arith | no k ↦ let e : b / 4 ≡ b / 2 / 2 = omega arith in let p : 0 < b % 4 = omega arith in omega arith ]
]

pub marked_two : (b : ℕ) → b % 4 ≢ 0 → marks_of 2 ≡ must (marks_of b)
unfolding bit
marked_two b h = same_marks (marks_of 2) (must (marks_of b)) refl (go (b / 1 % 2) (b / 2 % 2) (omega arith) (omega arith) (some_bit b h))
  where
    go : (x y : ℕ) → x < 2 → y < 2 → 0 < x + y → true ≡ eqb x 1 || eqb y 1
    go x y a c e = grind (arith, nat_tests)

pub marked_none : (b : ℕ) → b % 4 ≡ 0 → marks_of 0 ≡ must (marks_of b)
unfolding bit
marked_none b h = same_marks (marks_of 0) (must (marks_of b)) refl (go (b / 1 % 2) (b / 2 % 2) (omega arith) (omega arith))
  where
    go : (x y : ℕ) → x ≡ 0 → y ≡ 0 → false ≡ eqb x 1 || eqb y 1
    go x y a c = grind (arith, nat_tests)

plain_mark : (p q a : Bool) → p && a || q && false ≡ a && p
plain_mark true true true = refl
plain_mark true true false = refl
plain_mark true false true = refl
plain_mark true false false = refl
plain_mark false true true = refl
plain_mark false true false = refl
plain_mark false false true = refl
plain_mark false false false = refl

marked_mark : (p q a b : Bool) → p && b || q && (a || b) ≡ b && (p || q) || a && q
marked_mark true true true true = refl
marked_mark true true true false = refl
marked_mark true true false true = refl
marked_mark true true false false = refl
marked_mark true false true true = refl
marked_mark true false true false = refl
marked_mark true false false true = refl
marked_mark true false false false = refl
marked_mark false true true true = refl
marked_mark false true true false = refl
marked_mark false true false true = refl
marked_mark false true false false = refl
marked_mark false false true true = refl
marked_mark false false true false = refl
marked_mark false false false true = refl
marked_mark false false false false = refl

-- the marks of b before those of n, from those of b where n is unmarked and from y, b's all marked, where n is marked
pub carried : (b x y z : ℕ) (n : Marks) → ((k : ℕ) → bit x k ≡ n.plain && bit b k) → ((k : ℕ) → bit z k ≡ n.marked && bit y k) → marks_of y ≡ must (marks_of b)
    → marks_of (bit_or x z) ≡ both (marks_of b) n
carried b x y z n f g e = same_marks (marks_of (bit_or x z)) (both (marks_of b) n)
    (bit_of_or x z 0 ∙ ap₂ ◌||◌ (f 0) (g 0 ∙ ap (λ (k : Marks). n.marked && k.plain) e) ∙ plain_mark n.plain n.marked (bit b 0))
    (bit_of_or x z 1 ∙ ap₂ ◌||◌ (f 1) (g 1 ∙ ap (λ (k : Marks). n.marked && k.marked) e) ∙ marked_mark n.plain n.marked (bit b 0) (bit b 1))

-- marks that stand only under a condition
pub only_in : (b : Bool) (k : Marks) (m : Bool) → T b → T (has k m) → T (has (only_if b k) m)
only_in b k false t h = and_in b k.plain t h
only_in b k true t h = and_in b k.marked t h

pub only_out : (b : Bool) (k : Marks) (m : Bool) → T (has (only_if b k) m) → T b × T (has k m)
only_out b k false h = and_out b k.plain h
only_out b k true h = and_out b k.marked h

pub only_yes : (b : Bool) (k : Marks) → T b → only_if b k ≡ k
only_yes true k t = refl
only_yes false k t = absurd t

-- a byte of a list with more marks
pub or_at : (xs : List ℕ) (k b n : ℕ) (m : Bool) → k < length xs
    → T (has (marks_of (get_or (set xs k (bit_or (get_or xs k 0) b)) n 0)) m) ↔ (T (has (marks_of (get_or xs n 0)) m) ⊎ ((n ≡ k) × T (has (marks_of b) m)))
or_at xs k b n m h = elim (ℕ_discrete n k) [
  | yes e ↦
      let g : marks_of (get_or (set xs k (bit_or (get_or xs k 0) b)) n 0) ≡ either (marks_of (get_or xs n 0)) (marks_of b) =
      ap (λ (z : ℕ). marks_of (get_or (set xs k (bit_or (get_or xs k 0) b)) z 0)) e ∙ ap marks_of (get_or-set_same xs k _ 0 h) ∙ marks_or (get_or xs k 0) b ∙ ap (λ (z : ℕ). either (marks_of (get_or xs z 0)) (marks_of b)) (sym e) in (
        λ x. elim (either_out (marks_of (get_or xs n 0)) (marks_of b) m (has_same g m x)) [ inl y ↦ inl y | inr y ↦ inr (e, y) ],
        λ x. has_same (sym g) m (elim x [ inl y ↦ either_l (marks_of (get_or xs n 0)) (marks_of b) m y | inr y ↦ either_r (marks_of (get_or xs n 0)) (marks_of b) m y.1 ]),
      )
  | no e ↦
      let g : marks_of (get_or (set xs k (bit_or (get_or xs k 0) b)) n 0) ≡ marks_of (get_or xs n 0) = ap marks_of (get_or-set_other xs k n _ 0 e) in
      (λ x. inl (has_same g m x), λ x. elim x [ inl y ↦ has_same (sym g) m y | inr y ↦ absurd (e y.0) ])
]

pub byte_marked : (r : ℕ) → r / 2 % 2 ≡ 1 → T (has (marks_of r) true)
unfolding bit
byte_marked r h = move (sym (eq-eqb (r / 2 % 2) 1 h)) tt

pub marked_byte : (r : ℕ) → T (has (marks_of r) true) → r / 2 % 2 ≡ 1
unfolding bit
marked_byte r h = eqb→eq (r / 2 % 2) 1 h
