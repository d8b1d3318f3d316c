-- The bits of a word, and sets made of two words and two flags.
use Rattle.std.proofs.Common.{◌≡◌, ℕ, suc, ◌+◌, ◌-◌, ◌*◌, ◌/◌, ◌%◌, ◌^◌, ◌<◌, max, Bool, true, false, ◌&&◌, ◌||◌, eqb, ltb, sym, refl, ap, ◌∙◌, one-mul, pow-suc, arith}
use mathlib.Core.Path.{fun_ext}
use mathlib.Core.Bool.{and-false, and-or_distrib_left}
use native.Mathlib.Nat.{zero-div, div-eq_of_lt}
use native.Mathlib.Decide.{dec_lt}
use lib.Bits.{bit_or, or_step, or_shr}
use lib.Pow.{pow-lt}
use Rattle.std.proofs.lemmas.Nat.{shl-shr, pow-add}
use Rattle.std.proofs.lemmas.Bool.Decides.{nat_tests}
use Rattle.sheet.specs.declared.marks.Marks.{Marks}
use Rattle.followers.specs.declared.sets.Targets.{Targets}
use Rattle.followers.specs.declared.sets.NextSet.{NextSet}
use Rattle.followers.specs.Next.{Next, at, end, Nexts, no_next, only_end, only_step}
use Rattle.followers.specs.Words.{bit, holds, nexts}

top : (x a b : ℕ) → a < 2 → b < 2 → eqb ((x * 2 + max a b) % 2) 1 ≡ eqb a 1 || eqb b 1
top x a b h k = grind (arith, nat_tests)

pub bit_of_or : (a b p : ℕ) → bit (bit_or a b) p ≡ bit a p || bit b p
unfolding bit
bit_of_or a b p =
    let x = a / 2 ^ p in
    let y = b / 2 ^ p in
    let h : x % 2 < 2 = omega arith in
    let k : y % 2 < 2 = omega arith in
    ap (λ (n : ℕ). eqb (n % 2) 1) (or_shr a b p ∙ or_step x y) ∙ top (bit_or (x / 2) (y / 2)) (x % 2) (y % 2) h k

pub bit_zero : (p : ℕ) → bit 0 p ≡ false
unfolding bit
bit_zero p = ap (λ (n : ℕ). eqb (n % 2) 1) (zero-div (2 ^ p))

pub bit_one : (i p : ℕ) → bit (2 ^ i) p ≡ eqb p i
unfolding bit
bit_one i p = elim (dec_lt p i) [
  | yes h ↦
      let k : ℕ = i - suc p in
      let e : 2 ^ i ≡ 2 ^ suc k * 2 ^ p = ap (λ (n : ℕ). 2 ^ n) (is k (omega arith)) ∙ pow-add 2 (suc k) p in
      let d : 2 ^ i / 2 ^ p ≡ 2 ^ k * 2 = ap (λ (n : ℕ). n / 2 ^ p) e ∙ shl-shr (2 ^ suc k) p ∙ pow-suc 2 k in
      even (2 ^ i / 2 ^ p) (2 ^ k) d (omega arith)
  | no h ↦ elim (dec_lt i p) [
    | yes l ↦ zeroth (2 ^ i / 2 ^ p) (div-eq_of_lt (pow-lt l)) l
    | no l ↦
        let e : i ≡ p = omega arith in
        oneth (2 ^ i / 2 ^ p) (ap (λ (n : ℕ). 2 ^ n / 2 ^ p) e ∙ ap (λ (n : ℕ). n / 2 ^ p) (sym (one-mul (2 ^ p))) ∙ shl-shr 1 p) e
  ]
]
  where
    zeroth : (q : ℕ) → q ≡ 0 → i < p → eqb (q % 2) 1 ≡ eqb p i
    zeroth q e l = grind (arith, nat_tests)

    oneth : (q : ℕ) → q ≡ 1 → i ≡ p → eqb (q % 2) 1 ≡ eqb p i
    oneth q e l = grind (arith, nat_tests)

    is : (k : ℕ) → i ≡ suc k + p → i ≡ suc k + p
    is k e = e

    even : (q r : ℕ) → q ≡ r * 2 → p < i → eqb (q % 2) 1 ≡ eqb p i
    even q r e l = grind (arith, nat_tests)

-- a set of targets: none, and the union of two
pub none_held : (t : Next) → holds (record { steps = 0; end = false }) t ≡ false
none_held (at p) = ap (λ (b : Bool). ltb p 64 && b) (bit_zero p) ∙ and-false (ltb p 64)
none_held end = refl

pub union_held : (a b : Targets) (t : Next) → holds (record { steps = bit_or a.steps b.steps; end = a.end || b.end }) t ≡ holds a t || holds b t
union_held a b (at p) = ap (λ (c : Bool). ltb p 64 && c) (bit_of_or a.steps b.steps p) ∙ and-or_distrib_left (ltb p 64) (bit a.steps p) (bit b.steps p)
union_held a b end = refl

-- two sets with the same marks at each target
marks_same : (a b : Marks) → a.plain ≡ b.plain → a.marked ≡ b.marked → a ≡ b
marks_same a b e f = λ i. record { plain = e i; marked = f i }

pub nexts_same : (s : NextSet) (K : Nexts) → ((t : Next) → holds s.plain t ≡ (K t).plain) → ((t : Next) → holds s.marked t ≡ (K t).marked) → nexts s ≡ K
nexts_same s K e f = fun_ext (λ t. marks_same (nexts s t) (K t) (e t) (f t))

pub end_held : (t : Next) → holds (record { steps = 0; end = true }) t ≡ (only_end t).plain
end_held (at p) = none_held (at p)
end_held end = refl

pub not_end : (t : Next) → false ≡ (only_end t).marked
not_end (at p) = refl
not_end end = refl

pub step_held : (i w : ℕ) → i < 64 → w ≡ 2 ^ i → (t : Next) → holds (record { steps = w; end = false }) t ≡ (only_step i t).plain
step_held i w h e (at p) = ap (λ (n : ℕ). ltb p 64 && bit n p) e ∙ ap (λ (b : Bool). ltb p 64 && b) (bit_one i p) ∙ low
  where
    low : (ltb p 64 && eqb p i) ≡ eqb p i
    low = grind (arith, nat_tests)
step_held i w h e end = refl

pub not_step : (i : ℕ) (t : Next) → false ≡ (only_step i t).marked
not_step i (at p) = refl
not_step i end = refl

pub none_next : nexts (record { plain = record { steps = 0; end = false }; marked = record { steps = 0; end = false } }) ≡ no_next
none_next = nexts_same (record { plain = record { steps = 0; end = false }; marked = record { steps = 0; end = false } }) no_next none_held none_held
