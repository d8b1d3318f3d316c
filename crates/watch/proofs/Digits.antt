-- What is in a union, in a set with one more, and in the empty set.
use Rattle.std.proofs.Common.{◌≡◌, ℕ, suc, ◌+◌, ◌-◌, ◌*◌, ◌/◌, ◌%◌, ◌^◌, ◌<◌, ◌≤◌, max, ◌⊎◌, sym, ap, ◌∙◌, inl, inr, ⊎_elim, one-mul, pow-suc, arith}
use native.Mathlib.Nat.{div-eq_of_lt, zero-div}
use lib.Bits.{bit_or, or_step, or_shr}
use Rattle.std.proofs.lemmas.Nat.{shl-shr, pow-add, pow_below}
use Rattle.std.proofs.lemmas.Bool.{cases_lt, cases_order, eqb-true, eq-eqb}
use Rattle.watch.specs.Meaning.{Iff}
use Rattle.watch.specs.declared.kinds.Kinds.{Kinds}
use Rattle.watch.specs.Sets.{no_kinds, In, with_kind, union}

-- the last digit of a union is the larger of two
last_or : (a b : ℕ) → bit_or a b % 2 ≡ max (a % 2) (b % 2)
last_or a b = omega (arith, or_step a b)

larger_one : (a b : ℕ) → Iff (max (a % 2) (b % 2) ≡ 1) ((a % 2 ≡ 1) ⊎ (b % 2 ≡ 1))
larger_one a b = (
  (λ m. ⊎_elim (λ (l : a % 2 < 1). inr (omega arith)) (λ (l : 1 ≤ a % 2). inl (omega arith)) (cases_lt (a % 2) 1)),
  ⊎_elim (λ (p : a % 2 ≡ 1). omega arith) (λ (q : b % 2 ≡ 1). omega arith),
)

-- what is in a union
pub in_or : (a b : Kinds) (k : ℕ) → Iff (In (union a b) k) (In a k ⊎ In b k)
in_or a b k =
    let s : bit_or a.digits b.digits / 2 ^ k % 2 ≡ max (a.digits / 2 ^ k % 2) (b.digits / 2 ^ k % 2) = rw or_shr (last_or (a.digits / 2 ^ k) (b.digits / 2 ^ k)) in
    let i = larger_one (a.digits / 2 ^ k) (b.digits / 2 ^ k) in (
      (λ h. ⊎_elim (λ p. inl (eq-eqb _ _ p)) (λ p. inr (eq-eqb _ _ p)) (i.0 (sym s ∙ eqb-true _ _ h))),
      (λ h. eq-eqb _ _ (s ∙ i.1 (⊎_elim (λ p. inl (eqb-true _ _ p)) (λ p. inr (eqb-true _ _ p)) h))),
    )

-- a power of two has one digit
below : (j k : ℕ) → k < j → 2 ^ j / 2 ^ k % 2 ≡ 0
below j k l =
    let e : 2 ^ j ≡ 2 ^ (suc (j - k - 1)) * 2 ^ k = (let q : j ≡ suc (j - k - 1) + k = omega arith in ap (λ (n : ℕ). 2 ^ n) q ∙ pow-add 2 (suc (j - k - 1)) k) in
    let d : 2 ^ j / 2 ^ k ≡ 2 ^ (suc (j - k - 1)) = rw e (shl-shr (2 ^ (suc (j - k - 1))) k) in
    omega (arith, pow-suc 2 (j - k - 1))

above : (j k : ℕ) → j < k → 2 ^ j / 2 ^ k ≡ 0
above j k l = div-eq_of_lt (pow_below j k l)

same : (j : ℕ) → 2 ^ j / 2 ^ j ≡ 1
same j = sym (ap (λ (n : ℕ). n / 2 ^ j) (one-mul (2 ^ j))) ∙ shl-shr 1 j

digit_one : (j k : ℕ) → 2 ^ j / 2 ^ k % 2 ≡ 1 → k ≡ j
digit_one j k h =
    ⊎_elim (λ (e : k ≡ j). e) (⊎_elim (λ (l : k < j). absurd (omega (arith, below j k l))) (λ (l : j < k). absurd (omega (arith, above j k l)))) (cases_order k j)

-- what is in a set with one more
pub in_with : (set : Kinds) (j k : ℕ) → Iff (In (with_kind set j) k) (In set k ⊎ (k ≡ j))
in_with set j k =
    let o = in_or set (record { digits = 2 ^ j }) k in (
      (λ h. ⊎_elim inl (λ p. inr (digit_one j k (eqb-true _ _ p))) (o.0 h)),
      (λ h. o.1 (⊎_elim inl (λ (e : k ≡ j). inr (eq-eqb _ _ (let w = same j in rw e (omega arith)))) h)),
    )

-- nothing is in the empty set
pub in_none : (k : ℕ) → In no_kinds k → ⊥
in_none k h = let z = zero-div (2 ^ k) in omega (arith, eqb-true _ _ h)
