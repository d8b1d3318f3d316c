-- What a sum over the indices below a bound says of its terms.
use Rattle.std.proofs.Common.{◌≡◌, ℕ, zero, suc, ◌+◌, ◌<◌, ◌≤◌, subst, arith}
use native.Mathlib.Decide.{dec_lt}
use Rattle.fault.specs.Checks.{total}

module _ (f : ℕ → ℕ) where
  pub one_in : (n i : ℕ) → i < n → f i ≤ total f n
  unfolding total
  one_in zero i h = absurd (omega arith)
  one_in (suc n) i h = elim (dec_lt i n) [
    | yes l ↦ let g = one_in n i l in omega arith
    | no l ↦ let q : n ≡ i = omega arith in subst (λ (k : ℕ). f k ≤ total f n + f n) q (omega arith)
  ]

  pub two_in : (n i k : ℕ) → i < k → k < n → f i + f k ≤ total f n
  unfolding total
  two_in zero i k g h = absurd (omega arith)
  two_in (suc n) i k g h = elim (dec_lt k n) [
    | yes l ↦ let x = two_in n i k g l in omega arith
    | no l ↦
        let q : n ≡ k = omega arith in
        let x = one_in n i (omega arith) in
        subst (λ (k : ℕ). f i + f k ≤ total f n + f n) q (omega arith)
  ]

  pub some_in : (n : ℕ) → 0 < total f n → (i : ℕ) × (i < n) × (0 < f i)
  unfolding total
  some_in zero h = absurd (omega arith)
  some_in (suc n) h = elim (dec_lt 0 (f n)) [
    | yes l ↦ (n, omega arith, l)
    | no l ↦ let x = some_in n (omega arith) in (x.0, omega (arith, x.1), x.2)
  ]
