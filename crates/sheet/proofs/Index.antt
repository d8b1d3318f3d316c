-- The recursion over the index.
use Rattle.std.proofs.Common.{◌≡◌, ℕ, zero, suc, ◌<◌, Bool, true, false, cond, eqb, ap, ◌∙◌, arith}
use native.Mathlib.Decide.{dec_lt}
use Rattle.std.proofs.lemmas.Bool.Decides.{nat_tests}
use Rattle.sheet.specs.Index.{lower, each}

-- what lies below sees an index as it is
pub lower_is {ℓ} : {A : Type ℓ} (d : A) (f : ℕ → (ℕ → A) → A) (k j : ℕ) → j < k → lower d f k j ≡ each d f j
lower_is d f zero j h = let z : ⊥ = omega arith in absurd z
lower_is d f (suc i) j h = elim (dec_lt j i) [
  | yes l ↦ let e : eqb j i ≡ false = grind (arith, nat_tests) in ap (λ (b : Bool). cond b (f i (lower d f i)) (lower d f i j)) e ∙ lower_is d f i j l
  | no l ↦
      let e : eqb j i ≡ true = grind (arith, nat_tests) in
      let q : i ≡ j = omega arith in
      ap (λ (b : Bool). cond b (f i (lower d f i)) (lower d f i j)) e ∙ ap (each d f) q
]
