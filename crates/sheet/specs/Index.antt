-- A recursion over the index: what a fragment has comes from what the fragments below it have.
use Rattle.std.specs.Prelude.{ℕ, zero, suc, cond, ◌==◌}

-- what each index j has as far as those below an index see it: at j below, f of what lies below j; else the default
abbrev pub lower {ℓ} : {A : Type ℓ} → A → (ℕ → (ℕ → A) → A) → ℕ → ℕ → A
lower d f zero j = d
lower d f (suc i) j = cond (j == i) (f i (lower d f i)) (lower d f i j)

abbrev pub each {ℓ} : {A : Type ℓ} → A → (ℕ → (ℕ → A) → A) → ℕ → A
each d f i = f i (lower d f i)
