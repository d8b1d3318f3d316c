-- What `lowest` picks.
use Rattle.std.specs.Prelude.{◌≡◌, ℕ, ◌<◌, Bool, true, false, Some, None, Option}
use Rattle.fault.specs.Checks.{lowest}

-- the test holds at the index picked and at none below it; where none is picked, it holds at none
abbrev pub Picks : (ℕ → Bool) → ℕ → Option ℕ → Type 0
Picks p n None = (j : ℕ) → j < n → p j ≡ false
Picks p n (Some i) = (i < n) × (p i ≡ true) × ((j : ℕ) → j < i → p j ≡ false)

abbrev pub LowestMeans : Type 0
LowestMeans = (p : ℕ → Bool) (n : ℕ) → Picks p n (lowest p n)
