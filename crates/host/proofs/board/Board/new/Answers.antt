use Rattle.std.proofs.Common.{◌≡◌, ℕ, ◌<◌, ◌≤◌, get_or, replicate, ⊎_elim, refl, arith}
use Rattle.std.proofs.lemmas.Bool.{cases_lt}
use Rattle.std.proofs.lemmas.List.{get_or-replicate, get_or_past}
use Rattle.host.proofs.board.Board.new.Goals as goal

-- a new board counts 0 of every number
zeros : (k : ℕ) → ◌≡◌ {A = ℕ} (get_or (replicate 32 0) k 0) 0
zeros k = ⊎_elim (λ (l : k < 32). get_or-replicate 32 k 0 0 l) (λ (l : 32 ≤ k). get_or_past (replicate 32 0) k 0 l) (cases_lt k 32)

pub invariant_of-result : goal.invariant_of-result
invariant_of-result g c = record { low = λ k h. let z = zeros k in omega arith }

pub returns : goal.returns
returns g c = record {
  only = λ l can k h. let z = zeros k in let w = can k h in omega arith;
  every = λ l few k h. let z = zeros k in let w = few k h in omega arith;
  zero = zeros;
  record_is = refl;
}
