-- What a result was, by what `map_err` made of it.
use Rattle.std.proofs.Common.{◌≡◌, ℕ, Ok, Err, Result, refl, subst, arith}
use Rattle.std.specs.Result.{MatchResult, IsErrAnd}
use Rattle.std.proofs.lemmas.Result.{err_from_is_err_and}

module _ {T E D : Type 0} (Q : E → D → Type 0) where
  pub mapped_ok : (r : Result T E) (s : Result T D) (x : T) → MatchResult r (λ y. s ≡ Ok y) (λ e. IsErrAnd s (Q e)) → s ≡ Ok x → r ≡ Ok x
  mapped_ok (Ok y) s x h w = cc
  mapped_ok (Err e) s x h w = let p = err_from_is_err_and s h in let z : ◌≡◌ {A = ℕ} 0 1 = cc in absurd (omega arith)

  pub mapped_err : (r : Result T E) (s : Result T D) (d : D) → MatchResult r (λ y. s ≡ Ok y) (λ e. IsErrAnd s (Q e)) → s ≡ Err d → (e : E) × (r ≡ Err e) × Q e d
  mapped_err (Ok y) s d h w = let z : ◌≡◌ {A = ℕ} 0 1 = cc in absurd (omega arith)
  mapped_err (Err e) s d h w =
      let p = err_from_is_err_and s h in
      let is : p.0 ≡ d = cc in
      (e, refl, subst (λ f. Q e f) is p.2)
