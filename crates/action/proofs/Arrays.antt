-- An array that is made by a call for each index.
use Rattle.std.proofs.Common.{◌≡◌, ℕ, zero, suc, ◌+◌, ◌<◌, List, get_or, sym, subst, arith}
use Rattle.std.specs.Array.{IsFromFnResultFrom, IsFromFnResult}
use Rattle.std.specs.Fn.{Called}
use denote.Param.Members.{Mut}

module _ {F B : Type 0} (g : Mut F (ℕ × Unit {0}) B) (f : F) (Q : ℕ → B → Type 0) (call : (i : ℕ) (y : B) (q : F) → Called g f (i, tt) y q → (q ≡ f) × Q i y) (ys : List B) (d : B) where
  made_from : (n i k : ℕ) → IsFromFnResultFrom g f ys i n → k < n → Q (i + k) (get_or ys (i + k) d)
  made_from zero i k h l = let z : ⊥ = omega arith in absurd z
  made_from (suc n) i zero (q, y, at, c, rest) l =
      let e : i + 0 ≡ i = omega arith in
      subst (λ (j : ℕ). Q j (get_or ys j d)) (sym e) (subst (Q i) (sym (at.1 d)) (call i y q c).1)
  made_from (suc n) i (suc k) (q, y, at, c, rest) l =
      let e : i + 1 + k ≡ i + suc k = omega arith in
      subst (λ (j : ℕ). Q j (get_or ys j d)) e (made_from n (i + 1) k (subst (λ (p : F). IsFromFnResultFrom g p ys (i + 1) n) (call i y q c).0 rest) (omega arith))

  -- each element has what each call gives
  pub made : (n : ℕ) → IsFromFnResult g f ys n → (k : ℕ) → k < n → Q k (get_or ys k d)
  made n h k l =
      let e : 0 + k ≡ k = omega arith in
      subst (λ (j : ℕ). Q j (get_or ys j d)) e (made_from n 0 k h.each l)
