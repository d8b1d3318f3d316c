-- Lists of submits.
use Rattle.std.proofs.Common.{◌≡◌, ℕ, zero, suc, List, [], ◌∷◌, ◌++◌, length, take, refl, ap}
use Rattle.gate.specs.declared.ask.Ask.{Ask}
use Rattle.gate.specs.declared.ask.Ask.TheVariants.{Submit}
use Rattle.gate.specs.Ledger.{submits}

pub submits_more : {X : Type 0} (xs : List X) (x : X) → submits (xs ++ (x ∷ [])) ≡ submits xs ++ (Submit x ∷ [])
submits_more [] x = refl
submits_more (y ∷ xs) x = ap (λ (l : List (Ask _)). Submit y ∷ l) (submits_more xs x)

pub length-submits : {X : Type 0} (xs : List X) → length (submits xs) ≡ length xs
length-submits [] = refl
length-submits (x ∷ xs) = ap suc (length-submits xs)

pub take_submits : {X : Type 0} (n : ℕ) (xs : List X) → take n (submits xs) ≡ submits (take n xs)
take_submits zero xs = refl
take_submits (suc n) [] = refl
take_submits (suc n) (x ∷ xs) = ap (λ (l : List (Ask _)). Submit x ∷ l) (take_submits n xs)
