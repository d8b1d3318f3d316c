-- Codes that rise differ, so a call has one row at most.
use Rattle.std.proofs.Common.{◌≡◌, ℕ, zero, suc, ◌-◌, ◌<◌, false, eqb, ltb, leb, List, length, get_or, Some, None, Ok, Option, refl, ap, ⊎_elim, arith}
use Rattle.std.specs.Option.{option_map}
use Rattle.std.proofs.lemmas.Bool.{and_cases, both_ways, cases_order, eq-eqb, eqb-true, leb-false, ltb-false}
use Rattle.fault.specs.declared.fault.Fault.TheVariants.{TranslationOrder}
use Rattle.fault.specs.Laws.{Picks}
use Rattle.fault.proofs.Lowest.{lowest_means}
use Rattle.fault.proofs.Passed.{at_passed}
use Rattle.action.specs.declared.call.Call.{Call}
use Rattle.translation.specs.Tables.{code}
use Rattle.translation.specs.Files.{count_of, codes_of, rows_of, four_of, code_wrong, codes_check, deed_in, file_image, ByItsRow}

module _ (codes : List ℕ) (n : ℕ) (good : (i : ℕ) → i < n → code_wrong codes i ≡ false) where
  -- each code is above the one before it, and so above all before it
  above_last : (j : ℕ) → suc j < n → get_or codes j 0 < get_or codes (suc j) 0
  above_last j l =
      let e : suc j - 1 ≡ j = omega arith in
      ⊎_elim
      (λ (h : ltb 0 (suc j) ≡ false). absurd (let z = ltb-false 0 (suc j) h in omega arith))
      (λ (h : leb (get_or codes (suc j) 0) (get_or codes (suc j - 1) 0) ≡ false). leb-false _ _ (rw e at h))
      (and_cases (ltb 0 (suc j)) (leb (get_or codes (suc j) 0) (get_or codes (suc j - 1) 0)) (good (suc j) l))

  rises : (i j : ℕ) → i < j → j < n → get_or codes i 0 < get_or codes j 0
  rises i zero l m = absurd (omega arith)
  rises i (suc j) l m =
      let s = above_last j m in
      ⊎_elim
      (λ (e : i ≡ j). rw e s)
      (⊎_elim (λ (k : i < j). let h = rises i j k (omega arith) in omega arith) (λ (k : j < i). absurd (omega arith)))
      (cases_order i j)

  only : (k i j : ℕ) → i < n → j < n → get_or codes i 0 ≡ k → get_or codes j 0 ≡ k → i ≡ j
  only k i j l m p q =
      ⊎_elim
      (λ (e : i ≡ j). e)
      (⊎_elim (λ (h : i < j). absurd (let r = rises i j h m in omega arith)) (λ (h : j < i). absurd (let r = rises j i h l in omega arith)))
      (cases_order i j)

  -- what is read at the index picked
  module _ {X : Type 0} (f : ℕ → X) (k : ℕ) where
    here : (o : Option ℕ) → Picks (λ i. eqb (get_or codes i 0) k) n o → (i : ℕ) → i < n → get_or codes i 0 ≡ k → option_map f o ≡ Some (f i)
    here (Some j) (l, t, _) i m e = ap (λ (a : ℕ). Some (f a)) (only k j i l m (eqb-true _ _ t) e)
    here None h i m e = absurd (both_ways _ (h i m) (eq-eqb _ _ e))

    nowhere : (o : Option ℕ) → Picks (λ i. eqb (get_or codes i 0) k) n o → ((i : ℕ) → i < n → get_or codes i 0 ≡ k → ⊥) → option_map f o ≡ None
    nowhere (Some j) (l, t, _) never = absurd (never j l (eqb-true _ _ t))
    nowhere None h never = refl

pub by_its_row : (b : List ℕ) → length (codes_of b) ≡ count_of b → Ok tt ≡ codes_check (codes_of b) → (c : Call) → ByItsRow b c (file_image b c)
by_its_row b count ok c =
    let good = λ (i : ℕ) (l : i < count_of b). at_passed (λ j. TranslationOrder j) (code_wrong (codes_of b)) (length (codes_of b)) ok i (rw count l) in
    let f = λ (i : ℕ). deed_in (four_of (rows_of b) i) c in
    let p = lowest_means (λ i. eqb (get_or (codes_of b) i 0) (code c)) (count_of b) in
    (here (codes_of b) (count_of b) good f (code c) _ p, nowhere (codes_of b) (count_of b) good f (code c) _ p)
