use Rattle.std.proofs.Common.{◌≡◌, ℕ, ◌<◌, Option, Some, None, ltb, List, length, get_or, zip, rules, eq-eqb, sym, ap, ◌∙◌, arith}
use Rattle.std.specs.List.{position}
use Rattle.std.proofs.lemmas.Slice.Zip.{get_or-zip, length-zip}
use Rattle.fault.specs.declared.fault.Fault.TheVariants.{ActionBytes}
use Rattle.fault.specs.Checks.{refuse_at, lowest}
use Rattle.fault.proofs.Lowest.{refuse_in}
use Rattle.action.specs.Bytes.{action_check}
use Rattle.action.proofs.bytes.check_bytes.Goals as goal

-- of the right count of bytes only the ranges are left to check: a search through both lists does
searched : (h b : List ℕ) (o : Option ℕ) → length b ≡ length h → o ≡ position (λ q. ltb q.1 q.0) (zip b h) → refuse_at (λ i. ActionBytes i) o ≡ action_check h b
searched h b o e found =
    let all : length (zip b h) ≡ length h = length-zip b h ∙ grind arith in
    let there : (i : ℕ) → i < length (zip b h) → ltb (get_or h i 0) (get_or b i 0) ≡ (λ (q : ℕ × ℕ). ltb q.1 q.0) (get_or (zip b h) i (0, 0)) =
    λ i l. sym (ap (λ (q : ℕ × ℕ). ltb q.1 q.0) (get_or-zip b h i (0, 0) (omega arith) (omega arith))) in
    rw (eq-eqb _ _ e) (refuse_in (λ i. ActionBytes i) (λ i. ltb (get_or h i 0) (get_or b i 0)) (λ q. ltb q.1 q.0) (zip b h) (0, 0) o found there ∙ ap (λ n. refuse_at (λ i. ActionBytes i) (lowest (λ i. ltb (get_or h i 0) (get_or b i 0)) n)) all)

pub returns-in-Some : goal.returns-in-Some
returns-in-Some c = searched _ _ (Some _) (search rules) (search rules)

pub returns-in-None : goal.returns-in-None
returns-in-None c = searched _ _ None (search rules) (search rules)
