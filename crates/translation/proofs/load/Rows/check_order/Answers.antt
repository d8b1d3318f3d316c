use Rattle.std.proofs.Common.{◌≡◌, ℕ, zero, suc, ◌+◌, ◌-◌, ◌<◌, Bool, true, false, cond, leb, Some, None, Option, List, [], ◌∷◌, length, get_or, drop, zip, refl, sym, ap, ◌∙◌, add-one, lt-ltb, arith, rules}
use Rattle.std.specs.List.{position}
use Rattle.std.specs.Option.{option_map}
use Rattle.std.proofs.lemmas.List.Quantifiers.{position-Some}
use Rattle.std.proofs.lemmas.Slice.Zip.{get_or-zip, length-zip}
use Rattle.fault.specs.declared.fault.Fault.TheVariants.{TranslationOrder}
use Rattle.fault.specs.Checks.{refuse_at, lowest, or_here}
use Rattle.fault.proofs.Lowest.{lowest_in}
use Rattle.translation.specs.Files.{code_wrong, codes_check}
use Rattle.translation.proofs.load.Rows.check_order.Goals as goal

-- a test that fails at 0 holds first at the index after that at which the test of the next one does
later : (o : Option ℕ) (b : Bool) (n : ℕ) → or_here (option_map (λ i. i + 1) o) (cond b (Some (suc n)) None) ≡ option_map (λ i. i + 1) (or_here o (cond b (Some n) None))
later (Some i) b n = refl
later None true n = rw add-one
later None false n = refl

past_first : (p : ℕ → Bool) (n : ℕ) → p 0 ≡ false → lowest p (suc n) ≡ option_map (λ i. i + 1) (lowest (λ i. p (suc i)) n)
unfolding lowest
past_first p zero e = rw e
past_first p (suc n) e = rw (past_first p n e) (later (lowest (λ i. p (suc i)) n) (p (suc n)) n)

searched : (codes : List ℕ) (o : Option ℕ) → o ≡ position (λ q. leb q.1 q.0) (zip codes (drop 1 codes)) → refuse_at (λ i. TranslationOrder i) (option_map (λ i. i + 1) o) ≡ codes_check codes
unfolding lowest
searched [] o e = rw e
searched (x ∷ xs) o e =
    let q : ℕ × ℕ → Bool = λ (q : ℕ × ℕ). leb q.1 q.0 in
    let many : length (zip (x ∷ xs) xs) ≡ length xs = length-zip (x ∷ xs) xs ∙ grind arith in
    let there : (i : ℕ) → i < length (zip (x ∷ xs) xs) → code_wrong (x ∷ xs) (suc i) ≡ q (get_or (zip (x ∷ xs) xs) i (0, 0)) =
    λ i l.
    let before : suc i - 1 ≡ i = omega arith in
    rw (before, lt-ltb 0 (suc i) (omega arith)) (sym (ap q (get_or-zip (x ∷ xs) xs i (0, 0) (omega arith) (omega arith)))) in
    rw (past_first (code_wrong (x ∷ xs)) (length xs) refl, ← many, lowest_in (λ i. code_wrong (x ∷ xs) (suc i)) q (zip (x ∷ xs) xs) (0, 0) there)
    (ap (λ m. refuse_at (λ i. TranslationOrder i) (option_map (λ i. i + 1) m)) e)

pub overflow_add-result : goal.overflow_add-result
overflow_add-result c =
    let codes = c.args.self.now.codes.now in
    let p = position-Some (λ (q : ℕ × ℕ). leb q.1 q.0) (zip codes (drop 1 codes)) c.in-Some.i (0, 0) (search rules) in
    let n = length-zip codes (drop 1 codes) in
    search rules

pub returns-in-Some : goal.returns-in-Some
returns-in-Some c = searched _ (Some _) (search rules)

pub returns-in-None : goal.returns-in-None
returns-in-None c = searched _ None (search rules)
