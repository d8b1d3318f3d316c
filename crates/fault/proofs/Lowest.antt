-- The lowest index at which a test holds, as a loop or a search through a list finds it, and the sum over indices as one over a list.
use Rattle.std.proofs.Common.{◌≡◌, ℕ, zero, suc, ◌+◌, ◌<◌, ◌≤◌, Bool, true, false, cond, Some, None, Ok, Err, Option, List, length, get_or, take, sum_by, refl, sym, ap, ap₂, ◌∙◌, lt-ltb, le-ltb, inl, inr, add-one, arith}
use Rattle.std.specs.List.{position, position_or_len}
use Rattle.std.proofs.lemmas.List.Sums.{position_or_len_is, sum_by_more}
use Rattle.std.proofs.Math.Seq.{take-length}
use Rattle.std.proofs.lemmas.Bool.{cases_order}
use Rattle.fault.specs.declared.fault.Fault.{Fault}
use Rattle.fault.specs.Checks.{lowest, or_here, total, refuse_at}
use Rattle.fault.specs.Laws.{Picks, LowestMeans}

-- the invariant of a search is that nothing is picked so far: its start, one turn, the exit at an index, the end
pub lowest_none : (p : ℕ → Bool) → lowest p 0 ≡ None
unfolding lowest
lowest_none p = refl

pub lowest_more : (p : ℕ → Bool) (i : ℕ) → lowest p i ≡ None → p i ≡ false → lowest p (i + 1) ≡ None
unfolding lowest
lowest_more p i h e = rw (add-one, h, e)

pub lowest_at : (p : ℕ → Bool) (i n : ℕ) → lowest p i ≡ None → p i ≡ true → i < n → lowest p n ≡ Some i
unfolding lowest
lowest_at p i zero h e l = absurd (omega arith)
lowest_at p i (suc n) h e l =
    elim (cases_order i n) [ inl q ↦ rw (← q, h, e) | inr (inl b) ↦ rw (lowest_at p i n h e b) | inr (inr b) ↦ absurd (omega arith) ]

pub refuse_found : (f : ℕ → Fault) (p : ℕ → Bool) (i n : ℕ) → lowest p i ≡ None → p i ≡ true → i < n → Err (f i) ≡ refuse_at f (lowest p n)
refuse_found f p i n h e l = rw (lowest_at p i n h e l)

pub refuse_passed : (f : ℕ → Fault) (p : ℕ → Bool) (i n : ℕ) → lowest p i ≡ None → n ≤ i → i ≤ n → Ok tt ≡ refuse_at f (lowest p n)
refuse_passed f p i n h a b = let q : n ≡ i = omega arith in rw (q, h)

-- what is picked
picks_more : (p : ℕ → Bool) (n : ℕ) (o : Option ℕ) (b : Bool) → p n ≡ b → Picks p n o → Picks p (suc n) (or_here o (cond b (Some n) None))
picks_more p n (Some i) b e (l, t, h) = (omega arith, t, h)
picks_more p n None true e h = (omega arith, e, h)
picks_more p n None false e h = λ j l. elim (cases_order j n) [
  | inl q ↦ rw q e
  | inr (inl b) ↦ h j b
  | inr (inr b) ↦ absurd (omega arith)
]

pub lowest_means : LowestMeans
unfolding lowest
lowest_means p zero = λ j l. absurd (omega arith)
lowest_means p (suc n) = picks_more p n (lowest p n) (p n) refl (lowest_means p n)

-- where the test is one of the item at each index, the lowest is the one that a search through the list finds
found_in : {X : Type 0} (p : ℕ → Bool) (q : X → Bool) (xs : List X) (d : X) → ((i : ℕ) → i < length xs → p i ≡ q (get_or xs i d)) → (o : Option ℕ) → Picks p (length xs) o → o ≡ position q xs
found_in p q xs d same (Some i) (l, t, h) =
    let e : position_or_len q xs ≡ i = position_or_len_is q xs i d (omega arith) (λ k b. sym (same k (omega arith)) ∙ h k b) (λ _. sym (same i l) ∙ t) in
    rw (e, lt-ltb _ _ l)
found_in p q xs d same None h =
    let e : position_or_len q xs ≡ length xs = position_or_len_is q xs (length xs) d (omega arith) (λ k b. sym (same k b) ∙ h k b) (λ b. absurd (omega arith)) in
    rw (e, le-ltb (length xs) (length xs) (omega arith))

pub lowest_in : {X : Type 0} (p : ℕ → Bool) (q : X → Bool) (xs : List X) (d : X) → ((i : ℕ) → i < length xs → p i ≡ q (get_or xs i d)) → lowest p (length xs) ≡ position q xs
lowest_in p q xs d same = found_in p q xs d same (lowest p (length xs)) (lowest_means p (length xs))

-- what a check answers that searches so
pub refuse_in : {X : Type 0} (f : ℕ → Fault) (p : ℕ → Bool) (q : X → Bool) (xs : List X) (d : X) (o : Option ℕ) → o ≡ position q xs → ((i : ℕ) → i < length xs → p i ≡ q (get_or xs i d)) → refuse_at f o ≡ refuse_at f (lowest p (length xs))
refuse_in f p q xs d o e same = ap (refuse_at f) (e ∙ sym (lowest_in p q xs d same))

-- where the number is one of the item at each index, the sum is the one over the list
total_taken : {X : Type 0} (f : ℕ → ℕ) (g : X → ℕ) (xs : List X) (d : X) → ((i : ℕ) → i < length xs → f i ≡ g (get_or xs i d)) → (n : ℕ) → n ≤ length xs → total f n ≡ sum_by g (take n xs)
unfolding total
total_taken f g xs d same zero h = refl
total_taken f g xs d same (suc n) h =
    ap₂ ◌+◌ (total_taken f g xs d same n (omega arith)) (same n (omega arith)) ∙ sym (sum_by_more g xs n d (omega arith)) ∙ ap (λ k. sum_by g (take k xs)) (add-one n)

pub total_in : {X : Type 0} (f : ℕ → ℕ) (g : X → ℕ) (xs : List X) (d : X) → ((i : ℕ) → i < length xs → f i ≡ g (get_or xs i d)) → total f (length xs) ≡ sum_by g xs
total_in f g xs d same = total_taken f g xs d same (length xs) (omega arith) ∙ ap (sum_by g) (take-length xs)
