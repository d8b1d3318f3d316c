-- How many actions of a list are of a kind, as the library counts.
use Rattle.std.proofs.Common.{◌≡◌, ℕ, ◌+◌, Bool, true, false, cond, eqb, List, refl, zero-add, count_by}
use Rattle.std.proofs.lemmas.List.Recursion.{is_count_by}
use Rattle.action.specs.Traces.{tally}

one_or_none : (b : Bool) (n : ℕ) → cond b 1 0 + n ≡ cond b (1 + n) n
one_or_none true n = refl
one_or_none false n = zero-add n

pub tally_counts : {X : Type 0} (kind : X → ℕ) (k : ℕ) (l : List X) → tally kind k l ≡ count_by (λ x. eqb k (kind x)) l
tally_counts kind k l = is_count_by (tally kind k) (λ x. eqb k (kind x)) refl (λ x l. one_or_none (eqb k (kind x)) (tally kind k l)) l
