-- A loop that writes f i at each index below n of a list that holds d elsewhere.
use Rattle.std.proofs.Common.{◌≡◌, ℕ, ◌+◌, ◌<◌, cond, ltb, List, length, get_or, set, replicate, sym, ap, ◌∙◌, inl, inr, arith, le-ltb, lt-ltb}
use lib.ListN.{get_or-replicate}
use Rattle.std.proofs.lemmas.Bool.{cases_eq, cases_lt}
use Rattle.std.proofs.lemmas.List.{get_or-set_same, get_or-set_other}

-- f below i, and d from there on
abbrev pub upto : {X : Type 0} (f : ℕ → X) (d : X) → ℕ → ℕ → X
upto f d i k = cond (ltb k i) (f k) d

pub filled_none : {X : Type 0} (f : ℕ → X) (d : X) (n k : ℕ) → k < n → get_or (replicate n d) k d ≡ upto f d 0 k
filled_none f d n k h = rw (get_or-replicate n k d d h, le-ltb k 0 (omega arith))

pub filled_more : {X : Type 0} (f : ℕ → X) (d v : X) (i n : ℕ) (xs : List X) → length xs ≡ n → i < n → v ≡ f i
    → ((k : ℕ) → k < n → get_or xs k d ≡ upto f d i k) → (k : ℕ) → k < n → get_or (set xs i v) k d ≡ upto f d (i + 1) k
filled_more f d v i n xs e l q h k b =
    elim (cases_eq k i) [
      | inl s ↦ (let z : i < length xs = omega arith in rw (s, get_or-set_same xs i v d z, lt-ltb i (i + 1) (omega arith)) q)
      | inr s ↦ get_or-set_other xs i k v d s ∙ (h k b ∙ ap (λ t. cond t (f k) d) (same k i s))
    ]
  where
    same : (k i : ℕ) → (k ≡ i → ⊥) → ltb k i ≡ ltb k (i + 1)
    same k i s = elim (cases_lt k i) [ inl a ↦ lt-ltb k i a ∙ sym (lt-ltb k (i + 1) (omega arith)) | inr a ↦ le-ltb k i a ∙ sym (le-ltb k (i + 1) (omega arith)) ]
