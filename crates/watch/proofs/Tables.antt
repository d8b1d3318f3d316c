-- The table of pairs of kinds, pair by pair.
use Rattle.std.proofs.Common.{◌≡◌, ℕ, ◌+◌, ◌<◌, ◌≤◌, ◌⊎◌, List, length, get_or, set, replicate, Ok, sym, refl, ap, ◌∙◌, inl, inr, ⊎_elim, arith, get_or-set_other, get_or-set_same}
use Rattle.std.proofs.lemmas.Bool.{cases_eq, cases_order, cases_lt}
use Rattle.std.proofs.lemmas.List.{get_or-replicate, get_or_past, length-replicate}
use Rattle.action.specs.Ranges.{highest_kind}
use Rattle.watch.specs.Meaning.{Iff}
use Rattle.watch.specs.declared.kinds.Kinds.{Kinds}
use Rattle.watch.specs.Sets.{no_kinds, In, with_kind}
use Rattle.watch.specs.Orders.{row, Tabled}
use Rattle.watch.proofs.Digits.{in_with, in_none}

-- row i has one kind more, and the others are as they were
module _ (t : List Kinds) (i k : ℕ) (l : i < length t) where
  here : (b : ℕ) → Iff (In (row (set t i (with_kind (row t i) k)) i) b) (In (row t i) b ⊎ ((i ≡ i) × (b ≡ k)))
  here b =
      let e = get_or-set_same t i (with_kind (row t i) k) no_kinds l in
      let o = in_with (row t i) k b in
      rw e ((λ h. ⊎_elim inl (λ q. inr (refl, q)) (o.0 h)), (λ h. o.1 (⊎_elim inl (λ q. inr q.1) h)))

  pub added : (a b : ℕ) → Iff (In (row (set t i (with_kind (row t i) k)) a) b) (In (row t a) b ⊎ ((a ≡ i) × (b ≡ k)))
  added a b =
      ⊎_elim
      (λ (e : a ≡ i). rw e (here b))
      (λ (ne : a ≡ i → ⊥). let e = get_or-set_other t i a (with_kind (row t i) k) no_kinds ne in rw e (inl, ⊎_elim (λ h. h) (λ q. absurd (ne q.0))))
      (cases_eq a i)

-- a table of empty sets
empty : (n a : ℕ) → row (replicate n no_kinds) a ≡ no_kinds
empty n a = ⊎_elim (λ (l : a < n). get_or-replicate n a no_kinds no_kinds l) (λ (l : n ≤ a). get_or_past (replicate n no_kinds) a no_kinds (omega (arith, length-replicate n no_kinds))) (cases_lt a n)

module _ (pairs : List (ℕ × ℕ)) where
  -- a and b are one of the first n pairs
  abbrev pub Among : ℕ → ℕ → ℕ → Type 0
  Among n a b = (i : ℕ) × (i < n) × (get_or pairs i (0, 0) ≡ (a, b))

  -- the table has those
  abbrev pub Table : ℕ → List Kinds → Type 0
  Table i t = (a b : ℕ) → Iff (In (row t a) b) (Among i a b)

  abbrev pub Low : ℕ → Type 0
  Low j = ((get_or pairs j (0, 0)).0 ≤ highest_kind) × ((get_or pairs j (0, 0)).1 ≤ highest_kind)

  pub started : (n : ℕ) → Table 0 (replicate n no_kinds)
  started n a b = ((λ h. absurd (in_none b (rw (empty n a) at h))), (λ m. absurd (let l = m.1 in omega arith)))

  -- one pair more
  pub grown : (i p q : ℕ) (t u : List Kinds) → p ≡ (get_or pairs i (0, 0)).0 → q ≡ (get_or pairs i (0, 0)).1 → Table i t → ((a b : ℕ) → Iff (In (row u a) b) (In (row t a) b ⊎ ((a ≡ p) × (b ≡ q)))) → Table (i + 1) u
  grown i p q t u ep eq inv add a b = (
    (λ h. ⊎_elim
        (λ k. let m = (inv a b).0 k in (m.0, let l = m.1 in omega arith, m.2))
        (λ e. (i, omega arith, rw (e.0 ∙ ep, e.1 ∙ eq)))
        ((add a b).0 h)),
    (λ m. (add a b).1 (⊎_elim
        (λ (e : m.0 ≡ i). inr (ap (λ (r : ℕ × ℕ). r.0) (sym m.2) ∙ rw e (sym ep), ap (λ (r : ℕ × ℕ). r.1) (sym m.2) ∙ rw e (sym eq)))
        (⊎_elim (λ (l : m.0 < i). inl ((inv a b).1 (m.0, l, m.2))) (λ (l : i < m.0). absurd (let k = m.1 in omega arith)))
        (cases_order m.0 i))),
  )

  pub ended : (i : ℕ) (t : List Kinds) → length pairs ≤ i → i ≤ length pairs → ((j : ℕ) → j < i → Low j) → Table i t → Tabled pairs (Ok t)
  ended i t l m low inv =
      let e : i ≡ length pairs = omega arith in
      ((λ o. let h = low o.0 (let k = o.1 in omega arith) in ⊎_elim (λ k. omega arith) (λ k. omega arith) o.2), rw e at inv)
