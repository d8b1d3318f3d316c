-- One action at a time: what is met and what follows in a list and in its rest.
use Rattle.std.specs.Prelude.{ℕ, ◌⊎◌, List, [], ◌∷◌}
use Rattle.std.proofs.Common.{inl, inr, ⊎_elim, arith}
use Rattle.action.specs.Traces.{Sub, keep, skip}
use Rattle.action.proofs.Traces.{sub_none, sub_length}
use Rattle.watch.specs.Meaning.{Iff}
use Rattle.watch.specs.Orders.{Met, Followed}

module _ {X : Type 0} (kind : X → ℕ) where
  pub met_none : (P : ℕ → Type 0) → Met kind P [] → ⊥
  met_none P m = omega (arith, sub_length m.within)

  met_split : (P : ℕ → Type 0) (y : X) {x : X} {l : List X} → Sub (y ∷ []) (x ∷ l) → P (kind y) → P (kind x) ⊎ Met kind P l
  met_split P y (keep s) p = inl p
  met_split P y (skip s) p = inr (record { one = y; within = s; such = p })

  pub met_more : (P : ℕ → Type 0) (x : X) (l : List X) → Iff (Met kind P (x ∷ l)) (P (kind x) ⊎ Met kind P l)
  met_more P x l = (
    (λ m. met_split P m.one m.within m.such),
    ⊎_elim
        (λ p. record { one = x; within = keep (sub_none l); such = p })
        (λ m. record { one = m.one; within = skip m.within; such = m.such }),
  )

  pub followed_none : (P : ℕ → ℕ → Type 0) → Followed kind P [] → ⊥
  followed_none P f = omega (arith, sub_length f.within)

  followed_split : (P : ℕ → ℕ → Type 0) (a b : X) {x : X} {l : List X} → Sub (a ∷ b ∷ []) (x ∷ l) → P (kind a) (kind b) → Met kind (P (kind x)) l ⊎ Followed kind P l
  followed_split P a b (keep s) p = inl (record { one = b; within = s; such = p })
  followed_split P a b (skip s) p = inr (record { earlier = a; later = b; within = s; such = p })

  pub followed_more : (P : ℕ → ℕ → Type 0) (x : X) (l : List X) → Iff (Followed kind P (x ∷ l)) (Met kind (P (kind x)) l ⊎ Followed kind P l)
  followed_more P x l = (
    (λ f. followed_split P f.earlier f.later f.within f.such),
    ⊎_elim
        (λ m. record { earlier = x; later = m.one; within = keep m.within; such = m.such })
        (λ f. record { earlier = f.earlier; later = f.later; within = skip f.within; such = f.such }),
  )

  -- another set, another table, of which the same is known
  pub met_as : (P Q : ℕ → Type 0) → ((k : ℕ) → P k → Q k) → (l : List X) → Met kind P l → Met kind Q l
  met_as P Q h l m = record { one = m.one; within = m.within; such = h (kind m.one) m.such }

  pub followed_as : (P Q : ℕ → ℕ → Type 0) → ((a b : ℕ) → P a b → Q a b) → (l : List X) → Followed kind P l → Followed kind Q l
  followed_as P Q h l f = record { earlier = f.earlier; later = f.later; within = f.within; such = h (kind f.earlier) (kind f.later) f.such }
