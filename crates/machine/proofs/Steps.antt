-- What loops over the steps reach: one more step fired.
use Rattle.std.proofs.Common.{◌≡◌, ℕ, ◌+◌, ◌<◌, ◌≤◌, Bool, true, ◌||◌, T, ◌⊎◌, ◌↔◌, Some, None, Decides, Option, sym, refl, subst, subst₂, inl, inr, arith}
use native.Mathlib.Decide.{dec_lt}
use Rattle.std.proofs.lemmas.Bool.Decides.{Decides-like, Decides-or}
use Rattle.action.specs.declared.deed.Deed.{Deed}
use Rattle.sheet.specs.declared.diagram.Fragment.{Fragment}
use Rattle.sheet.specs.declared.diagram.Variables.{Variables}
use Rattle.sheet.specs.declared.marks.Marks.{Marks}
use Rattle.sheet.specs.Empties.{has, both}
use Rattle.sheet.specs.Meaning.{Takes}
use Rattle.sheet.proofs.Bools.{T_true}
use Rattle.sheet.proofs.Both.{move, has_same, both_at, both_out}
use Rattle.followers.specs.Next.{at, end, Nexts}
use Rattle.followers.specs.Accepts.{Fires}
use Rattle.machine.specs.declared.fire.Firing.{Firing}
use Rattle.machine.specs.Suited.{Suited}
use Rattle.machine.specs.Pairs.{May, Reached}
use Rattle.machine.specs.Going.{EndsBelow, MovesBelow}

-- no step of a fragment suits the deed
pub none_suits : (f : Fragment) (d : Deed) (r : Option Firing) → Suited f d r → ((t : Firing) → r ≡ Some t → ⊥) → (v u : Variables) → Fires f v d u → ⊥
none_suits f d None h no' = h
none_suits f d (Some t) h no' = absurd (no' t refl)

-- some pair that is reached has the end after it, marked
abbrev pub EndThere : (Variables → Marks) → Marks → Type 0
EndThere R n = (u : Variables) × T (has (both (R u) n) true)

module _ (F : ℕ → Fragment) (follow : ℕ → Nexts) (old : May) (d : Deed) (p : ℕ) where
  pub ends_up : (q : ℕ) → p ≤ q → EndsBelow F follow old d p → EndsBelow F follow old d q
  ends_up q h x = (x.0, x.1, x.2, x.3, x.4, omega (arith, x.5), x.6, x.7, x.8, x.9)

  moves_kept : (q : ℕ) (u : Variables) (k : Bool) → MovesBelow F follow old d p q u k → MovesBelow F follow old d (p + 1) q u k
  moves_kept q u k x = (x.0, x.1, x.2, x.3, omega (arith, x.4), x.5, x.6, x.7, x.8)

  module _ (t : Firing) (e : (F p ≡ Fragment.Step t.step) × (t.deed ≡ d)) (R : Variables → Marks) (fired : (u : Variables) (m : Bool) → T (has (R u) m) ↔ Reached (old p) t.step t.deed u m) where
    fires : (v u : Variables) → Takes t.step v t.deed u → Fires (F p) v d u
    fires v u x = subst₂ (λ (f : Fragment) (k : Deed). Fires f v k u) (sym e.0) e.1 x

    takes : (v u : Variables) → Fires (F p) v d u → Takes t.step v t.deed u
    takes v u x = subst₂ (λ (f : Fragment) (k : Deed). Fires f v k u) e.0 (sym e.1) x

    pub ends_found : (n : Marks) → n ≡ follow p end → EndThere R n → EndsBelow F follow old d (p + 1)
    ends_found n same (u, h) =
        let b = both_out (R u) n true h in
        let r = (fired u b.m).0 b.left in
        (p, r.0, b.m, u, b.n, omega arith, r.1, fires r.0 u r.2, has_same same b.n b.right, move (sym b.is) tt)

    pub ends_split : (n : Marks) → n ≡ follow p end → EndsBelow F follow old d (p + 1) → EndsBelow F follow old d p ⊎ EndThere R n
    ends_split n same (q, v, m, u, k, l, a, t, g, o) = elim (dec_lt q p) [
      | yes y ↦ inl (q, v, m, u, k, y, a, t, g, o)
      | no y ↦
          let z : q ≡ p = omega arith in
          let t' : Fires (F p) v d u = subst (λ (j : ℕ). Fires (F j) v d u) z t in
          let a' : T (has (old p v) m) = subst (λ (j : ℕ). T (has (old j v) m)) z a in
          let g' : T (has (follow p end) k) = subst (λ (j : ℕ). T (has (follow j end) k)) z g in
          inr (u, both_at (R u) n m k true (T_true (m || k) o) ((fired u m).1 (v, a', takes v u t')) (has_same (sym same) k g'))
    ]

    pub ends_decided : (n : Marks) → n ≡ follow p end → (a b : Bool) → Decides a (EndsBelow F follow old d p) → Decides b (EndThere R n) → Decides (a || b) (EndsBelow F follow old d (p + 1))
    ends_decided n same a b x y = Decides-like (a || b) (λ h. elim h [ inl z ↦ ends_up (p + 1) (omega arith) z | inr z ↦ ends_found n same z ]) (ends_split n same) (Decides-or a b x y)

    pub moves_more : (start xs ys : May) → ((j : ℕ) (u : Variables) (m : Bool) → T (has (ys j u) m) ↔ (T (has (xs j u) m) ⊎ T (has (both (R u) (follow p (at j))) m)))
        → ((q : ℕ) (u : Variables) (k : Bool) → T (has (xs q u) k) ↔ (T (has (start q u) k) ⊎ MovesBelow F follow old d p q u k))
        → (q : ℕ) (u : Variables) (k : Bool) → T (has (ys q u) k) ↔ (T (has (start q u) k) ⊎ MovesBelow F follow old d (p + 1) q u k)
    moves_more start xs ys sp inv q u k = (to, from)
      where
        to : T (has (ys q u) k) → T (has (start q u) k) ⊎ MovesBelow F follow old d (p + 1) q u k
        to h = elim ((sp q u k).0 h) [
          | inl y ↦ elim ((inv q u k).0 y) [ inl z ↦ inl z | inr z ↦ inr (moves_kept q u k z) ]
          | inr y ↦
              let b = both_out (R u) (follow p (at q)) k y in
              let r = (fired u b.m).0 b.left in
              inr (p, r.0, b.m, b.n, omega arith, r.1, fires r.0 u r.2, b.right, b.is)
        ]

        from : T (has (start q u) k) ⊎ MovesBelow F follow old d (p + 1) q u k → T (has (ys q u) k)
        from (inl h) = (sp q u k).1 (inl ((inv q u k).1 (inl h)))
        from (inr (i, v, m, j, b, a, t, g, o)) = elim (dec_lt i p) [
          | yes y ↦ (sp q u k).1 (inl ((inv q u k).1 (inr (i, v, m, j, y, a, t, g, o))))
          | no y ↦
              let z : i ≡ p = omega arith in
              let t' : Fires (F p) v d u = subst (λ (j : ℕ). Fires (F j) v d u) z t in
              let a' : T (has (old p v) m) = subst (λ (j : ℕ). T (has (old j v) m)) z a in
              let g' : T (has (follow p (at q)) j) = subst (λ (i : ℕ). T (has (follow i (at q)) j)) z g in
              (sp q u k).1 (inr (both_at (R u) (follow p (at q)) m j k o ((fired u m).1 (v, a', takes v u t')) g'))
        ]

  module _ (idle : (v u : Variables) → Fires (F p) v d u → ⊥) where
    pub ends_idle : EndsBelow F follow old d (p + 1) → EndsBelow F follow old d p
    ends_idle (q, v, m, u, k, l, a, t, g, o) = elim (dec_lt q p) [
      | yes y ↦ (q, v, m, u, k, y, a, t, g, o)
      | no y ↦ let z : q ≡ p = omega arith in absurd (idle v u (subst (λ (j : ℕ). Fires (F j) v d u) z t))
    ]

    pub moves_idle : (start xs : May) → ((q : ℕ) (u : Variables) (k : Bool) → T (has (xs q u) k) ↔ (T (has (start q u) k) ⊎ MovesBelow F follow old d p q u k))
        → (q : ℕ) (u : Variables) (k : Bool) → T (has (xs q u) k) ↔ (T (has (start q u) k) ⊎ MovesBelow F follow old d (p + 1) q u k)
    moves_idle start xs inv q u k = (to, from)
      where
        to : T (has (xs q u) k) → T (has (start q u) k) ⊎ MovesBelow F follow old d (p + 1) q u k
        to h = elim ((inv q u k).0 h) [ inl z ↦ inl z | inr z ↦ inr (moves_kept q u k z) ]

        from : T (has (start q u) k) ⊎ MovesBelow F follow old d (p + 1) q u k → T (has (xs q u) k)
        from (inl h) = (inv q u k).1 (inl h)
        from (inr (i, v, m, j, b, a, t, g, o)) = elim (dec_lt i p) [
          | yes y ↦ (inv q u k).1 (inr (i, v, m, j, y, a, t, g, o))
          | no y ↦ let z : i ≡ p = omega arith in absurd (idle v u (subst (λ (j : ℕ). Fires (F j) v d u) z t))
        ]

-- spread to the steps below q
abbrev pub SpreadBelow : May → (Variables → Marks) → (ℕ → Marks) → ℕ → May → Type 0
SpreadBelow xs R K q ys = (j : ℕ) (u : Variables) (m : Bool) → T (has (ys j u) m) ↔ (T (has (xs j u) m) ⊎ ((j < q) × T (has (both (R u) (K j)) m)))
