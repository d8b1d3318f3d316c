-- How acceptance moves from set to set.
use Rattle.std.proofs.Common.{◌≡◌, ℕ, Bool, ◌||◌, T, ◌⊎◌, List, [], ◌∷◌, sym, refl, ap, ◌∙◌, subst, inl, inr}
use mathlib.Core.Bool.{or_assoc}
use Rattle.action.specs.declared.deed.Deed.{Deed}
use Rattle.sheet.specs.declared.diagram.Fragment.{Fragment}
use Rattle.sheet.specs.declared.diagram.Variables.{Variables}
use Rattle.sheet.specs.declared.marks.Marks.{Marks}
use Rattle.sheet.specs.Empties.{has}
use Rattle.sheet.proofs.Both.{move, both_out, either_out}
use Rattle.followers.specs.Next.{Next, at, end, Nexts, join, after}
use Rattle.followers.specs.Accepts.{Accepts}

pub along : {A B : Nexts} → A ≡ B → (t : Next) (n : Bool) → T (has (A t) n) → T (has (B t) n)
along e t n h = subst (λ (K : Nexts). T (has (K t) n)) e h

module _ (F : ℕ → Fragment) (follow : ℕ → Nexts) where
  -- from one set and mark to another, where each next of the one is in the other with a mark that makes up for the difference
  abbrev pub Into : Nexts → Bool → Nexts → Bool → Type 0
  Into A m B k = (t : Next) (n : Bool) → T (has (A t) n) → (j : Bool) × T (has (B t) j) × (m || n ≡ k || j)

  pub shift : (A : Nexts) (m : Bool) (B : Nexts) (k : Bool) (v : Variables) (l : List Deed) → Into A m B k → Accepts F follow A v m l → Accepts F follow B v k l
  shift A m B k v [] f (n, h, e) = let g = f end n h in (g.0, g.1, move g.2 e)
  shift A m B k v (d ∷ l) f (p, n, u, h, x, rest) =
      let g = f (at p) n h in
      (p, g.0, u, g.1, x, subst (λ (b : Bool). Accepts F follow (follow p) u b l) g.2 rest)

  pub widen : (A B : Nexts) (m : Bool) (v : Variables) (l : List Deed) → ((t : Next) (n : Bool) → T (has (A t) n) → T (has (B t) n)) → Accepts F follow A v m l → Accepts F follow B v m l
  widen A B m v l f x = shift A m B m v l (λ t n h. (n, f t n h, refl)) x

  pub reset : {A B : Nexts} → A ≡ B → (m : Bool) (v : Variables) (l : List Deed) → Accepts F follow A v m l → Accepts F follow B v m l
  reset e m v l x = subst (λ (K : Nexts). Accepts F follow K v m l) e x

  pub remark : (K : Nexts) (m k : Bool) (v : Variables) (l : List Deed) → m ≡ k → Accepts F follow K v m l → Accepts F follow K v k l
  remark K m k v l e x = subst (λ (b : Bool). Accepts F follow K v b l) e x

  pub join_out : (A B : Nexts) (m : Bool) (v : Variables) (l : List Deed) → Accepts F follow (join A B) v m l → Accepts F follow A v m l ⊎ Accepts F follow B v m l
  join_out A B m v [] (n, h, e) = elim (either_out (A end) (B end) n h) [ inl x ↦ inl (n, x, e) | inr x ↦ inr (n, x, e) ]
  join_out A B m v (d ∷ l) (p, n, u, h, x, rest) = elim (either_out (A (at p)) (B (at p)) n h) [ inl y ↦ inl (p, n, u, y, x, rest) | inr y ↦ inr (p, n, u, y, x, rest) ]

  pub after_out : (N : Marks) (A : Nexts) (m : Bool) (v : Variables) (l : List Deed) → Accepts F follow (after N A) v m l → (n : Bool) × T (has N n) × Accepts F follow A v (m || n) l
  after_out N A m v [] (k, h, e) =
      let s = both_out N (A end) k h in
      (s.m, s.left, (s.n, s.right, move (ap (λ (b : Bool). m || b) (sym s.is) ∙ sym (or_assoc m s.m s.n)) e))
  after_out N A m v (d ∷ l) (p, k, u, h, x, rest) =
      let s = both_out N (A (at p)) k h in
      (s.m, s.left, (p, s.n, u, s.right, x, remark (follow p) (m || k) (m || s.m || s.n) u l (ap (λ (b : Bool). m || b) (sym s.is) ∙ sym (or_assoc m s.m s.n)) rest))
