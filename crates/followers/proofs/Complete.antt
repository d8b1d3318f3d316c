-- Each run of a fragment is accepted: by induction on the fragment.
use Rattle.std.proofs.Common.{◌≡◌, ℕ, zero, suc, ◌<◌, Bool, true, false, ◌||◌, T, ◌⊎◌, List, ◌++◌, sym, refl, ap, ◌∙◌, subst, inl, inr, append_assoc, lt-suc_self, arith}
use mathlib.Core.Bool.{or_assoc, or-true, or-false}
use lib.Dec.{eqb_refl}
use Rattle.action.specs.declared.deed.Deed.{Deed}
use Rattle.sheet.specs.declared.diagram.Fragment.{Fragment}
use Rattle.sheet.specs.declared.diagram.Fragment.TheVariants.{Skip, Seq, Alt, Loop, Neg}
use Rattle.sheet.specs.declared.diagram.Variables.{Variables}
use Rattle.sheet.specs.declared.marks.Marks.{Marks}
use Rattle.sheet.specs.Meaning.{Runs, Of, meaning, Rounds, stop, round}
use Rattle.sheet.specs.Empties.{has, both, empty_of}
use Rattle.sheet.specs.Laws.{Earlier}
use Rattle.sheet.proofs.Falling.{meaning_is}
use Rattle.sheet.proofs.Both.{Split, has_same, both_in, both_at, both_out, either_l, either_r, either_out, must_in, must_out}
use Rattle.followers.specs.Next.{Next, at, Nexts, join, after}
use Rattle.followers.specs.Followers.{enter, first_of}
use Rattle.followers.specs.Accepts.{Fires, Accepts}
use Rattle.followers.proofs.Moves.{along, shift, widen, reset, remark}
use Rattle.followers.proofs.Filled.{PassesOn, Filled}

module _ (F : ℕ → Fragment) (null : ℕ → Marks) (first follow : ℕ → Nexts) where
  abbrev start : ℕ → Nexts
  start i = enter (null i) (first i) (follow i)

  abbrev Acc : Nexts → Variables → Bool → List Deed → Type 0
  Acc = Accepts F follow

  -- a run of i, and then what i's follow set accepts
  abbrev pub Whole : ℕ → Runs → Type 0
  Whole i R = (v u : Variables) (a b : List Deed) (m k : Bool) → R v a u m → Accepts F follow (follow i) u (k || m) b → Accepts F follow (enter (null i) (first i) (follow i)) v k (a ++ b)

  by_first : (i : ℕ) (t : Next) (n : Bool) → T (has (first i t) n) → T (has (start i t) n)
  by_first i t n h = either_l (first i t) (both (null i) (follow i t)) n h

  by_after : (i : ℕ) (t : Next) (m n k : Bool) → m || n ≡ k → T (has (null i) m) → T (has (follow i t) n) → T (has (start i t) k)
  by_after i t m n k e x y = either_r (first i t) (both (null i) (follow i t)) k (both_at (null i) (follow i t) m n k e x y)

  -- what begins i comes first in it, or after it
  begins : (i : ℕ) (t : Next) (n : Bool) → T (has (start i t) n) → T (has (first i t) n) ⊎ Split (null i) (follow i t) n
  begins i t n h = elim (either_out (first i t) (both (null i) (follow i t)) n h) [ inl x ↦ inl x | inr x ↦ inr (both_out (null i) (follow i t) n x) ]

  -- an empty unmarked run
  pass : (i : ℕ) → T (has (null i) false) → (v : Variables) (k : Bool) (b : List Deed) → Acc (follow i) v k b → Acc (start i) v k b
  pass i z v k b x = widen F follow (follow i) (start i) k v b (λ t n h. by_after i t false n n refl z h) x

  loop_case : (i b : ℕ) (B : Runs) → T (has (null i) false) → Whole b B
      → ((t : Next) (n : Bool) → T (has (start i t) n) → T (has (follow b t) n)) → ((t : Next) (n : Bool) → T (has (start b t) n) → T (has (start i t) n))
      → {v : Variables} {a : List Deed} {u : Variables} {m : Bool} → Rounds B v a u m → (c : List Deed) (k : Bool) → Acc (follow i) u (k || m) c → Acc (start i) v k (a ++ c)
  loop_case i b B z w f g (stop {v = v}) c k x = pass i z v k c (remark F follow (follow i) (k || false) k v c (or-false k) x)
  loop_case i b B z w f g (round {v = v} {w = y} {u = u} {a = a} {b = a₂} {m = m₁} {n = m₂} r rest) c k x =
      let x₁ : Acc (follow i) u (k || m₁ || m₂) c = remark F follow (follow i) _ _ u c (sym (or_assoc k m₁ m₂)) x in
      let x₂ : Acc (start i) y (k || m₁) (a₂ ++ c) = loop_case i b B z w f g rest c (k || m₁) x₁ in
      let x₃ : Acc (follow b) y (k || m₁) (a₂ ++ c) = widen F follow (start i) (follow b) _ y _ f x₂ in
      let x₄ : Acc (start b) v k (a ++ (a₂ ++ c)) = w v y a (a₂ ++ c) m₁ k r x₃ in
      subst (λ (l : List Deed). Acc (start i) v k l) (sym (append_assoc a a₂ c)) (widen F follow (start b) (start i) k v _ g x₄)

  case : (f : Fragment) (i : ℕ) (R : ℕ → Runs) → F i ≡ f → Earlier f i → null i ≡ empty_of f null → first i ≡ first_of f i null first
      → PassesOn f i null first follow → ((j : ℕ) → j < i → Whole j (R j)) → Whole i (Of f R)
  case Skip i R e pb nl fi fo ih v u a b m k (ea, eu, em) x =
      let x₁ : Acc (follow i) v k b = rw (← eu) (rw (← or-false k) (rw (← em) x)) in
      rw ea (pass i (has_same (sym nl) false tt) v k b x₁)
  case (Fragment.Step s) i R e pb nl fi fo ih v u a b m k (d, ea, tk, em) x =
      rw ea (i, false, u, by_first i (at i) false (along (sym fi) (at i) false (eqb_refl i)), subst (λ (q : Fragment). Fires q v d u) (sym e) tk, rw (← em) x)
  case (Seq l r) i R e pb nl fi fo ih v u a b m k t x =
      let x₁ : Acc (follow i) u (k || t.front_mark || t.back_mark) b = remark F follow (follow i) _ _ u b (ap (λ (y : Bool). k || y) t.mark ∙ sym (or_assoc k t.front_mark t.back_mark)) x in
      let x₂ : Acc (follow r) u (k || t.front_mark || t.back_mark) b = reset F follow (sym fo.1) _ u b x₁ in
      let x₃ : Acc (start r) t.between (k || t.front_mark) (t.back ++ b) = ih r pb.1 t.between u t.back b t.back_mark (k || t.front_mark) t.right x₂ in
      let x₄ : Acc (follow l) t.between (k || t.front_mark) (t.back ++ b) = reset F follow (sym fo.0) _ _ _ x₃ in
      let x₅ : Acc (start l) v k (t.front ++ (t.back ++ b)) = ih l pb.0 v t.between t.front (t.back ++ b) t.front_mark k t.left x₄ in
      let x₆ : Acc (start i) v k (t.front ++ (t.back ++ b)) = widen F follow (start l) (start i) k v _ into x₅ in
      rw t.deeds (rw append_assoc x₆)
    where
      first_in : (s : Next) (n : Bool) → T (has (join (first l) (after (null l) (first r)) s) n) → T (has (start i s) n)
      first_in s n h = by_first i s n (along (sym fi) s n h)

      into : (s : Next) (n : Bool) → T (has (start l s) n) → T (has (start i s) n)
      into s n h = elim (begins l s n h) [
        | inl y ↦ first_in s n (either_l (first l s) (both (null l) (first r s)) n y)
        | inr p ↦ elim (begins r s p.n (along fo.0 s p.n p.right)) [
          | inl z ↦ first_in s n (either_r (first l s) (both (null l) (first r s)) n (both_at (null l) (first r s) p.m p.n n p.is p.left z))
          | inr q ↦
              let y₁ : T (has (null i) (p.m || q.m)) = has_same (sym nl) (p.m || q.m) (both_in (null l) (null r) p.m q.m p.left q.left) in
              let y₂ : T (has (follow i s) q.n) = along fo.1 s q.n q.right in
              by_after i s (p.m || q.m) q.n n (or_assoc p.m q.m q.n ∙ ap (λ (c : Bool). p.m || c) q.is ∙ p.is) y₁ y₂
        ]
      ]
  case (Alt l r) i R e pb nl fi fo ih v u a b m k (inl t) x =
      widen F follow (start l) (start i) k v _ into (ih l pb.0 v u a b m k t (reset F follow (sym fo.0) _ u b x))
    where
      into : (s : Next) (n : Bool) → T (has (start l s) n) → T (has (start i s) n)
      into s n h = elim (begins l s n h) [
        | inl y ↦ by_first i s n (along (sym fi) s n (either_l (first l s) (first r s) n y))
        | inr p ↦ by_after i s p.m p.n n p.is (has_same (sym nl) p.m (either_l (null l) (null r) p.m p.left)) (along fo.0 s p.n p.right)
      ]
  case (Alt l r) i R e pb nl fi fo ih v u a b m k (inr t) x =
      widen F follow (start r) (start i) k v _ into (ih r pb.1 v u a b m k t (reset F follow (sym fo.1) _ u b x))
    where
      into : (s : Next) (n : Bool) → T (has (start r s) n) → T (has (start i s) n)
      into s n h = elim (begins r s n h) [
        | inl y ↦ by_first i s n (along (sym fi) s n (either_r (first l s) (first r s) n y))
        | inr p ↦ by_after i s p.m p.n n p.is (has_same (sym nl) p.m (either_r (null l) (null r) p.m p.left)) (along fo.1 s p.n p.right)
      ]
  case (Loop b') i R e pb nl fi fo ih v u a b m k t x = loop_case i b' (R b') (has_same (sym nl) false tt) (ih b' pb) out into t b k x
    where
      out : (s : Next) (n : Bool) → T (has (start i s) n) → T (has (follow b' s) n)
      out s n h = along (sym fo) s n (elim (begins i s n h) [
        | inl y ↦
            let p = both_out (null i) (first b' s) n (along fi s n y) in
            both_at (null i) (join (follow i) (first b') s) p.m p.n n p.is p.left (either_r (follow i s) (first b' s) p.n p.right)
        | inr p ↦ both_at (null i) (join (follow i) (first b') s) p.m p.n n p.is p.left (either_l (follow i s) (first b' s) p.n p.right)
      ])

      more : (m n : Bool) → T (has (null b') m) → T (has (null i) n) → T (has (null i) (m || n))
      more false n h g = g
      more true n h g = has_same (sym nl) true h

      into : (s : Next) (n : Bool) → T (has (start b' s) n) → T (has (start i s) n)
      into s n h = elim (begins b' s n h) [
        | inl y ↦ by_first i s n (along (sym fi) s n (both_at (null i) (first b' s) false n n refl (has_same (sym nl) false tt) y))
        | inr p ↦
            let q = both_out (null i) (join (follow i) (first b') s) p.n (along fo s p.n p.right) in
            let y₁ : T (has (null i) (p.m || q.m)) = more p.m q.m p.left q.left in
            let y₃ : p.m || q.m || q.n ≡ n = or_assoc p.m q.m q.n ∙ ap (λ (c : Bool). p.m || c) q.is ∙ p.is in
            elim (either_out (follow i s) (first b' s) q.n q.right) [
              | inl z ↦ by_after i s (p.m || q.m) q.n n y₃ y₁ z
              | inr z ↦ by_first i s n (along (sym fi) s n (both_at (null i) (first b' s) (p.m || q.m) q.n n y₃ y₁ z))
            ]
      ]
  case (Neg b') i R e pb nl fi fo ih v u a b m k ((m', t), em) x =
      let x₁ : Acc (follow b') u (k || m') b = shift F follow (follow i) (k || m) (follow b') (k || m') u b
      (λ s n h. (true, along (sym fo) s true (must_in (follow i s) n h), ap (λ (c : Bool). k || c || n) em ∙ ap (λ (c : Bool). c || n) (or-true k) ∙ sym (or-true (k || m')))) x in
      widen F follow (start b') (start i) k v _ into (ih b' pb v u a b m' k t x₁)
    where
      into : (s : Next) (n : Bool) → T (has (start b' s) n) → T (has (start i s) n)
      into s n h = elim (begins b' s n h) [
        | inl y ↦ by_first i s n (along (sym fi) s n y)
        | inr p ↦
            let q = must_out (follow i s) p.n (along fo s p.n p.right) in
            let y₁ : T (has (null i) true) = has_same (sym nl) true (must_in (null b') p.m p.left) in
            let y₃ : true ≡ n = sym (or-true p.m) ∙ ap (λ (c : Bool). p.m || c) (sym q.2) ∙ p.is in
            by_after i s true q.0 n y₃ y₁ q.1
      ]

  module _ (n : ℕ) (ok : Filled F n null first follow) where
    complete_to : (k i : ℕ) → i < k → i < n → Whole i (meaning F i)
    complete_to zero i h g = absurd (omega arith)
    complete_to (suc k) i h g = subst (λ (R : Runs). Whole i R) (sym (meaning_is F i (ok.earlier i g)))
        (case (F i) i (meaning F) refl (ok.earlier i g) (ok.nulls i g) (ok.firsts i g) (ok.follows i g) (λ j j<i. complete_to k j (omega arith) (omega arith)))

    pub complete : (i : ℕ) → i < n → Whole i (meaning F i)
    complete i h = complete_to (suc i) i (lt-suc_self i) h
