-- How the outline reads: a fragment's lines from its parts'.
use Rattle.std.proofs.Common.{◌≡◌, ℕ, ◌+◌, ◌<◌, ◌⊎◌, List, [], ◌∷◌, ◌++◌, refl, ap, ◌∙◌, subst, ap₂, inl, inr, append_assoc}
use Rattle.sheet.specs.declared.diagram.Fragment.{Fragment}
use Rattle.sheet.specs.declared.diagram.Fragment.TheVariants.{Skip, Seq, Alt, Loop, Neg}
use Rattle.sheet.specs.Laws.{Earlier}
use Rattle.sheet.proofs.Index.{lower_is}
use Rattle.outline.specs.declared.outline.Line.{Line}
use Rattle.outline.specs.Lines.{parts_at, lines_of, lines_at}

parts_same : (f : Fragment) (i : ℕ) (L M : ℕ → ℕ → List Line) (k : ℕ) → Earlier f i → ((j : ℕ) → j < i → L j ≡ M j) → parts_at f L k ≡ parts_at f M k
parts_same Skip i L M k h e = refl
parts_same (Fragment.Step s) i L M k h e = refl
parts_same (Seq l r) i L M k h e = ap₂ (λ (a b : ℕ → List Line). a k ++ b k) (e l h.0) (e r h.1)
parts_same (Alt l r) i L M k h e = ap₂ (λ (a b : ℕ → List Line). a k ++ b k) (e l h.0) (e r h.1)
parts_same (Loop b) i L M k h e = ap (λ (a : ℕ → List Line). a k) (e b h)
parts_same (Neg b) i L M k h e = ap (λ (a : ℕ → List Line). a k) (e b h)

module _ (F : ℕ → Fragment) (i k : ℕ) (h : Earlier (F i) i) where
  -- a fragment's line, and then its parts'
  pub lines_is : lines_at F i k ≡ record { depth = k; fragment = F i } ∷ parts_at (F i) (lines_at F) (k + 1)
  lines_is = ap (λ l. record { depth = k; fragment = F i } ∷ l) (parts_same (F i) i _ _ (k + 1) h (λ j l. lower_is (λ k. []) (λ i L k. lines_of (F i) L k) i j l))

-- a seq or an alt, and a loop or a neg
module _ (f : Fragment) (l r : ℕ) (e : (f ≡ Seq l r) ⊎ (f ≡ Alt l r)) where
  pub two_earlier : (i : ℕ) → Earlier f i → (l < i) × (r < i)
  two_earlier i h = elim e [ inl q ↦ subst (λ g. Earlier g i) q h | inr q ↦ subst (λ g. Earlier g i) q h ]

  pub two_parts : (L : ℕ → ℕ → List Line) (k : ℕ) → parts_at f L k ≡ L l k ++ L r k
  two_parts L k = elim e [ inl q ↦ ap (λ g. parts_at g L k) q | inr q ↦ ap (λ g. parts_at g L k) q ]

module _ (f : Fragment) (b : ℕ) (e : (f ≡ Loop b) ⊎ (f ≡ Neg b)) where
  pub one_earlier : (i : ℕ) → Earlier f i → b < i
  one_earlier i h = elim e [ inl q ↦ subst (λ g. Earlier g i) q h | inr q ↦ subst (λ g. Earlier g i) q h ]

  pub one_part : (L : ℕ → ℕ → List Line) (k : ℕ) → parts_at f L k ≡ L b k
  one_part L k = elim e [ inl q ↦ ap (λ g. parts_at g L k) q | inr q ↦ ap (λ g. parts_at g L k) q ]

-- what was added, one after the other
pub added_one : {X : Type 0} (x : X) (xs ys zs : List X) {a b : List X} → a ≡ xs ++ x ∷ [] → b ≡ a ++ ys → ys ≡ zs → b ≡ xs ++ x ∷ zs
added_one x xs ys zs p q e = q ∙ (ap₂ ◌++◌ p e ∙ append_assoc xs (x ∷ []) zs)

pub added_two : {X : Type 0} (x : X) (xs ys zs vs : List X) {a b c : List X} → a ≡ xs ++ x ∷ [] → b ≡ a ++ ys → c ≡ b ++ zs → ys ++ zs ≡ vs → c ≡ xs ++ x ∷ vs
added_two x xs ys zs vs p q r e =
    r ∙ (ap (λ l. l ++ zs) (q ∙ ap (λ l. l ++ ys) p) ∙ (append_assoc (xs ++ x ∷ []) ys zs ∙ (ap (λ l. (xs ++ x ∷ []) ++ l) e ∙ append_assoc xs (x ∷ []) vs)))
