-- The marks of two runs one after the other, taken apart and put together.
use Rattle.std.proofs.Common.{◌≡◌, Bool, true, false, ◌&&◌, ◌||◌, T, ◌⊎◌, refl, subst, inl, inr}
use Rattle.sheet.specs.declared.marks.Marks.{Marks}
use Rattle.sheet.specs.Empties.{has, both, either, must}
use Rattle.sheet.proofs.Bools.{or_l, or_r, or_out, and_in, and_out}

pub move : {a b : Bool} → a ≡ b → T a → T b
move e t = subst T e t

pub has_same : {a b : Marks} → a ≡ b → (m : Bool) → T (has a m) → T (has b m)
has_same e m h = subst (λ (k : Marks). T (has k m)) e h

pub both_in : (a b : Marks) (m n : Bool) → T (has a m) → T (has b n) → T (has (both a b) (m || n))
both_in a b false false x y = and_in _ _ x y
both_in a b false true x y = or_r (a.marked && (b.plain || b.marked)) _ (and_in _ _ x y)
both_in a b true false x y = or_l _ _ (and_in a.marked _ x (or_l _ _ y))
both_in a b true true x y = or_l _ _ (and_in a.marked _ x (or_r b.plain _ y))

-- with the mark that the two make
pub both_at : (a b : Marks) (m n k : Bool) → m || n ≡ k → T (has a m) → T (has b n) → T (has (both a b) k)
both_at a b m n k e x y = subst (λ (j : Bool). T (has (both a b) j)) e (both_in a b m n x y)

pub record Split (a b : Marks) (k : Bool) : Type 0 where
  pub m : Bool
  pub n : Bool
  pub left : T (has a m)
  pub right : T (has b n)
  pub is : m || n ≡ k

some_mark : (a : Marks) → T (a.plain || a.marked) → (m : Bool) × T (has a m)
some_mark a h = elim (or_out a.plain a.marked h) [ inl x ↦ (false, x) | inr x ↦ (true, x) ]

pub both_out : (a b : Marks) (k : Bool) → T (has (both a b) k) → Split a b k
both_out a b false h = let p = and_out a.plain b.plain h in record { m = false; n = false; left = p.0; right = p.1; is = refl }
both_out a b true h = elim (or_out (a.marked && (b.plain || b.marked)) (a.plain && b.marked) h) [
  | inl x ↦
      let p = and_out a.marked _ x in
      let q = some_mark b p.1 in
      record { m = true; n = q.0; left = p.0; right = q.1; is = refl }
  | inr x ↦ let p = and_out a.plain _ x in record { m = false; n = true; left = p.0; right = p.1; is = refl }
]

pub either_l : (a b : Marks) (m : Bool) → T (has a m) → T (has (either a b) m)
either_l a b false h = or_l _ _ h
either_l a b true h = or_l _ _ h

pub either_r : (a b : Marks) (m : Bool) → T (has b m) → T (has (either a b) m)
either_r a b false h = or_r a.plain _ h
either_r a b true h = or_r a.marked _ h

pub either_out : (a b : Marks) (m : Bool) → T (has (either a b) m) → T (has a m) ⊎ T (has b m)
either_out a b false h = or_out a.plain b.plain h
either_out a b true h = or_out a.marked b.marked h

pub must_in : (a : Marks) (m : Bool) → T (has a m) → T (has (must a) true)
must_in a false h = or_l _ _ h
must_in a true h = or_r a.plain _ h

pub must_out : (a : Marks) (k : Bool) → T (has (must a) k) → (m : Bool) × T (has a m) × (k ≡ true)
must_out a false h = absurd h
must_out a true h = let q = some_mark a h in (q.0, q.1, refl)
