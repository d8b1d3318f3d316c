-- The marks of the empty runs are those that the meaning has.
use Rattle.std.proofs.Common.{◌≡◌, ℕ, zero, suc, Bool, true, false, cond, ◌||◌, T, eqb, List, [], ◌++◌, length, length-append, sym, refl, ap, ◌∙◌, subst, inl, inr, arith}
use Rattle.std.proofs.lemmas.List.{nil_from_length}
use Rattle.action.specs.declared.deed.Deed.{Deed}
use Rattle.sheet.specs.declared.diagram.Fragment.{Fragment}
use Rattle.sheet.specs.declared.diagram.Fragment.TheVariants.{Skip, Seq, Alt, Loop, Neg}
use Rattle.sheet.specs.declared.diagram.Variables.{Variables}
use Rattle.sheet.specs.declared.marks.Marks.{Marks}
use Rattle.sheet.specs.Index.{lower}
use Rattle.sheet.specs.Meaning.{Runs, Never, Rounds, stop, round, Of}
use Rattle.sheet.specs.Empties.{has, nothing, both, must, any, empty_of}
use Rattle.sheet.specs.Forbid.{fragment, root}
use Rattle.sheet.specs.Laws.{EmptyMeans, EmptyRuleMeans}
use Rattle.sheet.proofs.Bools.{T_true}
use Rattle.sheet.proofs.Both.{both_in, both_out, either_l, either_r, either_out, must_in, must_out}

left_nil : {X : Type 0} (a b : List X) → a ++ b ≡ [] → a ≡ []
left_nil a b e = nil_from_length a (omega (arith, length-append a b, ap length e))

right_nil : {X : Type 0} (a b : List X) → a ++ b ≡ [] → b ≡ []
right_nil a b e = nil_from_length b (omega (arith, length-append a b, ap length e))

any_in : (a : Marks) (m n : Bool) → T (has a m) → T (has (any a) n) → T (has (any a) (m || n))
any_in a false n h g = g
any_in a true n h g = h

-- each mark is that of a run over the empty list, which changes nothing
abbrev Shows : Marks → Runs → Type 0
Shows k R = (v : Variables) (m : Bool) → T (has k m) → R v [] v m

shows_of : (f : Fragment) (N : ℕ → Marks) (R : ℕ → Runs) → ((i : ℕ) → Shows (N i) (R i)) → Shows (empty_of f N) (Of f R)
shows_of Skip N R g v false h = (refl, refl, refl)
shows_of Skip N R g v true h = absurd h
shows_of (Fragment.Step s) N R g v false h = absurd h
shows_of (Fragment.Step s) N R g v true h = absurd h
shows_of (Seq i j) N R g v m h =
    let a = both_out (N i) (N j) m h in
    record { front = []; back = []; between = v; front_mark = a.m; back_mark = a.n; left = g i v a.m a.left; right = g j v a.n a.right; deeds = refl; mark = sym a.is }
shows_of (Alt i j) N R g v m h = elim (either_out (N i) (N j) m h) [ inl y ↦ inl (g i v m y) | inr y ↦ inr (g j v m y) ]
shows_of (Loop i) N R g v false h = stop
shows_of (Loop i) N R g v true h = round (g i v true h) stop
shows_of (Neg i) N R g v m h = let a = must_out (N i) m h in ((a.0, g i v a.0 a.1), a.2)

-- the mark of each run over the empty list is there
abbrev Covers : Marks → Runs → Type 0
Covers k R = (v u : Variables) (l : List Deed) (m : Bool) → R v l u m → l ≡ [] → T (has k m)

covers_rounds : (k : Marks) (R : Runs) → Covers k R → {v u : Variables} {l : List Deed} {m : Bool} → Rounds R v l u m → l ≡ [] → T (has (any k) m)
covers_rounds k R g stop e = tt
covers_rounds k R g (round {v = v} {w = w} {u = u} {a = a} {b = b} {m = m} {n = n} r rest) e =
    any_in k m n (g v w a m r (left_nil a b e)) (covers_rounds k R g rest (right_nil a b e))

covers_of : (f : Fragment) (N : ℕ → Marks) (R : ℕ → Runs) → ((i : ℕ) → Covers (N i) (R i)) → Covers (empty_of f N) (Of f R)
covers_of Skip N R g v u l false (a, b, c) e = tt
covers_of Skip N R g v u l true (a, b, c) e = let z : ◌≡◌ {A = ℕ} 0 1 = cc in absurd (omega arith)
covers_of (Fragment.Step s) N R g v u l m (d, a, b, c) e = absurd (omega (arith, ap length (sym a ∙ e)))
covers_of (Seq i j) N R g v u l m x e =
    let f : x.front ++ x.back ≡ [] = sym x.deeds ∙ e in
    subst (λ (k : Bool). T (has (both (N i) (N j)) k)) (sym x.mark)
    (both_in (N i) (N j) x.front_mark x.back_mark
    (g i v x.between x.front x.front_mark x.left (left_nil x.front x.back f))
    (g j x.between u x.back x.back_mark x.right (right_nil x.front x.back f)))
covers_of (Alt i j) N R g v u l m (inl x) e = either_l (N i) (N j) m (g i v u l m x e)
covers_of (Alt i j) N R g v u l m (inr x) e = either_r (N i) (N j) m (g j v u l m x e)
covers_of (Loop i) N R g v u l m x e = covers_rounds (N i) (R i) (g i) x e
covers_of (Neg i) N R g v u l m ((n, x), f) e = subst (λ (k : Bool). T (has (must (N i)) k)) (sym f) (must_in (N i) n (g i v u l n x e))

-- the same of the recursions over the index
shows_cond : (b : Bool) (j k : Marks) (R S : Runs) → Shows j R → Shows k S → Shows (cond b j k) (cond b R S)
shows_cond true j k R S x y = x
shows_cond false j k R S x y = y

covers_cond : (b : Bool) (j k : Marks) (R S : Runs) → Covers j R → Covers k S → Covers (cond b j k) (cond b R S)
covers_cond true j k R S x y = x
covers_cond false j k R S x y = y

module _ (F : ℕ → Fragment) where
  shows : (n i : ℕ) → Shows (lower nothing (λ i N. empty_of (F i) N) n i) (lower Never (λ i R. Of (F i) R) n i)
  shows zero i v false h = absurd h
  shows zero i v true h = absurd h
  shows (suc n) i v m h = shows_cond (eqb i n) _ _ _ _ (shows_of (F n) _ _ (shows n)) (shows n i) v m h

  covers : (n i : ℕ) → Covers (lower nothing (λ i N. empty_of (F i) N) n i) (lower Never (λ i R. Of (F i) R) n i)
  covers zero i v u l m x e = absurd x
  covers (suc n) i v u l m x e = covers_cond (eqb i n) _ _ _ _ (covers_of (F n) _ _ (covers n)) (covers n i) v u l m x e

pub empty_means : EmptyMeans
empty_means F i v m = (
  λ e. (v, shows_of (F i) _ _ (shows F i) v m (subst T (sym e) tt)),
  λ (u, x). T_true _ (covers_of (F i) _ _ (covers F i) v u [] m x refl),
)

pub empty_rule_means : EmptyRuleMeans
empty_rule_means d = empty_means (fragment d) (root d) d.start true
