-- An accepted diagram is sound.
use Rattle.std.proofs.Common.{◌≡◌, ℕ, ◌+◌, ◌<◌, ◌≤◌, true, false, not, ◌&&◌, eqb, leb, ◌⊎◌, refl, ap, ap₂, inl, inr, arith}
use native.Mathlib.Decide.{dec_lt, ℕ_discrete}
use Rattle.std.proofs.lemmas.Bool.{or_parts, and_parts, and_cases, leb-true, not-false, eqb-true, eq-eqb, ne_eqb}
use Rattle.fault.specs.declared.fault.Fault.TheVariants.{SheetHeader, FragmentTree}
use Rattle.fault.specs.Checks.{one_if}
use Rattle.fault.proofs.Passed.{then_parts, if_passed, at_passed}
use Rattle.sheet.specs.declared.diagram.Fragment.{Fragment}
use Rattle.sheet.specs.declared.diagram.Fragment.TheVariants.{Skip, Seq, Alt, Loop, Neg}
use Rattle.sheet.specs.declared.diagram.Diagram.{Diagram}
use Rattle.sheet.specs.Forbid.{fragment}
use Rattle.sheet.specs.Laws.{Earlier}
use Rattle.sheet.specs.Rules.{names_late, names, times_named, misplaced, tree_check, accepted}
use Rattle.sheet.specs.Sound.{Names, Distinct, Sound}
use Rattle.sheet.proofs.Facts.{accepted_passes, accepted_sizes, accepted_earlier}
use Rattle.sheet.proofs.Counting.{one_in, two_in, some_in}

yes_one : (j l : ℕ) → j ≡ l → one_if (eqb j l) ≡ 1
yes_one j l e = ap one_if (eq-eqb j l e)

one_yes : (j l : ℕ) → 0 < one_if (eqb j l) → j ≡ l
one_yes j l h = elim (ℕ_discrete j l) [
  | yes e ↦ e
  | no e ↦ let z : one_if (eqb j l) ≡ 0 = ap one_if (ne_eqb j l e) in absurd (omega arith)
]

-- a fragment names a part where it counts it
names_some : (f : Fragment) (j : ℕ) → Names f j → 0 < names f j
names_some Skip j x = absurd x
names_some (Fragment.Step s) j x = absurd x
names_some (Seq l r) j (inl x) = omega (arith, yes_one j l x)
names_some (Seq l r) j (inr x) = omega (arith, yes_one j r x)
names_some (Alt l r) j (inl x) = omega (arith, yes_one j l x)
names_some (Alt l r) j (inr x) = omega (arith, yes_one j r x)
names_some (Loop b) j x = omega (arith, yes_one j b x)
names_some (Neg b) j x = omega (arith, yes_one j b x)

either_of : (j l r : ℕ) → 0 < one_if (eqb j l) + one_if (eqb j r) → (j ≡ l) ⊎ (j ≡ r)
either_of j l r h = elim (dec_lt 0 (one_if (eqb j l))) [ yes x ↦ inl (one_yes j l x) | no x ↦ inr (one_yes j r (omega arith)) ]

some_names : (f : Fragment) (j : ℕ) → 0 < names f j → Names f j
some_names Skip j h = omega arith
some_names (Fragment.Step s) j h = omega arith
some_names (Seq l r) j h = either_of j l r h
some_names (Alt l r) j h = either_of j l r h
some_names (Loop b) j h = one_yes j b h
some_names (Neg b) j h = one_yes j b h

twice : (l r : ℕ) → l ≡ r → one_if (eqb l l) + one_if (eqb l r) ≡ 2
twice l r e = ap₂ ◌+◌ (yes_one l l refl) (yes_one l r e)

apart : (f : Fragment) → ((j : ℕ) → Names f j → names f j ≤ 1) → Distinct f
apart Skip h = tt
apart (Fragment.Step s) h = tt
apart (Seq l r) h = λ e. omega (arith, h l (inl refl), twice l r e)
apart (Alt l r) h = λ e. omega (arith, h l (inl refl), twice l r e)
apart (Loop b) h = tt
apart (Neg b) h = tt

-- what is named stands earlier
pub named_earlier : (f : Fragment) (i j : ℕ) → Earlier f i → Names f j → j < i
named_earlier Skip i j h x = absurd x
named_earlier (Fragment.Step s) i j h x = absurd x
named_earlier (Seq l r) i j h (inl x) = omega (arith, h.0)
named_earlier (Seq l r) i j h (inr x) = omega (arith, h.1)
named_earlier (Alt l r) i j h (inl x) = omega (arith, h.0)
named_earlier (Alt l r) i j h (inr x) = omega (arith, h.1)
named_earlier (Loop b) i j h x = omega arith
named_earlier (Neg b) i j h x = omega arith

module _ (d : Diagram) (ok : accepted d ≡ true) where
  abbrev F : ℕ → Fragment
  F = fragment d

  placed : (j : ℕ) → j < d.count → misplaced d j ≡ false
  placed = at_passed (λ i. FragmentTree i) (misplaced d) d.count (then_parts (tree_check d) _ (accepted_passes d ok).2).0

  just_one : (j : ℕ) → j + 1 < d.count → times_named d j ≡ 1
  just_one j h =
      let q = (or_parts (names_late (F j) j) (not (eqb (j + 1) d.count) && not (eqb (times_named d j) 1)) (placed j (omega arith))).1 in
      elim (and_cases (not (eqb (j + 1) d.count)) (not (eqb (times_named d j) 1)) q) [
        | inl x ↦ let e = eqb-true (j + 1) d.count (not-false _ x) in absurd (omega arith)
        | inr x ↦ eqb-true _ _ (not-false _ x)
      ]

  not_last : (i j : ℕ) → i < d.count → Names (F i) j → j + 1 < d.count
  not_last i j h x = let q = named_earlier (F i) i j (accepted_earlier d ok i h) x in omega arith

  only : (i k j : ℕ) → i < k → k < d.count → Names (F i) j → Names (F k) j → ⊥
  only i k j g h x y =
      let e = just_one j (not_last k j h y) in
      let t = two_in (λ i. names (F i) j) d.count i k g h in
      let a = names_some (F i) j x in
      let b = names_some (F k) j y in
      omega arith

  unique : (i k j : ℕ) → i < d.count → k < d.count → Names (F i) j → Names (F k) j → i ≡ k
  unique i k j g h x y = elim (dec_lt i k) [
    | yes l ↦ absurd (only i k j l h x y)
    | no l ↦ elim (dec_lt k i) [ yes q ↦ absurd (only k i j q g y x) | no q ↦ omega arith ]
  ]

  has_parent : (j : ℕ) → j + 1 < d.count → (i : ℕ) × (i < d.count) × Names (F i) j
  has_parent j h = let x = some_in (λ i. names (F i) j) d.count (omega (arith, just_one j h)) in (x.0, x.1, some_names (F x.0) j x.2)

  start_fits : (d.start.x < 16) × (d.start.y < 16)
  start_fits =
      let p = and_parts (leb 1 d.count) _ (not-false _ (if_passed SheetHeader _ (accepted_passes d ok).0)) in
      let q = and_parts (leb d.count 64) _ p.1 in
      let r = and_parts (leb d.steps 31) _ q.1 in
      let s = and_parts (leb d.start.x 15) _ r.1 in
      (omega (arith, leb-true d.start.x 15 s.0), omega (arith, leb-true d.start.y 15 s.1))

  pub sound : Sound d
  sound = record {
    some = (accepted_sizes d ok).0;
    most = (accepted_sizes d ok).1;
    x_fits = start_fits.0;
    y_fits = start_fits.1;
    tree = record {
      earlier = accepted_earlier d ok;
      distinct = λ i h. apart (F i) (λ j x. omega (arith, one_in (λ i. names (F i) j) d.count i h, just_one j (not_last i j h x)));
      once = unique;
      parent = has_parent;
    };
  }
