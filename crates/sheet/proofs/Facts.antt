-- What is known of a diagram whose checks have passed.
use Rattle.std.proofs.Common.{◌≡◌, ℕ, ◌+◌, ◌<◌, ◌≤◌, true, false, not, ◌&&◌, ◌||◌, eqb, leb, is_ok as isOk, Ok, Err, refl, arith}
use Rattle.std.proofs.lemmas.Bool.{or_parts, and_parts, leb-true, leb-false, not-false}
use Rattle.fault.specs.declared.fault.Fault.TheVariants.{SheetHeader, FragmentTree}
use Rattle.fault.specs.Checks.{Check, ◌then◌}
use Rattle.fault.proofs.Passed.{then_parts, if_passed, at_passed}
use Rattle.sheet.specs.declared.diagram.Fragment.{Fragment}
use Rattle.sheet.specs.declared.diagram.Fragment.TheVariants.{Skip, Seq, Alt, Loop, Neg}
use Rattle.sheet.specs.declared.diagram.Diagram.{Diagram}
use Rattle.sheet.specs.Forbid.{fragment}
use Rattle.sheet.specs.Laws.{Earlier}
use Rattle.sheet.specs.Rules.{header_check, ranges_check, names_late, times_named, misplaced, tree_check, shape_check, verdict, accepted}

two : (l r i : ℕ) → leb i l || leb i r ≡ false → (l < i) × (r < i)
two l r i e = let p = or_parts (leb i l) (leb i r) e in (leb-false i l p.0, leb-false i r p.1)

not_late : (f : Fragment) (i : ℕ) → names_late f i ≡ false → Earlier f i
not_late Skip i e = tt
not_late (Fragment.Step s) i e = tt
not_late (Seq l r) i e = two l r i e
not_late (Alt l r) i e = two l r i e
not_late (Loop b) i e = leb-false i b e
not_late (Neg b) i e = leb-false i b e

pub tree_earlier : (d : Diagram) → Ok tt ≡ tree_check d → (j : ℕ) → j < d.count → Earlier (fragment d j) j
tree_earlier d e j h =
    not_late (fragment d j) j
    (or_parts (names_late (fragment d j) j) (not (eqb (j + 1) d.count) && not (eqb (times_named d j) 1)) (at_passed (λ i. FragmentTree i) (misplaced d) d.count e j h)).0

pub header_sizes : (d : Diagram) → Ok tt ≡ header_check d → (1 ≤ d.count) × (d.count ≤ 64)
header_sizes d e =
    let p = and_parts (leb 1 d.count) _ (not-false _ (if_passed SheetHeader _ e)) in
    let q = and_parts (leb d.count 64) _ p.1 in
    (leb-true _ _ p.0, leb-true _ _ q.0)

is_ok : (r : Check) → isOk r ≡ true → Ok tt ≡ r
is_ok (Ok u) e = refl
is_ok (Err f) e = absurd (let z : ◌≡◌ {A = ℕ} 0 1 = cc in omega arith)

-- an accepted diagram passes each check
pub accepted_passes : (d : Diagram) → accepted d ≡ true → (Ok tt ≡ header_check d) × (Ok tt ≡ ranges_check d) × (Ok tt ≡ shape_check d)
unfolding accepted
accepted_passes d e =
    let p = then_parts (header_check d) (ranges_check d then shape_check d) (is_ok (verdict d) e) in
    let q = then_parts (ranges_check d) (shape_check d) p.1 in
    (p.0, q.0, q.1)

pub accepted_sizes : (d : Diagram) → accepted d ≡ true → (1 ≤ d.count) × (d.count ≤ 64)
accepted_sizes d e = header_sizes d (accepted_passes d e).0

pub accepted_earlier : (d : Diagram) → accepted d ≡ true → (j : ℕ) → j < d.count → Earlier (fragment d j) j
accepted_earlier d e = tree_earlier d (then_parts (tree_check d) _ (accepted_passes d e).2).0
