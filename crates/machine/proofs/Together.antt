-- A loop over the fragments and what may come after each, side by side.
use Rattle.std.proofs.Common.{◌≡◌, ℕ, ◌+◌, ◌<◌, ◌≤◌, List, length, get_or, zip, ap, ◌∙◌, zero-add, arith}
use Rattle.std.specs.List.{enumerate_from}
use Rattle.std.proofs.lemmas.List.{get_or_default}
use Rattle.std.proofs.lemmas.List.FromFn.{get_or-enumerate_from, length-enumerate_from}
use Rattle.std.proofs.lemmas.Slice.Zip.{get_or-zip, length-zip}
use Rattle.sheet.specs.declared.diagram.Fragment.{Fragment}
use Rattle.sheet.specs.declared.diagram.Fragment.TheVariants.{Skip}
use Rattle.followers.specs.declared.sets.NextSet.{NextSet}
use Rattle.followers.specs.Words.{nexts}
use Rattle.machine.specs.Charts.{kinds, follows, no_set}

module _ (fs : List Fragment) (ns : List NextSet) (few : length fs ≡ 64) (many : length ns ≡ 64) where
  pub turns : length (enumerate_from 0 (zip fs ns)) ≡ 64
  turns = length-enumerate_from 0 (zip fs ns) ∙ (length-zip fs ns ∙ grind (arith, few, many))

  -- what the turn m is at
  pub turn_at : (i m : ℕ) (f : Fragment) (n : NextSet) → m < length (enumerate_from 0 (zip fs ns))
      → ◌≡◌ {A = ℕ × (Fragment × NextSet)} (i, (f, n)) (get_or (enumerate_from 0 (zip fs ns)) m (i, (f, n))) → (i ≡ m) × (f ≡ kinds fs m) × (nexts n ≡ follows ns m) × (m + 1 ≤ 64)
  turn_at i m f n l turn =
      let size = turns in
      let a : m < length fs = omega (arith, l, size, few) in
      let b : m < length ns = omega (arith, l, size, many) in
      let pairs = length-enumerate_from 0 (zip fs ns) in
      let whole : ◌≡◌ {A = ℕ × (Fragment × NextSet)} (i, (f, n)) (0 + m, (get_or fs m f, get_or ns m n)) =
      turn
      ∙ (get_or-enumerate_from 0 (zip fs ns) m (i, (f, n)) (omega (arith, l, pairs))
      ∙ ap (λ (z : Fragment × NextSet). let t : ℕ × (Fragment × NextSet) = (0 + m, z) in t) (get_or-zip fs ns m (f, n) a b)) in (
        ap (λ (z : ℕ × (Fragment × NextSet)). z.0) whole ∙ zero-add m,
        ap (λ (z : ℕ × (Fragment × NextSet)). z.1.0) whole ∙ get_or_default fs m f Skip a,
        ap (λ (z : ℕ × (Fragment × NextSet)). nexts z.1.1) whole ∙ ap nexts (get_or_default ns m n no_set b),
        omega (arith, a, few),
      )
