-- The fragments of a diagram as a list: what its rules say of it.
use Rattle.std.proofs.Common.{◌≡◌, ℕ, ◌+◌, ◌<◌, Bool, not, ◌&&◌, ◌||◌, ◌==◌, Option, List, length, get_or, take, sum_by, count_by, sym, ap, zero-add, ◌∙◌, arith}
use Rattle.std.specs.List.{position, enumerate_from}
use Rattle.std.proofs.lemmas.List.{get_or-take}
use Rattle.std.proofs.lemmas.List.FromFn.{length-enumerate_from, get_or-enumerate_from}
use Rattle.fault.specs.declared.fault.Fault.TheVariants.{FragmentRow, FragmentTree}
use Rattle.fault.specs.Checks.{refuse_at, lowest, one_if}
use Rattle.fault.proofs.Lowest.{refuse_in, total_in}
use Rattle.sheet.specs.declared.diagram.Fragment.{Fragment}
use Rattle.sheet.specs.declared.diagram.Fragment.TheVariants.{Skip}
use Rattle.sheet.specs.declared.diagram.Diagram.{Diagram}
use Rattle.sheet.specs.Forbid.{fragment}
use Rattle.sheet.specs.Rules.{fits, ranges_check, names_late, names, times_named, misplaced, tree_check, is_step, steps_in}

module _ (d : Diagram) (xs : List Fragment) (is : xs ≡ take d.count d.fragments) (count : length xs ≡ d.count) where
  at : (i : ℕ) → i < length xs → fragment d i ≡ get_or xs i Skip
  at i h = sym (ap (λ ys. get_or ys i Skip) is ∙ get_or-take d.count d.fragments i Skip (omega arith))

  pub ranges : (o : Option ℕ) → o ≡ position (λ f. not (fits f)) xs → refuse_at (λ i. FragmentRow i) o ≡ ranges_check d
  ranges o e =
      refuse_in (λ i. FragmentRow i) (λ i. not (fits (fragment d i))) (λ f. not (fits f)) xs Skip o e (λ i h. ap (λ f. not (fits f)) (at i h))
      ∙ ap (λ n. refuse_at (λ i. FragmentRow i) (lowest (λ i. not (fits (fragment d i))) n)) count

  times : (j : ℕ) → times_named d j ≡ sum_by (λ f. names f j) xs
  times j = rw (← count) (total_in (λ i. names (fragment d i) j) (λ f. names f j) xs Skip (λ i h. ap (λ f. names f j) (at i h)))

  -- the rule of the tree for a fragment with its index
  abbrev wrong : ℕ × Fragment → Bool
  wrong q = names_late q.1 q.0 || (not (q.0 + 1 == length xs) && not (sum_by (λ f. names f q.0) xs == 1))

  same : (i : ℕ) → i < length xs → misplaced d i ≡ wrong (i, get_or xs i Skip)
  same i h = rw (at i h, times i, count)

  pub tree : (o : Option ℕ) → o ≡ position wrong (enumerate_from 0 xs) → refuse_at (λ i. FragmentTree i) o ≡ tree_check d
  tree o e =
      refuse_in (λ i. FragmentTree i) (misplaced d) wrong (enumerate_from 0 xs) (0, Skip) o e (λ i h. same i (omega (arith, length-enumerate_from 0 xs)) ∙ ap wrong (sym (get_or-enumerate_from 0 xs i (0, Skip) (omega (arith, length-enumerate_from 0 xs)) ∙ ap (λ n. (n, get_or xs i Skip)) (zero-add i))))
      ∙ ap (λ n. refuse_at (λ i. FragmentTree i) (lowest (misplaced d) n)) (length-enumerate_from 0 xs ∙ count)

  pub steps : steps_in d ≡ count_by is_step xs
  steps = rw (← count) (total_in (λ i. one_if (is_step (fragment d i))) (λ f. one_if (is_step f)) xs Skip (λ i h. ap (λ f. one_if (is_step f)) (at i h)))
