use Rattle.std.proofs.Common.{◌≡◌, ℕ, ltb, Some, None, Option, List, get_or, refl, rules}
use Rattle.std.specs.List.{position}
use Rattle.fault.specs.declared.fault.Fault.TheVariants.{FragmentKind}
use Rattle.fault.specs.Checks.{refuse_at}
use Rattle.fault.proofs.Lowest.{refuse_in}
use Rattle.sheet_file.specs.Rows.{kinds_check}
use Rattle.sheet_file.proofs.rows.check_kinds.Goals as goal

searched : (kinds : List ℕ) (o : Option ℕ) → o ≡ position (λ k. ltb 5 k) kinds → refuse_at (λ i. FragmentKind i) o ≡ kinds_check kinds
searched kinds o found = refuse_in (λ i. FragmentKind i) (λ i. ltb 5 (get_or kinds i 0)) (λ k. ltb 5 k) kinds 0 o found (λ i l. refl)

pub returns-in-Some : goal.returns-in-Some
returns-in-Some c = searched _ (Some _) (search rules)

pub returns-in-None : goal.returns-in-None
returns-in-None c = searched _ None (search rules)
