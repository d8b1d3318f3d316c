-- When the rule about the empty list refuses.
use Rattle.std.proofs.Common.{◌≡◌, ℕ, Bool, true, false, List, Some, None, Ok, Err, Option, sym, refl, ap, ◌∙◌, arith}
use Rattle.fault.specs.declared.fault.Fault.{Fault}
use Rattle.fault.specs.declared.fault.Fault.TheVariants.{EmptyNegative}
use Rattle.fault.specs.Faults.{number}
use Rattle.fault.specs.Checks.{Check, ◌then◌, refuse_if, refuse_at}
use Rattle.fault.proofs.Passed.{if_stopped}
use Rattle.sheet.specs.Forbid.{fragment, root}
use Rattle.sheet.specs.Empties.{empty_at}
use Rattle.sheet.specs.Rules.{tree_check, steps_check, empty_check}
use Rattle.sheet.proofs.Empty.{empty_rule_means}
use Rattle.sheet_file.specs.Rows.{kinds_check, rows_check}
use Rattle.sheet_file.specs.Sheets.{kinds_of, rows_of, diagram_of, short_check, header_check, length_check, before_empty, sheet_verdict, EmptyRefused}

-- a check that does not refuse by 8
abbrev Other : Check → Type 0
Other a = a ≡ Err EmptyNegative → ⊥

apart : (f : Fault) → (number f ≡ 8 → ⊥) → Other (Err f)
apart f h e = h (let q : f ≡ EmptyNegative = cc in ap number q)

other_if : (f : Fault) (b : Bool) → (number f ≡ 8 → ⊥) → Other (refuse_if f b)
other_if f true h = apart f h
other_if f false h = λ e. let z : ◌≡◌ {A = ℕ} 0 1 = cc in omega arith

other_at : (f : ℕ → Fault) (o : Option ℕ) → ((i : ℕ) → number (f i) ≡ 8 → ⊥) → Other (refuse_at f o)
other_at f (Some i) h = apart (f i) (h i)
other_at f None h = λ e. let z : ◌≡◌ {A = ℕ} 0 1 = cc in omega arith

other_then : (a b : Check) → Other a → Other b → Other (a then b)
other_then (Ok u) b h k = k
other_then (Err f) b h k = h

before_other : (b : List ℕ) → Other (before_empty b)
before_other b =
    other_then (short_check b) _ (other_if _ _ (λ e. omega arith))
    (other_then (header_check b) _ (other_if _ _ (λ e. omega arith))
    (other_then (length_check b) _ (other_if _ _ (λ e. omega arith))
    (other_then (kinds_check (kinds_of b)) _ (other_at _ _ (λ i e. omega arith))
    (other_then (rows_check (kinds_of b) (rows_of b)) _ (other_at _ _ (λ i e. omega arith))
    (other_then (tree_check (diagram_of b)) (steps_check (diagram_of b)) (other_at _ _ (λ i e. omega arith)) (other_if _ _ (λ e. omega arith)))))))

last_why : (a b : Check) → Other a → (a then b) ≡ Err EmptyNegative → (a ≡ Ok tt) × (b ≡ Err EmptyNegative)
last_why (Ok u) b h e = (refl, e)
last_why (Err f) b h e = absurd (h e)

pub empty_refused : (b : List ℕ) (r : Check) → r ≡ sheet_verdict b → EmptyRefused b r
empty_refused b r e =
    let d = diagram_of b in
    let m = empty_rule_means d in
    record {
      why = λ q.
          let p = last_why (before_empty b) (empty_check d) (before_other b) (sym e ∙ q) in
          (p.0, m.0 (if_stopped EmptyNegative (empty_at (fragment d) (root d)).marked EmptyNegative (sym p.1)).0);
      where_so = λ p n. e ∙ rw (p, m.1 n);
    }
