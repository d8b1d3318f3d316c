use Rattle.std.proofs.Common.{inl, inr, ◌≡◌, ℕ, ◌<◌, min, Bool, eqb, List, length, take, get_or, Some, Option, sym, ap, ◌∙◌, arith, rules, tests, length-take, lt-ltb, le-ltb}
use Rattle.std.specs.List.{find, position, position_or_len}
use Rattle.std.proofs.lemmas.Iterator.{YieldsList-from_slice, YieldsList-from_take}
use Rattle.std.proofs.lemmas.Iterator.Search.{find_from_yields_List}
use Rattle.std.proofs.lemmas.List.{get_or-take}
use Rattle.std.specs.Option.{option_map}
use Rattle.std.proofs.lemmas.Bool.{cases_lt}
use Rattle.std.proofs.lemmas.List.Folds.{find_at}
use Rattle.std.proofs.lemmas.Option.{slice_get-get_or, slice_get_past}
use Rattle.fault.proofs.Lowest.{lowest_in}
use Rattle.translation.specs.declared.translation.Row.{Row}
use Rattle.translation.specs.Tables.{row_of, blank}
use Rattle.translation.proofs.translation.find_row.Goals as goal

-- the first item that passes is the one at the first index at which one does
at_first : {X : Type 0} (q : X → Bool) (xs : List X) (d : X) (f : ℕ → X) → ((i : ℕ) → i < length xs → get_or xs i d ≡ f i) → find q xs ≡ option_map f (position q xs)
at_first q xs d f same =
    elim (cases_lt (position_or_len q xs) (length xs)) [
      | inl l ↦ rw (lt-ltb _ _ l) (find_at q xs ∙ (slice_get-get_or xs _ d l ∙ ap (λ x. Some x) (same _ l)))
      | inr h ↦ rw (le-ltb _ _ h) (find_at q xs ∙ slice_get_past xs _ h)
    ]

found : (rows : List Row) (used k : ℕ) (o : Option Row) → length rows ≡ 64 → o ≡ find (λ r. eqb r.code k) (take used rows) → o ≡ row_of rows used k
found rows used k o n e =
    let count : length (take used rows) ≡ min used 64 = length-take used rows ∙ grind arith in
    let there : (i : ℕ) → i < length (take used rows) → get_or (take used rows) i blank ≡ get_or rows i blank = λ i l. get_or-take used rows i blank (omega (arith, count)) in
    let same = lowest_in (λ i. eqb (get_or rows i blank).code k) (λ r. eqb r.code k) (take used rows) blank (λ i l. ap (λ (r : Row). eqb r.code k) (sym (there i l))) in
    rw (← count, same) (e ∙ at_first (λ r. eqb r.code k) (take used rows) blank (λ i. get_or rows i blank) there)

pub returns : goal.returns
returns c =
    let rows = c.args.rows.now in
    let e = find_from_yields_List (λ (r : Row). eqb r.code c.args.code) _ _ _ c.find.ensures.ran (YieldsList-from_take c.args.used (YieldsList-from_slice rows cc) c.take.ensures.count) (λ x b q k. search (rules, tests)) in
    found rows _ _ _ (search rules) (c.copied.ensures ∙ e)
