-- The table of accepted bytes makes the same of every call as the bytes do.
use Rattle.std.proofs.Common.{◌≡◌, ℕ, zero, suc, ◌+◌, ◌*◌, ◌%◌, ◌<◌, ◌≤◌, min, Bool, true, false, not, ◌||◌, eqb, ltb, List, length, get_or, Some, None, Ok, Option, sym, refl, ap, ap₂, ◌∙◌, subst, mod-eq_of_lt, arith, length-drop, length-take}
use native.Mathlib.Nat.{min-eq_left}
use Rattle.std.specs.Option.{option_map}
use Rattle.std.proofs.lemmas.List.FromFn.{get_or-map-range_with_len}
use Rattle.std.proofs.lemmas.Bool.{or_parts, not-false, eqb-true, ltb-false, lt-ltb}
use Rattle.fault.specs.declared.fault.Fault.TheVariants.{TranslationShape, TranslationRow}
use Rattle.fault.specs.Checks.{◌then◌, lowest}
use Rattle.fault.specs.Laws.{Picks}
use Rattle.fault.proofs.Lowest.{lowest_means}
use Rattle.fault.proofs.Passed.{then_parts, if_passed, at_passed}
use Rattle.action.specs.declared.call.Call.{Call}
use Rattle.action.specs.Ranges.{highest_address, highest_kind}
use Rattle.translation.specs.declared.translation.Row.{Row}
use Rattle.translation.specs.declared.translation.Translation.{Translation}
use Rattle.translation.specs.Tables.{most_rows, highest_selector, code, deed_by, blank, row_of, image}
use Rattle.translation.specs.Files.{shape_check, count_of, codes_of, rows_of, four_of, shape_wrong, row_wrong, row_with, row_at, table_of, translation_of, translation_check, rows_check, codes_check, deed_in, file_image, ByItsRow}
use Rattle.translation.proofs.Rising.{by_its_row}

-- two tests that agree below n pick the same
lowest_same : (p q : ℕ → Bool) (n : ℕ) → ((i : ℕ) → i < n → p i ≡ q i) → lowest p n ≡ lowest q n
unfolding lowest
lowest_same p q zero h = refl
lowest_same p q (suc n) h = rw (lowest_same p q n (λ i l. h i (omega arith)), h n (omega arith))

-- what is read at the index picked
read_same : {X Y : Type 0} (f : X → Y) (g : ℕ → X) (h : ℕ → Y) (p : ℕ → Bool) (n : ℕ) (o : Option ℕ) → Picks p n o → ((i : ℕ) → i < n → f (g i) ≡ h i) → option_map f (option_map g o) ≡ option_map h o
read_same f g h p n (Some i) (l, _, _) e = ap Some (e i l)
read_same f g h p n None k e = refl

-- a row within its ranges is read as its bytes say
small : (x n : ℕ) → ltb n x ≡ false → x % (n + 1) ≡ x
small x n h = let l = ltb-false n x h in mod-eq_of_lt (omega arith)

in_ranges : (k : ℕ) (row : List ℕ) (c : Call) → row_wrong row ≡ false → deed_by (row_with k row) c ≡ deed_in row c
in_ranges k row c h =
    let a = or_parts (ltb highest_address (get_or row 0 0) || ltb highest_kind (get_or row 1 0) || ltb highest_selector (get_or row 2 0)) (ltb highest_selector (get_or row 3 0)) h in
    let b = or_parts (ltb highest_address (get_or row 0 0) || ltb highest_kind (get_or row 1 0)) (ltb highest_selector (get_or row 2 0)) a.0 in
    let d = or_parts (ltb highest_address (get_or row 0 0)) (ltb highest_kind (get_or row 1 0)) b.0 in
    rw (small (get_or row 0 0) 7 d.0, small (get_or row 1 0) 31 d.1, small (get_or row 2 0) 3 b.1, small (get_or row 3 0) 3 a.1)

module _ (codes rows : List ℕ) (m : ℕ) (few : m ≤ most_rows) where
  -- a used row of the table
  table_row : length codes ≡ m → (i : ℕ) → i < m → get_or (table_of codes rows) i blank ≡ row_with (get_or codes i 0) (four_of rows i)
  table_row count i l =
      let e : ltb i (length codes) ≡ true = lt-ltb _ _ (omega arith) in
      get_or-map-range_with_len (row_at codes rows) 0 most_rows i i blank (omega arith) (omega arith) ∙ rw e

  -- whatever the table is, if its used rows are those of the bytes
  read_by : (table : List Row) → ((i : ℕ) → i < m → get_or table i blank ≡ row_with (get_or codes i 0) (four_of rows i)) → ((i : ℕ) → i < m → row_wrong (four_of rows i) ≡ false) → (c : Call) → option_map (λ r. deed_by r c) (row_of table m (code c)) ≡ option_map (λ i. deed_in (four_of rows i) c) (lowest (λ i. eqb (get_or codes i 0) (code c)) m)
  read_by table used good c =
      let q = lowest_same (λ i. eqb (get_or table i blank).code (code c)) (λ i. eqb (get_or codes i 0) (code c)) m (λ i l. ap (λ (r : Row). eqb r.code (code c)) (used i l)) in
      let n : min m most_rows ≡ m = min-eq_left few in
      rw (n, q)
      (read_same (λ r. deed_by r c) (λ i. get_or table i blank) (λ i. deed_in (four_of rows i) c) (λ i. eqb (get_or codes i 0) (code c)) m _ (lowest_means _ m)
      (λ i l. ap (λ (r : Row). deed_by r c) (used i l) ∙ in_ranges (get_or codes i 0) (four_of rows i) c (good i l)))

-- what is known of accepted bytes: there are as many codes as the count says, which is not too high, and each check passed
record Accepted (b : List ℕ) : Type 0 where
  few : count_of b ≤ most_rows
  count : length (codes_of b) ≡ count_of b
  rows : Ok tt ≡ rows_check (codes_of b) (rows_of b)
  codes : Ok tt ≡ codes_check (codes_of b)

accepted : (b : List ℕ) → Ok tt ≡ translation_check b → Accepted b
accepted b ok =
    let checks = then_parts (shape_check b) (rows_check (codes_of b) (rows_of b) then codes_check (codes_of b)) ok in
    let rest = then_parts (rows_check (codes_of b) (rows_of b)) (codes_check (codes_of b)) checks.1 in
    let shape = if_passed TranslationShape (shape_wrong b) checks.0 in
    let p = or_parts (eqb (length b) 0 || ltb most_rows (count_of b)) (not (eqb (length b) (1 + 5 * count_of b))) shape in
    let q = or_parts (eqb (length b) 0) (ltb most_rows (count_of b)) p.0 in
    let few = ltb-false most_rows (count_of b) q.1 in
    let long = eqb-true (length b) (1 + 5 * count_of b) (not-false (eqb (length b) (1 + 5 * count_of b)) p.1) in
    record { few = few; count = simp (length-take, length-drop) (omega arith); rows = rest.0; codes = rest.1 }

-- what is read of accepted bytes is their table
pub table_is : (b codes rows : List ℕ) (table : List Row) → codes ≡ codes_of b → rows ≡ rows_of b → table ≡ table_of codes rows → Ok tt ≡ translation_check b → ◌≡◌ {A = Translation} (record { rows = table; used = length codes }) (translation_of b)
table_is b codes rows table p q t ok =
    let h = accepted b ok in
    let n : length codes ≡ count_of b = ap (length {A = ℕ}) p ∙ h.count in
    let z : table ≡ table_of (codes_of b) (rows_of b) = t ∙ ap₂ table_of p q in
    ap₂ (λ (rows : List Row) (used : ℕ). let r : Translation = record { rows = rows; used = used } in r) z n

pub agrees : (b : List ℕ) → Ok tt ≡ translation_check b → (c : Call) → image (translation_of b) c ≡ file_image b c
agrees b ok c =
    let h = accepted b ok in
    read_by (codes_of b) (rows_of b) (count_of b) h.few (table_of (codes_of b) (rows_of b))
    (table_row (codes_of b) (rows_of b) (count_of b) h.few h.count)
    (λ i l. at_passed (λ j. TranslationRow j) (λ j. row_wrong (four_of (rows_of b) j)) (length (codes_of b)) h.rows i (omega (arith, h.count)))
    c

pub agrees_by_row : (b : List ℕ) → Ok tt ≡ translation_check b → (c : Call) → ByItsRow b c (image (translation_of b) c)
agrees_by_row b ok c = let h = accepted b ok in subst (ByItsRow b c) (sym (agrees b ok c)) (by_its_row b h.count h.codes c)
