-- What the pairs and the arguments of a run's bytes say is what its deeds are.
use Rattle.std.proofs.Common.{◌≡◌, ℕ, ◌+◌, ◌-◌, ◌*◌, ◌/◌, ◌%◌, ◌++◌, ◌<◌, ◌&&◌, not, eqb, ltb, leb, List, [], map, zip, length, drop, get_or, Ok, Option, sym, ap, ap₂, ◌∙◌, arith, length-drop, length-take}
use Rattle.std.specs.List.{between, position}
use Rattle.std.proofs.lemmas.Bool.{or_parts, not-false, eqb-true}
use Rattle.std.proofs.lemmas.List.{get_or-take, get_or-drop, get_or-map, length-map}
use Rattle.std.proofs.lemmas.List.FromFn.{fill_by_all}
use Rattle.std.proofs.lemmas.Slice.Zip.{get_or-zip, length-zip}
use Rattle.fault.specs.declared.fault.Fault.TheVariants.{RunShape, ActionBytes}
use Rattle.fault.specs.Checks.{Check, refuse_at, lowest}
use Rattle.fault.proofs.Lowest.{lowest_in}
use Rattle.fault.proofs.Passed.{if_passed}
use Rattle.action.specs.declared.deed.Deed.{Deed}
use Rattle.action.specs.Deeds.{reading}
use Rattle.action.specs.Ranges.{highest_address, highest_kind}
use Rattle.run_file.specs.Runs.{count_of, shape_check, heads_of, arguments_of, head_fits, deed_in, deed_fits, deeds_check, deed_at, run_verdict, run_deeds}
use Rattle.fault.proofs.Chunks.{length-chunks, chunk_at}

-- the length that the shape's check names
whole : (b : List ℕ) → Ok tt ≡ shape_check b → length b ≡ 2 + 3 * count_of b
whole b ok =
    let p = or_parts (ltb (length b) 2) _ (if_passed RunShape _ ok) in
    let q = or_parts (ltb 8000 (count_of b)) (not (eqb (length b) (2 + 3 * count_of b))) p.1 in
    eqb-true (length b) (2 + 3 * count_of b) (not-false (eqb (length b) (2 + 3 * count_of b)) q.1)

-- a deed reads two bytes of its pair, and its arguments
read : (h : List ℕ) (a x y z : ℕ) → get_or h 0 0 ≡ x → get_or h 1 0 ≡ y → a ≡ z → deed_in (h, a) ≡ reading x y (z / 16) (z % 16)
read h a x y z p q r = rw (p, q, r)

module _ (b : List ℕ) (ok : Ok tt ≡ shape_check b) where
  byte_at : (i j : ℕ) → i < count_of b → j < 2 → get_or (get_or (heads_of b) i []) j 0 ≡ get_or b (2 + (i * 2 + j)) 0
  byte_at i j l m =
      let front = between 2 (2 + 2 * count_of b) b in
      ap (λ h. get_or h j 0) (chunk_at 2 (count_of b) front i [] l)
      ∙ (get_or-take 2 (drop (i * 2) front) j 0 m
      ∙ (get_or-drop (i * 2) front j 0
      ∙ (get_or-take (2 + 2 * count_of b - 2) (drop 2 b) (i * 2 + j) 0 (omega arith)
      ∙ get_or-drop 2 b (i * 2 + j) 0)))

  first_at : (i : ℕ) → i < count_of b → get_or (get_or (heads_of b) i []) 0 0 ≡ get_or b (2 + 2 * i) 0
  first_at i l = let e : 2 + (i * 2 + 0) ≡ 2 + 2 * i = omega arith in byte_at i 0 l (omega arith) ∙ ap (λ n. get_or b n 0) e

  second_at : (i : ℕ) → i < count_of b → get_or (get_or (heads_of b) i []) 1 0 ≡ get_or b (3 + 2 * i) 0
  second_at i l = let e : 2 + (i * 2 + 1) ≡ 3 + 2 * i = omega arith in byte_at i 1 l (omega arith) ∙ ap (λ n. get_or b n 0) e

  last_at : (i : ℕ) → i < count_of b → get_or (arguments_of b) i 0 ≡ get_or b (2 + 2 * count_of b + i) 0
  last_at i l =
      get_or-take (length b - (2 + 2 * count_of b)) (drop (2 + 2 * count_of b) b) i 0 (omega (arith, whole b ok))
      ∙ get_or-drop (2 + 2 * count_of b) b i 0

  many : length (heads_of b) ≡ count_of b
  many = length-chunks 2 (count_of b) (between 2 (2 + 2 * count_of b) b)

  last_many : length (arguments_of b) ≡ count_of b
  last_many = let w = whole b ok in simp (length-take, length-drop) (omega arith)

  -- the check of the pairs is that of the deeds
  checked : (o : Option ℕ) → o ≡ position (λ h. not (head_fits h)) (heads_of b) → refuse_at (λ i. ActionBytes i) o ≡ deeds_check b (count_of b)
  checked o e =
      let each : (i : ℕ) → i < length (heads_of b) → not (deed_fits b i) ≡ not (head_fits (get_or (heads_of b) i [])) =
      λ i l. let h : i < count_of b = omega (arith, many) in ap₂ (λ x y. not (leb x highest_address && leb y highest_kind)) (sym (first_at i h)) (sym (second_at i h)) in
      ap (refuse_at (λ i. ActionBytes i)) (e ∙ (sym (lowest_in (λ i. not (deed_fits b i)) (λ h. not (head_fits h)) (heads_of b) [] each) ∙ ap (lowest (λ i. not (deed_fits b i))) many))

  -- and the deeds of the pairs are the run's
  listed : map deed_in (zip (heads_of b) (arguments_of b)) ≡ run_deeds b
  listed =
      let n : length (zip (heads_of b) (arguments_of b)) ≡ count_of b = length-zip (heads_of b) (arguments_of b) ∙ grind (arith, many, last_many) in
      fill_by_all (deed_at b (count_of b)) (map deed_in (zip (heads_of b) (arguments_of b))) (count_of b) (deed_at b (count_of b) 0) (length-map (zip (heads_of b) (arguments_of b)) deed_in ∙ n)
      (λ i l.
      get_or-map deed_in (zip (heads_of b) (arguments_of b)) i ([], 0) _ (omega (arith, n))
      ∙ (ap deed_in (get_or-zip (heads_of b) (arguments_of b) i ([], 0) (omega (arith, many)) (omega (arith, last_many)))
      ∙ read (get_or (heads_of b) i []) _ _ _ _ (first_at i l) (second_at i l) (last_at i l)))

  -- with what was read of the bytes
  pub judged : (heads : List (List ℕ)) (v : Check) → heads ≡ heads_of b → v ≡ refuse_at (λ i. ActionBytes i) (position (λ h. not (head_fits h)) heads) → v ≡ run_verdict b
  judged heads v p e = rw (← ok) (e ∙ checked _ (ap (position (λ h. not (head_fits h))) p))

  pub counted : (arguments : List ℕ) → arguments ≡ arguments_of b → length arguments ≡ count_of b
  counted arguments q = ap (length {A = ℕ}) q ∙ last_many

  pub loaded : (heads : List (List ℕ)) (arguments : List ℕ) (old : List Deed) → heads ≡ heads_of b → arguments ≡ arguments_of b → map deed_in (zip heads arguments) ++ drop (length arguments) old ≡ run_deeds b ++ drop (count_of b) old
  loaded heads arguments old p q = ap₂ (λ xs n. xs ++ drop n old) (ap₂ (λ x y. map deed_in (zip x y)) p q ∙ listed) (counted arguments q)
