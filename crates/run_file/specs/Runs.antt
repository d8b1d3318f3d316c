-- What the bytes of a run say, and what is refused of them.
use Rattle.std.specs.Prelude.{ℕ, ◌+◌, ◌*◌, ◌/◌, ◌%◌, Bool, not, ◌&&◌, ◌||◌, List, map, length, ◌==◌, nat_le, nat_lt, slice_index}
use Rattle.std.specs.List.{between, range_with_len}
use Rattle.std.specs.Simd.{first_chunks}
use Rattle.fault.specs.declared.fault.Fault.TheVariants.{RunShape, ActionBytes}
use Rattle.fault.specs.Checks.{Check, ◌then◌, refuse_if, refuse_at, lowest}
use Rattle.action.specs.declared.deed.Deed.{Deed}
use Rattle.action.specs.Deeds.{reading}
use Rattle.action.specs.Ranges.{highest_address, highest_kind}

-- two bytes, the low one first
abbrev pub count_of : List ℕ → ℕ
count_of b = slice_index b 0 + 256 * slice_index b 1

-- 14: shorter than two bytes, a count above 8,000, or a length that is not 2 + 3 × count
abbrev pub shape_check : List ℕ → Check
shape_check b = refuse_if RunShape (nat_lt (length b) 2 || (nat_lt 8000 (count_of b) || not (length b == 2 + 3 * count_of b)))

-- the pair of each deed, partner and signal, and after all pairs the arguments of each
abbrev pub heads_of : List ℕ → List (List ℕ)
heads_of b = first_chunks 2 (count_of b) (between 2 (2 + 2 * count_of b) b)

abbrev pub arguments_of : List ℕ → List ℕ
arguments_of b = between (2 + 2 * count_of b) (length b) b

abbrev pub head_fits : List ℕ → Bool
head_fits h = nat_le (slice_index h 0) highest_address && nat_le (slice_index h 1) highest_kind

-- the deed of a pair and a byte of arguments, 16 × first + second
abbrev pub deed_in : List ℕ × ℕ → Deed
deed_in d = reading (slice_index d.0 0) (slice_index d.0 1) (d.1 / 16) (d.1 % 16)

-- the pair of the deed i, partner and signal, is in its ranges
abbrev pub deed_fits : List ℕ → ℕ → Bool
deed_fits b i = nat_le (slice_index b (2 + 2 * i)) highest_address && nat_le (slice_index b (3 + 2 * i)) highest_kind

-- 12: at the lowest of count deeds with a byte outside its range
abbrev pub deeds_check : List ℕ → ℕ → Check
deeds_check b count = refuse_at (λ i. ActionBytes i) (lowest (λ i. not (deed_fits b i)) count)

-- the deed i of count: its pair, and after all pairs its arguments, 16 × first + second
abbrev pub deed_at : List ℕ → ℕ → ℕ → Deed
deed_at b count i = reading (slice_index b (2 + 2 * i)) (slice_index b (3 + 2 * i)) (slice_index b (2 + 2 * count + i) / 16) (slice_index b (2 + 2 * count + i) % 16)

abbrev pub deeds_of : List ℕ → ℕ → List Deed
deeds_of b count = map (deed_at b count) (range_with_len 0 count)

-- the deeds of a run
abbrev pub run_deeds : List ℕ → List Deed
run_deeds b = deeds_of b (count_of b)

-- the first rule that refuses
abbrev pub run_verdict : List ℕ → Check
run_verdict b = shape_check b then deeds_check b (count_of b)
