-- Sets of kinds.
use Rattle.std.specs.Prelude.{◌≡◌, ℕ, ◌/◌, ◌%◌, ◌^◌, Bool, true, ◌==◌, bit_or}
use Rattle.watch.specs.declared.kinds.Kinds.{Kinds}

-- the empty set
abbrev pub no_kinds : Kinds
no_kinds = record { digits = 0 }

-- k is in a set where its binary digit k is 1
abbrev pub member : Kinds → ℕ → Bool
member set k = (set.digits / 2 ^ k % 2) == 1

abbrev pub In : Kinds → ℕ → Type 0
In set k = member set k ≡ true

-- a set and one kind more
abbrev pub with_kind : Kinds → ℕ → Kinds
with_kind set k = record { digits = bit_or set.digits (2 ^ k) }

-- what is in either of two sets
abbrev pub union : Kinds → Kinds → Kinds
union a b = record { digits = bit_or a.digits b.digits }
