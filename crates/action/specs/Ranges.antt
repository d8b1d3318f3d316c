-- The highest number of each part of an action, and a number that is asked for.
use Rattle.std.specs.Prelude.{◌≡◌, ℕ, ◌<◌, ◌≤◌, Ok, Err, Result}
use Rattle.fault.specs.declared.fault.Fault.{Fault}
use Rattle.fault.specs.declared.fault.Fault.TheVariants.{OutOfRange}

abbrev pub highest_kind : ℕ
highest_kind = 31

-- the highest partner that can be asked for
abbrev pub highest_partner : ℕ
highest_partner = 7

-- the highest byte, in any format, that says whom a deed is exchanged with
abbrev pub highest_address : ℕ
highest_address = 7

abbrev pub highest_argument : ℕ
highest_argument = 15

abbrev pub highest_form : ℕ
highest_form = 7

-- v was asked for: r is it, or a refusal exactly where v is above the highest
abbrev pub Ranged : {X : Type 0} → ℕ → ℕ → (X → ℕ) → Result X Fault → Type 0
Ranged highest v number (Ok x) = (v ≤ highest) × (number x ≡ v)
Ranged highest v number (Err f) = (highest < v) × (f ≡ OutOfRange)
