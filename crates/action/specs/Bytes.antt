-- The bytes of an action.
use Rattle.std.specs.Prelude.{ℕ, not, List, length, ◌==◌, nat_lt, slice_index}
use Rattle.fault.specs.declared.fault.Fault.TheVariants.{ActionBytes}
use Rattle.fault.specs.Checks.{Check, ◌then◌, refuse_if, refuse_at, lowest}

-- wrong is another count of bytes than there are highest ones, at 0; then a byte above its highest, the first such
abbrev pub action_check : List ℕ → List ℕ → Check
action_check highest b =
    refuse_if (ActionBytes 0) (not (length b == length highest))
    then refuse_at (λ i. ActionBytes i) (lowest (λ i. nat_lt (slice_index highest i) (slice_index b i)) (length highest))
