-- A run that passes has at most 8,000 deeds.
use Rattle.std.proofs.Common.{◌≡◌, ℕ, ◌+◌, ◌*◌, ◌≤◌, not, ◌||◌, ◌==◌, nat_lt, List, length, Ok, sym, arith}
use Rattle.fault.specs.declared.fault.Fault.TheVariants.{RunShape}
use Rattle.fault.proofs.Passed.{then_parts, if_passed}
use Rattle.run_file.specs.Runs.{shape_check, deeds_check, run_verdict, count_of}

pub count_few : (run : List ℕ) → run_verdict run ≡ Ok tt → count_of run ≤ 8000
count_few run e =
    let n = count_of run in
    let passed = (then_parts (shape_check run) (deeds_check run n) (sym e)).0 in
    let within = if_passed RunShape (nat_lt (length run) 2 || (nat_lt 8000 n || not (length run == 2 + 3 * n))) passed in
    grind (arith, within)
