-- What is read of a file: nothing can be said of its bytes, but what follows is the verdict on them.
use Rattle.std.specs.Prelude.{◌≡◌, ℕ, ◌≤◌, List, ◌++◌, length, drop, Result}
use Rattle.fault.specs.declared.fault.Fault.{Fault}
use Rattle.fault.specs.Checks.{Check, or_fault, filled}
use Rattle.action.specs.declared.deed.Deed.{Deed}
use Rattle.sheet.specs.declared.diagram.Diagram.{Diagram}
use Rattle.sheet_file.specs.Sheets.{sheet_verdict, diagram_of}
use Rattle.run_file.specs.Runs.{run_verdict, count_of, run_deeds}

-- q is the verdict on some bytes as a sheet, and the place went from old to new by it
abbrev pub RuleRead : Check → Diagram → Diagram → Type 0
RuleRead q old new = (b : List ℕ) × (length b ≤ 581) × (q ≡ sheet_verdict b) × (new ≡ filled (sheet_verdict b) (diagram_of b) old)

-- the same of a run
abbrev pub RunRead : Result ℕ Fault → List Deed → List Deed → Type 0
RunRead q old new = (b : List ℕ) × (length b ≤ 24003) × (q ≡ or_fault (run_verdict b) (count_of b)) × (new ≡ filled (run_verdict b) (run_deeds b ++ drop (count_of b) old) old)
