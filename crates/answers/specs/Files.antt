-- What two files come to.
use Rattle.std.specs.Prelude.{◌≡◌, ℕ, List, map, take, drop, Ok, Err, Result}
use Rattle.sheet_file.specs.Sheets.{sheet_verdict, diagram_of}
use Rattle.run_file.specs.Runs.{run_verdict, count_of, run_deeds}
use Rattle.gate.specs.declared.ask.Reply.{Reply}
use Rattle.gate.specs.Words.{said}
use Rattle.answers.specs.declared.deeds.Account.{Account}
use Rattle.answers.specs.declared.files.Refused.{Refused}
use Rattle.answers.specs.Answered.{Answered}

-- both files pass, and the deeds of the run are answered under the diagram of the sheet
pub record Accounted (rule run : List ℕ) (a : Account) (before after : List Reply) : Type 0 where
  pub rule_passes : sheet_verdict rule ≡ Ok tt
  pub run_passes : run_verdict run ≡ Ok tt
  pub many : a.many ≡ count_of run
  pub later : drop a.many after ≡ drop a.many before
  pub answered : Answered (diagram_of rule) (run_deeds run) (map said (take a.many after)) a.gate

-- or a file is refused, the sheet first, and the replies are what they were
abbrev pub FilesAnswered : List ℕ → List ℕ → Result Account Refused → List Reply → List Reply → Type 0
FilesAnswered rule run (Ok a) before after = Accounted rule run a before after
FilesAnswered rule run (Err (Refused.Sheet f)) before after = (sheet_verdict rule ≡ Err f) × (after ≡ before)
FilesAnswered rule run (Err (Refused.Run f)) before after = (sheet_verdict rule ≡ Ok tt) × (run_verdict run ≡ Err f) × (after ≡ before)
