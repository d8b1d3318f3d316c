-- The numbers of the answers, and what a reply says in numbers.
use Rattle.std.specs.Prelude.{ℕ, cond, Ok, Err, Result, nat_le}
use Rattle.fault.specs.declared.fault.Fault.{Fault}
use Rattle.fault.specs.Faults.{number as fault_number, place as fault_place}
use Rattle.action.specs.Ranges.{highest_kind}
use Rattle.gate.specs.declared.answer.Answer.{Answer}
use Rattle.gate.specs.declared.answer.Answer.TheVariants.{Done, Stopped, Barred, Declined}
use Rattle.gate.specs.declared.ask.Reply.{Reply}
use Rattle.gate.specs.declared.ask.Reply.TheVariants.{Answered, Counted}

abbrev pub number : Answer → ℕ
number Done = 0
number Stopped = 20
number Barred = 21
number Declined = 22

-- a reply in numbers: the answer to an action, a count, or the number and the place of a refusal
pub data Word : Type 0 where
  answer : ℕ → Word
  count : ℕ → Word
  refusal : ℕ → ℕ → Word

abbrev pub told : Result ℕ Fault → Word
told (Ok m) = count m
told (Err f) = refusal (fault_number f) (fault_place f)

abbrev pub said : Reply → Word
said (Answered a) = answer (number a)
said (Counted r) = told r

-- the reply where the count of the kind k is asked for and is m
abbrev pub count_word : ℕ → ℕ → Word
count_word k m = cond (nat_le k highest_kind) (count m) (refusal 13 0)
