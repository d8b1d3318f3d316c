-- What may come next in a run.
use Rattle.std.specs.Prelude.{ℕ, false, ◌==◌}
use Rattle.sheet.specs.declared.marks.Marks.{Marks}
use Rattle.sheet.specs.Empties.{nothing, only_plain, both, either, must}

-- a step, by its fragment's index, or the end
pub data Next : Type 0 where
  at : ℕ → Next
  end : Next

-- with which marks each may come; a mark is collected on the way to it
abbrev pub Nexts : Type 0
Nexts = Next → Marks

abbrev pub no_next : Nexts
no_next t = nothing

abbrev pub only_end : Nexts
only_end (at p) = nothing
only_end end = only_plain

abbrev pub only_step : ℕ → Nexts
only_step i (at p) = record { plain = (p == i); marked = false }
only_step i end = nothing

abbrev pub join : Nexts → Nexts → Nexts
join A B t = either (A t) (B t)

-- A after an empty run that has one of the marks N
abbrev pub after : Marks → Nexts → Nexts
after N A t = both N (A t)

abbrev pub marked : Nexts → Nexts
marked A t = must (A t)
