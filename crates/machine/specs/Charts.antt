-- The fragments of a sheet and what may come after each, as the code holds them.
use Rattle.std.specs.Prelude.{ℕ, false, List, slice_index_or}
use Rattle.sheet.specs.declared.diagram.Fragment.{Fragment}
use Rattle.sheet.specs.declared.diagram.Fragment.TheVariants.{Skip}
use Rattle.followers.specs.declared.sets.NextSet.{NextSet}
use Rattle.followers.specs.Next.{Nexts}
use Rattle.followers.specs.Words.{nexts}
use Rattle.machine.specs.declared.chart.Chart.{Chart}

abbrev pub kinds : List Fragment → ℕ → Fragment
kinds fs p = slice_index_or fs p Skip

abbrev pub no_set : NextSet
no_set = record { plain = record { steps = 0; end = false }; marked = record { steps = 0; end = false } }

abbrev pub follows : List NextSet → ℕ → Nexts
follows xs p = nexts (slice_index_or xs p no_set)

abbrev pub kinds_of : Chart → ℕ → Fragment
kinds_of c = kinds c.fragments

abbrev pub follows_of : Chart → ℕ → Nexts
follows_of c = follows c.follow
