-- The sets as the code holds them.
use Rattle.std.specs.Prelude.{ℕ, ◌/◌, ◌%◌, ◌^◌, Bool, ◌&&◌, ◌==◌, nat_lt}
use Rattle.followers.specs.declared.sets.Targets.{Targets}
use Rattle.followers.specs.declared.sets.NextSet.{NextSet}
use Rattle.followers.specs.Next.{Next, at, end, Nexts}

-- the bit p of the word w
unfoldable pub bit : ℕ → ℕ → Bool
bit w p = w / 2 ^ p % 2 == 1

-- a step stands below 64
abbrev pub holds : Targets → Next → Bool
holds k (at p) = nat_lt p 64 && bit k.steps p
holds k end = k.end

abbrev pub nexts : NextSet → Nexts
nexts s t = record { plain = holds s.plain t; marked = holds s.marked t }
