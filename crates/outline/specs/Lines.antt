-- The outline of a diagram: its fragments, each before its parts, and how deep each lies.
use Rattle.std.specs.Prelude.{ℕ, ◌+◌, List, [], ◌∷◌, ◌++◌}
use Rattle.sheet.specs.declared.diagram.Fragment.{Fragment}
use Rattle.sheet.specs.declared.diagram.Fragment.TheVariants.{Skip, Seq, Alt, Loop, Neg}
use Rattle.sheet.specs.declared.diagram.Diagram.{Diagram}
use Rattle.sheet.specs.Index.{each}
use Rattle.sheet.specs.Forbid.{fragment, root}
use Rattle.outline.specs.declared.outline.Line.{Line}

-- the lines of a fragment's parts, at a depth
abbrev pub parts_at : Fragment → (ℕ → ℕ → List Line) → ℕ → List Line
parts_at Skip L k = []
parts_at (Fragment.Step s) L k = []
parts_at (Seq l r) L k = L l k ++ L r k
parts_at (Alt l r) L k = L l k ++ L r k
parts_at (Loop b) L k = L b k
parts_at (Neg b) L k = L b k

-- a fragment's own line, then its parts', one deeper
abbrev pub lines_of : Fragment → (ℕ → ℕ → List Line) → ℕ → List Line
lines_of f L k = record { depth = k; fragment = f } ∷ parts_at f L (k + 1)

-- the lines of the fragment i, at a depth
abbrev pub lines_at : (ℕ → Fragment) → ℕ → ℕ → List Line
lines_at F = each (λ k. []) (λ i L k. lines_of (F i) L k)

-- the whole stands first
abbrev pub outline : Diagram → List Line
outline d = lines_at (fragment d) (root d) 0
