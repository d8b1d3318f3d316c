-- What an accepted diagram is known to be: a tree of fragments, with sizes and starts in their ranges.
use Rattle.std.specs.Prelude.{◌≡◌, ℕ, ◌+◌, ◌<◌, ◌≤◌, ◌⊎◌}
use Rattle.sheet.specs.declared.diagram.Fragment.{Fragment}
use Rattle.sheet.specs.declared.diagram.Fragment.TheVariants.{Skip, Seq, Alt, Loop, Neg}
use Rattle.sheet.specs.declared.diagram.Diagram.{Diagram}
use Rattle.sheet.specs.Forbid.{fragment}
use Rattle.sheet.specs.Laws.{Earlier}

-- a fragment names the part j
abbrev pub Names : Fragment → ℕ → Type 0
Names Skip j = ⊥
Names (Fragment.Step s) j = ⊥
Names (Seq l r) j = (j ≡ l) ⊎ (j ≡ r)
Names (Alt l r) j = (j ≡ l) ⊎ (j ≡ r)
Names (Loop b) j = j ≡ b
Names (Neg b) j = j ≡ b

-- it names no part twice
abbrev pub Distinct : Fragment → Type 0
Distinct Skip = Unit {0}
Distinct (Fragment.Step s) = Unit {0}
Distinct (Seq l r) = l ≡ r → ⊥
Distinct (Alt l r) = l ≡ r → ⊥
Distinct (Loop b) = Unit {0}
Distinct (Neg b) = Unit {0}

-- the fragments below n are a tree: parts stand earlier, and each fragment but the last is named exactly once
pub record Tree (F : ℕ → Fragment) (n : ℕ) : Type 0 where
  pub earlier : (i : ℕ) → i < n → Earlier (F i) i
  pub distinct : (i : ℕ) → i < n → Distinct (F i)
  pub once : (i k j : ℕ) → i < n → k < n → Names (F i) j → Names (F k) j → i ≡ k
  pub parent : (j : ℕ) → j + 1 < n → (i : ℕ) × (i < n) × Names (F i) j

pub record Sound (d : Diagram) : Type 0 where
  pub some : 0 < d.count
  pub most : d.count ≤ 64
  pub x_fits : d.start.x < 16
  pub y_fits : d.start.y < 16
  pub tree : Tree (fragment d) d.count
