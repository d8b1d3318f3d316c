-- What a diagram forbids.
use Rattle.std.specs.Prelude.{ℕ, ◌-◌, true, List, slice_index_or}
use Rattle.action.specs.declared.deed.Deed.{Deed}
use Rattle.action.specs.Traces.{Sub}
use Rattle.sheet.specs.declared.diagram.Fragment.{Fragment}
use Rattle.sheet.specs.declared.diagram.Fragment.TheVariants.{Skip}
use Rattle.sheet.specs.declared.diagram.Variables.{Variables}
use Rattle.sheet.specs.declared.diagram.Diagram.{Diagram}
use Rattle.sheet.specs.Meaning.{meaning}

abbrev pub fragment : Diagram → ℕ → Fragment
fragment d i = slice_index_or d.fragments i Skip

-- the last fragment is the whole
abbrev pub root : Diagram → ℕ
root d = d.count - 1

-- a negative trace: the list of a marked run of the whole from the starts
abbrev pub Negative : Diagram → List Deed → Type 0
Negative d l = (u : Variables) × meaning (fragment d) (root d) d.start l u true

-- some negative trace is a sub-trace of the list
abbrev pub Forbids : Diagram → List Deed → Type 0
Forbids d l = (s : List Deed) × Negative d s × Sub s l
