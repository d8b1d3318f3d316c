-- A sheet by its diagram, and the diagram of a sheet to lend.
use Rattle.std.specs.Prelude.{replicate, None, Ok, Err, Result, slice_set}
use Rattle.fault.specs.declared.fault.Fault.{Fault}
use Rattle.sheet.specs.declared.diagram.Fragment.{Fragment}
use Rattle.sheet.specs.declared.diagram.Fragment.TheVariants.{Skip, Neg}
use Rattle.sheet.specs.declared.diagram.Diagram.{Diagram}
use Rattle.sheet.specs.declared.sheet.Sheet.{Sheet}

abbrev pub drawn : Result Sheet Fault → Result Diagram Fault
drawn (Ok s) = Ok s.diagram
drawn (Err f) = Err f

-- the neg of a step: signal 0 with partner 0 is forbidden
abbrev pub blank : Diagram
blank = record {
  count = 2;
  steps = 1;
  start = record { x = 0; y = 0 };
  fragments = slice_set (slice_set (replicate 64 Skip) 0 (Fragment.Step (record { address = 0; signal = 0; guard = None; change = None }))) 1 (Neg 0);
}
