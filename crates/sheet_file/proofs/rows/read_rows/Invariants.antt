use Rattle.std.proofs.Common.{length}
use Rattle.sheet_file.proofs.RowsRead.{ReadSoFar}
use Rattle.sheet_file.proofs.rows.read_rows.Given as goal

abbrev pub invariant-loop-i : goal.invariant-loop-i
invariant-loop-i l = ReadSoFar l.kinds l.bytes l.fragments (length l.yielded)
