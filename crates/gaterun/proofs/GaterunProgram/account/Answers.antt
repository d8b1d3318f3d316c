use Rattle.std.proofs.Common.{take, sym, arith}
use Rattle.std.proofs.lemmas.List.{length-take-le}
use Rattle.gaterun.proofs.Counts.{count_few}
use Rattle.gaterun.proofs.GaterunProgram.account.Goals as goal

pub slice_bounds-replies-end : goal.slice_bounds-replies-end
slice_bounds-replies-end c =
    let a = c.in-Ok.ensures in
    let few = count_few (take c.in_ok-run_len.run_len c.run_bytes.new.buffer) a.run_passes in
    omega (arith, few, a.many, c.answer_files.array_long)

pub slice_bounds-show-end : goal.slice_bounds-show-end
slice_bounds-show-end c =
    let a = c.in-Ok.ensures in
    let few = count_few (take c.in_ok-run_len.run_len c.run_bytes.new.buffer) a.run_passes in
    sym (length-take-le c.in-Ok.account.many c.answer_files.new.replies (omega (arith, few, a.many, c.answer_files.array_long)))
