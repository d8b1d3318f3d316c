use Rattle.std.proofs.Common.{◌≤◌, sym, arith}
use Rattle.std.proofs.lemmas.List.{length-take-le}
use Rattle.std.proofs.lemmas.Result.{IfOk-at_ok}
use Rattle.rehearse.proofs.RehearseProgram.account.Goals as goal

pub slice_bounds-show-end : goal.slice_bounds-show-end
slice_bounds-show-end c =
    let few = IfOk-at_ok (λ n. n ≤ 8000) c.in-Ok.is c.in_ok-n.ensures.few in
    sym (length-take-le c.in-Ok.n _ (omega (arith, few, c.read_run.array_long)))
