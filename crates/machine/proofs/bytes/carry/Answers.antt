use Rattle.machine.proofs.Carried.{carried}
use Rattle.machine.proofs.bytes.carry.Goals as goal

pub returns : goal.returns
returns c = carried c.args.b c.when.result c.only_marked.result c.when-2.result c.args.next c.when.ensures c.when-2.ensures c.only_marked.ensures
