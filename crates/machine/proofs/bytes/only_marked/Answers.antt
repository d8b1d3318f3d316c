use Rattle.machine.proofs.Carried.{marked_two, marked_none}
use Rattle.machine.proofs.bytes.only_marked.Goals as goal

pub returns-then-b-ne0 : goal.returns-then-b-ne0
returns-then-b-ne0 c = marked_two c.args.b c.if-b-ne0.true

pub returns-else-b-ne0 : goal.returns-else-b-ne0
returns-else-b-ne0 c = marked_none c.args.b c.if-b-ne0.false
