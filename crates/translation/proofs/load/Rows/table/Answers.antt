use Rattle.std.proofs.Common.{rules}
use Rattle.translation.specs.Tables.{blank}
use Rattle.translation.specs.Files.{row_at}
use Rattle.translation.proofs.Made.{made_by}
use Rattle.translation.proofs.load.Rows.table.Goals as goal

pub returns : goal.returns
returns c = made_by _ (row_at c.args.self.now.codes.now c.args.self.now.rows.now) _ (λ i y q k. search rules) 64 _ blank c.from_fn.ensures.items
