use Rattle.sheet.proofs.Falling.{meaning_reads}
use Rattle.sheet.proofs.laws.meaning_reads.Goals as goal

pub returns : goal.returns
returns c = meaning_reads
