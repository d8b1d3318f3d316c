use Rattle.std.proofs.Common.{refl}
use Rattle.std.proofs.lemmas.Bool.Decides.{not_from_Decides}
use Rattle.gate.specs.Chains.{query}
use Rattle.gate.specs.Ledger.{is_stopped, is_barred, is_passed, is_done, is_declined, by_watch, by_host}
use Rattle.gate.proofs.gate.Gate.query.Goals as goal

pub returns-then-self : goal.returns-then-self
returns-then-self g c = query (by_watch (is_stopped refl c.if-self.true))

pub returns-then-bars : goal.returns-then-bars
returns-then-bars g c = query (by_watch (is_barred refl c.if-self.false (c.bars.ensures.0 c.if-bars.true)))

pub returns-then-able : goal.returns-then-able
returns-then-able g c = query (by_host (is_passed refl c.if-self.false (not_from_Decides _ c.bars.ensures c.if-bars.false)) (is_done refl (c.able.ensures.0 c.if-able.true)))

pub returns-else-able : goal.returns-else-able
returns-else-able g c = query (by_host (is_passed refl c.if-self.false (not_from_Decides _ c.bars.ensures c.if-bars.false)) (is_declined refl (not_from_Decides _ c.able.ensures c.if-able.false)))
