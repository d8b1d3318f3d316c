use Rattle.std.proofs.Common.{refl, arith, rules}
use Rattle.std.proofs.lemmas.Bool.Decides.{not_from_Decides}
use Rattle.gate.specs.Chains.{submit}
use Rattle.gate.specs.Ledger.{is_stopped, is_barred, is_passed, is_done, is_declined, by_watch, by_host}
use Rattle.gate.proofs.Links.{performed, declined}
use Rattle.gate.proofs.gate.Gate.submit.Goals as goal

pub returns-then-self : goal.returns-then-self
returns-then-self g c = submit (record {
  says = by_watch (is_stopped refl c.if-self.true);
  stop = refl;
  watch_on = λ z. absurd (omega arith);
  host_on = λ z. absurd (omega arith);
  watch_same = λ _. refl;
  host_same = λ _. refl;
})

pub returns-then-bars : goal.returns-then-bars
returns-then-bars g c = submit (record {
  says = by_watch (is_barred refl c.if-self.false (c.bars.ensures.0 c.if-bars.true));
  stop = refl;
  watch_on = λ z. absurd (omega arith);
  host_on = λ z. absurd (omega arith);
  watch_same = λ _. refl;
  host_same = λ _. refl;
})

pub returns-in-Declined : goal.returns-in-Declined
returns-in-Declined g c = submit (record {
  says = by_host (is_passed refl c.if-self.false (not_from_Decides _ c.bars.ensures c.if-bars.false)) (is_declined refl (declined c.in-Declined.ensures).0);
  stop = refl;
  watch_on = λ z. absurd (omega arith);
  host_on = λ z. absurd (omega arith);
  watch_same = λ _. refl;
  host_same = λ _. (declined c.in-Declined.ensures).1;
})

pub returns-in-Performed : goal.returns-in-Performed
returns-in-Performed g c = submit (record {
  says = by_host (is_passed refl c.if-self.false (not_from_Decides _ c.bars.ensures c.if-bars.false)) (is_done refl (performed c.in-Performed.ensures).0);
  stop = refl;
  watch_on = λ _. search rules;
  host_on = λ _. (performed c.in-Performed.ensures).1;
  watch_same = λ z. absurd (z refl);
  host_same = λ z. absurd (z refl);
})
