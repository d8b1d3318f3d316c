use Rattle.std.proofs.Common.{sym, subst}
use Rattle.sheet.specs.Forbid.{fragment}
use Rattle.sheet.specs.Empties.{EmptyRuns}
use Rattle.sheet.proofs.Empty.{empty_means}
use Rattle.sheet.proofs.Facts.{accepted_sizes, accepted_earlier}
use Rattle.sheet.proofs.sheet.Sheet.empty_runs.Goals as goal

pub invariant_of-headed : goal.invariant_of-headed
invariant_of-headed c = let s = accepted_sizes c.args.self.now.diagram c.args.self.now.ok in record { some = s.0; few = s.1 }

pub emptiness-requires-clause-earlier : goal.emptiness-requires-clause-earlier
emptiness-requires-clause-earlier c = accepted_earlier c.args.self.now.diagram c.args.self.now.ok

pub returns-then-i-self-clause-runs : goal.returns-then-i-self-clause-runs
returns-then-i-self-clause-runs c =
    let F = fragment c.args.self.now.diagram in λ _. subst (EmptyRuns F c.args.i) (sym c.emptiness.ensures) (empty_means F c.args.i)
