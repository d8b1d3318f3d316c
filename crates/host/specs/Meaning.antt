-- What the hosts behind a bound mean.
use Rattle.action.specs.declared.action.Action.{Ghosts as ActionMembers}
use Rattle.host.specs.declared.host.Host.{Ghosts as HostMembers}
use Rattle.host.specs.Hosting.{Hosting}

abbrev pub hosting : {H X : Type 0} → HostMembers H X → ActionMembers X → Hosting H X
hosting h a = record { can = h.can; counts = h.counts; recorded = h.recorded; did = h.did; kind = a.kind }
