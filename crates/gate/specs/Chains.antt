-- What one ask changes at a gate, and chains of asks.
use Rattle.std.specs.Prelude.{◌≡◌, ℕ, true, cond, List, [], ◌∷◌, ◌++◌, ◌==◌, ◌≢◌}
use Rattle.action.specs.declared.action.Action.{Ghosts as ActionMembers}
use Rattle.watch.specs.declared.watch.Watch.{Ghosts as WatchMembers}
use Rattle.watch.specs.Meaning.{Shifted}
use Rattle.host.specs.declared.host.Host.{Ghosts as HostMembers}
use Rattle.host.specs.Hosting.{Hosting, Performs}
use Rattle.host.specs.Meaning.{hosting}
use Rattle.gate.specs.declared.ask.Ask.{Ask}
use Rattle.gate.specs.declared.ask.Ask.TheVariants.{Submit, Query, Count}
use Rattle.gate.specs.declared.gate.Gate.{Gate}
use Rattle.gate.specs.Words.{Word, answer, count_word}
use Rattle.gate.specs.Ledger.{Says, Known}

-- what the watches W and the hosts H of gates mean
pub record Guarding (W H X : Type 0) : Type 1 where
  pub forbids : W → List X → Type 0
  pub host : Hosting H X

abbrev pub guarding : {W H X : Type 0} → WatchMembers W X → HostMembers H X → ActionMembers X → Guarding W H X
guarding w h a = record { forbids = w.forbids; host = hosting h a }

-- what a ledger of a gate knows that is opened over a watch and a host
abbrev pub known : {W H X : Type 0} → Guarding W H X → W → H → Known X
known m w h = record { forbids = m.forbids w; can = m.host.can h; counts = m.host.counts h; kind = m.host.kind }

-- x was submitted at g and answered n, which left h: where it is done, the watch noted it and the host did it;
-- on any other answer both are the same values
pub record Submitted {W H X : Type 0} (m : Guarding W H X) (g : Gate W H) (x : X) (n : ℕ) (h : Gate W H) : Type 0 where
  pub says : Says (m.forbids g.watch) (m.host.can g.host) [] g.stopped x n
  pub stop : h.stopped ≡ cond (n == 21) true g.stopped
  pub watch_on : n ≡ 0 → Shifted (m.forbids g.watch) x (m.forbids h.watch)
  pub host_on : n ≡ 0 → Performs m.host g.host x h.host
  pub watch_same : (n ≢ 0) → h.watch ≡ g.watch
  pub host_same : (n ≢ 0) → h.host ≡ g.host

-- an ask at g and the reply, which left h
pub data Asked {W H X : Type 0} (m : Guarding W H X) : Gate W H → Ask X → Word → Gate W H → Type 0 where
  submit : {g h : Gate W H} {x : X} {n : ℕ} → Submitted m g x n h → Asked m g (Submit x) (answer n) h
  query : {g : Gate W H} {x : X} {n : ℕ} → Says (m.forbids g.watch) (m.host.can g.host) [] g.stopped x n → Asked m g (Query x) (answer n) g
  count : {g : Gate W H} {k : ℕ} {w : Word} → w ≡ count_word k (m.host.counts g.host k) → Asked m g (Count k) w g

-- asks one after the other
pub data Chain {W H X : Type 0} (m : Guarding W H X) : Gate W H → List (Ask X) → List Word → Gate W H → Type 0 where
  end : {g : Gate W H} → Chain m g [] [] g
  next : {g h i : Gate W H} {a : Ask X} {w : Word} {qs : List (Ask X)} {ws : List Word} → Asked m g a w h → Chain m h qs ws i → Chain m g (a ∷ qs) (w ∷ ws) i

-- single calls and runs, in any mix
pub data Mix {W H X : Type 0} (m : Guarding W H X) : Gate W H → List (Ask X) → List Word → Gate W H → Type 0 where
  none : {g : Gate W H} → Mix m g [] [] g
  single : {g h i : Gate W H} {a : Ask X} {w : Word} {qs : List (Ask X)} {ws : List Word} → Asked m g a w h → Mix m h qs ws i → Mix m g (a ∷ qs) (w ∷ ws) i
  run : {g h i : Gate W H} {ps qs : List (Ask X)} {vs ws : List Word} → Chain m g ps vs h → Mix m h qs ws i → Mix m g (ps ++ qs) (vs ++ ws) i
