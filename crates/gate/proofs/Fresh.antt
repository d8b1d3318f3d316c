-- A gate by the watch and the host that it was opened with, or by others that mean the same.
use Rattle.std.proofs.Common.{◌≡◌, ℕ, false, T, List, refl, subst}
use Rattle.watch.specs.Meaning.{Alike}
use Rattle.gate.specs.declared.ask.Ask.{Ask}
use Rattle.gate.specs.declared.gate.Gate.{Gate}
use Rattle.gate.specs.Words.{Word}
use Rattle.gate.specs.Ledger.{opening, Runs, done_of}
use Rattle.gate.specs.Chains.{Guarding, known}
use Rattle.gate.specs.Promise.{RepliesAsLedger, RepliesAsFresh, BarsAndDoesExactly, CarriesDone, Carried, RestNeverStops}
use Rattle.gate.proofs.Ledgers.{runs_stop, runs_alike}

module _ {W H X : Type 0} (m : Guarding W H X) (w : W) (o : H) (g h : Gate W H) (is : g ≡ record { watch = w; host = o; stopped = false }) where
  pub fresh_ledger : {qs : List (Ask X)} {ws : List Word} → RepliesAsLedger m g qs ws h → RepliesAsFresh (known m w o) qs ws
  fresh_ledger {qs = qs} {ws = ws} all =
      let from-opening = subst (λ k. RepliesAsLedger m k qs ws h) is all in
      subst (λ b. Runs (known m w o) (opening false) qs ws (record { done = done_of qs ws; stopped = b })) (runs_stop from-opening) from-opening

  pub fresh_decided : {qs : List (Ask X)} {ws : List Word} → BarsAndDoesExactly (m.forbids g.watch) (m.host.can g.host) g.stopped qs ws → BarsAndDoesExactly (m.forbids w) (m.host.can o) false qs ws
  fresh_decided {qs = qs} {ws = ws} all = subst (λ (k : Gate W H). BarsAndDoesExactly (m.forbids k.watch) (m.host.can k.host) k.stopped qs ws) is all

  pub fresh_carried : {d : List X} → CarriesDone m g d h → Carried m.host o d h.host
  fresh_carried {d = d} all = subst (λ (k : Gate W H). Carried m.host k.host d h.host) is all

-- the rest never stops a gate whose watch forbids the same lists
pub rest_alike : {X : Type 0} (F G : List X → Type 0) (kind : X → ℕ) (d : List X) → Alike F G → RestNeverStops F kind d → RestNeverStops G kind d
rest_alike F G kind d same rest = record {
  same = λ C n part ws M sub runs. rest.same C n part ws M sub (runs_alike F (λ l. T (C l)) n (λ l. ((same l).1, (same l).0)) (λ l. (λ c. c, λ c. c)) (λ k. refl) runs);
  alike = λ H like C n. rest.alike H (λ l. (λ h. (same l).1 ((like l).0 h), λ f. (like l).1 ((same l).0 f))) C n;
}
