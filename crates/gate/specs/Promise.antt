-- What a gate promises of any asks, from a gate before to the gate after.
use Rattle.std.specs.Prelude.{◌≡◌, ℕ, zero, suc, ◌+◌, Bool, true, false, T, List, [], ◌∷◌, ◌++◌, take}
use Rattle.action.specs.Traces.{Sub, tally}
use Rattle.watch.specs.Meaning.{Iff, Alike}
use Rattle.host.specs.Hosting.{Hosting, followed}
use Rattle.gate.specs.declared.ask.Ask.{Ask}
use Rattle.gate.specs.declared.ask.Ask.TheVariants.{Submit}
use Rattle.gate.specs.declared.gate.Gate.{Gate}
use Rattle.gate.specs.Words.{Word, answer}
use Rattle.gate.specs.Ledger.{Ledger, Known, opening, Runs, done_of, stop_of, submits}
use Rattle.gate.specs.Chains.{Guarding, known}

-- every reply and the stop are the ledger's
abbrev pub RepliesAsLedger : {W H X : Type 0} → Guarding W H X → Gate W H → List (Ask X) → List Word → Gate W H → Type 0
RepliesAsLedger m g qs ws h = Runs (known m g.watch g.host) (opening g.stopped) qs ws (record { done = done_of qs ws; stopped = h.stopped })

-- the same of a gate that is gone, and was opened over what K knows
abbrev pub RepliesAsFresh : {X : Type 0} → Known X → List (Ask X) → List Word → Type 0
RepliesAsFresh K qs ws = Runs K (opening false) qs ws (record { done = done_of qs ws; stopped = stop_of false qs ws })

-- y stands at the place i of a list
abbrev pub At : {Y : Type 0} → ℕ → List Y → Y → Type 0
At i [] y = ⊥
At zero (x ∷ l) y = x ≡ y
At (suc i) (x ∷ l) y = At i l y

-- x was answered n, where d was done and s says whether one was barred: until then x is barred exactly when it is
-- forbidden after d; otherwise it is done exactly when the host can do all those; and after a bar none is done
pub record DecidedAt {X : Type 0} (F C : List X → Type 0) (d : List X) (s : Bool) (x : X) (n : ℕ) : Type 0 where
  pub barred : s ≡ false → Iff (n ≡ 21) (F (d ++ (x ∷ [])))
  pub done : s ≡ false → (F (d ++ (x ∷ [])) → ⊥) → Iff (n ≡ 0) (C (d ++ (x ∷ [])))
  pub stopped : s ≡ true → n ≡ 20

-- so at every place of the asks
abbrev pub BarsAndDoesExactly : {X : Type 0} → (List X → Type 0) → (List X → Type 0) → Bool → List (Ask X) → List Word → Type 0
BarsAndDoesExactly {X} F C s qs ws = (i : ℕ) (x : X) (n : ℕ) → At i qs (Submit x) → At i ws (answer n) → DecidedAt F C (done_of (take i qs) (take i ws)) (stop_of s (take i qs) (take i ws)) x n

-- a host's own steps, one after the other
pub data Steps {H X : Type 0} (did : H → X → H → Type 0) : H → List X → H → Type 0 where
  none : {h : H} → Steps did h [] h
  more : {g h i : H} {x : X} {l : List X} → did g x h → Steps did h l i → Steps did g (x ∷ l) i

-- what the done actions d have come to at a host
pub record Carried {H X : Type 0} (m : Hosting H X) (g : H) (d : List X) (h : H) : Type 0 where
  pub counted : (k : ℕ) → m.counts h k ≡ m.counts g k + tally m.kind k d
  pub kept : m.recorded h ≡ followed (m.recorded g) d
  pub steps : Steps m.did g d h

-- each count, at the gate and in its host, is the one before plus the done actions of that kind (a gate's count is its
-- host's); a record is the one before followed by the done actions; the host's own steps were theirs, in order
abbrev pub CarriesDone : {W H X : Type 0} → Guarding W H X → Gate W H → List X → Gate W H → Type 0
CarriesDone m g d h = Carried m.host g.host d h.host

-- no ledger run over the submits of a part of d ends stopped
abbrev pub NeverStops : {X : Type 0} → Known X → List X → Type 0
NeverStops {X} K d = (rest : List X) (ws : List Word) (M : Ledger X) → Sub rest d → Runs K (opening false) (submits rest) ws M → M.stopped ≡ false

-- whichever of the actions d are left out, the rest never stops a gate whose watch forbids what F holds of, at any host
pub record RestNeverStops {X : Type 0} (F : List X → Type 0) (kind : X → ℕ) (d : List X) : Type 0 where
  pub same : (C : List X → Bool) (n : ℕ → ℕ) → NeverStops (record { forbids = F; can = λ l. T (C l); counts = n; kind = kind }) d
  pub alike : (G : List X → Bool) → Alike (λ l. T (G l)) F → (C : List X → Bool) (n : ℕ → ℕ) → NeverStops (record { forbids = λ l. T (G l); can = λ l. T (C l); counts = n; kind = kind }) d

-- the promise that needs no leaving-out law
pub record Kept {W H X : Type 0} (m : Guarding W H X) (g : Gate W H) (qs : List (Ask X)) (ws : List Word) (h : Gate W H) : Type 0 where
  pub ledger : RepliesAsLedger m g qs ws h
  pub decided : BarsAndDoesExactly (m.forbids g.watch) (m.host.can g.host) g.stopped qs ws
  pub carried : CarriesDone m g (done_of qs ws) h

-- two ledgers that begin alike give the same replies, done actions and stop
abbrev pub SameLedgers : {X : Type 0} → Known X → Known X → Type 0
SameLedgers {X} J K = (L M N : Ledger X) (qs : List (Ask X)) (ws vs : List Word) → Runs J L qs ws M → Runs K L qs vs N → (ws ≡ vs) × (M ≡ N)

-- one run after another is a run
abbrev pub Compose : {X : Type 0} → Known X → Type 0
Compose {X} K = (L M N : Ledger X) (ps qs : List (Ask X)) (vs ws : List Word) → Runs K L ps vs M → Runs K M qs ws N → Runs K L (ps ++ qs) (vs ++ ws) N
