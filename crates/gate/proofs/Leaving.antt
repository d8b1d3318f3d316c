-- By the leaving-out law, what is left of the done actions never stops a gate.
use Rattle.std.proofs.Common.{◌≡◌, ℕ, Bool, true, false, cond, T, eqb, List, [], ◌∷◌, ◌++◌, sym, refl, subst, append_assoc, append-nil}
use Rattle.action.specs.Traces.{Sub}
use Rattle.action.proofs.Traces.{sub_trans, sub_front, sub_less}
use Rattle.watch.specs.Meaning.{Alike, LeavesOut}
use Rattle.gate.specs.declared.ask.Ask.{Ask}
use Rattle.gate.specs.declared.ask.Ask.TheVariants.{Submit}
use Rattle.gate.specs.declared.gate.Gate.{Gate}
use Rattle.gate.specs.Words.{Word}
use Rattle.gate.specs.Ledger.{Ledger, Says, Known, Replies, to_submit, to_query, to_count, after, opening, Runs, end, next, submits, done_of}
use Rattle.gate.specs.Chains.{Guarding, known, Chain}
use Rattle.gate.specs.Promise.{NeverStops, RestNeverStops}
use Rattle.gate.proofs.Ledgers.{says_elim}
use Rattle.gate.proofs.Following.{chain_keeps}

-- no part of d is forbidden, but perhaps the empty one
abbrev Clear : {X : Type 0} → (List X → Type 0) → List X → Type 0
Clear {X} F d = (s : List X) (y : X) → Sub (s ++ (y ∷ [])) d → F (s ++ (y ∷ [])) → ⊥

clear_none : {X : Type 0} (F : List X → Type 0) → Clear F []
clear_none F [] y p = elim p [ ]
clear_none F (x ∷ s) y p = elim p [ ]

clear_alike : {X : Type 0} (F G : List X → Type 0) (d : List X) → Alike G F → Clear F d → Clear G d
clear_alike F G d same q s y p f = q s y p ((same (s ++ (y ∷ []))).0 f)

-- what a ledger has done is clear
module _ {X : Type 0} (K : Known X) (leaves : LeavesOut K.forbids) where
  abbrev F : List X → Type 0
  F = K.forbids

  clear_nil : (d : List X) → Clear F d → Clear F (d ++ [])
  clear_nil d q = subst (λ e. Clear F e) (sym (append-nil d)) q

  clear_submit : (d : List X) (s : Bool) (x : X) (k : ℕ) → Says F K.can d s x k → Clear F d → Clear F (d ++ cond (eqb k 0) (x ∷ []) [])
  clear_submit d s x k says q =
      says_elim says
      (λ z _ not_f _. rw z (λ t y p f. not_f (leaves _ _ p f)))
      (λ z _. rw z (clear_nil d q))
      (λ z _ _. rw z (clear_nil d q))
      (λ z _ _ _. rw z (clear_nil d q))

  clear_reply : (L : Ledger X) {a : Ask X} {w : Word} → Clear F L.done → Replies K L a w → Clear F (after L a w).done
  clear_reply L q (to_submit {x = x} {m = k} s) = clear_submit L.done L.stopped x k s q
  clear_reply L q (to_query s) = clear_nil L.done q
  clear_reply L q (to_count e) = clear_nil L.done q

  clear_runs : {L M : Ledger X} {qs : List (Ask X)} {ws : List Word} → Clear F L.done → Runs K L qs ws M → Clear F M.done
  clear_runs q end = q
  clear_runs q (next {L = L} r t) = clear_runs (clear_reply L q r) t

-- a part of what is clear, submitted
module _ {X : Type 0} (K : Known X) (d : List X) (clear : Clear K.forbids d) where
  -- e is done, s says whether one was barred, and rest is still to come
  abbrev Sound : List X → Bool → List X → Type 0
  Sound e s rest = (s ≡ false) × Sub (e ++ rest) d

  sound_less : (e : List X) (s : Bool) (x : X) (rest : List X) → Sound e s (x ∷ rest) → Sound (e ++ []) s rest
  sound_less e s x rest t = (t.0, rw append-nil (sub_trans (sub_less e x rest) t.1))

  sound_submit : (e : List X) (s : Bool) (x : X) (rest : List X) (k : ℕ) → Says K.forbids K.can e s x k → Sound e s (x ∷ rest) → Sound (e ++ cond (eqb k 0) (x ∷ []) []) (cond (eqb k 21) true s) rest
  sound_submit e s x rest k says t =
      says_elim says
      (λ z _ _ _. rw z (t.0, rw append_assoc t.1))
      (λ z _. rw z (sound_less e s x rest t))
      (λ _ _ f. absurd (clear e x (sub_trans (sub_front (e ++ (x ∷ [])) rest) (rw append_assoc t.1)) f))
      (λ z _ _ _. rw z (sound_less e s x rest t))

  sound_reply : (L : Ledger X) (x : X) {w : Word} (rest : List X) → Sound L.done L.stopped (x ∷ rest) → Replies K L (Submit x) w → Sound (after L (Submit x) w).done (after L (Submit x) w).stopped rest
  sound_reply L x rest t (to_submit {m = k} s) = sound_submit L.done L.stopped x rest k s t

  sound_runs : (rest : List X) {L M : Ledger X} {ws : List Word} → Sound L.done L.stopped rest → Runs K L (submits rest) ws M → M.stopped ≡ false
  sound_runs [] t end = t.0
  sound_runs (x ∷ rest) t (next {L = L} r u) = sound_runs rest (sound_reply L x rest t r) u

  never_stops : NeverStops K d
  never_stops rest ws M sub t = sound_runs rest (refl, sub) t

-- of any ledger run, by the law
pub rest_never_stops : {X : Type 0} (K : Known X) → LeavesOut K.forbids → {s : Bool} {M : Ledger X} {qs : List (Ask X)} {ws : List Word} → Runs K (opening s) qs ws M → RestNeverStops K.forbids K.kind M.done
rest_never_stops K leaves {M = M} all =
    let clear = clear_runs K leaves (clear_none K.forbids) all in
    record {
      same = λ can o. never_stops (record { forbids = K.forbids; can = λ l. T (can l); counts = o; kind = K.kind }) M.done clear;
      alike = λ G is can o. never_stops (record { forbids = λ l. T (G l); can = λ l. T (can l); counts = o; kind = K.kind }) M.done (clear_alike K.forbids (λ l. T (G l)) M.done is clear);
    }

-- of two gates
pub gates_never_stop : {W H V K X : Type 0} (m : Guarding W H X) (o : Guarding V K X) (g : Gate W H) → LeavesOut (m.forbids g.watch) → {h : Gate W H} {qs : List (Ask X)} {ws : List Word} → Chain m g qs ws h → (p : Gate V K) → Alike (o.forbids p.watch) (m.forbids g.watch) → p.stopped ≡ false → (rest : List X) → Sub rest (done_of qs ws) → {vs : List Word} {q : Gate V K} → Chain o p (submits rest) vs q → q.stopped ≡ false
gates_never_stop m o g leaves all p is fresh rest sub {vs = vs} {q = q} again =
    let clear = clear_runs (known m g.watch g.host) leaves (clear_none (m.forbids g.watch)) (chain_keeps m g all).ledger in
    never_stops (known o p.watch p.host) _ (clear_alike (m.forbids g.watch) (o.forbids p.watch) _ is clear) rest vs _ sub
    (subst (λ b. Runs (known o p.watch p.host) (opening b) (submits rest) vs (record { done = done_of (submits rest) vs; stopped = q.stopped })) fresh (chain_keeps o p again).ledger)
