-- A chain of asks at a gate follows the ledger.
use Rattle.std.proofs.Common.{◌≡◌, ℕ, Bool, true, cond, eqb, List, [], ◌∷◌, ◌++◌, Some, None, Option, sym, refl, ap, ◌∙◌, subst, append_assoc, append-nil, arith}
use Rattle.action.proofs.Traces.{tally-++}
use Rattle.watch.specs.Meaning.{Shifted}
use Rattle.host.specs.Hosting.{Performs, followed}
use Rattle.gate.specs.declared.ask.Ask.{Ask}
use Rattle.gate.specs.declared.gate.Gate.{Gate}
use Rattle.gate.specs.Words.{Word, count_word}
use Rattle.gate.specs.Ledger.{Ledger, Says, Replies, to_submit, to_query, to_count, done_of, after, opening, Runs, end, next}
use Rattle.gate.specs.Chains.{Guarding, known, Submitted, Asked, submit, query, count, Chain, end as chain_end, next as ChainNext}
use Rattle.gate.specs.Promise.{RepliesAsLedger, Steps, none, more, Carried, Kept}
use Rattle.gate.proofs.Ledgers.{says_elim, says_on, runs_done, runs_decide}

followed_more : {X : Type 0} (o : Option (List X)) (d e : List X) → followed (followed o d) e ≡ followed o (d ++ e)
followed_more None d e = refl
followed_more (Some l) d e = ap Some (append_assoc l d e)

followed_none : {X : Type 0} (o : Option (List X)) → o ≡ followed o []
followed_none None = refl
followed_none (Some l) = ap Some (sym (append-nil l))

steps_then : {H X : Type 0} {did : H → X → H → Type 0} {g h i : H} {l : List X} {x : X} → Steps did g l h → did h x i → Steps did g (l ++ (x ∷ [])) i
steps_then none s = more s none
steps_then (more t p) s = more t (steps_then p s)

module _ {W H X : Type 0} (m : Guarding W H X) (v : Gate W H) where
  -- the gate h is what v is once d is done
  record Follows (d : List X) (h : Gate W H) : Type 0 where
    pub forbids_on : (l : List X) → m.forbids h.watch l → m.forbids v.watch (d ++ l)
    pub forbids_back : (l : List X) → m.forbids v.watch (d ++ l) → m.forbids h.watch l
    pub can_on : (l : List X) → m.host.can h.host l → m.host.can v.host (d ++ l)
    pub can_back : (l : List X) → m.host.can v.host (d ++ l) → m.host.can h.host l
    pub carried : Carried m.host v.host d h.host

  begins : Follows [] v
  begins = record {
    forbids_on = λ l p. p;
    forbids_back = λ l p. p;
    can_on = λ l p. p;
    can_back = λ l p. p;
    carried = record { counted = λ k. omega arith; kept = followed_none (m.host.recorded v.host); steps = none };
  }

  -- an action more is done
  grows : (d : List X) (g h : Gate W H) (x : X) → Follows d g → Shifted (m.forbids g.watch) x (m.forbids h.watch) → Performs m.host g.host x h.host → Follows (d ++ (x ∷ [])) h
  grows d g h x f s p = record {
    forbids_on = λ l q. rw append_assoc (f.forbids_on (x ∷ l) (s.on l q));
    forbids_back = λ l q. s.back l (f.forbids_back (x ∷ l) (rw append_assoc at q));
    can_on = λ l q. rw append_assoc (f.can_on (x ∷ l) (p.can_on l q));
    can_back = λ l q. p.can_back l (f.can_back (x ∷ l) (rw append_assoc at q));
    carried = record {
      counted = λ k. p.counted k ∙ omega (arith, f.carried.counted k, tally-++ m.host.kind k d (x ∷ []));
      kept = p.kept ∙ ap (λ o. followed o (x ∷ [])) f.carried.kept ∙ followed_more (m.host.recorded v.host) d (x ∷ []);
      steps = steps_then f.carried.steps p.stepped;
    };
  }

  -- nothing more is
  stays : (d : List X) (g h : Gate W H) → Follows d g → h.watch ≡ g.watch → h.host ≡ g.host → Follows (d ++ []) h
  stays d g h f same-watch same-host =
      let at-nil : Follows (d ++ []) g = subst (λ e. Follows e g) (sym (append-nil d)) f in
      record {
        forbids_on = λ l q. at-nil.forbids_on l (subst (λ w. m.forbids w l) same-watch q);
        forbids_back = λ l q. subst (λ w. m.forbids w l) (sym same-watch) (at-nil.forbids_back l q);
        can_on = λ l q. at-nil.can_on l (subst (λ t. m.host.can t l) same-host q);
        can_back = λ l q. subst (λ t. m.host.can t l) (sym same-host) (at-nil.can_back l q);
        carried = subst (λ t. Carried m.host v.host (d ++ []) t) (sym same-host) at-nil.carried;
      }

  on_submit : (d : List X) (g h : Gate W H) (x : X) (n : ℕ) → Follows d g → Submitted m g x n h → Follows (d ++ cond (eqb n 0) (x ∷ []) []) h
  on_submit d g h x n f s =
      says_elim s.says
      (λ z _ _ _. rw z (grows d g h x f (s.watch_on z) (s.host_on z)))
      (λ z _. rw z (stays d g h f (s.watch_same (omega arith)) (s.host_same (omega arith))))
      (λ z _ _. rw z (stays d g h f (s.watch_same (omega arith)) (s.host_same (omega arith))))
      (λ z _ _ _. rw z (stays d g h f (s.watch_same (omega arith)) (s.host_same (omega arith))))

  says_so : (d : List X) (s : Bool) (g : Gate W H) (x : X) (n : ℕ) → Follows d g → g.stopped ≡ s → Says (m.forbids g.watch) (m.host.can g.host) [] g.stopped x n → Says (m.forbids v.watch) (m.host.can v.host) d s x n
  says_so d s g x n f e = says_on (f.forbids_on (x ∷ []), f.forbids_back (x ∷ [])) (f.can_on (x ∷ []), f.can_back (x ∷ [])) (sym e)

  abbrev Going : Ledger X → Gate W H → Type 0
  Going L h = Follows L.done h × (h.stopped ≡ L.stopped)

  follow_one : (L : Ledger X) {g h : Gate W H} {a : Ask X} {w : Word} → Going L g → Asked m g a w h → Replies (known m v.watch v.host) L a w × Going (after L a w) h
  follow_one L f (submit {g = g} {h = h} {x = x} {n = n} s) = (to_submit (says_so L.done L.stopped g x n f.0 f.1 s.says), (on_submit L.done g h x n f.0 s, s.stop ∙ ap (λ b. cond (eqb n 21) true b) f.1))
  follow_one L f (query {g = g} {x = x} {n = n} s) = (to_query (says_so L.done L.stopped g x n f.0 f.1 s), (stays L.done g g f.0 refl refl, f.1))
  follow_one L f (count {g = g} {k = k} e) = (to_count (e ∙ ap (count_word k) (f.0.carried.counted k)), (stays L.done g g f.0 refl refl, f.1))

  follow_all : (L : Ledger X) {g h : Gate W H} {qs : List (Ask X)} {ws : List Word} → Going L g → Chain m g qs ws h → (M : Ledger X) × Runs (known m v.watch v.host) L qs ws M × Going M h
  follow_all L f chain_end = (L, end, f)
  follow_all L f (ChainNext {a = a} {w = w} c cs) =
      let one = follow_one L f c in
      let rest = follow_all (after L a w) one.1 cs in
      (rest.0, next one.0 rest.1, rest.2)

  -- a chain from v keeps the promise
  pub chain_keeps : {h : Gate W H} {qs : List (Ask X)} {ws : List Word} → Chain m v qs ws h → Kept m v qs ws h
  chain_keeps {h = h} {qs = qs} {ws = ws} cs =
      let all = follow_all (opening v.stopped) (begins, refl) cs in
      let done-is = runs_done all.1 in
      let as-ledger : RepliesAsLedger m v qs ws h =
      subst (λ b. Runs (known m v.watch v.host) (opening v.stopped) qs ws (record { done = done_of qs ws; stopped = b })) (sym all.2.1)
      (subst (λ d. Runs (known m v.watch v.host) (opening v.stopped) qs ws (record { done = d; stopped = all.0.stopped })) done-is all.1) in
      record {
        ledger = as-ledger;
        decided = runs_decide as-ledger;
        carried = subst (λ d. Carried m.host v.host d h.host) done-is all.2.0.carried;
      }
