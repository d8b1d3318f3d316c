-- Facts of any ledger.
use Rattle.std.proofs.Common.{◌≡◌, ℕ, zero, suc, ◌+◌, Bool, true, false, List, [], ◌∷◌, ◌++◌, take, sym, refl, ap, ◌∙◌, subst, append_assoc, append-nil, arith}
use Rattle.std.proofs.lemmas.Bool.{both_ways}
use Rattle.action.specs.Traces.{tally}
use Rattle.watch.specs.Meaning.{Iff, Alike}
use Rattle.gate.specs.declared.ask.Ask.{Ask}
use Rattle.gate.specs.declared.ask.Ask.TheVariants.{Submit}
use Rattle.gate.specs.Words.{Word, answer, count_word}
use Rattle.gate.specs.Ledger.{Ledger, refuse, is_stopped, is_barred, is_passed, is_done, is_declined, Says, by_watch, by_host, Known, Replies, to_submit, to_query, to_count, done_one, done_of, stop_of, Runs, end, next}
use Rattle.gate.specs.Promise.{At, DecidedAt, BarsAndDoesExactly, Compose}

-- every split by the four answers goes by this
pub says_elim : {X : Type 0} {F C : List X → Type 0} {d : List X} {s : Bool} {x : X} {n : ℕ} {P : Type 0} → Says F C d s x n → (n ≡ 0 → s ≡ false → (F (d ++ (x ∷ [])) → ⊥) → C (d ++ (x ∷ [])) → P) → (n ≡ 20 → s ≡ true → P) → (n ≡ 21 → s ≡ false → F (d ++ (x ∷ [])) → P) → (n ≡ 22 → s ≡ false → (F (d ++ (x ∷ [])) → ⊥) → (C (d ++ (x ∷ [])) → ⊥) → P) → P
says_elim (by_watch (is_stopped e h)) on-done on-stopped on-barred on-declined = on-stopped (cc) h
says_elim (by_watch (is_barred e h f)) on-done on-stopped on-barred on-declined = on-barred (cc) h f
says_elim (by_watch (is_passed e h f)) on-done on-stopped on-barred on-declined = let z : ◌≡◌ {A = ℕ} 0 1 = cc in absurd (omega arith)
says_elim (by_host (is_stopped e h) t) on-done on-stopped on-barred on-declined = let z : ◌≡◌ {A = ℕ} 0 1 = cc in absurd (omega arith)
says_elim (by_host (is_barred e h f) t) on-done on-stopped on-barred on-declined = let z : ◌≡◌ {A = ℕ} 0 1 = cc in absurd (omega arith)
says_elim (by_host (is_passed e h f) (is_done z c)) on-done on-stopped on-barred on-declined = on-done z h f c
says_elim (by_host (is_passed e h f) (is_declined z c)) on-done on-stopped on-barred on-declined = on-declined z h f c

-- the same answer by meanings that hold alike where x comes next
pub says_on : {X : Type 0} {F C G D : List X → Type 0} {d e : List X} {s t : Bool} {x : X} {n : ℕ} → Iff (F (d ++ (x ∷ []))) (G (e ++ (x ∷ []))) → Iff (C (d ++ (x ∷ []))) (D (e ++ (x ∷ []))) → t ≡ s → Says F C d s x n → Says G D e t x n
says_on f c u says =
    says_elim says
    (λ z h not_f yes_c. by_host (is_passed refl (u ∙ h) (λ p. not_f (f.1 p))) (is_done z (c.0 yes_c)))
    (λ z h. by_watch (is_stopped (ap refuse z) (u ∙ h)))
    (λ z h yes_f. by_watch (is_barred (ap refuse z) (u ∙ h) (f.0 yes_f)))
    (λ z h not_f not-c. by_host (is_passed refl (u ∙ h) (λ p. not_f (f.1 p))) (is_declined z (λ p. not-c (c.1 p))))

decided_at : {X : Type 0} (F C : List X → Type 0) (d : List X) (s : Bool) (x : X) (n : ℕ) → Says F C d s x n → DecidedAt F C d s x n
decided_at F C d s x n says = record {
  barred = λ h. (
    λ e. says_elim says (λ z _ _ _. absurd (omega arith)) (λ z _. absurd (omega arith)) (λ _ _ f. f) (λ z _ _ _. absurd (omega arith)),
    λ f. says_elim says (λ _ _ not_f _. absurd (not_f f)) (λ _ t. absurd (both_ways s h t)) (λ z _ _. z) (λ _ _ not_f _. absurd (not_f f)),
  );
  done = λ h not_f. (
    λ e. says_elim says (λ _ _ _ c. c) (λ z _. absurd (omega arith)) (λ z _ _. absurd (omega arith)) (λ z _ _ _. absurd (omega arith)),
    λ c. says_elim says (λ z _ _ _. z) (λ _ t. absurd (both_ways s h t)) (λ _ _ f. absurd (not_f f)) (λ _ _ _ not-c. absurd (not-c c)),
  );
  stopped = λ h. says_elim says (λ _ t _ _. absurd (both_ways s t h)) (λ z _. z) (λ _ t _. absurd (both_ways s t h)) (λ _ t _ _. absurd (both_ways s t h));
}

module _ {X : Type 0} {K : Known X} where
  -- what is done is told by the asks and the replies
  pub runs_done : {L M : Ledger X} {qs : List (Ask X)} {ws : List Word} → Runs K L qs ws M → M.done ≡ L.done ++ done_of qs ws
  runs_done (end {L = L}) = sym (append-nil L.done)
  runs_done (next {L = L} {a = a} {w = w} {qs = qs} {ws = ws} r t) = runs_done t ∙ append_assoc L.done (done_one a w) (done_of qs ws)

  pub runs_stop : {L M : Ledger X} {qs : List (Ask X)} {ws : List Word} → Runs K L qs ws M → M.stopped ≡ stop_of L.stopped qs ws
  runs_stop end = refl
  runs_stop (next r t) = runs_stop t

  reply_says : {L : Ledger X} {a : Ask X} {w : Word} (x : X) (k : ℕ) → Replies K L a w → a ≡ Submit x → w ≡ answer k → Says K.forbids K.can L.done L.stopped x k
  reply_says {L = L} x k (to_submit {x = y} {m = j} s) e f =
      let same-x : y ≡ x = cc in
      let same-k : j ≡ k = cc in
      subst (λ u. Says K.forbids K.can L.done L.stopped u k) same-x (subst (λ u. Says K.forbids K.can L.done L.stopped y u) same-k s)
  reply_says x k (to_query s) e f = let z : ◌≡◌ {A = ℕ} 0 1 = cc in absurd (omega arith)
  reply_says x k (to_count s) e f = let z : ◌≡◌ {A = ℕ} 0 1 = cc in absurd (omega arith)

  runs_at : {L M : Ledger X} {qs : List (Ask X)} {ws : List Word} → Runs K L qs ws M → (i : ℕ) (x : X) (k : ℕ) → At i qs (Submit x) → At i ws (answer k) → Says K.forbids K.can (L.done ++ done_of (take i qs) (take i ws)) (stop_of L.stopped (take i qs) (take i ws)) x k
  runs_at end i x k p q = absurd p
  runs_at (next {L = L} r t) zero x k p q = rw (append-nil L.done) (reply_says x k r p q)
  runs_at (next {L = L} {a = a} {w = w} {qs = qs} {ws = ws} r t) (suc i) x k p q = rw (← append_assoc L.done (done_one a w) (done_of (take i qs) (take i ws))) (runs_at t i x k p q)

  -- a run decides each submitted action in the words of the promise
  pub runs_decide : {s : Bool} {M : Ledger X} {qs : List (Ask X)} {ws : List Word} → Runs K (record { done = []; stopped = s }) qs ws M → BarsAndDoesExactly K.forbids K.can s qs ws
  runs_decide all i x k p q = decided_at K.forbids K.can _ _ x k (runs_at all i x k p q)

  runs_join : {L M N : Ledger X} {ps qs : List (Ask X)} {vs ws : List Word} → Runs K L ps vs M → Runs K M qs ws N → Runs K L (ps ++ qs) (vs ++ ws) N
  runs_join end t = t
  runs_join (next r s) t = next r (runs_join s t)

  pub compose : Compose K
  compose L M N ps qs vs ws p q = runs_join p q

-- the same run by meanings that hold of the same lists, and equal counts
module _ {X : Type 0} {K : Known X} (G D : List X → Type 0) (o : ℕ → ℕ) (same-F : Alike K.forbids G) (same-C : Alike K.can D) (same-n : (k : ℕ) → K.counts k ≡ o k) where
  reply_alike : {L : Ledger X} {a : Ask X} {w : Word} → Replies K L a w → Replies (record { forbids = G; can = D; counts = o; kind = K.kind }) L a w
  reply_alike {L = L} (to_submit {x = x} s) = to_submit (says_on (same-F (L.done ++ (x ∷ []))) (same-C (L.done ++ (x ∷ []))) refl s)
  reply_alike {L = L} (to_query {x = x} s) = to_query (says_on (same-F (L.done ++ (x ∷ []))) (same-C (L.done ++ (x ∷ []))) refl s)
  reply_alike {L = L} (to_count {k = k} e) = to_count (e ∙ ap (λ c. count_word k (c + tally K.kind k L.done)) (same-n k))

  pub runs_alike : {L M : Ledger X} {qs : List (Ask X)} {ws : List Word} → Runs K L qs ws M → Runs (record { forbids = G; can = D; counts = o; kind = K.kind }) L qs ws M
  runs_alike end = end
  runs_alike (next r t) = next (reply_alike r) (runs_alike t)
