-- Two ledgers that mean the same reply the same.
use Rattle.std.proofs.Common.{◌≡◌, ℕ, ◌+◌, Bool, List, [], ◌∷◌, ◌++◌, sym, refl, ap, ◌∙◌}
use Rattle.std.proofs.lemmas.Bool.{both_ways}
use Rattle.action.specs.Traces.{tally}
use Rattle.watch.specs.Meaning.{Alike}
use Rattle.gate.specs.declared.ask.Ask.{Ask}
use Rattle.gate.specs.Words.{Word, answer, count_word}
use Rattle.gate.specs.Ledger.{Ledger, Says, Known, Replies, to_submit, to_query, to_count, after, Runs, end, next}
use Rattle.gate.specs.Promise.{SameLedgers}
use Rattle.gate.proofs.Ledgers.{says_elim}

cons_eq : {Y : Type 0} {a b : Y} {l m : List Y} → a ≡ b → l ≡ m → (a ∷ l) ≡ (b ∷ m)
cons_eq e f = cc

module _ {X : Type 0} (J K : Known X) (same-F : Alike J.forbids K.forbids) (same-C : Alike J.can K.can) (same-n : (k : ℕ) → J.counts k ≡ K.counts k) (same-kind : J.kind ≡ K.kind) where
  one_answer : (d : List X) (s : Bool) (x : X) (j k : ℕ) → Says J.forbids J.can d s x j → Says K.forbids K.can d s x k → j ≡ k
  one_answer d s x j k p q =
      let z = d ++ (x ∷ []) in
      says_elim p
      (λ e h f c. says_elim q (λ e' _ _ _. e ∙ sym e') (λ _ t. absurd (both_ways s h t)) (λ _ _ f'. absurd (f ((same-F z).1 f'))) (λ _ _ _ c'. absurd (c' ((same-C z).0 c))))
      (λ e t. says_elim q (λ _ h _ _. absurd (both_ways s h t)) (λ e' _. e ∙ sym e') (λ _ h _. absurd (both_ways s h t)) (λ _ h _ _. absurd (both_ways s h t)))
      (λ e h f. says_elim q (λ _ _ f' _. absurd (f' ((same-F z).0 f))) (λ _ t. absurd (both_ways s h t)) (λ e' _ _. e ∙ sym e') (λ _ _ f' _. absurd (f' ((same-F z).0 f))))
      (λ e h f c. says_elim q (λ _ _ _ c'. absurd (c ((same-C z).1 c'))) (λ _ t. absurd (both_ways s h t)) (λ _ _ f'. absurd (f ((same-F z).1 f'))) (λ e' _ _ _. e ∙ sym e'))

  one_reply : {L : Ledger X} {a : Ask X} {w v : Word} → Replies J L a w → Replies K L a v → w ≡ v
  one_reply {L = L} (to_submit {x = x} {m = j} s) (to_submit {m = k} t) = ap answer (one_answer L.done L.stopped x j k s t)
  one_reply {L = L} (to_query {x = x} {m = j} s) (to_query {m = k} t) = ap answer (one_answer L.done L.stopped x j k s t)
  one_reply {L = L} (to_count {k = k} s) (to_count t) = s ∙ ap (λ c. count_word k (c + tally J.kind k L.done)) (same-n k) ∙ ap (λ (f : X → ℕ). count_word k (K.counts k + tally f k L.done)) same-kind ∙ sym t

  start_at : {L M N : Ledger X} {qs : List (Ask X)} {ws : List Word} → L ≡ M → Runs K M qs ws N → Runs K L qs ws N
  start_at e p = rw e p

  one_runs : {L M N : Ledger X} {qs : List (Ask X)} {ws vs : List Word} → Runs J L qs ws M → Runs K L qs vs N → (ws ≡ vs) × (M ≡ N)
  one_runs end end = (refl, refl)
  one_runs (next {L = L} {a = a} r p) (next t q) =
      let e = one_reply r t in
      let rest = one_runs p (start_at (ap (after L a) e) q) in
      (cons_eq e rest.0, rest.1)

  pub same_ledgers : SameLedgers J K
  same_ledgers L M N qs ws vs p q = one_runs p q
