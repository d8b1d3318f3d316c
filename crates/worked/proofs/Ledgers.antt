-- Where it is worked out what is forbidden, so are the answers of a ledger over a new board.
use Rattle.std.proofs.Common.{◌≡◌, ℕ, ◌+◌, ◌≤◌, Bool, true, false, cond, T, eqb, ◌↔◌, List, [], ◌∷◌, ◌++◌, map, length, refl, arith, length-append}
use Rattle.std.proofs.lemmas.List.{get_or-replicate}
use Rattle.action.proofs.Traces.{tally-le-length}
use Rattle.host.specs.Boards.{counted, Within}
use Rattle.gate.specs.declared.ask.Ask.TheVariants.{Submit}
use Rattle.gate.specs.Words.{answer}
use Rattle.gate.specs.Ledger.{Ledger, is_stopped, is_barred, is_passed, is_done, Says, by_watch, by_host, to_submit, after, Runs, end, next, submits}
use Rattle.worked.specs.Cases.{no_counts}

-- the answer where one was barred before, or this is forbidden, or neither
abbrev number_where : Bool → Bool → ℕ
number_where true f = 20
number_where false true = 21
number_where false false = 0

abbrev next_number : {X : Type 0} → (List X → Bool) → Ledger X → X → ℕ
next_number f L x = number_where L.stopped (f (L.done ++ (x ∷ [])))

abbrev pub numbers : {X : Type 0} → (List X → Bool) → Ledger X → List X → List ℕ
numbers f L [] = []
numbers f L (x ∷ xs) = next_number f L x ∷ numbers f (after L (Submit x) (answer (next_number f L x))) xs

-- a new board can do any list of at most 999
few : {X : Type 0} (kind : X → ℕ) (l : List X) → length l ≤ 999 → Within kind no_counts l
few kind l h k i =
    let z : counted no_counts k ≡ 0 = get_or-replicate 32 k 0 0 (omega arith) in
    let t = tally-le-length kind k l in
    omega arith

module _ {X : Type 0} (F : List X → Type 0) (kind : X → ℕ) (f : List X → Bool) (right : (l : List X) → T (f l) ↔ F l) where
  says_where : (d : List X) (s : Bool) (x : X) (b : Bool) → T b ↔ F (d ++ (x ∷ [])) → Within kind no_counts (d ++ (x ∷ [])) → Says F (Within kind no_counts) d s x (number_where s b)
  says_where d true x b is can = by_watch (is_stopped refl refl)
  says_where d false x true is can = by_watch (is_barred refl refl (is.0 tt))
  says_where d false x false is can = by_host (is_passed refl refl is.1) (is_done refl can)

  done_most : (x : X) (b : Bool) → length (cond b (x ∷ []) []) ≤ 1
  done_most x true = omega arith
  done_most x false = omega arith

  pub runs : (L : Ledger X) (xs : List X) → length L.done + length xs ≤ 999 → (M : Ledger X) × Runs (record { forbids = F; can = Within kind no_counts; counts = counted no_counts; kind = kind }) L (submits xs) (map answer (numbers f L xs)) M
  runs L [] h = (L, end)
  runs L (x ∷ xs) h =
      let n = next_number f L x in
      let can = few kind (L.done ++ (x ∷ [])) (simp length-append (omega arith)) in
      let a = done_most x (eqb n 0) in
      let (M, rest) = runs (after L (Submit x) (answer n)) xs (simp length-append (omega arith)) in
      (M, next (to_submit (says_where L.done L.stopped x (f (L.done ++ (x ∷ []))) (right _) can)) rest)
