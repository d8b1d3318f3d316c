-- The ledger: it knows what the watch forbids, what the host can do and the counts, all as the gate was opened,
-- and after that only what is asked. It keeps the done actions in order, and whether it is stopped.
use Rattle.std.specs.Prelude.{◌≡◌, ℕ, ◌+◌, Bool, true, false, cond, List, [], ◌∷◌, ◌++◌, ◌==◌}
use Rattle.action.specs.Traces.{tally}
use Rattle.gate.specs.declared.ask.Ask.{Ask}
use Rattle.gate.specs.declared.ask.Ask.TheVariants.{Submit, Query, Count}
use Rattle.gate.specs.Words.{Word, answer, count, refusal, count_word}

pub record Ledger (X : Type 0) : Type 0 where
  pub done : List X
  pub stopped : Bool

-- a ledger of a gate that is stopped or not: nothing is done
abbrev pub opening : {X : Type 0} → Bool → Ledger X
opening s = record { done = []; stopped = s }

-- what the watch decides: a number is answered, or the host decides
pub data Verdict : Type 0 where
  refuse : ℕ → Verdict
  pass : Verdict

-- what the watch decides of x, where the lists of F are forbidden, d is done and s says whether one was barred
pub data WatchSays {X : Type 0} (F : List X → Type 0) (d : List X) (s : Bool) (x : X) (v : Verdict) : Type 0 where
  is_stopped : v ≡ refuse 20 → s ≡ true → WatchSays F d s x v
  is_barred : v ≡ refuse 21 → s ≡ false → F (d ++ (x ∷ [])) → WatchSays F d s x v
  is_passed : v ≡ pass → s ≡ false → (F (d ++ (x ∷ [])) → ⊥) → WatchSays F d s x v

-- what the host decides of x, where it can do the lists of C and d is done
pub data HostSays {X : Type 0} (C : List X → Type 0) (d : List X) (x : X) (n : ℕ) : Type 0 where
  is_done : n ≡ 0 → C (d ++ (x ∷ [])) → HostSays C d x n
  is_declined : n ≡ 22 → (C (d ++ (x ∷ [])) → ⊥) → HostSays C d x n

-- the answer to x is n
pub data Says {X : Type 0} (F C : List X → Type 0) (d : List X) (s : Bool) (x : X) (n : ℕ) : Type 0 where
  by_watch : WatchSays F d s x (refuse n) → Says F C d s x n
  by_host : WatchSays F d s x pass → HostSays C d x n → Says F C d s x n

-- what a ledger knows: the lists that are forbidden, the lists that can be done and the counts, as the gate was opened,
-- and the kind of an action
pub record Known (X : Type 0) : Type 1 where
  pub forbids : List X → Type 0
  pub can : List X → Type 0
  pub counts : ℕ → ℕ
  pub kind : X → ℕ

-- the reply to an ask
pub data Replies {X : Type 0} (K : Known X) (L : Ledger X) : Ask X → Word → Type 0 where
  to_submit : {x : X} {m : ℕ} → Says K.forbids K.can L.done L.stopped x m → Replies K L (Submit x) (answer m)
  to_query : {x : X} {m : ℕ} → Says K.forbids K.can L.done L.stopped x m → Replies K L (Query x) (answer m)
  to_count : {k : ℕ} {w : Word} → w ≡ count_word k (K.counts k + tally K.kind k L.done) → Replies K L (Count k) w

-- what one ask and its reply have done: a submitted action that is answered 0
abbrev pub done_one : {X : Type 0} → Ask X → Word → List X
done_one (Submit x) (answer n) = cond (n == 0) (x ∷ []) []
done_one (Submit x) (count m) = []
done_one (Submit x) (refusal n p) = []
done_one (Query x) w = []
done_one (Count k) w = []

-- whether it is stopped after one: a submitted action was answered 21, or it was stopped before
abbrev pub stop_one : {X : Type 0} → Bool → Ask X → Word → Bool
stop_one s (Submit x) (answer n) = cond (n == 21) true s
stop_one s (Submit x) (count m) = s
stop_one s (Submit x) (refusal n p) = s
stop_one s (Query x) w = s
stop_one s (Count k) w = s

-- the same of all asks and their replies
abbrev pub done_of : {X : Type 0} → List (Ask X) → List Word → List X
done_of [] ws = []
done_of (a ∷ qs) [] = []
done_of (a ∷ qs) (w ∷ ws) = done_one a w ++ done_of qs ws

abbrev pub stop_of : {X : Type 0} → Bool → List (Ask X) → List Word → Bool
stop_of s [] ws = s
stop_of s (a ∷ qs) [] = s
stop_of s (a ∷ qs) (w ∷ ws) = stop_of (stop_one s a w) qs ws

abbrev pub after : {X : Type 0} → Ledger X → Ask X → Word → Ledger X
after L a w = record { done = L.done ++ done_one a w; stopped = stop_one L.stopped a w }

-- any list of asks, from one ledger to another
pub data Runs {X : Type 0} (K : Known X) : Ledger X → List (Ask X) → List Word → Ledger X → Type 0 where
  end : {L : Ledger X} → Runs K L [] [] L
  next : {L M : Ledger X} {a : Ask X} {w : Word} {qs : List (Ask X)} {ws : List Word} → Replies K L a w → Runs K (after L a w) qs ws M → Runs K L (a ∷ qs) (w ∷ ws) M

abbrev pub submits : {X : Type 0} → List X → List (Ask X)
submits [] = []
submits (x ∷ l) = Submit x ∷ submits l
