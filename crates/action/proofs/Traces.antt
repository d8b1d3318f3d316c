-- Sub-traces, front parts, and how many of a kind.
use Rattle.std.proofs.Common.{◌≡◌, ℕ, ◌+◌, ◌<◌, ◌≤◌, cond, eqb, List, [], ◌∷◌, ◌++◌, length, get_or, take, sym, ap, ◌∙◌, append_assoc, append-nil, add_assoc, zero-add, arith, take_all}
use Rattle.std.proofs.lemmas.List.{take_more}
use Rattle.std.proofs.lemmas.Bool.{cond_both}
use Rattle.action.specs.Traces.{Sub, none, keep, skip, tally}

pub sub_same : {X : Type 0} (l : List X) → Sub l l
sub_same [] = none
sub_same (x ∷ l) = keep (sub_same l)

pub sub_none : {X : Type 0} (l : List X) → Sub [] l
sub_none [] = none
sub_none (x ∷ l) = skip (sub_none l)

pub sub_trans : {X : Type 0} {a b c : List X} → Sub a b → Sub b c → Sub a c
sub_trans p none = p
sub_trans p (skip q) = skip (sub_trans p q)
sub_trans (skip p) (keep q) = skip (sub_trans p q)
sub_trans (keep p) (keep q) = keep (sub_trans p q)

pub sub_front : {X : Type 0} (a b : List X) → Sub a (a ++ b)
sub_front [] b = sub_none b
sub_front (x ∷ a) b = keep (sub_front a b)

pub sub_less : {X : Type 0} (a : List X) (x : X) (b : List X) → Sub (a ++ b) (a ++ (x ∷ b))
sub_less [] x b = skip (sub_same b)
sub_less (y ∷ a) x b = keep (sub_less a x b)

pub sub_length : {X : Type 0} {s l : List X} → Sub s l → length s ≤ length l
sub_length none = omega arith
sub_length (keep p) = let h = sub_length p in omega arith
sub_length (skip p) = let h = sub_length p in omega arith

-- what is left out is not counted
pub sub_tally : {X : Type 0} (kind : X → ℕ) (k : ℕ) {s l : List X} → Sub s l → tally kind k s ≤ tally kind k l
sub_tally kind k none = omega arith
sub_tally kind k (keep p) = let h = sub_tally kind k p in omega arith
sub_tally kind k (skip p) = let h = sub_tally kind k p in omega arith

-- a front part, one longer, whatever follows
pub one_longer : {X : Type 0} (xs : List X) (i : ℕ) (x : X) (rest : List X) → i < length xs → take i xs ++ (get_or xs i x ∷ rest) ≡ take (i + 1) xs ++ rest
one_longer {X = X} xs i x rest h = sym (ap (λ (l : List X). l ++ rest) (take_more xs i x h) ∙ append_assoc (take i xs) (get_or xs i x ∷ []) rest)

-- the whole list
pub all_taken : {X : Type 0} (xs : List X) (i : ℕ) → length xs ≤ i → take i xs ++ [] ≡ xs
all_taken xs i h = append-nil (take i xs) ∙ take_all i xs h

pub tally-++ : {X : Type 0} (kind : X → ℕ) (k : ℕ) (a b : List X) → tally kind k (a ++ b) ≡ tally kind k a + tally kind k b
tally-++ kind k [] b = sym (zero-add (tally kind k b))
tally-++ kind k (x ∷ a) b = ap (λ m. cond (eqb k (kind x)) 1 0 + m) (tally-++ kind k a b) ∙ sym (add_assoc (cond (eqb k (kind x)) 1 0) (tally kind k a) (tally kind k b))

one_at_most : (k m : ℕ) → cond (eqb k m) 1 0 ≤ 1
one_at_most k m = cond_both (eqb k m) 1 0 (λ n. n ≤ 1) (λ _. omega arith) (λ _. omega arith)

pub tally-le-length : {X : Type 0} (kind : X → ℕ) (k : ℕ) (l : List X) → tally kind k l ≤ length l
tally-le-length kind k [] = omega arith
tally-le-length kind k (x ∷ l) = let h = tally-le-length kind k l in let o = one_at_most k (kind x) in omega arith

-- one place further on, where x stands
pub tally_more : {X : Type 0} (kind : X → ℕ) (k : ℕ) (l : List X) (i : ℕ) (x : X) → i < length l → x ≡ get_or l i x → tally kind k (take (i + 1) l) ≡ tally kind k (take i l) + tally kind k (x ∷ [])
tally_more kind k l i x within read = ap (tally kind k) (take_more l i x within ∙ ap (λ y. take i l ++ (y ∷ [])) (sym read)) ∙ tally-++ kind k (take i l) (x ∷ [])
