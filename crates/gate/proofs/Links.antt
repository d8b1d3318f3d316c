-- Chains of asks: one more, one after another, and single calls among them.
use Rattle.std.proofs.Common.{◌≡◌, ℕ, ◌+◌, ◌<◌, Bool, true, false, cond, leb, List, [], ◌∷◌, ◌++◌, map, length, get_or, take, drop, set, Ok, Err, sym, refl, ap, ◌∙◌, arith}
use Rattle.std.proofs.lemmas.List.{take_more, drop-set-lt, drop-drop, map-append}
use Rattle.fault.specs.declared.fault.Fault.TheVariants.{OutOfRange}
use Rattle.action.specs.Ranges.{highest_kind}
use Rattle.host.specs.Hosting.{Hosting, Performs, Attempts, performs, declines, count_of}
use Rattle.gate.specs.declared.ask.Ask.{Ask}
use Rattle.gate.specs.declared.gate.Gate.{Gate}
use Rattle.gate.specs.Words.{Word, count, refusal, told, count_word}
use Rattle.gate.specs.Chains.{Guarding, Asked, Chain, end, next, Mix, none, single, run}

-- what a host's answer tells
pub performed : {H X : Type 0} {m : Hosting H X} {g h : H} {x : X} → Attempts m g x 0 h → m.can g (x ∷ []) × Performs m g x h
performed (performs e can did) = (can, did)
performed (declines e cannot same) = absurd (omega arith)

pub declined : {H X : Type 0} {m : Hosting H X} {g h : H} {x : X} → Attempts m g x 22 h → (m.can g (x ∷ []) → ⊥) × (h ≡ g)
declined (performs e can did) = absurd (omega arith)
declined (declines e cannot same) = (cannot, same)

-- a host's count in numbers
told_cond : (b : Bool) (m : ℕ) → told (cond b (Ok m) (Err OutOfRange)) ≡ cond b (count m) (refusal 13 0)
told_cond true m = refl
told_cond false m = refl

pub told_count : (k m : ℕ) → told (count_of k m) ≡ count_word k m
told_count k m = told_cond (leb k highest_kind) m

module _ {W H X : Type 0} {m : Guarding W H X} where
  chain_then : {g h i : Gate W H} {qs : List (Ask X)} {ws : List Word} {a : Ask X} {w : Word} → Chain m g qs ws h → Asked m h a w i → Chain m g (qs ++ (a ∷ [])) (ws ++ (w ∷ [])) i
  chain_then end c = next c end
  chain_then (next b cs) c = next b (chain_then cs c)

  -- one place further in the asks and the replies
  pub chain_more : {R : Type 0} {g h i : Gate W H} (says : R → Word) (xs : List (Ask X)) (at : ℕ) (a : Ask X) (rs : List R) (r : R) → at < length xs → a ≡ get_or xs at a → Chain m g (take at xs) (map says rs) h → Asked m h a (says r) i → Chain m g (take (at + 1) xs) (map says (rs ++ (r ∷ []))) i
  chain_more says xs at a rs r within read cs c =
      let pushed : take (at + 1) xs ≡ take at xs ++ (a ∷ []) = take_more xs at a within ∙ ap (λ y. take at xs ++ (y ∷ [])) (sym read) in
      rw (pushed, map-append says rs (r ∷ [])) (chain_then cs c)

  chain_join : {g h i : Gate W H} {ps qs : List (Ask X)} {vs ws : List Word} → Chain m g ps vs h → Chain m h qs ws i → Chain m g (ps ++ qs) (vs ++ ws) i
  chain_join end t = t
  chain_join (next c s) t = next c (chain_join s t)

  -- single calls and runs, in any mix, are one chain
  pub mix_chain : {g h : Gate W H} {qs : List (Ask X)} {ws : List Word} → Mix m g qs ws h → Chain m g qs ws h
  mix_chain none = end
  mix_chain (single c t) = next c (mix_chain t)
  mix_chain (run s t) = chain_join s (mix_chain t)

-- what lies past a place stays the same, where it was the same from that place on
pub later_more : {Y : Type 0} (i : ℕ) (xs ys : List Y) (y : Y) → drop i xs ≡ drop i ys → drop (i + 1) (set xs i y) ≡ drop (i + 1) ys
later_more i xs ys y e =
    let past : i < i + 1 = omega arith in
    drop-set-lt (i + 1) xs i y past ∙ sym (drop-drop 1 i xs) ∙ ap (drop 1) e ∙ drop-drop 1 i ys
