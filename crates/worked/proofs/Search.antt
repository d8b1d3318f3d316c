-- Whether a diagram forbids a list, worked out from what may come next.
use Rattle.std.proofs.Common.{◌≡◌, ℕ, zero, suc, ◌<◌, ◌≤◌, Bool, true, false, ◌&&◌, ◌||◌, T, ◌↔◌, List, [], ◌∷◌, length, subst, inl, inr, arith}
use native.Mathlib.Decide.{dec_lt}
use Rattle.std.proofs.lemmas.List.{get_or_past}
use Rattle.action.specs.declared.deed.Deed.{Deed}
use Rattle.action.specs.Traces.{Sub, none, keep, skip}
use Rattle.sheet.specs.declared.diagram.Fragment.{Fragment}
use Rattle.sheet.specs.declared.diagram.Fragment.TheVariants.{Skip}
use Rattle.sheet.specs.declared.diagram.Variables.{Variables}
use Rattle.sheet.specs.declared.diagram.Diagram.{Diagram}
use Rattle.sheet.specs.Empties.{has}
use Rattle.sheet.specs.Forbid.{fragment, Forbids}
use Rattle.sheet.specs.Rules.{accepted}
use Rattle.sheet.proofs.Bools.{or_l, or_r, or_out, and_in, and_out}
use Rattle.followers.specs.Next.{at, end, Nexts}
use Rattle.followers.specs.Followers.{begin_of, next_after}
use Rattle.followers.specs.Accepts.{Fires, Accepts}
use Rattle.followers.proofs.Negatives.{finds_negatives}
use Rattle.worked.proofs.Firing.{fires, moved, fires_to, fires_from}

-- a test of some number below n, or of some mark
abbrev below : (ℕ → Bool) → ℕ → Bool
below t zero = false
below t (suc n) = t n || below t n

abbrev of_marks : (Bool → Bool) → Bool
of_marks t = t false || t true

below_out : (t : ℕ → Bool) (n : ℕ) → T (below t n) → (p : ℕ) × T (t p)
below_out t zero h = absurd h
below_out t (suc n) h = elim (or_out (t n) _ h) [ inl y ↦ (n, y) | inr y ↦ below_out t n y ]

below_in : (t : ℕ → Bool) (n p : ℕ) → p < n → T (t p) → T (below t n)
below_in t zero p l h = absurd (omega arith)
below_in t (suc n) p l h = elim (dec_lt p n) [
  | yes y ↦ or_r (t n) _ (below_in t n p y h)
  | no y ↦ let e : p ≡ n = omega (arith, y) in or_l _ _ (subst (λ (q : ℕ). T (t q)) e h)
]

marks_out : (t : Bool → Bool) → T (of_marks t) → (m : Bool) × T (t m)
marks_out t h = elim (or_out (t false) _ h) [ inl y ↦ (false, y) | inr y ↦ (true, y) ]

marks_in : (t : Bool → Bool) (m : Bool) → T (t m) → T (of_marks t)
marks_in t false h = or_l _ _ h
marks_in t true h = or_r (t false) _ h

module _ (F : ℕ → Fragment) (count : ℕ) where
  -- the step p may come next and takes the deed, and t holds of what is then
  abbrev step_on : Nexts → Variables → Bool → Deed → (ℕ → Variables → Bool → Bool) → ℕ → Bool
  step_on K v m d t p = fires (F p) v d && of_marks (λ n. has (K (at p)) n && t p (moved (F p) v d) (m || n))

  abbrev some_step : Nexts → Variables → Bool → Deed → (ℕ → Variables → Bool → Bool) → Bool
  some_step K v m d t = below (step_on K v m d t) count

  module _ (K : Nexts) (v : Variables) (m : Bool) (d : Deed) (t : ℕ → Variables → Bool → Bool) where
    step_out : T (some_step K v m d t) → (p : ℕ) × (n : Bool) × (u : Variables) × T (has (K (at p)) n) × Fires (F p) v d u × T (t p u (m || n))
    step_out h =
        let (p, q) = below_out (step_on K v m d t) count h in
        let a = and_out (fires (F p) v d) _ q in
        let (n, b) = marks_out (λ n. has (K (at p)) n && t p (moved (F p) v d) (m || n)) a.1 in
        let c = and_out (has (K (at p)) n) _ b in
        (p, n, moved (F p) v d, c.0, fires_to (F p) v d a.0, c.1)

    step_in : (p : ℕ) → p < count → (n : Bool) (u : Variables) → T (has (K (at p)) n) → Fires (F p) v d u → T (t p u (m || n)) → T (some_step K v m d t)
    step_in p l n u h x y =
        let (a, e) = fires_from (F p) v d u x in
        let b = subst (λ (w : Variables). T (t p w (m || n))) e y in
        below_in (step_on K v m d t) count p l
        (and_in (fires (F p) v d) _ a (marks_in (λ n. has (K (at p)) n && t p (moved (F p) v d) (m || n)) n (and_in (has (K (at p)) n) _ h b)))

module _ (F : ℕ → Fragment) (follow : ℕ → Nexts) (count : ℕ) where
  -- some sub-trace of the list leads from K to a marked end, by steps below the count
  abbrev leads : Nexts → Variables → Bool → List Deed → Bool
  leads K v m [] = of_marks (λ n. has (K end) n && (m || n))
  leads K v m (d ∷ l) = some_step F count K v m d (λ p u k. leads (follow p) u k l) || leads K v m l

  leads_to : (K : Nexts) (v : Variables) (m : Bool) (l : List Deed) → T (leads K v m l) → (s : List Deed) × Accepts F follow K v m s × Sub s l
  leads_to K v m [] h =
      let (n, a) = marks_out (λ n. has (K end) n && (m || n)) h in
      let b = and_out (has (K end) n) _ a in
      ([], (n, b.0, b.1), none)
  leads_to K v m (d ∷ l) h = elim (or_out (some_step F count K v m d (λ p u k. leads (follow p) u k l)) _ h) [
    | inl y ↦
        let (p, n, u, a, x, b) = step_out F count K v m d (λ p u k. leads (follow p) u k l) y in
        let (s, rest, sub) = leads_to (follow p) u (m || n) l b in
        (d ∷ s, (p, n, u, a, x, rest), keep {s = s} sub)
    | inr y ↦ let (s, x, sub) = leads_to K v m l y in (s, x, skip {s = s} sub)
  ]

  module _ (past : (p : ℕ) → count ≤ p → F p ≡ Skip) where
    within : (p : ℕ) (v : Variables) (d : Deed) (u : Variables) → Fires (F p) v d u → p < count
    within p v d u x = elim (dec_lt p count) [
      | yes y ↦ y
      | no y ↦ absurd (subst (λ (f : Fragment). Fires f v d u) (past p (omega (arith, y))) x)
    ]

    leads_from : {s l : List Deed} → Sub s l → (K : Nexts) (v : Variables) (m : Bool) → Accepts F follow K v m s → T (leads K v m l)
    leads_from none K v m (n, h, e) = marks_in (λ n. has (K end) n && (m || n)) n (and_in (has (K end) n) _ h e)
    leads_from (keep {x = d} {l = l} sub) K v m (p, n, u, h, x, rest) =
        or_l _ _ (step_in F count K v m d (λ p u k. leads (follow p) u k l) p (within p v d u x) n u h x (leads_from sub (follow p) u (m || n) rest))
    leads_from (skip {x = d} {l = l} sub) K v m x =
        or_r (some_step F count K v m d (λ p u k. leads (follow p) u k l)) _ (leads_from sub K v m x)

-- the list is forbidden; past the length of the fragments stand skips
abbrev pub found : Diagram → List Deed → Bool
found d l = leads (fragment d) (next_after (fragment d) d.count) (length d.fragments) (begin_of (fragment d) d.count) d.start false l

pub found_right : (d : Diagram) → accepted d ≡ true → (l : List Deed) → T (found d l) ↔ Forbids d l
found_right d ok l =
    let F = fragment d in
    let follow = next_after F d.count in
    let K = begin_of F d.count in (
      λ h. let (s, x, sub) = leads_to F follow (length d.fragments) K d.start false l h in (s, (finds_negatives d ok s).1 x, sub),
      λ (s, x, sub). leads_from F follow (length d.fragments) (λ p h. get_or_past d.fragments p Skip h) sub K d.start false ((finds_negatives d ok s).0 x),
    )
