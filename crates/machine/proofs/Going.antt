-- Runs side by side: before any deed, and one deed further.
use Rattle.std.proofs.Common.{◌≡◌, ℕ, ◌<◌, Bool, true, false, ◌||◌, T, ◌↔◌, List, [], ◌∷◌, Decides, sym, refl, ◌∙◌, subst, inl, inr}
use mathlib.Core.Path.{fun_ext}
use Rattle.action.specs.declared.deed.Deed.{Deed}
use Rattle.sheet.specs.declared.diagram.Diagram.{Diagram}
use Rattle.sheet.specs.declared.diagram.Fragment.{Fragment}
use Rattle.sheet.specs.declared.diagram.Variables.{Variables}
use Rattle.sheet.specs.Empties.{has}
use Rattle.sheet.specs.Forbid.{fragment, Negative}
use Rattle.sheet.specs.Rules.{accepted}
use Rattle.sheet.proofs.Bools.{T_true}
use Rattle.sheet.proofs.Both.{move}
use Rattle.followers.specs.Next.{Nexts}
use Rattle.followers.specs.Accepts.{Fires, Accepts}
use Rattle.followers.specs.Followers.{begin_of, next_after}
use Rattle.followers.proofs.Negatives.{finds_negatives}
use Rattle.machine.specs.Pairs.{May}
use Rattle.machine.specs.Going.{MovesBelow, Ends, Adds, Left, Begun}

pub decides_same : (a b : Bool) → a ≡ b → Decides a (T b)
decides_same a b q = (λ e. move (sym (sym q ∙ e)) tt, λ t. q ∙ T_true b t)

module _ (F : ℕ → Fragment) (follow : ℕ → Nexts) where
  -- before any deed
  begun_to : (K : Nexts) (v : Variables) (e : Bool) (may : May) → Begun K v e may → (l : List Deed) → Left F follow e may l → Accepts F follow K v false l
  begun_to K v e may b [] h = (true, b.ends.0 (T_true e h), tt)
  begun_to K v e may b (d ∷ l) (p, w, m, u, h, t, a) =
      let q = (b.steps p w m).0 h in
      (p, m, u, q.1, subst (λ (x : Variables). Fires (F p) x d u) q.0 t, a)

  begun_from : (K : Nexts) (v : Variables) (e : Bool) (may : May) → Begun K v e may → (l : List Deed) → Accepts F follow K v false l → Left F follow e may l
  begun_from K v e may b [] (true, h, o) = move (sym (b.ends.1 h)) tt
  begun_from K v e may b [] (false, h, o) = absurd o
  begun_from K v e may b (d ∷ l) (p, m, u, h, t, a) = (p, v, m, u, (b.steps p v m).1 (refl, h), t, a)

  module _ (old : May) (d : Deed) (e : Bool) (new : May) where
    -- what a step of d leads on to
    pub leads_on : (Ends F follow old d → T e) → ((q : ℕ) (u : Variables) (k : Bool) → MovesBelow F follow old d 64 q u k → T (has (new q u) k))
        → ((p : ℕ) (v : Variables) (m : Bool) → T (has (old p v) m) → p < 64)
        → (l : List Deed) (b : Bool) → Left F follow b old (d ∷ l) → Left F follow e new l
    leads_on f g low [] b (p, v, m, u, h, t, (k, x, o)) = f (p, v, m, u, k, low p v m h, h, t, x, o)
    leads_on f g low (c ∷ l) b (p, v, m, u, h, t, (q, j, w, x, s, a)) = (q, u, m || j, w, g q u (m || j) (p, v, m, j, low p v m h, h, t, x, refl), s, a)

    -- where d leads from
    pub ends_from : (b : Bool) → Ends F follow old d → Left F follow b old (d ∷ [])
    ends_from b (p, v, m, u, k, l, h, t, x, o) = (p, v, m, u, h, t, (k, x, o))

    pub moves_from : (b : Bool) (c : Deed) (l : List Deed) (q : ℕ) (u : Variables) (k : Bool) (w : Variables) → MovesBelow F follow old d 64 q u k → Fires (F q) u c w → Accepts F follow (follow q) w k l
        → Left F follow b old (d ∷ (c ∷ l))
    moves_from b c l q u k w (p, v, m, j, low, h, t, x, o) s a = (p, v, m, u, h, t, (q, j, w, x, s, subst (λ (n : Bool). Accepts F follow (follow q) w n l) (sym o) a))

  -- one deed further, where nothing is kept
  pub machine_step : (old : May) (d : Deed) (b e : Bool) (none new : May) → ((p : ℕ) (v : Variables) (m : Bool) → T (has (old p v) m) → p < 64)
      → ((p : ℕ) (v : Variables) (m : Bool) → T (has (none p v) m) → ⊥) → Decides e (Ends F follow old d) → Adds F follow old d none new
      → (l : List Deed) → Left F follow e new l ↔ Left F follow b old (d ∷ l)
  machine_step old d b e none new low no' ends adds l = (to l, leads_on old d e new (λ x. move (sym (ends.1 x)) tt) (λ q u k x. (adds q u k).1 (inr x)) low l b)
    where
      to : (l : List Deed) → Left F follow e new l → Left F follow b old (d ∷ l)
      to [] h = ends_from old d e new b (ends.0 (T_true e h))
      to (c ∷ l) (q, u, k, w, h, s, a) = elim ((adds q u k).0 h) [
        | inl y ↦ absurd (no' q u k y)
        | inr y ↦ moves_from old d e new b c l q u k w y s a
      ]

-- before any deed the lists left are the negative traces
pub first_left : (d : Diagram) → accepted d ≡ true → (F : ℕ → Fragment) → F ≡ fragment d → (K : ℕ → Nexts) → ((p : ℕ) → K p ≡ next_after (fragment d) d.count p) → (e : Bool) (may : May)
    → Begun (begin_of (fragment d) d.count) d.start e may → (l : List Deed) → Left F K e may l ↔ Negative d l
first_left d ok F f K k e may b l =
    let G = fragment d in
    let B = begin_of G d.count in
    let N = next_after G d.count in
    let P : (ℕ → Fragment) → Type 0 = λ F. Left F K e may l ↔ Negative d l in
    let Q : (ℕ → Nexts) → Type 0 = λ K. Left G K e may l ↔ Negative d l in
    subst P (sym f) (subst Q (sym (fun_ext k))
    (λ h. (finds_negatives d ok l).1 (begun_to G N B d.start e may b l h), λ h. begun_from G N B d.start e may b l ((finds_negatives d ok l).0 h)))
