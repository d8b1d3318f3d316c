-- What a watch forbids, before and after a deed.
use Rattle.std.specs.Prelude.{◌≡◌, ℕ, ◌<◌, Bool, true, false, ◌||◌, T, ◌⊎◌, ◌↔◌, Some, None, Option, List, [], ◌∷◌, Decides, is_none}
use Rattle.std.proofs.Common.{sym, refl, ◌∙◌, inl, inr}
use Rattle.action.specs.declared.deed.Deed.{Deed}
use Rattle.action.specs.Traces.{Sub, none, keep, skip}
use Rattle.action.proofs.Traces.{sub_none}
use Rattle.sheet.specs.declared.diagram.Fragment.{Fragment}
use Rattle.sheet.specs.declared.diagram.Variables.{Variables}
use Rattle.sheet.specs.Empties.{has}
use Rattle.sheet.proofs.Bools.{or_l, or_r, or_out, T_true}
use Rattle.sheet.proofs.Both.{move}
use Rattle.followers.specs.Next.{Nexts}
use Rattle.followers.specs.Accepts.{Fires, Accepts}
use Rattle.machine.specs.Pairs.{May, may}
use Rattle.machine.specs.Going.{Ends, Adds, Left}
use Rattle.machine.proofs.Places.{may_out}
use Rattle.machine.proofs.Going.{leads_on, ends_from, moves_from}
use Rattle.sheet_watch.specs.Watching.{Within}

-- marks are of steps below 64
pub low : (xs : List ℕ) (p : ℕ) (v : Variables) (m : Bool) → T (has (may xs p v) m) → p < 64
low xs p v m h = (may_out xs p v m h).0

pub no_marks : {X : Type 0} → (o : Option X) → ((x : X) → o ≡ Some x → ⊥) → is_none o ≡ true
no_marks None f = refl
no_marks (Some x) f = absurd (f x refl)

module _ (F : ℕ → Fragment) (follow : ℕ → Nexts) where
  -- the empty list
  pub within_none : (b : Bool) (may : May) → Decides b (Within F follow b may [])
  within_none b may = (λ e. ([], move (sym e) tt, none), out)
    where
      out : Within F follow b may [] → b ≡ true
      out ([], h, s) = T_true b h
      out (d ∷ l, h, s) = elim s [ ]

  pub broken_all : (b : Bool) (may : May) → b ≡ true → (L : List Deed) → Within F follow b may L
  broken_all b may e L = ([], move (sym e) tt, sub_none L)

  module _ (old : May) (low : (p : ℕ) (v : Variables) (m : Bool) → T (has (old p v) m) → p < 64) (d : Deed) where
    -- one deed
    pub ends_within : (b : Bool) → Ends F follow old d → Within F follow b old (d ∷ [])
    ends_within b x = (d ∷ [], ends_from F follow old d true old b x, keep none)

    one_end : (p : ℕ) (v : Variables) (m : Bool) (u : Variables) → T (has (old p v) m) → Fires (F p) v d u → (l : List Deed) → Accepts F follow (follow p) u m l → Sub l [] → Ends F follow old d
    one_end p v m u x t [] (k, y, o) s = (p, v, m, u, k, low p v m x, x, t, y, o)
    one_end p v m u x t (a ∷ l) y s = elim s [ ]

    pub within_ends : (b : Bool) → b ≡ false → Within F follow b old (d ∷ []) → Ends F follow old d
    within_ends b e ([], h, s) = absurd (move e h)
    within_ends b e (c ∷ l, h, skip s) = elim s [ ]
    within_ends b e (c ∷ l, (p, v, m, u, x, t, a), keep s) = one_end p v m u x t l a s

    -- one deed further, where what was there is kept
    module _ (b e : Bool) (new : May) (ends : T e ↔ (T b ⊎ Ends F follow old d)) (adds : Adds F follow old d old new) where
      kept : (l : List Deed) → Left F follow b old l → Left F follow e new l
      kept [] h = ends.1 (inl h)
      kept (c ∷ l) (p, v, m, u, h, t, a) = (p, v, m, u, (adds p v m).1 (inl h), t, a)

      pub noted_on : (L : List Deed) → Within F follow e new L → Within F follow b old (d ∷ L)
      noted_on L ([], h, s) = elim (ends.0 h) [
        | inl y ↦ ([], y, sub_none (d ∷ L))
        | inr y ↦ (d ∷ [], ends_from F follow old d e new b y, keep (sub_none L))
      ]
      noted_on L (c ∷ l, (q, u, k, w, h, t, a), s) = elim ((adds q u k).0 h) [
        | inl y ↦ (c ∷ l, (q, u, k, w, y, t, a), skip s)
        | inr y ↦ (d ∷ (c ∷ l), moves_from F follow old d e new b c l q u k w y t a, keep s)
      ]

      pub noted_back : (L : List Deed) → Within F follow b old (d ∷ L) → Within F follow e new L
      noted_back L (l, h, skip s) = (l, kept l h, s)
      noted_back L (c ∷ l, h, keep s) = (l, leads_on F follow old d e new (λ x. ends.1 (inr x)) (λ q u k x. (adds q u k).1 (inr x)) low l b h, s)

-- broken before, or where an end is reached
pub breaks : (b e : Bool) (P : Type 0) → Decides e P → T (b || e) ↔ (T b ⊎ P)
breaks b e P x = (
  λ h. elim (or_out b e h) [ inl y ↦ inl y | inr y ↦ inr (x.0 (T_true e y)) ],
  λ h. elim h [ inl y ↦ or_l b e y | inr y ↦ or_r b e (move (sym (x.1 y)) tt) ],
)

-- not broken, and no end is reached
pub breaks_not : (e : Bool) (P : Type 0) → e ≡ false → Decides e P → T false ↔ (T false ⊎ P)
breaks_not e P q x = (λ h. absurd h, λ h. elim h [ inl y ↦ y | inr y ↦ move (sym (x.1 y) ∙ q) tt ])
