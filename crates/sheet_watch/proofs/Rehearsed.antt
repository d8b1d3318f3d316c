-- A rehearsal, deed by deed, while no marked end is reached.
use Rattle.std.proofs.Common.{◌≡◌, ℕ, ◌+◌, ◌<◌, Bool, true, false, T, ◌↔◌, List, [], ◌∷◌, ◌++◌, length, get_or, take, Decides, sym, refl, ◌∙◌, subst, append-nil, below_more}
use Rattle.std.proofs.lemmas.Bool.{both_ways}
use Rattle.action.specs.declared.deed.Deed.{Deed}
use Rattle.action.proofs.Traces.{one_longer}
use Rattle.sheet.specs.declared.diagram.Fragment.{Fragment}
use Rattle.sheet.specs.declared.diagram.Variables.{Variables}
use Rattle.sheet.specs.Empties.{has}
use Rattle.followers.specs.Next.{Nexts}
use Rattle.machine.specs.Pairs.{May}
use Rattle.machine.specs.Going.{Ends, Adds}
use Rattle.sheet_watch.specs.Watching.{Within}
use Rattle.sheet_watch.proofs.Noted.{ends_within, within_ends, noted_on, noted_back, breaks_not}

-- no front part of 1 to i deeds is forbidden, and now is forbidden what after i deeds was
abbrev pub Ahead : (ℕ → Fragment) → (ℕ → Nexts) → May → List Deed → May → ℕ → Type 0
Ahead F follow start ds cur i =
    ((k : ℕ) → k < i → Within F follow false start (take (k + 1) ds) → ⊥)
    × ((rest : List Deed) → Within F follow false cur rest ↔ Within F follow false start (take i ds ++ rest))

module _ (F : ℕ → Fragment) (follow : ℕ → Nexts) (start : May) (ds : List Deed) (cur new : May) (low : (p : ℕ) (v : Variables) (m : Bool) → T (has (cur p v) m) → p < 64)
    (i : ℕ) (h : i < length ds) (d : Deed) (r : Bool) (ends : Decides r (Ends F follow cur (get_or ds i d))) (adds : Adds F follow cur (get_or ds i d) cur new) (inv : Ahead F follow start ds cur i) where
  here : take i ds ++ (get_or ds i d ∷ []) ≡ take (i + 1) ds
  here = one_longer ds i d [] h ∙ append-nil (take (i + 1) ds)

  pub ahead_barred : r ≡ true → Within F follow false start (take (i + 1) ds)
  ahead_barred e = subst (Within F follow false start) here ((inv.1 (get_or ds i d ∷ [])).0 (ends_within F follow cur low (get_or ds i d) false (ends.0 e)))

  pub ahead_more : r ≡ false → Ahead F follow start ds new (i + 1)
  ahead_more e =
      let x : Deed = get_or ds i d in
      let b = breaks_not r (Ends F follow cur x) e ends in (
        below_more _ _ inv.0 (λ f. both_ways r e (ends.1 (within_ends F follow cur low x false refl ((inv.1 (x ∷ [])).1 (subst (Within F follow false start) (sym here) f))))),
        λ rest.
            let q : take i ds ++ (x ∷ rest) ≡ take (i + 1) ds ++ rest = one_longer ds i d rest h in (
              λ f. subst (Within F follow false start) q ((inv.1 (x ∷ rest)).0 (noted_on F follow cur low x false false new b adds rest f)),
              λ f. noted_back F follow cur low x false false new b adds rest ((inv.1 (x ∷ rest)).1 (subst (Within F follow false start) (sym q) f)),
            ),
      )
