-- First steps and followers of an accepted diagram find its negative traces.
use Rattle.std.proofs.Common.{◌≡◌, ℕ, ◌-◌, ◌<◌, Bool, true, false, T, List, [], ◌∷◌, ◌++◌, sym, refl, ap, ◌∙◌, subst, subst₂, append-nil, arith}
use Rattle.action.specs.declared.deed.Deed.{Deed}
use Rattle.sheet.specs.declared.diagram.Fragment.{Fragment}
use Rattle.sheet.specs.declared.diagram.Variables.{Variables}
use Rattle.sheet.specs.declared.marks.Marks.{Marks}
use Rattle.sheet.specs.Meaning.{meaning}
use Rattle.sheet.specs.Empties.{empty_at}
use Rattle.sheet.specs.Forbid.{fragment}
use Rattle.sheet.proofs.Bools.{T_true}
use Rattle.sheet.proofs.Sound.{sound}
use Rattle.followers.specs.Next.{end, Nexts, only_end}
use Rattle.followers.specs.Followers.{enter, first_at, enter_at, next_after}
use Rattle.followers.specs.Accepts.{Accepts}
use Rattle.followers.specs.Laws.{FindsNegatives}
use Rattle.followers.proofs.Moves.{along, reset}
use Rattle.followers.proofs.Filled.{Filled}
use Rattle.followers.proofs.Complete.{complete}
use Rattle.followers.proofs.Sound.{begins_run}
use Rattle.followers.proofs.Following.{filled, root_end}

module _ (F : ℕ → Fragment) (n : ℕ) (null : ℕ → Marks) (first follow : ℕ → Nexts) (ok : Filled F n null first follow) (i : ℕ) (i<n : i < n) (last : follow i ≡ only_end) where
  abbrev K : Nexts
  K = enter (null i) (first i) (follow i)

  end_only : (u : Variables) (m : Bool) (b : List Deed) → Accepts F follow only_end u m b → (b ≡ []) × T m
  end_only u true [] (k, h, e) = (refl, tt)
  end_only u false [] (true, h, e) = absurd h
  end_only u false [] (false, h, e) = absurd e
  end_only u m (d ∷ b) (p, true, w, h, c, rest) = absurd h
  end_only u m (d ∷ b) (p, false, w, h, c, rest) = absurd h

  trace_accepted : (v : Variables) (l : List Deed) → (u : Variables) × meaning F i v l u true → Accepts F follow K v false l
  trace_accepted v l (u, r) =
      let x : Accepts F follow (follow i) u true [] = (false, along (sym last) end false tt, tt) in
      subst (λ (a : List Deed). Accepts F follow K v false a) (append-nil l) (complete F null first follow n ok i i<n v u l [] true false r x)

  accepted_trace : (v : Variables) (l : List Deed) → Accepts F follow K v false l → (u : Variables) × meaning F i v l u true
  accepted_trace v l x =
      let s = begins_run F null first follow n ok i i<n v false l x in
      let e = end_only s.last s.mark s.back (reset F follow last _ _ _ s.rest) in
      let d : s.front ≡ l = sym (append-nil s.front) ∙ ap (λ (b : List Deed). s.front ++ b) (sym e.0) ∙ sym s.deeds in
      (s.last, subst₂ (λ (a : List Deed) (m : Bool). meaning F i v a s.last m) d (T_true s.mark e.1) s.run)

pub finds_negatives : FindsNegatives
finds_negatives d e l =
    let g = sound d e in
    let F = fragment d in
    let n = d.count in
    let q = root_end F n g.tree g.some in
    let full = filled F n g.tree in
    let h : n - 1 < n = omega (arith, g.some) in (
      λ x. subst (λ (K : Nexts). Accepts F (next_after F n) (enter_at F (n - 1) K) d.start false l) q (trace_accepted F n (empty_at F) (first_at F) (next_after F n) full (n - 1) h q d.start l x),
      λ x. accepted_trace F n (empty_at F) (first_at F) (next_after F n) full (n - 1) h q d.start l (subst (λ (K : Nexts). Accepts F (next_after F n) (enter_at F (n - 1) K) d.start false l) (sym q) x),
    )
