-- The first marks.
use Rattle.std.proofs.Common.{◌≡◌, ℕ, ◌<◌, Bool, true, false, ◌||◌, T, ◌⊎◌, ◌↔◌, List, get_or, set, replicate, sym, refl, ap, ◌∙◌, subst, inl, inr, arith, get_or-set_other, get_or-set_same}
use native.Mathlib.Decide.{ℕ_discrete}
use lib.ListN.{length-replicate}
use Rattle.sheet.specs.declared.diagram.Variables.{Variables}
use Rattle.sheet.specs.Empties.{has, both}
use Rattle.sheet.proofs.Both.{has_same, both_at, both_out}
use Rattle.followers.specs.Next.{at, Nexts}
use Rattle.followers.specs.Words.{bit}
use Rattle.followers.proofs.Moves.{along}
use Rattle.machine.specs.Pairs.{marks_of, small, place, seen, may}
use Rattle.machine.proofs.Carried.{marks_zero, no_mark, only_in, only_out}
use Rattle.machine.proofs.Places.{small_in, small_out, one_place, zeros, none_may}

-- one byte of 256, with an unmarked run
abbrev pub only_at : Variables → List ℕ
only_at v = set (replicate 256 0) (place v) 1

one_plain : (m : Bool) → T (has (marks_of 1) m) → m ≡ false
unfolding bit
one_plain false h = refl
one_plain true h = absurd h

one_there : T (has (marks_of 1) false)
unfolding bit
one_there = tt

module _ (v : Variables) (hx : v.x < 16) (hy : v.y < 16) where
  only_seen : (u : Variables) (m : Bool) → T (has (seen (only_at v) u) m) → (u ≡ v) × (m ≡ false)
  only_seen u m h =
      let p = only_out (small u) (marks_of (get_or (only_at v) (place u) 0)) m h in
      elim (ℕ_discrete (place u) (place v)) [
        | yes e ↦
            let q : get_or (only_at v) (place u) 0 ≡ 1 = ap (λ (k : ℕ). get_or (only_at v) k 0) e ∙ get_or-set_same (replicate 256 0) (place v) 1 0 (omega (arith, length-replicate {A = ℕ} 256 0)) in
            (one_place u v (small_out u p.0).1 hy e, one_plain m (has_same (ap marks_of q) m p.1))
        | no e ↦
            let q : get_or (only_at v) (place u) 0 ≡ 0 = get_or-set_other (replicate 256 0) (place v) (place u) 1 0 e ∙ zeros 256 (place u) in
            absurd (no_mark m (has_same (ap marks_of q ∙ marks_zero) m p.1))
      ]

  seen_there : T (has (seen (only_at v) v) false)
  seen_there =
      let q : get_or (only_at v) (place v) 0 ≡ 1 = get_or-set_same (replicate 256 0) (place v) 1 0 (omega (arith, length-replicate {A = ℕ} 256 0)) in
      only_in (small v) (marks_of (get_or (only_at v) (place v) 0)) false (small_in v hx hy) (has_same (ap marks_of (sym q)) false one_there)

  pub first_spread : (i : ℕ) → i ≡ place v → (L K : Nexts) → L ≡ K → (marks : List ℕ)
      → ((j : ℕ) (u : Variables) (m : Bool) → T (has (may marks j u) m) ↔ (T (has (may (replicate 16384 0) j u) m) ⊎ T (has (both (seen (set (replicate 256 0) i 1) u) (L (at j))) m)))
      → (p : ℕ) (u : Variables) (m : Bool) → T (has (may marks p u) m) ↔ ((u ≡ v) × T (has (K (at p)) m))
  first_spread i here L K e marks sp p u m = (to, from)
    where
      same : set (replicate 256 0) i 1 ≡ only_at v
      same = ap (λ (k : ℕ). set (replicate 256 0) k 1) here

      to : T (has (may marks p u) m) → (u ≡ v) × T (has (K (at p)) m)
      to h = elim ((sp p u m).0 h) [
        | inl y ↦ absurd (none_may 16384 p u m y)
        | inr y ↦
            let s = both_out (seen (only_at v) u) (L (at p)) m (subst (λ (xs : List ℕ). T (has (both (seen xs u) (L (at p))) m)) same y) in
            let o = only_seen u s.m s.left in
            let q : s.n ≡ m = sym (ap (λ (b : Bool). b || s.n) o.1) ∙ s.is in
            (o.0, along e (at p) m (subst (λ (b : Bool). T (has (L (at p)) b)) q s.right))
      ]

      from : (u ≡ v) × T (has (K (at p)) m) → T (has (may marks p u) m)
      from (q, h) = (sp p u m).1 (inr (subst (λ (xs : List ℕ). T (has (both (seen xs u) (L (at p))) m)) (sym same) (both_at (seen (only_at v) u) (L (at p)) false m m refl (subst (λ (z : Variables). T (has (seen (only_at v) z) false)) (sym q) seen_there) (along (sym e) (at p) m h))))
