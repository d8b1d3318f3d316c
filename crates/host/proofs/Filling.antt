-- A spool that takes in an action.
use Rattle.std.proofs.Common.{◌≡◌, ℕ, ◌+◌, ◌<◌, ◌≤◌, [], ◌∷◌, ◌++◌, length, take, drop, set, Some, sym, refl, ap, ◌∙◌, arith}
use Rattle.std.proofs.lemmas.List.{length-drop, take_more_set, drop-set-lt, drop-drop}
use Rattle.action.specs.Traces.{tally}
use Rattle.action.proofs.Traces.{tally-++}
use Rattle.host.specs.declared.spool.Spool.{Spool}
use Rattle.host.specs.Hosting.{Hosting, Attempts, performs}
use Rattle.host.specs.Spools.{filled, free, Room, counted, Filled}

pub no_room : {X : Type 0} (s : Spool X) (x : X) → length s.places.now ≤ s.used → Room s (x ∷ []) → ⊥
no_room s x full room = let n = length-drop s.used s.places.now in omega arith

-- what spools mean
abbrev pub spooling : {X : Type 0} → (X → ℕ) → Hosting (Spool X) X
spooling kind = record { can = Room; counts = counted kind; recorded = λ s. Some (filled s); did = Filled; kind = kind }

-- t is s with x in its first free place
module _ {X : Type 0} (kind : X → ℕ) (s t : Spool X) (x : X) (fits : s.used < length s.places.now) (put : t.places.now ≡ set s.places.now s.used x) (more : t.used ≡ s.used + 1) (same : t.places.ghost_name ≡ s.places.ghost_name) where
  filled_is : filled t ≡ filled s ++ (x ∷ [])
  filled_is = ap (λ n. take n t.places.now) more ∙ ap (take (s.used + 1)) put ∙ take_more_set s.places.now s.used x fits

  free_is : free t ≡ drop 1 (free s)
  free_is =
      let past : s.used < s.used + 1 = omega arith in
      ap (λ n. drop n t.places.now) more ∙ ap (drop (s.used + 1)) put ∙ drop-set-lt (s.used + 1) s.places.now s.used x past ∙ sym (drop-drop 1 s.used s.places.now)

  free_before : length (free s) ≡ length (free t) + 1
  free_before =
      let a = ap length free_is in
      let b = length-drop 1 (free s) in
      let n = length-drop s.used s.places.now in
      omega arith

  pub one_more : Attempts (spooling kind) s x 0 t
  one_more = performs refl (let n = free_before in omega arith) (record {
    can_on = λ l room. let n = free_before in omega arith;
    can_back = λ l room. let n = free_before in omega arith;
    counted = λ k. ap (tally kind k) filled_is ∙ tally-++ kind k (filled s) (x ∷ []);
    kept = ap Some filled_is;
    stepped = record { later = free_is; same = same };
  })
