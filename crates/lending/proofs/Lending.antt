-- A gate that was opened over what is lent, and what its owner then has.
use Rattle.std.proofs.Common.{◌≡◌, ℕ, List, [], ◌++◌, length, drop, Some, sym, refl, ap, ◌∙◌, subst, one-add, take-append-drop, MutBor}
use Rattle.std.proofs.lemmas.List.{drop-drop}
use Rattle.host.specs.declared.spool.Spool.{Spool}
use Rattle.host.specs.Hosting.{Hosting, followed}
use Rattle.host.specs.Spools.{filled, free, Filled}
use Rattle.host.proofs.Filling.{spooling}
use Rattle.gate.specs.Promise.{Steps, none, more, Carried}
use Rattle.lending.specs.Lent.{after_done}

-- what lent hosts mean, by the hosts behind the references
abbrev pub lent : {H X : Type 0} → Hosting H X → Hosting (MutBor H) X
lent m = record {
  can = λ h. m.can h.now;
  counts = λ h. m.counts h.now;
  recorded = λ h. m.recorded h.now;
  did = λ g x h. m.did g.now x h.now × (h.ghost_name ≡ g.ghost_name);
  kind = m.kind;
}

module _ {H X : Type 0} (m : Hosting H X) where
  lent_steps : {g h : MutBor H} {d : List X} → Steps (lent m).did g d h → Steps m.did g.now d h.now
  lent_steps none = none
  lent_steps (more s t) = more s.0 (lent_steps t)

  lent_names : {g h : MutBor H} {d : List X} → Steps (lent m).did g d h → h.ghost_name ≡ g.ghost_name
  lent_names none = refl
  lent_names (more s t) = lent_names t ∙ s.1

  pub lent_same : {g h : MutBor H} {d : List X} → Carried (lent m) g d h → h.ghost_name ≡ g.ghost_name
  lent_same c = lent_names c.steps

  -- where e is what the owner then has
  pub lent_carried : {g h : MutBor H} {d : List X} {e : H} → e ≡ h.now → Carried (lent m) g d h → Carried m g.now d e
  lent_carried {g = g} {d = d} is c = subst (λ k. Carried m g.now d k) (sym is) (record { counted = c.counted; kept = c.kept; steps = lent_steps c.steps })

-- a spool's own steps: its later places keep what they held, and its places are the same owner's
module _ {X : Type 0} where
  spool_free : {s t : Spool X} {d : List X} → Steps Filled s d t → free t ≡ drop (length d) (free s)
  spool_free none = refl
  spool_free (more {g = s} {l = d} f t) = spool_free t ∙ ap (drop (length d)) f.later ∙ drop-drop (length d) 1 (free s) ∙ ap (λ n. drop n (free s)) (one-add (length d))

  spool_name : {s t : Spool X} {d : List X} → Steps Filled s d t → t.places.ghost_name ≡ s.places.ghost_name
  spool_name none = refl
  spool_name (more f t) = spool_name t ∙ f.same

  module _ (kind : X → ℕ) (s t : Spool X) (l d : List X) (all : Carried (spooling kind) s d t) where
    pub spool_same : t.places.ghost_name ≡ s.places.ghost_name
    spool_same = spool_name all.steps

    -- of a new spool over l
    pub spool_holds : Some (filled s) ≡ Some [] → free s ≡ l → t.places.now ≡ after_done l d
    spool_holds empty whole =
        let recorded : Some (filled t) ≡ Some d = all.kept ∙ ap (λ r. followed r d) empty in
        let record_is : filled t ≡ d = cc in
        let rest-is : free t ≡ drop (length d) l = spool_free all.steps ∙ ap (drop (length d)) whole in
        sym (take-append-drop t.used t.places.now) ∙ ap (λ k. k ++ free t) record_is ∙ ap (λ k. d ++ k) rest-is
