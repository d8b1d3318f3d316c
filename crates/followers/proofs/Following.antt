-- What comes first and what comes after, by the fragment's kind; and that followers, taken from the whole, are what each fragment passes on to its parts.
use Rattle.std.proofs.Common.{◌≡◌, ℕ, zero, suc, ◌+◌, ◌-◌, ◌<◌, ◌≤◌, Bool, cond, eqb, ◌≢◌, sym, refl, ap, ◌∙◌, subst, ap₂, inl, inr, lt-suc_self, arith}
use mathlib.Core.Path.{fun_ext}
use mathlib.Core.Bool.{or-false}
use native.Mathlib.Decide.{dec_lt, ℕ_discrete}
use Rattle.std.proofs.lemmas.Bool.{eq-eqb, ne_eqb}
use Rattle.sheet.specs.declared.diagram.Diagram.{Diagram}
use Rattle.sheet.specs.declared.diagram.Fragment.{Fragment}
use Rattle.sheet.specs.declared.diagram.Fragment.TheVariants.{Skip, Seq, Alt, Loop, Neg}
use Rattle.sheet.specs.declared.marks.Marks.{Marks}
use Rattle.sheet.specs.declared.sheet.Sheet.{Sheet}
use Rattle.sheet.specs.Empties.{empty_at}
use Rattle.sheet.specs.Forbid.{fragment}
use Rattle.sheet.specs.Laws.{Earlier}
use Rattle.sheet.specs.Sound.{Names, Distinct, Tree}
use Rattle.sheet.proofs.Index.{lower_is}
use Rattle.sheet.proofs.Falling.{empty_is}
use Rattle.sheet.proofs.Sound.{named_earlier}
use Rattle.followers.specs.Next.{Nexts, join, after, marked, no_next, only_end}
use Rattle.followers.specs.Followers.{first_of, first_at, enter_at, again_at, Later, never, follow_of, follow_in, follow_at, next_after}
use Rattle.followers.proofs.Filled.{PassesOn, Filled}

first_same : (f : Fragment) (i : ℕ) (N : ℕ → Marks) (A B : ℕ → Nexts) → Earlier f i → ((j : ℕ) → j < i → A j ≡ B j) → first_of f i N A ≡ first_of f i N B
first_same Skip i N A B pb h = refl
first_same (Fragment.Step p) i N A B pb h = refl
first_same (Seq l r) i N A B pb h = let op : Nexts → Nexts → Nexts = λ X Y. join X (after (N l) Y) in ap₂ op (h l pb.0) (h r pb.1)
first_same (Alt l r) i N A B pb h = ap₂ join (h l pb.0) (h r pb.1)
first_same (Loop b) i N A B pb h = ap (after (N i)) (h b pb)
first_same (Neg b) i N A B pb h = h b pb

pub first_is : (F : ℕ → Fragment) (i : ℕ) → Earlier (F i) i → first_at F i ≡ first_of (F i) i (empty_at F) (first_at F)
first_is F i pb = first_same (F i) i (empty_at F) _ _ pb (λ j h. lower_is no_next (λ i A. first_of (F i) i (empty_at F) A) i j h)

follow_same : (F : ℕ → Fragment) (f : Fragment) (i : ℕ) (G H : ℕ → Later) → Earlier f i → ((j : ℕ) → j < i → G j ≡ H j) → follow_of F f i G ≡ follow_of F f i H
follow_same F Skip i G H pb h = refl
follow_same F (Fragment.Step p) i G H pb h = refl
follow_same F (Seq l r) i G H pb h = let op : Later → Later → Later = λ X Y K. join (X (enter_at F r K)) (Y K) in ap₂ op (h l pb.0) (h r pb.1)
follow_same F (Alt l r) i G H pb h = let op : Later → Later → Later = λ X Y K. join (X K) (Y K) in ap₂ op (h l pb.0) (h r pb.1)
follow_same F (Loop b) i G H pb h = let op : Later → Later = λ X K. X (again_at F i b K) in ap op (h b pb)
follow_same F (Neg b) i G H pb h = let op : Later → Later = λ X K. X (marked K) in ap op (h b pb)

pub follow_is : (F : ℕ → Fragment) (p i : ℕ) → Earlier (F i) i → follow_at F p i ≡ follow_in F p i (follow_at F p)
follow_is F p i pb =
    let op : Later → Later = λ X K. cond (eqb p i) K (X K) in
    ap op (follow_same F (F i) i _ _ pb (λ j h. lower_is never (λ i G. follow_in F p i G) i j h))

-- the fragment itself, and another part by its kind
pub follow_self : (F : ℕ → Fragment) (i : ℕ) → Earlier (F i) i → (K : Nexts) → follow_at F i i K ≡ K
follow_self F i pb K = ap (λ (X : Later). X K) (follow_is F i i pb) ∙ ap (λ (b : Bool). cond b K (follow_of F (F i) i (follow_at F i) K)) (eq-eqb i i refl)

pub follow_kind : (F : ℕ → Fragment) (p i : ℕ) → Earlier (F i) i → p ≢ i → (f : Fragment) → F i ≡ f → (K : Nexts) → follow_at F p i K ≡ follow_of F f i (follow_at F p) K
follow_kind F p i pb ne f e K =
    let q = ne_eqb p i ne in
    ap (λ (X : Later). X K) (follow_is F p i pb) ∙ ap (λ (b : Bool). cond b K (follow_of F (F i) i (follow_at F p) K)) q ∙ ap (λ (g : Fragment). follow_of F g i (follow_at F p) K) e

-- p is a part of i, at any depth
pub data Inside (F : ℕ → Fragment) : ℕ → ℕ → Type 0 where
  itself : {i : ℕ} → Inside F i i
  deeper : {i j p : ℕ} → Names (F i) j → Inside F j p → Inside F i p

join_none : (X Y : Nexts) → Y ≡ no_next → join X Y ≡ X
join_none X Y e = ap (join X) e ∙ fun_ext (λ t. λ i. record { plain = or-false (X t).plain i; marked = or-false (X t).marked i })

none_join : (X Y : Nexts) → X ≡ no_next → join X Y ≡ Y
none_join X Y e = ap (λ (Z : Nexts). join Z Y) e

module _ (F : ℕ → Fragment) (n : ℕ) (ok : Tree F n) where
  part_below : (i j : ℕ) → i < n → Names (F i) j → j < i
  part_below i j h x = named_earlier (F i) i j (ok.earlier i h) x

  inside_le : {a p : ℕ} → a < n → Inside F a p → p ≤ a
  inside_le h itself = omega arith
  inside_le {a} {p} h (deeper {j = j} x r) =
      let l = part_below a j h x in
      let q = inside_le {a = j} {p = p} (omega arith) r in
      omega arith

  -- the fragment that names p stands inside too
  up : {a p : ℕ} → a < n → Inside F a p → p ≢ a → (q : ℕ) × (q < n) × Names (F q) p × Inside F a q
  up h itself ne = absurd (ne refl)
  up {a} {p} h (deeper {j = j} x r) ne = elim (ℕ_discrete p j) [
    | yes e ↦ (a, h, subst (λ (k : ℕ). Names (F a) k) (sym e) x, itself)
    | no e ↦
        let l = part_below a j h x in
        let q = up {a = j} {p = p} (omega arith) r e in
        (q.0, q.1, q.2, deeper x q.3)
  ]

  -- a part that two parts of a fragment have in common is named by another that they have in common
  common : (j a b p : ℕ) → j < n → Names (F j) a → Names (F j) b → a ≢ b → Inside F a p → Inside F b p → (q : ℕ) × (p < q) × Inside F a q × Inside F b q
  common j a b p h x y ne s t =
      let la = part_below j a h x in
      let lb = part_below j b h y in
      elim (ℕ_discrete p a) [
        | yes e ↦
            let u = up (omega arith) t (λ z. ne (sym e ∙ z)) in
            let v : u.0 ≡ j = ok.once u.0 j p u.1 h u.2 (subst (λ (k : ℕ). Names (F j) k) (sym e) x) in
            let z : ⊥ = omega (arith, v, inside_le (omega arith) u.3) in absurd z
        | no e ↦ elim (ℕ_discrete p b) [
          | yes g ↦
              let u = up (omega arith) s e in
              let v : u.0 ≡ j = ok.once u.0 j p u.1 h u.2 (subst (λ (k : ℕ). Names (F j) k) (sym g) y) in
              let z : ⊥ = omega (arith, v, inside_le (omega arith) u.3) in absurd z
          | no g ↦
              let u = up (omega arith) s e in
              let v = up (omega arith) t g in
              let w : v.0 ≡ u.0 = ok.once v.0 u.0 p v.1 u.1 v.2 u.2 in
              (u.0, part_below u.0 p u.1 u.2, u.3, subst (λ (q : ℕ). Inside F b q) w v.3)
        ]
      ]

  -- two parts of a fragment have no part in common
  apart_to : (k j a b p : ℕ) → j ≤ p + k → j < n → Names (F j) a → Names (F j) b → a ≢ b → Inside F a p → Inside F b p → ⊥
  apart_to zero j a b p fuel h x y ne s t =
      let la = part_below j a h x in
      omega (arith, inside_le (omega arith) s)
  apart_to (suc k) j a b p fuel h x y ne s t =
      let c = common j a b p h x y ne s t in
      apart_to k j a b c.0 (omega (arith, c.1)) h x y ne c.2 c.3

  pub apart : (j a b p : ℕ) → j < n → Names (F j) a → Names (F j) b → a ≢ b → Inside F a p → Inside F b p → ⊥
  apart j a b p h x y ne s t = apart_to j j a b p (omega arith) h x y ne s t

  -- nor has one of them what a fragment inside the other names
  apart_part : (j a b i c : ℕ) → j < n → Names (F j) a → Names (F j) b → a ≢ b → Inside F a i → Names (F i) c → Inside F b c → ⊥
  apart_part j a b i c h x y ne s z t =
      let la = part_below j a h x in
      let lb = part_below j b h y in
      let li = inside_le (omega arith) s in
      elim (ℕ_discrete c b) [
        | yes e ↦
            let v : i ≡ j = ok.once i j c (omega arith) h z (subst (λ (k : ℕ). Names (F j) k) (sym e) y) in
            omega arith
        | no e ↦
            let u = up (omega arith) t e in
            let v : u.0 ≡ i = ok.once u.0 i c u.1 (omega arith) u.2 z in
            apart j a b i h x y ne s (subst (λ (q : ℕ). Inside F b q) v u.3)
      ]

  out_case : (f : Fragment) (p i : ℕ) → ((j : ℕ) → Names f j → (K : Nexts) → follow_at F p j K ≡ no_next) → (K : Nexts) → follow_of F f i (follow_at F p) K ≡ no_next
  out_case Skip p i g K = refl
  out_case (Fragment.Step q) p i g K = refl
  out_case (Seq l r) p i g K = ap₂ join (g l (inl refl) _) (g r (inr refl) K)
  out_case (Alt l r) p i g K = ap₂ join (g l (inl refl) K) (g r (inr refl) K)
  out_case (Loop b) p i g K = g b refl _
  out_case (Neg b) p i g K = g b refl _

  -- no_next comes after what is no part
  out_to : (k p i : ℕ) → i < k → i < n → (Inside F i p → ⊥) → (K : Nexts) → follow_at F p i K ≡ no_next
  out_to zero p i l h no' K = let z : ⊥ = omega arith in absurd z
  out_to (suc k) p i l h no' K =
      follow_kind F p i (ok.earlier i h) (λ e. no' (subst (λ (q : ℕ). Inside F i q) (sym e) itself)) (F i) refl K
      ∙ out_case (F i) p i (λ j x. let lj = part_below i j h x in out_to k p j (omega arith) (omega arith) (λ s. no' (deeper x s))) K

  out : (p i : ℕ) → i < n → (Inside F i p → ⊥) → (K : Nexts) → follow_at F p i K ≡ no_next
  out p i h no' K = out_to (suc i) p i (lt-suc_self i) h no' K

  pub past_out : (p : ℕ) → 0 < n → n ≤ p → next_after F n p ≡ no_next
  past_out p h l = out p (n - 1) (omega arith) (λ s. let q = inside_le (omega arith) s in omega arith) only_end

  -- what comes after the part c of i is made, everywhere above i, from what comes after i as it is made at i
  module _ (i c : ℕ) (named : Names (F i) c) (g : Later) where
    Climbs : ℕ → Type 0
    Climbs j = (K : Nexts) → follow_at F c j K ≡ g (follow_at F i j K)

    one_case : (a : ℕ) (X : Nexts) → Climbs a → follow_at F c a X ≡ g (follow_at F i a X)
    unfolding Climbs
    one_case a X ih = ih X

    two_left : (j a b : ℕ) → j < n → Names (F j) a → Names (F j) b → a ≢ b → Inside F a i → Climbs a → (X Y : Nexts)
        → join (follow_at F c a X) (follow_at F c b Y) ≡ g (join (follow_at F i a X) (follow_at F i b Y))
    unfolding Climbs
    two_left j a b h x y ne s ih X Y =
        let lb = part_below j b h y in
        join_none _ _ (out c b (omega arith) (apart_part j a b i c h x y ne s named) Y) ∙ ih X ∙ ap g (sym (join_none _ _ (out i b (omega arith) (apart j a b i h x y ne s) Y)))

    two_right : (j a b : ℕ) → j < n → Names (F j) a → Names (F j) b → a ≢ b → Inside F b i → Climbs b → (X Y : Nexts)
        → join (follow_at F c a X) (follow_at F c b Y) ≡ g (join (follow_at F i a X) (follow_at F i b Y))
    unfolding Climbs
    two_right j a b h x y ne s ih X Y =
        let la = part_below j a h x in
        none_join _ _ (out c a (omega arith) (apart_part j b a i c h y x (λ e. ne (sym e)) s named) X) ∙ ih Y ∙ ap g (sym (none_join _ _ (out i a (omega arith) (λ t. apart j a b i h x y ne t s) X)))

    climb_case : (f : Fragment) (j : ℕ) → F j ≡ f → j < n → (a : ℕ) → Names f a → Distinct f → Inside F a i → Climbs a → (K : Nexts)
        → follow_of F f j (follow_at F c) K ≡ g (follow_of F f j (follow_at F i) K)
    climb_case Skip j e h a x ne s ih K = absurd x
    climb_case (Fragment.Step p) j e h a x ne s ih K = absurd x
    climb_case (Seq l r) j e h a (inl x) ne s ih K =
        two_left j l r h (subst (λ (f : Fragment). Names f l) (sym e) (inl refl)) (subst (λ (f : Fragment). Names f r) (sym e) (inr refl)) ne (subst (λ (k : ℕ). Inside F k i) x s) (subst Climbs x ih) _ K
    climb_case (Seq l r) j e h a (inr x) ne s ih K =
        two_right j l r h (subst (λ (f : Fragment). Names f l) (sym e) (inl refl)) (subst (λ (f : Fragment). Names f r) (sym e) (inr refl)) ne (subst (λ (k : ℕ). Inside F k i) x s) (subst Climbs x ih) _ K
    climb_case (Alt l r) j e h a (inl x) ne s ih K =
        two_left j l r h (subst (λ (f : Fragment). Names f l) (sym e) (inl refl)) (subst (λ (f : Fragment). Names f r) (sym e) (inr refl)) ne (subst (λ (k : ℕ). Inside F k i) x s) (subst Climbs x ih) K K
    climb_case (Alt l r) j e h a (inr x) ne s ih K =
        two_right j l r h (subst (λ (f : Fragment). Names f l) (sym e) (inl refl)) (subst (λ (f : Fragment). Names f r) (sym e) (inr refl)) ne (subst (λ (k : ℕ). Inside F k i) x s) (subst Climbs x ih) K K
    climb_case (Loop b) j e h a x ne s ih K = one_case b _ (subst Climbs x ih)
    climb_case (Neg b) j e h a x ne s ih K = one_case b _ (subst Climbs x ih)

    climbs_to : i < n → ((K : Nexts) → follow_at F c i K ≡ g K) → {j p : ℕ} → Inside F j p → p ≡ i → j < n → (K : Nexts) → follow_at F c j K ≡ g (follow_at F i j K)
    unfolding Climbs
    climbs_to hi here (itself {i = z}) e h K =
        let P : ℕ → Type 0 = λ z. follow_at F c z K ≡ g (follow_at F i z K) in
        subst P (sym e) (here K ∙ ap g (sym (follow_self F i (ok.earlier i hi) K)))
    climbs_to hi here {j} {p} (deeper {j = a} x t) e h K =
        let s : Inside F a i = subst (λ (q : ℕ). Inside F a q) e t in
        let la = part_below j a h x in
        let li = inside_le (omega arith) s in
        let lc = part_below i c hi named in
        follow_kind F c j (ok.earlier j h) (omega arith) (F j) refl K ∙ climb_case (F j) j refl h a x (ok.distinct j h) s (climbs_to hi here {j = a} {p = p} t e (omega arith)) K
        ∙ ap g (sym (follow_kind F i j (ok.earlier j h) (omega arith) (F j) refl K))

    pub climbs : i < n → ((K : Nexts) → follow_at F c i K ≡ g K) → {j : ℕ} → j < n → Inside F j i → (K : Nexts) → follow_at F c j K ≡ g (follow_at F i j K)
    climbs hi here h s K = climbs_to hi here s refl h K

  -- all is inside the whole
  snoc : {a q p : ℕ} → Inside F a q → Names (F q) p → Inside F a p
  snoc itself x = deeper x itself
  snoc (deeper y s) x = deeper y (snoc s x)

  whole_to : (k p : ℕ) → n ≤ p + k → p < n → Inside F (n - 1) p
  whole_to zero p f h = let z : ⊥ = omega arith in absurd z
  whole_to (suc k) p f h = elim (dec_lt (p + 1) n) [
    | yes l ↦
        let q = ok.parent p l in
        let lq = part_below q.0 p q.1 q.2 in
        snoc (whole_to k q.0 (omega arith) q.1) q.2
    | no l ↦ let e : p ≡ n - 1 = omega arith in subst (λ (a : ℕ). Inside F a p) e itself
  ]

  abbrev root : ℕ → Nexts
  root = next_after F n

  rise : (i c : ℕ) → i < n → Names (F i) c → (g : Later) → ((K : Nexts) → follow_at F c i K ≡ g K) → root c ≡ g (root i)
  rise i c h x g here = climbs i c x g h here (omega arith) (whole_to n i (omega arith) h) only_end

  -- the first of two parts, and the second
  left_here : (i l r : ℕ) → i < n → Names (F i) l → Names (F i) r → l ≢ r → (X Y : Nexts) → join (follow_at F l l X) (follow_at F l r Y) ≡ X
  left_here i l r h x y ne X Y =
      let ll = part_below i l h x in
      let lr = part_below i r h y in
      join_none _ _ (out l r (omega arith) (λ s. apart i l r l h x y ne itself s) Y) ∙ follow_self F l (ok.earlier l (omega arith)) X

  right_here : (i l r : ℕ) → i < n → Names (F i) l → Names (F i) r → l ≢ r → (X Y : Nexts) → join (follow_at F r l X) (follow_at F r r Y) ≡ Y
  right_here i l r h x y ne X Y =
      let ll = part_below i l h x in
      let lr = part_below i r h y in
      none_join _ _ (out r l (omega arith) (λ s. apart i l r r h x y ne s itself) X) ∙ follow_self F r (ok.earlier r (omega arith)) Y

  parts_case : (f : Fragment) (i : ℕ) → F i ≡ f → i < n → Distinct f → ((j : ℕ) → Names f j → Names (F i) j) → PassesOn f i (empty_at F) (first_at F) root
  parts_case Skip i e h ne w = tt
  parts_case (Fragment.Step p) i e h ne w = tt
  parts_case (Seq l r) i e h ne w =
      let x = w l (inl refl) in
      let y = w r (inr refl) in
      let ll = part_below i l h x in
      let lr = part_below i r h y in
      let a : root l ≡ enter_at F r (root i) = rise i l h x (enter_at F r) (λ K. follow_kind F l i (ok.earlier i h) (omega arith) (Seq l r) e K ∙ left_here i l r h x y ne _ K) in
      let b : root r ≡ root i = rise i r h y (λ K. K) (λ K. follow_kind F r i (ok.earlier i h) (omega arith) (Seq l r) e K ∙ right_here i l r h x y ne _ K) in
      (a ∙ ap (enter_at F r) (sym b), b)
  parts_case (Alt l r) i e h ne w =
      let x = w l (inl refl) in
      let y = w r (inr refl) in
      let ll = part_below i l h x in
      let lr = part_below i r h y in
      let a : root l ≡ root i = rise i l h x (λ K. K) (λ K. follow_kind F l i (ok.earlier i h) (omega arith) (Alt l r) e K ∙ left_here i l r h x y ne K K) in
      let b : root r ≡ root i = rise i r h y (λ K. K) (λ K. follow_kind F r i (ok.earlier i h) (omega arith) (Alt l r) e K ∙ right_here i l r h x y ne K K) in
      (a, b)
  parts_case (Loop b) i e h ne w =
      let x = w b refl in
      let lb = part_below i b h x in
      (rise i b h x (again_at F i b) (λ K. follow_kind F b i (ok.earlier i h) (omega arith) (Loop b) e K ∙ follow_self F b (ok.earlier b (omega arith)) _))
  parts_case (Neg b) i e h ne w =
      let x = w b refl in
      let lb = part_below i b h x in
      (rise i b h x marked (λ K. follow_kind F b i (ok.earlier i h) (omega arith) (Neg b) e K ∙ follow_self F b (ok.earlier b (omega arith)) _))

  -- what follows, by recursion from the root, is what each fragment passes on to its parts
  pub filled : Filled F n (empty_at F) (first_at F) (next_after F n)
  filled = record {
    earlier = ok.earlier;
    nulls = λ i h. sym (empty_is F i (F i) refl (ok.earlier i h));
    firsts = λ i h. first_is F i (ok.earlier i h);
    follows = λ i h. parts_case (F i) i refl h (ok.distinct i h) (λ j x. x);
  }

  pub root_end : 0 < n → next_after F n (n - 1) ≡ only_end
  root_end h = follow_self F (n - 1) (ok.earlier (n - 1) (omega arith)) only_end

-- what the code computes at a fragment of a known kind
module _ (d : Diagram) (i : ℕ) (f : Fragment) (e : f ≡ fragment d i) (pb : Earlier f i) where
  pub first_kind : (g : Fragment) → f ≡ g → first_at (fragment d) i ≡ first_of g i (empty_at (fragment d)) (first_at (fragment d))
  first_kind g h =
      let F = fragment d in
      first_is F i (subst (λ (f : Fragment). Earlier f i) e pb) ∙ ap (λ (f : Fragment). first_of f i (empty_at F) (first_at F)) (sym e ∙ h)

  pub follow_part : (p : ℕ) → p ≢ i → (g : Fragment) → f ≡ g → (K : Nexts) → follow_at (fragment d) p i K ≡ follow_of (fragment d) g i (follow_at (fragment d) p) K
  follow_part p ne g h K = let F = fragment d in follow_kind F p i (subst (λ (f : Fragment). Earlier f i) e pb) ne g (sym e ∙ h) K

-- what is computed at one place, at another name of it
pub same_place : {A : Type 0} → (X : (ℕ → Fragment) → ℕ → A) → {s t : Sheet} → {i j : ℕ} → s ≡ t → i ≡ j → X (fragment s.diagram) i ≡ X (fragment t.diagram) j
same_place X e h = ap₂ (λ (s : Sheet) (i : ℕ). X (fragment s.diagram) i) e h
