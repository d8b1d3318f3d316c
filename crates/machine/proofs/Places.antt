-- What loops over the pairs of x and y reach.
use Rattle.std.proofs.Common.{◌≡◌, ℕ, zero, suc, ◌+◌, ◌*◌, ◌/◌, ◌%◌, ◌<◌, Bool, true, ◌&&◌, T, ltb, ◌⊎◌, ◌↔◌, List, length, get_or, set, take, drop, replicate, Some, None, Option, sym, refl, ap, ◌∙◌, subst, inl, inr, arith, ltb→lt}
use native.Mathlib.Decide.{dec_lt}
use lib.Bits.{bit_or}
use Rattle.std.proofs.lemmas.Bool.{lt-ltb}
use Rattle.std.proofs.lemmas.List.{get_or-drop, get_or-take}
use Rattle.action.specs.declared.deed.Deed.{Deed}
use Rattle.sheet.specs.declared.diagram.Variables.{Variables}
use Rattle.sheet.specs.declared.marks.Marks.{Marks}
use Rattle.sheet.specs.declared.step.Step.{Step}
use Rattle.sheet.specs.declared.step.Variable.{Variable}
use Rattle.sheet.specs.declared.step.Change.{Change}
use Rattle.sheet.specs.Empties.{has, both}
use Rattle.sheet.specs.Meaning.{Takes, Puts, Changes}
use Rattle.sheet.proofs.Bools.{and_in, and_out}
use Rattle.sheet.proofs.Both.{move, has_same, both_out}
use Rattle.machine.specs.Pairs.{marks_of, small, place, seen, may}
use Rattle.machine.proofs.Carried.{marks_zero, no_mark, only_in, only_out, only_yes, or_at, byte_marked, marked_byte}

pub small_in : (v : Variables) → v.x < 16 → v.y < 16 → T (small v)
small_in v h k = and_in (ltb v.x 16) _ (move (sym (lt-ltb v.x 16 h)) tt) (move (sym (lt-ltb v.y 16 k)) tt)

pub small_out : (v : Variables) → T (small v) → (v.x < 16) × (v.y < 16)
small_out v t = let p = and_out (ltb v.x 16) (ltb v.y 16) t in (ltb→lt v.x 16 p.0, ltb→lt v.y 16 p.1)

-- a pair is known by its place
pub one_place : (w u : Variables) → w.y < 16 → u.y < 16 → place w ≡ place u → w ≡ u
one_place w u h k e =
    let a : w.x ≡ u.x = omega arith in
    let b : w.y ≡ u.y = omega arith in
    λ i. record { x = a i; y = b i }

-- the pair at a place
abbrev pub pair : ℕ → Variables
pair i = record { x = i / 16; y = i % 16 }

pair_place : (i : ℕ) → place (pair i) ≡ i
pair_place i = omega arith

pair_small : (i : ℕ) → i < 256 → T (small (pair i))
pair_small i h = small_in (pair i) (omega arith) (omega arith)

pair_of : (w : Variables) → T (small w) → pair (place w) ≡ w
pair_of w t = one_place (pair (place w)) w (omega arith) (small_out w t).1 (pair_place (place w))

-- bytes and what they say, at a step and a pair
pub may_in : (xs : List ℕ) (p : ℕ) (v : Variables) (m : Bool) → p < 64 → T (small v) → T (has (marks_of (get_or xs (p * 256 + place v) 0)) m) → T (has (may xs p v) m)
may_in xs p v m h s x = only_in (ltb p 64 && small v) _ m (and_in (ltb p 64) _ (move (sym (lt-ltb p 64 h)) tt) s) x

pub may_out : (xs : List ℕ) (p : ℕ) (v : Variables) (m : Bool) → T (has (may xs p v) m) → (p < 64) × T (small v) × T (has (marks_of (get_or xs (p * 256 + place v) 0)) m)
may_out xs p v m h =
    let a = only_out (ltb p 64 && small v) (marks_of (get_or xs (p * 256 + place v) 0)) m h in
    let b = and_out (ltb p 64) (small v) a.0 in
    (ltb→lt p 64 b.0, b.1, a.1)

-- a step leads from small variables to small ones
puts_small : (t : Variable) (n : ℕ) (v u : Variables) → v.x < 16 → v.y < 16 → Puts t n v u → (u.x < 16) × (u.y < 16)
puts_small Variable.X n v u hx hy (h, a, b) = (omega arith, omega arith)
puts_small Variable.Y n v u hx hy (h, a, b) = (omega arith, omega arith)

changes_small : (c : Option Change) (v : Variables) (d : Deed) (u : Variables) → v.x < 16 → v.y < 16 → Changes c v d u → (u.x < 16) × (u.y < 16)
changes_small None v d u hx hy e = subst (λ (z : Variables). (z.x < 16) × (z.y < 16)) (sym e) (hx, hy)
changes_small (Some c) v d u hx hy e = puts_small c.target _ v u hx hy e

pub takes_small : (s : Step) (v : Variables) (d : Deed) (u : Variables) → v.x < 16 → v.y < 16 → Takes s v d u → (u.x < 16) × (u.y < 16)
takes_small s v d u hx hy t = changes_small s.change v d u hx hy t.change

-- one more pair reached
abbrev pub Lands : List ℕ → ℕ → Step → Variables → Deed → List ℕ → Type 0
Lands xs b s v d ys = (w : Variables) (m : Bool) → T (has (seen ys w) m) ↔ (T (has (seen xs w) m) ⊎ (T (has (marks_of b) m) × Takes s v d w))

pub lands : (xs : List ℕ) (b : ℕ) (s : Step) (v u : Variables) (d : Deed) → length xs ≡ 256 → v.x < 16 → v.y < 16 → Takes s v d u → ((w : Variables) → Takes s v d w → w ≡ u)
    → Lands xs b s v d (set xs (place u) (bit_or (get_or xs (place u) 0) b))
lands xs b s v u d len vx vy tk uniq w m = (to, from)
  where
    in_u : (u.x < 16) × (u.y < 16)
    in_u = takes_small s v d u vx vy tk

    lt : place u < length xs
    lt = omega (arith, in_u.0, in_u.1)

    to : T (has (seen (set xs (place u) (bit_or (get_or xs (place u) 0) b)) w) m) → T (has (seen xs w) m) ⊎ (T (has (marks_of b) m) × Takes s v d w)
    to h =
        let p = only_out (small w) (marks_of (get_or (set xs (place u) (bit_or (get_or xs (place u) 0) b)) (place w) 0)) m h in
        elim ((or_at xs (place u) b (place w) m lt).0 p.1) [
          | inl y ↦ inl (only_in (small w) (marks_of (get_or xs (place w) 0)) m p.0 y)
          | inr y ↦ inr (y.1, subst (λ (z : Variables). Takes s v d z) (sym (one_place w u (small_out w p.0).1 in_u.1 y.0)) tk)
        ]

    from : T (has (seen xs w) m) ⊎ (T (has (marks_of b) m) × Takes s v d w) → T (has (seen (set xs (place u) (bit_or (get_or xs (place u) 0) b)) w) m)
    from (inl h) =
        let p = only_out (small w) (marks_of (get_or xs (place w) 0)) m h in
        only_in (small w) (marks_of (get_or (set xs (place u) (bit_or (get_or xs (place u) 0) b)) (place w) 0)) m p.0 ((or_at xs (place u) b (place w) m lt).1 (inl p.1))
    from (inr (h, t)) =
        let e = uniq w t in
        only_in (small w) (marks_of (get_or (set xs (place u) (bit_or (get_or xs (place u) 0) b)) (place w) 0)) m
        (subst (λ (z : Variables). T (small z)) (sym e) (small_in u in_u.0 in_u.1)) ((or_at xs (place u) b (place w) m lt).1 (inr (ap place e, h)))

-- no mark lands
pub lands_not : (xs : List ℕ) (s : Step) (v : Variables) (d : Deed) (b : ℕ) → b ≡ 0 → Lands xs b s v d xs
lands_not xs s v d b e w m = (λ h. inl h, λ x. elim x [ inl h ↦ h | inr h ↦ absurd (no_mark m (has_same (ap marks_of e ∙ marks_zero) m h.0)) ])

-- what is reached from the pairs at places below i
abbrev pub ReachedTo : (Variables → Marks) → Step → Deed → ℕ → Variables → Bool → Type 0
ReachedTo from s d i u m = (v : Variables) × (place v < i) × T (has (from v) m) × Takes s v d u

pub zeros : (n i : ℕ) → ◌≡◌ {A = ℕ} (get_or (replicate n 0) i 0) 0
zeros zero i = refl
zeros (suc n) zero = refl
zeros (suc n) (suc i) = zeros n i

pub none_seen : (n : ℕ) (u : Variables) (m : Bool) → T (has (seen (replicate n 0) u) m) → ⊥
none_seen n u m h = no_mark m (has_same (ap marks_of (zeros n (place u)) ∙ marks_zero) m (only_out (small u) (marks_of (get_or (replicate n 0) (place u) 0)) m h).1)

pub none_may : (n p : ℕ) (u : Variables) (m : Bool) → T (has (may (replicate n 0) p u) m) → ⊥
none_may n p u m h = no_mark m (has_same (ap marks_of (zeros n (p * 256 + place u)) ∙ marks_zero) m (may_out (replicate n 0) p u m h).2)

-- the byte at the place i of the bytes of the step p
pub byte_at : (marks : List ℕ) (p n i : ℕ) → i < n → get_or (take n (drop (p * 256) marks)) i 0 ≡ get_or marks (p * 256 + i) 0
byte_at marks p n i h = get_or-take n (drop (p * 256) marks) i 0 h ∙ get_or-drop (p * 256) marks i 0

pub reached_more : (marks xs ys : List ℕ) (p i : ℕ) (s : Step) (d : Deed) → p < 64 → i < 256
    → ((u : Variables) (m : Bool) → T (has (seen xs u) m) ↔ ReachedTo (may marks p) s d i u m)
    → Lands xs (get_or marks (p * 256 + i) 0) s (pair i) d ys
    → (u : Variables) (m : Bool) → T (has (seen ys u) m) ↔ ReachedTo (may marks p) s d (i + 1) u m
reached_more marks xs ys p i s d hp h inv adv u m = (to, from)
  where
    to : T (has (seen ys u) m) → ReachedTo (may marks p) s d (i + 1) u m
    to x = elim ((adv u m).0 x) [
      | inl y ↦ let z = (inv u m).0 y in (z.0, omega (arith, z.1), z.2, z.3)
      | inr y ↦ (pair i, omega arith, may_in marks p (pair i) m hp (pair_small i h) (subst (λ (k : ℕ). T (has (marks_of (get_or marks (p * 256 + k) 0)) m)) (sym (pair_place i)) y.0), y.1)
    ]

    from : ReachedTo (may marks p) s d (i + 1) u m → T (has (seen ys u) m)
    from (w, l, a, t) = elim (dec_lt (place w) i) [
      | yes q ↦ (adv u m).1 (inl ((inv u m).1 (w, q, a, t)))
      | no q ↦
          let b = may_out marks p w m a in
          let e : place w ≡ i = omega arith in
          let z : w ≡ pair i = sym (pair_of w b.1) ∙ ap pair e in
          (adv u m).1 (inr (subst (λ (k : ℕ). T (has (marks_of (get_or marks (p * 256 + k) 0)) m)) e b.2, subst (λ (y : Variables). Takes s y d u) z t))
    ]

-- what is reached, carried on to what follows
both_small : (xs : List ℕ) (u : Variables) (n : Marks) (m : Bool) → T (has (both (seen xs u) n) m) → T (small u)
both_small xs u n m h = let s = both_out (seen xs u) n m h in (only_out (small u) (marks_of (get_or xs (place u) 0)) s.m s.left).0

carried_at : (xs : List ℕ) (u : Variables) (n : Marks) (i r : ℕ) → marks_of r ≡ both (marks_of (get_or xs i 0)) n → T (small u) → place u ≡ i → marks_of r ≡ both (seen xs u) n
carried_at xs u n i r c s e = c ∙ ap (λ (k : ℕ). both (marks_of (get_or xs k 0)) n) (sym e) ∙ ap (λ (k : Marks). both k n) (sym (only_yes (small u) (marks_of (get_or xs (place u) 0)) s))

-- spread over the pairs at places below i
abbrev pub SpreadTo : List ℕ → List ℕ → ℕ → Marks → ℕ → List ℕ → Type 0
SpreadTo xs reached q n i ys =
    (j : ℕ) (u : Variables) (m : Bool) → T (has (may ys j u) m) ↔ (T (has (may xs j u) m) ⊎ ((j ≡ q) × (place u < i) × T (has (both (seen reached u) n) m)))

pub spread_more : (xs ys reached : List ℕ) (q i r : ℕ) (n : Marks) → length ys ≡ 16384 → q < 64 → i < 256
    → marks_of r ≡ both (marks_of (get_or reached i 0)) n → SpreadTo xs reached q n i ys
    → SpreadTo xs reached q n (i + 1) (set ys (q * 256 + i) (bit_or (get_or ys (q * 256 + i) 0) r))
spread_more xs ys reached q i r n len hq hi c inv j u m = (to, from)
  where
    lt : q * 256 + i < length ys
    lt = omega arith

    kept : T (has (may ys j u) m) → T (has (may (set ys (q * 256 + i) (bit_or (get_or ys (q * 256 + i) 0) r)) j u) m)
    kept h = let p = may_out ys j u m h in may_in _ j u m p.0 p.1 ((or_at ys (q * 256 + i) r (j * 256 + place u) m lt).1 (inl p.2))

    to : T (has (may (set ys (q * 256 + i) (bit_or (get_or ys (q * 256 + i) 0) r)) j u) m) → T (has (may xs j u) m) ⊎ ((j ≡ q) × (place u < i + 1) × T (has (both (seen reached u) n) m))
    to h =
        let p = may_out (set ys (q * 256 + i) (bit_or (get_or ys (q * 256 + i) 0) r)) j u m h in
        let b = small_out u p.1 in
        elim ((or_at ys (q * 256 + i) r (j * 256 + place u) m lt).0 p.2) [
          | inl y ↦ elim ((inv j u m).0 (may_in ys j u m p.0 p.1 y)) [ inl z ↦ inl z | inr z ↦ inr (z.0, omega (arith, z.1), z.2) ]
          | inr y ↦
              let e : place u ≡ i = omega (arith, y.0, b.0, b.1) in
              let f : j ≡ q = omega (arith, y.0, b.0, b.1) in
              inr (f, omega arith, has_same (carried_at reached u n i r c p.1 e) m y.1)
        ]

    from : T (has (may xs j u) m) ⊎ ((j ≡ q) × (place u < i + 1) × T (has (both (seen reached u) n) m)) → T (has (may (set ys (q * 256 + i) (bit_or (get_or ys (q * 256 + i) 0) r)) j u) m)
    from (inl h) = kept ((inv j u m).1 (inl h))
    from (inr (e, l, h)) = elim (dec_lt (place u) i) [
      | yes y ↦ kept ((inv j u m).1 (inr (e, y, h)))
      | no y ↦
          let s = both_small reached u n m h in
          let f : place u ≡ i = omega arith in
          may_in _ j u m (omega arith) s ((or_at ys (q * 256 + i) r (j * 256 + place u) m lt).1 (inr (omega arith, has_same (sym (carried_at reached u n i r c s f)) m h)))
    ]

-- an end at the place i, and none there
pub end_at : (reached : List ℕ) (i r : ℕ) (n : Marks) → i < 256 → marks_of r ≡ both (marks_of (get_or reached i 0)) n → r / 2 % 2 ≡ 1
    → (u : Variables) × T (has (both (seen reached u) n) true)
end_at reached i r n hi c h = (pair i, has_same (carried_at reached (pair i) n i r c (pair_small i hi) (pair_place i)) true (byte_marked r h))

-- no end at the places below i
abbrev pub NoEndTo : List ℕ → Marks → ℕ → Type 0
NoEndTo reached n i = (u : Variables) → place u < i → T (has (both (seen reached u) n) true) → ⊥

pub no_end_more : (reached : List ℕ) (i r : ℕ) (n : Marks) → marks_of r ≡ both (marks_of (get_or reached i 0)) n → (r / 2 % 2 ≡ 1 → ⊥) → NoEndTo reached n i → NoEndTo reached n (i + 1)
no_end_more reached i r n c h inv u l x = elim (dec_lt (place u) i) [
  | yes y ↦ inv u y x
  | no y ↦ let e : place u ≡ i = omega arith in h (marked_byte r (has_same (sym (carried_at reached u n i r c (both_small reached u n true x) e)) true x))
]
