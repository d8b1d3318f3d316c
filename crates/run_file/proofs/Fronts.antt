-- A loop that fills the front of a list, over the items of another with their indices.
use Rattle.std.proofs.Common.{◌≡◌, ℕ, ◌+◌, ◌<◌, ◌≤◌, List, [], ◌∷◌, ◌++◌, map, length, take, drop, get_or, set, sym, ap, ◌∙◌, append_assoc, add-one, zero-add, arith, drop-cons, length-take}
use Rattle.std.specs.List.{enumerate_from}
use Rattle.std.proofs.lemmas.List.{length-map, set_at, map_more, take_all}
use Rattle.std.proofs.lemmas.List.FromFn.{get_or-enumerate_from, length-enumerate_from}

module _ {X Y : Type 0} (f : X → Y) (xs : List X) (old : List Y) where
  -- f of each item before i, and what was there from i on
  abbrev pub fronted : ℕ → List Y
  fronted i = map f (take i xs) ++ drop i old

  front_more : (i : ℕ) (x : X) → i < length xs → i < length old → x ≡ get_or xs i x → set (fronted i) i (f x) ≡ fronted (i + 1)
  front_more i x a b e =
      let n : length (map f (take i xs)) ≡ i = length-map (take i xs) f ∙ (length-take i xs ∙ grind arith) in
      rw (drop-cons old i (f x) b) (set_at (map f (take i xs)) _ _ (f x) i n ∙ rw (map_more f xs i x a, ← e, add-one) (sym (append_assoc (map f (take i xs)) (f x ∷ []) _)))

  -- one turn, at the item i
  pub front_turn : (out : List Y) (y : Y) (i m n : ℕ) (x : X) → out ≡ fronted m → length xs ≤ length old → m < length (enumerate_from 0 xs) → ◌≡◌ {A = ℕ × X} (i, x) (get_or (enumerate_from 0 xs) m (i, x)) → y ≡ f x → n ≡ m + 1 → set out i y ≡ fronted n
  front_turn out y i m n x inv room l turn e more =
      let k : length (enumerate_from 0 xs) ≡ length xs = length-enumerate_from 0 xs in
      let here : m < length xs = omega (arith, k) in
      let both : ◌≡◌ {A = ℕ × X} (i, x) (0 + m, get_or xs m x) = turn ∙ get_or-enumerate_from 0 xs m (i, x) here in
      let p : i ≡ m = ap (λ (q : ℕ × X). q.0) both ∙ zero-add m in
      let q : x ≡ get_or xs m x = ap (λ (q : ℕ × X). q.1) both in
      rw (inv, p, e, more) (front_more m x here (omega arith) q)

  pub front_all : (m : ℕ) → m ≡ length xs → fronted m ≡ map f xs ++ drop (length xs) old
  front_all m e = rw e (ap (λ zs. map f zs ++ drop (length xs) old) (take_all (length xs) xs (omega arith)))
