-- What is accepted begins with a run of the fragment: by induction on the fragment, and in a loop on the deeds.
use Rattle.std.proofs.Common.{◌≡◌, ℕ, zero, suc, ◌<◌, ◌≤◌, Bool, true, false, ◌||◌, T, List, [], ◌∷◌, ◌++◌, length, sym, refl, ap, ◌∙◌, subst, subst₂, inl, inr, append_assoc, append-nil, lt-suc_self, arith, eqb→eq, length-append}
use mathlib.Core.Bool.{or_assoc, or-true, or-false}
use Rattle.action.specs.declared.deed.Deed.{Deed}
use Rattle.sheet.specs.declared.diagram.Fragment.{Fragment}
use Rattle.sheet.specs.declared.diagram.Fragment.TheVariants.{Skip, Seq, Alt, Loop, Neg}
use Rattle.sheet.specs.declared.diagram.Variables.{Variables}
use Rattle.sheet.specs.declared.marks.Marks.{Marks}
use Rattle.sheet.specs.Meaning.{Runs, Of, meaning, Rounds, stop, round}
use Rattle.sheet.specs.Empties.{has, only_plain, nothing, empty_of}
use Rattle.sheet.specs.Laws.{Earlier}
use Rattle.sheet.proofs.Falling.{meaning_is}
use Rattle.sheet.proofs.Both.{move, has_same, both_out, either_out, must_out}
use Rattle.followers.specs.Next.{at, end, Nexts, no_next, only_step, join, after}
use Rattle.followers.specs.Followers.{enter, first_of}
use Rattle.followers.specs.Accepts.{Fires, Accepts}
use Rattle.followers.proofs.Moves.{along, shift, reset, remark, join_out, after_out}
use Rattle.followers.proofs.Filled.{PassesOn, Filled}

plain_only : (m : Bool) → T (has only_plain m) → m ≡ false
plain_only true h = absurd h
plain_only false h = refl

no_mark : (m : Bool) → T (has nothing m) → ⊥
no_mark true h = h
no_mark false h = h

at_step : (p i : ℕ) (m : Bool) → T (has (only_step i (at p)) m) → (p ≡ i) × (m ≡ false)
at_step p i true h = absurd h
at_step p i false h = (eqb→eq p i h, refl)

module _ (F : ℕ → Fragment) (null : ℕ → Marks) (first follow : ℕ → Nexts) where
  abbrev start : ℕ → Nexts
  start i = enter (null i) (first i) (follow i)

  abbrev Acc : Nexts → Variables → Bool → List Deed → Type 0
  Acc = Accepts F follow

  -- l begins with a run of R that takes a deed, and i's follow set accepts the rest
  pub record Front (R : Runs) (i : ℕ) (v : Variables) (m : Bool) (l : List Deed) : Type 0 where
    pub head : Deed
    pub front : List Deed
    pub back : List Deed
    pub last : Variables
    pub mark : Bool
    pub run : R v (head ∷ front) last mark
    pub rest : Accepts F follow (follow i) last (m || mark) back
    pub deeds : l ≡ head ∷ (front ++ back)

  abbrev pub Empty : ℕ → Runs → Type 0
  Empty i R = (v : Variables) (m : Bool) → T (has (null i) m) → R v [] v m

  abbrev pub Fronts : ℕ → Runs → Type 0
  Fronts i R = (v : Variables) (m : Bool) (l : List Deed) → Acc (first i) v m l → Front R i v m l

  empty_case : (f : Fragment) (i : ℕ) (R : ℕ → Runs) → Earlier f i → null i ≡ empty_of f null → ((j : ℕ) → j < i → Empty j (R j)) → Empty i (Of f R)
  empty_case Skip i R pb nl ih v m h = (refl, refl, plain_only m (has_same nl m h))
  empty_case (Fragment.Step s) i R pb nl ih v m h = absurd (no_mark m (has_same nl m h))
  empty_case (Seq l r) i R pb nl ih v m h =
      let p = both_out (null l) (null r) m (has_same nl m h) in
      record { front = []; back = []; between = v; front_mark = p.m; back_mark = p.n; left = ih l pb.0 v p.m p.left; right = ih r pb.1 v p.n p.right; deeds = refl; mark = sym p.is }
  empty_case (Alt l r) i R pb nl ih v m h = elim (either_out (null l) (null r) m (has_same nl m h)) [
    | inl y ↦ inl (ih l pb.0 v m y)
    | inr y ↦ inr (ih r pb.1 v m y)
  ]
  empty_case (Loop b) i R pb nl ih v false h = stop
  empty_case (Loop b) i R pb nl ih v true h = round (ih b pb v true (has_same nl true h)) stop
  empty_case (Neg b) i R pb nl ih v m h =
      let p = must_out (null b) m (has_same nl m h) in
      ((p.0, ih b pb v p.0 p.1), p.2)

  nothing_acc : (v : Variables) (m : Bool) (l : List Deed) → Acc no_next v m l → ⊥
  nothing_acc v m [] (n, h, e) = no_mark n h
  nothing_acc v m (d ∷ l) (p, n, u, h, x, rest) = no_mark n h

  pad : (i b : ℕ) (B : Runs) → (null i).marked ≡ (null b).marked → Empty b B → (v : Variables) (a : List Deed) (u : Variables) (m n : Bool) → T (has (null i) n) → Rounds B v a u m → Rounds B v a u (n || m)
  pad i b B e z v a u m false h r = r
  pad i b B e z v a u m true h r = round (z v true (move e h)) r

  rounds_eq : (B : Runs) (v : Variables) (a c : List Deed) (u : Variables) (m n : Bool) → a ≡ c → m ≡ n → Rounds B v a u m → Rounds B v c u n
  rounds_eq B v a c u m n e f r = subst₂ (λ (x : List Deed) (y : Bool). Rounds B v x u y) e f r

  loop_front : (len i b : ℕ) (B : Runs) → (null i).marked ≡ (null b).marked → Empty b B → Fronts b B → follow b ≡ after (null i) (join (follow i) (first b))
      → (v : Variables) (m : Bool) (l : List Deed) → length l ≤ len → Acc (first b) v m l → Front (Rounds B) i v m l
  loop_front zero i b B e z fr fo v m l h x =
      let f = fr v m l x in
      let q : length l ≡ suc (length (f.front ++ f.back)) = ap length f.deeds in
      let w : ⊥ = omega arith in
      absurd w
  loop_front (suc len) i b B e z fr fo v m l h x =
      let f = fr v m l x in
      let q : length l ≡ suc (length (f.front ++ f.back)) = ap length f.deeds in
      let short : length f.back ≤ len = omega (arith, length-append f.front f.back) in
      let x₁ : Acc (after (null i) (join (follow i) (first b))) f.last (m || f.mark) f.back = reset F follow fo _ _ _ f.rest in
      let s = after_out F follow (null i) (join (follow i) (first b)) (m || f.mark) f.last f.back x₁ in
      elim (join_out F follow (follow i) (first b) (m || f.mark || s.0) f.last f.back s.2) [
        | inl y ↦ record {
          head = f.head;
          front = f.front;
          back = f.back;
          last = f.last;
          mark = f.mark || (s.0 || false);
          run = rounds_eq B v _ _ _ _ _ (append-nil (f.head ∷ f.front)) refl (round f.run (pad i b B e z f.last [] f.last false s.0 s.1 stop));
          rest = remark F follow (follow i) _ _ _ _ (or_assoc m f.mark s.0 ∙ ap (λ (c : Bool). m || (f.mark || c)) (sym (or-false s.0))) y;
          deeds = f.deeds;
        }
        | inr y ↦
            let g = loop_front len i b B e z fr fo f.last (m || f.mark || s.0) f.back short y in
            record {
              head = f.head;
              front = f.front ++ (g.head ∷ g.front);
              back = g.back;
              last = g.last;
              mark = f.mark || (s.0 || g.mark);
              run = round f.run (pad i b B e z f.last (g.head ∷ g.front) g.last g.mark s.0 s.1 g.run);
              rest = remark F follow (follow i) _ _ _ _ (or_assoc (m || f.mark) s.0 g.mark ∙ or_assoc m f.mark (s.0 || g.mark)) g.rest;
              deeds = f.deeds ∙ ap (λ (c : List Deed). f.head ∷ (f.front ++ c)) g.deeds ∙ ap (λ (c : List Deed). f.head ∷ c) (sym (append_assoc f.front (g.head ∷ g.front) g.back));
            }
      ]

  front_case : (f : Fragment) (i : ℕ) (R : ℕ → Runs) → F i ≡ f → Earlier f i → null i ≡ empty_of f null → first i ≡ first_of f i null first
      → PassesOn f i null first follow → ((j : ℕ) → j < i → Empty j (R j)) → ((j : ℕ) → j < i → Fronts j (R j)) → Fronts i (Of f R)
  front_case Skip i R e pb nl fi fo em ih v m l x = absurd (nothing_acc v m l (reset F follow fi m v l x))
  front_case (Fragment.Step q) i R e pb nl fi fo em ih v m [] (n, h, c) = absurd (no_mark n (along fi end n h))
  front_case (Fragment.Step q) i R e pb nl fi fo em ih v m (d ∷ l) (p, n, u, h, c, rest) =
      let w = at_step p i n (along fi (at p) n h) in
      let is : p ≡ i = w.0 in
      record {
        head = d;
        front = [];
        back = l;
        last = u;
        mark = false;
        run = (d, refl, subst (λ (k : Fragment). Fires k v d u) (ap F is ∙ e) c, refl);
        rest = subst₂ (λ (j : ℕ) (b : Bool). Acc (follow j) u (m || b) l) is w.1 rest;
        deeds = refl;
      }
  front_case (Seq l r) i R e pb nl fi fo em ih v m ds x =
      elim (join_out F follow (first l) (after (null l) (first r)) m v ds (reset F follow fi m v ds x)) [
        | inl y ↦ left (ih l pb.0 v m ds y)
        | inr y ↦
            let s = after_out F follow (null l) (first r) m v ds y in
            let g = ih r pb.1 v (m || s.0) ds s.2 in
            record {
              head = g.head;
              front = g.front;
              back = g.back;
              last = g.last;
              mark = s.0 || g.mark;
              run = record { front = []; back = g.head ∷ g.front; between = v; front_mark = s.0; back_mark = g.mark; left = em l pb.0 v s.0 s.1; right = g.run; deeds = refl; mark = refl };
              rest = on g.last _ _ g.back (or_assoc m s.0 g.mark) g.rest;
              deeds = g.deeds;
            }
      ]
    where
      on : (u : Variables) (j k : Bool) (b : List Deed) → j ≡ k → Acc (follow r) u j b → Acc (follow i) u k b
      on u j k b e y = remark F follow (follow i) j k u b e (reset F follow fo.1 j u b y)

      left : Front (R l) l v m ds → Front (Of (Seq l r) R) i v m ds
      left f =
          elim (join_out F follow (first r) (after (null r) (follow r)) (m || f.mark) f.last f.back (reset F follow fo.0 _ _ _ f.rest)) [
            | inl y ↦
                let g = ih r pb.1 f.last (m || f.mark) f.back y in
                record {
                  head = f.head;
                  front = f.front ++ (g.head ∷ g.front);
                  back = g.back;
                  last = g.last;
                  mark = f.mark || g.mark;
                  run = record { front = f.head ∷ f.front; back = g.head ∷ g.front; between = f.last; front_mark = f.mark; back_mark = g.mark; left = f.run; right = g.run; deeds = refl; mark = refl };
                  rest = on g.last _ _ g.back (or_assoc m f.mark g.mark) g.rest;
                  deeds = f.deeds ∙ ap (λ (c : List Deed). f.head ∷ (f.front ++ c)) g.deeds ∙ ap (λ (c : List Deed). f.head ∷ c) (sym (append_assoc f.front (g.head ∷ g.front) g.back));
                }
            | inr y ↦
                let s = after_out F follow (null r) (follow r) (m || f.mark) f.last f.back y in
                record {
                  head = f.head;
                  front = f.front;
                  back = f.back;
                  last = f.last;
                  mark = f.mark || s.0;
                  run = record { front = f.head ∷ f.front; back = []; between = f.last; front_mark = f.mark; back_mark = s.0; left = f.run; right = em r pb.1 f.last s.0 s.1; deeds = sym (append-nil (f.head ∷ f.front)); mark = refl };
                  rest = on f.last _ _ f.back (or_assoc m f.mark s.0) s.2;
                  deeds = f.deeds;
                }
          ]
  front_case (Alt l r) i R e pb nl fi fo em ih v m ds x =
      elim (join_out F follow (first l) (first r) m v ds (reset F follow fi m v ds x)) [
        | inl y ↦
            let g = ih l pb.0 v m ds y in
            record { head = g.head; front = g.front; back = g.back; last = g.last; mark = g.mark; run = inl g.run; rest = reset F follow fo.0 _ _ _ g.rest; deeds = g.deeds }
        | inr y ↦
            let g = ih r pb.1 v m ds y in
            record { head = g.head; front = g.front; back = g.back; last = g.last; mark = g.mark; run = inr g.run; rest = reset F follow fo.1 _ _ _ g.rest; deeds = g.deeds }
      ]
  front_case (Loop b) i R e pb nl fi fo em ih v m ds x =
      let s = after_out F follow (null i) (first b) m v ds (reset F follow fi m v ds x) in
      let g = loop_front (length ds) i b (R b) (ap (λ (k : Marks). k.marked) nl) (em b pb) (ih b pb) fo v (m || s.0) ds (omega arith) s.2 in
      record {
        head = g.head;
        front = g.front;
        back = g.back;
        last = g.last;
        mark = s.0 || g.mark;
        run = pad i b (R b) (ap (λ (k : Marks). k.marked) nl) (em b pb) v (g.head ∷ g.front) g.last g.mark s.0 s.1 g.run;
        rest = remark F follow (follow i) _ _ _ _ (or_assoc m s.0 g.mark) g.rest;
        deeds = g.deeds;
      }
  front_case (Neg b) i R e pb nl fi fo em ih v m ds x =
      let g = ih b pb v m ds (reset F follow fi m v ds x) in
      record {
        head = g.head;
        front = g.front;
        back = g.back;
        last = g.last;
        mark = true;
        run = ((g.mark, g.run), refl);
        rest = shift F follow (follow b) (m || g.mark) (follow i) (m || true) g.last g.back
            (λ t n h. let q = must_out (follow i t) n (along fo t n h) in (q.0, q.1, ap (λ (c : Bool). m || g.mark || c) q.2 ∙ or-true (m || g.mark) ∙ sym (ap (λ (c : Bool). c || q.0) (or-true m)))) g.rest;
        deeds = g.deeds;
      }

  -- l begins with a run of R, and i's follow set accepts the rest
  pub record Part (R : Runs) (i : ℕ) (v : Variables) (m : Bool) (l : List Deed) : Type 0 where
    pub front : List Deed
    pub back : List Deed
    pub last : Variables
    pub mark : Bool
    pub run : R v front last mark
    pub rest : Accepts F follow (follow i) last (m || mark) back
    pub deeds : l ≡ front ++ back

  module _ (n : ℕ) (ok : Filled F n null first follow) where
    empty_to : (k i : ℕ) → i < k → i < n → Empty i (meaning F i)
    empty_to zero i h g = let z : ⊥ = omega arith in absurd z
    empty_to (suc k) i h g = subst (λ (R : Runs). Empty i R) (sym (meaning_is F i (ok.earlier i g)))
        (empty_case (F i) i (meaning F) (ok.earlier i g) (ok.nulls i g) (λ j j<i. empty_to k j (omega arith) (omega arith)))

    pub empty : (i : ℕ) → i < n → Empty i (meaning F i)
    empty i h = empty_to (suc i) i (lt-suc_self i) h

    fronts_to : (k i : ℕ) → i < k → i < n → Fronts i (meaning F i)
    fronts_to zero i h g = let z : ⊥ = omega arith in absurd z
    fronts_to (suc k) i h g = subst (λ (R : Runs). Fronts i R) (sym (meaning_is F i (ok.earlier i g)))
        (front_case (F i) i (meaning F) refl (ok.earlier i g) (ok.nulls i g) (ok.firsts i g) (ok.follows i g)
        (λ j j<i. empty j (omega arith)) (λ j j<i. fronts_to k j (omega arith) (omega arith)))

    pub begins_run : (i : ℕ) → i < n → (v : Variables) (m : Bool) (l : List Deed) → Acc (start i) v m l → Part (meaning F i) i v m l
    begins_run i g v m l x = elim (join_out F follow (first i) (after (null i) (follow i)) m v l x) [
      | inl y ↦
          let f = fronts_to (suc i) i (lt-suc_self i) g v m l y in
          record { front = f.head ∷ f.front; back = f.back; last = f.last; mark = f.mark; run = f.run; rest = f.rest; deeds = f.deeds }
      | inr y ↦
          let s = after_out F follow (null i) (follow i) m v l y in
          record { front = []; back = l; last = v; mark = s.0; run = empty i g v s.0 s.1; rest = s.2; deeds = refl }
    ]
