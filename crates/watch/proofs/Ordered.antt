-- What an order forbids, one action at a time, and when it is new.
use Rattle.std.proofs.Common.{◌≡◌, ℕ, Bool, true, false, cond, ◌⊎◌, List, [], ◌∷◌, Some, None, Option, Decides, refl, inl, inr, ⊎_elim}
use Rattle.std.proofs.lemmas.Bool.{both_ways}
use Rattle.watch.specs.declared.kinds.Kinds.{Kinds}
use Rattle.watch.specs.Meaning.{Iff, Alike, Shifted}
use Rattle.watch.specs.Sets.{no_kinds, member, In, union}
use Rattle.watch.specs.Orders.{Met, Followed, row, bars_kind, barred_after, Forbids}
use Rattle.watch.proofs.Digits.{in_or, in_none}
use Rattle.watch.proofs.Following.{met_none, met_more, met_as, followed_none, followed_more, followed_as}

module _ {X : Type 0} (kind : X → ℕ) where
  -- of one action alone only the kinds that are barred are met, and nothing follows it
  one_met : (barred : Kinds) (x : X) → Met kind (In barred) (x ∷ []) → In barred (kind x)
  one_met barred x m = ⊎_elim (λ i. i) (λ n. absurd (met_none kind _ n)) ((met_more kind (In barred) x []).0 m)

  one_follows : (P : ℕ → ℕ → Type 0) (x : X) → Followed kind P (x ∷ []) → ⊥
  one_follows P x f = ⊎_elim (met_none kind (P (kind x))) (followed_none kind P) ((followed_more kind P x []).0 f)

  pub one_barred : (after : List Kinds) (barred : Option Kinds) (x : X) → Decides (bars_kind barred (kind x)) (Forbids kind after barred (x ∷ []))
  one_barred after None x = ((λ _. tt), (λ _. refl))
  one_barred after (Some barred) x = (
    (λ i. inl ((met_more kind (In barred) x []).1 (inl i))),
    ⊎_elim (one_met barred x) (λ f. absurd (one_follows _ x f)),
  )

  -- what is met of a union
  met_on : (a b : Kinds) (l : List X) → Met kind (In (union a b)) l → Met kind (In a) l ⊎ Met kind (In b) l
  met_on a b l m =
      ⊎_elim
      (λ i. inl (record { one = m.one; within = m.within; such = i }))
      (λ i. inr (record { one = m.one; within = m.within; such = i }))
      ((in_or a b (kind m.one)).0 m.such)

  met_back : (a b : Kinds) (l : List X) → Met kind (In a) l ⊎ Met kind (In b) l → Met kind (In (union a b)) l
  met_back a b l = ⊎_elim (met_as kind _ _ (λ k i. (in_or a b k).1 (inl i)) l) (met_as kind _ _ (λ k i. (in_or a b k).1 (inr i)) l)

  -- the kinds that may not follow x join the barred ones, and a barred x breaks the order
  noted_one : (x : X) (after : List Kinds) (barred : Kinds) (b : Bool) → member barred (kind x) ≡ b → Shifted (Forbids kind after (Some barred)) x (Forbids kind after (cond b None (Some (union barred (row after (kind x))))))
  noted_one x after barred true is = record {
    on = λ l _. inl ((met_more kind (In barred) x l).1 (inl is));
    back = λ l _. tt;
  }
  noted_one x after barred false is =
      let P = λ (a b : ℕ). In (row after a) b in
      let set = row after (kind x) in
      record {
        on = λ l. ⊎_elim
            (λ m. ⊎_elim
            (λ n. inl ((met_more kind (In barred) x l).1 (inr n)))
            (λ n. inr ((followed_more kind P x l).1 (inl n)))
            (met_on barred set l m))
            (λ f. inr ((followed_more kind P x l).1 (inr f)));
        back = λ l. ⊎_elim
            (λ m. ⊎_elim (λ i. absurd (both_ways _ is i)) (λ n. inl (met_back barred set l (inl n))) ((met_more kind (In barred) x l).0 m))
            (λ f. ⊎_elim (λ n. inl (met_back barred set l (inr n))) inr ((followed_more kind P x l).0 f));
      }

  pub noted : (x : X) (after : List Kinds) (barred : Option Kinds) → Shifted (Forbids kind after barred) x (Forbids kind after (barred_after barred (row after (kind x)) (kind x)))
  noted x after None = record { on = λ l f. f; back = λ l f. f }
  noted x after (Some barred) = noted_one x after barred (member barred (kind x)) refl

  -- a new order bars nothing by itself, and its table has the pairs
  pub order_new : (after : List Kinds) (P : ℕ → ℕ → Type 0) → ((a b : ℕ) → Iff (In (row after a) b) (P a b)) → Alike (Forbids kind after (Some no_kinds)) (Followed kind P)
  order_new after P has l = (
    ⊎_elim (λ m. absurd (in_none _ m.such)) (followed_as kind _ P (λ a b. (has a b).0) l),
    (λ f. inr (followed_as kind P _ (λ a b. (has a b).1) l f)),
  )
