-- What an order forbids.
use Rattle.std.specs.Prelude.{◌≡◌, ℕ, ◌<◌, Bool, true, cond, ◌⊎◌, List, [], ◌∷◌, length, get_or, Some, None, Option, Ok, Err, Result, slice_index_or}
use Rattle.fault.specs.declared.fault.Fault.{Fault}
use Rattle.fault.specs.declared.fault.Fault.TheVariants.{OutOfRange}
use Rattle.action.specs.Ranges.{highest_kind}
use Rattle.action.specs.Traces.{Sub}
use Rattle.watch.specs.declared.kinds.Kinds.{Kinds}
use Rattle.watch.specs.declared.order.Order.{Order}
use Rattle.watch.specs.Meaning.{Iff, Alike}
use Rattle.watch.specs.Sets.{no_kinds, member, In, union}

-- an action of the list is followed, with or without gaps, by one, and P holds of their kinds
pub record Followed {X : Type 0} (kind : X → ℕ) (P : ℕ → ℕ → Type 0) (l : List X) : Type 0 where
  pub earlier : X
  pub later : X
  pub within : Sub (earlier ∷ later ∷ []) l
  pub such : P (kind earlier) (kind later)

-- a and b are one of the pairs
abbrev pub Paired : List (ℕ × ℕ) → ℕ → ℕ → Type 0
Paired pairs a b = (i : ℕ) × (i < length pairs) × (slice_index_or pairs i (0, 0) ≡ (a, b))

-- one of the pairs has a number that is no kind
abbrev pub Outside : List (ℕ × ℕ) → Type 0
Outside pairs = (i : ℕ) × (i < length pairs) × ((highest_kind < (get_or pairs i (0, 0)).0) ⊎ (highest_kind < (get_or pairs i (0, 0)).1))

-- an action of the list is of a kind that P holds of
pub record Met {X : Type 0} (kind : X → ℕ) (P : ℕ → Type 0) (l : List X) : Type 0 where
  pub one : X
  pub within : Sub (one ∷ []) l
  pub such : P (kind one)

-- the set of those that may not follow the kind k
abbrev pub row : List Kinds → ℕ → Kinds
row after k = get_or after k no_kinds

-- where the set of those that may not come any more is barred, until such a one came: whether the kind k may not come
abbrev pub bars_kind : Option Kinds → ℕ → Bool
bars_kind None k = true
bars_kind (Some barred) k = member barred k

-- that set once one of the kind k came, where those of a set may not follow it
abbrev pub barred_after : Option Kinds → Kinds → ℕ → Option Kinds
barred_after None set k = None
barred_after (Some barred) set k = cond (member barred k) None (Some (union barred set))

-- an order knows for each kind the set of those that may not follow it, and the set of those that may not come any
-- more; once such a one came, it forbids every list
abbrev pub Forbids : {X : Type 0} → (X → ℕ) → List Kinds → Option Kinds → List X → Type 0
Forbids kind after None l = Unit {0}
Forbids kind after (Some barred) l = Met kind (In barred) l ⊎ Followed kind (λ a b. In (row after a) b) l

abbrev pub order_forbids : {X : Type 0} → (X → ℕ) → Order X → List X → Type 0
order_forbids kind o = Forbids kind o.after o.barred

-- a new order, or refusal 13 exactly where a pair has a number that is no kind
abbrev pub NewOrder : {X : Type 0} → (X → ℕ) → List (ℕ × ℕ) → Result (Order X) Fault → Type 0
NewOrder kind pairs (Ok o) = (Outside pairs → ⊥) × Alike (order_forbids kind o) (Followed kind (Paired pairs))
NewOrder kind pairs (Err f) = Outside pairs × (f ≡ OutOfRange)

-- its table, which has the pairs and no other
abbrev pub Tabled : List (ℕ × ℕ) → Result (List Kinds) Fault → Type 0
Tabled pairs (Ok after) = (Outside pairs → ⊥) × ((a b : ℕ) → Iff (In (row after a) b) (Paired pairs a b))
Tabled pairs (Err f) = Outside pairs × (f ≡ OutOfRange)
