-- The leaving-out law of each watch, those over others by the laws of theirs.
use Rattle.std.specs.Prelude.{ℕ, List, Some, None, Option}
use Rattle.std.proofs.Common.{⊎_elim, inl, inr, arith}
use Rattle.action.specs.Traces.{Sub, none, keep, skip}
use Rattle.action.proofs.Traces.{sub_trans, sub_tally}
use Rattle.action.specs.declared.deed.Deed.{Deed}
use Rattle.watch.specs.declared.cap.Cap.{Cap}
use Rattle.watch.specs.declared.kinds.Kinds.{Kinds}
use Rattle.watch.specs.declared.narrowed.Narrowed.{Narrowed}
use Rattle.watch.specs.declared.order.Order.{Order}
use Rattle.watch.specs.Meaning.{LeavesOut}
use Rattle.watch.specs.Shown.{joined, shown}
use Rattle.watch.specs.Caps.{OverLeft, cap_forbids}
use Rattle.watch.specs.Sets.{In}
use Rattle.watch.specs.Orders.{Met, Followed, row, Forbids, order_forbids}
use Rattle.watch.specs.Pairs.{Either}
use Rattle.watch.specs.Narrows.{if_with, narrowed_forbids}

left_leaves : {X : Type 0} (kind : X → ℕ) (k : ℕ) (left : Option ℕ) → LeavesOut (OverLeft kind k left)
left_leaves kind k None s l sub over = over
left_leaves kind k (Some left) s l sub over = let h = sub_tally kind k sub in omega arith

pub cap_leaves : {X : Type 0} (kind : X → ℕ) (c : Cap X) → LeavesOut (cap_forbids kind c)
cap_leaves kind c = left_leaves kind c.kind.value c.left

pub met_leaves : {X : Type 0} (kind : X → ℕ) (P : ℕ → Type 0) → LeavesOut (Met kind P)
met_leaves kind P s l sub m = record { one = m.one; within = sub_trans m.within sub; such = m.such }

pub followed_leaves : {X : Type 0} (kind : X → ℕ) (P : ℕ → ℕ → Type 0) → LeavesOut (Followed kind P)
followed_leaves kind P s l sub f = record { earlier = f.earlier; later = f.later; within = sub_trans f.within sub; such = f.such }

barred_leaves : {X : Type 0} (kind : X → ℕ) (after : List Kinds) (barred : Option Kinds) → LeavesOut (Forbids kind after barred)
barred_leaves kind after None s l sub f = f
barred_leaves kind after (Some barred) s l sub f =
    ⊎_elim (λ m. inl (met_leaves kind (In barred) s l sub m)) (λ e. inr (followed_leaves kind (λ a b. In (row after a) b) s l sub e)) f

pub order_leaves : {X : Type 0} (kind : X → ℕ) (o : Order X) → LeavesOut (order_forbids kind o)
order_leaves kind o = barred_leaves kind o.after o.barred

pub pair_leaves : {X : Type 0} (F G : List X → Type 0) → LeavesOut F → LeavesOut G → LeavesOut (Either F G)
pair_leaves F G f g s l sub = ⊎_elim (λ p. inl (f s l sub p)) (λ p. inr (g s l sub p))

-- what is left out of a list is left out of what is shown of it
kept : {X : Type 0} (o : Option X) {s l : List X} → Sub s l → Sub (joined o s) (joined o l)
kept (Some x) p = keep p
kept None p = p

skipped : {X : Type 0} (o : Option X) {s l : List X} → Sub s l → Sub s (joined o l)
skipped (Some x) p = skip p
skipped None p = p

pub shown_sub : {X Y : Type 0} (f : Y → Option X) {s l : List Y} → Sub s l → Sub (shown f s) (shown f l)
shown_sub f none = none
shown_sub f (keep {x} p) = kept (f x) (shown_sub f p)
shown_sub f (skip {x} p) = skipped (f x) (shown_sub f p)

pub shown_leaves : {X Y : Type 0} (f : Y → Option X) (F : List X → Type 0) → LeavesOut F → LeavesOut (λ l. F (shown f l))
shown_leaves f F law s l sub = law (shown f s) (shown f l) (shown_sub f sub)

pub narrowed_leaves : {W : Type 0} (F : W → List Deed → Type 0) (n : Narrowed W) → LeavesOut (F n.below) → LeavesOut (narrowed_forbids F n)
narrowed_leaves F n law = shown_leaves (if_with n.partner.value) (F n.below) law
