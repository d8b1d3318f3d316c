-- What a narrowed watch forbids.
use Rattle.std.specs.Prelude.{ℕ, cond, List, Some, None, Option, ◌==◌}
use Rattle.action.specs.declared.deed.Deed.{Deed}
use Rattle.action.specs.Deeds.{partner}
use Rattle.watch.specs.declared.narrowed.Narrowed.{Narrowed}
use Rattle.watch.specs.Shown.{shown}

abbrev pub if_with : ℕ → Deed → Option Deed
if_with p d = cond (partner d == p) (Some d) None

-- the deeds of a list that are exchanged with the partner p
abbrev pub with_partner : ℕ → List Deed → List Deed
with_partner p l = shown (if_with p) l

abbrev pub narrowed_forbids : {W : Type 0} → (W → List Deed → Type 0) → Narrowed W → List Deed → Type 0
narrowed_forbids F n l = F n.below (with_partner n.partner.value l)
