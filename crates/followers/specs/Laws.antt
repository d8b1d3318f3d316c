-- What first steps and followers mean.
use Rattle.std.specs.Prelude.{◌≡◌, true, false, ◌↔◌, List}
use Rattle.action.specs.declared.deed.Deed.{Deed}
use Rattle.sheet.specs.declared.diagram.Diagram.{Diagram}
use Rattle.sheet.specs.Forbid.{fragment, Negative}
use Rattle.sheet.specs.Rules.{accepted}
use Rattle.followers.specs.Accepts.{Accepts}
use Rattle.followers.specs.Followers.{begin_of, next_after}

-- from what may come first, over what may come after each step
abbrev pub Leads : Diagram → List Deed → Type 0
Leads d l = Accepts (fragment d) (next_after (fragment d) d.count) (begin_of (fragment d) d.count) d.start false l

-- of an accepted diagram, the lists that lead to a marked end are the negative traces
abbrev pub FindsNegatives : Type 0
FindsNegatives = (d : Diagram) → accepted d ≡ true → (l : List Deed) → Negative d l ↔ Leads d l
