use Rattle.std.proofs.Common.{◌∙◌, ap₂}
use Rattle.followers.specs.Next.{Nexts}
use Rattle.followers.specs.Followers.{enter_at}
use Rattle.followers.proofs.Following.{same_place}
use Rattle.followers.proofs.follow.begin.Goals as goal

pub returns : goal.returns
returns c = c.enter.ensures ∙ ap₂ (λ (E : Nexts → Nexts) (K : Nexts). E K) (same_place enter_at c.whole.ensures.sheet c.whole.ensures.index) c.only_end-end.ensures
