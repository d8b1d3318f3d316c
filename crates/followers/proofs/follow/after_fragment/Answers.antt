use Rattle.std.proofs.Common.{◌≡◌, ℕ, ◌∙◌, ap₂}
use Rattle.sheet.specs.declared.diagram.Fragment.{Fragment}
use Rattle.sheet.specs.Forbid.{fragment}
use Rattle.sheet.proofs.Sound.{sound}
use Rattle.followers.specs.Next.{Nexts}
use Rattle.followers.specs.Words.{nexts}
use Rattle.followers.specs.Followers.{Later, follow_at, next_after}
use Rattle.followers.proofs.Following.{past_out, same_place}
use Rattle.followers.proofs.follow.after_fragment.Goals as goal

pub returns : goal.returns
returns c =
    let d = c.args.sheet.now.diagram in
    let p = c.args.p in
    let g = sound d c.args.sheet.now.ok in
    let at = same_place (λ (F : ℕ → Fragment) (i : ℕ). follow_at F p i) c.whole.ensures.sheet c.whole.ensures.index in
    let e : nexts c.followers.result ≡ next_after (fragment d) d.count p = c.followers.ensures ∙ ap₂ (λ (L : Later) (K : Nexts). L K) at c.only_end-end.ensures in
    record { is = e; none = λ h. e ∙ past_out (fragment d) d.count g.tree p g.some h }
