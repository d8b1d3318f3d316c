use Rattle.std.proofs.Common.{ℕ, sym, ◌∙◌, ap₂, rules}
use Rattle.sheet.specs.declared.diagram.Fragment.{Fragment}
use Rattle.sheet.specs.declared.diagram.Fragment.TheVariants.{Seq}
use Rattle.followers.specs.Next.{Nexts, join}
use Rattle.followers.specs.Words.{nexts}
use Rattle.followers.specs.Followers.{Later, enter_at, follow_at}
use Rattle.followers.proofs.Following.{follow_part, same_place}
use Rattle.followers.proofs.follow.Place.+followers.Goals as goal

pub returns-in-Seq : goal.returns-in-Seq
returns-in-Seq t c =
    let p = c.args.p in
    let K = nexts c.args.next in
    let left = same_place (λ (F : ℕ → Fragment) (i : ℕ). follow_at F p i) c.part-left.ensures.sheet c.part-left.ensures.index in
    let right = same_place (λ (F : ℕ → Fragment) (i : ℕ). follow_at F p i K) c.part-right.ensures.sheet c.part-right.ensures.index in
    let enter = same_place (λ (F : ℕ → Fragment) (i : ℕ). enter_at F i K) c.part-right.ensures.sheet c.part-right.ensures.index in
    c.union.ensures
    ∙ ap₂ join (c.followers.ensures ∙ ap₂ (λ (L : Later) (X : Nexts). L X) left (c.enter.ensures ∙ enter)) (c.followers-in-Seq.ensures ∙ right)
    ∙ sym (follow_part c.args.self.sheet.now.diagram c.args.self.index c.kind.result c.kind.ensures.is c.kind.ensures.earlier p c.if-p-self.false (Seq c.in-Seq.l c.in-Seq.r) c.in-Seq.is K)

pub returns-in-Alt : goal.returns-in-Alt
returns-in-Alt t c = search (rules, follow_part)

pub returns-in-Loop : goal.returns-in-Loop
returns-in-Loop t c = search (rules, follow_part)

pub returns-in-Neg : goal.returns-in-Neg
returns-in-Neg t c = search (rules, follow_part)
