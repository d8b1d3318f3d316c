use Rattle.std.proofs.Common.{◌≡◌, ℕ, sym, refl, ap, ◌∙◌, arith, rules}
use native.Mathlib.Decide.{dec_lt}
use Rattle.std.proofs.lemmas.List.{get_or_past}
use Rattle.sheet.specs.Forbid.{fragment}
use Rattle.sheet.proofs.Sound.{sound}
use Rattle.followers.specs.declared.sets.NextSet.{NextSet}
use Rattle.followers.specs.Followers.{next_after}
use Rattle.followers.specs.Words.{nexts}
use Rattle.followers.proofs.Words.{none_next}
use Rattle.followers.proofs.Following.{past_out}
use Rattle.machine.specs.Charts.{no_set}
use Rattle.action.proofs.Arrays.{made}
use Rattle.machine.proofs.chart.Chart.new.Goals as goal

pub returns-clause-kinds : goal.returns-clause-kinds
returns-clause-kinds c = refl

pub returns-clause-follows : goal.returns-clause-follows
returns-clause-follows c = λ p.
    let d = c.args.sheet.now.diagram in
    let xs = c.from_fn-follow.result in
    let g = sound d c.args.sheet.now.ok in
    elim (dec_lt p 64) [
      | yes l ↦ made _ _ (λ (i : ℕ) (s : NextSet). nexts s ≡ next_after (fragment d) d.count i) (λ i y q h. search rules) xs no_set 64 c.from_fn-follow.ensures.items p l
      | no l ↦ ap nexts (get_or_past xs p no_set (omega arith)) ∙ none_next ∙ sym (past_out (fragment d) d.count g.tree p g.some (omega (arith, g.most)))
    ]
