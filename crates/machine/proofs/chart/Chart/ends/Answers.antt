use Rattle.std.proofs.Common.{◌≡◌, ℕ, ◌+◌, Bool, T, ◌↔◌, [], ◌∷◌, ◌++◌, length, length-append, sym, refl, ap, ◌∙◌, subst, inl, inr, arith}
use Rattle.std.proofs.lemmas.Bool.{false≢true}
use Rattle.std.proofs.lemmas.Iterator.{YieldsList-from_slice, YieldsList-from_zip}
use Rattle.std.proofs.lemmas.Iterator.Consumers.{YieldsList-from_enumerate, YieldsList-turn}
use Rattle.sheet.specs.declared.diagram.Fragment.{Fragment}
use Rattle.sheet.specs.declared.diagram.Variables.{Variables}
use Rattle.sheet.specs.Empties.{has}
use Rattle.followers.specs.Next.{end, Nexts}
use Rattle.followers.specs.Accepts.{Fires}
use Rattle.machine.specs.Pairs.{may, seen, Reached}
use Rattle.machine.specs.Charts.{kinds_of, follows_of}
use Rattle.machine.specs.Going.{EndsBelow}
use Rattle.machine.proofs.Together.{turn_at}
use Rattle.machine.proofs.Steps.{none_suits, ends_up, ends_found, ends_split, ends_idle}
use Rattle.machine.proofs.chart.Chart.ends.Goals as goal

pub returns-then-ends_at : goal.returns-then-ends_at
returns-then-ends_at c =
    let fs = c.args.self.now.fragments in
    let ns = c.args.self.now.follow in
    let F = kinds_of c.args.self.now in
    let K = follows_of c.args.self.now in
    let old = may c.args.marks.now in
    let d = c.args.d in
    let m = length c.loop-p.yielded in
    let few : length fs ≡ 64 = omega arith in
    let many : length ns ≡ 64 = omega arith in
    let road = YieldsList-from_enumerate (YieldsList-from_zip (YieldsList-from_slice fs (cc)) (YieldsList-from_slice ns (cc))) cc in
    let turn = YieldsList-turn road c.loop-p.yielded c.loop-p.p-iterator c.loop-p.yielded_by c.next.result c.next.new.self (c.in-Some.p, (c.in-Some.f, c.in-Some.next)) c.in-Some.is c.next.ensures.steps in
    let here = turn_at fs ns few many c.in-Some.p m c.in-Some.f.now c.in-Some.next.now turn.0 turn.1 in
    let more : length (c.loop-p.yielded ++ ((c.in-Some.p, (c.in-Some.f, c.in-Some.next)) ∷ [])) ≡ m + 1 = length-append c.loop-p.yielded _ in
    let t = c.in-Some-of.firing in
    let suits : (F m ≡ Fragment.Step t.step) × (t.deed ≡ d) = (sym here.1 ∙ c.in-Some-of.ensures.0, c.in-Some-of.ensures.1) in
    let Fired : ℕ → Type 0 = λ p. (u : Variables) (b : Bool) → T (has (seen c.reached-reached.result u) b) ↔ Reached (old p) t.step t.deed u b in
    let fired = subst Fired here.0 c.reached-reached.ensures in
    let there : c.end_marks-there.result ≡ K m end = c.end_marks-there.ensures ∙ ap (λ (k : Nexts). k end) here.2 in
    (λ _. ends_up F K old d (m + 1) 64 here.3 (ends_found F K old d m t suits (seen c.reached-reached.result) fired c.end_marks-there.result there (c.ends_at.ensures.0 c.if-ends_at.true)), λ _. refl)

pub loop-p-preserved-else-ends_at : goal.loop-p-preserved-else-ends_at
loop-p-preserved-else-ends_at c =
    let fs = c.args.self.now.fragments in
    let ns = c.args.self.now.follow in
    let F = kinds_of c.args.self.now in
    let K = follows_of c.args.self.now in
    let old = may c.args.marks.now in
    let d = c.args.d in
    let m = length c.loop-p.yielded in
    let few : length fs ≡ 64 = omega arith in
    let many : length ns ≡ 64 = omega arith in
    let road = YieldsList-from_enumerate (YieldsList-from_zip (YieldsList-from_slice fs (cc)) (YieldsList-from_slice ns (cc))) cc in
    let turn = YieldsList-turn road c.loop-p.yielded c.loop-p.p-iterator c.loop-p.yielded_by c.next.result c.next.new.self (c.in-Some.p, (c.in-Some.f, c.in-Some.next)) c.in-Some.is c.next.ensures.steps in
    let here = turn_at fs ns few many c.in-Some.p m c.in-Some.f.now c.in-Some.next.now turn.0 turn.1 in
    let more : length (c.loop-p.yielded ++ ((c.in-Some.p, (c.in-Some.f, c.in-Some.next)) ∷ [])) ≡ m + 1 = length-append c.loop-p.yielded _ in
    let t = c.in-Some-of.firing in
    let suits : (F m ≡ Fragment.Step t.step) × (t.deed ≡ d) = (sym here.1 ∙ c.in-Some-of.ensures.0, c.in-Some-of.ensures.1) in
    let Fired : ℕ → Type 0 = λ p. (u : Variables) (b : Bool) → T (has (seen c.reached-reached.result u) b) ↔ Reached (old p) t.step t.deed u b in
    let fired = subst Fired here.0 c.reached-reached.ensures in
    let there : c.end_marks-there.result ≡ K m end = c.end_marks-there.ensures ∙ ap (λ (k : Nexts). k end) here.2 in
    subst (λ (n : ℕ). EndsBelow F K old d n → ⊥) (sym more) (λ x. elim (ends_split F K old d m t suits (seen c.reached-reached.result) fired c.end_marks-there.result there x) [
      | inl y ↦ c.loop-p.invariant y
      | inr y ↦ false≢true (sym c.if-ends_at.false ∙ c.ends_at.ensures.1 y)
    ])

pub loop-p-preserved : goal.loop-p-preserved
loop-p-preserved c =
    let fs = c.args.self.now.fragments in
    let ns = c.args.self.now.follow in
    let F = kinds_of c.args.self.now in
    let K = follows_of c.args.self.now in
    let old = may c.args.marks.now in
    let d = c.args.d in
    let m = length c.loop-p.yielded in
    let few : length fs ≡ 64 = omega arith in
    let many : length ns ≡ 64 = omega arith in
    let road = YieldsList-from_enumerate (YieldsList-from_zip (YieldsList-from_slice fs (cc)) (YieldsList-from_slice ns (cc))) cc in
    let turn = YieldsList-turn road c.loop-p.yielded c.loop-p.p-iterator c.loop-p.yielded_by c.next.result c.next.new.self (c.in-Some.p, (c.in-Some.f, c.in-Some.next)) c.in-Some.is c.next.ensures.steps in
    let here = turn_at fs ns few many c.in-Some.p m c.in-Some.f.now c.in-Some.next.now turn.0 turn.1 in
    let more : length (c.loop-p.yielded ++ ((c.in-Some.p, (c.in-Some.f, c.in-Some.next)) ∷ [])) ≡ m + 1 = length-append c.loop-p.yielded _ in
    let idle : (v u : Variables) → Fires (F m) v d u → ⊥ = subst (λ (f : Fragment). (v u : Variables) → Fires f v d u → ⊥) here.1 (none_suits c.in-Some.f.now d c.of.result c.of.ensures c.in_default.not-Some) in
    subst (λ (n : ℕ). EndsBelow F K old d n → ⊥) (sym more) (λ x. c.loop-p.invariant (ends_idle F K old d m idle x))
