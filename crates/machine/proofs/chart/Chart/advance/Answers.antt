use Rattle.std.proofs.Common.{◌≡◌, ℕ, ◌+◌, ◌≤◌, Bool, ◌||◌, T, ◌⊎◌, ◌↔◌, List, [], ◌∷◌, ◌++◌, length, length-append, Decides, sym, ap, ◌∙◌, subst, arith}
use Rattle.std.proofs.lemmas.Bool.Decides.{Decides-like}
use Rattle.std.proofs.lemmas.Iterator.{YieldsList-from_slice, YieldsList-from_zip}
use Rattle.std.proofs.lemmas.Iterator.Consumers.{YieldsList-from_enumerate, YieldsList-turn, YieldsList-end}
use Rattle.sheet.specs.declared.diagram.Fragment.{Fragment}
use Rattle.sheet.specs.declared.diagram.Variables.{Variables}
use Rattle.sheet.specs.Empties.{has, both}
use Rattle.followers.specs.Next.{at, end, Nexts}
use Rattle.followers.specs.Accepts.{Fires}
use Rattle.machine.specs.Pairs.{may, seen, Reached}
use Rattle.machine.specs.Charts.{kinds_of, follows_of}
use Rattle.machine.specs.Going.{EndsBelow, MovesBelow}
use Rattle.machine.proofs.Together.{turns, turn_at}
use Rattle.machine.proofs.Steps.{none_suits, ends_up, ends_decided, ends_idle, moves_more, moves_idle}
use Rattle.machine.proofs.chart.Chart.advance.Goals as goal

pub loop-p-preserved-in-Some-of : goal.loop-p-preserved-in-Some-of
loop-p-preserved-in-Some-of c =
    let fs = c.args.self.now.fragments in
    let ns = c.args.self.now.follow in
    let F = kinds_of c.args.self.now in
    let K = follows_of c.args.self.now in
    let old = may c.args.old.now in
    let d = c.args.d in
    let m = length c.loop-p.yielded in
    let few : length fs ≡ 64 = omega arith in
    let many : length ns ≡ 64 = omega arith in
    let road = YieldsList-from_enumerate (YieldsList-from_zip (YieldsList-from_slice fs (cc)) (YieldsList-from_slice ns (cc))) cc in
    let turn = YieldsList-turn road c.loop-p.yielded c.loop-p.p-iterator c.loop-p.yielded_by c.next.result c.next.new.self (c.in-Some.p, (c.in-Some.f, c.in-Some.next)) c.in-Some.is c.next.ensures.steps in
    let here = turn_at fs ns few many c.in-Some.p m c.in-Some.f.now c.in-Some.next.now turn.0 turn.1 in
    let more : length (c.loop-p.yielded ++ ((c.in-Some.p, (c.in-Some.f, c.in-Some.next)) ∷ [])) ≡ m + 1 = length-append c.loop-p.yielded _ in
    let t = c.in-Some-of.firing in
    let suits : (F m ≡ Fragment.Step t.step) × (t.deed ≡ d) = (sym here.1 ∙ c.in-Some-of.ensures.0, c.in-Some-of.ensures.1) in
    let Fired : ℕ → Type 0 = λ p. (u : Variables) (b : Bool) → T (has (seen c.reached-reached.result u) b) ↔ Reached (old p) t.step t.deed u b in
    let fired = subst Fired here.0 c.reached-reached.ensures in
    let there : c.end_marks-there.result ≡ K m end = c.end_marks-there.ensures ∙ ap (λ (k : Nexts). k end) here.2 in
    let Marked : ℕ → List ℕ → Type 0 = λ n xs. (q : ℕ) (u : Variables) (k : Bool) → T (has (may xs q u) k) ↔ (T (has (may c.args.marks.now q u) k) ⊎ MovesBelow F K old d n q u k) in
    let Ended : ℕ → Bool → Type 0 = λ n b. Decides b (EndsBelow F K old d n) in
    let Spread : Nexts → Type 0 = λ k. (j : ℕ) (u : Variables) (b : Bool) → T (has (may c.spread_all.new.marks j u) b) ↔ (T (has (may c.loop-p.marks j u) b) ⊎ T (has (both (seen c.reached-reached.result u) (k (at j))) b)) in (
      subst (λ (n : ℕ). Ended n (c.loop-p.ended || c.ends_at-ended.result)) (sym more) (ends_decided F K old d m t suits (seen c.reached-reached.result) fired c.end_marks-there.result there c.loop-p.ended c.ends_at-ended.result c.loop-p.invariant.0 c.ends_at-ended.ensures),
      subst (λ (n : ℕ). Marked n c.spread_all.new.marks) (sym more) (moves_more F K old d m t suits (seen c.reached-reached.result) fired (may c.args.marks.now) (may c.loop-p.marks) (may c.spread_all.new.marks) (subst Spread here.2 c.spread_all.ensures) c.loop-p.invariant.1),
    )

pub loop-p-preserved : goal.loop-p-preserved
loop-p-preserved c =
    let fs = c.args.self.now.fragments in
    let ns = c.args.self.now.follow in
    let F = kinds_of c.args.self.now in
    let K = follows_of c.args.self.now in
    let old = may c.args.old.now in
    let d = c.args.d in
    let m = length c.loop-p.yielded in
    let next : m ≤ m + 1 = omega arith in
    let few : length fs ≡ 64 = omega arith in
    let many : length ns ≡ 64 = omega arith in
    let road = YieldsList-from_enumerate (YieldsList-from_zip (YieldsList-from_slice fs (cc)) (YieldsList-from_slice ns (cc))) cc in
    let turn = YieldsList-turn road c.loop-p.yielded c.loop-p.p-iterator c.loop-p.yielded_by c.next.result c.next.new.self (c.in-Some.p, (c.in-Some.f, c.in-Some.next)) c.in-Some.is c.next.ensures.steps in
    let here = turn_at fs ns few many c.in-Some.p m c.in-Some.f.now c.in-Some.next.now turn.0 turn.1 in
    let more : length (c.loop-p.yielded ++ ((c.in-Some.p, (c.in-Some.f, c.in-Some.next)) ∷ [])) ≡ m + 1 = length-append c.loop-p.yielded _ in
    let idle : (v u : Variables) → Fires (F m) v d u → ⊥ = subst (λ (f : Fragment). (v u : Variables) → Fires f v d u → ⊥) here.1 (none_suits c.in-Some.f.now d c.of.result c.of.ensures c.in_default.not-Some) in
    let Marked : ℕ → List ℕ → Type 0 = λ n xs. (q : ℕ) (u : Variables) (k : Bool) → T (has (may xs q u) k) ↔ (T (has (may c.args.marks.now q u) k) ⊎ MovesBelow F K old d n q u k) in
    let Ended : ℕ → Bool → Type 0 = λ n b. Decides b (EndsBelow F K old d n) in (
      subst (λ (n : ℕ). Ended n c.loop-p.ended) (sym more) (Decides-like c.loop-p.ended (ends_up F K old d m (m + 1) next) (ends_idle F K old d m idle) c.loop-p.invariant.0),
      subst (λ (n : ℕ). Marked n c.loop-p.marks) (sym more) (moves_idle F K old d m idle (may c.args.marks.now) (may c.loop-p.marks) c.loop-p.invariant.1),
    )

pub returns : goal.returns
returns c =
    let fs = c.args.self.now.fragments in
    let ns = c.args.self.now.follow in
    let F = kinds_of c.args.self.now in
    let K = follows_of c.args.self.now in
    let old = may c.args.old.now in
    let d = c.args.d in
    let few : length fs ≡ 64 = omega arith in
    let many : length ns ≡ 64 = omega arith in
    let road = YieldsList-from_enumerate (YieldsList-from_zip (YieldsList-from_slice fs (cc)) (YieldsList-from_slice ns (cc))) cc in
    let end = YieldsList-end road c.loop-p.yielded c.loop-p.p-iterator c.loop-p.yielded_by c.next.result c.next.new.self c.in-None.is c.next.ensures.steps in
    let all : length c.loop-p.yielded ≡ 64 = end.1 ∙ turns fs ns few many in
    let Ended : ℕ → Type 0 = λ n. Decides c.loop-p.ended (EndsBelow F K old d n) in
    let Marked : ℕ → Type 0 = λ n. (q : ℕ) (u : Variables) (k : Bool) → T (has (may c.loop-p.marks q u) k) ↔ (T (has (may c.args.marks.now q u) k) ⊎ MovesBelow F K old d n q u k) in
    record { ended = subst Ended all c.loop-p.invariant.0; marks = subst Marked all c.loop-p.invariant.1 }
