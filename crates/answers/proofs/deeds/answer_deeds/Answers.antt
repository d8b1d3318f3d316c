use Rattle.std.proofs.Common.{◌≡◌, ℕ, ◌+◌, ◌≤◌, Bool, false, List, map, length, take, ap, ◌∙◌, subst, zero-add, arith, length-take}
use Rattle.std.proofs.lemmas.List.{take-take}
use Rattle.action.specs.declared.deed.Deed.{Deed}
use Rattle.action.specs.Deeds.{signal}
use Rattle.action.specs.Traces.{tally}
use Rattle.sheet.specs.Forbid.{Forbids}
use Rattle.sheet_watch.specs.declared.watching.SheetWatch.{SheetWatch}
use Rattle.sheet_watch.specs.Watching.{Forbidden}
use Rattle.host.specs.declared.board.Board.{Board}
use Rattle.host.specs.Boards.{counted, Within}
use Rattle.gate.specs.declared.ask.Ask.{Ask}
use Rattle.gate.specs.declared.gate.Gate.{Gate}
use Rattle.gate.specs.declared.closed.Closed.{Closed}
use Rattle.gate.specs.Words.{said}
use Rattle.gate.specs.Ledger.{opening, Runs, submits, done_of, stop_of}
use Rattle.gate.specs.Promise.{RepliesAsFresh, RestNeverStops}
use Rattle.gate.proofs.Ledgers.{runs_alike, runs_stop, runs_decide}
use Rattle.gate.proofs.Fresh.{rest_alike}
use Rattle.answers.specs.Answered.{Few, known_of}
use Rattle.answers.proofs.Submitting.{length-submits, take_submits}
use Rattle.answers.proofs.deeds.answer_deeds.Goals as goal

pub returns : goal.returns
returns c =
    let s = c.run-many.ensures in
    let r : ℕ = c.run-many.result in
    let ds : List Deed = c.args.deeds.now in
    let d = c.args.sheet.now.diagram in
    let asks : List (Ask Deed) = c.submit_all-asks.result in
    let n : ℕ = c.min-few.result in
    let qs : List (Ask Deed) = take r (take n asks) in
    let ws = map said (take r c.run-many.new.replies) in
    let long : length (take n ds) ≡ n = omega (arith, c.min-few.ensures, length-take n ds) in
    let submitted : take n asks ≡ submits (take n ds) = subst (λ (k : ℕ). take k asks ≡ submits (take n ds)) long c.submit_all-asks.ensures in
    let all : length (take n asks) ≡ n = ap length submitted ∙ length-submits (take n ds) ∙ long in
    let few : r ≤ n = omega (arith, s.many) in
    let same : qs ≡ submits (take r ds) = ap (take r) submitted ∙ take_submits r (take n ds) ∙ ap submits (take-take r n ds few) in
    let At : Gate SheetWatch (Board Deed) → Type 0 =
    λ g. Runs (record { forbids = Forbidden g.watch; can = Within signal g.host.counts; counts = counted g.host.counts; kind = signal }) (opening g.stopped) qs ws (record { done = done_of qs ws; stopped = c.run-many.new.self.stopped }) in
    let opened = runs_alike (Forbids d) Few (λ _. 0) c.new.ensures (λ l. (c.new-2.ensures.only l, c.new-2.ensures.every l)) c.new-2.ensures.zero (subst At c.open-gate.ensures s.ledger) in
    let stop = runs_stop opened in
    let fresh = subst (λ (b : Bool). Runs (known_of d) (opening false) qs ws (record { done = done_of qs ws; stopped = b })) stop opened in
    let ledger = subst (λ (qs : List (Ask Deed)). RepliesAsFresh (known_of d) qs ws) same fresh in
    let Rest : Gate SheetWatch (Board Deed) → Type 0 = λ g. RestNeverStops (Forbidden g.watch) signal (done_of qs ws) in
    let rest = rest_alike (Forbidden c.new.result) (Forbids d) signal (done_of qs ws) c.new.ensures (subst Rest c.open-gate.ensures s.shortened) in
    let Counts : Gate SheetWatch (Board Deed) → Type 0 = λ g. (k : ℕ) → counted c.run-many.new.self.host.counts k ≡ counted g.host.counts k + tally signal k (done_of qs ws) in
    let counts = subst Counts c.open-gate.ensures s.carried.counted in
    record {
      many = omega (arith, s.many, c.min-few.ensures);
      later = s.later;
      answered = record {
        ledger = ledger;
        decided = runs_decide ledger;
        shortened = subst (λ (qs : List (Ask Deed)). RestNeverStops (Forbids d) signal (done_of qs ws)) same rest;
        stopped = ap (λ (g : Closed (Board Deed)). g.stopped) c.close.ensures ∙ stop ∙ ap (λ (qs : List (Ask Deed)). stop_of false qs ws) same;
        counted = λ k.
            ap (λ (g : Closed (Board Deed)). counted g.host.counts k) c.close.ensures ∙ counts k ∙ ap (λ (m : ℕ). m + tally signal k (done_of qs ws)) (c.new-2.ensures.zero k) ∙ zero-add (tally signal k (done_of qs ws))
            ∙ ap (λ (qs : List (Ask Deed)). tally signal k (done_of qs ws)) same;
      };
    }
