use Rattle.std.proofs.Common.{◌≡◌, List, [], ◌∷◌, ◌++◌, length, get_or, take, sym, ap, ◌∙◌, arith, length-set}
use Rattle.std.proofs.lemmas.List.{take_all, take_more, take_more_set}
use Rattle.action.specs.declared.deed.Deed.{Deed}
use Rattle.gate.specs.declared.ask.Ask.{Ask}
use Rattle.gate.specs.declared.ask.Ask.TheVariants.{Submit}
use Rattle.gate.specs.Ledger.{submits}
use Rattle.answers.proofs.Submitting.{submits_more}
use Rattle.answers.proofs.deeds.submit_all.Goals as goal

pub loop-i-preserved : goal.loop-i-preserved
loop-i-preserved c =
    let ds = c.args.deeds.now in
    let i = c.loop-i.i in
    let none : Deed = record { address = 0; signal = 0; first = 0; second = 0 } in
    let x : Deed = get_or ds i none in record {
      long = length-set c.loop-i.asks i (Submit x) ∙ c.loop-i.invariant.long;
      so_far = take_more_set c.loop-i.asks i (Submit x) (omega arith)
          ∙ ap (λ (l : List (Ask Deed)). l ++ (Submit x ∷ [])) c.loop-i.invariant.so_far
          ∙ sym (submits_more (take i ds) x)
          ∙ ap submits (sym (take_more ds i none (omega arith)));
    }

pub returns : goal.returns
returns c =
    let ds = c.args.deeds.now in
    let all_of : c.loop-i.i ≡ length ds = omega arith in
    rw all_of at (c.loop-i.invariant.so_far ∙ ap submits (take_all c.loop-i.i ds (omega arith)))
