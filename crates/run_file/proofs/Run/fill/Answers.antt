use Rattle.std.proofs.Common.{◌≡◌, ℕ, ◌≤◌, ◌++◌, List, length, map, drop, zip, ap, ◌∙◌, length-append, arith}
use Rattle.std.proofs.lemmas.Iterator.{YieldsList-from_slice, YieldsList-from_zip}
use Rattle.std.proofs.lemmas.Iterator.Consumers.{YieldsList-from_enumerate, YieldsList-turn, YieldsList-end}
use Rattle.std.proofs.lemmas.List.FromFn.{length-enumerate_from}
use Rattle.std.proofs.lemmas.Slice.Zip.{length-zip}
use Rattle.run_file.specs.Runs.{deed_in}
use Rattle.run_file.proofs.Fronts.{front_turn, front_all}
use Rattle.run_file.proofs.Run.fill.Goals as goal

paired : (heads : List (List ℕ)) (arguments : List ℕ) → length heads ≡ length arguments → length (zip heads arguments) ≡ length arguments
paired heads arguments e = length-zip heads arguments ∙ grind arith

pub loop-i-preserved : goal.loop-i-preserved
loop-i-preserved c =
    let heads = c.args.self.now.heads.now in
    let arguments = c.args.self.now.arguments.now in
    let many = paired heads arguments c.args.self.now.many in
    let room : length (zip heads arguments) ≤ length c.args.out.now = omega (arith, many, c.requires) in
    let road = YieldsList-from_enumerate (YieldsList-from_zip (YieldsList-from_slice heads (cc)) (YieldsList-from_slice arguments (cc))) cc in
    let turn = YieldsList-turn road c.loop-i.yielded c.loop-i.i-iterator c.loop-i.yielded_by c.next.result c.next.new.self (c.in-Some.i, (c.in-Some.head, c.in-Some.arguments)) c.in-Some.is c.next.ensures.steps in
    front_turn deed_in (zip heads arguments) c.args.out.now c.loop-i.out _ c.in-Some.i _ _ (c.in-Some.head.now, c.in-Some.arguments.now) c.loop-i.invariant room turn.0 turn.1 c.read_deed.ensures (length-append c.loop-i.yielded _)

pub returns : goal.returns
returns c =
    let heads = c.args.self.now.heads.now in
    let arguments = c.args.self.now.arguments.now in
    let many = paired heads arguments c.args.self.now.many in
    let road = YieldsList-from_enumerate (YieldsList-from_zip (YieldsList-from_slice heads (cc)) (YieldsList-from_slice arguments (cc))) cc in
    let end = YieldsList-end road c.loop-i.yielded c.loop-i.i-iterator c.loop-i.yielded_by c.next.result c.next.new.self c.in-None.is c.next.ensures.steps in
    c.loop-i.invariant
    ∙ (front_all deed_in (zip heads arguments) c.args.out.now _ (end.1 ∙ length-enumerate_from 0 (zip heads arguments))
    ∙ ap (λ n. map deed_in (zip heads arguments) ++ drop n c.args.out.now) many)
