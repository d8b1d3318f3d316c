use Rattle.std.proofs.Common.{◌≡◌, ◌+◌, [], ◌∷◌, ◌++◌, get_or, take, replicate, sym, ap, subst}
use Rattle.action.specs.declared.deed.Deed.{Deed}
use Rattle.action.proofs.Traces.{one_longer, all_taken}
use Rattle.sheet.specs.Forbid.{Negative}
use Rattle.sheet.proofs.Bools.{T_true}
use Rattle.sheet.proofs.Both.{move}
use Rattle.followers.specs.Next.{end, Nexts}
use Rattle.machine.specs.Pairs.{may}
use Rattle.machine.specs.Charts.{kinds_of, follows_of}
use Rattle.machine.proofs.Places.{may_out, none_may}
use Rattle.machine.proofs.Going.{decides_same, first_left, machine_step}
use Rattle.machine.proofs.accepts.accepts.Goals as goal

pub loop-d-init : goal.loop-d-init
loop-d-init c =
    let d = c.args.sheet.now.diagram in
    let chart = c.new-chart.result in
    first_left d c.args.sheet.now.ok (kinds_of chart) c.new-chart.ensures.kinds (follows_of chart) c.new-chart.ensures.follows c.begin-first.result.marked.end (may c.first_marks-marks.result)
    (record { ends = decides_same _ _ (ap (λ (K : Nexts). (K end).marked) c.begin-first.ensures); steps = c.first_marks-marks.ensures })

pub loop-d-preserved : goal.loop-d-preserved
loop-d-preserved c = λ rest.
    let d = c.args.sheet.now.diagram in
    let chart = c.new-chart.result in
    let ds = c.args.deeds.now in
    let i = c.loop-d.d-index in
    let zero : Deed = record { address = 0; signal = 0; first = 0; second = 0 } in
    let x : Deed = get_or ds i zero in
    let s = machine_step (kinds_of chart) (follows_of chart) (may c.loop-d.marks) x c.loop-d.ended c.advance-ended.result (may (replicate 16384 0)) (may c.advance-ended.new.marks)
    (λ p v m h. (may_out c.loop-d.marks p v m h).0) (none_may 16384) c.advance-ended.ensures.ended c.advance-ended.ensures.marks rest in
    let q : take i ds ++ (x ∷ rest) ≡ take (i + 1) ds ++ rest = one_longer ds i zero rest c.loop-d-test.true in
    let inv = c.loop-d.invariant (x ∷ rest) in
    (λ h. subst (Negative d) q (inv.0 (s.0 h)), λ h. s.1 (inv.1 (subst (Negative d) (sym q) h)))

pub returns : goal.returns
returns c =
    let d = c.args.sheet.now.diagram in
    let inv = c.loop-d.invariant [] in
    let q = all_taken c.args.deeds.now c.loop-d.d-index c.loop-d-test.false in
    (λ e. subst (Negative d) q (inv.0 (move (sym e) tt)), λ h. T_true c.loop-d.ended (inv.1 (subst (Negative d) (sym q) h)))
