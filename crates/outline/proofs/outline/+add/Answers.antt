use Rattle.std.proofs.Common.{◌+◌, ◌++◌, vec_items, sym, ap, ◌∙◌, arith, rules}
use Rattle.std.proofs.lemmas.Result.{IfOk-weaker}
use Rattle.sheet.specs.Forbid.{fragment}
use Rattle.sheet.proofs.Facts.{accepted_earlier}
use Rattle.outline.specs.Lines.{parts_at, lines_at}
use Rattle.outline.proofs.Lists.{lines_is, two_earlier, two_parts, one_earlier, one_part, added_one, added_two}
use Rattle.outline.proofs.outline.+add.Goals as goal

pub add-requires : goal.add-requires
add-requires t c =
    let s = c.args.sheet.now in
    let e = accepted_earlier s.diagram s.ok c.args.i c.requires.here in
    let q = one_earlier (fragment s.diagram c.args.i) c.in-Loop.b c.in-Loop.is c.args.i e in
    (search rules, (omega arith, omega arith))

pub add-requires-in-Seq : goal.add-requires-in-Seq
add-requires-in-Seq t c =
    let s = c.args.sheet.now in
    let e = accepted_earlier s.diagram s.ok c.args.i c.requires.here in
    let q = two_earlier (fragment s.diagram c.args.i) c.in-Seq.l c.in-Seq.r c.in-Seq.is c.args.i e in
    (search rules, (omega arith, omega arith))

pub add-requires-in-Seq-2 : goal.add-requires-in-Seq-2
add-requires-in-Seq-2 t c =
    let s = c.args.sheet.now in
    let e = accepted_earlier s.diagram s.ok c.args.i c.requires.here in
    let q = two_earlier (fragment s.diagram c.args.i) c.in-Seq.l c.in-Seq.r c.in-Seq.is c.args.i e in
    (search rules, (omega arith, omega arith))

pub returns-in-Loop : goal.returns-in-Loop
returns-in-Loop t c =
    let s = c.args.sheet.now in
    let F = fragment s.diagram in
    let i = c.args.i in
    let k = c.args.depth in
    let xs = vec_items c.args.lines.now in
    let e = accepted_earlier s.diagram s.ok i c.requires.here in
    IfOk-weaker c.add.result _ _
    (λ _ q.
    added_one (record { depth = k; fragment = F i }) xs (lines_at F c.in-Loop.b (k + 1)) (parts_at (F i) (lines_at F) (k + 1)) c.in_ok-push.ensures.items q (sym (one_part (F i) c.in-Loop.b c.in-Loop.is (lines_at F) (k + 1)))
    ∙ ap (λ l. xs ++ l) (sym (lines_is F i k e)))
    c.add.ensures

pub returns-in_ok-add-in-Seq : goal.returns-in_ok-add-in-Seq
returns-in_ok-add-in-Seq t c =
    let s = c.args.sheet.now in
    let F = fragment s.diagram in
    let i = c.args.i in
    let k = c.args.depth in
    let xs = vec_items c.args.lines.now in
    let e = accepted_earlier s.diagram s.ok i c.requires.here in
    IfOk-weaker c.add-in-Seq-2.result _ _
    (λ _ q.
    added_two (record { depth = k; fragment = F i }) xs (lines_at F c.in-Seq.l (k + 1)) (lines_at F c.in-Seq.r (k + 1)) (parts_at (F i) (lines_at F) (k + 1)) c.in_ok-push.ensures.items c.in_ok-add-in-Seq.ensures q (sym (two_parts (F i) c.in-Seq.l c.in-Seq.r c.in-Seq.is (lines_at F) (k + 1)))
    ∙ ap (λ l. xs ++ l) (sym (lines_is F i k e)))
    c.add-in-Seq-2.ensures
