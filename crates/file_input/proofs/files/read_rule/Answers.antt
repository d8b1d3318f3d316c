use Rattle.std.proofs.Common.{arith, length-drop, length-take}
use Rattle.std.specs.List.{between}
use Rattle.file_input.proofs.files.read_rule.Goals as goal

pub returns : goal.returns
returns g c =
    let n = c.in_ok-n.n in
    let b = between 0 n c.rule_bytes.new.buffer in
    (b, simp (length-take, length-drop) (omega (arith, c.in_ok-n.ensures)), c.load_sheet.ensures.verdict, c.load_sheet.ensures.place)
