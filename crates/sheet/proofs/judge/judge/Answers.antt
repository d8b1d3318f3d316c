use Rattle.sheet.specs.Rules.{accepted}
use Rattle.sheet.proofs.Facts.{header_sizes, tree_earlier}
use Rattle.sheet.proofs.judge.judge.Goals as goal

pub invariant_of-headed : goal.invariant_of-headed
invariant_of-headed c = let s = header_sizes c.args.diagram c.in_ok-check_header.ensures in record { some = s.0; few = s.1 }

pub check_empty-requires : goal.check_empty-requires
check_empty-requires c = tree_earlier c.args.diagram c.in_ok-check_tree.ensures

pub invariant_of-result : goal.invariant_of-result
unfolding accepted
invariant_of-result c = record {
  ok = rw (← c.in_ok-check_header.ensures, ← c.in_ok-check_ranges.ensures, ← c.in_ok-check_tree.ensures, ← c.in_ok-check_steps.ensures, ← c.in_ok-check_empty.ensures);
}
