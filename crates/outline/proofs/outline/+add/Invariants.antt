use Rattle.outline.proofs.outline.+add.Given as goal

abbrev pub decreases-add : goal.decreases-add
decreases-add l = l.i
