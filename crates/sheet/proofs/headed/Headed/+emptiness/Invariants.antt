use Rattle.sheet.proofs.headed.Headed.+emptiness.Given as goal

abbrev pub decreases-emptiness : goal.decreases-emptiness
decreases-emptiness l = l.i
