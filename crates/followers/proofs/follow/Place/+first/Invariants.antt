use Rattle.followers.proofs.follow.Place.+first.Given as goal

abbrev pub decreases-first : goal.decreases-first
decreases-first l = l.self.index
