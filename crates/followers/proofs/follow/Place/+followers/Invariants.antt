use Rattle.followers.proofs.follow.Place.+followers.Given as goal

abbrev pub decreases-followers : goal.decreases-followers
decreases-followers l = l.self.index
