use Rattle.tables.proofs.+sums.Given as goal

abbrev pub decreases-sums : goal.decreases-sums
decreases-sums l = l.m
