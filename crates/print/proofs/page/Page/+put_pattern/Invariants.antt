-- The recursion is that of `pattern`: the marks above the lowest, then the lowest.
use Rattle.print.proofs.page.Page.+put_pattern.Given as goal

abbrev pub decreases-put_pattern : goal.decreases-put_pattern
decreases-put_pattern l = l.m
