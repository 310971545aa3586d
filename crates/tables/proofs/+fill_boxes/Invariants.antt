use Rattle.tables.proofs.+fill_boxes.Given as goal

abbrev pub decreases-fill_boxes : goal.decreases-fill_boxes
decreases-fill_boxes l = l.m
