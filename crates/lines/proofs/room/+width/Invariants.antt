use Rattle.lines.proofs.room.+width.Given as goal

abbrev pub decreases-width : goal.decreases-width
decreases-width l = l.v
