use Rattle.e57_index_out.proofs.levels.+write_levels.Given as goal

abbrev pub decreases-write_levels : goal.decreases-write_levels
decreases-write_levels g l = l.level.now.count
