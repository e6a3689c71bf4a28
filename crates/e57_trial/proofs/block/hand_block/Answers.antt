use Rattle.e57_trial.proofs.Handing.{taken}
use Rattle.e57_trial.proofs.block.hand_block.Goals as goal

pub returns : goal.returns
returns c =
    taken c.args.cloud.now c.args.start c.args.first c.args.n c.requires.kinds c.requires.pending c.requires.unspent c.requires.room c.hand_coordinates.new.cloud c.hand_coordinates.ensures c.hand_coordinates-2.new.cloud c.hand_coordinates-2.ensures c.hand_intensities.new.cloud c.hand_intensities.ensures
    c.hand_rows.new.cloud (c.hand_rows.ensures c.args.first) c.hand_heights.new.cloud c.hand_heights.ensures c.hand_tags.result c.hand_tags.new.cloud c.hand_tags.ensures
