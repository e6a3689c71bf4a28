use Rattle.std.proofs.Common.{All, ◌≤◌}
use Rattle.e57_lanes.proofs.Vectors.{put_sums}
use Rattle.e57_lanes.proofs.eight.put_eight.Goals as goal

pub returns : goal.returns
returns c =
    let all : All (λ n. n ≤ c.args.span) c.args.numbers = c.if-any_above.ensures in
    (all, put_sums c.args.min c.args.span c.args.at c.args.numbers c.args.out.now c.ranges.min c.requires.span c.requires.items_fit all c.fits-numbers.0 c.requires.room)
