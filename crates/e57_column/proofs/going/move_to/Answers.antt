use Rattle.std.proofs.Common.{arith, ◌+◌, ◌-◌, ◌*◌, ◌≤◌}
use Rattle.e57_section.specs.Opening.{most_records}
use Rattle.e57_column.proofs.Skipping.{bits-few, times-few}
use Rattle.e57_column.proofs.going.move_to.Goals as goal

pub overflow_mul-chunk : goal.overflow_mul-chunk
overflow_mul-chunk c =
    let low = c.requires.low in
    let few = c.requires.few in
    let most : c.args.width * (c.args.i - c.args.chunk.now.at) ≤ 64 * most_records = times-few c.args.width c.args.chunk.now.at c.args.i c.requires.width few in
    omega (arith, most)

pub overflow_add-chunk : goal.overflow_add-chunk
overflow_add-chunk c =
    let begins = c.requires.begins in
    let most = bits-few c.args.width c.args.chunk.now.start c.args.chunk.now.at c.args.i c.requires.width c.requires.start c.requires.low c.requires.few in
    omega (arith, most, begins)
