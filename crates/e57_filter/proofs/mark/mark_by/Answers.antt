use Rattle.std.proofs.Common.{rules, w64}
use Rattle.std.proofs.lemmas.Int.{to_z-of_z}
use Rattle.e57_filter.proofs.Marks.{test_below, test_whole, tested_one}
use Rattle.e57_filter.proofs.mark.mark_by.Goals as goal

pub bounds-blocks-block : goal.bounds-blocks-block
bounds-blocks-block c = test_below c.args.blocks.now c.args.test.now c.requires.tested

pub mark_test-requires-clause-kind : goal.mark_test-requires-clause-kind
mark_test-requires-clause-kind c = test_whole c.args.blocks.now c.args.test.now c.index-blocks-block.result c.requires.tested c.index-blocks-block.is

pub returns : goal.returns
returns c =
    let low = to_z-of_z w64 c.args.test.now.low (search rules) in
    let high = to_z-of_z w64 c.args.test.now.high (search rules) in
    tested_one c.args.blocks.now c.args.i c.args.n c.args.test.now c.index-blocks-block.result c.args.flags.now c.mark_test.new.flags (test_below c.args.blocks.now c.args.test.now c.requires.tested) c.index-blocks-block.is
    (rw (low, high) at c.mark_test.ensures)
