use Rattle.std.proofs.Common.{◌∙◌, get_or, refl, set, arith}
use Rattle.e57_blocks.specs.Fields.{FillsBlocks, FillsNoBlocks, slice_at}
use Rattle.e57_blocks.proofs.Sides.{filled_not, filled_on}
use Rattle.e57_blocks.proofs.fields.fill_blocks.Goals as goal
use Rattle.e57_base.proofs.Options.{by_error}

pub returns-in_err-have-clause-fills : goal.returns-in_err-have-clause-fills
returns-in_err-have-clause-fills g c =
    let old = g.S.Source.view c.args.pages.now.source in
    let mid = g.S.Source.view c.loop-j.pages.source in
    let new = g.S.Source.view c.fill_block.new.pages.source in
    let a = slice_at (record { section = c.args.section.now; fixed = c.args.fixed; blocks = c.args.blocks.now }) c.args.i c.args.want in
    by_error (λ n. FillsBlocks a old n new (set c.loop-j.blocks c.loop-j.j c.fill_block.new.block)) (λ lost. FillsNoBlocks a old c.args.blocks.now lost new (set c.loop-j.blocks c.loop-j.j c.fill_block.new.block)) c.in_err-have.field-0.0 c.from_residual.result c.from_residual.ensures.1
    (filled_not a old mid new c.args.blocks.now c.loop-j.j c.loop-j.n c.loop-j.blocks (get_or c.loop-j.blocks c.loop-j.j c.index-blocks-j.result) c.index-blocks-j.result c.fill_block.new.block c.in_err-have.field-0.0 (let below = c.loop-j-test.true in let same = c.loop-j.auto.blocks in omega (arith, below, same)) refl c.loop-j.invariant.filled c.in_err-have.ensures.fills)

pub loop-j-preserved : goal.loop-j-preserved
loop-j-preserved g c =
    let old = g.S.Source.view c.args.pages.now.source in
    let mid = g.S.Source.view c.loop-j.pages.source in
    let new = g.S.Source.view c.fill_block.new.pages.source in
    let a = slice_at (record { section = c.args.section.now; fixed = c.args.fixed; blocks = c.args.blocks.now }) c.args.i c.args.want in
    record {
      same_size = c.in_ok-have.ensures.length ∙ c.loop-j.invariant.same_size;
      same_header = c.in_ok-have.ensures.header ∙ c.loop-j.invariant.same_header;
      filled = filled_on a old mid new c.args.blocks.now c.loop-j.j c.loop-j.n c.in_ok-have.have c.fewer-n.result c.loop-j.blocks (get_or c.loop-j.blocks c.loop-j.j c.index-blocks-j.result) c.index-blocks-j.result c.fill_block.new.block (let below = c.loop-j-test.true in let same = c.loop-j.auto.blocks in omega (arith, below, same)) refl c.fewer-n.ensures c.loop-j.invariant.filled c.in_ok-have.ensures.fills;
    }
