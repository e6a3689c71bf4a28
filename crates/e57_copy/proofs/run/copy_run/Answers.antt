use Rattle.std.proofs.Common.{arith, sym, ap, ◌∙◌}
use Rattle.e57_blocks.specs.Runs.{run_values}
use Rattle.e57_chunk_out.specs.CloudCalls.{kind_of, with_items}
use Rattle.e57_chunk_out.specs.Standing.{Cloud}
use Rattle.e57_copy.specs.Adding.{held_columns}
use Rattle.e57_copy.proofs.Handing.{handed_all, handed_few, handed_items, handed_more, handed_none, handed_run, handed_strings, kinds_below}
use Rattle.e57_copy.proofs.run.copy_run.Goals as goal

pub loop-j-init : goal.loop-j-init
loop-j-init c = handed_none c.args.cloud.now (held_columns c.args.blocks.now c.args.i c.args.n)

pub copy_items-requires-clause-field : goal.copy_items-requires-clause-field
copy_items-requires-clause-field c =
    rw c.loop-j.invariant
    (kinds_below c.args.cloud.now c.args.blocks.now c.args.i c.args.n c.loop-j.j c.index-blocks-j.result c.requires.alike c.loop-j-test.true c.index-blocks-j.is)

pub copy_items-requires-clause-kind : goal.copy_items-requires-clause-kind
copy_items-requires-clause-kind c =
    rw c.loop-j.invariant
    (handed_run c.args.cloud.now c.args.blocks.now c.args.i c.args.n c.loop-j.j c.index-blocks-j.result c.requires.alike c.loop-j-test.true c.index-blocks-j.is c.run.result c.run.ensures.of_kind)

pub copy_items-requires-clause-items : goal.copy_items-requires-clause-items
copy_items-requires-clause-items c =
    rw c.loop-j.invariant
    (handed_items c.args.cloud.now c.args.blocks.now c.args.i c.args.n c.loop-j.j c.index-blocks-j.result c.requires.alike c.loop-j-test.true c.index-blocks-j.is c.requires.fit (run_values c.run.result) c.run.ensures.values)

pub copy_items-requires-clause-few : goal.copy_items-requires-clause-few
copy_items-requires-clause-few c =
    rw c.loop-j.invariant
    (handed_few c.args.cloud.now c.args.blocks.now c.args.i c.args.n c.loop-j.j c.index-blocks-j.result c.requires.alike c.loop-j-test.true c.index-blocks-j.is c.requires.pending c.requires.room (run_values c.run.result) c.run.ensures.values)

pub returns-in-Err : goal.returns-in-Err
returns-in-Err c = (
  c.in-Err.ensures.0,
  handed_strings c.args.cloud.now c.args.blocks.now c.args.i c.args.n c.loop-j.j c.index-blocks-j.result c.requires.alike c.loop-j-test.true c.index-blocks-j.is
      (ap (λ (x : Cloud). kind_of x c.loop-j.j) (sym c.loop-j.invariant) ∙ c.in-Err.ensures.1),
)

pub loop-j-preserved : goal.loop-j-preserved
loop-j-preserved c =
    c.in_default.ensures
    ∙ ap (λ (x : Cloud). with_items x c.loop-j.j (run_values c.run.result)) c.loop-j.invariant
    ∙ handed_more c.args.cloud.now c.args.blocks.now c.args.i c.args.n c.loop-j.j c.index-blocks-j.result c.requires.alike c.loop-j-test.true c.index-blocks-j.is c.requires.pending c.requires.room (run_values c.run.result) c.run.ensures.values

pub returns : goal.returns
returns c =
    let low = c.loop-j.auto.j-end in
    let high = c.loop-j-test.false in
    handed_all c.args.cloud.now c.loop-j.cloud c.args.blocks.now c.args.i c.args.n c.loop-j.j c.requires.alike c.requires.pending (omega (arith, low, high)) c.loop-j.invariant
