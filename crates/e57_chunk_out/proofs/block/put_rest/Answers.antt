use Rattle.std.proofs.Common.{◌%◌, subst, arith}
use Rattle.e57_chunk_out.specs.CloudCalls.{HasStrings, PassesSection}
use Rattle.e57_chunk_out.specs.Going.{LosesRecords}
use Rattle.e57_chunk_out.specs.SideBySide.{HasText}
use Rattle.e57_chunk_out.specs.Turns.{PassesAt, Turns}
use Rattle.e57_chunk_out.proofs.Blocks.{of-has}
use Rattle.e57_chunk_out.proofs.Closings.{at-groups, closes_on, lost_left, lost_end, lost_index}
use Rattle.e57_chunk_out.proofs.block.put_rest.Goals as goal

pub put_records-requires-clause-there : goal.put_records-requires-clause-there
put_records-requires-clause-there g c = of-has (c.args.count % 8) (c.args.count % 8) c.args.fields.now (omega arith) c.requires.between

pub returns-in-Err : goal.returns-in-Err
returns-in-Err g c = (
  c.in-Err.ensures.0,
  lost_left g.T.Target.view c.args.fields.now c.args.chunks.now c.args.count c.args.begun c.args.out.now c.requires.cloud c.requires.between c.in-Err.fault (g.T.Target.view c.put_records.new.out.target)
      (subst (λ e. LosesRecords g.T.Target.view c.args.out.now (PassesAt e 0 (c.args.count % 8) c.args.fields.now c.args.chunks.now c.args.out.now) (HasText c.args.fields.now) c.in-Err.fault (g.T.Target.view c.put_records.new.out.target)) (at-groups c.args.count) c.in-Err.ensures.1),
)

pub returns-in-Err-end_chunk : goal.returns-in-Err-end_chunk
returns-in-Err-end_chunk g c =
    let turns = subst (λ e. Turns g.T.Target.view e 0 (c.args.count % 8) c.args.fields.now c.args.chunks.now c.args.out.now c.put_records.new.fields c.put_records.new.chunks c.put_records.new.out) (at-groups c.args.count) c.in_default.ensures in (
      c.in-Err-end_chunk.ensures.0,
      lost_end g.T.Target.view c.args.fields.now c.args.chunks.now c.args.count c.args.begun c.args.out.now c.requires.cloud c.requires.between c.put_records.new.fields c.put_records.new.chunks c.put_records.new.out turns
          c.in-Err-end_chunk.fault (g.T.Target.view c.end_chunk.new.out.target) c.in-Err-end_chunk.ensures.1,
    )

pub returns-in-Ok : goal.returns-in-Ok
returns-in-Ok g c =
    let turns = subst (λ e. Turns g.T.Target.view e 0 (c.args.count % 8) c.args.fields.now c.args.chunks.now c.args.out.now c.put_records.new.fields c.put_records.new.chunks c.put_records.new.out) (at-groups c.args.count) c.in_default.ensures in
    closes_on g.T.Target.view c.args.fields.now c.args.chunks.now c.args.count c.args.begun c.args.out.now c.requires.cloud c.requires.between c.put_records.new.fields c.put_records.new.chunks c.put_records.new.out turns
    c.end_chunk.new.fields c.end_chunk.new.run c.end_chunk.new.out c.in_default-end_chunk.ensures c.in-Ok.offset c.end_section.new.out c.in-Ok.ensures.0 c.in-Ok.ensures.1

pub returns-in-Err-end_section : goal.returns-in-Err-end_section
returns-in-Err-end_section g c =
    let turns = subst (λ e. Turns g.T.Target.view e 0 (c.args.count % 8) c.args.fields.now c.args.chunks.now c.args.out.now c.put_records.new.fields c.put_records.new.chunks c.put_records.new.out) (at-groups c.args.count) c.in_default.ensures in (
      c.in-Err-end_section.ensures.0,
      lost_index g.T.Target.view c.args.fields.now c.args.chunks.now c.args.count c.args.begun c.args.out.now c.requires.cloud c.requires.between c.put_records.new.fields c.put_records.new.chunks c.put_records.new.out turns
          c.end_chunk.new.fields c.end_chunk.new.run c.end_chunk.new.out c.in_default-end_chunk.ensures c.in-Err-end_section.fault c.into.result (g.T.Target.view c.end_section.new.out.target) c.into.ensures c.in-Err-end_section.ensures.1,
    )
