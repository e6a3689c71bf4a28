use Rattle.std.proofs.Common.{◌+◌, ◌*◌, ◌/◌, ◌%◌, length, false, ap, sym, ◌∙◌, arith}
use Rattle.e57_chunk_out.specs.Waiting.{Waiting}
use Rattle.e57_chunk_out.specs.CloudCalls.{block_length}
use Rattle.e57_chunk_out.specs.Clouds.{cloud_of}
use Rattle.e57_chunk_out.proofs.Blocks.{of-has, first-of}
use Rattle.e57_chunk_out.proofs.Rows.{has-same}
use Rattle.e57_chunk_out.proofs.Ending.{lost_at, done_at}
use Rattle.e57_chunk_out.proofs.block.put_block.Goals as goal

pub put_records-requires-clause-there : goal.put_records-requires-clause-there
put_records-requires-clause-there g c =
    let m = block_length (cloud_of c.args.fields.now c.args.chunks.now c.args.count.now c.args.section.now false) in
    let count = first-of (c.args.count.now % 8 + m) c.args.fields.now c.index-fields-0.result c.requires.cloud.chunked.gathered.some c.requires.even c.index-fields-0.is in
    let size = c.len-waiting.ensures.len ∙ ap (λ (w : Waiting). length w.items) (sym c.index-fields-0.is) ∙ count in
    of-has (c.args.count.now % 8 + m) (c.len-waiting.result / 8 * 8) c.args.fields.now (omega (arith, size)) c.requires.even

pub returns-in-Err-put_records : goal.returns-in-Err-put_records
returns-in-Err-put_records g c =
    let m = block_length (cloud_of c.args.fields.now c.args.chunks.now c.args.count.now c.args.section.now false) in
    let count = first-of (c.args.count.now % 8 + m) c.args.fields.now c.index-fields-0.result c.requires.cloud.chunked.gathered.some c.requires.even c.index-fields-0.is in
    let size = c.len-waiting.ensures.len ∙ ap (λ (w : Waiting). length w.items) (sym c.index-fields-0.is) ∙ count in (
      c.in-Err-put_records.ensures.0,
      lost_at g.T.Target.view c.args.fields.now c.args.chunks.now c.args.count.now c.args.section.now c.args.out.now c.in-Ok.page c.open_section.new.out m c.len-waiting.result c.requires.cloud c.in-Ok.ensures c.requires.even c.requires.some size
          c.in-Err-put_records.fault (g.T.Target.view c.put_records.new.out.target) c.in-Err-put_records.ensures.1,
    )

pub drop_all-requires : goal.drop_all-requires
drop_all-requires g c =
    let m = block_length (cloud_of c.args.fields.now c.args.chunks.now c.args.count.now c.args.section.now false) in
    let count = first-of (c.args.count.now % 8 + m) c.args.fields.now c.index-fields-0.result c.requires.cloud.chunked.gathered.some c.requires.even c.index-fields-0.is in
    let size = c.len-waiting.ensures.len ∙ ap (λ (w : Waiting). length w.items) (sym c.index-fields-0.is) ∙ count in
    has-same (c.len-waiting.result / 8 * 8) c.args.fields.now c.put_records.new.fields c.in_default.ensures.columns
    (of-has (c.args.count.now % 8 + m) (c.len-waiting.result / 8 * 8) c.args.fields.now (omega (arith, size)) c.requires.even)

pub returns : goal.returns
returns g c =
    let m = block_length (cloud_of c.args.fields.now c.args.chunks.now c.args.count.now c.args.section.now false) in
    let count = first-of (c.args.count.now % 8 + m) c.args.fields.now c.index-fields-0.result c.requires.cloud.chunked.gathered.some c.requires.even c.index-fields-0.is in
    let size = c.len-waiting.ensures.len ∙ ap (λ (w : Waiting). length w.items) (sym c.index-fields-0.is) ∙ count in
    done_at g.T.Target.view c.args.fields.now c.args.chunks.now c.args.count.now c.args.section.now c.args.out.now c.in-Ok.page c.open_section.new.out m c.len-waiting.result c.requires.cloud c.in-Ok.ensures c.requires.even c.requires.some size
    c.put_records.new.fields c.drop_all.new.fields c.put_records.new.chunks c.put_records.new.out c.size.result c.requires.here c.in_default.ensures c.drop_all.ensures c.requires.limit c.size.ensures.size
