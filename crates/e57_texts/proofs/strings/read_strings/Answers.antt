use Rattle.std.proofs.Common.{◌∙◌, ◌-◌, length, take, drop}
use Rattle.e57_texts.proofs.Held.{part_rest, last_part}
use Rattle.e57_texts.proofs.Filling.{row_more, row_needs, row_stops, part_same}
use Rattle.e57_texts.proofs.strings.read_strings.Goals as goal

pub loop-done-preserved : goal.loop-done-preserved
loop-done-preserved g c =
    let inv = c.loop-done.invariant in
    let high = c.requires.within.high in
    let next = rw c.in-Ok-Read.field-0-is at c.in-Ok-Read.ensures.next in
    record {
      same_size = c.in-Ok-Read.ensures.length ∙ inv.same_size;
      same_header = c.in-Ok-Read.ensures.header ∙ inv.same_header;
      row = rw (part_rest c.loop-done.bytes c.read_next.new.out c.loop-done.end) (row_more (g.S.Source.view c.args.pages.now.source) (g.S.Source.view c.loop-done.pages.source) (g.S.Source.view c.read_next.new.pages.source) c.args.stream.now c.args.chunk.now c.loop-done.chunk c.read_next.new.chunk c.wanted-want.result c.args.filled c.loop-done.done c.loop-done.end c.in-Ok-Read.n c.args.bytes.now c.loop-done.bytes c.args.ends.now c.loop-done.ends (take (length c.loop-done.bytes - c.loop-done.end) (drop c.loop-done.end c.loop-done.bytes)) c.read_next.new.out
          c.loop-done-test.true high inv.row (last_part c.loop-done.bytes c.loop-done.end) c.in-Ok-Read.ensures.size next.0 next.1);
    }

pub returns-in-Ok-Needs-clause-strings : goal.returns-in-Ok-Needs-clause-strings
returns-in-Ok-Needs-clause-strings g c =
    let inv = c.loop-done.invariant in
    let next = rw c.in-Ok-Needs.field-0-is at c.in-Ok-Needs.ensures.next in
    let part = last_part c.loop-done.bytes c.loop-done.end in
    let out = take (length c.loop-done.bytes - c.loop-done.end) (drop c.loop-done.end c.loop-done.bytes) in
    rw (part_rest c.loop-done.bytes c.read_next.new.out c.loop-done.end, part_same c.loop-done.bytes out c.read_next.new.out c.loop-done.end part next.same, ← inv.row.want_is)
    (row_needs (g.S.Source.view c.args.pages.now.source) (g.S.Source.view c.loop-done.pages.source) (g.S.Source.view c.read_next.new.pages.source) c.args.stream.now c.args.chunk.now c.loop-done.chunk c.read_next.new.chunk c.wanted-want.result c.args.filled c.loop-done.done c.loop-done.end c.in-Ok-Needs.n c.args.bytes.now c.loop-done.bytes c.args.ends.now c.loop-done.ends out c.read_next.new.out c.loop-done-test.true inv.row part next)

pub returns-in-Err-clause-strings : goal.returns-in-Err-clause-strings
returns-in-Err-clause-strings g c =
    let inv = c.loop-done.invariant in
    rw (part_rest c.loop-done.bytes c.read_next.new.out c.loop-done.end, ← inv.row.want_is) (row_stops (g.S.Source.view c.args.pages.now.source) (g.S.Source.view c.loop-done.pages.source) (g.S.Source.view c.read_next.new.pages.source) c.args.stream.now c.args.chunk.now c.loop-done.chunk c.read_next.new.chunk c.wanted-want.result c.args.filled c.loop-done.done c.loop-done.end c.in-Err.fault c.args.bytes.now c.loop-done.bytes c.args.ends.now c.loop-done.ends (take (length c.loop-done.bytes - c.loop-done.end) (drop c.loop-done.end c.loop-done.bytes)) c.read_next.new.out
    c.loop-done-test.true inv.row (last_part c.loop-done.bytes c.loop-done.end) c.in-Err.ensures.size c.in-Err.ensures.next c.in-Err.ensures.fits)
