use Rattle.std.proofs.Common.{◌≡◌, ◌+◌, ◌-◌, arith, length, ap, subst, ◌∙◌}
use Rattle.std.specs.List.{flat_map}
use Rattle.e57_page_out.specs.Sequences.{Puts}
use Rattle.e57_index_out.proofs.Made.{made}
use Rattle.e57_layout.specs.IndexPackets.{entry_bytes}
use Rattle.e57_page_out.proofs.Sequences.{loses_piece, spent_piece}
use Rattle.e57_index_out.specs.Levels.{level_entry, level_part}
use Rattle.e57_index_out.proofs.Pieces.{pieces_begun, pieces_more, piece_lost}
use Rattle.e57_index_out.proofs.levels.write_entries.Goals as goal

pub loop-k-init : goal.loop-k-init
loop-k-init g c = pieces_begun g.T.Target.view entry_bytes (level_entry c.args.chunks.now c.args.level.now) c.args.first c.args.out.now (c.args.first - c.args.first) (omega arith) c.requires.state

pub returns-in-Err : goal.returns-in-Err
unfolding level_part
returns-in-Err g c =
    let view = g.T.Target.view in (
      spent_piece view c.loop-k.out (length c.write_entry.new.out) c.in-Err.fault c.put.new.self c.in-Err.ensures.put,
      piece_lost view entry_bytes (level_entry c.args.chunks.now c.args.level.now) c.args.first c.args.out.now c.loop-k.out (c.loop-k.k - c.args.first) c.args.count c.loop-k.k c.write_entry.new.out c.in-Err.fault (view c.put.new.self.target)
          (omega arith) (omega arith) (c.write_entry.ensures.bytes ∙ ap entry_bytes c.entry_of.ensures) c.loop-k.invariant
          (loses_piece view c.loop-k.out (length c.write_entry.new.out) c.in-Err.fault c.put.new.self c.in-Err.ensures.put),
    )

pub loop-k-preserved : goal.loop-k-preserved
loop-k-preserved g c =
    pieces_more g.T.Target.view entry_bytes (level_entry c.args.chunks.now c.args.level.now) c.args.first c.args.out.now c.loop-k.out c.put.new.self (c.loop-k.k - c.args.first) (c.loop-k.k + 1 - c.args.first) c.loop-k.k c.write_entry.new.out
    (omega arith) (omega arith) (c.write_entry.ensures.bytes ∙ ap entry_bytes c.entry_of.ensures) c.loop-k.invariant c.in_default.ensures.put

pub returns : goal.returns
unfolding level_part
returns g c =
    let all : c.loop-k.k - c.args.first ≡ c.args.count = omega arith in
    subst (λ n. Puts g.T.Target.view c.args.out.now (flat_map entry_bytes (made (level_entry c.args.chunks.now c.args.level.now) c.args.first n)) c.loop-k.out) all c.loop-k.invariant
