use Rattle.std.proofs.Common.{length, arith}
use Rattle.e57_show.proofs.Pieces.{asks_part, keeps_part, cut_part}
use Rattle.e57_show.proofs.bytes.put_piece.Goals as goal

pub returns-in-Ok-put-clause-piece : goal.returns-in-Ok-put-clause-piece
returns-in-Ok-put-clause-piece g c =
    let now = c.args.pages.now in
    let blob = c.args.blob.now in
    let reads = c.in-Ok.ensures.bytes (c.requires.blob.are_nodes.tree) (c.requires.blob.are_nodes.in_preorder) blob (c.requires.blob.there c.requires.blob.are_nodes.tree c.requires.blob.are_nodes.in_preorder) in
    record {
      source = asks_part blob c.args.at (length c.args.piece.now) now.kept (g.S.Source.view now.source) (g.S.Source.view c.blob_bytes.new.pages.source) c.requires.some c.requires.kept reads.range.source;
      keeps = keeps_part blob c.args.at (length c.args.piece.now) now.kept c.blob_bytes.new.pages.kept c.requires.some reads.range.keeps;
      text = c.blob_bytes.new.out;
      part = record { right = reads.range.right; read = reads.bytes };
      wrote = c.in-Ok-put.ensures.written;
      counts = c.put.ensures.faults;
    }

pub returns-in-Err-put-clause-piece : goal.returns-in-Err-put-clause-piece
returns-in-Err-put-clause-piece g c =
    let now = c.args.pages.now in
    let blob = c.args.blob.now in
    let reads = c.in-Ok.ensures.bytes (c.requires.blob.are_nodes.tree) (c.requires.blob.are_nodes.in_preorder) blob (c.requires.blob.there c.requires.blob.are_nodes.tree c.requires.blob.are_nodes.in_preorder) in
    record {
      source = asks_part blob c.args.at (length c.args.piece.now) now.kept (g.S.Source.view now.source) (g.S.Source.view c.blob_bytes.new.pages.source) c.requires.some c.requires.kept reads.range.source;
      done = length c.args.piece.now;
      within = omega arith;
      text = c.blob_bytes.new.out;
      part = record { right = reads.range.right; read = reads.bytes };
      wrote = c.in-Err-put.ensures.written;
      cause = c.in-Err-put.ensures.cause;
    }

pub returns-in-Err-clause-piece : goal.returns-in-Err-clause-piece
returns-in-Err-clause-piece g c =
    let now = c.args.pages.now in
    let blob = c.args.blob.now in
    let cuts = c.in-Err.ensures.bytes (c.requires.blob.are_nodes.tree) (c.requires.blob.are_nodes.in_preorder) blob (c.requires.blob.there c.requires.blob.are_nodes.tree c.requires.blob.are_nodes.in_preorder) in
    cut_part blob c.args.at now.kept c.blob_bytes.new.pages.kept c.args.piece.now c.blob_bytes.new.out c.in-Err.cut (g.S.Source.view now.source) (g.S.Source.view c.blob_bytes.new.pages.source) (g.O.Sink.view c.args.out.now) (g.O.Sink.view c.put_cut.new.out) c.put_cut.result
    c.requires.some c.requires.within c.requires.kept cuts c.put_cut.ensures
