use Rattle.std.proofs.Common.{length}
use Rattle.e57_file_out.proofs.CopySteps.{asks_part, keeps_part, cut_part, put_lost}
use Rattle.e57_file_out.proofs.copy.copy_piece.Goals as goal

pub returns-in-Err-clause-piece : goal.returns-in-Err-clause-piece
returns-in-Err-clause-piece g c =
    let now = c.args.pages.now in
    let blob = c.args.blob.now in
    let nodes = c.requires.blob.are_nodes in
    let cuts = c.in-Err.ensures.bytes nodes.tree nodes.in_preorder blob (c.requires.blob.there nodes.tree nodes.in_preorder) in
    cut_part g.T.Target.view blob c.args.at now.kept c.blob_bytes.new.pages.kept c.args.piece.now c.blob_bytes.new.out c.in-Err.cut (g.S.Source.view now.source) (g.S.Source.view c.blob_bytes.new.pages.source) c.args.out.now c.unread.result
    c.requires.some c.requires.kept cuts c.unread.ensures

pub returns-in-Ok-clause-piece : goal.returns-in-Ok-clause-piece
returns-in-Ok-clause-piece g c =
    let now = c.args.pages.now in
    let blob = c.args.blob.now in
    let nodes = c.requires.blob.are_nodes in
    let reads = c.in_default.ensures.bytes nodes.tree nodes.in_preorder blob (c.requires.blob.there nodes.tree nodes.in_preorder) in
    record {
      source = asks_part blob c.args.at (length c.args.piece.now) now.kept (g.S.Source.view now.source) (g.S.Source.view c.blob_bytes.new.pages.source) c.requires.some c.requires.kept reads.range.source;
      keeps = keeps_part blob c.args.at (length c.args.piece.now) now.kept c.blob_bytes.new.pages.kept c.requires.some reads.range.keeps;
      bytes = c.blob_bytes.new.out;
      long = c.blob_bytes.auto.out;
      right = reads.range.right;
      read = reads.bytes;
      wrote = c.in-Ok.ensures.put;
    }

pub returns-in-Err-put-clause-piece : goal.returns-in-Err-put-clause-piece
returns-in-Err-put-clause-piece g c =
    let now = c.args.pages.now in
    let blob = c.args.blob.now in
    let nodes = c.requires.blob.are_nodes in
    let view = g.T.Target.view in
    let reads = c.in_default.ensures.bytes nodes.tree nodes.in_preorder blob (c.requires.blob.there nodes.tree nodes.in_preorder) in
    let lost = c.in-Err-put.ensures.put in
    record {
      source = asks_part blob c.args.at (length c.args.piece.now) now.kept (g.S.Source.view now.source) (g.S.Source.view c.blob_bytes.new.pages.source) c.requires.some c.requires.kept reads.range.source;
      cause = put_lost view blob c.args.at (length c.args.piece.now) (g.S.Source.view now.source) (g.S.Source.view c.blob_bytes.new.pages.source) c.args.out.now c.blob_bytes.new.out c.in-Err-put.fault c.put.new.self c.blob_bytes.auto.out lost;
    }
