use Rattle.std.proofs.Common.{◌+◌, ap, ◌∙◌}
use Rattle.e57_layout.specs.Headers.{blob_head}
use Rattle.e57_file_out.proofs.CopySteps.{section_begun}
use Rattle.e57_file_out.proofs.copy.begin_section.Goals as goal

pub returns : goal.returns
returns g c =
    section_begun g.T.Target.view c.args.blob.now c.args.out.now c.fresh_page.new.self c.put.new.self c.in_default.ensures.ended c.place-offset.result c.write_blob_header.new.out
    c.place-offset.ensures.place (c.write_blob_header.ensures.bytes ∙ ap (λ n. blob_head (16 + n)) c.whole_words-length.ensures.words) c.write_blob_header.array_long c.in_default-put.ensures.put
