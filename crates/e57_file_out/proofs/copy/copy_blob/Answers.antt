use Rattle.std.proofs.Common.{◌*◌, ◌/◌, ◌≤◌, arith}
use Rattle.e57_page.proofs.FileLaws.{whole_length}
use Rattle.e57_file_out.specs.Copying.{CopiesBlob, size_with}
use Rattle.e57_file_out.proofs.CopySteps.{lies_within, of_blob, blob_copied, blob_lost, copied_state, lost_state}
use Rattle.e57_file_out.proofs.copy.copy_blob.Goals as goal

pub begin_section-requires-clause-length : goal.begin_section-requires-clause-length
begin_section-requires-clause-length g c =
    let found = c.stated_blob-blob.ensures in
    let lies = c.requires.lies found.are_nodes.tree found.are_nodes.in_preorder c.stated_blob-blob.result (found.there found.are_nodes.tree found.are_nodes.in_preorder) in
    let within = lies_within (c.args.pages.now.length / 1024 * 1020) c.stated_blob-blob.result lies in
    let whole = whole_length c.args.pages.now.length c.logical_len-size.ensures.whole in
    omega arith

pub returns-in-Ok-copy_bytes-clause-copied : goal.returns-in-Ok-copy_bytes-clause-copied
returns-in-Ok-copy_bytes-clause-copied g c =
    let view = g.T.Target.view in
    let blob = c.stated_blob-blob.result in
    let old = g.S.Source.view c.args.pages.now.source in
    let new = g.S.Source.view c.copy_bytes.new.pages.source in
    of_blob c.args.file.now c.args.k blob (λ b. CopiesBlob view b old new c.args.out.now c.in-Ok.offset c.copy_bytes.new.out) c.stated_blob-blob.ensures
    (blob_copied view blob old new c.args.out.now c.begin_section.new.out c.copy_bytes.new.out c.in-Ok.offset c.in-Ok.ensures c.copy_bytes.new.pages.kept c.in-Ok-copy_bytes.ensures.bytes)

pub returns-in-Ok-copy_bytes-clause-state : goal.returns-in-Ok-copy_bytes-clause-state
returns-in-Ok-copy_bytes-clause-state g c =
    let view = g.T.Target.view in
    let blob = c.stated_blob-blob.result in
    let old = g.S.Source.view c.args.pages.now.source in
    let new = g.S.Source.view c.copy_bytes.new.pages.source in
    copied_state view blob old new c.args.out.now c.in-Ok.offset c.copy_bytes.new.out
    (blob_copied view blob old new c.args.out.now c.begin_section.new.out c.copy_bytes.new.out c.in-Ok.offset c.in-Ok.ensures c.copy_bytes.new.pages.kept c.in-Ok-copy_bytes.ensures.bytes)

pub returns-in-Err-copy_bytes-clause-state : goal.returns-in-Err-copy_bytes-clause-state
returns-in-Err-copy_bytes-clause-state g c =
    let view = g.T.Target.view in
    let blob = c.stated_blob-blob.result in
    let old = g.S.Source.view c.args.pages.now.source in
    let new = g.S.Source.view c.copy_bytes.new.pages.source in
    lost_state view blob (size_with c.args.out.now.size blob) old new c.args.out.now c.in-Err-copy_bytes.fault c.copy_bytes.new.out
    (blob_lost view blob old new c.args.out.now c.begin_section.new.out c.copy_bytes.new.out c.in-Ok.offset c.in-Ok.ensures c.in-Err-copy_bytes.fault c.in-Err-copy_bytes.ensures.bytes)
