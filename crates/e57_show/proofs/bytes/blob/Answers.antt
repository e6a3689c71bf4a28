use Rattle.std.proofs.Common.{◌≡◌, ◌∙◌, ◌*◌, ◌/◌, sym, subst, arith}
use Rattle.e57_base.specs.Fault.{open_as_run, read_as_run}
use Rattle.e57_base.specs.declared.fault.RunFault.TheVariants.{Ask}
use Rattle.e57_file.specs.Blob.{LiesIn, blob_head, stated_blob_fault}
use Rattle.e57_base.proofs.Told.{told_here}
use Rattle.e57_show.specs.Blob.{blob_streamed}
use Rattle.e57_show.specs.Streaming.{StreamEnds}
use Rattle.e57_show.proofs.BlobShown.{keeps_last, has_blob_at, blob_there, asked_text, asked_head, asked_judged, asked_all, judged_later, head_past, bytes_past, not_opened, too_few, no_section, bytes_end, bytes_asked}
use Rattle.std.specs.Prelude.{Some, None}
use Rattle.e57_show.proofs.bytes.blob.Goals as goal
use Rattle.e57_base.proofs.Options.{by_error}
use Rattle.e57_file.proofs.Blobs.{told_size}

pub returns-in_err-file-clause-asked : goal.returns-in_err-file-clause-asked
returns-in_err-file-clause-asked g c = asked_text c.args.pages.now c.args.k (g.S.Source.view c.args.pages.now.source) (g.S.Source.view c.open.new.pages.source) c.open.ensures.asked

pub returns-in_err-file-clause-ends : goal.returns-in_err-file-clause-ends
returns-in_err-file-clause-ends g c =
    let old = g.S.Source.view c.args.pages.now.source in
    let new = g.S.Source.view c.open.new.pages.source in
    let out = g.O.Sink.view c.args.out.now in
    by_error (λ _. StreamEnds (blob_streamed c.args.k) old new out out None) (λ fault. StreamEnds (blob_streamed c.args.k) old new out out (Some fault)) (open_as_run c.in_err-file.field-0.0) c.from_residual.result c.from_residual.ensures.1
    (not_opened c.args.k old new out c.in_err-file.field-0.0 c.in_err-file.ensures.opened)

pub returns-in_err-blob-clause-asked : goal.returns-in_err-blob-clause-asked
returns-in_err-blob-clause-asked g c = asked_text c.args.pages.now c.args.k (g.S.Source.view c.args.pages.now.source) (g.S.Source.view c.open.new.pages.source) c.open.ensures.asked

pub returns-in_err-blob-clause-ends : goal.returns-in_err-blob-clause-ends
returns-in_err-blob-clause-ends g c =
    let old = g.S.Source.view c.args.pages.now.source in
    let new = g.S.Source.view c.open.new.pages.source in
    let out = g.O.Sink.view c.args.out.now in
    by_error (λ _. StreamEnds (blob_streamed c.args.k) old new out out None) (λ fault. StreamEnds (blob_streamed c.args.k) old new out out (Some fault)) (Ask c.in_err-blob.field-0.0) c.from_residual-in_err-blob.result c.from_residual-in_err-blob.ensures.1
    (too_few c.args.k c.in_ok-file.file old new out c.in_err-blob.field-0.0 c.in_err-blob.ensures c.in_ok-file.ensures.opened)

pub open_blob-requires : goal.open_blob-requires
open_blob-requires g c = λ e same. blob_there c.in_ok-file.file c.args.k c.in_ok-blob.blob e c.in_ok-blob.ensures same

pub returns-in_err-open_blob-clause-asked : goal.returns-in_err-open_blob-clause-asked
returns-in_err-open_blob-clause-asked g c =
    let now = c.args.pages.now in
    let view = g.S.Source.view in
    let old = view now.source in
    let blob = c.in_ok-blob.blob in
    let of_nodes = c.in_ok-blob.ensures in
    let there = has_blob_at old.held c.in_ok-file.file c.args.k blob of_nodes c.in_ok-file.ensures.opened in
    let sized = told_size old now.length (g.met.S.Source.holds_size now.source) c.logical_len-size.ensures.open_size in
    let opened = c.in_err-open_blob.ensures.blob of_nodes.are_nodes.tree of_nodes.are_nodes.in_preorder blob (of_nodes.there of_nodes.are_nodes.tree of_nodes.are_nodes.in_preorder) in
    let judged = c.open_blob.ensures.place of_nodes.are_nodes.tree of_nodes.are_nodes.in_preorder blob (of_nodes.there of_nodes.are_nodes.tree of_nodes.are_nodes.in_preorder) in
    asked_judged view now c.open.new.pages c.open_blob.new.pages c.args.k blob old c.open_blob.result c.in_ok-file.ensures.asked c.in_ok-file.ensures.length judged opened.source sized there

pub returns-in_err-open_blob-clause-place : goal.returns-in_err-open_blob-clause-place
returns-in_err-open_blob-clause-place g c =
    let now = c.args.pages.now in
    let view = g.S.Source.view in
    let blob = c.in_ok-blob.blob in
    let of_nodes = c.in_ok-blob.ensures in
    let opened = c.in_err-open_blob.ensures.blob of_nodes.are_nodes.tree of_nodes.are_nodes.in_preorder blob (of_nodes.there of_nodes.are_nodes.tree of_nodes.are_nodes.in_preorder) in
    judged_later now c.open.new.pages c.open_blob.new.pages c.in_ok-file.file c.from_residual-in_err-open_blob.result (g.O.Sink.view c.args.out.now) (g.O.Sink.view c.args.out.now) c.in_ok-file.ensures.place
    (head_past (view c.open.new.pages.source) (view c.open_blob.new.pages.source) blob c.in_err-open_blob.field-0.0 c.from_residual-in_err-open_blob.result c.from_residual-in_err-open_blob.ensures.1 opened.cause)

pub returns-in_err-open_blob-clause-ends : goal.returns-in_err-open_blob-clause-ends
returns-in_err-open_blob-clause-ends g c =
    let now = c.args.pages.now in
    let view = g.S.Source.view in
    let old = view now.source in
    let mid = view c.open.new.pages.source in
    let new = view c.open_blob.new.pages.source in
    let out = g.O.Sink.view c.args.out.now in
    let blob = c.in_ok-blob.blob in
    let of_nodes = c.in_ok-blob.ensures in
    let there = has_blob_at old.held c.in_ok-file.file c.args.k blob of_nodes c.in_ok-file.ensures.opened in
    let opened = c.in_err-open_blob.ensures.blob of_nodes.are_nodes.tree of_nodes.are_nodes.in_preorder blob (of_nodes.there of_nodes.are_nodes.tree of_nodes.are_nodes.in_preorder) in
    let asks = c.in_ok-file.ensures.asked.3 in
    by_error (λ _. StreamEnds (blob_streamed c.args.k) old new out out None) (λ fault. StreamEnds (blob_streamed c.args.k) old new out out (Some fault)) (read_as_run c.in_err-open_blob.field-0.0) c.from_residual-in_err-open_blob.result c.from_residual-in_err-open_blob.ensures.1
    (no_section c.args.k blob old mid new out c.in_err-open_blob.field-0.0 asks.same.held asks.faults there opened.cause)

pub returns-in_err-buffer-clause-asked : goal.returns-in_err-buffer-clause-asked
returns-in_err-buffer-clause-asked g c =
    let now = c.args.pages.now in
    let view = g.S.Source.view in
    let old = view now.source in
    let blob = c.in_ok-blob.blob in
    let of_nodes = c.in_ok-blob.ensures in
    let there = has_blob_at old.held c.in_ok-file.file c.args.k blob of_nodes c.in_ok-file.ensures.opened in
    let sized = told_size old now.length (g.met.S.Source.holds_size now.source) c.logical_len-size.ensures.open_size in
    let opened = c.in_ok-open_blob.ensures.blob of_nodes.are_nodes.tree of_nodes.are_nodes.in_preorder blob (of_nodes.there of_nodes.are_nodes.tree of_nodes.are_nodes.in_preorder) in
    let lies = subst (λ n. LiesIn (n / 1024 * 1020) blob) c.in_ok-file.ensures.length opened.lies in
    asked_head now c.args.k c.open.new.pages.kept blob old (view c.open.new.pages.source) (view c.open_blob.new.pages.source) c.in_ok-file.ensures.asked opened.source lies sized there

pub put_bytes-requires-clause-lies : goal.put_bytes-requires-clause-lies
put_bytes-requires-clause-lies g c =
    let blob = c.in_ok-blob.blob in
    let of_nodes = c.in_ok-blob.ensures in
    let opened = c.in_ok-open_blob.ensures.blob of_nodes.are_nodes.tree of_nodes.are_nodes.in_preorder blob (of_nodes.there of_nodes.are_nodes.tree of_nodes.are_nodes.in_preorder) in
    subst (λ n. LiesIn (n / 1024 * 1020) blob) (sym c.in_ok-open_blob.ensures.length) opened.lies

pub put_bytes-requires-clause-kept : goal.put_bytes-requires-clause-kept
put_bytes-requires-clause-kept g c =
    let blob = c.in_ok-blob.blob in
    let of_nodes = c.in_ok-blob.ensures in
    let opened = c.in_ok-open_blob.ensures.blob of_nodes.are_nodes.tree of_nodes.are_nodes.in_preorder blob (of_nodes.there of_nodes.are_nodes.tree of_nodes.are_nodes.in_preorder) in
    keeps_last (blob_head blob) c.open.new.pages.kept c.open_blob.new.pages.kept opened.keeps

pub returns-clause-asked : goal.returns-clause-asked
returns-clause-asked g c =
    let now = c.args.pages.now in
    let view = g.S.Source.view in
    let old = view now.source in
    let mid = view c.open.new.pages.source in
    let later = view c.open_blob.new.pages.source in
    let new = view c.put_bytes.new.pages.source in
    let blob = c.in_ok-blob.blob in
    let of_nodes = c.in_ok-blob.ensures in
    let there = has_blob_at old.held c.in_ok-file.file c.args.k blob of_nodes c.in_ok-file.ensures.opened in
    let sized = told_size old now.length (g.met.S.Source.holds_size now.source) c.logical_len-size.ensures.open_size in
    let opened = c.in_ok-open_blob.ensures.blob of_nodes.are_nodes.tree of_nodes.are_nodes.in_preorder blob (of_nodes.there of_nodes.are_nodes.tree of_nodes.are_nodes.in_preorder) in
    let lies = subst (λ n. LiesIn (n / 1024 * 1020) blob) c.in_ok-file.ensures.length opened.lies in
    let sound = told_here (λ file. stated_blob_fault file blob ≡ None) mid.held old.held (sym c.in_ok-file.ensures.asked.3.same.held) opened.sound in
    asked_all now c.args.k c.open.new.pages.kept blob old mid later new c.in_ok-file.ensures.asked opened.source
    (bytes_asked blob later new (g.O.Sink.view c.args.out.now) (g.O.Sink.view c.put_bytes.new.out) c.put_bytes.result c.put_bytes.ensures.bytes)
    lies sized there sound

pub returns-clause-place : goal.returns-clause-place
returns-clause-place g c =
    let view = g.S.Source.view in
    let blob = c.in_ok-blob.blob in
    let out = g.O.Sink.view c.args.out.now in
    let out' = g.O.Sink.view c.put_bytes.new.out in
    judged_later c.args.pages.now c.open.new.pages c.put_bytes.new.pages c.in_ok-file.file c.put_bytes.result out out' c.in_ok-file.ensures.place
    (bytes_past blob (view c.open_blob.new.pages.source) (view c.put_bytes.new.pages.source) out out' c.put_bytes.result c.put_bytes.ensures.bytes)

pub returns-clause-ends : goal.returns-clause-ends
returns-clause-ends g c =
    let now = c.args.pages.now in
    let view = g.S.Source.view in
    let old = view now.source in
    let mid = view c.open.new.pages.source in
    let later = view c.open_blob.new.pages.source in
    let new = view c.put_bytes.new.pages.source in
    let blob = c.in_ok-blob.blob in
    let of_nodes = c.in_ok-blob.ensures in
    let there = has_blob_at old.held c.in_ok-file.file c.args.k blob of_nodes c.in_ok-file.ensures.opened in
    let opened = c.in_ok-open_blob.ensures.blob of_nodes.are_nodes.tree of_nodes.are_nodes.in_preorder blob (of_nodes.there of_nodes.are_nodes.tree of_nodes.are_nodes.in_preorder) in
    let first = c.in_ok-file.ensures.asked.3 in
    let head = opened.source.3 in
    let sound = told_here (λ file. stated_blob_fault file blob ≡ None) mid.held old.held (sym first.same.held) opened.sound in
    let a = first.faults in
    let b = head.faults in
    bytes_end c.args.k c.in_ok-file.file blob old later new (g.O.Sink.view c.args.out.now) (g.O.Sink.view c.put_bytes.new.out) c.put_bytes.result c.one_answer.ensures.either c.one_answer.ensures.tree
    (head.same.held ∙ first.same.held) (omega (arith, a, b)) c.in_ok-file.ensures.opened there sound c.put_bytes.ensures.bytes
