use Rattle.std.proofs.Common.{◌≡◌, ◌∙◌, ◌*◌, ◌/◌, Some, None, inl, refl, sym, arith}
use Rattle.e57_base.specs.Fault.{fault}
use Rattle.e57_base.specs.declared.kind.Kind.TheVariants.{BlobId}
use Rattle.e57_page.specs.Place.{span_end}
use Rattle.e57_page.proofs.PagesLaws.{cut_asks, asks_unkept_none}
use Rattle.e57_file.specs.Blob.{head_place, blob_head}
use Rattle.e57_file.proofs.Blobs.{head_is, lies, told_size, outside_cause, page_cause, id_outcome, right_id, wrong_id, keeps_only, cut_keeps}
use Rattle.e57_file.proofs.blob.open_section.Goals as goal

pub returns-in_default-clause-blob : goal.returns-in_default-clause-blob
returns-in_default-clause-blob g c =
    let now = c.args.pages.now in
    let old = g.S.Source.view now.source in
    let blob = c.args.blob.now in
    let size = now.length / 1024 * 1020 in
    let told = told_size old now.length (g.met.S.Source.holds_size now.source) c.logical_len-size.ensures.open_size in
    let none : head_place size blob ≡ None = rw c.logical_len-size.ensures.count at (sym c.head_place.ensures ∙ c.in_default.is) in
    record {
      source = asks_unkept_none now.kept (blob_head blob / 1020) (span_end (blob_head blob) 16) old;
      keeps = λ k is. inl is;
      cause = rw c.new.ensures (refl, outside_cause old size blob told none);
    }

pub returns-in-Err-clause-blob : goal.returns-in-Err-clause-blob
returns-in-Err-clause-blob g c =
    let now = c.args.pages.now in
    let old = g.S.Source.view now.source in
    let new = g.S.Source.view c.read.new.self.source in
    let blob = c.args.blob.now in
    let size = now.length / 1024 * 1020 in
    let head = c.in-Some.head in
    let cut = c.in-Err.cut in
    let stopped = c.in-Err.ensures.range in
    let told = told_size old now.length (g.met.S.Source.holds_size now.source) c.logical_len-size.ensures.open_size in
    let some : head_place size blob ≡ Some head = rw c.logical_len-size.ensures.count at (sym c.head_place.ensures ∙ c.in-Some.is) in
    let here = head_is size head blob some in
    record {
      source = rw here (cut_asks old new now.kept c.read.new.self.kept head stopped.0 _ c.read.new.out cut stopped.1);
      keeps = rw here (cut_keeps old new now.kept c.read.new.self.kept head stopped.0 _ c.read.new.out cut stopped.1);
      cause = page_cause old new size head stopped.0 blob now.kept c.read.new.self.kept _ c.read.new.out cut refl told some stopped.1;
    }

pub returns-then-id-ne-BLOB_ID-clause-blob : goal.returns-then-id-ne-BLOB_ID-clause-blob
returns-then-id-ne-BLOB_ID-clause-blob g c =
    let now = c.args.pages.now in
    let old = g.S.Source.view now.source in
    let blob = c.args.blob.now in
    let size = now.length / 1024 * 1020 in
    let head = c.in-Some.head in
    let header = c.read_blob_header-id.result in
    let range = c.in_default-read.ensures.range in
    let told = told_size old now.length (g.met.S.Source.holds_size now.source) c.logical_len-size.ensures.open_size in
    let some : head_place size blob ≡ Some head = rw c.logical_len-size.ensures.count at (sym c.head_place.ensures ∙ c.in-Some.is) in
    let here = head_is size head blob some in
    record {
      source = rw here range.source;
      keeps = rw here (keeps_only now.kept c.read.new.self.kept head 16 (span_end head 16) (omega arith) range.keeps);
      cause = rw c.new-then-id-ne-BLOB_ID.ensures (refl, id_outcome old size head blob c.read.new.out header (Some (fault BlobId blob.node header.id)) told some range.right range.bytes c.read_blob_header-id.ensures (wrong_id header.id (fault BlobId blob.node header.id) c.if-id-ne-BLOB_ID.true));
    }

pub returns-clause-blob : goal.returns-clause-blob
returns-clause-blob g c =
    let now = c.args.pages.now in
    let old = g.S.Source.view now.source in
    let blob = c.args.blob.now in
    let size = now.length / 1024 * 1020 in
    let head = c.in-Some.head in
    let header = c.read_blob_header-id.result in
    let range = c.in_default-read.ensures.range in
    let told = told_size old now.length (g.met.S.Source.holds_size now.source) c.logical_len-size.ensures.open_size in
    let some : head_place size blob ≡ Some head = rw c.logical_len-size.ensures.count at (sym c.head_place.ensures ∙ c.in-Some.is) in
    let here = head_is size head blob some in
    record {
      source = rw here range.source;
      keeps = rw here range.keeps;
      begins = rw here refl;
      lies = lies size head blob some;
      sound = id_outcome old size head blob c.read.new.out header None told some range.right range.bytes c.read_blob_header-id.ensures (right_id header.id (fault BlobId blob.node header.id) c.if-id-ne-BLOB_ID.false);
    }
