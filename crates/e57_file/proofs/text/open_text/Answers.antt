use Rattle.std.proofs.Common.{◌≡◌, ◌∙◌, length, drop}
use Rattle.std.proofs.lemmas.List.{take_at}
use Rattle.e57_base.specs.Fault.{text_as_open}
use Rattle.e57_page.proofs.PagesLaws.{cut_asks}
use Rattle.e57_file.specs.Text.{IsTextRead, IsTextCause}
use Rattle.e57_file.proofs.Sections.{has_header, asked_for, refused_by_place, refused_by_page, refused_by_text, text_read}
use Rattle.e57_file.proofs.text.open_text.Goals as goal
use Rattle.e57_base.proofs.Options.{by_error}

pub returns-in-Err-clause-text : goal.returns-in-Err-clause-text
returns-in-Err-clause-text g c =
    let now = c.args.pages.now in
    let old = g.S.Source.view now.source in
    let told = has_header now.header now.length old (g.met.S.Source.holds_size now.source) c.logical_len-count.ensures.open_size c.header.ensures.read in
    refused_by_place now.header now.length old old c.in-Err.found told (rw (c.logical_len-count.ensures.count, c.header.ensures.header) at c.in-Err.ensures)

pub returns-in-Err-read-clause-asked : goal.returns-in-Err-read-clause-asked
returns-in-Err-read-clause-asked g c =
    let now = c.args.pages.now in
    let cut = c.in-Err-read.ensures.range in
    let placed = rw (c.logical_len-count.ensures.count, c.header.ensures.header) at c.in-Ok.ensures in
    let long : length c.deref_mut.result.now ≡ c.header.result.now.xml_length = c.deref_mut.ensures.len ∙ c.in_ok-text.ensures.len in
    asked_for now.header now.length c.in-Ok.start (length c.deref_mut.result.now) now.kept (g.S.Source.view now.source) (g.S.Source.view c.read.new.self.source) placed (rw c.header.ensures.header at long)
    (cut_asks (g.S.Source.view now.source) (g.S.Source.view c.read.new.self.source) now.kept c.read.new.self.kept c.in-Ok.start cut.0 c.deref_mut.result.now c.read.new.out c.in-Err-read.cut cut.1)

pub returns-in-Err-read-clause-text : goal.returns-in-Err-read-clause-text
returns-in-Err-read-clause-text g c =
    let now = c.args.pages.now in
    let old = g.S.Source.view now.source in
    let cut = c.in-Err-read.ensures.range in
    let told = has_header now.header now.length old (g.met.S.Source.holds_size now.source) c.logical_len-count.ensures.open_size c.header.ensures.read in
    let placed = rw (c.logical_len-count.ensures.count, c.header.ensures.header) at c.in-Ok.ensures in
    let long : length c.deref_mut.result.now ≡ c.header.result.now.xml_length = c.deref_mut.ensures.len ∙ c.in_ok-text.ensures.len in
    rw c.from.ensures
    (refused_by_page now.header now.length c.in-Ok.start now.kept c.read.new.self.kept cut.0 c.deref_mut.result.now c.read.new.out c.in-Err-read.cut old (g.S.Source.view c.read.new.self.source) told placed (rw c.header.ensures.header at long) cut.1)

pub returns-in_err-tree-clause-text : goal.returns-in_err-tree-clause-text
returns-in_err-tree-clause-text g c =
    let now = c.args.pages.now in
    let old = g.S.Source.view now.source in
    let new = g.S.Source.view c.read.new.self.source in
    let told = has_header now.header now.length old (g.met.S.Source.holds_size now.source) c.logical_len-count.ensures.open_size c.header.ensures.read in
    let placed = rw (c.logical_len-count.ensures.count, c.header.ensures.header) at c.in-Ok.ensures in
    let long : length c.deref_mut.result.now ≡ c.header.result.now.xml_length = c.deref_mut.ensures.len ∙ c.in_ok-text.ensures.len in
    let range = c.in_default.ensures.range in
    let same : c.deref.result.now ≡ c.read.new.out =
    c.deref.ensures.value ∙ take_at c.read.new.out (drop (length c.read.new.out) c.in_ok-text.text.items) c.in_ok-text.text.len (c.read.auto.out ∙ c.deref_mut.ensures.len) in
    by_error (λ nodes. IsTextRead old nodes) (λ fault. IsTextCause old fault new) (text_as_open c.in_err-tree.field-0.0) c.from_residual-in_err-tree.result c.from_residual-in_err-tree.ensures.1
    (refused_by_text now.header now.length c.in-Ok.start (length c.deref_mut.result.now) old new c.read.new.out c.in_err-tree.field-0.0 told placed (rw c.header.ensures.header at long) range.right range.bytes (rw same at c.in_err-tree.ensures.fault))

pub returns-clause-text : goal.returns-clause-text
returns-clause-text g c =
    let now = c.args.pages.now in
    let old = g.S.Source.view now.source in
    let told = has_header now.header now.length old (g.met.S.Source.holds_size now.source) c.logical_len-count.ensures.open_size c.header.ensures.read in
    let placed = rw (c.logical_len-count.ensures.count, c.header.ensures.header) at c.in-Ok.ensures in
    let long : length c.deref_mut.result.now ≡ c.header.result.now.xml_length = c.deref_mut.ensures.len ∙ c.in_ok-text.ensures.len in
    let range = c.in_default.ensures.range in
    let same : c.deref.result.now ≡ c.read.new.out =
    c.deref.ensures.value ∙ take_at c.read.new.out (drop (length c.read.new.out) c.in_ok-text.text.items) c.in_ok-text.text.len (c.read.auto.out ∙ c.deref_mut.ensures.len) in
    text_read now.header now.length c.in-Ok.start (length c.deref_mut.result.now) old c.read.new.out c.in_ok-tree.tree told placed (rw c.header.ensures.header at long) range.right range.bytes (rw same at c.in_ok-tree.ensures.found)
