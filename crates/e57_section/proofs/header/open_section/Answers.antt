use Rattle.std.proofs.Common.{◌≡◌, ◌∙◌, ◌*◌, ◌/◌, Some, None, refl, sym, arith}
use Rattle.e57_page.proofs.PagesLaws.{cut_asks, asks_for_none}
use Rattle.e57_section.specs.Opening.{header_place}
use Rattle.e57_section.proofs.Spans.{keeps_only_span, cut_keeps, cut_cause}
use Rattle.e57_section.proofs.Openings.{header_placed, told_size, outside_cause, page_cause, header_outcome, header_section, header_kind, header_lies, asks_header, asks_no_header, keeps_header, keeps_no_header}
use Rattle.e57_section.proofs.header.open_section.Goals as goal

pub returns-in_default-clause-section : goal.returns-in_default-clause-section
returns-in_default-clause-section g c =
    let now = c.args.pages.now in
    let old = g.S.Source.view now.source in
    let size = now.length / 1024 * 1020 in
    let told = told_size old now.length (g.met.S.Source.holds_size now.source) c.logical_len-size.ensures.open_size in
    let none : header_place size c.args.place ≡ None = rw c.logical_len-size.ensures.count at (sym c.header_place.ensures ∙ c.in_default.is) in
    record {
      source = asks_no_header now.kept size c.args.place old old none (asks_for_none old);
      keeps = keeps_no_header now.kept size c.args.place none;
      cause = rw c.new.ensures (refl, outside_cause old size c.args.node c.args.place told none);
    }

pub returns-in-Err-clause-section : goal.returns-in-Err-clause-section
returns-in-Err-clause-section g c =
    let now = c.args.pages.now in
    let old = g.S.Source.view now.source in
    let new = g.S.Source.view c.read.new.self.source in
    let size = now.length / 1024 * 1020 in
    let start = c.in-Some.start in
    let cut = c.in-Err.cut in
    let stopped = c.in-Err.ensures.range in
    let told = told_size old now.length (g.met.S.Source.holds_size now.source) c.logical_len-size.ensures.open_size in
    let some : header_place size c.args.place ≡ Some start = rw c.logical_len-size.ensures.count at (sym c.header_place.ensures ∙ c.in-Some.is) in
    record {
      source = asks_header now.kept size c.args.place start old new some (cut_asks old new now.kept c.read.new.self.kept start stopped.0 _ c.read.new.out cut stopped.1);
      keeps = keeps_header now.kept c.read.new.self.kept size c.args.place start some (cut_keeps old new now.kept c.read.new.self.kept start stopped.0 _ c.read.new.out cut stopped.1);
      cause = page_cause old new size c.args.node c.args.place start cut.fault told some (cut_cause old new now.kept c.read.new.self.kept start stopped.0 _ c.read.new.out cut cut.fault refl stopped.1);
    }

pub overflow_add-result : goal.overflow_add-result
overflow_add-result g c =
    let lies = header_lies c.args.node c.args.place c.logical_len-size.result c.in-Some.start c.in-Ok.data_place c.read_section_header-header.result c.in-Ok.ensures.0 c.in-Ok.ensures.1 in
    let end = lies.end in
    let fits = c.logical_len-size.type_inv in
    omega (arith, end, fits)

pub returns-in-Ok-clause-section : goal.returns-in-Ok-clause-section
returns-in-Ok-clause-section g c =
    let now = c.args.pages.now in
    let old = g.S.Source.view now.source in
    let size = now.length / 1024 * 1020 in
    let start = c.in-Some.start in
    let header = c.read_section_header-header.result in
    let range = c.in_default-read.ensures.range in
    let told = told_size old now.length (g.met.S.Source.holds_size now.source) c.logical_len-size.ensures.open_size in
    let some : header_place size c.args.place ≡ Some start = rw c.logical_len-size.ensures.count at (sym c.header_place.ensures ∙ c.in-Some.is) in
    let sound = rw c.logical_len-size.ensures.count at c.in-Ok.ensures.0 in
    let lies = header_lies c.args.node c.args.place size start c.in-Ok.data_place header sound c.in-Ok.ensures.1 in
    let here = header_placed size c.args.place start some in
    record {
      source = range.source;
      keeps = range.keeps;
      place = here.0;
      lies = record {
        header = lies.after;
        data_within = lies.inside;
        within = lies.end;
        some_fields = c.requires.some_fields;
        few_fields = c.requires.few_fields;
        some_records = c.requires.some_records;
        few_records = c.requires.few_records;
      };
      of_node = refl;
      has_fields = refl;
      has_records = refl;
      sound = header_outcome old size c.args.node c.args.place start c.read.new.out header None told some range.right range.bytes c.read_section_header-header.ensures sound;
      read = header_section old c.args.node c.args.place c.args.count c.args.fields start c.in-Ok.data_place c.read.new.out header here.0 c.in-Ok.ensures.1 range.bytes c.read_section_header-header.ensures;
    }

pub returns-in-Err-judge_header-clause-section : goal.returns-in-Err-judge_header-clause-section
returns-in-Err-judge_header-clause-section g c =
    let now = c.args.pages.now in
    let old = g.S.Source.view now.source in
    let new = g.S.Source.view c.read.new.self.source in
    let size = now.length / 1024 * 1020 in
    let start = c.in-Some.start in
    let header = c.read_section_header-header.result in
    let found = c.in-Err-judge_header.found in
    let range = c.in_default-read.ensures.range in
    let told = told_size old now.length (g.met.S.Source.holds_size now.source) c.logical_len-size.ensures.open_size in
    let some : header_place size c.args.place ≡ Some start = rw c.logical_len-size.ensures.count at (sym c.header_place.ensures ∙ c.in-Some.is) in
    let wrong = rw c.logical_len-size.ensures.count at c.in-Err-judge_header.ensures in
    record {
      source = asks_header now.kept size c.args.place start old new some range.source;
      keeps = keeps_header now.kept c.read.new.self.kept size c.args.place start some (keeps_only_span now.kept c.read.new.self.kept start 32 range.keeps);
      cause = (header_kind c.args.node c.args.place size start header found wrong, header_outcome old size c.args.node c.args.place start c.read.new.out header (Some found) told some range.right range.bytes c.read_section_header-header.ensures wrong);
    }
