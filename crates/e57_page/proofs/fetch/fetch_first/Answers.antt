use Rattle.std.proofs.Common.{◌≡◌, Some, None, true, false, refl, ◌∙◌}
use Rattle.e57_base.specs.declared.kind.Kind.TheVariants.{Page}
use Rattle.e57_crc.specs.Crc.{is_right}
use Rattle.e57_base.specs.Fault.{fault}
use Rattle.e57_page.proofs.PagesLaws.{has_page}
use Rattle.e57_page.proofs.Fetching.{asks_for_page, told_wrong, told_right, told_later, told_size, told_header, told_bad_header, told_word, header_kind, header_length, has_first}
use Rattle.e57_page.proofs.fetch.fetch_first.Goals as goal

pub read_page-requires : goal.read_page-requires
read_page-requires g c = has_page (g.S.Source.view c.args.source.now) c.args.length 0 c.requires.size (has_first c.args.length c.requires.whole)

pub returns-in-Err-read : goal.returns-in-Err-read
returns-in-Err-read g c =
    let read = c.in_default.ensures in
    let old = g.S.Source.view c.args.source.now in
    let long = told_size old.held old.size c.args.length (g.met.S.Source.holds_size c.args.source.now) c.requires.size in
    rw c.requires.whole
    (record {
      source = asks_for_page read;
      kind = header_kind c.read_page.new.out c.args.length c.in-Err-read.fault c.in-Err-read.ensures;
      first = told_bad_header c.args.length c.read_page.new.out c.requires.whole old.held c.in-Err-read.fault long read.read c.in-Err-read.ensures;
    })

pub returns-then-not-word_right : goal.returns-then-not-word_right
returns-then-not-word_right g c =
    let read = c.in_default.ensures in
    let header = c.in-Ok.ensures in
    let old = g.S.Source.view c.args.source.now in
    let page = c.read_page.new.out in
    let wrong : is_right page ≡ false = cc in
    let long = told_size old.held old.size c.args.length (g.met.S.Source.holds_size c.args.source.now) c.requires.size in
    rw (c.wrong_page.ensures, c.requires.whole)
    (record {
      source = asks_for_page read;
      kind = refl;
      first = told_word c.args.length page c.requires.whole old.held (Some (fault Page 0 0)) long read.read header.0 (told_wrong old.held 0 page read.read wrong);
    })

pub returns : goal.returns
returns g c =
    let read = c.in_default.ensures in
    let header = c.in-Ok.ensures in
    let old = g.S.Source.view c.args.source.now in
    let new = g.S.Source.view c.read_page.new.self in
    let page = c.read_page.new.out in
    let right : is_right page ≡ true = cc in
    let long = told_size old.held old.size c.args.length (g.met.S.Source.holds_size c.args.source.now) c.requires.size in
    let size : new.size ≡ Some c.args.length = read.same.size ∙ c.requires.size in (
      record {
        source = asks_for_page read;
        length = refl;
        sound = c.requires.whole;
        agrees = header_length page c.args.length c.in-Ok.header header.0 header.1;
        first = told_word c.args.length page c.requires.whole old.held None long read.read header.0 (told_right old.held 0 page read.read right);
        read = told_header c.args.length page c.requires.whole old.held c.in-Ok.header read.read header.1;
      },
      record {
        within = has_page new c.args.length 0 size (has_first c.args.length c.requires.whole);
        long = c.read_page.array_long;
        right = right;
        bytes = told_later old.held new.held 0 page read.same.held read.read;
      },
    )
