use Rattle.std.proofs.Common.{◌≡◌, ◌<◌, ◌/◌, ap}
use Rattle.e57_page.specs.Pages.{Reading}
use Rattle.e57_page.proofs.Keeping.{keeps_kept, keeps_read, page_held, kept_asks, unkept_asks, sound_read}
use Rattle.e57_page.proofs.Pieces.{reads_piece}
use Rattle.e57_page.proofs.pages.Pages.read_piece.Goals as goal

pub returns-in-Some-clause-piece : goal.returns-in-Some-clause-piece
returns-in-Some-clause-piece g c =
    let inside = c.self.inside in
    let view = g.S.Source.view inside.source in
    let held = c.in-Some.ensures.page in
    let size : inside.length ≡ c.args.self.now.length = ap (λ (reading : Reading _). reading.length) c.self.view_is in
    let below : c.args.n < inside.length / 1024 = rw size c.requires.page in
    let page = page_held view inside.kept.numbers inside.kept.pages c.args.n c.in-Some.page.now c.self.invariant.kept held.0 held.1 in
    rw (← c.self.view_is)
    (reads_piece view view inside.kept.numbers inside.kept.numbers c.args.at c.args.n c.args.high inside.length c.in-Some.page.now c.args.out.now c.copy_piece.new.out (keeps_kept inside.kept.numbers c.args.n c.args.high held.0) (g.met.S.Source.holds_size inside.source) c.self.invariant.open_size below c.requires.reaches c.requires.begins page.long (kept_asks view inside.kept.numbers c.args.n held.0) page c.copy_piece.ensures)

pub invariant_of-self-2 : goal.invariant_of-self-2
invariant_of-self-2 g c =
    let inside = c.self.inside in
    let fetched = c.in_ok-fetch.ensures in
    let places = c.in_default.ensures.places in
    sound_read (g.S.Source.view inside.source) (g.S.Source.view c.fetch.new.source) inside.length c.args.n c.args.high inside.header inside.kept.numbers c.keep.new.kept.numbers inside.kept.pages c.keep.new.kept.pages c.fetch.new.page places.0 places.1 fetched.source.same c.self.invariant fetched.right_page c.keep.ensures.numbers c.keep.ensures.pages

pub returns-clause-piece : goal.returns-clause-piece
returns-clause-piece g c =
    let inside = c.self.inside in
    let fetched = c.in_ok-fetch.ensures in
    let free = c.in_default.ensures.page in
    let places = c.in_default.ensures.places in
    let size : inside.length ≡ c.args.self.now.length = ap (λ (reading : Reading _). reading.length) c.self.view_is in
    let below : c.args.n < inside.length / 1024 = rw size c.requires.page in
    let keeps = keeps_read inside.kept.numbers c.keep.new.kept.numbers c.args.n c.args.high places.0 c.requires.below c.keep.ensures.numbers in
    rw (← c.self.view_is)
    (reads_piece (g.S.Source.view inside.source) (g.S.Source.view c.fetch.new.source) inside.kept.numbers c.keep.new.kept.numbers c.args.at c.args.n c.args.high inside.length c.fetch.new.page c.args.out.now c.copy_piece-2.new.out keeps (g.met.S.Source.holds_size inside.source) c.self.invariant.open_size below c.requires.reaches c.requires.begins fetched.right_page.long (unkept_asks (g.S.Source.view inside.source) (g.S.Source.view c.fetch.new.source) inside.kept.numbers c.args.n free fetched.source) fetched.right_page c.copy_piece-2.ensures)
