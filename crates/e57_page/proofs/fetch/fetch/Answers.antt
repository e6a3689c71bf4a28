use Rattle.std.proofs.Common.{◌≡◌, false, refl}
use Rattle.e57_crc.specs.Crc.{is_right}
use Rattle.e57_page.proofs.Fetching.{asks_for_page, told_wrong}
use Rattle.e57_page.proofs.fetch.fetch.Goals as goal

pub returns-then-not-word_right : goal.returns-then-not-word_right
returns-then-not-word_right g c =
    let read = c.in_default.ensures in
    let wrong : is_right c.read_page.new.out ≡ false = cc in
    rw c.wrong_page.ensures
    (record {
      source = asks_for_page read;
      cause = (refl, told_wrong (g.S.Source.view c.args.source.now).held c.args.n c.read_page.new.out read.read wrong);
    })
