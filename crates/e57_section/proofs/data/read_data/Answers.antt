use Rattle.std.proofs.Common.{◌≡◌, length, take, refl}
use Rattle.std.proofs.lemmas.List.{length-take-le}
use Rattle.e57_page.proofs.PagesLaws.{cut_asks}
use Rattle.e57_section.proofs.Spans.{cut_keeps, cut_cause}
use Rattle.e57_section.proofs.Shapes.{data_page}
use Rattle.e57_section.proofs.data.read_data.Goals as goal

pub returns-in-Err-clause-data : goal.returns-in-Err-clause-data
returns-in-Err-clause-data g c =
    let old = g.S.Source.view c.args.pages.now.source in
    let new = g.S.Source.view c.read.new.self.source in
    let kept = c.args.pages.now.kept in
    let cut = c.in-Err.cut in
    let stopped = c.in-Err.ensures.range in
    let before = take c.args.packet_length c.args.bytes.now in
    let long : length before ≡ c.args.packet_length = length-take-le c.args.packet_length c.args.bytes.now c.requires.bytes in
    record {
      source = rw long at (cut_asks old new kept c.read.new.self.kept c.args.at stopped.0 before c.read.new.out cut stopped.1);
      keeps = rw long at (cut_keeps old new kept c.read.new.self.kept c.args.at stopped.0 before c.read.new.out cut stopped.1);
      cause = data_page old new c.args.section.now.node c.args.at c.args.packet_length c.args.section.now.fields cut.fault (rw long at (cut_cause old new kept c.read.new.self.kept c.args.at stopped.0 before c.read.new.out cut cut.fault refl stopped.1));
    }
