use Rattle.std.proofs.Common.{◌≡◌, ◌<◌, ◌%◌, ◌/◌, arith}
use Rattle.e57_import.proofs.WholeFile.{all_whole, all_with_rest, stops_at_rest, stops_before}
use Rattle.e57_import.proofs.text.read_text.Goals as goal

pub returns-in-Err-read_rest : goal.returns-in-Err-read_rest
returns-in-Err-read_rest g c =
    let rest : 0 < c.args.length % 1024 = omega (arith, c.if-length-eq0.false) in
    stops_at_rest c.args.length c.read_pages.new.text.items c.in-Err-read_rest.fault (g.S.Source.view c.args.source.now) (g.S.Source.view c.read_pages.new.source) (g.S.Source.view c.read_rest.new.source) rest
    c.in_default-read_pages.ensures c.in-Err-read_rest.ensures

pub returns : goal.returns
returns g c =
    let rest : 0 < c.args.length % 1024 = omega (arith, c.if-length-eq0.false) in
    all_with_rest c.args.length c.read_pages.new.text.items c.read_rest.new.text.items (g.S.Source.view c.args.source.now) (g.S.Source.view c.read_pages.new.source) (g.S.Source.view c.read_rest.new.source)
    (g.met.S.Source.holds_size c.args.source.now) c.requires.size rest c.in_default-read_pages.ensures c.in_default-read_rest.ensures
