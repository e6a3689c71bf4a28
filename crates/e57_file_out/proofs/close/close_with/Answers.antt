use Rattle.std.proofs.Common.{◌≡◌, ◌*◌, length, refl, arith}
use Rattle.e57_page.specs.declared.header.Header.{Header}
use Rattle.e57_page_out.specs.Sealed.{pages_for}
use Rattle.e57_file_out.proofs.ClosingSteps.{ready, file_closed, file_lost}
use Rattle.e57_file_out.proofs.close.close_with.Goals as goal

pub returns-in-Ok-clause-closed : goal.returns-in-Ok-clause-closed
unfolding pages_for
returns-in-Ok-clause-closed g c =
    let view = g.T.Target.view in
    let old = c.args.out.now in
    let text = c.args.text.now in
    let b = c.fresh_page.new.self in
    let n = c.put.new.self in
    let count : c.div_ceil.result ≡ pages_for n.size = omega arith in
    let header : Header = record { length = 1024 * c.div_ceil.result; xml_place = c.place-xml_place.result; xml_length = length text } in
    let now = ready view old text c.requires.state c.requires.fits b n c.div_ceil.result c.place-xml_place.result header c.in_default.ensures.ended c.in_default-put.ensures.put count c.place-xml_place.ensures.place refl in
    file_closed view old text c.requires.state c.requires.fits header b n now c.in-Ok.total c.close.new.self c.in-Ok.ensures

pub returns-in-Err-close-clause-closed : goal.returns-in-Err-close-clause-closed
unfolding pages_for
returns-in-Err-close-clause-closed g c =
    let view = g.T.Target.view in
    let old = c.args.out.now in
    let text = c.args.text.now in
    let b = c.fresh_page.new.self in
    let n = c.put.new.self in
    let count : c.div_ceil.result ≡ pages_for n.size = omega arith in
    let header : Header = record { length = 1024 * c.div_ceil.result; xml_place = c.place-xml_place.result; xml_length = length text } in
    let now = ready view old text c.requires.state c.requires.fits b n c.div_ceil.result c.place-xml_place.result header c.in_default.ensures.ended c.in_default-put.ensures.put count c.place-xml_place.ensures.place refl in
    (refl, file_lost view old text c.requires.state c.requires.fits header b n now c.close.new.self c.in-Err-close.ensures.1)
