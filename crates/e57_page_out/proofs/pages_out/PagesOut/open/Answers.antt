use Rattle.std.proofs.Common.{false, refl, sym, subst}
use Rattle.e57_page_out.specs.Buffer.{IsSound, writing}
use Rattle.e57_page_out.specs.Writing.{IsBegun}
use Rattle.e57_page_out.proofs.Opening.{begun_sound, is_begun, page_not_begun}
use Rattle.e57_page_out.proofs.pages_out.PagesOut.open.Goals as goal

pub returns-in-Err-put_page : goal.returns-in-Err-put_page
returns-in-Err-put_page g c =
    let view = g.T.Target.view in
    record { opened = (refl, page_not_begun (view c.args.target) (view c.create.new.self) c.args.name.now _ c.in_default.ensures (view c.put_page.new.self) _ c.in-Err-put_page.ensures) }

pub invariant_of-result : goal.invariant_of-result
invariant_of-result g c =
    let view = g.T.Target.view in
    subst (λ b. IsSound (view c.put_page.new.self) b) (sym c.first_buffer.ensures)
    (begun_sound (view c.args.target) (view c.create.new.self) c.args.name.now _ c.in_default.ensures (view c.put_page.new.self) _ c.in_default-put_page.ensures)

pub returns : goal.returns
returns g c =
    let view = g.T.Target.view in
    record {
      opened = subst (λ b. IsBegun view (view c.args.target) c.args.name.now (writing view c.put_page.new.self b false)) (sym c.first_buffer.ensures)
          (is_begun (view c.args.target) (view c.create.new.self) c.args.name.now _ c.in_default.ensures (view c.put_page.new.self) _ c.in_default-put_page.ensures view c.put_page.new.self refl);
    }
