use Rattle.std.proofs.Common.{◌*◌, ◌%◌, ◌<◌, false, true, refl, sym, subst}
use Rattle.std.specs.Option.{option_map}
use Rattle.e57_page_out.specs.Buffer.{IsSoundUnless, writing}
use Rattle.e57_page_out.specs.Sealed.{filled, pages_for}
use Rattle.e57_page_out.specs.Writing.{Writes, IsBrokenOff}
use Rattle.e57_page_out.proofs.Steps.{by_sound, some_begun, page_ended, ended_sound, page_lost}
use Rattle.e57_page_out.proofs.pages_out.PagesOut.end_page.Goals as goal

pub returns-in-Err : goal.returns-in-Err
returns-in-Err g c =
    let view = g.T.Target.view in
    let inside = c.self.inside in (
      refl,
      by_sound view inside.target inside.buffer inside.is_spent c.args.self.now
          (λ now spent. 0 < now.size % 1020 → IsBrokenOff view now (pages_for now.size) (writing view c.end_page.new.target c.end_page.new.buffer true))
          c.self.view_is c.requires.unspent c.self.invariant
          (λ sound some. page_lost view inside.target inside.buffer sound (some_begun inside.buffer.number inside.buffer.filled sound.short some) c.end_page.new.target c.end_page.new.buffer c.in-Err.field-0 c.in-Err.ensures.puts)
          c.requires.begun,
    )

pub invariant_of-self-in_default : goal.invariant_of-self-in_default
invariant_of-self-in_default g c =
    let view = g.T.Target.view in
    let inside = c.self.inside in
    by_sound view inside.target inside.buffer inside.is_spent c.args.self.now
    (λ now spent. 0 < now.size % 1020 → IsSoundUnless spent (view c.end_page.new.target) c.end_page.new.buffer)
    c.self.view_is c.requires.unspent c.self.invariant
    (λ sound some. subst (λ b. IsSoundUnless false (view c.end_page.new.target) b) (sym c.in_default.ensures.turned) (ended_sound view inside.target inside.buffer sound (some_begun inside.buffer.number inside.buffer.filled sound.short some) c.end_page.new.target c.in_default.field-0 c.in_default.ensures.puts))
    c.requires.begun

pub returns : goal.returns
returns g c =
    let view = g.T.Target.view in
    let inside = c.self.inside in
    let old = writing view inside.target inside.buffer false in
    by_sound view inside.target inside.buffer inside.is_spent c.args.self.now
    (λ now spent. 0 < now.size % 1020 → Writes view now (option_map (filled (pages_for now.size)) now.told_bytes) (1020 * pages_for now.size) now.held (writing view c.end_page.new.target c.end_page.new.buffer spent))
    c.self.view_is c.requires.unspent c.self.invariant
    (λ sound some. subst (λ b. Writes view old (option_map (filled (pages_for old.size)) old.told_bytes) (1020 * pages_for old.size) old.held (writing view c.end_page.new.target b false)) (sym c.in_default.ensures.turned) (page_ended view inside.target inside.buffer sound (some_begun inside.buffer.number inside.buffer.filled sound.short some) c.end_page.new.target c.in_default.field-0 c.in_default.ensures.puts))
    c.requires.begun
