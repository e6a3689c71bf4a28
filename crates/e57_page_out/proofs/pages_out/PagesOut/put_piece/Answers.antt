use Rattle.std.proofs.Common.{◌≡◌, ◌+◌, ◌/◌, ◌%◌, ◌≤◌, ◌++◌, length, false, true, Ok, Err, refl, sym, subst}
use Rattle.std.specs.Option.{option_map}
use Rattle.e57_base.specs.Target.{PutsPage}
use Rattle.e57_page_out.specs.Buffer.{ended_payload, turned, IsSoundUnless, writing}
use Rattle.e57_page_out.specs.Sealed.{page_bytes}
use Rattle.e57_page_out.specs.Writing.{Writes, IsBrokenOff, most_bytes}
use Rattle.e57_page_out.specs.declared.buffer.Buffer.{Buffer}
use Rattle.e57_page_out.proofs.Steps.{by_sound, whole_piece, put_within, put_whole, whole_sound, piece_lost}
use Rattle.e57_page_out.proofs.pages_out.PagesOut.put_piece.Goals as goal

pub returns-then-self-lt-PAYLOAD : goal.returns-then-self-lt-PAYLOAD
returns-then-self-lt-PAYLOAD g c =
    let view = g.T.Target.view in
    let inside = c.self.inside in
    let piece = c.args.piece.now in
    by_sound view inside.target inside.buffer inside.is_spent c.args.self.now
    (λ now spent. now.size + length piece ≤ most_bytes → Writes view now (option_map (λ so_far. so_far ++ piece) now.told_bytes) (now.size + length piece) now.held (writing view inside.target c.append.new.buffer spent))
    c.self.view_is c.requires.unspent c.self.invariant
    (λ sound limit. put_within view inside.target inside.buffer piece sound c.append.new.buffer c.append.ensures c.if-self-lt-PAYLOAD.true limit)
    c.requires.limit

pub returns-in-Err : goal.returns-in-Err
returns-in-Err g c =
    let view = g.T.Target.view in
    let inside = c.self.inside in
    let piece = c.args.piece.now in
    let full = subst (λ (b : Buffer). 1020 ≤ b.filled) c.append.ensures c.if-self-lt-PAYLOAD.false in
    let puts = subst (λ (b : Buffer). PutsPage {T = Unit {0}} (view inside.target) b.number (page_bytes (ended_payload b)) (Err c.in-Err.field-0) (view c.end_page.new.target)) c.append.ensures c.in-Err.ensures.puts in (
      refl,
      by_sound view inside.target inside.buffer inside.is_spent c.args.self.now
          (λ now spent. now.size % 1020 + length piece ≤ 1020 → IsBrokenOff view now ((now.size + length piece) / 1020) (writing view c.end_page.new.target c.end_page.new.buffer true))
          c.self.view_is c.requires.unspent c.self.invariant
          (λ sound fits. piece_lost view inside.target inside.buffer piece sound c.end_page.new.target c.end_page.new.buffer c.in-Err.field-0 (whole_piece inside.buffer.number inside.buffer.filled (length piece) sound.short fits full) puts)
          c.requires.fits,
    )

pub invariant_of-self-in_default : goal.invariant_of-self-in_default
invariant_of-self-in_default g c =
    let view = g.T.Target.view in
    let inside = c.self.inside in
    let piece = c.args.piece.now in
    let full = subst (λ (b : Buffer). 1020 ≤ b.filled) c.append.ensures c.if-self-lt-PAYLOAD.false in
    let puts = subst (λ (b : Buffer). PutsPage {T = Unit {0}} (view inside.target) b.number (page_bytes (ended_payload b)) (Ok c.in_default.field-0) (view c.end_page.new.target)) c.append.ensures c.in_default.ensures.puts in
    let after = subst (λ (b : Buffer). c.end_page.new.buffer ≡ turned b (page_bytes (ended_payload b))) c.append.ensures c.in_default.ensures.turned in
    by_sound view inside.target inside.buffer inside.is_spent c.args.self.now
    (λ now spent. now.size % 1020 + length piece ≤ 1020 → now.size + length piece ≤ most_bytes → IsSoundUnless spent (view c.end_page.new.target) c.end_page.new.buffer)
    c.self.view_is c.requires.unspent c.self.invariant
    (λ sound fits limit. subst (λ b. IsSoundUnless false (view c.end_page.new.target) b) (sym after) (whole_sound view inside.target inside.buffer piece sound c.end_page.new.target c.in_default.field-0 (whole_piece inside.buffer.number inside.buffer.filled (length piece) sound.short fits full) limit puts))
    c.requires.fits c.requires.limit

pub returns : goal.returns
returns g c =
    let view = g.T.Target.view in
    let inside = c.self.inside in
    let piece = c.args.piece.now in
    let old = writing view inside.target inside.buffer false in
    let full = subst (λ (b : Buffer). 1020 ≤ b.filled) c.append.ensures c.if-self-lt-PAYLOAD.false in
    let puts = subst (λ (b : Buffer). PutsPage {T = Unit {0}} (view inside.target) b.number (page_bytes (ended_payload b)) (Ok c.in_default.field-0) (view c.end_page.new.target)) c.append.ensures c.in_default.ensures.puts in
    let after = subst (λ (b : Buffer). c.end_page.new.buffer ≡ turned b (page_bytes (ended_payload b))) c.append.ensures c.in_default.ensures.turned in
    by_sound view inside.target inside.buffer inside.is_spent c.args.self.now
    (λ now spent. now.size % 1020 + length piece ≤ 1020 → now.size + length piece ≤ most_bytes → Writes view now (option_map (λ so_far. so_far ++ piece) now.told_bytes) (now.size + length piece) now.held (writing view c.end_page.new.target c.end_page.new.buffer spent))
    c.self.view_is c.requires.unspent c.self.invariant
    (λ sound fits limit. subst (λ b. Writes view old (option_map (λ so_far. so_far ++ piece) old.told_bytes) (old.size + length piece) old.held (writing view c.end_page.new.target b false)) (sym after) (put_whole view inside.target inside.buffer piece sound c.end_page.new.target c.in_default.field-0 (whole_piece inside.buffer.number inside.buffer.filled (length piece) sound.short fits full) limit puts))
    c.requires.fits c.requires.limit
