use Rattle.std.proofs.Common.{◌≡◌, ◌+◌, ◌*◌, ◌≤◌, length, IfSome, sym, subst}
use Rattle.std.specs.Prelude.{IsSomeAnd}
use Rattle.std.specs.Option.{option_map}
use Rattle.e57_base.specs.MemTarget.{with_piece}
use Rattle.e57_page_out.specs.Buffer.{patched, writing}
use Rattle.e57_page_out.proofs.Steps.{by_sound}
use Rattle.e57_page_out.proofs.Holding.{is_patched}
use Rattle.e57_page_out.proofs.pages_out.PagesOut.patch_held.Goals as goal

pub returns : goal.returns
returns g c =
    let view = g.T.Target.view in
    let inside = c.self.inside in
    let at = c.args.at in
    let piece = c.args.bytes.now in
    subst (λ b. IfSome c.args.self.now.held (λ n. writing view inside.target b inside.is_spent ≡ record c.args.self.now { told_bytes = option_map (with_piece (1020 * n + at) piece) c.args.self.now.told_bytes })) (sym c.patch.ensures)
    (by_sound view inside.target inside.buffer inside.is_spent c.args.self.now
    (λ now spent. IsSomeAnd now.held (λ n. 1020 * n + at + length piece ≤ now.size) → IfSome now.held (λ n. writing view inside.target (patched inside.buffer at piece) spent ≡ record now { told_bytes = option_map (with_piece (1020 * n + at) piece) now.told_bytes }))
    c.self.view_is c.requires.unspent c.self.invariant
    (λ sound written. is_patched view inside.target inside.buffer at piece c.requires.page inside.buffer.held sound written)
    c.requires.written)
