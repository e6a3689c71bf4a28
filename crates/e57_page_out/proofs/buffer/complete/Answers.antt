use Rattle.std.proofs.Common.{rules, ◌≤◌, take, length, refl, ap, ◌∙◌}
use Rattle.e57_page_out.specs.Sealed.{page_bytes}
use Rattle.e57_page_out.proofs.Words.{with_zeros}
use Rattle.e57_page_out.proofs.buffer.complete.Goals as goal

pub returns : goal.returns
returns c =
    let buffer = c.args.buffer.now in
    let within : buffer.filled ≤ length buffer.page = search rules in
    let page = c.seal.ensures ∙ ap page_bytes (ap (take 1020) c.write_at.ensures.piece ∙ with_zeros buffer.filled buffer.page _ c.requires within refl) in
    ap (λ p. record buffer { page = p }) page
