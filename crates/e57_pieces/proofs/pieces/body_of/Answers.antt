use Rattle.std.proofs.Common.{◌≡◌, ◌∙◌, sym, true, false}
use Rattle.e57_pieces.specs.Start.{after_mark, declares}
use Rattle.e57_pieces.proofs.Steps.{clean_start, begins_plain, body_from}
use Rattle.e57_pieces.proofs.pieces.body_of.Goals as goal

pub returns-then-not-declares : goal.returns-then-not-declares
returns-then-not-declares c =
    let e : declares (after_mark c.args.text.now) ≡ false = rw c.skip_mark-body.ensures at (sym c.declares.ensures ∙ c.if-not-declares.true) in
    rw (c.characters_len-clean.ensures, c.skip_mark-body.ensures) (begins_plain c.args.text.now e, clean_start c.args.text.now c.requires)

pub after_declaration-requires : goal.after_declaration-requires
after_declaration-requires c = rw (c.characters_len-clean.ensures, c.skip_mark-body.ensures) (clean_start c.args.text.now c.requires)

pub returns : goal.returns
returns c =
    let e : declares (after_mark c.args.text.now) ≡ true = rw c.skip_mark-body.ensures at (sym c.declares.ensures ∙ c.if-not-declares.false) in
    body_from c.after_declaration.result c.args.text.now e (rw c.skip_mark-body.ensures at c.after_declaration.ensures)
