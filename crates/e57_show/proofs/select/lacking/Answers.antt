use Rattle.std.proofs.Common.{◌∙◌, refl, sym}
use Rattle.e57_show.proofs.Selecting.{lacking-more, lacking-found, lacking-end, asked-so}
use Rattle.e57_show.proofs.select.lacking.Goals as goal

pub returns-then-not-has_decimals : goal.returns-then-not-has_decimals
returns-then-not-has_decimals c =
    asked-so c.args.fields.now c.args.numbers.now c.args.decimal c.args.decimal _ refl c.if-not-decimal.false
    (lacking-found c.args.fields.now c.args.numbers.now c.loop-j.j c.index-fields-f.result c.has_decimals.result c.loop-j-test.true c.requires.numbers c.index-fields-f.is c.has_decimals.ensures c.if-not-has_decimals.true c.loop-j.invariant)

pub loop-j-preserved : goal.loop-j-preserved
loop-j-preserved c =
    lacking-more c.args.fields.now c.args.numbers.now c.loop-j.j c.index-fields-f.result c.has_decimals.result c.loop-j-test.true c.requires.numbers c.index-fields-f.is c.has_decimals.ensures c.if-not-has_decimals.false c.loop-j.invariant

pub returns : goal.returns
returns c =
    asked-so c.args.fields.now c.args.numbers.now c.args.decimal c.args.decimal _ refl c.if-not-decimal.false
    (sym (c.loop-j.invariant ∙ lacking-end c.args.fields.now c.args.numbers.now c.loop-j.j c.loop-j-test.false))
