use Rattle.std.proofs.Common.{string_bytes, ap, sym, ◌∙◌}
use Rattle.e57_tool.proofs.OptionWords.{option_next, no_option, all_read}
use Rattle.e57_tool.proofs.given.read_options.Goals as goal

pub returns-in_default-clause-given : goal.returns-in_default-clause-given
returns-in_default-clause-given g c =
    c.loop-at.invariant.0 ∙ no_option g.G.Given.rows string_bytes c.args.words.words.now c.loop-at.at c.index-words-at.result c.as_str.result.now _ c.loop-at-test.true c.index-words-at.is (c.as_str.ensures.value ∙ ap string_bytes (sym c.index-words-at.is)) c.in_default.ensures.given

pub loop-at-preserved : goal.loop-at-preserved
loop-at-preserved g c =
    (c.loop-at.invariant.0 ∙ option_next g.G.Given.rows string_bytes c.args.words.words.now c.loop-at.at c.index-words-at.result c.as_str.result.now _ (g.G.Given.meaning c.in-Some.more) c.loop-at-test.true c.index-words-at.is (c.as_str.ensures.value ∙ ap string_bytes (sym c.index-words-at.is)) c.in-Some.ensures.given, c.in-Some.ensures.lawful)

pub returns-clause-given : goal.returns-clause-given
returns-clause-given g c = c.loop-at.invariant.0 ∙ all_read g.G.Given.rows string_bytes c.args.words.words.now c.loop-at.at _ c.loop-at-test.false
