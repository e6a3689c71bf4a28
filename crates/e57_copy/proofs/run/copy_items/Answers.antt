use Rattle.std.proofs.Common.{length, ◌+◌, ◌≤◌, subst}
use Rattle.e57_chunk_out.specs.CloudCalls.{in_block, most_of_block}
use Rattle.e57_copy.proofs.Strings.{ends_same, length-strings_from, strings_taken}
use Rattle.e57_copy.proofs.run.copy_items.Goals as goal

pub texts_from-requires-clause-ends : goal.texts_from-requires-clause-ends
texts_from-requires-clause-ends c = ends_same (length c.in-Texts.bytes.now) c.in-Texts.begin c.in-Texts.ends.now (rw c.in-Texts.is at c.requires.inside)

pub texts_from-requires-clause-few : goal.texts_from-requires-clause-few
texts_from-requires-clause-few c =
    subst (λ k. in_block c.args.cloud.now c.args.f + k ≤ most_of_block) (length-strings_from c.in-Texts.bytes.now c.in-Texts.begin c.in-Texts.ends.now)
    (rw c.in-Texts.is at c.requires.few)

pub returns-in-Texts : goal.returns-in-Texts
returns-in-Texts c =
    rw c.in-Texts.is
    (strings_taken c.texts_from.result c.args.cloud.now c.texts_from.new.self c.args.f c.in-Texts.bytes.now c.in-Texts.begin c.in-Texts.ends.now (rw c.in-Texts.is at c.requires.kind)
    c.texts_from.ensures)
