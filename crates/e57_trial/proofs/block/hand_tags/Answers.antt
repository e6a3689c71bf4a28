use Rattle.std.proofs.Common.{◌≡◌, true, List, subst, arith}
use Rattle.std.specs.Prelude.{MatchResult}
use Rattle.e57_layout.specs.Values.{Value}
use Rattle.e57_chunk_out.specs.CloudCalls.{with_items}
use Rattle.e57_trial.proofs.Tags.{tag_ends_are, tags_taken}
use Rattle.e57_trial.proofs.block.hand_tags.Goals as goal

pub texts-requires-clause-ends : goal.texts-requires-clause-ends
texts-requires-clause-ends c = let room = c.requires.room in tag_ends_are c.args.first c.args.n c.tag_ends-ends.result (omega (arith, room)) (omega arith) c.tag_ends-ends.ensures

pub returns : goal.returns
returns c =
    let room = c.requires.room in
    let taken = tags_taken c.args.first c.args.n c.tag_ends-ends.result (omega (arith, room)) (omega arith) c.tag_ends-ends.ensures in
    subst (λ (values : List Value). MatchResult c.texts.result (λ x. c.texts.new.self ≡ with_items c.args.cloud.now 5 values) (λ x. c.texts.new.self.is_spent ≡ true)) taken c.texts.ensures
