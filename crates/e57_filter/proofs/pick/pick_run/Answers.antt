use Rattle.std.proofs.Common.{◌+◌, ◌<◌, ◌≤◌, sym, subst, ◌∙◌, arith}
use Rattle.e57_chunk_out.specs.CloudCalls.{block_length, EndsBlock, HasStrings, IsEven, PassesBlock}
use Rattle.e57_chunk_out.specs.Going.{LosesRecords}
use Rattle.e57_chunk_out.specs.Standing.{Cloud}
use Rattle.e57_copy.specs.Adding.{held_columns}
use Rattle.e57_copy.proofs.Adding.{adds_block, even_with, length_with, loses_block, pending_many}
use Rattle.e57_filter.specs.Marking.{mark_count, picked}
use Rattle.e57_filter.proofs.Picking.{chosen-few}
use Rattle.e57_filter.proofs.Picked.{adds_nothing, picked_are, some_fields}
use Rattle.e57_filter.proofs.pick.pick_run.Goals as goal

pub hand_marked-requires-clause-pending : goal.hand_marked-requires-clause-pending
hand_marked-requires-clause-pending g c = pending_many c.args.cloud.now c.args.out.now c.requires.standing

pub returns-then-handed-eq0-clause-picks : goal.returns-then-handed-eq0-clause-picks
returns-then-handed-eq0-clause-picks g c =
    let more = picked c.args.flags.now (held_columns c.args.blocks.now c.args.i c.args.n) in
    let none = c.if-handed-eq0.true in
    adds_nothing g.T.Target.view c.args.cloud.now c.hand_marked.new.cloud c.args.out.now more (mark_count c.args.flags.now)
    (picked_are c.args.cloud.now c.args.blocks.now c.args.i c.args.n c.args.flags.now c.requires.kinds c.requires.long c.requires.fit)
    (sym c.in-Ok.ensures.1 ∙ none) (pending_many c.args.cloud.now c.args.out.now c.requires.standing) c.in-Ok.ensures.0 c.requires.between c.requires.unspent c.requires.state

pub end_block-requires-clause-some : goal.end_block-requires-clause-some
end_block-requires-clause-some g c =
    let more = picked c.args.flags.now (held_columns c.args.blocks.now c.args.i c.args.n) in
    let are = picked_are c.args.cloud.now c.args.blocks.now c.args.i c.args.n c.args.flags.now c.requires.kinds c.requires.long c.requires.fit in
    let many = pending_many c.args.cloud.now c.args.out.now c.requires.standing in
    let size = length_with (mark_count c.args.flags.now) more c.args.cloud.now c.args.out.now are c.requires.between many (some_fields c.args.cloud.now c.args.blocks.now c.requires.kinds c.requires.fields.0) in
    let not = c.if-handed-eq0.false in
    let number = c.in-Ok.ensures.1 in
    subst (λ (x : Cloud). 0 < block_length x) (sym c.in-Ok.ensures.0) (subst (λ k. 0 < k) (sym size) (omega (arith, not, number)))

pub end_block-requires-clause-even : goal.end_block-requires-clause-even
end_block-requires-clause-even g c =
    let more = picked c.args.flags.now (held_columns c.args.blocks.now c.args.i c.args.n) in
    let are = picked_are c.args.cloud.now c.args.blocks.now c.args.i c.args.n c.args.flags.now c.requires.kinds c.requires.long c.requires.fit in
    let many = pending_many c.args.cloud.now c.args.out.now c.requires.standing in
    subst IsEven (sym c.in-Ok.ensures.0)
    (even_with (mark_count c.args.flags.now) more c.args.cloud.now c.args.out.now are c.requires.between many (some_fields c.args.cloud.now c.args.blocks.now c.requires.kinds c.requires.fields.0))

pub end_block-requires-clause-limit : goal.end_block-requires-clause-limit
end_block-requires-clause-limit g c =
    let more = picked c.args.flags.now (held_columns c.args.blocks.now c.args.i c.args.n) in
    let are = picked_are c.args.cloud.now c.args.blocks.now c.args.i c.args.n c.args.flags.now c.requires.kinds c.requires.long c.requires.fit in
    let many = pending_many c.args.cloud.now c.args.out.now c.requires.standing in
    let size = length_with (mark_count c.args.flags.now) more c.args.cloud.now c.args.out.now are c.requires.between many (some_fields c.args.cloud.now c.args.blocks.now c.requires.kinds c.requires.fields.0) in
    let few = chosen-few c.args.flags.now c.args.flags.now in
    let limit = c.requires.limit in
    let long = c.requires.long in
    subst (λ (x : Cloud). x.count + block_length x ≤ x.at_most) (sym c.in-Ok.ensures.0)
    (subst (λ k. c.args.cloud.now.count + k ≤ c.args.cloud.now.at_most) (sym size) (omega (arith, few, limit, long)))

pub returns-in-Err-end_block-clause-picks : goal.returns-in-Err-end_block-clause-picks
returns-in-Err-end_block-clause-picks g c =
    let more = picked c.args.flags.now (held_columns c.args.blocks.now c.args.i c.args.n) in
    let are = picked_are c.args.cloud.now c.args.blocks.now c.args.i c.args.n c.args.flags.now c.requires.kinds c.requires.long c.requires.fit in
    let many = pending_many c.args.cloud.now c.args.out.now c.requires.standing in
    let lost = c.in-Err-end_block.ensures in
    loses_block (mark_count c.args.flags.now) more c.args.cloud.now c.args.out.now are c.requires.between many g.T.Target.view c.in-Err-end_block.fault c.end_block.new.self c.end_block.new.out
    (some_fields c.args.cloud.now c.args.blocks.now c.requires.kinds c.requires.fields.0) lost.0 lost.1
    (subst (λ (x : Cloud). LosesRecords g.T.Target.view c.args.out.now (PassesBlock x c.args.out.now) (HasStrings x.kinds) c.in-Err-end_block.fault (g.T.Target.view c.end_block.new.out.target)) c.in-Ok.ensures.0 lost.2)

pub returns-clause-picks : goal.returns-clause-picks
returns-clause-picks g c =
    let more = picked c.args.flags.now (held_columns c.args.blocks.now c.args.i c.args.n) in
    let are = picked_are c.args.cloud.now c.args.blocks.now c.args.i c.args.n c.args.flags.now c.requires.kinds c.requires.long c.requires.fit in
    let many = pending_many c.args.cloud.now c.args.out.now c.requires.standing in
    adds_block (mark_count c.args.flags.now) more c.args.cloud.now c.args.out.now are c.requires.between many g.T.Target.view c.end_block.new.self c.end_block.new.out
    (some_fields c.args.cloud.now c.args.blocks.now c.requires.kinds c.requires.fields.0)
    (subst (λ (x : Cloud). EndsBlock g.T.Target.view x c.args.out.now c.end_block.new.self c.end_block.new.out) c.in-Ok.ensures.0 c.in_default.ensures)

pub returns-clause-idle : goal.returns-clause-idle
returns-clause-idle g c = λ same.
    let more = picked c.args.flags.now (held_columns c.args.blocks.now c.args.i c.args.n) in
    let are = picked_are c.args.cloud.now c.args.blocks.now c.args.i c.args.n c.args.flags.now c.requires.kinds c.requires.long c.requires.fit in
    let many = pending_many c.args.cloud.now c.args.out.now c.requires.standing in
    let adds = adds_block (mark_count c.args.flags.now) more c.args.cloud.now c.args.out.now are c.requires.between many g.T.Target.view c.end_block.new.self c.end_block.new.out
    (some_fields c.args.cloud.now c.args.blocks.now c.requires.kinds c.requires.fields.0)
    (subst (λ (x : Cloud). EndsBlock g.T.Target.view x c.args.out.now c.end_block.new.self c.end_block.new.out) c.in-Ok.ensures.0 c.in_default.ensures) in
    let count = adds.count in
    let not = c.if-handed-eq0.false in
    let number = c.in-Ok.ensures.1 in
    absurd (omega (arith, same, count, not, number))
