use Rattle.std.proofs.Common.{◌+◌, ◌<◌, ◌≤◌, sym, subst}
use Rattle.e57_chunk_out.specs.CloudCalls.{block_length, EndsBlock, HasStrings, IsEven, PassesBlock}
use Rattle.e57_chunk_out.specs.Going.{LosesRecords}
use Rattle.e57_chunk_out.specs.Standing.{Cloud}
use Rattle.e57_copy.proofs.Adding.{adds_block, even_with, length_with, loses_block, pending_many}
use Rattle.e57_copy.proofs.Handing.{room_between}
use Rattle.e57_trial.specs.Content.{columns_from}
use Rattle.e57_trial.proofs.Handing.{fitting, some_kinds}
use Rattle.e57_trial.proofs.block.put_block.Goals as goal

pub hand_block-requires-clause-pending : goal.hand_block-requires-clause-pending
hand_block-requires-clause-pending g c = pending_many c.args.cloud.now c.args.out.now c.requires.standing

pub hand_block-requires-clause-room : goal.hand_block-requires-clause-room
hand_block-requires-clause-room g c = room_between c.args.cloud.now c.args.n c.requires.between c.requires.few

pub end_block-requires-clause-some : goal.end_block-requires-clause-some
end_block-requires-clause-some g c =
    let more = columns_from c.args.start c.args.first c.args.n in
    let fit = fitting c.args.cloud.now c.args.start c.args.first c.args.n c.requires.kinds in
    let many = pending_many c.args.cloud.now c.args.out.now c.requires.standing in
    let size = length_with c.args.n more c.args.cloud.now c.args.out.now fit c.requires.between many (some_kinds c.args.cloud.now c.requires.kinds) in
    subst (λ (x : Cloud). 0 < block_length x) (sym c.in_default.ensures) (subst (λ k. 0 < k) (sym size) c.requires.some)

pub end_block-requires-clause-even : goal.end_block-requires-clause-even
end_block-requires-clause-even g c =
    let more = columns_from c.args.start c.args.first c.args.n in
    let fit = fitting c.args.cloud.now c.args.start c.args.first c.args.n c.requires.kinds in
    let many = pending_many c.args.cloud.now c.args.out.now c.requires.standing in
    subst IsEven (sym c.in_default.ensures) (even_with c.args.n more c.args.cloud.now c.args.out.now fit c.requires.between many (some_kinds c.args.cloud.now c.requires.kinds))

pub end_block-requires-clause-limit : goal.end_block-requires-clause-limit
end_block-requires-clause-limit g c =
    let more = columns_from c.args.start c.args.first c.args.n in
    let fit = fitting c.args.cloud.now c.args.start c.args.first c.args.n c.requires.kinds in
    let many = pending_many c.args.cloud.now c.args.out.now c.requires.standing in
    let size = length_with c.args.n more c.args.cloud.now c.args.out.now fit c.requires.between many (some_kinds c.args.cloud.now c.requires.kinds) in
    subst (λ (x : Cloud). x.count + block_length x ≤ x.at_most) (sym c.in_default.ensures) (subst (λ k. c.args.cloud.now.count + k ≤ c.args.cloud.now.at_most) (sym size) c.requires.limit)

pub returns-in-Err-end_block : goal.returns-in-Err-end_block
returns-in-Err-end_block g c =
    let more = columns_from c.args.start c.args.first c.args.n in
    let fit = fitting c.args.cloud.now c.args.start c.args.first c.args.n c.requires.kinds in
    let many = pending_many c.args.cloud.now c.args.out.now c.requires.standing in
    let lost = c.in-Err-end_block.ensures in
    loses_block c.args.n more c.args.cloud.now c.args.out.now fit c.requires.between many g.T.Target.view c.in-Err-end_block.fault c.end_block.new.self c.end_block.new.out (some_kinds c.args.cloud.now c.requires.kinds) lost.0 lost.1
    (subst (λ (x : Cloud). LosesRecords g.T.Target.view c.args.out.now (PassesBlock x c.args.out.now) (HasStrings x.kinds) c.in-Err-end_block.fault (g.T.Target.view c.end_block.new.out.target)) c.in_default.ensures lost.2)

pub returns : goal.returns
returns g c =
    let more = columns_from c.args.start c.args.first c.args.n in
    let fit = fitting c.args.cloud.now c.args.start c.args.first c.args.n c.requires.kinds in
    let many = pending_many c.args.cloud.now c.args.out.now c.requires.standing in
    adds_block c.args.n more c.args.cloud.now c.args.out.now fit c.requires.between many g.T.Target.view c.end_block.new.self c.end_block.new.out (some_kinds c.args.cloud.now c.requires.kinds)
    (subst (λ (x : Cloud). EndsBlock g.T.Target.view x c.args.out.now c.end_block.new.self c.end_block.new.out) c.in_default.ensures c.in_default-end_block.ensures)
