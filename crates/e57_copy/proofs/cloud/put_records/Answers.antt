use Rattle.std.proofs.Common.{subst}
use Rattle.e57_blocks.specs.Fields.{slice_at}
use Rattle.e57_chunk_out.specs.CloudCalls.{kinds_in}
use Rattle.e57_chunk_out.specs.Standing.{Cloud}
use Rattle.e57_copy.specs.Copying.{CopiesAll, CopiesNot}
use Rattle.e57_copy.proofs.Adding.{is_here}
use Rattle.e57_copy.proofs.Putting.{closed, new_between, new_standing, standing_all, unclosed, uncopied}
use Rattle.e57_copy.proofs.cloud.put_records.Goals as goal

pub copy_records-requires-clause-between : goal.copy_records-requires-clause-between
copy_records-requires-clause-between g c = new_between c.args.cloud (kinds_in c.args.others.now) c.requires.fresh

pub copy_records-requires-clause-standing : goal.copy_records-requires-clause-standing
copy_records-requires-clause-standing g c = new_standing g.T.Target.view c.args.out.now c.args.cloud (kinds_in c.args.others.now) c.requires.fresh c.size-size.ensures.state c.requires.free

pub returns-in-Err-clause-puts : goal.returns-in-Err-clause-puts
returns-in-Err-clause-puts g c =
    let view = g.T.Target.view in
    let a = slice_at c.args.blocks.now 0 c.args.count in
    let kinds = kinds_in c.args.others.now in
    let old = g.S.Source.view c.args.pages.now.source in
    let new = g.S.Source.view c.copy_records.new.pages.source in
    let lost = subst (λ (x : Cloud). CopiesNot view a old x c.args.out.now c.in-Err.fault new c.copy_records.new.blocks c.copy_records.new.cloud c.copy_records.new.out) c.requires.fresh c.in-Err.ensures.copies in
    uncopied view a c.args.cloud.chunk c.args.cloud.at_most kinds old new c.args.out.now c.copy_records.new.out c.copy_records.new.blocks c.copy_records.new.cloud c.size-size.ensures.state c.requires.free c.requires.whole c.in-Err.fault lost

pub close-requires-clause-here : goal.close-requires-clause-here
close-requires-clause-here g c =
    let view = g.T.Target.view in
    let a = slice_at c.args.blocks.now 0 c.args.count in
    let kinds = kinds_in c.args.others.now in
    let old = g.S.Source.view c.args.pages.now.source in
    let new = g.S.Source.view c.copy_records.new.pages.source in
    let copies = subst (λ (x : Cloud). CopiesAll view a old x c.args.out.now new c.copy_records.new.blocks c.copy_records.new.cloud c.copy_records.new.out) c.requires.fresh c.in_default.ensures.copies in
    is_here c.copy_records.new.cloud c.copy_records.new.out
    (standing_all view a c.args.cloud.chunk c.args.cloud.at_most kinds old new c.args.out.now c.copy_records.new.out c.copy_records.new.blocks c.copy_records.new.cloud c.size-size.ensures.state c.requires.free c.requires.whole copies)

pub returns-in-Ok-clause-puts : goal.returns-in-Ok-clause-puts
returns-in-Ok-clause-puts g c =
    let view = g.T.Target.view in
    let a = slice_at c.args.blocks.now 0 c.args.count in
    let kinds = kinds_in c.args.others.now in
    let old = g.S.Source.view c.args.pages.now.source in
    let new = g.S.Source.view c.copy_records.new.pages.source in
    let copies = subst (λ (x : Cloud). CopiesAll view a old x c.args.out.now new c.copy_records.new.blocks c.copy_records.new.cloud c.copy_records.new.out) c.requires.fresh c.in_default.ensures.copies in
    closed view a c.args.cloud.chunk c.args.cloud.at_most kinds old new c.args.out.now c.copy_records.new.out c.copy_records.new.blocks c.copy_records.new.cloud c.size-size.ensures.state c.requires.free c.requires.whole copies
    c.in-Ok.written c.close.new.out c.requires.some c.in-Ok.ensures

pub returns-in-Err-close-clause-puts : goal.returns-in-Err-close-clause-puts
returns-in-Err-close-clause-puts g c =
    let view = g.T.Target.view in
    let a = slice_at c.args.blocks.now 0 c.args.count in
    let kinds = kinds_in c.args.others.now in
    let old = g.S.Source.view c.args.pages.now.source in
    let new = g.S.Source.view c.copy_records.new.pages.source in
    let copies = subst (λ (x : Cloud). CopiesAll view a old x c.args.out.now new c.copy_records.new.blocks c.copy_records.new.cloud c.copy_records.new.out) c.requires.fresh c.in_default.ensures.copies in
    unclosed view a c.args.cloud.chunk c.args.cloud.at_most kinds old new c.args.out.now c.copy_records.new.out c.copy_records.new.blocks c.copy_records.new.cloud c.size-size.ensures.state c.requires.free c.requires.whole copies
    c.in-Err-close.fault c.from.result c.close.new.out c.from.ensures c.in-Err-close.ensures.1
