use Rattle.std.proofs.Common.{◌∙◌, refl, sym, ap, subst, take}
use Rattle.e57_blocks.specs.Fields.{slice_at}
use Rattle.e57_chunk_out.specs.Standing.{Cloud}
use Rattle.e57_copy.specs.Adding.{block_kinds}
use Rattle.e57_copy.proofs.Adding.{is_here}
use Rattle.e57_copy.proofs.Putting.{new_between, new_standing}
use Rattle.e57_filter.specs.Keeping.{sieve_of, KeepsAll, KeepsNot}
use Rattle.e57_filter.proofs.Ending.{closed, kept_none, standing_all, unclosed, unkept}
use Rattle.e57_filter.proofs.section.put_kept.Goals as goal

pub keep_records-requires-clause-between : goal.keep_records-requires-clause-between
keep_records-requires-clause-between g c = new_between c.args.cloud (take c.args.kept (block_kinds c.args.blocks.now.blocks)) c.requires.fresh

pub keep_records-requires-clause-standing : goal.keep_records-requires-clause-standing
keep_records-requires-clause-standing g c = new_standing g.T.Target.view c.args.out.now c.args.cloud (take c.args.kept (block_kinds c.args.blocks.now.blocks)) c.requires.fresh c.size-start.ensures.state c.requires.free

pub returns-in-Err-clause-puts : goal.returns-in-Err-clause-puts
returns-in-Err-clause-puts g c =
    let view = g.T.Target.view in
    let s = sieve_of c.args.every c.args.tests.now in
    let a = slice_at c.args.blocks.now c.args.from c.args.count in
    let kinds = take c.args.kept (block_kinds c.args.blocks.now.blocks) in
    let old = g.S.Source.view c.args.pages.now.source in
    let new = g.S.Source.view c.keep_records.new.pages.source in
    unkept view s c.args.kept a c.args.cloud.chunk c.args.cloud.at_most kinds old new c.args.out.now c.keep_records.new.out c.keep_records.new.blocks c.keep_records.new.cloud c.size-start.ensures.state c.requires.free c.requires.whole c.in-Err.fault
    (subst (λ (x : Cloud). KeepsNot view s c.args.kept a old x c.args.out.now c.in-Err.fault new c.keep_records.new.blocks c.keep_records.new.cloud c.keep_records.new.out) c.requires.fresh c.in-Err.ensures.keeps)

pub returns-then-size-start-clause-puts : goal.returns-then-size-start-clause-puts
returns-then-size-start-clause-puts g c =
    let view = g.T.Target.view in
    let s = sieve_of c.args.every c.args.tests.now in
    let a = slice_at c.args.blocks.now c.args.from c.args.count in
    let kinds = take c.args.kept (block_kinds c.args.blocks.now.blocks) in
    let old = g.S.Source.view c.args.pages.now.source in
    let new = g.S.Source.view c.keep_records.new.pages.source in
    let keeps = subst (λ (x : Cloud). KeepsAll view s c.args.kept a old x c.args.out.now new c.keep_records.new.blocks c.keep_records.new.cloud c.keep_records.new.out) c.requires.fresh c.in_default.ensures.keeps in
    kept_none view s c.args.kept a c.args.cloud.chunk c.args.cloud.at_most kinds old new c.args.out.now c.keep_records.new.out c.keep_records.new.blocks c.keep_records.new.cloud c.size-start.ensures.state c.requires.free c.requires.whole keeps
    (record { place = 0; count = 0 }) refl refl (sym c.size.ensures.size ∙ c.if-size-start.true ∙ c.size-start.ensures.size)

pub close-requires-clause-here : goal.close-requires-clause-here
close-requires-clause-here g c =
    let view = g.T.Target.view in
    let s = sieve_of c.args.every c.args.tests.now in
    let a = slice_at c.args.blocks.now c.args.from c.args.count in
    let kinds = take c.args.kept (block_kinds c.args.blocks.now.blocks) in
    let old = g.S.Source.view c.args.pages.now.source in
    let new = g.S.Source.view c.keep_records.new.pages.source in
    let keeps = subst (λ (x : Cloud). KeepsAll view s c.args.kept a old x c.args.out.now new c.keep_records.new.blocks c.keep_records.new.cloud c.keep_records.new.out) c.requires.fresh c.in_default.ensures.keeps in
    is_here c.keep_records.new.cloud c.keep_records.new.out
    (standing_all view s c.args.kept a c.args.cloud.chunk c.args.cloud.at_most kinds old new c.args.out.now c.keep_records.new.out c.keep_records.new.blocks c.keep_records.new.cloud c.size-start.ensures.state c.requires.free c.requires.whole keeps)

pub returns-in-Ok-clause-puts : goal.returns-in-Ok-clause-puts
returns-in-Ok-clause-puts g c =
    let view = g.T.Target.view in
    let s = sieve_of c.args.every c.args.tests.now in
    let a = slice_at c.args.blocks.now c.args.from c.args.count in
    let kinds = take c.args.kept (block_kinds c.args.blocks.now.blocks) in
    let old = g.S.Source.view c.args.pages.now.source in
    let new = g.S.Source.view c.keep_records.new.pages.source in
    let keeps = subst (λ (x : Cloud). KeepsAll view s c.args.kept a old x c.args.out.now new c.keep_records.new.blocks c.keep_records.new.cloud c.keep_records.new.out) c.requires.fresh c.in_default.ensures.keeps in
    closed view s c.args.kept a c.args.cloud.chunk c.args.cloud.at_most kinds old new c.args.out.now c.keep_records.new.out c.keep_records.new.blocks c.keep_records.new.cloud c.size-start.ensures.state c.requires.free c.requires.whole keeps
    (λ none. c.in_default.ensures.idle (none ∙ sym (ap (λ (x : Cloud). x.count) c.requires.fresh)))
    (λ same. c.if-size-start.false (c.size.ensures.size ∙ same ∙ sym c.size-start.ensures.size))
    c.in-Ok.written c.close.new.out c.in-Ok.ensures

pub returns-in-Err-close-clause-puts : goal.returns-in-Err-close-clause-puts
returns-in-Err-close-clause-puts g c =
    let view = g.T.Target.view in
    let s = sieve_of c.args.every c.args.tests.now in
    let a = slice_at c.args.blocks.now c.args.from c.args.count in
    let kinds = take c.args.kept (block_kinds c.args.blocks.now.blocks) in
    let old = g.S.Source.view c.args.pages.now.source in
    let new = g.S.Source.view c.keep_records.new.pages.source in
    let keeps = subst (λ (x : Cloud). KeepsAll view s c.args.kept a old x c.args.out.now new c.keep_records.new.blocks c.keep_records.new.cloud c.keep_records.new.out) c.requires.fresh c.in_default.ensures.keeps in
    unclosed view s c.args.kept a c.args.cloud.chunk c.args.cloud.at_most kinds old new c.args.out.now c.keep_records.new.out c.keep_records.new.blocks c.keep_records.new.cloud c.size-start.ensures.state c.requires.free c.requires.whole keeps
    (λ none. c.in_default.ensures.idle (none ∙ sym (ap (λ (x : Cloud). x.count) c.requires.fresh)))
    (λ same. c.if-size-start.false (c.size.ensures.size ∙ same ∙ sym c.size-start.ensures.size))
    c.in-Err-close.fault c.from.result c.close.new.out c.from.ensures c.in-Err-close.ensures.1
