use Rattle.std.proofs.Common.{◌/◌, arith}
use Rattle.e57_filter.specs.Asking.{filter_chunk}
use Rattle.e57_filter.specs.Selecting.{selection_of}
use Rattle.e57_filter.proofs.KeptSections.{filters_none, filters_result, filters_unopened}
use Rattle.e57_filter.proofs.section.filter_section.Goals as goal

pub returns-then-selected-eq0-clause-filters : goal.returns-then-selected-eq0-clause-filters
returns-then-selected-eq0-clause-filters g c =
    filters_none g.T.Target.view c.args.every (c.args.pages.now.length / 1024) c.args.selected.now c.args.fields.now (g.S.Source.view c.args.pages.now.source) c.args.out.now c.size-place.ensures.state c.if-selected-eq0.true

pub returns-in-Err-clause-filters : goal.returns-in-Err-clause-filters
returns-in-Err-clause-filters g c =
    let s = c.args.selected.now in
    let some = c.if-selected-eq0.false in
    let within = c.requires.selected.within in
    filters_unopened g.T.Target.view filter_chunk (c.args.pages.now.length / 1024) s.cloud c.args.fields.now (selection_of c.args.every s) (g.S.Source.view c.args.pages.now.source) (g.S.Source.view c.open_section.new.pages.source) c.args.pages.now.kept c.open_section.new.pages.kept c.args.out.now c.in-Err.fault
    c.from.result (omega (arith, some, within)) c.from.ensures c.size-place.ensures.state c.in-Err.ensures.section

pub returns-clause-filters : goal.returns-clause-filters
returns-clause-filters g c =
    let s = c.args.selected.now in
    let some = c.if-selected-eq0.false in
    let within = c.requires.selected.within in
    filters_result g.T.Target.view c.args.every (c.args.pages.now.length / 1024) s c.args.fixed c.args.fields.now (g.S.Source.view c.args.pages.now.source) (g.S.Source.view c.open_section.new.pages.source) (g.S.Source.view c.keep_section.new.pages.source) c.args.pages.now.kept
    c.open_section.new.pages.kept c.in-Ok.section c.args.out.now c.keep_section.new.out c.requires.whole c.requires.fixed c.requires.fields c.requires.selected (omega (arith, some, within)) c.in-Ok.ensures.section c.keep_section.result c.keep_section.ensures.puts
