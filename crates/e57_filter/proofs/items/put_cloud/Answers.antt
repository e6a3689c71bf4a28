use Rattle.std.proofs.Common.{◌∙◌, ◌/◌, List, sym, subst}
use Rattle.e57_layout.specs.declared.field.Field.{Field}
use Rattle.e57_page_out.specs.Sealed.{pages_for}
use Rattle.e57_copy.proofs.Trees.{fields_there}
use Rattle.e57_filter.specs.Asking.{filter_chunk}
use Rattle.e57_filter.specs.Filtering.{KeepsCloud}
use Rattle.e57_filter.specs.KeptSection.{LosesFiltered}
use Rattle.e57_filter.specs.Selecting.{selection_of}
use Rattle.e57_base.specs.declared.fault.RunFault.TheVariants.{Out}
use Rattle.e57_filter.proofs.Ended.{cloud-cut, cloud-ended}
use Rattle.e57_filter.proofs.items.put_cloud.Goals as goal

pub fresh_page-requires : goal.fresh_page-requires
fresh_page-requires g c = record { unspent = (c.in-Ok.ensures.filters.puts 0).wrote.state.unspent }

pub returns-in-Err-fresh_page-clause-keeps : goal.returns-in-Err-fresh_page-clause-keeps
returns-in-Err-fresh_page-clause-keeps g c = λ e same.
    let count = c.args.pages.now.length / 1024 in
    let old = g.S.Source.view c.args.pages.now.source in
    let new = g.S.Source.view c.filter_section.new.pages.source in
    let selection = selection_of c.args.every c.args.selected.now in
    subst (λ (fields : List Field). LosesFiltered g.T.Target.view filter_chunk c.args.selected.now.cloud fields selection count old new c.args.out.now Out c.fresh_page.new.self)
    (sym (fields_there e c.args.selected.now.k c.fields-fields.result.now (c.fields-fields.ensures.fields e (c.tree-2.ensures ∙ same))))
    (cloud-cut g.T.Target.view c.args.out.now c.filter_section.new.out c.fresh_page.new.self c.size-size.ensures.state c.requires.whole filter_chunk count c.args.selected.now.cloud c.fields-fields.result.now selection old new c.in-Ok.written
    c.in-Ok.ensures.filters (pages_for c.filter_section.new.out.size) c.in-Err-fresh_page.ensures.ended.1)

pub returns-clause-keeps : goal.returns-clause-keeps
returns-clause-keeps g c = λ e same.
    let count = c.args.pages.now.length / 1024 in
    let old = g.S.Source.view c.args.pages.now.source in
    let new = g.S.Source.view c.filter_section.new.pages.source in
    let selection = selection_of c.args.every c.args.selected.now in
    subst (λ (fields : List Field). KeepsCloud g.T.Target.view filter_chunk c.args.selected.now.cloud fields selection count old new c.args.out.now c.in-Ok.written c.fresh_page.new.self)
    (sym (fields_there e c.args.selected.now.k c.fields-fields.result.now (c.fields-fields.ensures.fields e (c.tree-2.ensures ∙ same))))
    (cloud-ended g.T.Target.view c.args.out.now c.filter_section.new.out c.fresh_page.new.self c.size-size.ensures.state c.requires.whole filter_chunk count c.args.selected.now.cloud c.fields-fields.result.now selection old new c.in-Ok.written
    c.in-Ok.ensures.filters c.in_default.ensures.ended)
