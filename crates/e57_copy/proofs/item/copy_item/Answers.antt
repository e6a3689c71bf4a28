use Rattle.std.proofs.Common.{◌∙◌, ◌/◌, sym}
use Rattle.e57_page_out.specs.Sealed.{pages_for}
use Rattle.e57_check.specs.Checking.{thing_in}
use Rattle.e57_copy.specs.Items.{stated_in}
use Rattle.e57_copy.proofs.Paging.{item_copied, item_cut}
use Rattle.e57_copy.proofs.item.copy_item.Goals as goal

pub fresh_page-requires : goal.fresh_page-requires
fresh_page-requires g c =
    let e = c.raw-raw.ensures.nodes in
    let d = c.raw-raw-2.ensures.nodes in
    let copies = c.in-Ok.ensures.copies e.tree d.tree (sym c.tree.ensures ∙ e.in_preorder) d.in_preorder in
    record { unspent = copies.puts.wrote.state.unspent }

pub returns-in-Err-fresh_page-clause-copies : goal.returns-in-Err-fresh_page-clause-copies
returns-in-Err-fresh_page-clause-copies g c = λ e d read written.
    let mid = c.copy_section.new.out in
    item_cut g.T.Target.view c.args.out.now mid c.fresh_page.new.self c.size-size.ensures.state c.requires.whole c.args.chunk (c.args.pages.now.length / 1024) (stated_in d c.args.item) (thing_in e c.args.item) (g.S.Source.view c.args.pages.now.source) (g.S.Source.view c.copy_section.new.pages.source) c.in-Ok.offset
    (c.in-Ok.ensures.copies e d read written) (pages_for mid.size) c.in-Err-fresh_page.ensures.ended.1

pub returns-clause-copies : goal.returns-clause-copies
returns-clause-copies g c = λ e d read written.
    item_copied g.T.Target.view c.args.out.now c.copy_section.new.out c.fresh_page.new.self c.size-size.ensures.state c.requires.whole c.args.chunk (c.args.pages.now.length / 1024) (stated_in d c.args.item) (thing_in e c.args.item) (g.S.Source.view c.args.pages.now.source) (g.S.Source.view c.copy_section.new.pages.source)
    c.in-Ok.offset (c.in-Ok.ensures.copies e d read written) c.in_default.ensures.ended
