use Rattle.std.specs.Prelude.{◌/◌}
use Rattle.std.proofs.Common.{◌∙◌, sym, subst, ap, List, ℕ, length}
use Rattle.e57_verdict.specs.Things.{things_in}
use Rattle.e57_base.specs.declared.fault.RunFault.{RunFault}
use Rattle.e57_copy.specs.Ending.{EndsNot}
use Rattle.e57_copy.proofs.Closing.{offsets-count}
use Rattle.e57_copy.proofs.OneTree.{good-tree}
use Rattle.e57_repack.specs.Anew.{copied}
use Rattle.e57_repack.proofs.Closing.{file-ended, file-not-ended, items-lost}
use Rattle.e57_repack.proofs.anew.write_rest.Goals as goal

pub returns-in-Err-clause-source : goal.returns-in-Err-clause-source
returns-in-Err-clause-source g c =
    let e = c.raw-old.ensures.nodes in
    let d = c.raw-new.ensures.nodes in
    (c.in-Err.ensures.copies e.tree d.tree (sym c.tree.ensures ∙ e.in_preorder) d.in_preorder).source

pub returns-in-Err-clause-ends : goal.returns-in-Err-clause-ends
returns-in-Err-clause-ends g c = λ e d same other.
    items-lost g.T.Target.view c.args.chunk (c.args.pages.now.length / 1024) d (things_in e) (g.S.Source.view c.args.pages.now.source) (g.S.Source.view c.copy_items.new.pages.source) c.args.out.now c.copy_items.new.out c.in-Err.fault
    (good-tree c.args.tree.now d c.raw-new.ensures.nodes c.raw-new.ensures.typed other) c.requires.begun (c.in-Err.ensures.copies e d same other)

pub close_file-requires-clause-places : goal.close_file-requires-clause-places
close_file-requires-clause-places g c = λ d other.
    let e = c.raw-old.ensures.nodes in
    let copies = c.in-Ok.ensures.copies e.tree d (sym c.tree.ensures ∙ e.in_preorder) other in
    ap (λ (xs : List ℕ). length xs) c.deref.ensures.value
    ∙ offsets-count g.T.Target.view c.args.chunk d copies.bodies c.args.out.now c.copy_items.new.out c.in-Ok.offsets.items copies.puts copies.are_bodies

pub close_file-requires-clause-unspent : goal.close_file-requires-clause-unspent
close_file-requires-clause-unspent g c =
    let e = c.raw-old.ensures.nodes in
    let d = c.raw-new.ensures.nodes in
    (c.in-Ok.ensures.copies e.tree d.tree (sym c.tree.ensures ∙ e.in_preorder) d.in_preorder).puts.wrote.state.unspent

pub close_file-requires-clause-free : goal.close_file-requires-clause-free
close_file-requires-clause-free g c =
    let e = c.raw-old.ensures.nodes in
    let d = c.raw-new.ensures.nodes in
    (c.in-Ok.ensures.copies e.tree d.tree (sym c.tree.ensures ∙ e.in_preorder) d.in_preorder).puts.wrote.held ∙ c.requires.free

pub returns-in-Ok-close_file-clause-source : goal.returns-in-Ok-close_file-clause-source
returns-in-Ok-close_file-clause-source g c =
    let e = c.raw-old.ensures.nodes in
    let d = c.raw-new.ensures.nodes in
    (c.in-Ok.ensures.copies e.tree d.tree (sym c.tree.ensures ∙ e.in_preorder) d.in_preorder).source

pub returns-clause-source : goal.returns-clause-source
returns-clause-source g c =
    let e = c.raw-old.ensures.nodes in
    let d = c.raw-new.ensures.nodes in
    (c.in-Ok.ensures.copies e.tree d.tree (sym c.tree.ensures ∙ e.in_preorder) d.in_preorder).source

pub returns-in-Ok-close_file-clause-ends : goal.returns-in-Ok-close_file-clause-ends
returns-in-Ok-close_file-clause-ends g c = λ e d same other.
    file-ended g.T.Target.view c.args.chunk (c.args.pages.now.length / 1024) d (things_in e) (g.S.Source.view c.args.pages.now.source) (g.S.Source.view c.copy_items.new.pages.source) c.args.out.now c.copy_items.new.out c.close_file.new.out
    c.in-Ok.offsets.items c.in-Ok-close_file.total (good-tree c.args.tree.now d c.raw-new.ensures.nodes c.raw-new.ensures.typed other) c.requires.chunk.some c.requires.begun c.size-size.ensures.state.bytes
    (c.in-Ok.ensures.copies e d same other) (rw c.deref.ensures.value at (c.in-Ok-close_file.ensures.closed d other))

pub returns-clause-ends : goal.returns-clause-ends
returns-clause-ends g c = λ e d same other.
    subst (λ (fault : RunFault). EndsNot g.T.Target.view (copied c.args.chunk d (things_in e) (g.S.Source.view c.args.pages.now.source) (g.S.Source.view c.copy_items.new.pages.source)) c.args.out.now fault (g.T.Target.view c.close_file.new.out.target))
    (sym c.from.ensures)
    (file-not-ended g.T.Target.view c.args.chunk (c.args.pages.now.length / 1024) d (things_in e) (g.S.Source.view c.args.pages.now.source) (g.S.Source.view c.copy_items.new.pages.source) c.args.out.now c.copy_items.new.out c.close_file.new.out
    c.in-Ok.offsets.items c.in-Err-close_file.fault (good-tree c.args.tree.now d c.raw-new.ensures.nodes c.raw-new.ensures.typed other) c.requires.chunk.some c.requires.begun c.size-size.ensures.state.bytes
    (c.in-Ok.ensures.copies e d same other) (rw c.deref.ensures.value at (c.in-Err-close_file.ensures.closed d other)))
