use Rattle.std.specs.Prelude.{◌≡◌, ◌/◌, true, List, Option}
use Rattle.std.proofs.Common.{◌∙◌, sym, subst}
use Rattle.e57_base.specs.declared.fault.RunFault.{RunFault}
use Rattle.e57_check.proofs.AskingLaws.{asks_where_on}
use Rattle.e57_copy.specs.Rewriting.{RewritesNot}
use Rattle.e57_edits.specs.declared.limits.Range.{Range}
use Rattle.e57_edits.specs.Ranges.{range_at}
use Rattle.e57_elements.specs.Tree.{preorder}
use Rattle.e57_nodes.specs.Limits.{with_limits}
use Rattle.e57_verdict.specs.Things.{things_in}
use Rattle.e57_plain.specs.Tight.{tight}
use Rattle.e57_plain.proofs.Laws.Tight.{tight-valid}
use Rattle.e57_copy.proofs.OneTree.{good-tree}
use Rattle.e57_copy.proofs.Rewriting.{rewritten-or-not}
use Rattle.e57_repack.specs.Anew.{copied}
use Rattle.e57_repack.specs.Repacking.{repacking}
use Rattle.e57_repack.proofs.Narrowing.{alike-narrow, narrow-change, not-narrowed}
use Rattle.e57_repack.proofs.Rewriting.{changing, serves}
use Rattle.e57_repack.proofs.repacking.rewrite_narrow.Goals as goal

pub returns-in-Err-clause-repacks : goal.returns-in-Err-clause-repacks
returns-in-Err-clause-repacks g c =
    let old = g.S.Source.view c.args.pages.now.source in
    let new = g.S.Source.view c.narrow_ranges.new.pages.source in
    let found = c.raw-raw.ensures.nodes in
    let same = sym c.tree.ensures ∙ found.in_preorder in
    subst (λ (fault : RunFault). RewritesNot g.T.Target.view (repacking c.args.chunk true) old new c.args.target c.args.name.now fault c.args.target) (sym c.from.ensures)
    (not-narrowed g.T.Target.view (repacking c.args.chunk true) (c.args.pages.now.length / 1024) old new c.args.file.now found.tree c.args.target c.args.name.now c.in-Err.fault same c.requires.sound (c.in-Err.ensures.ranges found.tree same))

pub write_anew-requires-clause-alike : goal.write_anew-requires-clause-alike
write_anew-requires-clause-alike g c = λ e d same other.
    alike-narrow c.args.file.now c.in-Ok-with_limits.tree c.in-Ok.ranges.items _ e d c.in-Ok.ensures.limits same
    (subst (λ (ranges : List (Option Range)). c.in-Ok-with_limits.tree ≡ preorder (with_limits (range_at ranges) 0 e)) c.deref.ensures.value (c.in-Ok-with_limits.ensures e (c.tree-2.ensures ∙ same))) other

pub returns-clause-source : goal.returns-clause-source
returns-clause-source g c =
    let found = c.raw-raw.ensures.nodes in
    let same = sym c.tree.ensures ∙ found.in_preorder in
    asks_where_on (λ file. Unit {0}) (c.args.pages.now.length / 1024) (g.S.Source.view c.args.pages.now.source) (g.S.Source.view c.narrow_ranges.new.pages.source) (g.S.Source.view c.write_anew.new.pages.source)
    (c.in-Ok.ensures.ranges found.tree same).source (rw c.in-Ok.ensures.length at c.write_anew.ensures.source)

pub returns-clause-repacks : goal.returns-clause-repacks
returns-clause-repacks g c =
    let old = g.S.Source.view c.args.pages.now.source in
    let mid = g.S.Source.view c.narrow_ranges.new.pages.source in
    let new = g.S.Source.view c.write_anew.new.pages.source in
    let found = c.raw-raw.ensures.nodes in
    let e = found.tree in
    let same = sym c.tree.ensures ∙ found.in_preorder in
    let finds = c.in-Ok.ensures.ranges e same in
    let d = with_limits (range_at c.in-Ok.ranges.items) 0 e in
    let made = subst (λ (ranges : List (Option Range)). c.in-Ok-with_limits.tree ≡ preorder (with_limits (range_at ranges) 0 e)) c.deref.ensures.value (c.in-Ok-with_limits.ensures e (c.tree-2.ensures ∙ same)) in
    rewritten-or-not g.T.Target.view (changing c.args.chunk tight) (copied c.args.chunk d (things_in e) mid new) old new c.args.target c.write_anew.result.0 c.args.name.now
    (serves c.args.chunk tight e d (good-tree c.in-Ok-with_limits.tree d c.raw-new.ensures.nodes c.raw-new.ensures.typed made) tight-valid
    old mid new finds.source.asks.same.held finds.source.asks.faults
    (narrow-change (c.args.pages.now.length / 1024) old mid c.args.file.now e c.in-Ok.ranges.items same c.requires.sound finds))
    c.write_anew.result.1 (c.write_anew.ensures.writes e d same made)
