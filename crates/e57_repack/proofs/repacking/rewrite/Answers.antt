use Rattle.std.proofs.Common.{◌∙◌, refl, sym}
use Rattle.std.proofs.Math.Nat.{le_refl}
use Rattle.e57_verdict.specs.Things.{things_in}
use Rattle.e57_copy.proofs.OneTree.{good-tree}
use Rattle.e57_copy.proofs.Rewriting.{rewritten-or-not}
use Rattle.e57_repack.specs.Anew.{copied}
use Rattle.e57_repack.proofs.Rewriting.{alike-nodes, changing, no-change, serves}
use Rattle.e57_repack.proofs.repacking.rewrite.Goals as goal

pub write_anew-requires-clause-alike : goal.write_anew-requires-clause-alike
write_anew-requires-clause-alike g c = λ e d same other. alike-nodes c.args.file.now e d same (sym c.tree-2.ensures ∙ other)

pub returns-clause-repacks : goal.returns-clause-repacks
returns-clause-repacks g c =
    let old = g.S.Source.view c.args.pages.now.source in
    let new = g.S.Source.view c.write_anew.new.pages.source in
    let found = c.raw-raw.ensures.nodes in
    let e = found.tree in
    let same = sym c.tree.ensures ∙ found.in_preorder in
    rewritten-or-not g.T.Target.view (changing c.args.chunk (λ content. content)) (copied c.args.chunk e (things_in e) old new) old new c.args.target c.write_anew.result.0 c.args.name.now
    (serves c.args.chunk (λ content. content) e e (good-tree c.tree.result.now e found c.raw-raw.ensures.typed found.in_preorder) (λ content valid. valid) old old new refl (le_refl old.faults)
    (no-change old c.args.file.now e same c.requires.sound))
    c.write_anew.result.1 (c.write_anew.ensures.writes e e same (c.tree-2.ensures ∙ same))
