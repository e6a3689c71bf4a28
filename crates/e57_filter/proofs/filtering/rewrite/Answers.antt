use Rattle.std.proofs.Common.{◌≤◌, ◌∙◌, sym, subst, List, length, arith}
use Rattle.std.proofs.lemmas.List.{length-map}
use Rattle.e57_copy.proofs.OneTree.{good-tree}
use Rattle.e57_copy.proofs.Rewriting.{rewritten-or-not}
use Rattle.e57_filter.specs.Asking.{filtering}
use Rattle.e57_filter.specs.Asks.{filter_asked, keep_asked}
use Rattle.e57_filter.specs.Filtering.{filtered}
use Rattle.e57_filter.specs.Selecting.{selection_of}
use Rattle.e57_filter.specs.declared.ask.Keep.{Keep}
use Rattle.e57_filter.proofs.Asked.{not-selected, selected-of, serves-kept}
use Rattle.e57_filter.proofs.filtering.rewrite.Goals as goal

pub returns-in-Err-clause-rewrites : goal.returns-in-Err-clause-rewrites
returns-in-Err-clause-rewrites g c =
    let found = c.raw-raw.ensures.nodes in
    let e = found.tree in
    let same = sym c.tree.ensures ∙ found.in_preorder in
    let old = g.S.Source.view c.args.pages.now.source in
    not-selected e (good-tree c.tree.result.now e found c.raw-raw.ensures.typed found.in_preorder) g.T.Target.view (filter_asked c.args.ask.now) c.args.file.now old old c.args.target c.args.name.now same c.requires.sound c.in-Err.fault (c.in-Err.ensures e same)

pub write_filtered-requires-clause-selected : goal.write_filtered-requires-clause-selected
write_filtered-requires-clause-selected g c = λ e same.
    let few = subst (λ (xs : List Keep). length xs ≤ 8) c.as_slice-keeps.ensures.value c.as_slice-keeps.ensures.fits in
    let as_many = length-map c.args.ask.now.keeps.items keep_asked in
    selected-of (filter_asked c.args.ask.now) e c.in-Ok.selected (omega (arith, few, as_many)) (c.in-Ok.ensures e same)

pub returns-clause-rewrites : goal.returns-clause-rewrites
returns-clause-rewrites g c =
    let found = c.raw-raw.ensures.nodes in
    let e = found.tree in
    let same = sym c.tree.ensures ∙ found.in_preorder in
    let asked = filter_asked c.args.ask.now in
    let old = g.S.Source.view c.args.pages.now.source in
    let new = g.S.Source.view c.write_filtered.new.pages.source in
    rewritten-or-not g.T.Target.view (filtering asked) (filtered (selection_of c.args.ask.now.every c.in-Ok.selected) e old new) old new c.args.target c.write_filtered.result.0 c.args.name.now
    (serves-kept e (good-tree c.tree.result.now e found c.raw-raw.ensures.typed found.in_preorder) asked c.in-Ok.selected (c.in-Ok.ensures e same) c.args.file.now old new same c.requires.sound)
    c.write_filtered.result.1 (c.write_filtered.ensures.writes e same)
