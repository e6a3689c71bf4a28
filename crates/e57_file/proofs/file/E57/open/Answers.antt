use Rattle.std.specs.Prelude.{IfSome}
use Rattle.e57_base.specs.Fault.{text_as_open}
use Rattle.e57_file.specs.Opened.{HasNodes, IsOpenCause}
use Rattle.e57_file.proofs.Opening.{judged_later, is_past, late_past, late_cause, has_nodes}
use Rattle.e57_file.proofs.file.E57.open.Goals as goal
use Rattle.e57_base.proofs.Options.{by_error}

pub returns-in_err-tree-clause-place : goal.returns-in_err-tree-clause-place
returns-in_err-tree-clause-place g c =
    judged_later c.args.pages.now c.open_text.new.pages c.in_ok-raw.raw c.from_residual-in_err-tree.result c.in_ok-raw.ensures.place
    (is_past (text_as_open c.in_err-tree.field-0.0) c.from_residual-in_err-tree.result c.from_residual-in_err-tree.ensures.1 (late_past c.in_ok-raw.raw c.in_err-tree.field-0.0 c.len-count.ensures.nodes c.in_err-tree.ensures.judged))

pub returns-in_err-tree-clause-opened : goal.returns-in_err-tree-clause-opened
returns-in_err-tree-clause-opened g c =
    let old = g.S.Source.view c.args.pages.now.source in
    let new = g.S.Source.view c.open_text.new.pages.source in
    by_error (λ file. IfSome old.held (λ bytes. HasNodes bytes file)) (λ fault. IsOpenCause old fault new) (text_as_open c.in_err-tree.field-0.0) c.from_residual-in_err-tree.result c.from_residual-in_err-tree.ensures.1
    (late_cause old new c.in_ok-raw.raw c.in_err-tree.field-0.0 c.len-count.ensures.nodes c.in_ok-raw.ensures.text c.in_err-tree.ensures.judged)

pub returns-clause-opened : goal.returns-clause-opened
returns-clause-opened g c =
    let old = g.S.Source.view c.args.pages.now.source in
    has_nodes old c.in_ok-raw.raw c.in_ok-tree.tree c.in_ok-tree.tree c.in_ok-raw.ensures.text c.in_ok-tree.ensures.same c.in_ok-tree.ensures.judged
