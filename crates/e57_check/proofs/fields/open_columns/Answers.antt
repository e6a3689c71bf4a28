use Rattle.std.proofs.Common.{◌/◌, refl, sym, ◌∙◌, arith}
use Rattle.e57_layout.specs.Values.{item_kind}
use Rattle.e57_nodes.specs.Items.{leaves_of}
use Rattle.e57_check.proofs.Openings.{leaf-here, opens-begin, opens-constant, opens-more, opens-stopped, opens-no_memory, opens-end}
use Rattle.e57_check.proofs.fields.open_columns.Goals as goal

pub loop-f-init : goal.loop-f-init
loop-f-init g c = (rw c.new-columns.ensures.items (opens-begin (c.args.pages.now.length / 1024) (g.S.Source.view c.args.pages.now.source) c.args.section.now c.args.fixed (leaves_of c.args.fields.now)), refl, refl)

pub loop-f-preserved-then-is_constant : goal.loop-f-preserved-then-is_constant
loop-f-preserved-then-is_constant g c = (
  opens-constant (c.args.pages.now.length / 1024) (g.S.Source.view c.args.pages.now.source) (g.S.Source.view c.loop-f.pages.source) c.args.section.now c.args.fixed (leaves_of c.args.fields.now) c.loop-f.f (record { node = c.index-fields-f.result.node; kind = item_kind c.index-fields-f.result.kind }) c.loop-f.columns.items (leaf-here c.args.fields.now c.loop-f.f c.index-fields-f.result c.loop-f-test.true c.index-fields-f.is) (sym c.is_constant.ensures ∙ c.if-is_constant.true) c.loop-f.invariant.0,
  c.loop-f.invariant.1,
  c.loop-f.invariant.2,
)

pub returns-in-Err-clause-columns : goal.returns-in-Err-clause-columns
returns-in-Err-clause-columns g c =
    opens-stopped (c.args.pages.now.length / 1024) (g.S.Source.view c.args.pages.now.source) (g.S.Source.view c.loop-f.pages.source) (g.S.Source.view c.open_column.new.pages.source) c.args.section.now c.args.fixed (leaves_of c.args.fields.now) c.loop-f.f (record { node = c.index-fields-f.result.node; kind = item_kind c.index-fields-f.result.kind }) c.loop-f.columns.items c.in-Err.fault c.stopped.result (leaf-here c.args.fields.now c.loop-f.f c.index-fields-f.result c.loop-f-test.true c.index-fields-f.is) c.loop-f.invariant.0 (rw c.loop-f.invariant.1 at c.in-Err.ensures.opened) c.stopped.ensures

pub loop-f-preserved : goal.loop-f-preserved
loop-f-preserved g c = (
  rw c.in_default.ensures.items (opens-more (c.args.pages.now.length / 1024) (g.S.Source.view c.args.pages.now.source) (g.S.Source.view c.loop-f.pages.source) (g.S.Source.view c.open_column.new.pages.source) c.args.section.now c.args.fixed (leaves_of c.args.fields.now) c.loop-f.f (record { node = c.index-fields-f.result.node; kind = item_kind c.index-fields-f.result.kind }) c.loop-f.columns.items c.in-Ok.column (leaf-here c.args.fields.now c.loop-f.f c.index-fields-f.result c.loop-f-test.true c.index-fields-f.is) c.loop-f.invariant.0 (rw c.loop-f.invariant.1 at c.in-Ok.ensures.opened)),
  c.in-Ok.ensures.length ∙ c.loop-f.invariant.1,
  c.in-Ok.ensures.header ∙ c.loop-f.invariant.2,
)

pub returns-clause-columns : goal.returns-clause-columns
returns-clause-columns g c =
    opens-end (c.args.pages.now.length / 1024) (g.S.Source.view c.args.pages.now.source) (g.S.Source.view c.loop-f.pages.source) c.args.section.now c.args.fixed c.args.fields.now c.loop-f.f c.loop-f.columns.items (omega (arith, c.loop-f-test.false)) c.loop-f.invariant.0

pub returns-in-Err-push-clause-columns : goal.returns-in-Err-push-clause-columns
returns-in-Err-push-clause-columns g c =
    opens-no_memory (c.args.pages.now.length / 1024) (g.S.Source.view c.args.pages.now.source) (g.S.Source.view c.loop-f.pages.source) (g.S.Source.view c.open_column.new.pages.source) c.args.section.now c.args.fixed (leaves_of c.args.fields.now) c.loop-f.f (record { node = c.index-fields-f.result.node; kind = item_kind c.index-fields-f.result.kind }) c.loop-f.columns.items c.in-Ok.column c.loop-f.invariant.0 (rw c.loop-f.invariant.1 at c.in-Ok.ensures.opened)
