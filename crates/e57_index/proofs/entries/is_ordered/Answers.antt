use Rattle.std.proofs.Common.{◌≡◌, ◌-◌, ◌*◌, ◌∙◌, sym, ap, arith}
use Rattle.e57_layout.specs.declared.packet.Entry.{Entry}
use Rattle.e57_index.proofs.Listed.{rises-step, rises-low, rises-high, rises-none, begins-same, begins-other}
use Rattle.e57_index.proofs.entries.is_ordered.Goals as goal

pub returns-then-entry-first : goal.returns-then-entry-first
returns-then-entry-first c =
    let is = ap (λ (e : Entry). e.first) c.entry.ensures in
    let other = c.if-entry-first.true in
    sym (begins-other c.args.entries.now c.args.first c.args.bound c.args.count c.requires.some (λ same. other (is ∙ same)))

pub loop-k-init : goal.loop-k-init
loop-k-init c =
    let is = ap (λ (e : Entry). e.first) c.entry.ensures in
    let whole : c.args.count - 0 ≡ c.args.count = omega arith in
    rw whole (begins-same c.args.entries.now c.args.first c.args.bound c.args.count c.requires.some (sym is ∙ c.if-entry-first.false))

pub returns-then-record-least : goal.returns-then-record-least
returns-then-record-least c =
    let is = ap (λ (e : Entry). e.first) c.entry-record.ensures in
    let low = c.if-record-least.true in
    sym (c.loop-k.invariant ∙ rises-low c.args.entries.now c.loop-k.least c.args.bound c.args.count c.loop-k.k c.loop-k-test.true (omega (arith, low, is)))

pub returns-then-record-bound : goal.returns-then-record-bound
returns-then-record-bound c =
    let is = ap (λ (e : Entry). e.first) c.entry-record.ensures in
    let low = c.if-record-least.false in
    let high = c.if-record-bound.true in
    sym (c.loop-k.invariant ∙ rises-high c.args.entries.now c.loop-k.least c.args.bound c.args.count c.loop-k.k c.loop-k-test.true (omega (arith, low, is)) (omega (arith, high, is)))

pub loop-k-preserved : goal.loop-k-preserved
loop-k-preserved c =
    let is = ap (λ (e : Entry). e.first) c.entry-record.ensures in
    let low = c.if-record-least.false in
    let high = c.if-record-bound.false in
    rw is (c.loop-k.invariant ∙ rises-step c.args.entries.now c.loop-k.least c.args.bound c.args.count c.loop-k.k c.loop-k-test.true (omega (arith, low, is)) (omega (arith, high, is)))

pub returns : goal.returns
returns c = sym (c.loop-k.invariant ∙ rises-none c.args.entries.now c.loop-k.least c.args.bound (16 * c.loop-k.k) c.args.count c.loop-k.k c.loop-k-test.false)
