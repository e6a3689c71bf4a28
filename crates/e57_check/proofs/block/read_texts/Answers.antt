use Rattle.std.proofs.Common.{ℕ, ◌≡◌, ◌-◌, ◌/◌, ◌∙◌, length, refl, subst, arith}
use Rattle.e57_check.specs.Judging.{ReadsBlock}
use Rattle.e57_layout.specs.Values.{strings}
use Rattle.e57_check.proofs.Judged.{block-none, block-on, block-lost, lies-later, kind-later, count-later, less-left}
use Rattle.e57_check.proofs.block.read_texts.Goals as goal
use Rattle.e57_column.proofs.Joining.{field-on}

pub loop-done-init : goal.loop-done-init
loop-done-init g c = (omega arith, block-none (c.args.pages.now.length / 1024) (g.S.Source.view c.args.pages.now.source) c.args.column.now c.args.at c.requires.placed, refl, refl)

pub read_some-requires-clause-lies : goal.read_some-requires-clause-lies
read_some-requires-clause-lies g c = lies-later c.args.column.now c.loop-done.column c.args.pages.now.length c.loop-done.pages.length c.loop-done.invariant.1.same c.loop-done.invariant.2 c.requires.lies

pub read_some-requires-clause-kind : goal.read_some-requires-clause-kind
read_some-requires-clause-kind g c = kind-later c.args.column.now c.loop-done.column strings c.loop-done.invariant.1.same c.requires.kind

pub read_some-requires-clause-placed : goal.read_some-requires-clause-placed
read_some-requires-clause-placed g c = c.loop-done.invariant.1.at_record

pub read_some-requires-clause-left : goal.read_some-requires-clause-left
read_some-requires-clause-left g c =
    let most = count-later c.args.column.now c.loop-done.column c.loop-done.invariant.1.same in
    let left = c.requires.left in
    let few = c.loop-done.invariant.0 in
    omega (arith, most, left, few)

pub loop-done-smaller : goal.loop-done-smaller
loop-done-smaller g c = less-left c.args.n c.loop-done.done c.in-Ok.read (length c.loop-done.block.bytes.items) (length c.read_some.new.block.bytes.items) c.loop-done-test.true c.in-Ok.ensures.block.0 c.in-Ok.ensures.room

pub loop-done-preserved : goal.loop-done-preserved
loop-done-preserved g c =
    let few = c.in-Ok.ensures.block.0 in
    let done = c.loop-done.invariant.0 in (
      omega (arith, few, done),
      block-on (c.args.pages.now.length / 1024) (g.S.Source.view c.args.pages.now.source) (g.S.Source.view c.loop-done.pages.source) (g.S.Source.view c.read_some.new.pages.source) c.args.column.now c.loop-done.column c.read_some.new.column c.args.at c.loop-done.done c.in-Ok.read c.loop-done.invariant.1 (rw c.loop-done.invariant.2 at c.in-Ok.ensures.block.1),
      c.in-Ok.ensures.length ∙ c.loop-done.invariant.2,
      c.in-Ok.ensures.header ∙ c.loop-done.invariant.3,
    )

pub returns-in-Err-clause-length : goal.returns-in-Err-clause-length
returns-in-Err-clause-length g c = c.in-Err.ensures.length ∙ c.loop-done.invariant.2

pub returns-in-Err-clause-header : goal.returns-in-Err-clause-header
returns-in-Err-clause-header g c = c.in-Err.ensures.header ∙ c.loop-done.invariant.3

pub returns-in-Err-clause-same : goal.returns-in-Err-clause-same
returns-in-Err-clause-same g c = field-on c.args.column.now c.loop-done.column c.read_some.new.column c.loop-done.invariant.1.same c.in-Err.ensures.same

pub returns-in-Err-clause-block : goal.returns-in-Err-clause-block
returns-in-Err-clause-block g c =
    let done = c.loop-done.invariant.0 in
    block-lost (c.args.pages.now.length / 1024) (g.S.Source.view c.args.pages.now.source) (g.S.Source.view c.loop-done.pages.source) (g.S.Source.view c.read_some.new.pages.source) c.args.column.now c.loop-done.column c.args.at c.loop-done.done (c.args.n - c.loop-done.done) c.args.n c.in-Err.fault (omega (arith, done)) c.loop-done.invariant.1 (rw c.loop-done.invariant.2 at c.in-Err.ensures.block)

pub returns-clause-length : goal.returns-clause-length
returns-clause-length g c = c.loop-done.invariant.2

pub returns-clause-header : goal.returns-clause-header
returns-clause-header g c = c.loop-done.invariant.3

pub returns-clause-same : goal.returns-clause-same
returns-clause-same g c = c.loop-done.invariant.1.same

pub returns-clause-block : goal.returns-clause-block
returns-clause-block g c =
    let past = c.loop-done-test.false in
    let done = c.loop-done.invariant.0 in
    let all : c.loop-done.done ≡ c.args.n = omega (arith, past, done) in
    subst (λ (k : ℕ). ReadsBlock (c.args.pages.now.length / 1024) (g.S.Source.view c.args.pages.now.source) c.args.column.now c.args.at k (g.S.Source.view c.loop-done.pages.source) c.loop-done.column) all c.loop-done.invariant.1
