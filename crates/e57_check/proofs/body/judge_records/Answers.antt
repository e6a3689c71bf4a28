use Rattle.std.proofs.Common.{◌+◌, ◌/◌, ◌⊎◌, ◌≤◌, ◌≡◌, length, sym, inl, inr, ◌∙◌, arith}
use Rattle.std.proofs.lemmas.Bool.{eqb-true}
use Rattle.e57_nodes.specs.Items.{leaves_of}
use Rattle.e57_check.proofs.Records.{so-begin, so-read, so-walked, unopened, so-lost, so-refused, so-sound, so-faulty}
use Rattle.e57_check.proofs.body.judge_records.Goals.{then-loop-at-test+else-not-is_empty, else-loop-at-test}
use Rattle.e57_check.proofs.body.judge_records.Goals as goal

pub returns-in-Err-clause-records : goal.returns-in-Err-clause-records
returns-in-Err-clause-records g c =
    unopened (c.args.pages.now.length / 1024) (g.S.Source.view c.args.pages.now.source) (g.S.Source.view c.open_columns.new.pages.source) c.args.section.now c.args.starts.now c.args.fixed (leaves_of c.args.fields.now) c.in-Err.fault c.in-Err.ensures.columns

pub loop-at-init : goal.loop-at-init
loop-at-init g c = (
  so-begin (c.args.pages.now.length / 1024) (g.S.Source.view c.args.pages.now.source) (g.S.Source.view c.open_columns.new.pages.source) c.args.section.now c.args.starts.now c.args.fixed (leaves_of c.args.fields.now) c.none_passed-passed.result c.in-Ok-open_columns.judging.columns.items c.in-Ok-open_columns.judging.found c.none_passed-passed.ensures c.requires.lies.data_within c.in-Ok-open_columns.ensures.columns,
  c.in-Ok-open_columns.ensures.length,
  c.in-Ok-open_columns.ensures.header,
)

pub loop-at-preserved : goal.loop-at-preserved
loop-at-preserved g c =
    let read = so-read (c.args.pages.now.length / 1024) (g.S.Source.view c.args.pages.now.source) (g.S.Source.view c.loop-at.pages.source) (g.S.Source.view c.judge_block.new.pages.source) c.args.section.now c.args.starts.now c.args.fixed (leaves_of c.args.fields.now) c.loop-at.passed c.loop-at.at c.block_length-n.result c.loop-at.judging.columns.items c.judge_block.new.judging.columns.items c.loop-at.judging.found c.judge_block.new.judging.found c.block_length-n.ensures.most c.loop-at.invariant.0 (rw c.loop-at.invariant.1 at c.in_default-judge_block.ensures.block) in (
      so-walked (c.args.pages.now.length / 1024) (g.S.Source.view c.args.pages.now.source) (g.S.Source.view c.judge_block.new.pages.source) (g.S.Source.view c.walk_to.new.pages.source) c.args.section.now c.args.starts.now c.args.fixed (leaves_of c.args.fields.now) c.loop-at.passed c.in-Ok-walk_to.next (c.loop-at.at + c.block_length-n.result) c.judge_block.new.judging.columns.items c.judge_block.new.judging.found read (rw (c.in_default-judge_block.ensures.length, c.loop-at.invariant.1) at c.in-Ok-walk_to.ensures.walk),
      c.in-Ok-walk_to.ensures.length ∙ c.in_default-judge_block.ensures.length ∙ c.loop-at.invariant.1,
      c.in-Ok-walk_to.ensures.header ∙ c.in_default-judge_block.ensures.header ∙ c.loop-at.invariant.2,
    )

pub returns-in-Err-judge_block-clause-records : goal.returns-in-Err-judge_block-clause-records
returns-in-Err-judge_block-clause-records g c =
    so-lost (c.args.pages.now.length / 1024) (g.S.Source.view c.args.pages.now.source) (g.S.Source.view c.loop-at.pages.source) (g.S.Source.view c.judge_block.new.pages.source) c.args.section.now c.args.starts.now c.args.fixed (leaves_of c.args.fields.now) c.loop-at.passed c.loop-at.at c.loop-at.judging.columns.items c.loop-at.judging.found c.in-Err-judge_block.fault c.loop-at.invariant.0 (rw c.loop-at.invariant.1 at c.in-Err-judge_block.ensures.block)

pub returns-in-Err-walk_to-clause-records : goal.returns-in-Err-walk_to-clause-records
returns-in-Err-walk_to-clause-records g c =
    let read = so-read (c.args.pages.now.length / 1024) (g.S.Source.view c.args.pages.now.source) (g.S.Source.view c.loop-at.pages.source) (g.S.Source.view c.judge_block.new.pages.source) c.args.section.now c.args.starts.now c.args.fixed (leaves_of c.args.fields.now) c.loop-at.passed c.loop-at.at c.block_length-n.result c.loop-at.judging.columns.items c.judge_block.new.judging.columns.items c.loop-at.judging.found c.judge_block.new.judging.found c.block_length-n.ensures.most c.loop-at.invariant.0 (rw c.loop-at.invariant.1 at c.in_default-judge_block.ensures.block) in
    so-refused (c.args.pages.now.length / 1024) (g.S.Source.view c.args.pages.now.source) (g.S.Source.view c.judge_block.new.pages.source) (g.S.Source.view c.walk_to.new.pages.source) c.args.section.now c.args.starts.now c.args.fixed (leaves_of c.args.fields.now) c.loop-at.passed (c.loop-at.at + c.block_length-n.result) c.judge_block.new.judging.columns.items c.judge_block.new.judging.found c.in-Err-walk_to.fault c.from.result c.requires.starts c.from.ensures read (rw (c.in_default-judge_block.ensures.length, c.loop-at.invariant.1) at c.in-Err-walk_to.ensures.walk)

pub returns-in-Err-walk_to_end-clause-records : goal.returns-in-Err-walk_to_end-clause-records
returns-in-Err-walk_to_end-clause-records g c =
    so-refused (c.args.pages.now.length / 1024) (g.S.Source.view c.args.pages.now.source) (g.S.Source.view c.loop-at.pages.source) (g.S.Source.view c.walk_to_end.new.pages.source) c.args.section.now c.args.starts.now c.args.fixed (leaves_of c.args.fields.now) c.loop-at.passed c.loop-at.at c.loop-at.judging.columns.items c.loop-at.judging.found c.in-Err-walk_to_end.fault c.from-in-Err-walk_to_end.result c.requires.starts c.from-in-Err-walk_to_end.ensures c.loop-at.invariant.0 (rw c.loop-at.invariant.1 at c.in-Err-walk_to_end.ensures.walk)

pub returns-in-Some-clause-records : goal.returns-in-Some-clause-records
returns-in-Some-clause-records g c =
    let how : (c.args.section.now.count ≤ c.loop-at.at) ⊎ (length c.loop-at.judging.columns.items ≡ 0) =
    elim c.loop-at-test.branch [
      | then-loop-at-test+else-not-is_empty w ↦ inr (sym c.loop-at.judging.columns.ok.0 ∙ eqb-true c.loop-at.judging.columns.len 0 (sym w.if-not-is_empty.ensures))
      | else-loop-at-test w ↦ inl (let past = w.loop-at-test.false in omega (arith, past))
    ] in
    so-faulty (c.args.pages.now.length / 1024) (g.S.Source.view c.args.pages.now.source) (g.S.Source.view c.loop-at.pages.source) (g.S.Source.view c.walk_to_end.new.pages.source) c.args.section.now c.args.starts.now c.args.fixed (leaves_of c.args.fields.now) c.loop-at.passed c.loop-at.at c.loop-at.judging.columns.items c.loop-at.judging.found c.in-Some.found c.in-Some.is c.requires.lies.some_records c.requires.starts how c.loop-at.invariant.0 (rw c.loop-at.invariant.1 at c.in_default-walk_to_end.ensures.walk)

pub returns-clause-records : goal.returns-clause-records
returns-clause-records g c =
    let how : (c.args.section.now.count ≤ c.loop-at.at) ⊎ (length c.loop-at.judging.columns.items ≡ 0) =
    elim c.loop-at-test.branch [
      | then-loop-at-test+else-not-is_empty w ↦ inr (sym c.loop-at.judging.columns.ok.0 ∙ eqb-true c.loop-at.judging.columns.len 0 (sym w.if-not-is_empty.ensures))
      | else-loop-at-test w ↦ inl (let past = w.loop-at-test.false in omega (arith, past))
    ] in
    so-sound (c.args.pages.now.length / 1024) (g.S.Source.view c.args.pages.now.source) (g.S.Source.view c.loop-at.pages.source) (g.S.Source.view c.walk_to_end.new.pages.source) c.args.section.now c.args.starts.now c.args.fixed (leaves_of c.args.fields.now) c.loop-at.passed c.loop-at.at c.loop-at.judging.columns.items c.loop-at.judging.found c.in-None.is c.requires.lies.some_records c.requires.starts how c.loop-at.invariant.0 (rw c.loop-at.invariant.1 at c.in_default-walk_to_end.ensures.walk)
