use Rattle.std.proofs.Common.{◌+◌, ◌≡◌, ◌≤◌, ◌<◌, [], ◌∙◌, sym, ap, subst, drop, length, arith, ℕ, Some, Option}
use Rattle.csv.specs.Records.{fields_of}
use Rattle.std.proofs.lemmas.List.{drop_more, drop_all}
use Rattle.e57_import.proofs.Judging.{ask_at, at_place, cell_there, name_passes, name_differs, name_absent, cell_over, no_ask, none_left, past_end, same_name, other_name}
use Rattle.e57_import.proofs.judge.difference.Goals as goal

pub returns-in_default : goal.returns-in_default
returns-in_default c =
    let column = drop_more c.args.columns.now c.loop-k.k no_ask c.loop-k-test.true in
    let none = past_end (fields_of c.args.row.now) c.loop-k.k (sym c.in_default.ensures.value) in
    sym (name_absent c.loop-k.k (drop c.loop-k.k c.args.columns.now) (drop (c.loop-k.k + 1) c.args.columns.now) (ask_at c.args.columns.now c.loop-k.k) (drop c.loop-k.k (fields_of c.args.row.now)) column
    (drop_all c.loop-k.k (fields_of c.args.row.now) none))
    ∙ c.loop-k.invariant.same

pub returns-then-ne : goal.returns-then-ne
returns-then-ne c =
    let column = drop_more c.args.columns.now c.loop-k.k no_ask c.loop-k-test.true in
    let cell = cell_there (fields_of c.args.row.now) c.loop-k.k c.in-Some.cell.now (sym c.in-Some.ensures.value) in
    let differs = other_name (ask_at c.args.columns.now c.loop-k.k) c.as_bytes.result.now c.in-Some.cell.now c.as_bytes.ensures.value (sym c.ne.ensures ∙ c.if-ne.true) in
    sym (name_differs c.loop-k.k (drop c.loop-k.k c.args.columns.now) (drop (c.loop-k.k + 1) c.args.columns.now) (ask_at c.args.columns.now c.loop-k.k) (drop c.loop-k.k (fields_of c.args.row.now))
    (drop (c.loop-k.k + 1) (fields_of c.args.row.now)) c.in-Some.cell.now column cell differs)
    ∙ c.loop-k.invariant.same

pub loop-k-preserved : goal.loop-k-preserved
loop-k-preserved c =
    let column = drop_more c.args.columns.now c.loop-k.k no_ask c.loop-k-test.true in
    let cell = cell_there (fields_of c.args.row.now) c.loop-k.k c.in-Some.cell.now (sym c.in-Some.ensures.value) in
    let same = same_name (ask_at c.args.columns.now c.loop-k.k) c.as_bytes.result.now c.in-Some.cell.now c.as_bytes.ensures.value (sym c.ne.ensures ∙ c.if-ne.false) in
    let there = (at_place (fields_of c.args.row.now) c.loop-k.k c.in-Some.cell.now (sym c.in-Some.ensures.value)).0 in
    record {
      same =
          sym (name_passes c.loop-k.k (drop c.loop-k.k c.args.columns.now) (drop (c.loop-k.k + 1) c.args.columns.now) (ask_at c.args.columns.now c.loop-k.k) (drop c.loop-k.k (fields_of c.args.row.now))
          (drop (c.loop-k.k + 1) (fields_of c.args.row.now)) c.in-Some.cell.now column cell same)
          ∙ c.loop-k.invariant.same;
      there = omega (arith, there);
    }

pub returns-then-len-columns : goal.returns-then-len-columns
returns-then-len-columns c =
    let end : c.loop-k.k ≡ length c.args.columns.now = let ends = c.loop-k.auto.k-end in omega (arith, ends, c.loop-k-test.false) in
    let more : c.loop-k.k < length (fields_of c.args.row.now) = let long = c.len.ensures in let longer = c.if-len-columns.true in omega (arith, end, long, longer) in
    ap (λ (k : ℕ). Some k) (sym end)
    ∙ sym (cell_over c.loop-k.k (drop c.loop-k.k c.args.columns.now) (drop c.loop-k.k (fields_of c.args.row.now)) (drop (c.loop-k.k + 1) (fields_of c.args.row.now)) _
    (drop_all c.loop-k.k c.args.columns.now c.loop-k-test.false) (drop_more (fields_of c.args.row.now) c.loop-k.k [] more))
    ∙ c.loop-k.invariant.same

pub returns : goal.returns
returns c =
    let end : c.loop-k.k ≡ length c.args.columns.now = let ends = c.loop-k.auto.k-end in omega (arith, ends, c.loop-k-test.false) in
    let last : length (fields_of c.args.row.now) ≤ c.loop-k.k = let long = c.len.ensures in let longer = c.if-len-columns.false in omega (arith, end, long, longer) in
    sym (none_left c.loop-k.k (drop c.loop-k.k c.args.columns.now) (drop c.loop-k.k (fields_of c.args.row.now)) (drop_all c.loop-k.k c.args.columns.now c.loop-k-test.false)
    (drop_all c.loop-k.k (fields_of c.args.row.now) last))
    ∙ c.loop-k.invariant.same
