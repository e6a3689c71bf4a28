use Rattle.std.proofs.Common.{◌≡◌, ◌-◌, [], length, drop, get_or, ap, ◌∙◌, arith}
use Rattle.std.proofs.lemmas.List.{drop_all}
use Rattle.e57_chunk_out.specs.Texts.{texts_size}
use Rattle.e57_chunk_out.proofs.Strings.{next_end, texts_size-next, texts_size-nil, text_size-most}
use Rattle.e57_chunk_out.proofs.texts.all_texts_size.Goals as goal

pub overflow_sub-end : goal.overflow_sub-end
overflow_sub-end c = (next_end (length c.args.bytes.now) c.loop-k.before c.args.ends.now c.loop-k.k c.loop-k-test.true c.loop-k.invariant.ends).order

pub one_text_size-size-requires : goal.one_text_size-size-requires
one_text_size-size-requires c =
    let next = next_end (length c.args.bytes.now) c.loop-k.before c.args.ends.now c.loop-k.k c.loop-k-test.true c.loop-k.invariant.ends in
    omega (arith, next.limit, next.order)

pub overflow_add-size : goal.overflow_add-size
overflow_add-size c =
    let next = next_end (length c.args.bytes.now) c.loop-k.before c.args.ends.now c.loop-k.k c.loop-k-test.true c.loop-k.invariant.ends in
    let most = text_size-most (get_or c.args.ends.now c.loop-k.k 0 - c.loop-k.before) in
    omega (arith, next.limit, next.order, most, c.one_text_size-size.ensures, c.loop-k.invariant.few, c.requires.few, c.loop-k-test.true)

pub loop-k-preserved : goal.loop-k-preserved
loop-k-preserved c =
    let next = next_end (length c.args.bytes.now) c.loop-k.before c.args.ends.now c.loop-k.k c.loop-k-test.true c.loop-k.invariant.ends in
    let most = text_size-most (get_or c.args.ends.now c.loop-k.k 0 - c.loop-k.before) in
    let grown = texts_size-next c.loop-k.before c.args.ends.now c.loop-k.k c.loop-k-test.true in
    record {
      ends = next.later;
      size = omega (arith, grown, c.one_text_size-size.ensures, c.loop-k.invariant.size);
      few = omega (arith, next.limit, next.order, most, c.one_text_size-size.ensures, c.loop-k.invariant.few);
    }

pub returns : goal.returns
returns c =
    let none : drop c.loop-k.k c.args.ends.now ≡ [] = drop_all c.loop-k.k c.args.ends.now (omega (arith, c.loop-k-test.false)) in
    let zero = ap (texts_size c.loop-k.before) none ∙ texts_size-nil c.loop-k.before in
    record { size = omega (arith, zero, c.loop-k.invariant.size); few = omega (arith, c.loop-k.invariant.few, c.loop-k.auto.k-end) }
