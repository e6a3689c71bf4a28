use Rattle.std.proofs.Common.{refl, arith}
use Rattle.e57_stream.specs.Standing.{moved_on}
use Rattle.e57_stream.proofs.WordItems.{words_none, words_front}
use Rattle.e57_stream.proofs.words.take_words32.Goals as goal

pub returns-then-count-eq0 : goal.returns-then-count-eq0
returns-then-count-eq0 c = words_none 32 c.held_for-count.result c.args.chunk.now c.args.out.now c.if-count-eq0.true (let count = c.held_for-count.ensures in let none = c.if-count-eq0.true in omega (arith, count, none))

pub returns : goal.returns
unfolding moved_on
returns c = words_front 32 c.held_for-count.result c.args.chunk.now _ c.bytes.result.now c.args.out.now c.unpack32.new.out c.held_for-count.ensures refl c.bytes.ensures.bytes c.unpack32.auto.out c.unpack32.ensures
