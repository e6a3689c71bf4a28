use Rattle.std.proofs.Common.{◌≡◌, ℕ, ◌+◌, ◌-◌, ◌≤◌, List, [], ◌++◌, length, take, drop, get_or, ap, sym, ◌∙◌, arith, append_assoc, append-nil, length-drop}
use Rattle.std.proofs.lemmas.List.{drop_all, take_all, length-take-le}
use Rattle.e57_layout.specs.Values.{strings}
use Rattle.e57_layout.specs.Strings.{string_bytes_of}
use Rattle.e57_layout.specs.Items.{field_bytes}
use Rattle.e57_chunk_out.specs.Texts.{strings_at, text_size, texts_size}
use Rattle.e57_chunk_out.proofs.Strings.{next_end, texts_size-next, texts_size-nil, strings_at-next, strings_at-nil}
use Rattle.e57_chunk_out.proofs.texts.write_texts.Goals as goal

-- how long the next string is
size_of : (bytes : List ℕ) (begin e : ℕ) (text : List ℕ) → text ≡ take (e - begin) (drop begin bytes) → e ≤ length bytes → length text ≡ e - begin
size_of bytes begin e text is h =
    let rest : length (drop begin bytes) ≡ length bytes - begin = length-drop begin bytes in
    ap (λ (xs : List ℕ). length xs) is ∙ length-take-le (e - begin) (drop begin bytes) (omega arith)

pub piece-requires : goal.piece-requires
piece-requires c =
    let next = next_end (length c.args.bytes.now) c.loop-k.before c.args.ends.now c.loop-k.k c.loop-k-test.true c.loop-k.invariant.ends in
    (next.order, next.inside)

pub write_text-at-requires-clause-limit : goal.write_text-at-requires-clause-limit
write_text-at-requires-clause-limit c =
    let next = next_end (length c.args.bytes.now) c.loop-k.before c.args.ends.now c.loop-k.k c.loop-k-test.true c.loop-k.invariant.ends in
    let size = size_of c.args.bytes.now c.loop-k.before (get_or c.args.ends.now c.loop-k.k 0) c.piece.result.now c.piece.ensures next.inside in
    omega (arith, size, next.limit, next.order)

pub write_text-at-requires-clause-room : goal.write_text-at-requires-clause-room
write_text-at-requires-clause-room c =
    let next = next_end (length c.args.bytes.now) c.loop-k.before c.args.ends.now c.loop-k.k c.loop-k-test.true c.loop-k.invariant.ends in
    let size = ap text_size (size_of c.args.bytes.now c.loop-k.before (get_or c.args.ends.now c.loop-k.k 0) c.piece.result.now c.piece.ensures next.inside) in
    let grown = texts_size-next c.loop-k.before c.args.ends.now c.loop-k.k c.loop-k-test.true in
    omega (arith, size, grown, c.loop-k.invariant.room)

pub loop-k-preserved : goal.loop-k-preserved
loop-k-preserved c =
    let next = next_end (length c.args.bytes.now) c.loop-k.before c.args.ends.now c.loop-k.k c.loop-k-test.true c.loop-k.invariant.ends in
    let size = ap text_size (size_of c.args.bytes.now c.loop-k.before (get_or c.args.ends.now c.loop-k.k 0) c.piece.result.now c.piece.ensures next.inside) in
    let grown = texts_size-next c.loop-k.before c.args.ends.now c.loop-k.k c.loop-k-test.true in
    let later = field_bytes strings (strings_at c.args.bytes.now (get_or c.args.ends.now c.loop-k.k 0) (drop (c.loop-k.k + 1) c.args.ends.now)) in
    record {
      ends = next.later;
      room = omega (arith, size, grown, c.loop-k.invariant.room, c.write_text-at.ensures.end, c.write_text-at.auto.out);
      bytes = ap (λ (xs : List ℕ). xs ++ later) (c.write_text-at.ensures.bytes ∙ ap (λ (xs : List ℕ). take c.loop-k.at c.loop-k.out ++ string_bytes_of xs) c.piece.ensures)
          ∙ append_assoc (take c.loop-k.at c.loop-k.out) (string_bytes_of (take (get_or c.args.ends.now c.loop-k.k 0 - c.loop-k.before) (drop c.loop-k.before c.args.bytes.now))) later
          ∙ ap (λ (xs : List ℕ). take c.loop-k.at c.loop-k.out ++ xs) (sym (strings_at-next c.args.bytes.now c.loop-k.before c.args.ends.now c.loop-k.k c.loop-k-test.true))
          ∙ c.loop-k.invariant.bytes;
    }

pub returns : goal.returns
returns c =
    let none : drop c.loop-k.k c.args.ends.now ≡ [] = drop_all c.loop-k.k c.args.ends.now (omega (arith, c.loop-k-test.false)) in
    let zero = ap (texts_size c.loop-k.before) none ∙ texts_size-nil c.loop-k.before in
    let rest = ap (λ (es : List ℕ). field_bytes strings (strings_at c.args.bytes.now c.loop-k.before es)) none ∙ strings_at-nil c.args.bytes.now c.loop-k.before in
    let whole : take c.loop-k.at c.loop-k.out ≡ c.loop-k.out = take_all c.loop-k.at c.loop-k.out (omega (arith, zero, c.loop-k.invariant.room)) in
    sym whole
    ∙ sym (append-nil (take c.loop-k.at c.loop-k.out))
    ∙ ap (λ (xs : List ℕ). take c.loop-k.at c.loop-k.out ++ xs) (sym rest)
    ∙ c.loop-k.invariant.bytes
