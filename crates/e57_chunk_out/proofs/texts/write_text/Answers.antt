use Rattle.std.proofs.Common.{◌≡◌, ℕ, ◌+◌, ◌++◌, List, length, take, ap, ◌∙◌, arith, append_assoc}
use Rattle.e57_layout.specs.Strings.{string_prefix, string_bytes_of}
use Rattle.e57_chunk_out.specs.Texts.{text_size}
use Rattle.e57_chunk_out.proofs.Strings.{length-string_prefix}
use Rattle.e57_chunk_out.proofs.texts.write_text.Goals as goal

pub put-begin-requires : goal.put-begin-requires
put-begin-requires c =
    let size : length (take c.spell_prefix-size.result c.spell_prefix-size.new.out) + length c.args.text.now ≡ text_size (length c.args.text.now) =
    ap (λ (xs : List ℕ). length xs + length c.args.text.now) c.spell_prefix-size.ensures.spelled ∙ length-string_prefix (length c.args.text.now) in
    omega (arith, c.requires.room)

pub put-requires : goal.put-requires
put-requires c =
    let size : length (take c.spell_prefix-size.result c.spell_prefix-size.new.out) + length c.args.text.now ≡ text_size (length c.args.text.now) =
    ap (λ (xs : List ℕ). length xs + length c.args.text.now) c.spell_prefix-size.ensures.spelled ∙ length-string_prefix (length c.args.text.now) in
    omega (arith, c.requires.room, c.put-begin.ensures.end, c.put-begin.auto.out)

pub returns-clause-bytes : goal.returns-clause-bytes
unfolding string_bytes_of
returns-clause-bytes c =
    c.put.ensures.bytes
    ∙ ap (λ (xs : List ℕ). xs ++ c.args.text.now) (c.put-begin.ensures.bytes ∙ ap (λ (xs : List ℕ). take c.args.at c.args.out.now ++ xs) c.spell_prefix-size.ensures.spelled)
    ∙ append_assoc (take c.args.at c.args.out.now) (string_prefix (length c.args.text.now)) c.args.text.now

pub returns-clause-end : goal.returns-clause-end
returns-clause-end c =
    let size : length (take c.spell_prefix-size.result c.spell_prefix-size.new.out) + length c.args.text.now ≡ text_size (length c.args.text.now) =
    ap (λ (xs : List ℕ). length xs + length c.args.text.now) c.spell_prefix-size.ensures.spelled ∙ length-string_prefix (length c.args.text.now) in
    omega (arith, c.put.ensures.end, c.put-begin.ensures.end)
