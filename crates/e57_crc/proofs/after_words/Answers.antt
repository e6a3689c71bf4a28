use Rattle.std.proofs.Common.{bit_xor, ap, ◌∙◌}
use Rattle.e57_crc.specs.Steps.{steps}
use Rattle.e57_crc.proofs.StepLaws.{steps-two_words}
use Rattle.e57_crc.proofs.after_words.Goals as goal

pub returns : goal.returns
returns c =
    ap (λ r. bit_xor r c.after_four-2.result) c.after_four.ensures
    ∙ ap (bit_xor (steps 32 c.args.high)) c.after_four-2.ensures
    ∙ steps-two_words (bit_xor c.args.start c.args.low) c.args.high
