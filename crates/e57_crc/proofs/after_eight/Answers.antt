use Rattle.e57_crc.proofs.RegisterLaws.{eight-words}
use Rattle.e57_crc.proofs.after_eight.Goals as goal

pub returns : goal.returns
returns c =
    eight-words c.args.bytes.now c.args.at c.args.start c.u32_at.result c.u32_at-2.result c.after_words.result
    c.u32_at.ensures c.u32_at-2.ensures c.after_words.ensures
