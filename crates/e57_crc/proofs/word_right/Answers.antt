use Rattle.std.proofs.Common.{◌∙◌, ap, take, drop}
use Rattle.e57_bits.specs.Bits.{number}
use Rattle.e57_crc.specs.Crc.{crc}
use Rattle.e57_crc.proofs.WordLaws.{one_order, other_order}
use Rattle.e57_crc.proofs.word_right.Goals as goal

pub returns-then-stored-checksum : goal.returns-then-stored-checksum
returns-then-stored-checksum c =
    one_order c.args.page.now c.told-page c.fits-page c.u32_at-stored.result c.crc32c-checksum.result
    (c.u32_at-stored.ensures ∙ ap (λ b. number b 0 32) (c.split_at.ensures.back ∙ ap (drop 1020) c.as_slice.ensures))
    (c.crc32c-checksum.ensures ∙ ap crc (c.split_at.ensures.front ∙ ap (take 1020) c.as_slice.ensures))
    c.if-stored-checksum.true

pub returns-else-stored-checksum : goal.returns-else-stored-checksum
returns-else-stored-checksum c =
    other_order c.args.page.now c.told-page c.fits-page c.u32_at-stored.result c.crc32c-checksum.result
    (c.u32_at-stored.ensures ∙ ap (λ b. number b 0 32) (c.split_at.ensures.back ∙ ap (drop 1020) c.as_slice.ensures))
    (c.crc32c-checksum.ensures ∙ ap crc (c.split_at.ensures.front ∙ ap (take 1020) c.as_slice.ensures))
    c.if-stored-checksum.false c.swap_bytes.result c.swap_bytes.ensures
