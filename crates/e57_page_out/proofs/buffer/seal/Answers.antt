use Rattle.std.proofs.Common.{take, reverse, ap, ◌∙◌}
use Rattle.e57_crc.specs.Crc.{crc}
use Rattle.e57_layout.specs.Bytes.{low_bytes}
use Rattle.e57_page_out.proofs.SealedLaws.{page_bytes-is}
use Rattle.e57_page_out.proofs.Words.{high_bytes}
use Rattle.e57_page_out.proofs.buffer.seal.Goals as goal

pub returns : goal.returns
returns c =
    let front = c.split_at_mut-payload.ensures.front in
    let checksum = c.crc32c.ensures ∙ ap crc front in
    let word = c.copy_from_slice.ensures.after ∙ (c.to_be_bytes.ensures ∙ high_bytes c.crc32c.result) ∙ ap (λ n. reverse (low_bytes 4 n)) checksum in
    rw (front, word, page_bytes-is (take 1020 c.args.page.now))
