use Rattle.std.proofs.Common.{refl}
use Rattle.e57_layout.specs.Headers.{section_head_at}
use Rattle.e57_packet.proofs.headers.read_section_header.Goals as goal

pub returns : goal.returns
unfolding section_head_at
returns c = rw (c.u8_at.ensures, c.u64_at.ensures, c.u64_at-2.ensures, c.u64_at-3.ensures, c.as_slice-bytes.ensures) refl
