use Rattle.std.proofs.Common.{refl}
use Rattle.e57_layout.specs.Headers.{blob_head_at}
use Rattle.e57_packet.proofs.headers.read_blob_header.Goals as goal

pub returns : goal.returns
unfolding blob_head_at
returns c = rw (c.u8_at.ensures, c.u64_at.ensures, c.as_slice-bytes.ensures) refl
