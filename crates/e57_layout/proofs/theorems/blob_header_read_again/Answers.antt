use Rattle.e57_layout.proofs.Laws.Layouts.{blob_head-read}
use Rattle.e57_layout.proofs.theorems.blob_header_read_again.Goals as goal

pub returns : goal.returns
returns c = blob_head-read
