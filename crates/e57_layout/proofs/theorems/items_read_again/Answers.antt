use Rattle.e57_layout.proofs.Laws.Items.{field_bytes-item}
use Rattle.e57_layout.proofs.theorems.items_read_again.Goals as goal

pub returns : goal.returns
returns c = field_bytes-item
