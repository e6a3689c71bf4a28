-- The entries of an index that will be written.
use Rattle.std.specs.Prelude.{ℕ, List}
use Rattle.e57_layout.specs.declared.packet.Entry.{Entry}

pub record EntryList : Type 0 where
  -- one for each chunk so far
  pub entries : List Entry
  -- for how many there is room
  pub room : ℕ
