-- The entry of an index packet that has a record.
use Rattle.std.specs.Prelude.{ℕ, ◌+◌, ◌*◌, ◌<◌, ◌≤◌, List}
use Rattle.e57_layout.specs.IndexPackets.{entry_at}
use Rattle.e57_layout.specs.declared.packet.Entry.{Entry}
use Rattle.e57_cloud.specs.Index.{HasEntry}

-- Record i is one of this entry's, which is one of these entries and ends where the next one begins, or at the bound.
pub record IsPicked (bound : ℕ) (entries : List Entry) (i : ℕ) (e : Entry) (until : ℕ) : Type 0 where
  pub has : HasEntry bound entries e until
  pub low : e.first ≤ i
  pub high : i < until

-- Of so many entries that stand in these bytes, entry k is the last whose record is at most i.
pub record IsLastAtMost (b : List ℕ) (count i k : ℕ) : Type 0 where
  pub there : k < count
  pub low : (entry_at b (16 * k)).first ≤ i
  pub high : k + 1 < count → i < (entry_at b (16 * (k + 1))).first
