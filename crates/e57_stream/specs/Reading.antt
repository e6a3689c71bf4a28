-- Reading items of a chunk in a row.
use Rattle.std.specs.Prelude.{◌≡◌, ℕ, ◌+◌, ◌<◌, ◌≤◌, ◌||◌, min, Bool, true, false, List, Result, Ok, Err, IfSome}
use Rattle.e57_base.specs.Count.{Rose}
use Rattle.e57_base.specs.Source.{SourceView}
use Rattle.e57_base.specs.declared.fault.Fault.{Fault}
use Rattle.e57_base.specs.declared.fault.ReadFault.{ReadFault}
use Rattle.e57_base.specs.declared.fault.ReadFault.TheVariants.{Refused, Source}
use Rattle.e57_base.specs.declared.kind.Kind.{Kind}
use Rattle.e57_base.specs.declared.kind.Kind.TheVariants.{ValueRange}
use Rattle.e57_layout.specs.Values.{ItemKind, Value, kind_width}
use Rattle.e57_layout.specs.Items.{item_at}
use Rattle.e57_cloud.specs.Met.{OnWalk, lacks_item}
use Rattle.e57_cloud.specs.PathItem.{item_in}
use Rattle.e57_stream.specs.declared.bytestream.Bytestream.{Bytestream}
use Rattle.e57_stream.specs.declared.chunk.Chunk.{Chunk}
use Rattle.e57_stream.specs.Asking.{AsksMet, AsksNear}
use Rattle.e57_stream.specs.Standing.{chunk_at, IsWithin, Stands}
use Rattle.e57_stream.specs.Taking.{is_walk_kind}

-- the item of record i of a chunk, or its fault
abbrev pub chunk_item : List ℕ → Bytestream → ItemKind → Chunk → ℕ → Result Value Fault
chunk_item file b kind chunk i = item_in file b.section b.fixed b.field b.node (item_at kind) i (chunk_at chunk)

-- p is a page of the walk through the chunk on the way to one of its n records from record a on
pub record IsMet (file : List ℕ) (b : Bytestream) (kind : ItemKind) (chunk : Chunk) (a n p : ℕ) : Type 0 where
  pub i : ℕ
  pub after : a ≤ i
  pub before : i < a + n
  pub way : OnWalk file b.section (lacks_item b.field kind i chunk.start) chunk.entry p

-- the state is of the file
abbrev pub IsOf : List ℕ → Bytestream → ItemKind → Chunk → Type 0
IsOf file b kind chunk = Stands file b (kind_width kind) chunk

-- The chunk is the same, no packet is taken back, and the state is right whatever the file.
pub record StaysIn (b : Bytestream) (kind : ItemKind) (before after : Chunk) : Type 0 where
  pub start : after.start ≡ before.start
  pub until : after.until ≡ before.until
  pub entry : after.entry ≡ before.entry
  pub onward : before.taken ≤ after.taken
  pub within : IsWithin b.section (kind_width kind) after

-- Of `want` records of the chunk from the next one on, n items were read. Pages were asked for on the way to them, or to
-- the one behind them if it is wanted too: they lie between the place before and the place after.
pub record ReadsItems (old : SourceView) (b : Bytestream) (kind : ItemKind) (before : Chunk) (want n : ℕ) (read : ℕ → Value) (after : Chunk) (new : SourceView) : Type 0 where
  pub count : n ≤ want
  pub stays : StaysIn b kind before after
  pub at : after.at ≡ before.at + n
  pub near : AsksNear before.taken after.taken old new
  pub met : AsksMet (λ file p. IsOf file b kind before → IsMet file b kind before before.at (min (n + 1) want) p) old new
  pub items : IfSome old.held (λ file. IsOf file b kind before → (j : ℕ) → j < n → chunk_item file b kind before (before.at + j) ≡ Ok (read j))
  pub stands : IfSome old.held (λ file. IsOf file b kind before → IsOf file b kind after)

-- a kind of fault at which a read of a chunk stops
abbrev pub is_item_kind : Kind → Bool
is_item_kind ValueRange = true
is_item_kind _ = false

-- why the item of record i wasn't read: its fault, or the source failed
abbrev pub IsItemCause : SourceView → Bytestream → ItemKind → Chunk → ℕ → ReadFault → SourceView → Type 0
IsItemCause old b kind chunk i (Refused found) new =
    ((is_walk_kind found.kind || is_item_kind found.kind) ≡ true) × IfSome old.held (λ file. IsOf file b kind chunk → chunk_item file b kind chunk i ≡ Err found)
IsItemCause old b kind chunk i Source new = Rose old.faults new.faults

-- Of `want` records `done` items were read, and the next one wasn't. Pages were asked for on the way to these: they lie
-- between the place before and the section's end.
pub record StopsAt (old : SourceView) (b : Bytestream) (kind : ItemKind) (before : Chunk) (want done : ℕ) (found : ReadFault) (read : ℕ → Value) (after : Chunk) (new : SourceView) : Type 0 where
  pub below : done < want
  pub stays : StaysIn b kind before after
  pub near : AsksNear before.taken b.section.end old new
  pub met : AsksMet (λ file p. IsOf file b kind before → IsMet file b kind before before.at (done + 1) p) old new
  pub items : IfSome old.held (λ file. IsOf file b kind before → (j : ℕ) → j < done → chunk_item file b kind before (before.at + j) ≡ Ok (read j))
  pub stands : IfSome old.held (λ file. IsOf file b kind before → IsOf file b kind after)
  pub cause : IsItemCause old b kind before (before.at + done) found new
