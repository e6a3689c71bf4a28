-- What `find` answers, and what it does to the source and the cursor.
use Rattle.std.specs.Prelude.{◌≡◌, ℕ, ◌+◌, ◌<◌, ◌≤◌, true, List, Option, Some, None, IfSome, IsSomeAnd, Ok, Err, ◌==◌, false}
use Rattle.e57_base.specs.Count.{Rose}
use Rattle.e57_base.specs.Source.{SourceView}
use Rattle.e57_base.specs.declared.fault.ReadFault.{ReadFault}
use Rattle.e57_base.specs.declared.fault.ReadFault.TheVariants.{Refused, Source}
use Rattle.e57_cloud.specs.PathItem.{ChunkAt, path}
use Rattle.e57_cloud.specs.Met.{OnPath}
use Rattle.e57_index.specs.declared.cursor.Found.{Found}
use Rattle.e57_index.specs.Asking.{AsksMet}
use Rattle.e57_index.specs.Reading.{is_index_kind}
use Rattle.e57_index.specs.Standing.{HeldPacket, Cursor, StandsIn}
use Rattle.e57_layout.specs.declared.section.Section.{Section}

-- page p is one of the path of record i, where the cursor stands in the file
abbrev pub OnWay : Cursor → ℕ → List ℕ → ℕ → Type 0
OnWay c i file p = StandsIn file c → OnPath file c.section i p

-- Pages of the section alone were asked for, and none that isn't on the path of record i.
abbrev pub AsksWay : Cursor → ℕ → SourceView → SourceView → Type 0
AsksWay c i old new = AsksMet c.section (OnWay c i) old new

-- where the cursor stood in the file, it stands there
abbrev pub KeepsStanding : SourceView → Cursor → Cursor → Type 0
KeepsStanding old before after = IfSome old.held (λ file. StandsIn file before → StandsIn file after)

abbrev pub chunk_of : Found → ChunkAt
chunk_of f = record { first = f.start; until = f.until; place = f.place }

-- The chunk of record i was found. It is that of each of its records.
pub record FindsChunk (old : SourceView) (before : Cursor) (i : ℕ) (f : Found) (new : SourceView) (after : Cursor) : Type 0 where
  pub source : AsksWay before i old new
  pub low : f.start ≤ i
  pub high : i < f.until
  pub most : f.until ≤ before.section.count
  pub data_after : before.section.data_place ≤ f.place
  pub within : f.place + 4 ≤ before.section.end
  pub stands : KeepsStanding old before after
  pub is : IfSome old.held (λ file. StandsIn file before → (j : ℕ) → f.start ≤ j → j < f.until → path file before.section j ≡ Ok (chunk_of f))

-- why it wasn't found: the first fault on the path, or the source failed
abbrev pub IsWayCause : SourceView → Cursor → ℕ → ReadFault → SourceView → Type 0
IsWayCause old before i (Refused found) new = (is_index_kind found.kind ≡ true) × IfSome old.held (λ file. StandsIn file before → path file before.section i ≡ Err found)
IsWayCause old before i Source new = Rose old.faults new.faults

pub record LosesChunk (old : SourceView) (before : Cursor) (i : ℕ) (found : ReadFault) (new : SourceView) (after : Cursor) : Type 0 where
  pub source : AsksWay before i old new
  pub cause : IsWayCause old before i found new
  pub stands : KeepsStanding old before after

-- the packet that is held has record i
abbrev pub HoldsRecord : Option HeldPacket → ℕ → Type 0
HoldsRecord held i = IsSomeAnd held (λ h. (h.first ≤ i) × (i < h.bound))

-- it is a leaf that has record i
abbrev pub HoldsLeaf : Option HeldPacket → ℕ → Type 0
HoldsLeaf held i = IsSomeAnd held (λ h. (h.level ≡ 0) × (h.first ≤ i) × (i < h.bound))

abbrev pub held_level : Option HeldPacket → ℕ
held_level None = 0
held_level (Some h) = h.level

-- A step down the path of record i.
pub record StepsDown (old : SourceView) (before : Cursor) (i : ℕ) (new : SourceView) (after : Cursor) : Type 0 where
  pub source : AsksWay before i old new
  pub stands : KeepsStanding old before after
  pub has : HoldsRecord after.held i

-- The path of the record past a chunk leads, if it leads to one, to a chunk that begins with it.
abbrev pub IsFollowed : List ℕ → Section → ℕ → ChunkAt → ChunkAt → Type 0
IsFollowed file s i c d = (s.index == 0) ≡ false → i < s.count → path file s i ≡ Ok c → c.until < s.count → path file s c.until ≡ Ok d → d.first ≡ c.until
