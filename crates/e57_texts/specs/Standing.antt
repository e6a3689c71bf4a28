-- Where a reader of a field's strings stands in a chunk.
use Rattle.std.specs.Prelude.{◌≡◌, ℕ, ◌-◌, ◌≤◌, List, [], Some}
use Rattle.e57_layout.specs.declared.section.Section.{Section}
use Rattle.e57_layout.specs.Strings.{after_strings}
use Rattle.e57_section.specs.Opening.{most_records}
use Rattle.e57_stream.specs.declared.bytestream.Bytestream.{Bytestream}
use Rattle.e57_stream.specs.declared.chunk.Chunk.{Chunk}
use Rattle.e57_stream.specs.Standing.{Reaches}

-- What holds whatever the file: the next record is one of the chunk or the first one past it, the packets that were taken
-- lie in the section, and the window begins with the next string.
pub record IsWithinText (s : Section) (chunk : Chunk) : Type 0 where
  pub low : chunk.start ≤ chunk.at
  pub high : chunk.at ≤ chunk.until
  pub most : chunk.until ≤ most_records
  pub taken_within : chunk.taken ≤ s.end
  pub whole : chunk.bit ≡ 0

-- The state is of the file: the bytes of the stream before the window are the strings of the records before the next one.
pub record StandsText (file : List ℕ) (b : Bytestream) (chunk : Chunk) : Type 0 where
  pub front : List ℕ
  pub reaches : Reaches file b chunk front
  pub strings : after_strings (chunk.at - chunk.start) front ≡ Some []

-- The chunk is the same, no packet is taken back, and the state is right whatever the file.
pub record StaysText (b : Bytestream) (before after : Chunk) : Type 0 where
  pub start : after.start ≡ before.start
  pub until : after.until ≡ before.until
  pub entry : after.entry ≡ before.entry
  pub onward : before.taken ≤ after.taken
  pub within : IsWithinText b.section after
