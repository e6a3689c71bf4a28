-- Raw words of a chunk.
use Rattle.std.specs.Prelude.{◌≡◌, ℕ, ◌*◌, ◌/◌, ◌<◌, ◌≤◌, min, true, List, length, drop, slice_index}
use Rattle.e57_bits.specs.Bits.{number}
use Rattle.e57_base.specs.Source.{SourceView}
use Rattle.e57_base.specs.declared.fault.ReadFault.{ReadFault}
use Rattle.e57_base.specs.declared.fault.ReadFault.TheVariants.{Refused, Source}
use Rattle.e57_layout.specs.Values.{words, Value, word}
use Rattle.e57_stream.specs.declared.bytestream.Bytestream.{Bytestream}
use Rattle.e57_stream.specs.declared.chunk.Chunk.{Chunk}
use Rattle.e57_stream.specs.Standing.{items_held, moved_on}
use Rattle.e57_stream.specs.Taking.{is_walk_kind}
use Rattle.e57_stream.specs.Reading.{ReadsItems, StopsAt}

-- All places from place n on are as they were.
pub record FillsWords (n : ℕ) (old new : List ℕ) : Type 0 where
  pub rest : (j : ℕ) → n ≤ j → slice_index new j ≡ slice_index old j
  pub same_length : length new ≡ length old

-- the item that was read into place j
abbrev pub word_at : List ℕ → ℕ → Value
word_at out j = word (slice_index out j)

-- Of `want` records n words of w bits were read into the first places of a buffer.
pub record ReadsWords (source : SourceView) (b : Bytestream) (w : ℕ) (before : Chunk) (want n : ℕ) (old new : List ℕ) (after : Chunk) (source' : SourceView) : Type 0 where
  pub fills : FillsWords n old new
  pub reads : ReadsItems source b (words w) before want n (word_at new) after source'

-- a word has no limits: it isn't read only where the chunk ends before it, or where the source failed
abbrev pub IsWordFault : ReadFault → Type 0
IsWordFault (Refused found) = is_walk_kind found.kind ≡ true
IsWordFault Source = Unit {0}

-- Of `want` records `done` were read into the first places of a buffer, and the next one wasn't.
pub record StopsWords (source : SourceView) (b : Bytestream) (w : ℕ) (before : Chunk) (want done : ℕ) (found : ReadFault) (old new : List ℕ) (after : Chunk) (source' : SourceView) : Type 0 where
  pub fills : FillsWords done old new
  pub stops : StopsAt source b (words w) before want done found (word_at new) after source'
  pub word_fault : IsWordFault found

-- The words that the window has from the next one on were read, as many as there are places.
pub record TakesWords (w : ℕ) (before : Chunk) (old : List ℕ) (n : ℕ) (after : Chunk) (new : List ℕ) : Type 0 where
  pub count : n ≡ min (length old) (items_held w before)
  pub moved : after ≡ moved_on w n before
  pub items : (j : ℕ) → j < n → slice_index new j ≡ number (drop (before.bit / 8) before.window) (w * j) w
  pub fills : FillsWords n old new
