-- Strings of a column, which are read one after another into a buffer of bytes and a buffer of their ends.
use Rattle.std.specs.Prelude.{◌≡◌, ℕ, ◌+◌, ◌-◌, ◌<◌, ◌≤◌, ◌==◌, ◌⊎◌, min, if◌then◌else◌, List, length, Option, Some, None, IfSome, Ok}
use Rattle.e57_base.specs.Source.{SourceView}
use Rattle.e57_base.specs.declared.fault.ReadFault.{ReadFault}
use Rattle.e57_base.specs.declared.fault.ReadFault.TheVariants.{Refused, Source}
use Rattle.e57_layout.specs.Values.{word, octets}
use Rattle.e57_layout.specs.Strings.{string_limit}
use Rattle.e57_texts.specs.Reading.{FillsTexts, begin_of, string_held, looked_at}
use Rattle.e57_column.specs.declared.state.State.{State}
use Rattle.e57_column.specs.declared.texts.TextsRead.{TextsRead}
use Rattle.e57_column.specs.Column.{column_length, StandsIn}
use Rattle.e57_column.specs.Reading.{ReadsRecords, StopsRecords}

-- The string of record i has n bytes, more than are left.
pub record TooLong (old : SourceView) (c : State) (i left n : ℕ) : Type 0 where
  pub more : left < n
  pub limit : n ≤ string_limit
  pub is : IfSome old.held (λ file. StandsIn file c → column_length file c i ≡ Ok (word n))

-- what is answered where so many strings were read and the next one has n bytes: its length, if it is the first
abbrev pub left_over : ℕ → ℕ → TextsRead
left_over count n = record { count = count; need = if count == 0 then Some n else None }

-- Of the wanted strings some were left: the next one has n bytes, more than the byte buffer has left.
pub record Leaves (old : SourceView) (before : State) (want left : ℕ) (read : TextsRead) : Type 0 where
  pub n : ℕ
  pub fewer : read.count < want
  pub next : TooLong old before (before.chunk.at + read.count) left n
  pub answer : read ≡ left_over read.count n

-- Strings were read, as many as there are places for ends and records, and as the byte buffer has room for. If one more
-- wasn't read, it was looked at.
pub record ReadsTexts (old : SourceView) (before : State) (want : ℕ) (read : TextsRead) (bytes bytes' ends ends' : List ℕ) (new : SourceView) (after : State) : Type 0 where
  pub fills : FillsTexts 0 read.count bytes bytes' ends ends'
  pub reads : ReadsRecords old before before.chunk.at read.count (min (read.count + 1) want) (λ j. octets (string_held 0 bytes' ends' j)) new after
  pub why : ((read.count ≡ want) × (read.need ≡ None)) ⊎ Leaves old before want (length bytes' - begin_of 0 ends' read.count) read

-- where the string of record i was refused, and its length is known, it is at most `left`
abbrev pub IsFitting : SourceView → State → (i left : ℕ) → ReadFault → Type 0
IsFitting old c i left (Refused found) = IfSome old.held (λ file. StandsIn file c → (n : ℕ) → column_length file c i ≡ Ok (word n) → n ≤ left)
IsFitting old c i left Source = Unit {0}

-- Of the wanted strings `done` were read, and the next one wasn't. If it was refused, and its length is known, it would have
-- fitted.
pub record StopsTexts (old : SourceView) (before : State) (want done : ℕ) (found : ReadFault) (bytes bytes' ends ends' : List ℕ) (new : SourceView) (after : State) : Type 0 where
  pub fills : FillsTexts 0 done bytes bytes' ends ends'
  pub stops : StopsRecords old before before.chunk.at want done found (λ j. octets (string_held 0 bytes' ends' j)) new after
  pub fits : IsFitting old before (before.chunk.at + done) (length bytes' - begin_of 0 ends' done) found

-- ---- the strings of one chunk

-- Why no more were read: the chunk has no more; or the next string has n bytes, more than are left.
abbrev pub IsLeft : SourceView → State → (places count room : ℕ) → Option ℕ → Type 0
IsLeft old before places count room None = 0 < count
IsLeft old before places count room (Some n) = (count < places) × TooLong old before (before.chunk.at + count) room n

-- Strings of one chunk were read, the first one to byte `filled` on.
pub record ReadsSome (old : SourceView) (before : State) (filled count : ℕ) (next : Option ℕ) (bytes bytes' ends ends' : List ℕ) (new : SourceView) (after : State) : Type 0 where
  pub few : count ≤ length ends
  pub fills : FillsTexts filled count bytes bytes' ends ends'
  pub reads : ReadsRecords old before before.chunk.at count (looked_at count next) (λ j. octets (string_held filled bytes' ends' j)) new after
  pub why : IsLeft old before (length ends) count (length bytes' - begin_of filled ends' count) next

pub record StopsSome (old : SourceView) (before : State) (filled want done : ℕ) (found : ReadFault) (bytes bytes' ends ends' : List ℕ) (new : SourceView) (after : State) : Type 0 where
  pub fills : FillsTexts filled done bytes bytes' ends ends'
  pub stops : StopsRecords old before before.chunk.at want done found (λ j. octets (string_held filled bytes' ends' j)) new after
  pub fits : IsFitting old before (before.chunk.at + done) (length bytes' - begin_of filled ends' done) found
