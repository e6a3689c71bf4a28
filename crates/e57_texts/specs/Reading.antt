-- Reading and skipping strings of a chunk in a row.
use Rattle.std.specs.Prelude.{◌≡◌, ℕ, ◌+◌, ◌-◌, ◌<◌, ◌≤◌, ◌||◌, Bool, true, false, List, ◌∷◌, length, take, slice_index_or, Option, Some, None, Result, Ok, Err, IfSome}
use Rattle.e57_base.specs.Count.{Rose}
use Rattle.e57_base.specs.Fault.{fault}
use Rattle.e57_base.specs.Source.{SourceView}
use Rattle.e57_base.specs.declared.fault.Fault.{Fault}
use Rattle.e57_base.specs.declared.fault.ReadFault.{ReadFault}
use Rattle.e57_base.specs.declared.fault.ReadFault.TheVariants.{Refused, Source}
use Rattle.e57_base.specs.declared.kind.Kind.{Kind}
use Rattle.e57_base.specs.declared.kind.Kind.TheVariants.{StringLimit}
use Rattle.e57_layout.specs.Values.{Value, strings, word, octets}
use Rattle.e57_layout.specs.Strings.{string_limit, string_length_at}
use Rattle.e57_cloud.specs.Met.{OnWalk, lacks_item}
use Rattle.e57_cloud.specs.PathItem.{item_in}
use Rattle.e57_stream.specs.declared.bytestream.Bytestream.{Bytestream}
use Rattle.e57_stream.specs.declared.chunk.Chunk.{Chunk}
use Rattle.e57_stream.specs.Asking.{AsksMet, AsksNear}
use Rattle.e57_stream.specs.Reading.{chunk_item, IsMet}
use Rattle.e57_stream.specs.Standing.{chunk_at}
use Rattle.e57_stream.specs.Taking.{is_walk_kind, SamePlace}
use Rattle.e57_stream.specs.Window.{held_bytes}
use Rattle.e57_texts.specs.Standing.{StandsText, StaysText}

-- ---- what is found

-- the length of the string of record i of a chunk, or its fault
abbrev pub chunk_length : List ℕ → Bytestream → Chunk → ℕ → Result Value Fault
chunk_length file b chunk i = item_in file b.section b.fixed b.field b.node (string_length_at 0) i (chunk_at chunk)

-- the fault of the string of record `at` that has too many bytes
abbrev pub limit_at : Bytestream → ℕ → Fault
limit_at b at = fault StringLimit at b.node

abbrev pub is_limit_kind : Kind → Bool
is_limit_kind StringLimit = true
is_limit_kind _ = false

-- a kind of fault at which a read of strings stops
abbrev pub is_text_kind : Kind → Bool
is_text_kind kind = is_walk_kind kind || is_limit_kind kind

-- ---- one string

-- p is a page of the walk through the chunk on the way to record i
abbrev pub OnWay : List ℕ → Bytestream → Chunk → ℕ → ℕ → Type 0
OnWay file b chunk i p = OnWalk file b.section (lacks_item b.field strings i chunk.start) chunk.entry p

-- Pages were asked for on the way to the next record and all later ones: the bytes that were there had a part of the next
-- string at most.
abbrev pub AsksOnWay : Bytestream → Chunk → SourceView → SourceView → Type 0
AsksOnWay b chunk old new = AsksMet (λ file p. StandsText file b chunk → (i : ℕ) → chunk.at ≤ i → OnWay file b chunk i p) old new

-- why the next string wasn't read: its fault, which is that of all later records too; or the source failed
abbrev pub IsNextCause : SourceView → Bytestream → Chunk → ReadFault → SourceView → Type 0
IsNextCause old b chunk (Refused found) new =
    (is_text_kind found.kind ≡ true) × IfSome old.held (λ file. StandsText file b chunk → (i : ℕ) → chunk.at ≤ i → chunk_item file b strings chunk i ≡ Err found)
IsNextCause old b chunk Source new = Rose old.faults new.faults

-- the length of the string of record i has this fault too
abbrev pub IsLengthCause : SourceView → Bytestream → Chunk → ℕ → ReadFault → Type 0
IsLengthCause old b chunk i (Refused found) = IfSome old.held (λ file. StandsText file b chunk → chunk_length file b chunk i ≡ Err found)
IsLengthCause old b chunk i Source = Unit {0}

-- where the string of record i was refused, and its length is known, it is at most `left`
abbrev pub IsFitting : SourceView → Bytestream → Chunk → ℕ → ℕ → ReadFault → Type 0
IsFitting old b chunk i left (Refused found) = IfSome old.held (λ file. StandsText file b chunk → (n : ℕ) → chunk_length file b chunk i ≡ Ok (word n) → n ≤ left)
IsFitting old b chunk i left Source = Unit {0}

-- The next string wasn't read.
pub record LacksText (old : SourceView) (b : Bytestream) (before : Chunk) (found : ReadFault) (after : Chunk) (new : SourceView) : Type 0 where
  pub same : SamePlace before after
  pub onward : before.taken ≤ after.taken
  pub within : after.taken ≤ b.section.end
  pub met : AsksOnWay b before old new
  pub cause : IsNextCause old b before found new

-- ---- strings in a row

-- where string j begins and ends in a buffer whose first string begins at byte `filled`
abbrev pub begin_of : ℕ → List ℕ → ℕ → ℕ
begin_of filled ends j = slice_index_or (filled ∷ ends) j 0

abbrev pub end_of : List ℕ → ℕ → ℕ
end_of ends j = slice_index_or ends j 0

-- string j
abbrev pub string_held : ℕ → List ℕ → List ℕ → ℕ → List ℕ
string_held filled bytes ends j = held_bytes bytes (begin_of filled ends j) (end_of ends j)

-- The ends of the first n strings were put, one after another from byte `filled` on; all other ends and the bytes before
-- `filled` are as they were.
pub record FillsTexts (filled n : ℕ) (bytes bytes' ends ends' : List ℕ) : Type 0 where
  pub order : (j : ℕ) → j < n → begin_of filled ends' j ≤ end_of ends' j
  pub inside : (j : ℕ) → j < n → end_of ends' j ≤ length bytes'
  pub short : (j : ℕ) → j < n → end_of ends' j ≤ begin_of filled ends' j + string_limit
  pub rest : (j : ℕ) → n ≤ j → end_of ends' j ≡ end_of ends j
  pub before : take filled bytes' ≡ take filled bytes
  pub same_bytes : length bytes' ≡ length bytes
  pub same_ends : length ends' ≡ length ends

-- Of the chunk's strings from the next record on n were read. Pages were asked for on the way to m of these records.
pub record ReadsTexts (old : SourceView) (b : Bytestream) (before : Chunk) (n m : ℕ) (read : ℕ → List ℕ) (after : Chunk) (new : SourceView) : Type 0 where
  pub stays : StaysText b before after
  pub at : after.at ≡ before.at + n
  pub near : AsksNear before.taken after.taken old new
  pub met : AsksMet (λ file p. StandsText file b before → IsMet file b strings before before.at m p) old new
  pub items : IfSome old.held (λ file. StandsText file b before → (j : ℕ) → j < n → chunk_item file b strings before (before.at + j) ≡ Ok (octets (read j)))
  pub stands : IfSome old.held (λ file. StandsText file b before → StandsText file b after)

-- how many records were looked at: one more than were read where the length of the next string is answered
abbrev pub looked_at : ℕ → Option ℕ → ℕ
looked_at count None = count
looked_at count (Some n) = count + 1

-- Why no more strings were read: there is no place or no record for more; or the next string has n bytes, more than the
-- buffer has left.
abbrev pub IsNext : SourceView → Bytestream → Chunk → (want count left : ℕ) → Option ℕ → Type 0
IsNext old b before want count left None = count ≡ want
IsNext old b before want count left (Some n) =
    (count < want) × (left < n) × (n ≤ string_limit)
    × IfSome old.held (λ file. StandsText file b before → chunk_length file b before (before.at + count) ≡ Ok (word n))

-- Of `want` strings `count` were read into the buffers.
pub record ReadsStrings (old : SourceView) (b : Bytestream) (before : Chunk) (want filled count : ℕ) (next : Option ℕ) (bytes bytes' ends ends' : List ℕ) (after : Chunk) (new : SourceView) : Type 0 where
  pub fills : FillsTexts filled count bytes bytes' ends ends'
  pub reads : ReadsTexts old b before count (looked_at count next) (string_held filled bytes' ends') after new
  pub why : IsNext old b before want count (length bytes' - begin_of filled ends' count) next

-- why the string of record i wasn't read or reached: the fault on the way to it, or the source failed
abbrev pub IsTextCause : SourceView → Bytestream → Chunk → ℕ → ReadFault → SourceView → Type 0
IsTextCause old b chunk i (Refused found) new =
    (is_text_kind found.kind ≡ true) × IfSome old.held (λ file. StandsText file b chunk → chunk_item file b strings chunk i ≡ Err found)
IsTextCause old b chunk i Source new = Rose old.faults new.faults

-- Of `want` strings `done` were read into the buffers, and the next one wasn't. If it was refused, and its length is known, it
-- would have fitted.
pub record StopsStrings (old : SourceView) (b : Bytestream) (before : Chunk) (want filled done : ℕ) (found : ReadFault) (bytes bytes' ends ends' : List ℕ) (after : Chunk) (new : SourceView) : Type 0 where
  pub below : done < want
  pub fills : FillsTexts filled done bytes bytes' ends ends'
  pub stays : StaysText b before after
  pub met : AsksMet (λ file p. StandsText file b before → IsMet file b strings before before.at (done + 1) p) old new
  pub items : IfSome old.held (λ file. StandsText file b before → (j : ℕ) → j < done → chunk_item file b strings before (before.at + j) ≡ Ok (octets (string_held filled bytes' ends' j)))
  pub cause : IsTextCause old b before (before.at + done) found new
  pub fits : IsFitting old b before (before.at + done) (length bytes' - begin_of filled ends' done) found

-- ---- skipping

-- The next record is i.
pub record SkipsStrings (old : SourceView) (b : Bytestream) (before : Chunk) (i : ℕ) (after : Chunk) (new : SourceView) : Type 0 where
  pub stays : StaysText b before after
  pub at : after.at ≡ i
  pub near : AsksNear before.taken after.taken old new
  pub met : AsksMet (λ file p. StandsText file b before → OnWay file b before i p) old new
  pub stands : IfSome old.held (λ file. StandsText file b before → StandsText file b after)

-- Record i wasn't reached: a string before it was refused, so that its length isn't known either.
pub record StopsSkipping (old : SourceView) (b : Bytestream) (before : Chunk) (i : ℕ) (found : ReadFault) (after : Chunk) (new : SourceView) : Type 0 where
  pub stays : StaysText b before after
  pub met : AsksMet (λ file p. StandsText file b before → OnWay file b before i p) old new
  pub cause : IsTextCause old b before i found new
  pub length : IsLengthCause old b before i found
