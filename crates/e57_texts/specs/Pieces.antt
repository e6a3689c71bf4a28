-- Taking a piece of a stream, packet by packet.
use Rattle.std.specs.Prelude.{◌≡◌, ℕ, ◌+◌, ◌<◌, ◌≤◌, true, List, [], ◌++◌, length, IfSome}
use Rattle.e57_base.specs.Count.{Rose}
use Rattle.e57_base.specs.Source.{SourceView}
use Rattle.e57_base.specs.declared.fault.Fault.{Fault}
use Rattle.e57_base.specs.declared.fault.ReadFault.{ReadFault}
use Rattle.e57_base.specs.declared.fault.ReadFault.TheVariants.{Refused, Source}
use Rattle.e57_layout.specs.Strings.{string_cut_off, first_string}
use Rattle.e57_cloud.specs.Walk.{Packet}
use Rattle.e57_cloud.specs.Chunks.{data_packets, stream_of}
use Rattle.e57_cloud.specs.Met.{InSpan, needed_at, IsWalked}
use Rattle.e57_stream.specs.declared.bytestream.Bytestream.{Bytestream}
use Rattle.e57_stream.specs.declared.chunk.Chunk.{Chunk}
use Rattle.e57_stream.specs.Asking.{AsksMet, AsksNear}
use Rattle.e57_stream.specs.Standing.{Reaches}
use Rattle.e57_stream.specs.Taking.{is_walk_kind, SamePlace, Finishes}
use Rattle.e57_texts.specs.Prefix.{StatesLength}

-- the bytes end before the first string does
abbrev pub IsCut : List ℕ → Type 0
IsCut bytes = first_string bytes ≡ string_cut_off

-- there are fewer bytes than n
abbrev pub IsFewer : ℕ → List ℕ → Type 0
IsFewer n bytes = length bytes < n

-- p is a page of the packet behind some of the chunk whose bytes of the stream are a front and then bytes that don't serve
pub record OnPiece (file : List ℕ) (b : Bytestream) (entry : ℕ) (front : List ℕ) (is_wanting : List ℕ → Type 0) (p : ℕ) : Type 0 where
  pub packets : List Packet
  pub q : ℕ
  pub more : List ℕ
  pub walked : IsWalked file b.section entry packets q
  pub there : q + 4 ≤ b.section.end
  pub stream : stream_of b.field (data_packets packets) ≡ front ++ more
  pub wanting : is_wanting more
  pub within : InSpan q (needed_at file b.section q) p

-- the same, whatever stands before the window
abbrev pub IsAsked : Bytestream → Chunk → (List ℕ → Type 0) → List ℕ → ℕ → Type 0
IsAsked b chunk is_wanting file p = (front : List ℕ) → Reaches file b chunk front → OnPiece file b chunk.entry front is_wanting p

-- The window was moved on over these bytes. Packets were taken as long as the bytes from its first place on didn't serve.
pub record TakesPiece (old : SourceView) (b : Bytestream) (before : Chunk) (is_wanting : List ℕ → Type 0) (bytes : List ℕ) (after : Chunk) (new : SourceView) : Type 0 where
  pub same : SamePlace before after
  pub onward : before.taken ≤ after.taken
  pub within : after.taken ≤ b.section.end
  pub near : AsksNear before.taken after.taken old new
  pub met : AsksMet (IsAsked b before is_wanting) old new
  pub reaches : IfSome old.held (λ file. (front : List ℕ) → Reaches file b before front → Reaches file b after (front ++ bytes))

-- The chunk has no more packets: these are the front, bytes that don't serve, and this is what is answered.
pub record EndsWanting (file : List ℕ) (b : Bytestream) (chunk : Chunk) (front : List ℕ) (is_wanting : List ℕ → Type 0) (found : Fault) : Type 0 where
  pub more : List ℕ
  pub wanting : is_wanting more
  pub finishes : Finishes file b chunk.entry chunk.at (front ++ more) found

abbrev pub IsPieceCause : SourceView → Bytestream → Chunk → (List ℕ → Type 0) → ReadFault → SourceView → Type 0
IsPieceCause old b chunk is_wanting (Refused found) new =
    (is_walk_kind found.kind ≡ true) × IfSome old.held (λ file. (front : List ℕ) → Reaches file b chunk front → EndsWanting file b chunk front is_wanting found)
IsPieceCause old b chunk is_wanting Source new = Rose old.faults new.faults

-- The bytes that are there don't serve, and no packet follows, or the source failed.
pub record LacksPiece (old : SourceView) (b : Bytestream) (before : Chunk) (is_wanting : List ℕ → Type 0) (found : ReadFault) (after : Chunk) (new : SourceView) : Type 0 where
  pub same : SamePlace before after
  pub onward : before.taken ≤ after.taken
  pub within : after.taken ≤ b.section.end
  pub met : AsksMet (IsAsked b before is_wanting) old new
  pub cause : IsPieceCause old b before is_wanting found new

-- some bytes, so many, were taken
pub record SkipsPiece (old : SourceView) (b : Bytestream) (before : Chunk) (n : ℕ) (after : Chunk) (new : SourceView) : Type 0 where
  pub bytes : List ℕ
  pub count : length bytes ≡ n
  pub takes : TakesPiece old b before (IsFewer n) bytes after new

-- The window has a whole prefix, of a string of n bytes.
pub record HasPrefix (old : SourceView) (b : Bytestream) (before : Chunk) (n size : ℕ) (after : Chunk) (new : SourceView) : Type 0 where
  pub takes : TakesPiece old b before IsCut [] after new
  pub states : StatesLength after.window n size
