-- What taking a packet of a chunk does.
use Rattle.std.specs.Prelude.{◌≡◌, ℕ, ◌+◌, ◌≤◌, ◌==◌, ◌&&◌, ◌||◌, Bool, true, false, if◌then◌else◌, List, ◌++◌, is_none, Err, IfSome}
use Rattle.e57_base.specs.Count.{Rose}
use Rattle.e57_base.specs.Fault.{fault}
use Rattle.e57_base.specs.Source.{SourceView}
use Rattle.e57_base.specs.declared.fault.Fault.{Fault}
use Rattle.e57_base.specs.declared.fault.ReadFault.{ReadFault}
use Rattle.e57_base.specs.declared.fault.ReadFault.TheVariants.{Refused, Source}
use Rattle.e57_base.specs.declared.kind.Kind.{Kind}
use Rattle.e57_base.specs.declared.kind.Kind.TheVariants.{StreamShort, RestartUnindexed}
use Rattle.e57_cloud.specs.Chunks.{stream_of}
use Rattle.e57_cloud.specs.Met.{InSpan, needed_at}
use Rattle.e57_cloud.specs.PathItem.{stretch, ended_by, or_short}
use Rattle.e57_section.specs.Steps.{is_packet_kind}
use Rattle.e57_stream.specs.declared.bytestream.Bytestream.{Bytestream}
use Rattle.e57_stream.specs.declared.chunk.Chunk.{Chunk}
use Rattle.e57_stream.specs.Asking.{AsksMet, AsksNear}
use Rattle.e57_stream.specs.Standing.{Reaches}

-- the fault of a stream that ends before the item of record `at`
abbrev pub short_at : Bytestream → ℕ → Fault
short_at b at = fault StreamShort at b.node

-- the same where a packet of another chunk comes before it, which is the fault itself if nothing tells of chunks
abbrev pub restart_at_place : Bytestream → ℕ → ℕ → Fault
restart_at_place b at place = if b.section.index == 0 && is_none b.fixed then fault RestartUnindexed b.section.node place else short_at b at

-- a kind of fault of a stream that is too short
abbrev pub is_short_kind : Kind → Bool
is_short_kind StreamShort = true
is_short_kind RestartUnindexed = true
is_short_kind _ = false

-- a kind of fault that ends a walk, or of a stream that is too short
abbrev pub is_walk_kind : Kind → Bool
is_walk_kind kind = is_packet_kind kind || is_short_kind kind

-- chunk, record and place in the window are the same
pub record SamePlace (before after : Chunk) : Type 0 where
  pub start : after.start ≡ before.start
  pub until : after.until ≡ before.until
  pub entry : after.entry ≡ before.entry
  pub at : after.at ≡ before.at
  pub bit : after.bit ≡ before.bit

-- a page of the packet behind those that were taken, if one follows
abbrev pub InNext : Bytestream → Chunk → List ℕ → ℕ → Type 0
InNext b chunk file p = (chunk.taken + 4 ≤ b.section.end) × InSpan chunk.taken (needed_at file b.section chunk.taken) p

-- A packet was taken. Each front that was reached before is reached after.
pub record TakesPacket (old : SourceView) (b : Bytestream) (before after : Chunk) (new : SourceView) : Type 0 where
  pub there : before.taken + 4 ≤ after.taken
  pub within : after.taken ≤ b.section.end
  pub same : SamePlace before after
  pub near : AsksNear before.taken after.taken old new
  pub met : AsksMet (InNext b before) old new
  pub reaches : IfSome old.held (λ file. (front : List ℕ) → Reaches file b before front → Reaches file b after front)

-- The chunk has no more packets: these are all bytes of its stream, and this is what is answered for an item of record `at`
-- for which they don't serve.
pub record Finishes (file : List ℕ) (b : Bytestream) (entry at : ℕ) (bytes : List ℕ) (found : Fault) : Type 0 where
  pub stream : stream_of b.field (stretch file b.section entry).packets ≡ bytes
  pub cause : or_short (ended_by b.section b.fixed (stretch file b.section entry)) (short_at b at) ≡ Err found

abbrev pub IsFinishCause : SourceView → Bytestream → Chunk → ReadFault → SourceView → Type 0
IsFinishCause old b chunk (Refused found) new =
    (is_walk_kind found.kind ≡ true) × IfSome old.held (λ file. (front : List ℕ) → Reaches file b chunk front → Finishes file b chunk.entry chunk.at (front ++ chunk.window) found)
IsFinishCause old b chunk Source new = Rose old.faults new.faults

-- No packet was taken, since the chunk has no more, or the source failed. The state is as it was. Pages were asked for from
-- the place before on, up to the section's end at most.
pub record TakesNone (old : SourceView) (b : Bytestream) (before : Chunk) (found : ReadFault) (after : Chunk) (new : SourceView) : Type 0 where
  pub same : after ≡ before
  pub near : AsksNear before.taken b.section.end old new
  pub met : AsksMet (InNext b before) old new
  pub cause : IsFinishCause old b before found new
