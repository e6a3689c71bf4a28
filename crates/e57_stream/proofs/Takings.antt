-- What taking a packet does, by what loading it answered.
use Rattle.std.specs.Prelude.{◌≡◌, ℕ, ◌+◌, ◌<◌, ◌≤◌, ◌==◌, ◌&&◌, ◌⊎◌, Bool, true, false, if◌then◌else◌, List, [], ◌++◌, get_or, Option, Some, None, is_none, IfSome}
use Rattle.std.proofs.Common.{refl, sym, ap, ◌∙◌, arith, inl, inr, append_assoc}
use Rattle.e57_base.specs.Fault.{fault}
use Rattle.e57_base.specs.Source.{SourceView}
use Rattle.e57_base.proofs.Told.{told_map, told_both, told_all}
use Rattle.e57_base.specs.declared.fault.ReadFault.{ReadFault}
use Rattle.e57_base.specs.declared.fault.ReadFault.TheVariants.{Refused, Source}
use Rattle.e57_base.specs.declared.kind.Kind.{Kind}
use Rattle.e57_base.specs.declared.kind.Kind.TheVariants.{RestartUnindexed}
use Rattle.e57_page.specs.File.{logical}
use Rattle.e57_layout.specs.declared.section.Section.{Section}
use Rattle.e57_layout.specs.Packets.{length_at}
use Rattle.e57_cloud.specs.Walk.{Packet, packet_at, packet_fault}
use Rattle.e57_cloud.specs.Met.{InSpan, needed_at}
use Rattle.e57_section.specs.declared.load.Loaded.{Loaded}
use Rattle.e57_section.specs.declared.load.Loaded.TheVariants.{Stream, Index, Empty}
use Rattle.e57_section.specs.Steps.{is_packet_kind}
use Rattle.e57_section.specs.Loading.{loaded_length, needed_by, IsLoaded, loaded_as, LoadsPacket, IsPacketCause, LosesPacket}
use Rattle.e57_section.proofs.AskingLaws.{needed_loaded, loaded_packet}
use Rattle.e57_stream.specs.declared.bytestream.Bytestream.{Bytestream}
use Rattle.e57_stream.specs.declared.chunk.Chunk.{Chunk}
use Rattle.e57_stream.specs.Asking.{AsksMet, AsksNear}
use Rattle.e57_stream.proofs.AskingLaws.{asks_met_none, asks_met_map, asks_near_nothing, asks_near_wider, packet_near, packet_met}
use Rattle.e57_stream.specs.Standing.{HasTaken, Reaches}
use Rattle.e57_stream.proofs.StandingLaws.{taken_data, taken_other, finish_end, finish_fault, finish_next}
use Rattle.e57_stream.specs.Taking.{short_at, restart_at_place, is_walk_kind, SamePlace, InNext, TakesPacket, Finishes, IsFinishCause, TakesNone}
use Rattle.e57_section.proofs.Lengths.{needed-most}

same_taken : (file : List ℕ) (b : Bytestream) (entry q q' : ℕ) (fresh : Bool) (xs ys : List ℕ) → q ≡ q' → xs ≡ ys → HasTaken file b entry q fresh xs → HasTaken file b entry q' fresh ys
same_taken file b entry q q' fresh xs ys e g has = rw (← e, ← g) has

-- the pages of a packet that was loaded
near_loaded : (old new : SourceView) (kept now : List ℕ) (s : Section) (q : ℕ) (answer : Loaded) (held : Option (List (List ℕ))) → LoadsPacket old kept s q answer held new now → AsksNear q (q + loaded_length answer) old new
near_loaded old new kept now s q answer held loads =
    let less = needed-most answer loads.some in
    packet_near kept q (needed_by answer) (loaded_length answer) old new less.0 less.1 loads.source

-- a page of the packet, which follows
next_met : (old new : SourceView) (b : Bytestream) (chunk : Chunk) → chunk.taken + 4 ≤ b.section.end → AsksMet (λ file p. InSpan chunk.taken (needed_at file b.section chunk.taken) p) old new → AsksMet (InNext b chunk) old new
next_met old new b chunk there met =
    asks_met_map (λ file p. InSpan chunk.taken (needed_at file b.section chunk.taken) p) (InNext b chunk) old new
    (told_all (λ file. (p : ℕ) → InSpan chunk.taken (needed_at file b.section chunk.taken) p → InNext b chunk file p) old.held (λ file p within. (there, within))) met

met_loaded : (old new : SourceView) (kept now : List ℕ) (b : Bytestream) (chunk : Chunk) (answer : Loaded) (held : Option (List (List ℕ))) → LoadsPacket old kept b.section chunk.taken answer held new now → AsksMet (InNext b chunk) old new
met_loaded old new kept now b chunk answer held loads =
    let less = needed-most answer loads.some in
    let some = loads.some in
    let within = loads.within in
    next_met old new b chunk (omega (arith, some, within)) (packet_met kept chunk.taken (needed_by answer) (λ file. needed_at file b.section chunk.taken) old new less.0
    (told_both (λ file. packet_fault file b.section chunk.taken ≡ None) (λ file. IsLoaded (logical file) chunk.taken answer held) (λ file. needed_by answer ≤ needed_at file b.section chunk.taken) old.held
    (λ file sound is. let e = needed_loaded file b.section chunk.taken answer held sound is in omega (arith, e)) loads.sound loads.read)
    loads.source)

-- a data packet of the chunk
reached_data : (file : List ℕ) (b : Bytestream) (before : Chunk) (n : ℕ) (restart : Bool) (held : Option (List (List ℕ))) (bytes front : List ℕ) → before.taken + 4 ≤ b.section.end → packet_fault file b.section before.taken ≡ None
    → IsLoaded (logical file) before.taken (Stream n restart) held → (before.fresh ≡ true) ⊎ (restart ≡ false) → IfSome held (λ streams. bytes ≡ get_or streams b.field [])
    → Reaches file b before front → HasTaken file b before.entry (before.taken + n) false (front ++ (before.window ++ bytes))
reached_data file b before n restart None bytes front there sound is same read reaches = let none = is.3 in absurd cc
reached_data file b before n restart (Some streams) bytes front there sound is same read reaches =
    let packet = loaded_packet (logical file) before.taken (Stream n restart) (Some streams) is in
    let has = taken_data file b before.entry before.taken before.fresh (front ++ before.window) reaches there sound (ap (λ (p : Packet). p.is_data) packet) (one (ap (λ (p : Packet). p.restart) packet) same) in
    same_taken file b before.entry (before.taken + length_at (logical file) before.taken) (before.taken + n) false ((front ++ before.window) ++ get_or (packet_at (logical file) before.taken).streams b.field []) (front ++ (before.window ++ bytes))
    (ap (λ (m : ℕ). before.taken + m) (sym is.1))
    (ap (λ (p : Packet). (front ++ before.window) ++ get_or p.streams b.field []) packet ∙ ap (λ (xs : List ℕ). (front ++ before.window) ++ xs) (sym read) ∙ append_assoc front before.window bytes)
    has
  where
    one : (packet_at (logical file) before.taken).restart ≡ restart → (before.fresh ≡ true) ⊎ (restart ≡ false) → (before.fresh ≡ true) ⊎ ((packet_at (logical file) before.taken).restart ≡ false)
    one e (inl first) = inl first
    one e (inr on) = inr (e ∙ on)

-- a packet of another kind
reached_other : (file : List ℕ) (b : Bytestream) (before : Chunk) (answer : Loaded) (held : Option (List (List ℕ))) (n : ℕ) (front : List ℕ) → before.taken + 4 ≤ b.section.end → packet_fault file b.section before.taken ≡ None
    → IsLoaded (logical file) before.taken answer held → (loaded_as before.taken answer held).is_data ≡ false → (loaded_as before.taken answer held).restart ≡ false → n ≡ length_at (logical file) before.taken
    → Reaches file b before front → HasTaken file b before.entry (before.taken + n) before.fresh (front ++ before.window)
reached_other file b before answer held n front there sound is other same size reaches =
    let packet = loaded_packet (logical file) before.taken answer held is in
    let has = taken_other file b before.entry before.taken before.fresh (front ++ before.window) reaches there sound (ap (λ (p : Packet). p.is_data) packet ∙ other) (ap (λ (p : Packet). p.restart) packet ∙ same) in
    same_taken file b before.entry (before.taken + length_at (logical file) before.taken) (before.taken + n) before.fresh (front ++ before.window) (front ++ before.window) (ap (λ (m : ℕ). before.taken + m) (sym size)) refl has

same_place : (before : Chunk) (taken : ℕ) (fresh : Bool) (window : List ℕ) → SamePlace before (record before { taken = taken; fresh = fresh; window = window })
same_place before taken fresh window = record { start = refl; until = refl; entry = refl; at = refl; bit = refl }

pub takes_data : (old new : SourceView) (kept now : List ℕ) (b : Bytestream) (before : Chunk) (n : ℕ) (restart : Bool) (held : Option (List (List ℕ))) (bytes window : List ℕ) → (before.fresh ≡ true) ⊎ (restart ≡ false) → IfSome held (λ streams. bytes ≡ get_or streams b.field [])
    → window ≡ before.window ++ bytes → LoadsPacket old kept b.section before.taken (Stream n restart) held new now → TakesPacket old b before (record before { taken = before.taken + n; fresh = false; window = window }) new
takes_data old new kept now b before n restart held bytes window same read is loads =
    let some = loads.some in
    let within = loads.within in
    record {
      there = omega (arith, some);
      within = within;
      same = same_place before (before.taken + n) false window;
      near = near_loaded old new kept now b.section before.taken (Stream n restart) held loads;
      met = met_loaded old new kept now b before (Stream n restart) held loads;
      reaches = told_both (λ file. packet_fault file b.section before.taken ≡ None) (λ file. IsLoaded (logical file) before.taken (Stream n restart) held) (λ file. (front : List ℕ) → Reaches file b before front → HasTaken file b before.entry (before.taken + n) false (front ++ window)) old.held
          (λ file sound loaded front reaches. rw is (reached_data file b before n restart held bytes front (omega (arith, some, within)) sound loaded same read reaches)) loads.sound loads.read;
    }

takes_other : (old new : SourceView) (kept now : List ℕ) (b : Bytestream) (before : Chunk) (answer : Loaded) (held : Option (List (List ℕ))) → (loaded_as before.taken answer held).is_data ≡ false → (loaded_as before.taken answer held).restart ≡ false
    → ((file : List ℕ) → IsLoaded (logical file) before.taken answer held → loaded_length answer ≡ length_at (logical file) before.taken)
    → LoadsPacket old kept b.section before.taken answer held new now → TakesPacket old b before (record before { taken = before.taken + loaded_length answer }) new
takes_other old new kept now b before answer held other same size loads =
    let some = loads.some in
    let within = loads.within in
    record {
      there = omega (arith, some);
      within = within;
      same = same_place before (before.taken + loaded_length answer) before.fresh before.window;
      near = near_loaded old new kept now b.section before.taken answer held loads;
      met = met_loaded old new kept now b before answer held loads;
      reaches = told_both (λ file. packet_fault file b.section before.taken ≡ None) (λ file. IsLoaded (logical file) before.taken answer held) (λ file. (front : List ℕ) → Reaches file b before front → HasTaken file b before.entry (before.taken + loaded_length answer) before.fresh (front ++ before.window)) old.held
          (λ file sound loaded front reaches. reached_other file b before answer held (loaded_length answer) front (omega (arith, some, within)) sound loaded other same (size file loaded) reaches) loads.sound loads.read;
    }

pub takes_index : (old new : SourceView) (kept now : List ℕ) (b : Bytestream) (before : Chunk) (n : ℕ) (held : Option (List (List ℕ))) → LoadsPacket old kept b.section before.taken (Index n) held new now → TakesPacket old b before (record before { taken = before.taken + n }) new
takes_index old new kept now b before n held loads = takes_other old new kept now b before (Index n) held refl refl (λ file is. is.1) loads

pub takes_empty : (old new : SourceView) (kept now : List ℕ) (b : Bytestream) (before : Chunk) (n : ℕ) (held : Option (List (List ℕ))) → LoadsPacket old kept b.section before.taken (Empty n) held new now → TakesPacket old b before (record before { taken = before.taken + n }) new
takes_empty old new kept now b before n held loads = takes_other old new kept now b before (Empty n) held refl refl (λ file is. is.1) loads

-- ---- no packet

-- fewer than four bytes of the section follow
pub none_end : (old : SourceView) (b : Bytestream) (before : Chunk) (found : ReadFault) → b.section.end < before.taken + 4 → found ≡ Refused (short_at b before.at) → TakesNone old b before found before old
none_end old b before found over is = rw is record {
  same = refl;
  near = asks_near_nothing before.taken b.section.end old;
  met = asks_met_none (InNext b before) old;
  cause = (
    refl,
    told_all (λ file. (front : List ℕ) → Reaches file b before front → Finishes file b before.entry before.at (front ++ before.window) (short_at b before.at)) old.held
        (λ file front reaches. finish_end file b before.entry before.taken before.at before.fresh (front ++ before.window) reaches over),
  );
}

restart_kind : (test : Bool) (b : Bytestream) (at place : ℕ) → is_walk_kind (if test then fault RestartUnindexed b.section.node place else short_at b at).kind ≡ true
restart_kind true b at place = refl
restart_kind false b at place = refl

-- a packet of another chunk follows
pub none_next : (old new : SourceView) (kept now : List ℕ) (b : Bytestream) (before : Chunk) (n : ℕ) (restart : Bool) (held : Option (List (List ℕ))) (found : ReadFault) → before.fresh ≡ false → restart ≡ true → LoadsPacket old kept b.section before.taken (Stream n restart) held new now
    → found ≡ Refused (restart_at_place b before.at before.taken) → TakesNone old b before found before new
none_next old new kept now b before n restart held found later begins loads is =
    let some = loads.some in
    let within = loads.within in
    rw is record {
      same = refl;
      near = asks_near_wider before.taken (before.taken + n) b.section.end old new (omega arith) within (near_loaded old new kept now b.section before.taken (Stream n restart) held loads);
      met = met_loaded old new kept now b before (Stream n restart) held loads;
      cause = (
        restart_kind (b.section.index == 0 && is_none b.fixed) b before.at before.taken,
        told_both (λ file. packet_fault file b.section before.taken ≡ None) (λ file. IsLoaded (logical file) before.taken (Stream n restart) held) (λ file. (front : List ℕ) → Reaches file b before front → Finishes file b before.entry before.at (front ++ before.window) (restart_at_place b before.at before.taken)) old.held
            (λ file sound loaded front reaches. finish_next file b before.entry before.taken before.at (front ++ before.window) (rw later at reaches) (omega (arith, some, within)) sound (sym loaded.2 ∙ begins)) loads.sound loads.read,
      );
    }

walk_kind : (kind : Kind) → is_packet_kind kind ≡ true → is_walk_kind kind ≡ true
walk_kind kind is = rw is

finish_cause : (old : SourceView) (b : Bytestream) (before : Chunk) (found : ReadFault) (new : SourceView) → before.taken + 4 ≤ b.section.end → IsPacketCause old b.section before.taken found new → IsFinishCause old b before found new
finish_cause old b before (Refused found) new there cause = (
  walk_kind found.kind cause.0,
  told_map (λ file. packet_fault file b.section before.taken ≡ Some found) (λ file. (front : List ℕ) → Reaches file b before front → Finishes file b before.entry before.at (front ++ before.window) found) old.held
      (λ file wrong front reaches. finish_fault file b before.entry before.taken before.at before.fresh (front ++ before.window) found reaches there wrong) cause.1,
)
finish_cause old b before Source new there cause = cause

-- the next packet has a fault, or the source failed
pub none_faulty : (old new : SourceView) (kept now : List ℕ) (b : Bytestream) (before : Chunk) (held : Option (List (List ℕ))) (found : ReadFault) → before.taken + 4 ≤ b.section.end → LosesPacket old kept b.section before.taken found held new now → TakesNone old b before found before new
none_faulty old new kept now b before held found there loses = record {
  same = refl;
  near = asks_near_wider before.taken (before.taken + loses.n) b.section.end old new (omega arith) loses.within (packet_near kept before.taken loses.n loses.n old new loses.some (omega arith) loses.source);
  met = next_met old new b before there (packet_met kept before.taken loses.n (λ file. needed_at file b.section before.taken) old new loses.some loses.needed loses.source);
  cause = finish_cause old b before found new there loses.cause;
}
