-- The reading of one index packet, step by step.
use Rattle.std.specs.Prelude.{◌≡◌, ℕ, ◌+◌, ◌*◌, ◌/◌, true, false, List, take, drop, Option, Some, None, IfSome}
use Rattle.std.proofs.Common.{refl, sym, ap, arith, inl, inr}
use Rattle.e57_base.proofs.CountLaws.{rose_before}
use Rattle.e57_base.specs.Fault.{fault}
use Rattle.e57_base.specs.Source.{SourceView}
use Rattle.e57_base.proofs.Told.{told_map, told_both, told_here, told_all}
use Rattle.e57_base.specs.declared.fault.ReadFault.{ReadFault}
use Rattle.e57_base.specs.declared.fault.ReadFault.TheVariants.{Refused, Source}
use Rattle.e57_base.specs.declared.kind.Kind.TheVariants.{IndexShape, IndexOrder}
use Rattle.e57_page.specs.Place.{place, span_end}
use Rattle.e57_page.specs.File.{logical, span_fault}
use Rattle.e57_page.specs.Pages.{AsksUnkept}
use Rattle.e57_layout.specs.IndexPackets.{entry_count_at, entries_at}
use Rattle.e57_layout.specs.declared.packet.Entry.{Entry}
use Rattle.e57_layout.specs.declared.section.Section.{Section}
use Rattle.e57_cloud.specs.Section.{or_zero}
use Rattle.e57_cloud.specs.Index.{known_place, entries_of, begins_and_rises, index_shape_fault}
use Rattle.e57_cloud.specs.Met.{InSpan, InIndexStart}
use Rattle.e57_section.specs.Steps.{IsSpanCause}
use Rattle.e57_index.specs.declared.start.Start.{Start}
use Rattle.e57_index.specs.Asking.{AsksMet}
use Rattle.e57_index.specs.OnePacket.{level_fits, wanted_fault, OnPacket, IsPacketAt}
use Rattle.e57_index.specs.Reading.{AsksStart, IsStartAt, ReadsStart, LosesStart, ReadsIndex, LosesIndex}
use Rattle.e57_index.proofs.Moved.{entries-piece}
use Rattle.e57_index.proofs.Asked.{asks_met-on, asks_met-by, asks_met-span}
use Rattle.e57_index.proofs.Judged.{level_is, start_none, level_fault, early_fault, late_fault, order_fault}

pub known_is : (offset q : ℕ) → place offset ≡ Some q → known_place offset ≡ q
known_is offset q is = ap (λ (at : Option ℕ). or_zero at) is

-- the pages of the start are pages of the packet
pub asks_first : (s : Section) (wanted : Option ℕ) (e : Entry) (a b : SourceView) → AsksStart s e.place a b → AsksMet s (OnPacket s wanted e) a b
asks_first s wanted e a b asks =
    asks_met-by s (λ file p. InIndexStart s e.place p) (OnPacket s wanted e) a b
    (told_all (λ file. (p : ℕ) → InIndexStart s e.place p → OnPacket s wanted e file p) a.held (λ file p is. inl is)) asks

-- the start had a fault
pub lost_start : (old new : SourceView) (s : Section) (wanted : Option ℕ) (e : Entry) (bound : ℕ) (found : ReadFault) → LosesStart old s e.place found new → LosesIndex old s wanted e bound found new
lost_start old new s wanted e bound (Refused found) lost =
    record {
      source = asks_first s wanted e old new lost.source;
      cause = (lost.cause.0, told_map (λ file. (level : ℕ) → index_shape_fault file s level e.place ≡ Some found) (λ file. wanted_fault file s wanted e bound ≡ Some found) old.held (λ file each. early_fault file s wanted e bound found each) lost.cause.1);
    }
lost_start old new s wanted e bound Source lost = record { source = asks_first s wanted e old new lost.source; cause = lost.cause }

-- it has another level
pub lost_level : (old new : SourceView) (s : Section) (wanted : Option ℕ) (e : Entry) (bound : ℕ) (start : Start) → ReadsStart old s e.place start new → level_fits wanted start.level ≡ false → LosesIndex old s wanted e bound (Refused (fault IndexShape s.node e.place)) new
lost_level old new s wanted e bound start read other =
    record {
      source = asks_first s wanted e old new read.source;
      cause = (
        refl,
        told_map (λ file. IsStartAt file s e.place start) (λ file. wanted_fault file s wanted e bound ≡ Some (fault IndexShape s.node e.place)) old.held
            (λ file is. level_fault file s wanted e bound start.level is.shape (rw (known_is e.place start.place read.at) is.of_level) other) read.is,
      );
    }

-- the pages of the entries are pages of the packet
asks_next : (old mid new : SourceView) (kept : List ℕ) (s : Section) (wanted : Option ℕ) (e : Entry) (start : Start) → ReadsStart old s e.place start mid → level_fits wanted start.level ≡ true → AsksUnkept kept ((start.place + 16) / 1020) (span_end (start.place + 16) (16 * start.entries)) mid new → AsksMet s (OnPacket s wanted e) old new
asks_next old mid new kept s wanted e start read fits asks =
    let after = read.after in
    let within = read.within in
    asks_met-on s (OnPacket s wanted e) old mid new (asks_first s wanted e old mid read.source)
    (asks_met-span s (OnPacket s wanted e) kept (start.place + 16) (16 * start.entries) mid new (omega (arith, after)) within
    (told_here (λ file. (p : ℕ) → InSpan (start.place + 16) (16 * start.entries) p → OnPacket s wanted e file p) old.held mid.held read.source.asks.same.held
    (told_map (λ file. IsStartAt file s e.place start) (λ file. (p : ℕ) → InSpan (start.place + 16) (16 * start.entries) p → OnPacket s wanted e file p) old.held
    (λ file is p there.
    let known = known_is e.place start.place read.at in
    let level = rw (sym known) at is.of_level in
    let counts = rw (sym known) at is.counts in
    inr (start_none file s wanted e start.level is.shape level fits, (rw (level_is file wanted e start.level level fits) is.shape, rw (counts, known) there))) read.is)) asks)

-- a page of its entries is wrong, or the source failed
pub lost_entries : (old mid new : SourceView) (kept : List ℕ) (s : Section) (wanted : Option ℕ) (e : Entry) (bound : ℕ) (start : Start) (found : ReadFault) → ReadsStart old s e.place start mid → level_fits wanted start.level ≡ true → AsksUnkept kept ((start.place + 16) / 1020) (span_end (start.place + 16) (16 * start.entries)) mid new
    → IsSpanCause mid (start.place + 16) (16 * start.entries) found new → LosesIndex old s wanted e bound found new
lost_entries old mid new kept s wanted e bound start (Refused found) read fits asks cause =
    record {
      source = asks_next old mid new kept s wanted e start read fits asks;
      cause = (
        rw cause.0 refl,
        told_both (λ file. IsStartAt file s e.place start) (λ file. span_fault file (start.place + 16) (16 * start.entries) ≡ Some found) (λ file. wanted_fault file s wanted e bound ≡ Some found) old.held
            (λ file is wrong.
            let known = known_is e.place start.place read.at in
            let level = rw (sym known) at is.of_level in
            let counts = rw (sym known) at is.counts in
            late_fault file s wanted e bound start.level found is.shape level fits (rw (counts, known) wrong)) read.is
            (told_here (λ file. span_fault file (start.place + 16) (16 * start.entries) ≡ Some found) mid.held old.held (sym read.source.asks.same.held) cause.1),
      );
    }
lost_entries old mid new kept s wanted e bound start Source read fits asks cause =
    record { source = asks_next old mid new kept s wanted e start read fits asks; cause = rose_before old.faults mid.faults new.faults read.source.asks.faults cause }

has_entries : (file : List ℕ) (e : Entry) (start : Start) (bytes : List ℕ) → known_place e.place ≡ start.place → entry_count_at (logical file) (known_place e.place) ≡ start.entries → bytes ≡ take (16 * start.entries) (drop (start.place + 16) (logical file)) → entries_at bytes 0 start.entries ≡ entries_of file e.place
unfolding entries_of
has_entries file e start bytes known counts got =
    rw (counts, known, got) (entries-piece (logical file) (start.place + 16) (16 * start.entries) 0 (start.place + 16) start.entries (omega arith) (omega arith))

-- the packet whose entries were read
packet_is : (old mid : SourceView) (s : Section) (e : Entry) (start : Start) (bytes : List ℕ) → ReadsStart old s e.place start mid → IfSome mid.held (λ file. span_fault file (start.place + 16) (16 * start.entries) ≡ None) → IfSome mid.held (λ file. bytes ≡ take (16 * start.entries) (drop (start.place + 16) (logical file)))
    → IfSome old.held (λ file. IsPacketAt file s e.place start.level (entries_at bytes 0 start.entries))
packet_is old mid s e start bytes read right was =
    let both = told_both (λ file. span_fault file (start.place + 16) (16 * start.entries) ≡ None) (λ file. bytes ≡ take (16 * start.entries) (drop (start.place + 16) (logical file)))
    (λ file. (span_fault file (start.place + 16) (16 * start.entries) ≡ None) × (bytes ≡ take (16 * start.entries) (drop (start.place + 16) (logical file)))) mid.held (λ file a b. (a, b)) right was in
    told_both (λ file. IsStartAt file s e.place start) (λ file. (span_fault file (start.place + 16) (16 * start.entries) ≡ None) × (bytes ≡ take (16 * start.entries) (drop (start.place + 16) (logical file))))
    (λ file. IsPacketAt file s e.place start.level (entries_at bytes 0 start.entries)) old.held
    (λ file is (sound, got).
    let known = known_is e.place start.place read.at in
    let level = rw (sym known) at is.of_level in
    let counts = rw (sym known) at is.counts in
    record {
      shape = is.shape;
      right = rw (counts, known) sound;
      of_level = level;
      has = has_entries file e start bytes known counts got;
    }) read.is
    (told_here (λ file. (span_fault file (start.place + 16) (16 * start.entries) ≡ None) × (bytes ≡ take (16 * start.entries) (drop (start.place + 16) (logical file)))) mid.held old.held (sym read.source.asks.same.held) both)

-- its records aren't in order
pub lost_order : (old mid new : SourceView) (kept : List ℕ) (s : Section) (wanted : Option ℕ) (e : Entry) (bound : ℕ) (start : Start) (bytes : List ℕ) → ReadsStart old s e.place start mid → level_fits wanted start.level ≡ true → AsksUnkept kept ((start.place + 16) / 1020) (span_end (start.place + 16) (16 * start.entries)) mid new
    → IfSome mid.held (λ file. span_fault file (start.place + 16) (16 * start.entries) ≡ None) → IfSome mid.held (λ file. bytes ≡ take (16 * start.entries) (drop (start.place + 16) (logical file)))
    → begins_and_rises e.first bound (entries_at bytes 0 start.entries) ≡ false → LosesIndex old s wanted e bound (Refused (fault IndexOrder s.node e.place)) new
lost_order old mid new kept s wanted e bound start bytes read fits asks right was wrong =
    record {
      source = asks_next old mid new kept s wanted e start read fits asks;
      cause = (
        refl,
        told_map (λ file. IsPacketAt file s e.place start.level (entries_at bytes 0 start.entries)) (λ file. wanted_fault file s wanted e bound ≡ Some (fault IndexOrder s.node e.place)) old.held
            (λ file is. order_fault file s wanted e bound start.level (entries_at bytes 0 start.entries) is fits wrong) (packet_is old mid s e start bytes read right was),
      );
    }

-- it was read
pub read_whole : (old mid new : SourceView) (kept : List ℕ) (s : Section) (wanted : Option ℕ) (e : Entry) (bound : ℕ) (start : Start) (bytes : List ℕ) → ReadsStart old s e.place start mid → level_fits wanted start.level ≡ true → AsksUnkept kept ((start.place + 16) / 1020) (span_end (start.place + 16) (16 * start.entries)) mid new
    → IfSome mid.held (λ file. span_fault file (start.place + 16) (16 * start.entries) ≡ None) → IfSome mid.held (λ file. bytes ≡ take (16 * start.entries) (drop (start.place + 16) (logical file)))
    → begins_and_rises e.first bound (entries_at bytes 0 start.entries) ≡ true → ReadsIndex old s wanted e bound (record { entries = start.entries; level = start.level }) bytes new
read_whole old mid new kept s wanted e bound start bytes read fits asks right was ordered =
    record {
      source = asks_next old mid new kept s wanted e start read fits asks;
      some = read.some;
      few = read.few;
      fits = fits;
      ordered = ordered;
      read = packet_is old mid s e start bytes read right was;
    }
