-- The pages of one index packet: those of its start, and then those of its entries.
use Rattle.std.specs.Prelude.{◌≡◌, ℕ, ◌+◌, ◌*◌, ◌/◌, true, List, [], ◌∷◌, ◌++◌, Option, Some}
use Rattle.std.proofs.Common.{refl, sym, arith}
use Rattle.e57_base.specs.Source.{SourceView}
use Rattle.e57_base.proofs.Told.{told_map, told_all}
use Rattle.e57_page.specs.Place.{place, span_end}
use Rattle.e57_page.specs.File.{logical}
use Rattle.e57_page.specs.Pages.{AsksUnkept}
use Rattle.e57_layout.specs.IndexPackets.{entry_count_at, level_at}
use Rattle.e57_layout.specs.declared.packet.Entry.{Entry}
use Rattle.e57_layout.specs.declared.section.Section.{Section}
use Rattle.e57_cloud.specs.Index.{known_place}
use Rattle.e57_index.specs.declared.start.Start.{Start}
use Rattle.e57_index.specs.OnePacket.{level_of, level_fits, start_fault}
use Rattle.e57_index.specs.Reading.{IsStartAt, ReadsStart}
use Rattle.e57_index.specs.Spans.{Span, AskedAs, AsksSpans, unless_fault, start_spans, entries_spans, packet_spans}
use Rattle.e57_index.proofs.Judged.{level_is, start_none}
use Rattle.e57_index.proofs.Judging.{known_is}
use Rattle.e57_index.proofs.Spanned.{asked-on, asked-front, asks_spans-one, asks_spans-on, asks_spans-by}

-- its start alone
pub asks_start_spans : (s : Section) (wanted : Option ℕ) (e : Entry) (a b : SourceView) → AsksSpans s 1 (λ file. AskedAs (start_spans s e.place)) a b → AsksSpans s 2 (λ file. AskedAs (packet_spans file s wanted e)) a b
asks_start_spans s wanted e a b asks =
    asks_spans-by s 1 2 (λ file. AskedAs (start_spans s e.place)) (λ file. AskedAs (packet_spans file s wanted e)) a b (omega arith)
    (told_all (λ file. (p : List ℕ) → AskedAs (start_spans s e.place) p → AskedAs (packet_spans file s wanted e) p) a.held
    (λ file p asked. asked-front (start_spans s e.place) (unless_fault (start_fault file s wanted e) (entries_spans file s (level_of file wanted e) e.place)) p asked)) asks

-- the entries of a packet whose start has no fault
sound_spans : (file : List ℕ) (s : Section) (wanted : Option ℕ) (e : Entry) (start : Start) → place e.place ≡ Some start.place → IsStartAt file s e.place start → level_fits wanted start.level ≡ true
    → unless_fault (start_fault file s wanted e) (entries_spans file s (level_of file wanted e) e.place) ≡ record { place = start.place + 16; size = 16 * start.entries } ∷ []
sound_spans file s wanted e start at is fits =
    let known = known_is e.place start.place at in
    let level : level_at (logical file) (known_place e.place) ≡ start.level = rw (sym known) at is.of_level in
    let counts : entry_count_at (logical file) (known_place e.place) ≡ start.entries = rw (sym known) at is.counts in
    let none = start_none file s wanted e start.level is.shape level fits in
    let same = level_is file wanted e start.level level fits in
    let shape = is.shape in
    rw (none, same, shape, counts, known) refl

pub asks_packet_spans : (s : Section) (wanted : Option ℕ) (e : Entry) (start : Start) (kept : List ℕ) (old mid new : SourceView) → ReadsStart old s e.place start mid → level_fits wanted start.level ≡ true → AsksSpans s 1 (λ file. AskedAs (start_spans s e.place)) old mid
    → AsksUnkept kept ((start.place + 16) / 1020) (span_end (start.place + 16) (16 * start.entries)) mid new → AsksSpans s 2 (λ file. AskedAs (packet_spans file s wanted e)) old new
asks_packet_spans s wanted e start kept old mid new read fits first asks =
    let after = read.after in
    let entries : List Span = record { place = start.place + 16; size = 16 * start.entries } ∷ [] in
    asks_spans-on s 1 1 2 (λ file. AskedAs (start_spans s e.place)) (λ file. AskedAs entries) (λ file. AskedAs (packet_spans file s wanted e)) old mid new (omega arith)
    (told_map (λ file. IsStartAt file s e.place start) (λ file. (p q : List ℕ) → AskedAs (start_spans s e.place) p → AskedAs entries q → AskedAs (packet_spans file s wanted e) (p ++ q)) old.held
    (λ file is p q x y. rw (sound_spans file s wanted e start read.at is fits) (asked-on (start_spans s e.place) entries p q x y)) read.is)
    first
    (asks_spans-one s (λ file. AskedAs entries) kept (start.place + 16) (16 * start.entries) mid new (omega (arith, after)) read.within
    (told_all (λ file. (p : List ℕ) → AskedAs entries p → AskedAs entries p) mid.held (λ file p asked. asked)) asks)
