-- The pages that a search asks for, thing by thing: those of the first 16 bytes of each index packet on the path, of its
-- entries, and of the four bytes at the end of it.
use Rattle.std.specs.Prelude.{◌≡◌, ℕ, zero, suc, ◌+◌, ◌*◌, ◌/◌, ◌==◌, ◌≤◌, ◌&&◌, nat_le, nat_lt, Bool, false, if◌then◌else◌, List, [], ◌∷◌, ◌++◌, length, Option, Some, None, IfSome}
use Rattle.std.specs.List.{AllByRecursion}
use Rattle.e57_base.specs.Source.{SourceView}
use Rattle.e57_base.specs.declared.fault.Fault.{Fault}
use Rattle.e57_page.specs.Place.{payload_length, place, span_end, RisesWithin}
use Rattle.e57_page.specs.File.{logical}
use Rattle.e57_page.specs.Pages.{AsksFor}
use Rattle.e57_layout.specs.IndexPackets.{entry_count_at}
use Rattle.e57_layout.specs.declared.packet.Entry.{Entry}
use Rattle.e57_layout.specs.declared.section.Section.{Section}
use Rattle.e57_cloud.specs.Index.{known_place, entries_of, index_shape_fault, root_entry, root_level}
use Rattle.e57_cloud.specs.PathItem.{pick}
use Rattle.e57_index.specs.OnePacket.{level_of, start_fault, wanted_fault}
use Rattle.e57_index.specs.Standing.{HeldPacket, Cursor, StandsIn}
use Rattle.e57_index.specs.Holding.{holds_place}
use Rattle.e57_index.specs.Finding.{held_level}

-- so many logical bytes from a place on
pub record Span : Type 0 where
  pub place : ℕ
  pub size : ℕ

-- These pages are some of those of the spans: span after span, of each in ascending order, each at most once.
abbrev pub AskedAs : List Span → List ℕ → Type 0
AskedAs [] pages = pages ≡ []
AskedAs (span ∷ spans) pages = (here : List ℕ) × (later : List ℕ) × (pages ≡ here ++ later) × RisesWithin (span.place / payload_length) (span_end span.place span.size) here × AskedAs spans later

abbrev pub IsSpanOf : Section → Span → Type 0
IsSpanOf s span = (s.start ≤ span.place) × (span.place + span.size ≤ s.end)

-- Pages of so many spans of the section at most were asked for, and if the file is told, as `met` says of it.
pub record AsksSpans (s : Section) (most : ℕ) (met : List ℕ → List ℕ → Type 0) (old new : SourceView) : Type 0 where
  pub pages : List ℕ
  pub asks : AsksFor old pages new
  pub spans : List Span
  pub few : length spans ≤ most
  pub within : AllByRecursion (IsSpanOf s) spans
  pub asked : AskedAs spans pages
  pub told : IfSome old.held (λ file. met file pages)

-- ---- one thing

-- n bytes from the place on, where they lie between these two
abbrev pub within_spans : ℕ → ℕ → ℕ → Option ℕ → List Span
within_spans low high n None = []
within_spans low high n (Some q) = if nat_le low q && nat_le (q + n) high then record { place = q; size = n } ∷ [] else []

-- what a fault puts out of reach adds nothing
abbrev pub unless_fault : Option Fault → List Span → List Span
unless_fault None spans = spans
unless_fault (Some found) spans = []

-- the first 16 bytes of the index packet at this offset
abbrev pub start_spans : Section → ℕ → List Span
start_spans s offset = within_spans (s.start + 32) s.end 16 (place offset)

-- the entries of the packet of this level
abbrev pub entries_spans : List ℕ → Section → ℕ → ℕ → List Span
entries_spans file s level offset = unless_fault (index_shape_fault file s level offset) (record { place = known_place offset + 16; size = 16 * entry_count_at (logical file) (known_place offset) } ∷ [])

-- an index packet to which an entry leads
abbrev pub packet_spans : List ℕ → Section → Option ℕ → Entry → List Span
packet_spans file s wanted e = start_spans s e.place ++ unless_fault (start_fault file s wanted e) (entries_spans file s (level_of file wanted e) e.place)

-- the four bytes that an entry of height 0 names
abbrev pub target_spans : Section → Entry → List Span
target_spans s e = within_spans s.data_place s.end 4 (place e.place)

abbrev pub AsksStartSpans : Section → ℕ → SourceView → SourceView → Type 0
AsksStartSpans s offset old new = AsksSpans s 1 (λ file. AskedAs (start_spans s offset)) old new

abbrev pub AsksPacketSpans : Section → Option ℕ → Entry → SourceView → SourceView → Type 0
AsksPacketSpans s wanted e old new = AsksSpans s 2 (λ file. AskedAs (packet_spans file s wanted e)) old new

abbrev pub AsksTargetSpans : Section → Entry → SourceView → SourceView → Type 0
AsksTargetSpans s e old new = AsksSpans s 1 (λ file. AskedAs (target_spans s e)) old new

-- ---- the path

abbrev pub of_picked : (Entry → ℕ → List Span) → ℕ → ℕ → List Entry → List Span
of_picked f i bound [] = []
of_picked f i bound (e ∷ es) = f (pick i bound e es).0 (pick i bound e es).1

-- what the path of record i has below an index packet of this level, with these entries
unfoldable pub below_spans : List ℕ → Section → ℕ → ℕ → ℕ → List Entry → List Span
below_spans file s i zero bound es = of_picked (λ e until. target_spans s e) i bound es
below_spans file s i (suc level) bound es =
    of_picked (λ e until. packet_spans file s (Some level) e ++ unless_fault (wanted_fault file s (Some level) e until) (below_spans file s i level until (entries_of file e.place))) i bound es

-- what it has below the root
unfoldable pub beyond_root : List ℕ → Section → ℕ → List Span
beyond_root file s i = unless_fault (wanted_fault file s None (root_entry s) s.count) (below_spans file s i (root_level file s) s.count (entries_of file s.index))

-- the path of record i from the root on
unfoldable pub path_spans : List ℕ → Section → ℕ → List Span
path_spans file s i = packet_spans file s None (root_entry s) ++ beyond_root file s i

-- ---- from what is held on

abbrev pub is_leaf_of : HeldPacket → ℕ → Bool
is_leaf_of h i = h.level == 0 && (nat_le h.first i && nat_lt i h.bound)

-- a packet of level 0 that has record i is held
abbrev pub holds_leaf : Option HeldPacket → ℕ → Bool
holds_leaf None i = false
holds_leaf (Some h) i = is_leaf_of h i

-- The path of record i from the packet that is held on, if that is the one of level 0 that has the record, or the root.
unfoldable pub spans_from : List ℕ → Section → ℕ → Option HeldPacket → List Span
spans_from file s i None = path_spans file s i
spans_from file s i (Some h) =
    if is_leaf_of h i then below_spans file s i 0 h.bound h.entries
    else if h.place == s.index then beyond_root file s i else path_spans file s i

-- the four bytes alone, or two spans of each of six packets besides
abbrev pub most_spans : Option HeldPacket → ℕ → ℕ
most_spans held i = if holds_leaf held i then 1 else 13

-- where the cursor stands in the file, the pages are of the path of record i from what it holds on
abbrev pub OnSpans : Cursor → ℕ → List ℕ → List ℕ → Type 0
OnSpans c i file pages = StandsIn file c → AskedAs (spans_from file c.section i c.held) pages

-- Pages of each thing on the path of record i were asked for, thing after thing, of each at most once. A packet that is
-- held isn't one of them.
abbrev pub AsksPath : Cursor → ℕ → SourceView → SourceView → Type 0
AsksPath c i old new = AsksSpans c.section (most_spans c.held i) (OnSpans c i) old new

-- ---- steps

-- what is left to ask for below the packet that is held
abbrev pub left_spans : List ℕ → Section → ℕ → Option HeldPacket → List Span
left_spans file s i None = []
left_spans file s i (Some h) = below_spans file s i h.level h.bound h.entries

-- the packet to which an entry leads, unless it is held
abbrev pub load_spans : List ℕ → Cursor → Option ℕ → Entry → List Span
load_spans file c wanted e = if holds_place c.held e.place then [] else packet_spans file c.section wanted e

abbrev pub AsksLoad : Cursor → Option ℕ → Entry → SourceView → SourceView → Type 0
AsksLoad c wanted e old new = AsksSpans c.section 2 (λ file. AskedAs (load_spans file c wanted e)) old new

-- two spans of each packet, where the leaf isn't held
abbrev pub packets_spans : Option HeldPacket → ℕ → ℕ
packets_spans held i = if holds_leaf held i then 0 else 12

-- what was asked for, and then what is left below the packet that is held now, are of the path
abbrev pub LeavesSpans : Cursor → Cursor → ℕ → List ℕ → List ℕ → Type 0
LeavesSpans before after i file pages = StandsIn file before → (rest : List ℕ) → AskedAs (left_spans file before.section i after.held) rest → AskedAs (spans_from file before.section i before.held) (pages ++ rest)

-- Some steps down the path of record i. There are two spans for each level that is left.
pub record DescendsSpans (before : Cursor) (i : ℕ) (old new : SourceView) (after : Cursor) : Type 0 where
  pub most : ℕ
  pub few : most + 2 * held_level after.held ≤ packets_spans before.held i
  pub source : AsksSpans before.section most (LeavesSpans before after i) old new

-- some steps, of which the last one was refused
abbrev pub StopsSpans : Cursor → ℕ → SourceView → SourceView → Type 0
StopsSpans before i old new = AsksSpans before.section (packets_spans before.held i) (OnSpans before i) old new

-- of what is left below the packet that is held, what is left after one step
abbrev pub LeavesBelow : Cursor → Cursor → ℕ → List ℕ → List ℕ → Type 0
LeavesBelow before after i file pages = StandsIn file before → (rest : List ℕ) → AskedAs (left_spans file before.section i after.held) rest → AskedAs (left_spans file before.section i before.held) (pages ++ rest)

abbrev pub StepsSpans : Cursor → ℕ → SourceView → SourceView → Cursor → Type 0
StepsSpans before i old new after = AsksSpans before.section 2 (LeavesBelow before after i) old new

abbrev pub IsBelow : Cursor → ℕ → List ℕ → List ℕ → Type 0
IsBelow before i file pages = StandsIn file before → AskedAs (left_spans file before.section i before.held) pages

abbrev pub AsksBelow : ℕ → Cursor → ℕ → SourceView → SourceView → Type 0
AsksBelow most before i old new = AsksSpans before.section most (IsBelow before i) old new
