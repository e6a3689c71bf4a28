-- The spans of a section: runs of records, each found as one chunk, or lost for a fault that is in the way to it. They cut all records of
-- the section in order (ASTM E2807, index packets and data packets).
use Rattle.std.specs.Prelude.{◌≡◌, ℕ, zero, suc, ◌+◌, ◌-◌, ◌<◌, ◌≤◌, ◌==◌, ◌&&◌, ◌||◌, not, nat_lt, Bool, if◌then◌else◌, List, [], ◌∷◌, ◌++◌, length, Option, Some, None, is_some, is_none, Contains}
use Rattle.std.specs.List.{range_with_len}
use Rattle.std.specs.Option.{option_or}
use Rattle.e57_base.specs.declared.fault.Fault.{Fault}
use Rattle.e57_base.specs.declared.kind.Kind.TheVariants.{RestartUnindexed}
use Rattle.e57_base.specs.Fault.{fault}
use Rattle.e57_page.specs.File.{logical, span_fault}
use Rattle.e57_layout.specs.Packets.{restart_at}
use Rattle.e57_layout.specs.declared.section.Section.{Section}
use Rattle.e57_layout.specs.declared.packet.Entry.{Entry}
use Rattle.e57_layout.specs.declared.field.Fixed.{Fixed}
use Rattle.e57_cloud.specs.Walk.{walk_from}
use Rattle.e57_cloud.specs.Index.{entries_of, next_first, index_packet_fault, root_fault, root_level, root_entry}
use Rattle.e57_cloud.specs.Chunks.{float_items}
use Rattle.e57_cloud.specs.PathItem.{Stretch, stretch}
use Rattle.e57_cloud.specs.Met.{place_after}

-- the records from `first` to before `until`, and the fault for which they are lost
pub record Span : Type 0 where
  pub first : ℕ
  pub until : ℕ
  pub fault : Option Fault

abbrev pub span : ℕ → ℕ → Option Fault → Span
span first until found = record { first = first; until = until; fault = found }

-- the numbers of its records
abbrev pub records_in : Span → List ℕ
records_in x = range_with_len x.first (x.until - x.first)

-- The spans follow one another from record `first` to before `until`, and each has a record.
abbrev pub IsChain : ℕ → ℕ → List Span → Type 0
IsChain first until [] = first ≡ until
IsChain first until (x ∷ xs) = (x.first ≡ first) × (first < x.until) × IsChain x.until until xs

-- This is the span among these that has record i.
pub record IsSpanOf (spans : List Span) (i : ℕ) (x : Span) : Type 0 where
  pub among : Contains spans x
  pub low : x.first ≤ i
  pub high : i < x.until

-- ---- with an index: a span for each entry of height 0, and one for each index packet with a fault

-- these spans, or one in their place where a fault is in the way
abbrev pub or_lost : ℕ → ℕ → Option Fault → List Span → List Span
or_lost first until None spans = spans
or_lost first until (Some found) spans = span first until (Some found) ∷ []

-- the spans of entries, each with its own bound
unfoldable pub each_span : (Entry → ℕ → List Span) → ℕ → List Entry → List Span
each_span f bound [] = []
each_span f bound (e ∷ es) = f e (next_first bound es) ++ each_span f bound es

-- What an entry of this height leads to, depth first. Whether one of height 0 names a data packet isn't told here.
unfoldable pub entry_spans : List ℕ → Section → ℕ → Entry → ℕ → List Span
entry_spans file s zero e bound = span e.first bound None ∷ []
entry_spans file s (suc level) e bound = or_lost e.first bound (index_packet_fault file s level e bound) (each_span (entry_spans file s level) bound (entries_of file e.place))

unfoldable pub index_spans : List ℕ → Section → List Span
index_spans file s = or_lost 0 s.count (root_fault file s) (entry_spans file s (suc (root_level file s)) (root_entry s) s.count)

-- ---- without an index: a span for each walk from a chunk start to the next one

-- a data packet with restart, told by its first four bytes
abbrev pub is_restart : List ℕ → ℕ → Bool
is_restart file q = is_none (span_fault file q 4) && restart_at (logical file) q

-- The packet at place q, whose fault ended the walk, begins the next chunk all the same if it has the restart flag.
abbrev pub start_at_fault : List ℕ → Stretch → ℕ → Option ℕ
start_at_fault file w q = if is_some w.fault && (nat_lt 0 (length w.packets) && is_restart file q) then Some q else None

-- where the chunk after the one at place q starts
unfoldable pub next_start : List ℕ → Section → ℕ → Option ℕ
next_start file s q = option_or (stretch file s q).next (start_at_fault file (stretch file s q) (place_after q (walk_from file s q).packets))

-- The spans from a chunk with this first record on, which was walked so and has so many items of the Float field. A later chunk needs
-- records in the one before it, and some left.
abbrev pub spans_on : Section → ℕ → ℕ → Stretch → Option ℕ → (ℕ → List Span) → List Span
spans_on s first items w None later = span first s.count w.fault ∷ []
spans_on s first items w (Some q) later =
    if items == 0 || not (nat_lt (first + items) s.count) then span first s.count (option_or w.fault (Some (fault RestartUnindexed s.node q))) ∷ []
    else span first (first + items) None ∷ later q

unfoldable pub walk_spans : List ℕ → Section → Option Fixed → ℕ → ℕ → ℕ → List Span
walk_spans file s fixed zero first q = span first s.count None ∷ []
walk_spans file s fixed (suc fuel) first q =
    spans_on s first (float_items fixed (stretch file s q).packets) (stretch file s q) (next_start file s q)
    (λ next. walk_spans file s fixed fuel (first + float_items fixed (stretch file s q).packets) next)

-- The spans from a chunk with this first record and place on. A later chunk starts at least four bytes later, so this fuel is enough.
abbrev pub walk_spans_from : List ℕ → Section → Option Fixed → ℕ → ℕ → List Span
walk_spans_from file s fixed first q = walk_spans file s fixed (s.end - q) first q

-- ---- a section

-- the spans of a section whose header has no fault and whose first Float field is this one
unfoldable pub section_spans : List ℕ → Section → Option Fixed → List Span
section_spans file s fixed = if s.index == 0 then walk_spans_from file s fixed 0 s.data_place else index_spans file s
