-- Spans with the first fault of their items, and the span of one record.
use Rattle.std.specs.Prelude.{◌≡◌, ℕ, zero, suc, ◌+◌, ◌-◌, ◌<◌, ◌≤◌, ◌==◌, if◌then◌else◌, List, [], ◌∷◌, map, slice_get, Option, Some, None, Result, IfOk}
use Rattle.std.specs.Option.{option_or}
use Rattle.e57_base.specs.declared.fault.Fault.{Fault}
use Rattle.e57_layout.specs.declared.section.Section.{Section}
use Rattle.e57_layout.specs.declared.packet.Entry.{Entry}
use Rattle.e57_cloud.specs.Section.{section_fault}
use Rattle.e57_cloud.specs.Index.{entries_of, index_packet_fault, root_fault, root_level, root_entry}
use Rattle.e57_cloud.specs.Cloud.{Leaf, Cloud, fixed_of, section_of}
use Rattle.e57_cloud.specs.PathItem.{ChunkAt, pick, path_item, refusal, first_refusal}
use Rattle.e57_spans.specs.Spans.{Span, span, or_lost, section_spans}

-- ---- the span of a record by the index

abbrev pub or_lost_span : ℕ → ℕ → Option Fault → Span → Span
or_lost_span first until None x = x
or_lost_span first until (Some found) x = span first until (Some found)

-- An index packet without fault has an entry, so the first case doesn't come.
abbrev pub picked_span : (Entry → ℕ → Span) → ℕ → ℕ → List Entry → Span
picked_span f i bound [] = span bound bound None
picked_span f i bound (e ∷ es) = f (pick i bound e es).0 (pick i bound e es).1

-- of what an entry of this height leads to
unfoldable pub judged_below : List ℕ → Section → ℕ → ℕ → Entry → ℕ → Span
judged_below file s i zero e bound = span e.first bound None
judged_below file s i (suc level) e bound = or_lost_span e.first bound (index_packet_fault file s level e bound) (picked_span (judged_below file s i level) i bound (entries_of file e.place))

-- The span of record i: the index packets on its path are judged, and not what the entry of height 0 names.
unfoldable pub judged : List ℕ → Section → ℕ → Span
judged file s i = or_lost_span 0 s.count (root_fault file s) (judged_below file s i (suc (root_level file s)) (root_entry s) s.count)

-- The way to each record of the span is one: to the chunk of just these records, or to one fault.
pub record HasOneWay (x : Span) (way : ℕ → Result ChunkAt Fault) : Type 0 where
  pub leads_to : Result ChunkAt Fault
  pub same : (i : ℕ) → x.first ≤ i → i < x.until → way i ≡ leads_to
  pub ends : IfOk leads_to (λ chunk. (chunk.first ≡ x.first) × (chunk.until ≡ x.until))

-- ---- the items of a span

-- The first fault of the n records from record i on: field by field in order, the first of them being field f, and of each field record
-- by record.
unfoldable pub fields_refusal : List ℕ → Cloud → ℕ → List Leaf → ℕ → ℕ → Option Fault
fields_refusal file c f [] i n = None
fields_refusal file c f (leaf ∷ leaves) i n = option_or (first_refusal (path_item file c f leaf) i n) (fields_refusal file c (f + 1) leaves i n)

-- Each field of record i is found, with no fault on the way to it.
abbrev pub IsSoundRecord : List ℕ → Cloud → ℕ → Type 0
IsSoundRecord file c i = (f : ℕ) (leaf : Leaf) → slice_get c.leaves f ≡ Some leaf → refusal (path_item file c f leaf i) ≡ None

-- the fault for which a span can't be found, or else the first one of its items
unfoldable pub with_items : List ℕ → Cloud → Span → Span
with_items file c x = span x.first x.until (option_or x.fault (fields_refusal file c 0 c.leaves x.first (x.until - x.first)))

-- The spans of a cloud. Of a cloud without records nothing is read.
unfoldable pub spans_of : List ℕ → Cloud → List Span
spans_of file c =
    if c.count == 0 then []
    else map (with_items file c) (or_lost 0 c.count (section_fault file c.node c.offset) (section_spans file (section_of file c) (fixed_of c)))
