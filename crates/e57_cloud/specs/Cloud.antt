-- The records of a cloud (ASTM E2807, compressed vector nodes and sections), and its first fault.
use Rattle.std.specs.Prelude.{ℕ, zero, suc, ◌+◌, ◌-◌, ◌/◌, ◌==◌, if◌then◌else◌, List, [], ◌∷◌, length, map, pos, Option, Some, None, flat_map, ◌≡◌, ◌<◌}
use Rattle.std.specs.Option.{option_or}
use Rattle.e57_base.specs.declared.fault.Fault.{Fault}
use Rattle.e57_base.specs.declared.kind.Kind.TheVariants.{StreamShort, ValueRange, StringLimit}
use Rattle.e57_base.specs.Fault.{fault}
use Rattle.e57_layout.specs.Values.{ItemKind, integers, words, strings, Value, whole, Outcome, here, short, over_limit, out_of_range}
use Rattle.e57_layout.specs.Items.{item_at}
use Rattle.e57_layout.specs.declared.section.Section.{Section}
use Rattle.e57_layout.specs.declared.field.Fixed.{Fixed}
use Rattle.e57_cloud.specs.Section.{section_fault, section_at}
use Rattle.e57_cloud.specs.Walk.{walk_from}
use Rattle.e57_cloud.specs.Index.{index_fault}
use Rattle.e57_cloud.specs.Chunks.{Chunk, stream_of, chunks, chunks_fault}

-- a field of a cloud: the number of its node, and what its items are
pub record Leaf : Type 0 where
  pub node : ℕ
  pub kind : ItemKind

-- a cloud as the element tree states it: the number of its node, the physical offset of its section, how many records it
-- has, and its fields
pub record Cloud : Type 0 where
  pub node : ℕ
  pub offset : ℕ
  pub count : ℕ
  pub leaves : List Leaf

-- the first Float field from field f on: one whose items are words of 4 or 8 bytes
unfoldable pub float_from : ℕ → List Leaf → Option Fixed
float_from f [] = None
float_from f (leaf ∷ leaves) = by_kind f leaf.kind (float_from (f + 1) leaves) where
  by_kind : ℕ → ItemKind → Option Fixed → Option Fixed
  by_kind f (integers low high) later = later
  by_kind f (words w) later = Some (record { field = f; bytes = w / 8 })
  by_kind f strings later = later

-- the first Float field of a cloud
abbrev pub fixed_of : Cloud → Option Fixed
fixed_of c = float_from 0 c.leaves

abbrev pub section_of : List ℕ → Cloud → Section
section_of file c = section_at file c.node c.offset c.count (length c.leaves)

-- ---- items

-- the fault of an item that is looked for in a chunk with this first record
abbrev pub outcome_fault : ℕ → ℕ → Outcome → Option Fault
outcome_fault node first (here v) = None
outcome_fault node first (short k) = Some (fault StreamShort (first + k) node)
outcome_fault node first (over_limit k) = Some (fault StringLimit (first + k) node)
outcome_fault node first (out_of_range k) = Some (fault ValueRange (first + k) node)

-- the item that was found; where there is a fault, this says nothing
abbrev pub outcome_value : Outcome → Value
outcome_value (here v) = v
outcome_value (short k) = whole (pos 0)
outcome_value (over_limit k) = whole (pos 0)
outcome_value (out_of_range k) = whole (pos 0)

-- the first fault of the n items from item k on
unfoldable pub items_fault : (ℕ → Outcome) → ℕ → ℕ → ℕ → ℕ → Option Fault
items_fault look node first k zero = None
items_fault look node first k (suc n) = option_or (outcome_fault node first (look k)) (items_fault look node first (k + 1) n)

-- the n items from item k on
unfoldable pub items_from : (ℕ → Outcome) → ℕ → ℕ → List Value
items_from look k zero = []
items_from look k (suc n) = outcome_value (look k) ∷ items_from look (k + 1) n

-- ---- fields over the chunks in order

-- item k of field f in a chunk
abbrev pub chunk_item : ℕ → ItemKind → Chunk → ℕ → Outcome
chunk_item f kind chunk k = item_at kind (stream_of f chunk.packets) k

unfoldable pub field_fault : ℕ → Leaf → List Chunk → Option Fault
field_fault f leaf [] = None
field_fault f leaf (chunk ∷ chunks) = option_or (items_fault (chunk_item f leaf.kind chunk) leaf.node chunk.first 0 (chunk.until - chunk.first)) (field_fault f leaf chunks)

unfoldable pub column_of : ℕ → ItemKind → List Chunk → List Value
column_of f kind chunks = flat_map (λ (chunk : Chunk). items_from (chunk_item f kind chunk) 0 (chunk.until - chunk.first)) chunks

-- the first fault of the fields in order, the first of them being field f
unfoldable pub fields_fault : ℕ → List Leaf → List Chunk → Option Fault
fields_fault f [] chunks = None
fields_fault f (leaf ∷ leaves) chunks = option_or (field_fault f leaf chunks) (fields_fault (f + 1) leaves chunks)

unfoldable pub columns_of : ℕ → List Leaf → List Chunk → List (List Value)
columns_of f [] chunks = []
columns_of f (leaf ∷ leaves) chunks = column_of f leaf.kind chunks ∷ columns_of (f + 1) leaves chunks

-- ---- a cloud

-- The first fault of a section whose header has none, with a first Float field and fields: of the index, where it has one,
-- the packets, the chunks, the items.
unfoldable pub body_fault : List ℕ → Section → Option Fixed → List Leaf → Option Fault
body_fault file s fixed leaves =
    option_or (if s.index == 0 then None else index_fault file s)
    (option_or (walk_from file s s.data_place).fault
    (option_or (chunks_fault file s fixed) (fields_fault 0 leaves (chunks file s fixed))))

-- The first fault of a cloud. Of a cloud without records nothing is read.
unfoldable pub cloud_fault : List ℕ → Cloud → Option Fault
cloud_fault file c = if c.count == 0 then None else option_or (section_fault file c.node c.offset) (body_fault file (section_of file c) (fixed_of c) c.leaves)

-- The records of a cloud without fault, as a column of items for each field.
unfoldable pub records_of : List ℕ → Cloud → List (List Value)
records_of file c = if c.count == 0 then map (λ (leaf : Leaf). []) c.leaves else columns_of 0 c.leaves (chunks file (section_of file c) (fixed_of c))

-- the kinds of fields
abbrev pub kinds_of : List Leaf → List ItemKind
kinds_of leaves = map (λ (leaf : Leaf). leaf.kind) leaves

-- the index, the packets and the chunks of a section have no fault
pub record IsBodySound (file : List ℕ) (s : Section) (fixed : Option Fixed) : Type 0 where
  pub some : 0 < s.count
  pub index : (if s.index == 0 then None else index_fault file s) ≡ None
  pub packets : (walk_from file s s.data_place).fault ≡ None
  pub chunks_ok : chunks_fault file s fixed ≡ None
