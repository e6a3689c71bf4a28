-- Items of one field that were read ahead, and that they are of a file.
use Rattle.std.specs.Prelude.{◌≡◌, ℕ, ◌+◌, ◌<◌, ◌≤◌, ◌≤ℤ◌, ◌⊎◌, ◌&&◌, nat_le, nat_lt, pos, Bool, true, List, get_or, length, Option, Some, None, IsSome, IfSome, Ok, Err}
use Rattle.e57_base.specs.declared.fault.Fault.{Fault}
use Rattle.e57_layout.specs.Strings.{string_limit}
use Rattle.e57_layout.specs.Values.{ItemKind, integers, words, strings, Value, whole, word, octets}
use Rattle.e57_texts.specs.Reading.{begin_of, end_of, string_held}
use Rattle.e57_column.specs.declared.state.State.{State}
use Rattle.e57_column.specs.Finding.{is_column_kind}
use Rattle.e57_column.specs.Column.{kind_of, placed, column_item, StandsIn}
use Rattle.e57_column.specs.Reading.{AreWhole}
use Rattle.e57_blocks.specs.declared.block.Item.{Item}
use Rattle.e57_blocks.specs.declared.block.Item.TheVariants as an_item
use Rattle.e57_blocks.specs.declared.buffer.Buffer.{Buffer}
use Rattle.e57_blocks.specs.declared.buffer.Buffer.TheVariants.{Ints, Bits32, Bits64, Texts}

-- ---- the buffer

-- item k
abbrev pub item_in : Buffer → ℕ → Value
item_in (Ints items) k = whole (get_or items.items k (pos 0))
item_in (Bits32 items) k = word (get_or items.items k 0)
item_in (Bits64 items) k = word (get_or items.items k 0)
item_in (Texts texts) k = octets (string_held 0 texts.bytes.items texts.ends.items k)

-- how many items there are places for
abbrev pub places_of : Buffer → ℕ
places_of (Ints items) = length items.items
places_of (Bits32 items) = length items.items
places_of (Bits64 items) = length items.items
places_of (Texts texts) = length texts.ends.items

-- how many bytes of strings there is room for
abbrev pub room_of : Buffer → ℕ
room_of (Ints items) = 0
room_of (Bits32 items) = 0
room_of (Bits64 items) = 0
room_of (Texts texts) = length texts.bytes.items

-- how many bytes of strings a new buffer has room for
abbrev pub first_room : ItemKind → ℕ
first_room (integers low high) = 0
first_room (words w) = 0
first_room strings = 65536

-- it takes items of this kind
abbrev pub IsFor : Buffer → ItemKind → Type 0
IsFor (Ints items) kind = AreWhole kind
IsFor (Bits32 items) kind = kind ≡ words 32
IsFor (Bits64 items) kind = kind ≡ words 64
IsFor (Texts texts) kind = kind ≡ strings

-- each of the first n strings begins where the one before ends, and lies in the bytes
abbrev pub AreCut : ℕ → List ℕ → List ℕ → Type 0
AreCut n bytes ends = (k : ℕ) → k < n → (begin_of 0 ends k ≤ end_of ends k) × (end_of ends k ≤ length bytes)

abbrev pub AreInside : ℕ → Buffer → Type 0
AreInside n (Ints items) = Unit {0}
AreInside n (Bits32 items) = Unit {0}
AreInside n (Bits64 items) = Unit {0}
AreInside n (Texts texts) = AreCut n texts.bytes.items texts.ends.items

-- an integer is within the limits of its field, a string within that of all strings
abbrev pub IsKept : ItemKind → Value → Type 0
IsKept (integers low high) (whole z) = (low ≤ℤ z) × (z ≤ℤ high)
IsKept (integers low high) (word n) = ⊥
IsKept (integers low high) (octets t) = ⊥
IsKept (words w) value = Unit {0}
IsKept strings (whole z) = ⊥
IsKept strings (word n) = ⊥
IsKept strings (octets t) = length t ≤ string_limit

-- the first n items are
abbrev pub AreKept : ItemKind → ℕ → (ℕ → Value) → Type 0
AreKept kind n item = (k : ℕ) → k < n → IsKept kind (item k)

-- ---- the block

-- The column; its items from record `first` on, so many of them; and the fault of the record behind the last one, if it
-- has one.
pub record Block : Type 0 where
  pub column : State
  pub buffer : Buffer
  pub first : ℕ
  pub count : ℕ
  pub fault : Option Fault

-- the item of record `first + k`
abbrev pub held_item : Block → ℕ → Value
held_item b k = item_in b.buffer k

-- the item of record i is held
abbrev pub has_record : Block → ℕ → Bool
has_record b i = nat_le b.first i && nat_lt i (b.first + b.count)

-- an item as a value
abbrev pub item_value : Item → Value
item_value (an_item.Whole z) = whole z
item_value (an_item.Word32 n) = word n
item_value (an_item.Word64 n) = word n
item_value (an_item.Text bytes) = octets bytes.now

-- the column stands behind the last item, unless the next one has a fault, or nothing was read
abbrev pub IsBehind : Option ℕ → ℕ → ℕ → Option Fault → Type 0
IsBehind None first count fault = (count ≡ 0) ⊎ IsSome fault
IsBehind (Some i) first count fault = (fault ≡ None) × (i ≡ first + count)

-- an item is of the field's kind; a word has the field's width
abbrev pub IsOfKind : ItemKind → Item → Type 0
IsOfKind kind (an_item.Whole z) = AreWhole kind
IsOfKind kind (an_item.Word32 n) = kind ≡ words 32
IsOfKind kind (an_item.Word64 n) = kind ≡ words 64
IsOfKind kind (an_item.Text bytes) = kind ≡ strings

abbrev pub IsKnown : Option Fault → Type 0
IsKnown fault = IfSome fault (λ found. is_column_kind found.kind ≡ true)

-- whatever the file
pub record IsBlock (b : Block) : Type 0 where
  pub kind : IsFor b.buffer (kind_of b.column.items)
  pub some : 0 < places_of b.buffer
  pub few : b.count ≤ places_of b.buffer
  pub behind : IsBehind (placed b.column) b.first b.count b.fault
  pub kept : AreKept (kind_of b.column.items) b.count (held_item b)
  pub inside : AreInside b.count b.buffer
  pub known : IsKnown b.fault

-- The block holds items of the file: the column stands in it, each item is the field's of its record, and the fault is that
-- of the record behind.
pub record Holds (file : List ℕ) (b : Block) : Type 0 where
  pub stands : StandsIn file b.column
  pub items : (k : ℕ) → k < b.count → column_item file b.column (b.first + k) ≡ Ok (held_item b k)
  pub fault : IfSome b.fault (λ found. column_item file b.column (b.first + b.count) ≡ Err found)
