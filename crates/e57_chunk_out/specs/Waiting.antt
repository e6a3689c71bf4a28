-- Items of one field that wait for their group, and the field's bytes of the groups that are under way.
use Rattle.std.specs.Prelude.{FitsSigned, ◌≡◌, ◌⊎◌, ℕ, ◌+◌, ◌-◌, ◌≤◌, List, [], ◌++◌, length, map, take, drop}
use Rattle.std.specs.Int.{w64}
use Rattle.e57_layout.specs.Values.{ItemKind, integers, words, strings, Value, whole, word, IsKind}
use Rattle.e57_layout.specs.Widths.{width}
use Rattle.e57_layout.specs.Items.{AreItems, field_bytes}
use Rattle.e57_chunk_out.specs.Texts.{strings_at, AreEnds}
use Rattle.e57_chunk_out.specs.declared.pending.Pending.{Pending}
use Rattle.e57_chunk_out.specs.declared.pending.Pending.TheVariants.{Ints, Bits32, Bits64, Texts}

-- ---- items as they are kept

abbrev pub kind_in : Pending → ItemKind
kind_in (Ints min max w items) = integers min max
kind_in (Bits32 items) = words 32
kind_in (Bits64 items) = words 64
kind_in (Texts bytes ends) = strings

-- the first n items
abbrev pub items_in : Pending → ℕ → List Value
items_in (Ints min max w items) n = map whole (take n items.items)
items_in (Bits32 items) n = map word (take n items.items)
items_in (Bits64 items) n = map word (take n items.items)
items_in (Texts bytes ends) n = strings_at bytes.items 0 (take n ends.items)

-- how many places there are
abbrev pub places_in : Pending → ℕ
places_in (Ints min max w items) = length items.items
places_in (Bits32 items) = length items.items
places_in (Bits64 items) = length items.items
places_in (Texts bytes ends) = length ends.items

-- the limits have 64 bits, the width is theirs, and strings lie in the bytes
abbrev pub IsInOrder : Pending → ℕ → Type 0
IsInOrder (Ints min max w items) n = (w ≡ width min max) × FitsSigned w64 min
IsInOrder (Bits32 items) n = Unit {0}
IsInOrder (Bits64 items) n = Unit {0}
IsInOrder (Texts bytes ends) n = AreEnds (length bytes.items) 0 (take n ends.items)

-- how many items wait at most: seven of the blocks before, and 1024 of a block
abbrev pub most_waiting : ℕ
most_waiting = 1031

pub record IsPending (pending : Pending) (n : ℕ) : Type 0 where
  pub places : places_in pending ≡ most_waiting
  pub few : n ≤ most_waiting
  pub kind : IsKind (kind_in pending)
  pub items : AreItems (kind_in pending) (items_in pending n)
  pub order : IsInOrder pending n

-- behind the first n items these were put
pub record IsPushed (before : Pending) (n : ℕ) (more : List Value) (after : Pending) : Type 0 where
  pub kind : kind_in after ≡ kind_in before
  pub items : items_in after (n + length more) ≡ items_in before n ++ more
  pub pending : IsPending after (n + length more)

-- of `until` items the first n were let go
pub record IsLetGo (before : Pending) (n until : ℕ) (after : Pending) : Type 0 where
  pub kind : kind_in after ≡ kind_in before
  pub items : items_in after (until - n) ≡ drop n (items_in before until)
  pub pending : IsPending after (until - n)

-- ---- the field

-- what a field has: its kind; the items that wait; its bytes of the groups under way, and how many there is room for
pub record Waiting : Type 0 where
  pub kind : ItemKind
  pub items : List Value
  pub stream : List ℕ
  pub room : ℕ

-- n items, from `from` on
abbrev pub part : ℕ → ℕ → List Value → List Value
part from n items = take n (drop from items)

-- there is room for so many bytes more, or they are a string's, for which memory is taken
abbrev pub HasRoom : Waiting → ℕ → Type 0
HasRoom w n = (w.kind ≡ strings) ⊎ (length w.stream + n ≤ w.room)

-- after n items, from `from` on, were written behind the stream
abbrev pub taken : ℕ → ℕ → Waiting → Waiting
taken from n w = record w { stream = w.stream ++ field_bytes w.kind (part from n w.items) }

-- with no stream
abbrev pub cleared : Waiting → Waiting
cleared w = record w { stream = [] }

-- without the first n items
abbrev pub later_items : ℕ → Waiting → Waiting
later_items n w = record w { items = drop n w.items }

-- with more items
abbrev pub with_more : List Value → Waiting → Waiting
with_more values w = record w { items = w.items ++ values }

-- how many bytes of a run there is room for, with the run's buffer; of strings, memory is taken as it is needed
abbrev pub room_in : Pending → ℕ → ℕ
room_in (Ints min max w items) n = n
room_in (Bits32 items) n = n
room_in (Bits64 items) n = n
room_in (Texts bytes ends) n = 0

pub record IsFieldOut (p : Pending) (n : ℕ) (run : List ℕ) (end : ℕ) : Type 0 where
  pub pending : IsPending p n
  pub used : end ≤ length run

-- the items are the field's, and not too many
pub record IsWaiting (w : Waiting) : Type 0 where
  pub kind : IsKind w.kind
  pub items : AreItems w.kind w.items
  pub few : length w.items ≤ most_waiting

-- a field of which nothing waits
pub record IsNew (given : ItemKind) (bytes : ℕ) (w : Waiting) : Type 0 where
  pub kind : w.kind ≡ given
  pub items : w.items ≡ []
  pub stream : w.stream ≡ []
  pub room : (w.kind ≡ strings) ⊎ (w.room ≡ bytes)
