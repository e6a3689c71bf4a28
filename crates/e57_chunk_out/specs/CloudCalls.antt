-- What the calls of a cloud that is written promise.
use Rattle.std.specs.Prelude.{◌≡◌, ◌⊎◌, ℕ, ◌+◌, ◌-◌, ◌*◌, ◌%◌, ◌^◌, ◌<◌, ◌≤◌, true, false, List, [], ◌∷◌, ◌++◌, length, map, slice_index_or, slice_set, Option, None, is_some}
use Rattle.std.specs.List.{AllByRecursion}
use Rattle.std.specs.Option.{option_map}
use Rattle.e57_base.specs.Target.{TargetView}
use Rattle.e57_layout.specs.Values.{ItemKind, integers, words, strings, Value, item_kind}
use Rattle.e57_layout.specs.Packing.{later_records, join_columns}
use Rattle.e57_layout.specs.Written.{physical, section_spelled}
use Rattle.e57_layout.specs.declared.field.Field.{Field}
use Rattle.e57_page.specs.Place.{payload_length}
use Rattle.e57_page_out.specs.Sealed.{filled, pages_for}
use Rattle.e57_page_out.specs.Writing.{Writing, KeepsTarget, IsBeingWritten, most_bytes}
use Rattle.e57_chunk_out.specs.Standing.{Cloud, Stands, IsHere, in_groups}
use Rattle.e57_chunk_out.specs.Turns.{data_end}
use Rattle.e57_chunk_out.specs.declared.cloud_out.Written.{Written}

-- ---- opening

-- the kinds of some fields
abbrev pub kinds_in : List Field → List ItemKind
kinds_in fields = map (λ (f : Field). item_kind f.kind) fields

-- those of the fields of these numbers
abbrev pub chosen_kinds : List Field → List ℕ → List ItemKind
chosen_kinds fields chosen = map (λ f. slice_index_or (kinds_in fields) f strings) chosen

-- a multiple of 8 from 8 to 2^20
pub record IsChunkLength (n : ℕ) : Type 0 where
  pub some : 0 < n
  pub groups : n % 8 ≡ 0
  pub most : n ≤ 2 ^ 20

-- no record came yet
abbrev pub new_cloud : List ItemKind → ℕ → ℕ → Cloud
new_cloud kinds n most = record {
  kinds = kinds;
  chunk = n;
  at_most = most;
  count = 0;
  pending = map (λ (kind : ItemKind). []) kinds;
  run = None;
  is_begun = false;
  entries = [];
  section = None;
  is_spent = false;
}

-- ---- items

-- the kind of field f
abbrev pub kind_of : Cloud → ℕ → ItemKind
kind_of c f = slice_index_or c.kinds f strings

-- what waits of field f
abbrev pub waiting_of : Cloud → ℕ → List Value
waiting_of c f = slice_index_or c.pending f []

-- with more items of field f
abbrev pub with_items : Cloud → ℕ → List Value → Cloud
with_items c f values = record c { pending = slice_set c.pending f (waiting_of c f ++ values) }

-- how many items of field f the block has
abbrev pub in_block : Cloud → ℕ → ℕ
in_block c f = length (waiting_of c f) - c.count % 8

-- a block has 1024 records at most
abbrev pub most_of_block : ℕ
most_of_block = 1024

abbrev pub IsInteger : ItemKind → Type 0
IsInteger (integers low high) = Unit {0}
IsInteger (words w) = ⊥
IsInteger strings = ⊥

-- ---- blocks

-- the items of the block, a column a field
abbrev pub block_of : Cloud → List (List Value)
block_of c = later_records (c.count % 8) c.pending

-- how many records it has, if each field has as many items of it as the first one
abbrev pub block_length : Cloud → ℕ
block_length c = in_block c 0

-- each field has as many items of the block
abbrev pub IsEven : Cloud → Type 0
IsEven c = AllByRecursion (λ (column : List Value). length column ≡ c.count % 8 + block_length c) c.pending

-- no block is begun: what waits is of ended blocks
abbrev pub IsBetween : Cloud → Type 0
IsBetween c = AllByRecursion (λ (column : List Value). length column ≡ c.count % 8) c.pending

-- there is a field of strings
abbrev pub HasStrings : List ItemKind → Type 0
HasStrings [] = ⊥
HasStrings (kind ∷ kinds) = (kind ≡ strings) ⊎ HasStrings kinds

-- The block was written: with the records for which the cloud and the file stood, they stand for these and the block's behind
-- them.
pub record EndsBlock {T : Type 0} (view : T → TargetView) (old : Cloud) (out : Writing T) (new : Cloud) (now : Writing T) : Type 0 where
  pub kinds : new.kinds ≡ old.kinds
  pub chunk : new.chunk ≡ old.chunk
  pub at_most : new.at_most ≡ old.at_most
  pub count : new.count ≡ old.count + block_length old
  pub between : IsBetween new
  pub unspent : new.is_spent ≡ false
  pub begun : is_some new.section ≡ true
  pub here : IsHere new now
  pub state : IsBeingWritten view now
  pub target : KeepsTarget (view out.target) (view now.target)
  pub stands : (before : Option (List ℕ)) (start : ℕ) (cs : List (List Value)) → Stands before start cs old out → Stands before start (join_columns cs (block_of old)) new now

-- With the packets that are whole with the block the file would pass its last page.
abbrev pub PassesBlock : {T : Type 0} → Cloud → Writing T → Type 0
PassesBlock c out =
    (before : Option (List ℕ)) (start : ℕ) (cs : List (List Value)) → Stands before start cs c out
    → most_bytes < data_end start c.kinds c.chunk (in_groups (c.count + block_length c)) (join_columns cs (block_of c))

-- ---- the end

-- the section of these records from a fresh page on
abbrev pub section_of : ℕ → Cloud → List (List Value) → List ℕ
section_of start c cs = section_spelled (payload_length * pages_for start) c.kinds c.chunk c.count cs

-- The section of these records was put behind the bytes before it.
pub record PutsSection {T : Type 0} (before : Option (List ℕ)) (start : ℕ) (cs : List (List Value)) (c : Cloud) (offset : ℕ) (now : Writing T) : Type 0 where
  pub place : offset ≡ physical (payload_length * pages_for start)
  pub bytes : now.told_bytes ≡ option_map (λ b. filled (pages_for start) b ++ section_of start c cs) before
  pub size : now.size ≡ payload_length * pages_for start + length (section_of start c cs)

-- The section was written: it is that of all records for which the cloud and the file stood.
pub record ClosesOn {T : Type 0} (view : T → TargetView) (c : Cloud) (out : Writing T) (offset : ℕ) (now : Writing T) : Type 0 where
  pub held : now.held ≡ None
  pub state : IsBeingWritten view now
  pub target : KeepsTarget (view out.target) (view now.target)
  pub section : (before : Option (List ℕ)) (start : ℕ) (cs : List (List Value)) → Stands before start cs c out → PutsSection before start cs c offset now

-- nothing was written: no record came
pub record ClosesNothing {T : Type 0} (c : Cloud) (out : Writing T) (offset : ℕ) (now : Writing T) : Type 0 where
  pub count : c.count ≡ 0
  pub place : offset ≡ 0
  pub same : now ≡ out

-- what the end answers and leaves
pub record ClosesCloud {T : Type 0} (view : T → TargetView) (c : Cloud) (out : Writing T) (w : Written) (now : Writing T) : Type 0 where
  pub count : w.count ≡ c.count
  pub section : ClosesNothing c out w.place now ⊎ ((0 < c.count) × ClosesOn view c out w.place now)

-- With its section the file would pass its last page.
abbrev pub PassesSection : {T : Type 0} → Cloud → Writing T → Type 0
PassesSection c out =
    (before : Option (List ℕ)) (start : ℕ) (cs : List (List Value)) → Stands before start cs c out
    → most_bytes < payload_length * pages_for start + length (section_of start c cs)
