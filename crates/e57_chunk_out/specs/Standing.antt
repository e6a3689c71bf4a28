-- A cloud that is written, as contracts see it, and the list of records for which it stands together with a file.
use Rattle.std.specs.Prelude.{◌≡◌, ℕ, ◌+◌, ◌*◌, ◌/◌, ◌%◌, not, Bool, true, List, [], ◌++◌, length, replicate, Option, Some, None, IfSome}
use Rattle.std.specs.Option.{option_map}
use Rattle.e57_layout.specs.Values.{ItemKind, Value}
use Rattle.e57_layout.specs.Items.{AreColumns}
use Rattle.e57_layout.specs.Packing.{first_records, later_records}
use Rattle.e57_layout.specs.Written.{packets_bytes, entries_for}
use Rattle.e57_layout.specs.declared.packet.Entry.{Entry}
use Rattle.e57_page.specs.Place.{payload_length}
use Rattle.e57_page_out.specs.Sealed.{filled, pages_for}
use Rattle.e57_page_out.specs.Writing.{Writing}
use Rattle.e57_chunk_out.specs.Sections.{IsAsLeft}
use Rattle.e57_chunk_out.specs.declared.section.Begun.{Begun}
use Rattle.e57_chunk_out.specs.Progress.{packets_so_far, open_packets, run_so_far, is_nil}

pub record Cloud : Type 0 where
  pub kinds : List ItemKind
  -- how many records a chunk has, and how many the cloud has at most
  pub chunk : ℕ
  pub at_most : ℕ
  -- the records of ended blocks
  pub count : ℕ
  -- a column a field: the last of these records, fewer than eight, and then the block's items
  pub pending : List (List Value)
  -- the streams of the groups under way
  pub run : Option (List (List ℕ))
  -- a packet of the open chunk was put
  pub is_begun : Bool
  pub entries : List Entry
  -- where its section begins: the page, and the size of the file as the last call left it
  pub section : Option Begun
  pub is_spent : Bool

-- how many of n records are in whole groups
abbrev pub in_groups : ℕ → ℕ
in_groups n = 8 * (n / 8)

-- The section of the first e of these records is under way behind the bytes before it, of which there are `start`: its header
-- blank, and each packet that is whole.
pub record IsUnderWay {T : Type 0} (before : Option (List ℕ)) (start : ℕ) (kinds : List ItemKind) (n e : ℕ) (cs : List (List Value)) (run : Option (List (List ℕ))) (is_begun : Bool) (entries : List Entry) (out : Writing T) : Type 0 where
  pub streams : run ≡ run_so_far kinds n e (first_records e cs)
  pub begun : is_nil (open_packets kinds n e (first_records e cs)) ≡ not is_begun
  pub held : out.held ≡ Some (pages_for start)
  pub size : out.size ≡ payload_length * pages_for start + 32 + length (packets_bytes (packets_so_far kinds n e (first_records e cs)))
  pub bytes : out.told_bytes
      ≡ option_map (λ b. filled (pages_for start) b ++ (replicate 32 0 ++ packets_bytes (packets_so_far kinds n e (first_records e cs)))) before
  pub index : entries ≡ entries_for (payload_length * pages_for start + 32) kinds n e (first_records e cs)

-- nothing was put yet
pub record IsUnbegun {T : Type 0} (before : Option (List ℕ)) (start : ℕ) (c : Cloud) (out : Writing T) : Type 0 where
  pub count : c.count ≡ 0
  pub run : c.run ≡ None
  pub begun : not c.is_begun ≡ true
  pub entries : c.entries ≡ []
  pub bytes : out.told_bytes ≡ before
  pub size : out.size ≡ start
  pub held : out.held ≡ None

abbrev pub IsPut : {T : Type 0} → Option (List ℕ) → ℕ → List (List Value) → Cloud → Writing T → Option Begun → Type 0
IsPut before start cs c out None = IsUnbegun before start c out
IsPut before start cs c out (Some s) =
    (s.page ≡ pages_for start) × (out.size ≡ s.size) × IsUnderWay before start c.kinds c.chunk (in_groups c.count) cs c.run c.is_begun c.entries out

-- With this file, whose bytes before the section were these, the cloud stands for these records: their whole groups are in its
-- packets and its run, and the others are the first items that wait.
pub record Stands {T : Type 0} (before : Option (List ℕ)) (start : ℕ) (cs : List (List Value)) (c : Cloud) (out : Writing T) : Type 0 where
  pub long : IfSome before (λ b. length b ≡ start)
  pub columns : AreColumns c.kinds c.count cs
  pub left : first_records (c.count % 8) c.pending ≡ later_records (in_groups c.count) cs
  pub written : IsPut before start cs c out c.section

-- the file is as the last call on the cloud left it: no page is held before the first one
abbrev pub IsHere : {T : Type 0} → Cloud → Writing T → Type 0
IsHere c out = IsAsLeft c.section out
