-- The chunk starts of a section, judged one after another as its data packets come: by the entries of its index, or without
-- an index by the items of its first Float field.
use Rattle.std.specs.Prelude.{◌≡◌, ℕ, ◌+◌, ◌/◌, ◌<◌, ◌⊎◌, ◌==◌, ◌||◌, not, nat_lt, Bool, if◌then◌else◌, List, [], ◌∷◌, length, get_or, slice_get, Option, Some, None}
use Rattle.std.specs.Option.{option_or}
use Rattle.e57_base.specs.Fault.{fault}
use Rattle.e57_base.specs.declared.fault.Fault.{Fault}
use Rattle.e57_base.specs.declared.kind.Kind.TheVariants.{IndexTarget, RestartUnindexed}
use Rattle.e57_page.specs.Place.{place}
use Rattle.e57_layout.specs.declared.section.Section.{Section}
use Rattle.e57_layout.specs.declared.packet.Entry.{Entry}
use Rattle.e57_layout.specs.declared.field.Fixed.{Fixed}
use Rattle.e57_cloud.specs.Walk.{Packet}
use Rattle.e57_cloud.specs.Chunks.{starts_fault, unindexed_fault, compared}
use Rattle.e57_check.specs.declared.starts.Starts.{Starts}
use Rattle.e57_check.specs.declared.starts.Starts.TheVariants.{Indexed, Counted}
use Rattle.e57_check.specs.declared.starts.Came.{Came}

-- the first fault of chunks, by what their starts are judged by
abbrev pub by_starts : Section → Starts → List (List Packet) → Option Fault
by_starts s (Indexed es) chunks = starts_fault s 0 es chunks
by_starts s (Counted fixed) chunks = unindexed_fault s fixed chunks

-- an item of the Float field has 4 or 8 bytes, where there is one
abbrev pub IsWidth : Option Fixed → Type 0
IsWidth None = Unit {0}
IsWidth (Some fixed) = (fixed.bytes ≡ 4) ⊎ (fixed.bytes ≡ 8)

-- the Float field is one of the section's, where there is one
abbrev pub IsField : Section → Option Fixed → Type 0
IsField s None = Unit {0}
IsField s (Some fixed) = fixed.field < s.fields

abbrev pub AreStarts : Section → Starts → Type 0
AreStarts s (Indexed es) = Unit {0}
AreStarts s (Counted fixed) = IsField s fixed × IsWidth fixed

-- ---- one data packet after another

-- how many bytes of the Float field a data packet with these streams has
abbrev pub field_bytes : Option Fixed → List (List ℕ) → ℕ
field_bytes None streams = 0
field_bytes (Some fixed) streams = length (get_or streams fixed.field [])

abbrev pub float_bytes : Starts → List (List ℕ) → ℕ
float_bytes (Indexed es) streams = 0
float_bytes (Counted fixed) streams = field_bytes fixed streams

-- how many whole items so many bytes are
abbrev pub float_items : Option Fixed → ℕ → ℕ
float_items None bytes = 0
float_items (Some fixed) bytes = bytes / fixed.bytes

abbrev pub items : Starts → ℕ → ℕ
items (Indexed es) bytes = 0
items (Counted fixed) bytes = float_items fixed bytes

-- nothing came
abbrev pub none_came : Came
none_came = record { starts = 0; first = 0; bytes = 0; found = None }

-- the fault of chunk start j at place q, by its entry
abbrev pub entry_start_fault : Section → ℕ → Option Entry → ℕ → Option Fault
entry_start_fault s j None q = Some (fault RestartUnindexed s.node q)
entry_start_fault s j (Some e) q = compared s j e q (place e.place)

-- the fault of an entry that no chunk start has
abbrev pub left_entry_fault : Section → Option Entry → Option Fault
left_entry_fault s None = None
left_entry_fault s (Some e) = Some (fault IndexTarget s.node e.first)

-- after a chunk with so many items, the fault of the chunk start at place q
abbrev pub counted_start_fault : Section → Came → ℕ → ℕ → Option Fault
counted_start_fault s came n q =
    if came.starts == 0 then None
    else if n == 0 || not (nat_lt (came.first + n) s.count) then Some (fault RestartUnindexed s.node q)
    else None

-- the fault of the chunk start at place q, after what came
abbrev pub start_fault : Section → Starts → Came → ℕ → Option Fault
start_fault s (Indexed es) came q = entry_start_fault s came.starts (slice_get es came.starts) q
start_fault s (Counted fixed) came q = counted_start_fault s came (float_items fixed came.bytes) q

-- a data packet begins a chunk: the first one does whatever its flag
abbrev pub begins : Came → Bool → Bool
begins came restart = came.starts == 0 || restart

-- what came, with a data packet at place q that has so many bytes of the Float field
abbrev pub arrived : Section → Starts → Came → ℕ → Bool → ℕ → Came
arrived s starts came q restart bytes =
    if begins came restart then record {
      starts = came.starts + 1;
      first = came.first + items starts came.bytes;
      bytes = bytes;
      found = option_or came.found (start_fault s starts came q);
    }
    else record { starts = came.starts; first = came.first; bytes = came.bytes + bytes; found = came.found }

-- the fault of the chunks where no data packet is left: an entry that no chunk start has
abbrev pub left_fault : Section → Starts → Came → Option Fault
left_fault s (Indexed es) came = option_or came.found (left_entry_fault s (slice_get es came.starts))
left_fault s (Counted fixed) came = came.found

-- after what came, the first fault of the chunks with these data packets
unfoldable pub rest_fault : Section → Starts → Came → List Packet → Option Fault
rest_fault s starts came [] = left_fault s starts came
rest_fault s starts came (p ∷ ps) = rest_fault s starts (arrived s starts came p.place p.restart (float_bytes starts p.streams)) ps
