-- The items of a stream (ASTM E2807, bytestreams of integers, floating point numbers and strings).
use Rattle.std.specs.Prelude.{◌≡◌, ℕ, ◌+◌, ◌*◌, ◌^◌, ◌<◌, ◌≤◌, ◌==◌, nat_lt, if◌then◌else◌, ℤ, pos, ◌+ℤ◌, ◌≤ℤ◌, List, [], ◌∷◌, length, map}
use Rattle.std.specs.Int.{int_gap}
use Rattle.std.specs.List.{flat_map, AllByRecursion}
use Rattle.e57_bits.specs.Bits.{number}
use Rattle.e57_layout.specs.Bytes.{packed}
use Rattle.e57_layout.specs.Widths.{width}
use Rattle.e57_layout.specs.Values.{ItemKind, integers, words, strings, Value, whole, word, octets, Outcome, here, short, out_of_range}
use Rattle.e57_layout.specs.Strings.{string_limit, string_at, string_bytes_of}

-- ---- how an item is read

-- what `found` makes of the number in the w bits of item k: they begin at bit w * k
unfoldable pub bits_at : ℕ → (ℕ → Outcome) → List ℕ → ℕ → Outcome
bits_at w found stream k =
    if nat_lt (8 * length stream) (w * k + w) then short k else found (number stream (w * k) w)

-- an integer that is this far above the lowest value
abbrev pub above : ℤ → ℤ → ℕ → ℕ → Outcome
above low high k n = if nat_lt (int_gap low high) n then out_of_range k else here (whole (low +ℤ pos n))

-- item k of a stream of such items, or its fault. Where only one integer is possible, nothing of the stream is read
unfoldable pub item_at : ItemKind → List ℕ → ℕ → Outcome
item_at (integers low high) stream k =
    if width low high == 0 then here (whole low) else bits_at (width low high) (above low high k) stream k
item_at (words w) stream k = bits_at w (λ n. here (word n)) stream k
item_at strings stream k = string_at 0 stream k

-- ---- which items there are

-- a value of the kind, within its limits
abbrev pub IsItem : ItemKind → Value → Type 0
IsItem (integers low high) (whole z) = (low ≤ℤ z) × (z ≤ℤ high)
IsItem (words w) (word n) = n < 2 ^ w
IsItem strings (octets t) = length t ≤ string_limit
IsItem kind value = ⊥

abbrev pub AreItems : ItemKind → List Value → Type 0
AreItems kind values = AllByRecursion (IsItem kind) values

-- a column of n items for each field
abbrev pub AreColumns : List ItemKind → ℕ → List (List Value) → Type 0
AreColumns [] n [] = Unit {0}
AreColumns (kind ∷ kinds) n (column ∷ columns) = (length column ≡ n) × AreItems kind column × AreColumns kinds n columns
AreColumns kinds n columns = ⊥

-- ---- how items are written

-- the number that is stored of an item of fixed width: how far an integer is above the lowest value, or the word. A
-- string has none; that case doesn't come
unfoldable pub stored : ℤ → Value → ℕ
stored low (whole z) = int_gap low z
stored low (word n) = n
stored low (octets t) = 0

-- the bytes of a string; the other cases don't come
unfoldable pub octets_of : Value → List ℕ
octets_of (whole z) = []
octets_of (word n) = []
octets_of (octets t) = t

-- a field's bytes of some items, those of fixed width filled with zero bits to a whole byte
unfoldable pub field_bytes : ItemKind → List Value → List ℕ
field_bytes (integers low high) values = packed (width low high) (map (stored low) values)
field_bytes (words w) values = packed w (map (stored (pos 0)) values)
field_bytes strings values = flat_map (λ value. string_bytes_of (octets_of value)) values
