-- The items of some records in a row, as slices.
use Rattle.std.specs.Prelude.{◌≡◌, ℕ, ◌+◌, ◌-◌, ◌≤◌, List, [], ◌∷◌, map, length, take, drop}
use Rattle.std.specs.List.{range_with_len}
use Rattle.e57_layout.specs.Strings.{string_limit}
use Rattle.e57_layout.specs.Values.{ItemKind, words, strings, Value, whole, word, octets}
use Rattle.e57_column.specs.Reading.{AreWhole}
use Rattle.e57_blocks.specs.declared.block.Run.{Run}
use Rattle.e57_blocks.specs.declared.block.Run.TheVariants as a_run
use Rattle.e57_blocks.specs.Block.{Block, held_item}

-- ---- strings one behind another

-- the strings that end here in the bytes, the first of which begins at `begin`
unfoldable pub strings_from : List ℕ → ℕ → List ℕ → List Value
strings_from bytes begin [] = []
strings_from bytes begin (e ∷ ends) = octets (take (e - begin) (drop begin bytes)) ∷ strings_from bytes e ends

-- strings of at most 2^24 bytes end here, one behind another, the first of which begins at `begin`, among `most` bytes
unfoldable pub AreEndsFrom : ℕ → ℕ → List ℕ → Type 0
AreEndsFrom most begin [] = begin ≤ most
AreEndsFrom most begin (e ∷ ends) = (begin ≤ e) × (e ≤ begin + string_limit) × AreEndsFrom most e ends

-- ---- a run

-- its items
abbrev pub run_values : Run → List Value
run_values (a_run.Ints items) = map whole items.now
run_values (a_run.Bits32 items) = map word items.now
run_values (a_run.Bits64 items) = map word items.now
run_values (a_run.Texts bytes begin ends) = strings_from bytes.now begin ends.now

-- it is of a field's kind; words have the field's width
abbrev pub IsRunOf : ItemKind → Run → Type 0
IsRunOf kind (a_run.Ints items) = AreWhole kind
IsRunOf kind (a_run.Bits32 items) = kind ≡ words 32
IsRunOf kind (a_run.Bits64 items) = kind ≡ words 64
IsRunOf kind (a_run.Texts bytes begin ends) = kind ≡ strings

-- its strings lie one behind another in the bytes
abbrev pub IsRunInside : Run → Type 0
IsRunInside (a_run.Ints items) = Unit {0}
IsRunInside (a_run.Bits32 items) = Unit {0}
IsRunInside (a_run.Bits64 items) = Unit {0}
IsRunInside (a_run.Texts bytes begin ends) = AreEndsFrom (length bytes.now) begin ends.now

-- the n records from record i on are held
abbrev pub HasRecords : ℕ → ℕ → Block → Type 0
HasRecords i n b = (b.first ≤ i) × (i + n ≤ b.first + b.count)

-- the items of these records
abbrev pub held_values : Block → ℕ → ℕ → List Value
held_values b i n = map (held_item b) (range_with_len (i - b.first) n)
