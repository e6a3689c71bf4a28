-- What is asked of one cloud: which records and fields are kept.
use Rattle.std.specs.Prelude.{◌≡◌, ℕ, ◌+◌, ◌==◌, nat_lt, ℤ, Bool, true, false, List, [], ◌∷◌, length, map, Option, Some, None, Result, Ok, Err, slice_get, if◌then◌else◌}
use Rattle.std.specs.List.{list_any, range_with_len}
use Rattle.e57_base.specs.declared.fault.AskFault.{AskFault}
use Rattle.e57_base.specs.declared.fault.AskFault.TheVariants as ask
use Rattle.e57_layout.specs.declared.field.Field.{Field}
use Rattle.e57_layout.specs.Values.{ItemKind, integers, words, strings, item_kind}
use Rattle.e57_nodes.specs.Items.{StatedItem, stated_cloud, stated_blob}
use Rattle.e57_blocks.specs.Fields.{field_at}
use Rattle.e57_file.specs.Opened.{field_number}
use Rattle.e57_verdict.specs.Content.{Content}
use Rattle.e57_plain.specs.Kept.{Selection, Test, kept}
use Rattle.e57_plain.specs.Valid.{items_in}
use Rattle.e57_select.specs.Asking.{numbers_of, asked_end, asked_count}
use Rattle.e57_copy.specs.Rewriting.{Rewriting}

-- the items of the field with this path have to lie within these limits
pub record KeepAsked : Type 0 where
  pub field : List ℕ
  pub low : ℤ
  pub high : ℤ

-- The number of a cloud; the paths of the fields that are kept, or all fields; the tests of a record; of the records from `from` on
-- each `every`-th one; how many records these are taken from, or all from there.
pub record FilterAsked : Type 0 where
  pub cloud : ℕ
  pub names : Option (List (List ℕ))
  pub keeps : List KeepAsked
  pub every : ℕ
  pub from : ℕ
  pub count : Option ℕ

-- ---- what it is of a tree

-- the clouds among these, each with the number of its records and its fields
abbrev pub stated_clouds : List StatedItem → List (ℕ × List Field)
stated_clouds [] = []
stated_clouds (stated_cloud n count fields ∷ items) = (count, fields) ∷ stated_clouds items
stated_clouds (stated_blob n size ∷ items) = stated_clouds items

abbrev pub is_integer : ItemKind → Bool
is_integer (integers low high) = true
is_integer (words w) = false
is_integer strings = false

-- a test before others
abbrev pub with_test : Test → Result (List Test) AskFault → Result (List Test) AskFault
with_test test (Ok tests) = Ok (test ∷ tests)
with_test test (Err why) = Err why

-- test j of the list, of the field with this number if there is one, before the others
abbrev pub test_before : List Field → ℕ → KeepAsked → Option ℕ → Result (List Test) AskFault → Result (List Test) AskFault
test_before fields j keep None others = Err (ask.Keep j (length fields))
test_before fields j keep (Some f) others =
    if is_integer (item_kind (field_at fields f).kind) then with_test (record { field = f; low = keep.low; high = keep.high }) others
    else Err (ask.NotInteger j (length fields))

-- the tests by the numbers of their fields, of which the first one is test j of the list; or the first that can't be made: no field
-- has its path, or that field has no integers
unfoldable pub tests_from : List Field → ℕ → List KeepAsked → Result (List Test) AskFault
tests_from fields j [] = Ok []
tests_from fields j (keep ∷ keeps) = test_before fields j keep (field_number keep.field fields) (tests_from fields (j + 1) keeps)

-- which of n fields are among these numbers
abbrev pub chosen_of : ℕ → List ℕ → List Bool
chosen_of n numbers = map (λ (f : ℕ). list_any (λ (k : ℕ). k == f) numbers) (range_with_len 0 n)

-- the records, where the fields and the tests are there
abbrev pub select_range : FilterAsked → ℕ → List Field → List ℕ → Result (List Test) AskFault → Result Selection AskFault
select_range asked count fields numbers (Err why) = Err why
select_range asked count fields numbers (Ok tests) =
    if nat_lt count (asked_end asked.from asked.count) then Err (ask.Range (asked_end asked.from asked.count) count)
    else
    Ok
    (record {
      cloud = asked.cloud;
      fields = chosen_of (length fields) numbers;
      from = asked.from;
      until = asked.from + asked_count count asked.from asked.count;
      every = asked.every;
      tests = tests;
    })

abbrev pub select_fields : FilterAsked → ℕ → List Field → Result (List ℕ) ℕ → Result Selection AskFault
select_fields asked count fields (Err j) = Err (ask.Field j (length fields))
select_fields asked count fields (Ok numbers) = select_range asked count fields numbers (tests_from fields 0 asked.keeps)

abbrev pub select_cloud : FilterAsked → ℕ → Option (ℕ × List Field) → Result Selection AskFault
select_cloud asked have None = Err (ask.Cloud asked.cloud have)
select_cloud asked have (Some (count, fields)) = select_fields asked count fields (numbers_of fields asked.names)

-- what is asked of a tree with these clouds and blobs, or the first thing that it doesn't have: the cloud, a field of the list, the
-- field of a test or its integers, the records
unfoldable pub select_kept : FilterAsked → List StatedItem → Result Selection AskFault
select_kept asked items = select_cloud asked (length (stated_clouds items)) (slice_get (stated_clouds items) asked.cloud)

-- ---- what it is of a file

-- how many records a chunk has
abbrev pub filter_chunk : ℕ
filter_chunk = 8192

-- The new file has what is kept of the content, if what is asked for is there.
pub record KeepsAsked (asked : FilterAsked) (old new : Content) : Type 0 where
  pub selection : Selection
  pub selects : select_kept asked (items_in old) ≡ Ok selection
  pub keeps : new ≡ kept selection old

abbrev pub filtering : FilterAsked → Rewriting
filtering asked =
    record {
      chunk = filter_chunk;
      gives = KeepsAsked asked;
      is_short = λ old why. select_kept asked (items_in old) ≡ Err why;
    }
