-- What is looked up of an ask for some records and fields of a cloud.
use Rattle.std.specs.Prelude.{◌≡◌, ℕ, ◌+◌, ◌<◌, ◌≤◌, Bool, true, false, List, ◌∷◌, length, map, get_or, Result, Ok, Err, MatchResult}
use Rattle.std.specs.List.{filter, range_with_len, AllByRecursion}
use Rattle.e57_base.specs.declared.fault.AskFault.{AskFault}
use Rattle.e57_base.specs.declared.fault.RunFault.{RunFault}
use Rattle.e57_base.specs.declared.fault.RunFault.TheVariants.{Refused, Source, Out, Memory, Ask}
use Rattle.e57_layout.specs.declared.field.Field.{Field}
use Rattle.e57_layout.specs.Values.{item_kind}
use Rattle.e57_elements.specs.Tree.{Element}
use Rattle.e57_nodes.specs.Shape.{shape_of}
use Rattle.e57_nodes.specs.Typed.{max_fields}
use Rattle.e57_nodes.specs.Items.{stated_items}
use Rattle.e57_tree.specs.Held.{clouds_of, cloud_in, fields_in}
use Rattle.e57_column.specs.Reading.{AreWhole}
use Rattle.e57_blocks.specs.Fields.{field_at}
use Rattle.e57_plain.specs.Pruned.{keeps_some}
use Rattle.e57_plain.specs.Kept.{Selection, Test, chosen}
use Rattle.e57_filter.specs.Asking.{KeepAsked, FilterAsked, is_integer, with_test, tests_from, select_kept}
use Rattle.e57_filter.specs.declared.select.FieldTest.{FieldTest}
use Rattle.e57_filter.specs.declared.select.Selected.{Selected}

-- ---- the parts

-- the test as what is selected has it
abbrev pub field_test : FieldTest → Test
field_test test = record { field = test.field; low = test.low; high = test.high }

-- the numbers of the tested fields
abbrev pub test_fields : List FieldTest → List ℕ
test_fields tests = map (λ (test : FieldTest). test.field) tests

-- the field of a test is one of these, and of integers
pub record IsFieldTest (fields : List Field) (test : FieldTest) : Type 0 where
  pub there : test.field < length fields
  pub integers : AreWhole (item_kind (field_at fields test.field).kind)

-- Some fields of these, in their order, and some records of the cloud.
pub record AreOfCloud (fields : List Field) (s : Selected) : Type 0 where
  pub flags : length s.chosen.items ≡ length fields
  pub numbers : s.numbers.items ≡ chosen s.chosen.items (range_with_len 0 (length fields))
  pub some : 0 < length s.numbers.items
  pub few_tests : length s.tests.items ≤ 8
  pub tests : AllByRecursion (IsFieldTest fields) s.tests.items
  pub within : s.from + s.count ≤ s.cloud.count

-- it is of a field of integers
abbrev pub IsIntegerField : List Field → FieldTest → Type 0
IsIntegerField fields test = (test.field < length fields) × (is_integer (item_kind (field_at fields test.field).kind) ≡ true)

-- the numbers of the chosen fields, in ascending order
abbrev pub chosen_numbers : List Bool → List ℕ
chosen_numbers chosen = filter (λ (f : ℕ). get_or chosen f false) (range_with_len 0 (length chosen))

-- ---- what is asked

abbrev pub selection_of : ℕ → Selected → Selection
selection_of every s =
    record {
      cloud = s.k;
      fields = s.chosen.items;
      from = s.from;
      until = s.from + s.count;
      every = every;
      tests = map field_test s.tests.items;
    }

-- This tree has what is asked for, which is this: some fields of the cloud, one or more, some records of it, and tests of its
-- fields of integers.
pub record IsSelected (asked : FilterAsked) (e : Element) (s : Selected) : Type 0 where
  pub selects : select_kept asked (stated_items (shape_of e)) ≡ Ok (selection_of asked.every s)
  pub there : s.k < length (clouds_of e)
  pub cloud : s.cloud ≡ cloud_in e s.k
  pub flags : length s.chosen.items ≡ length (fields_in e s.k)
  pub keeps : keeps_some s.chosen.items ≡ true
  pub numbers : s.numbers.items ≡ chosen_numbers s.chosen.items
  pub some : 0 < length s.numbers.items
  pub few : length s.numbers.items ≤ max_fields
  pub within : AllByRecursion (λ (f : ℕ). f < length (fields_in e s.k)) s.numbers.items
  pub left : s.from + s.count ≤ s.cloud.count
  pub tests : AllByRecursion (IsIntegerField (fields_in e s.k)) s.tests.items

-- why nothing was looked up: the tree doesn't have it, or memory ran out
abbrev pub IsUnselected : FilterAsked → Element → RunFault → Type 0
IsUnselected asked e (Refused found) = ⊥
IsUnselected asked e Source = ⊥
IsUnselected asked e Out = ⊥
IsUnselected asked e Memory = Unit {0}
IsUnselected asked e (Ask why) = select_kept asked (stated_items (shape_of e)) ≡ Err why

-- ---- the steps

-- test j of the list is made, and stands before those that follow
abbrev pub MakesTest : List Field → ℕ → KeepAsked → Result FieldTest AskFault → Type 0
MakesTest fields j keep result =
    MatchResult result
    (λ test. IsIntegerField fields test
    × ((keeps : List KeepAsked) → tests_from fields j (keep ∷ keeps) ≡ with_test (field_test test) (tests_from fields (j + 1) keeps)))
    (λ why. (keeps : List KeepAsked) → tests_from fields j (keep ∷ keeps) ≡ Err why)

-- why not all tests were made: one that can't be, or memory ran out
abbrev pub LacksTest : List Field → List KeepAsked → RunFault → Type 0
LacksTest fields keeps (Refused found) = ⊥
LacksTest fields keeps Source = ⊥
LacksTest fields keeps Out = ⊥
LacksTest fields keeps Memory = Unit {0}
LacksTest fields keeps (Ask why) = tests_from fields 0 keeps ≡ Err why
