-- What `extract` puts: rows of the asked fields of some records of a cloud.
use Rattle.std.specs.Prelude.{◌≡◌, ◌⊎◌, ℕ, ◌+◌, ◌/◌, ◌<◌, ◌≤◌, ◌==◌, ◌||◌, ◌&&◌, nat_le, nat_lt, if◌then◌else◌, min, Bool, true, false, List, [], ◌∷◌, ◌++◌, length, slice_get, Option, Some, None, option_map, IfSome, Result, Ok, Err}
use Rattle.std.specs.List.{AllByRecursion}
use Rattle.e57_base.specs.Source.{SourceView, page_length}
use Rattle.e57_base.specs.declared.fault.Fault.{Fault}
use Rattle.e57_base.specs.declared.fault.AskFault.{AskFault}
use Rattle.e57_base.specs.declared.fault.AskFault.TheVariants as ask
use Rattle.e57_base.specs.declared.kind.Kind.{Kind}
use Rattle.e57_page.specs.Place.{payload_length, span_end, RisesWithin}
use Rattle.e57_page.specs.Kept.{AreUnkept}
use Rattle.e57_page.specs.Pages.{Reading, AsksFor}
use Rattle.e57_page.specs.XmlSection.{xml_start}
use Rattle.e57_layout.specs.declared.field.Field.{Field}
use Rattle.e57_layout.specs.Values.{Value}
use Rattle.e57_elements.specs.Tree.{Element}
use Rattle.e57_nodes.specs.Typed.{max_fields}
use Rattle.e57_nodes.specs.Items.{leaves_of}
use Rattle.e57_cloud.specs.Cloud.{Leaf, Cloud as StatedCloud}
use Rattle.e57_cloud.specs.PathItem.{path_item}
use Rattle.e57_cloud.specs.Met.{InSectionHeader, OnRecords}
use Rattle.e57_section.specs.Opening.{is_section_kind}
use Rattle.e57_column.specs.Finding.{is_column_kind}
use Rattle.e57_tree.specs.declared.items.Cloud.{Cloud}
use Rattle.e57_tree.specs.Held.{clouds_of, cloud_fields}
use Rattle.e57_rows.specs.Rows.{heading_text, row_of, shown, rows_text, rows_fault}
use Rattle.e57_rows.specs.Shown.{has_decimals, show_of}
use Rattle.e57_blocks.specs.Fields.{asked_of, field_at}
use Rattle.e57_file.specs.Opened.{IsTreeFault, is_tree_kind}
use Rattle.e57_select.specs.Asking.{most_asked, names_in, numbers_of, asked_end, asked_count}
use Rattle.e57_show.specs.declared.ask.RowsAsk.{RowsAsk}
use Rattle.e57_show.specs.Streaming.{Streamed}
use Rattle.e57_show.specs.Blob.{HasSoundTree}

-- ---- the ask

-- The number of a cloud; the paths of fields in the asked order, or all fields; the first record; how many, or all from there;
-- whether scaled integers are asked for as the numbers that they stand for.
pub record Asked : Type 0 where
  pub cloud : ℕ
  pub names : Option (List (List ℕ))
  pub from : ℕ
  pub count : Option ℕ
  pub decimal : Bool

-- what is asked
abbrev pub asked_by : RowsAsk → Asked
asked_by given = record { cloud = given.cloud; names = option_map (λ text. names_in text.now) given.fields; from = given.from; count = given.count; decimal = given.decimal }

-- no number is above the most records
pub record IsLimited (given : RowsAsk) : Type 0 where
  pub from : given.from ≤ most_asked
  pub count : IfSome given.count (λ n. n ≤ most_asked)

-- ---- what it is of a tree

-- A cloud with its fields, the numbers of the asked fields in the asked order, the first record, how many, and whether scaled
-- integers are shown as the numbers that they stand for.
pub record Selection : Type 0 where
  pub cloud : Cloud
  pub fields : List Field
  pub numbers : List ℕ
  pub from : ℕ
  pub count : ℕ
  pub decimal : Bool

-- the place in the list, of which this is the part from place j on, of the first field whose items have no decimals
unfoldable pub lacking_from : List Field → ℕ → List ℕ → Option ℕ
lacking_from fields j [] = None
lacking_from fields j (f ∷ numbers) = if has_decimals (field_at fields f).kind then lacking_from fields (j + 1) numbers else Some j

-- that of the asked fields, where decimals are asked for
abbrev pub lacking : Bool → List Field → List ℕ → Option ℕ
lacking decimal fields numbers = if decimal then lacking_from fields 0 numbers else None

-- the asked records of a cloud, where the asked fields are there
abbrev pub select_range : Cloud → List Field → Asked → List ℕ → Option ℕ → Result Selection AskFault
select_range cloud fields asked numbers (Some j) = Err (ask.Decimal j (length fields))
select_range cloud fields asked numbers None =
    if nat_lt cloud.count (asked_end asked.from asked.count) then Err (ask.Range (asked_end asked.from asked.count) cloud.count)
    else
    Ok
    (record {
      cloud = cloud;
      fields = fields;
      numbers = numbers;
      from = asked.from;
      count = asked_count cloud.count asked.from asked.count;
      decimal = asked.decimal;
    })

-- the asked fields and records of a cloud: each named field has to be there, then the decimals, and then the records
abbrev pub select_records : Cloud → List Field → Asked → Result (List ℕ) ℕ → Result Selection AskFault
select_records cloud fields asked (Err j) = Err (ask.Field j (length fields))
select_records cloud fields asked (Ok numbers) = select_range cloud fields asked numbers (lacking asked.decimal fields numbers)

-- what is asked of a tree, or the first thing that it doesn't have: the cloud, a field, a decimal, the records
abbrev pub select_from : Asked → ℕ → Option Cloud → Option (List Field) → Result Selection AskFault
select_from asked have (Some cloud) (Some fields) = select_records cloud fields asked (numbers_of fields asked.names)
select_from asked have _ _ = Err (ask.Cloud asked.cloud have)

unfoldable pub select : Asked → Element → Result Selection AskFault
select asked tree = select_from asked (length (clouds_of tree)) (slice_get (clouds_of tree) asked.cloud) (slice_get (cloud_fields tree) asked.cloud)

-- ---- what it is of a file

-- the file's tree has what is asked for, which is this
abbrev pub Selects : Asked → List ℕ → Selection → Type 0
Selects asked file selection = (tree : Element) × HasSoundTree file tree × (select asked tree ≡ Ok selection)

-- the file's tree doesn't have it
abbrev pub LacksAsked : Asked → List ℕ → AskFault → Type 0
LacksAsked asked file why = (tree : Element) × HasSoundTree file tree × (select asked tree ≡ Err why)

-- the cloud as the reading of sections knows it
abbrev pub stated : Selection → StatedCloud
stated s = record { node = s.cloud.node; offset = s.cloud.place; count = s.cloud.count; leaves = leaves_of s.fields }

-- the row of record i, of items as they are shown, or the fault of the first asked field that has one
unfoldable pub cloud_row : (ℕ → Value → Value) → List ℕ → StatedCloud → List (ℕ × Leaf) → ℕ → Result (List ℕ) Fault
cloud_row show file c asked i = row_of (λ f leaf. shown show f (path_item file c f leaf i)) asked

-- with decimals, an item of a scaled field is shown as the text of `item * scale + offset`
abbrev pub selected_row : List ℕ → Selection → ℕ → Result (List ℕ) Fault
selected_row file s i = cloud_row (show_of s.decimal s.fields) file (stated s) (asked_of s.fields s.numbers) i

-- the rows of the asked records, up to the first one with a fault
abbrev pub selected_rows : List ℕ → Selection → List ℕ
selected_rows file s = rows_text (selected_row file s) s.from s.count

-- the row of the asked fields' paths, and then these rows
abbrev pub selected_text : List ℕ → Selection → List ℕ
selected_text file s = heading_text s.fields s.numbers ++ selected_rows file s

-- the fault of the first asked record that has one
abbrev pub selected_fault : List ℕ → Selection → Option Fault
selected_fault file s = rows_fault (selected_row file s) s.from s.count

abbrev pub IsRowsFault : Asked → List ℕ → Fault → Type 0
IsRowsFault asked file found = (s : Selection) × Selects asked file s × (selected_fault file s ≡ Some found)

abbrev pub IsRowsOutput : Asked → List ℕ → List ℕ → Type 0
IsRowsOutput asked file text = (s : Selection) × Selects asked file s × (text ≡ selected_text file s)

-- the place of a field in the list; without a list one that a cloud can have
abbrev pub is_place : Option (List (List ℕ)) → ℕ → Bool
is_place None j = nat_lt j max_fields
is_place (Some names) j = nat_lt j (length names)

-- it is refused by the number that was asked for, of which there are fewer, or by the place of a field without decimals
abbrev pub is_rows_ask : Asked → AskFault → Bool
is_rows_ask asked (ask.Cloud k have) = (k == asked.cloud) && nat_le have k
is_rows_ask asked (ask.Field j have) = is_listed asked.names where
  is_listed : Option (List (List ℕ)) → Bool
  is_listed None = false
  is_listed (Some names) = nat_lt j (length names)
is_rows_ask asked (ask.Range end have) = (end == asked_end asked.from asked.count) && nat_lt have end
is_rows_ask asked (ask.Decimal j have) = asked.decimal && is_place asked.names j
is_rows_ask asked _ = false

-- a kind of fault that stops the rows: of the cloud's section, or on the way to an item
abbrev pub is_rows_kind : Kind → Bool
is_rows_kind kind = is_section_kind kind || is_column_kind kind

-- the first fault before the rows; or the heading and the rows up to the first record with a fault
abbrev pub rows_streamed : Asked → Streamed
rows_streamed asked =
    record {
      is_faulty = IsTreeFault;
      is_named = is_tree_kind;
      is_short = LacksAsked asked;
      may_refuse = is_rows_ask asked;
      is_late = IsRowsFault asked;
      may_stop = is_rows_kind;
      is_output = IsRowsOutput asked;
      runs_out_midway = true;
    }

-- ---- the pages that are asked for

-- Page p is one of the header of the cloud's section, or on the way to an asked field of an asked record, of which there is one.
abbrev pub IsMetBy : List ℕ → Selection → ℕ → Type 0
IsMetBy file s p = (0 < s.count) × (InSectionHeader file (stated s) p ⊎ OnRecords file (stated s) s.numbers s.from s.count p)

-- the file has what is asked for, and these are such pages
abbrev pub AreRowsPages : Asked → List ℕ → List ℕ → Type 0
AreRowsPages asked file pages = (s : Selection) × Selects asked file s × AllByRecursion (IsMetBy file s) pages

-- Pages of the XML section that weren't kept were asked for, in ascending order and each at most once; and then pages on the
-- way to what is asked, and no other.
pub record AsksForRows {S : Type 0} (now : Reading S) (asked : Asked) (old new : SourceView) : Type 0 where
  pub text : List ℕ
  pub rows : List ℕ
  pub text_rises : RisesWithin (xml_start now.header / payload_length) (min (span_end (xml_start now.header) now.header.xml_length) (now.length / page_length)) text
  pub text_unkept : AreUnkept now.kept text
  pub of_rows : (rows ≡ []) ⊎ IfSome old.held (λ file. AreRowsPages asked file rows)
  pub asks : AsksFor old (text ++ rows) new
