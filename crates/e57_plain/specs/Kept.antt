-- The content with some records and fields of one cloud.
use Rattle.std.specs.Prelude.{◌≡◌, ℕ, zero, suc, ◌+◌, ◌-◌, ◌%◌, ◌==◌, nat_lt, nat_le, ℤ, int_le, Bool, true, false, ◌&&◌, List, [], ◌∷◌, length, map, get_or, if◌then◌else◌}
use Rattle.std.specs.List.{list_all}
use Rattle.e57_layout.specs.declared.field.Field.{Field}
use Rattle.e57_layout.specs.Values.{Value, whole, octets}
use Rattle.e57_nodes.specs.Items.{StatedItem, stated_cloud, stated_blob}
use Rattle.e57_verdict.specs.Things.{Body, records_body, bytes_body}
use Rattle.e57_verdict.specs.Content.{Content}
use Rattle.e57_plain.specs.Valid.{items_in}
use Rattle.e57_plain.specs.Pruned.{keeps_some, with_cloud}

-- ---- which records

-- the items of a field, by its number in the cloud, have to lie within these limits
pub record Test : Type 0 where
  pub field : ℕ
  pub low : ℤ
  pub high : ℤ

-- A cloud by its number from 0 on; which of its fields are kept; the first record, and the record past the last one; of these each
-- `every`-th one, from the first on; and the tests of a record.
pub record Selection : Type 0 where
  pub cloud : ℕ
  pub fields : List Bool
  pub from : ℕ
  pub until : ℕ
  pub every : ℕ
  pub tests : List Test

abbrev pub is_between : ℤ → ℤ → Value → Bool
is_between low high (whole z) = int_le low z && int_le z high
is_between low high other = false

-- the item of a record
abbrev pub column_value : List (List Value) → ℕ → ℕ → Value
column_value columns field i = get_or (get_or columns field []) i (octets [])

-- record i of these columns is kept
unfoldable pub passes : Selection → List (List Value) → ℕ → Bool
passes selection columns i =
    nat_le selection.from i
    && (nat_lt i selection.until
    && ((i - selection.from) % selection.every == 0
    && list_all (λ (test : Test). is_between test.low test.high (column_value columns test.field i)) selection.tests))

-- ---- their items

-- of the items of some records, the first of which has number i, those whose records pass
abbrev pub passing : (ℕ → Bool) → ℕ → List Value → List Value
passing pass i [] = []
passing pass i (value ∷ values) = if pass i then value ∷ passing pass (i + 1) values else passing pass (i + 1) values

-- how many of n records pass, the first of which has number i
abbrev pub passing_count : (ℕ → Bool) → ℕ → ℕ → ℕ
passing_count pass i zero = 0
passing_count pass i (suc n) = (if pass i then 1 else 0) + passing_count pass (i + 1) n

-- those that are kept
abbrev pub chosen : {X : Type 0} → List Bool → List X → List X
chosen [] xs = []
chosen (b ∷ keep) [] = []
chosen (b ∷ keep) (x ∷ xs) = if b then x ∷ chosen keep xs else chosen keep xs

abbrev pub kept_columns : Selection → List (List Value) → List (List Value)
kept_columns selection columns = chosen selection.fields (map (passing (passes selection columns) 0) columns)

-- how many records are kept; each column has an item for each record
abbrev pub kept_count : Selection → List (List Value) → ℕ
kept_count selection columns = passing_count (passes selection columns) 0 (length (get_or columns 0 []))

-- ---- of a content

-- the columns of cloud k
abbrev pub cloud_columns : ℕ → List Body → List (List Value)
cloud_columns k [] = []
cloud_columns k (bytes_body bytes ∷ bodies) = cloud_columns k bodies
cloud_columns zero (records_body columns ∷ bodies) = columns
cloud_columns (suc k) (records_body columns ∷ bodies) = cloud_columns k bodies

-- the bodies in which cloud k has these columns
abbrev pub with_columns : ℕ → List (List Value) → List Body → List Body
with_columns k columns [] = []
with_columns k columns (bytes_body bytes ∷ bodies) = bytes_body bytes ∷ with_columns k columns bodies
with_columns zero columns (records_body old ∷ bodies) = records_body columns ∷ bodies
with_columns (suc k) columns (records_body old ∷ bodies) = records_body old ∷ with_columns k columns bodies

-- the fields of cloud k
abbrev pub cloud_fields : ℕ → List StatedItem → List Field
cloud_fields k [] = []
cloud_fields k (stated_blob n size ∷ items) = cloud_fields k items
cloud_fields zero (stated_cloud n count fields ∷ items) = fields
cloud_fields (suc k) (stated_cloud n count fields ∷ items) = cloud_fields k items

-- The cloud is there, it has as many fields, and one of them is kept.
pub record Selects (selection : Selection) (content : Content) : Type 0 where
  pub fields : length selection.fields ≡ length (cloud_fields selection.cloud (items_in content))
  pub some : keeps_some selection.fields ≡ true

unfoldable pub kept : Selection → Content → Content
kept selection content = record {
  tree = with_cloud selection.cloud selection.fields (kept_count selection (cloud_columns selection.cloud content.bodies)) content.tree;
  bodies = with_columns selection.cloud (kept_columns selection (cloud_columns selection.cloud content.bodies)) content.bodies;
}
