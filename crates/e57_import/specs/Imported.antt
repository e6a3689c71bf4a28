-- The content that rows of a text are imported as: a tree with one cloud, and the rows' values as its records.
use Rattle.std.specs.Prelude.{ℕ, ◌+◌, List, [], ◌∷◌, length, map, get_or, codes, decimal, Option, unwrap_or}
use Rattle.std.specs.Fmt.{signed_decimal}
use Rattle.e57_layout.specs.declared.field.FieldKind.{FieldKind}
use Rattle.e57_layout.specs.declared.field.FieldKind.TheVariants.{Int, Scaled, Bits32, Bits64, Text}
use Rattle.e57_layout.specs.Values.{Value, octets}
use Rattle.e57_pieces.specs.declared.piece.Attr.{Attr}
use Rattle.e57_elements.specs.Tree.{Element, element, Elements, none, more}
use Rattle.e57_verdict.specs.Content.{Content}
use Rattle.e57_verdict.specs.Things.{records_body}
use Rattle.e57_import.specs.Cells.{cell_value}
use Rattle.e57_import.specs.Columns.{Column}
use Rattle.e57_import.specs.Rows.{Row}

-- ---- the tree

abbrev pub attr : List ℕ → List ℕ → Attr
attr name value = record { name = name; value = value }

abbrev pub type_attr : List ℕ → Attr
type_attr value = attr (codes "type") value

-- the limits of a field of integers
abbrev pub limit_attrs : FieldKind → List Attr
limit_attrs (Int low high) = attr (codes "minimum") (signed_decimal low) ∷ attr (codes "maximum") (signed_decimal high) ∷ []
limit_attrs (Scaled low high scale offset) =
    attr (codes "minimum") (signed_decimal low) ∷ attr (codes "maximum") (signed_decimal high) ∷ attr (codes "scale") scale ∷ attr (codes "offset") offset ∷ []
limit_attrs Bits32 = attr (codes "precision") (codes "single") ∷ []
limit_attrs Bits64 = attr (codes "precision") (codes "double") ∷ []
limit_attrs Text = []

-- the type of its element
abbrev pub type_name : FieldKind → List ℕ
type_name (Int low high) = codes "Integer"
type_name (Scaled low high scale offset) = codes "ScaledInteger"
type_name Bits32 = codes "Float"
type_name Bits64 = codes "Float"
type_name Text = codes "String"

abbrev pub field_attrs : FieldKind → List Attr
field_attrs kind = type_attr (type_name kind) ∷ limit_attrs kind

-- an element without text and children for each column
abbrev pub field_elements : List Column → Elements
field_elements [] = none
field_elements (column ∷ columns) = more (element column.name (field_attrs column.kind) [] none) (field_elements columns)

abbrev pub root_attrs : List Attr
root_attrs = type_attr (codes "Structure") ∷ attr (codes "xmlns") (codes "http://www.astm.org/COMMIT/E57/2010-e57-v1.0") ∷ []

abbrev pub points_attrs : ℕ → List Attr
points_attrs count =
    type_attr (codes "CompressedVector") ∷ attr (codes "fileOffset") (codes "0") ∷ attr (codes "recordCount") (decimal count) ∷ []

-- an element with one child
abbrev pub around : List ℕ → List Attr → Element → Element
around name attrs child = element name attrs [] (more child none)

abbrev pub prototype_element : List Column → Element
prototype_element columns = element (codes "prototype") (type_attr (codes "Structure") ∷ []) [] (field_elements columns)

-- the tree with one cloud of so many records, which has a field for each column (ASTM E2807, `data3D`)
unfoldable pub imported_tree : List Column → ℕ → Element
imported_tree columns count =
    around (codes "e57Root") root_attrs
    (around (codes "data3D") (type_attr (codes "Vector") ∷ [])
    (around (codes "vectorChild") (type_attr (codes "Structure") ∷ [])
    (around (codes "points") (points_attrs count) (prototype_element columns))))

-- ---- the records

-- the value of a cell; that there is none doesn't come
abbrev pub value_of_cell : FieldKind → List ℕ → Value
value_of_cell kind cell = unwrap_or (cell_value kind cell) (octets [])

-- the values of the cells of each column, where the first column has number k
unfoldable pub columns_from : ℕ → List Column → List Row → List (List Value)
columns_from k [] rows = []
columns_from k (column ∷ columns) rows = map (λ (row : Row). value_of_cell column.kind (get_or row k [])) rows ∷ columns_from (k + 1) columns rows

-- ---- both

-- the content of these rows
abbrev pub imported : List Column → List Row → Content
imported columns rows = record { tree = imported_tree columns (length rows); bodies = records_body (columns_from 0 columns rows) ∷ [] }
