-- What `list` shows: the clouds with their fields, and the blobs, in document order, one a line.
use Rattle.std.specs.Prelude.{◌≡◌, ℕ, ◌+◌, List, [], ◌∷◌, ◌++◌, length, codes, decimal}
use Rattle.std.specs.Fmt.{signed_decimal}
use Rattle.e57_elements.specs.Tree.{Element}
use Rattle.e57_layout.specs.declared.field.Field.{Field}
use Rattle.e57_layout.specs.declared.field.FieldKind.{FieldKind}
use Rattle.e57_layout.specs.declared.field.FieldKind.TheVariants.{Int, Scaled, Bits32, Bits64, Text}
use Rattle.e57_nodes.specs.Shape.{Shape, shape_of}
use Rattle.e57_nodes.specs.Paths.{path_of}
use Rattle.e57_nodes.specs.Items.{StatedItem, stated_cloud, stated_blob, stated_items}
use Rattle.e57_file.specs.Opened.{HasXmlTree, IsTreeFault, is_tree_kind}
use Rattle.e57_show.specs.Showing.{Shown}

-- `integer MIN MAX`, `scaled MIN MAX SCALE OFFSET`, `float32`, `float64`, or `string`, after a space
abbrev pub kind_text : FieldKind → List ℕ
kind_text (Int low high) = codes " integer " ++ signed_decimal low ++ codes " " ++ signed_decimal high
kind_text (Scaled low high scale offset) = codes " scaled " ++ signed_decimal low ++ codes " " ++ signed_decimal high ++ codes " " ++ scale ++ codes " " ++ offset
kind_text Bits32 = codes " float32"
kind_text Bits64 = codes " float64"
kind_text Text = codes " string"

-- `field J PATH` and the kind; the path is the one below the prototype
unfoldable pub field_line : ℕ → Field → List ℕ
field_line j field = codes "field " ++ decimal j ++ codes " " ++ field.path ++ kind_text field.kind ++ codes "\n"

-- of these fields, numbered from j on
abbrev pub field_lines : ℕ → List Field → List ℕ
field_lines j [] = []
field_lines j (field ∷ fields) = field_line j field ++ field_lines (j + 1) fields

-- `cloud K PATH records N fields M`
unfoldable pub cloud_line : ℕ → List ℕ → ℕ → ℕ → List ℕ
cloud_line k path records fields = codes "cloud " ++ decimal k ++ codes " " ++ path ++ codes " records " ++ decimal records ++ codes " fields " ++ decimal fields ++ codes "\n"

-- `blob K PATH length N`
unfoldable pub blob_line : ℕ → List ℕ → ℕ → List ℕ
blob_line k path size = codes "blob " ++ decimal k ++ codes " " ++ path ++ codes " length " ++ decimal size ++ codes "\n"

-- of these clouds and blobs of a tree, numbered from these on; after a cloud's line stand those of its fields
abbrev pub item_lines : Shape → ℕ → ℕ → List StatedItem → List ℕ
item_lines tree clouds blobs [] = []
item_lines tree clouds blobs (stated_cloud n records fields ∷ items) =
    (cloud_line clouds (path_of tree n) records (length fields) ++ field_lines 0 fields) ++ item_lines tree (clouds + 1) blobs items
item_lines tree clouds blobs (stated_blob n size ∷ items) = blob_line blobs (path_of tree n) size ++ item_lines tree clouds (blobs + 1) items

-- of all clouds and blobs of a tree
abbrev pub list_text : Shape → List ℕ
list_text tree = item_lines tree 0 0 (stated_items tree)

-- the lines of the tree that the XML section spells
abbrev pub IsListed : List ℕ → List ℕ → Type 0
IsListed file text = (tree : Element) × HasXmlTree file tree × (text ≡ list_text (shape_of tree))

-- the first fault of the section or of a node, or the lines
abbrev pub list_shown : Shown
list_shown =
    record {
      is_faulty = IsTreeFault;
      is_named = is_tree_kind;
      is_output = IsListed;
    }
