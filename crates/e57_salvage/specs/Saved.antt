-- The content that is saved of a damaged file: its tree, the records of the sound spans of each cloud, and the sound blobs.
use Rattle.std.specs.Prelude.{◌≡◌, ℕ, List, length, map, None}
use Rattle.e57_elements.specs.Tree.{Element}
use Rattle.e57_nodes.specs.Shape.{shape_of}
use Rattle.e57_nodes.specs.Typed.{typed_fault}
use Rattle.e57_nodes.specs.Places.{without_places}
use Rattle.e57_spans.specs.Lost.{kept_count}
use Rattle.e57_spans.specs.Saved.{saved_columns}
use Rattle.e57_verdict.specs.Things.{Thing, cloud_thing, blob_thing, things_in, Body, records_body, bytes_body}
use Rattle.e57_verdict.specs.Content.{Content}
use Rattle.e57_edits.specs.Counts.{with_counts}
use Rattle.e57_file.specs.Opened.{HasXmlTree}
use Rattle.e57_salvage.specs.Blobs.{saved_bytes}

-- what is kept of a cloud or a blob
abbrev pub saved_body : List ℕ → Thing → Body
saved_body file (cloud_thing c) = records_body (saved_columns file c)
saved_body file (blob_thing b) = bytes_body (saved_bytes file b)

-- the number of its records, or of its bytes
abbrev pub saved_count : List ℕ → Thing → ℕ
saved_count file (cloud_thing c) = kept_count file c
saved_count file (blob_thing b) = length (saved_bytes file b)

abbrev pub saved_counts : List ℕ → Element → List ℕ
saved_counts file tree = map (saved_count file) (things_in tree)

-- of a file with this tree: each cloud and blob states how many records or bytes are kept of it
unfoldable pub saved : List ℕ → Element → Content
saved file tree = record { tree = without_places (with_counts (saved_counts file tree) tree); bodies = map (saved_body file) (things_in tree) }

-- The file has a tree without a fault of its nodes, and this is saved of it.
pub record IsSaved (file : List ℕ) (content : Content) : Type 0 where
  pub tree : Element
  pub has : HasXmlTree file tree
  pub typed : typed_fault (shape_of tree) ≡ None
  pub same : content ≡ saved file tree
