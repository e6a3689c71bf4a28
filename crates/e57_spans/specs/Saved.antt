-- The records of a cloud that are kept, as a column of items for each field.
use Rattle.std.specs.Prelude.{ℕ, ◌+◌, List, [], ◌∷◌, map, pos, Result, Ok, Err}
use Rattle.e57_base.specs.declared.fault.Fault.{Fault}
use Rattle.e57_layout.specs.Values.{Value, whole}
use Rattle.e57_cloud.specs.Cloud.{Leaf, Cloud}
use Rattle.e57_cloud.specs.PathItem.{path_item}
use Rattle.e57_spans.specs.Lost.{kept_records}

-- the item that was found; where there is a fault, this says nothing
abbrev pub found_value : Result Value Fault → Value
found_value (Ok v) = v
found_value (Err found) = whole (pos 0)

-- the items of field f of these records
abbrev pub items_of : List ℕ → Cloud → ℕ → Leaf → List ℕ → List Value
items_of file c f leaf records = map (λ (i : ℕ). found_value (path_item file c f leaf i)) records

-- of each field, the first of them being field f
unfoldable pub columns_from : List ℕ → Cloud → ℕ → List Leaf → List ℕ → List (List Value)
columns_from file c f [] records = []
columns_from file c f (leaf ∷ leaves) records = items_of file c f leaf records ∷ columns_from file c (f + 1) leaves records

unfoldable pub saved_columns : List ℕ → Cloud → List (List Value)
saved_columns file c = columns_from file c 0 c.leaves (kept_records file c)
