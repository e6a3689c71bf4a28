-- A content that is made of two numbers: one cloud of points by a rule, and the tree that states it.
use Rattle.std.specs.Prelude.{ℕ, ◌+◌, ◌*◌, ◌%◌, ◌^◌, pos, List, [], ◌∷◌, map, replicate, codes, decimal}
use Rattle.std.specs.List.{range_with_len, sum_by}
use Rattle.e57_layout.specs.Values.{Value, whole, word, octets}
use Rattle.e57_pieces.specs.declared.piece.Attr.{Attr}
use Rattle.e57_elements.specs.Tree.{Element, element, Elements, none, more}
use Rattle.e57_verdict.specs.Things.{records_body}
use Rattle.e57_verdict.specs.Content.{Content}

-- the most records
abbrev pub most_records : ℕ
most_records = 2 ^ 24

-- ---- its tree

abbrev pub attr : List ℕ → List ℕ → Attr
attr name value = record { name = name; value = value }

abbrev pub only : Element → Elements
only e = more e none

-- a field of scaled integers of 20 bits
abbrev pub scaled_field : List ℕ → Element
scaled_field name =
    element name
    (attr (codes "type") (codes "ScaledInteger")
    ∷ attr (codes "minimum") (codes "0")
    ∷ attr (codes "maximum") (codes "1048575")
    ∷ attr (codes "scale") (codes "0.001")
    ∷ attr (codes "offset") (codes "0")
    ∷ [])
    [] none

-- a field of integers from 0 to this number
abbrev pub integer_field : List ℕ → List ℕ → Element
integer_field name high =
    element name
    (attr (codes "type") (codes "Integer")
    ∷ attr (codes "minimum") (codes "0")
    ∷ attr (codes "maximum") high
    ∷ [])
    [] none

abbrev pub prototype : Element
prototype =
    element (codes "prototype") (attr (codes "type") (codes "Structure") ∷ []) []
    (more (scaled_field (codes "cartesianX"))
    (more (scaled_field (codes "cartesianY"))
    (more (integer_field (codes "intensity") (codes "255"))
    (more (integer_field (codes "rowIndex") (codes "0"))
    (more (element (codes "cartesianZ") (attr (codes "type") (codes "Float") ∷ attr (codes "precision") (codes "single") ∷ []) [] none)
    (only (element (codes "tag") (attr (codes "type") (codes "String") ∷ []) [] none)))))))

-- a cloud of so many records, without a place
abbrev pub points : ℕ → Element
points count =
    element (codes "points")
    (attr (codes "type") (codes "CompressedVector")
    ∷ attr (codes "fileOffset") (codes "0")
    ∷ attr (codes "recordCount") (decimal count)
    ∷ [])
    [] (only prototype)

-- the tree of one scan with this cloud
unfoldable pub trial_tree : ℕ → Element
trial_tree count =
    element (codes "e57Root")
    (attr (codes "type") (codes "Structure")
    ∷ attr (codes "xmlns") (codes "http://www.astm.org/COMMIT/E57/2010-e57-v1.0")
    ∷ [])
    []
    (only (element (codes "data3D") (attr (codes "type") (codes "Vector") ∷ []) []
    (only (element (codes "vectorChild") (attr (codes "type") (codes "Structure") ∷ []) []
    (only (points count))))))

-- ---- its records

-- of record i the raw numbers of cartesianX and cartesianY, the intensity, the bits of cartesianZ, and the tag
abbrev pub x_at : ℕ → ℕ → ℕ
x_at start i = (start + 3 * i) % 2 ^ 20

abbrev pub y_at : ℕ → ℕ → ℕ
y_at start i = (start + 5 * i) % 2 ^ 20

abbrev pub intensity_at : ℕ → ℕ
intensity_at i = i % 256

abbrev pub z_at : ℕ → ℕ
z_at i = 0x3F800000 + i % 2 ^ 20

abbrev pub tag_at : ℕ → List ℕ
tag_at i = replicate (i % 4) 0x61

-- the columns of so many records, the first of which has the number `first`
abbrev pub columns_from : ℕ → ℕ → ℕ → List (List Value)
columns_from start first n =
    map (λ i. whole (pos (x_at start i))) (range_with_len first n)
    ∷ map (λ i. whole (pos (y_at start i))) (range_with_len first n)
    ∷ map (λ i. whole (pos (intensity_at i))) (range_with_len first n)
    ∷ map (λ i. whole (pos 0)) (range_with_len first n)
    ∷ map (λ i. word (z_at i)) (range_with_len first n)
    ∷ map (λ i. octets (tag_at i)) (range_with_len first n)
    ∷ []

-- ---- all

unfoldable pub trial_content : ℕ → ℕ → Content
trial_content start count = record {
  tree = trial_tree count;
  bodies = records_body (columns_from start 0 count) ∷ [];
}

-- the sum of all raw numbers of cartesianX, modulo 2 ^ 64
unfoldable pub trial_sum : ℕ → ℕ → ℕ
trial_sum start count = sum_by (x_at start) (range_with_len 0 count) % 2 ^ 64
