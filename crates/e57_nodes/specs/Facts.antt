-- What is read of one element (ASTM E2807, element types): its type, the attributes that its type needs, its text.
use Rattle.std.specs.Prelude.{ℕ, ◌+◌, ◌-◌, ◌^◌, nat_lt, nat_le, ◌==◌, ℤ, pos, negsuc, neg_ℤ, Bool, ◌&&◌, ◌||◌, List, [], ◌∷◌, length, reverse, codes, Option, Some, None, is_some, option_and_then, option_map, unwrap_or, if◌then◌else◌}
use Rattle.std.specs.List.{list_all}
use Rattle.std.specs.Str.{bytes_eq}
use Rattle.e57_pieces.specs.declared.piece.Attr.{Attr}
use Rattle.e57_pieces.specs.Words.{is_space, is_decimal, numeral}
use Rattle.e57_nodes.specs.declared.ElementType.{ElementType}
use Rattle.e57_nodes.specs.declared.ElementType.TheVariants as element_type

-- ---- numbers in texts

-- without the white space in front
unfoldable pub without_space : List ℕ → List ℕ
without_space [] = []
without_space (b ∷ bs) = if is_space b then without_space bs else b ∷ bs

-- without the white space at both ends
unfoldable pub trimmed : List ℕ → List ℕ
trimmed text = reverse (without_space (reverse (without_space text)))

-- the number, where it is below the bound
unfoldable pub when_below : ℕ → ℕ → Option ℕ
when_below bound n = if nat_lt n bound then Some n else None

-- the number that 1 to 64 decimal digits write, where it is below the bound
unfoldable pub digits_below : ℕ → List ℕ → Option ℕ
digits_below bound digits =
    if nat_lt 0 (length digits) && (nat_le (length digits) 64 && list_all is_decimal digits) then when_below bound (numeral 10 digits) else None

-- an optional `-` or `+`, and the digits of a signed number of 64 bits
unfoldable pub signed_from : List ℕ → Option ℤ
signed_from [] = None
signed_from (b ∷ bs) =
    if b == 45 then option_map (λ n. neg_ℤ (pos n)) (digits_below (2 ^ 63 + 1) bs)
    else if b == 43 then option_map pos (digits_below (2 ^ 63) bs)
    else option_map pos (digits_below (2 ^ 63) (b ∷ bs))

-- an optional `+`, and the digits of an unsigned number of 64 bits
unfoldable pub unsigned_from : List ℕ → Option ℕ
unsigned_from [] = None
unsigned_from (b ∷ bs) = if b == 43 then digits_below (2 ^ 64) bs else digits_below (2 ^ 64) (b ∷ bs)

-- the signed number that a text has, and the unsigned one
unfoldable pub signed_in : List ℕ → Option ℤ
signed_in text = signed_from (trimmed text)

unfoldable pub unsigned_in : List ℕ → Option ℕ
unsigned_in text = unsigned_from (trimmed text)

-- a signed number, or white space alone or nothing, which mean 0
unfoldable pub is_integer_text : List ℕ → Bool
is_integer_text text = list_all is_space text || is_some (signed_in text)

-- ---- attributes

-- the value of the attribute of this name
unfoldable pub value_of : List ℕ → List Attr → Option (List ℕ)
value_of name [] = None
value_of name (attr ∷ attrs) = if bytes_eq attr.name name then Some attr.value else value_of name attrs

-- what is read of a value; the default where the attribute is absent
abbrev pub read_or : {A : Type 0} → A → (List ℕ → Option A) → Option (List ℕ) → Option A
read_or default read None = Some default
read_or default read (Some value) = read value

unfoldable pub type_named : List ℕ → Option ElementType
type_named word =
    if bytes_eq word (codes "Structure") then Some element_type.Structure
    else if bytes_eq word (codes "Vector") then Some element_type.Vector
    else if bytes_eq word (codes "CompressedVector") then Some element_type.CompressedVector
    else if bytes_eq word (codes "Integer") then Some element_type.Integer
    else if bytes_eq word (codes "ScaledInteger") then Some element_type.ScaledInteger
    else if bytes_eq word (codes "Float") then Some element_type.Float
    else if bytes_eq word (codes "String") then Some element_type.String
    else if bytes_eq word (codes "Blob") then Some element_type.Blob
    else None

-- how many bits a floating point number of this precision has
unfoldable pub precision_named : List ℕ → Option ℕ
precision_named word = if bytes_eq word (codes "single") then Some 32 else if bytes_eq word (codes "double") then Some 64 else None

-- the ends of the signed numbers of 64 bits, which are the limits where none are stated
abbrev pub least_integer : ℤ
least_integer = negsuc (2 ^ 63 - 1)

abbrev pub greatest_integer : ℤ
greatest_integer = pos (2 ^ 63 - 1)

-- the type that attributes state
unfoldable pub type_in : List Attr → Option ElementType
type_in attrs = option_and_then type_named (value_of (codes "type") attrs)

-- What is read of an element; none where it isn't readable. That its `fileOffset` is readable is one of them, but not where it leads.
pub record Facts : Type 0 where
  pub name : List ℕ
  pub element_type : Option ElementType
  pub minimum : Option ℤ
  pub maximum : Option ℤ
  pub scale : List ℕ
  pub offset : List ℕ
  pub precision : Option ℕ
  pub has_place : Bool
  pub record_count : Option ℕ
  pub blob_length : Option ℕ
  pub is_integer : Bool

-- of the element with this name, these attributes and this text
unfoldable pub facts_of : List ℕ → List Attr → List ℕ → Facts
facts_of name attrs text = record {
  name = name;
  element_type = type_in attrs;
  minimum = read_or least_integer signed_in (value_of (codes "minimum") attrs);
  maximum = read_or greatest_integer signed_in (value_of (codes "maximum") attrs);
  scale = unwrap_or (value_of (codes "scale") attrs) (codes "1");
  offset = unwrap_or (value_of (codes "offset") attrs) (codes "0");
  precision = read_or 64 precision_named (value_of (codes "precision") attrs);
  has_place = is_some (option_and_then unsigned_in (value_of (codes "fileOffset") attrs));
  record_count = option_and_then unsigned_in (value_of (codes "recordCount") attrs);
  blob_length = option_and_then unsigned_in (value_of (codes "length") attrs);
  is_integer = is_integer_text text;
}
