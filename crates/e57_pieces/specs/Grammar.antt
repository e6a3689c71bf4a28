-- The grammar of the pieces: which bytes spell which piece. References are replaced in the piece.
use Rattle.std.specs.Prelude.{◌≡◌, ◌≢◌, ℕ, ◌<◌, ◌≤◌, Bool, true, ◌⊎◌, ◌&&◌, not, List, [], ◌∷◌, ◌++◌, length, encode_utf8, codes}
use Rattle.std.specs.List.{AllByRecursion, flat_map, list_any}
use Rattle.std.specs.Str.{bytes_eq}
use Rattle.e57_pieces.specs.declared.piece.Attr.{Attr}
use Rattle.e57_pieces.specs.declared.piece.Piece.{Piece}
use Rattle.e57_pieces.specs.declared.piece.Piece.TheVariants.{Start, Empty, End, Comment, CData, Text}
use Rattle.e57_pieces.specs.Characters.{is_character, AreCharacters}
use Rattle.e57_pieces.specs.Words.{is_space, is_decimal, is_hexadecimal, is_plain, Each, IsName, numeral, max_digits, Absent}

-- ---- references

-- the five by name
abbrev pub IsNamed : List ℕ → ℕ → Type 0
IsNamed spelling c =
    ((spelling ≡ codes "&lt;") × (c ≡ 60)) ⊎ ((spelling ≡ codes "&gt;") × (c ≡ 62)) ⊎ ((spelling ≡ codes "&amp;") × (c ≡ 38))
    ⊎ ((spelling ≡ codes "&apos;") × (c ≡ 39)) ⊎ ((spelling ≡ codes "&quot;") × (c ≡ 34))

-- the mark, 1 to 10 digits, and `;`: their number, which is that of a character
pub record IsNumbered (mark : List ℕ) (is_digit : ℕ → Bool) (base : ℕ) (spelling : List ℕ) (c : ℕ) : Type 0 where
  pub digits : List ℕ
  pub each : Each is_digit digits
  pub some : 0 < length digits
  pub few : length digits ≤ max_digits
  pub value : c ≡ numeral base digits
  pub character : is_character c ≡ true
  pub spelled : spelling ≡ mark ++ digits ++ codes ";"

abbrev pub IsReference : List ℕ → ℕ → Type 0
IsReference spelling c = IsNamed spelling c ⊎ IsNumbered (codes "&#") is_decimal 10 spelling c ⊎ IsNumbered (codes "&#x") is_hexadecimal 16 spelling c

-- ---- text with references

-- a plain byte, which means itself, or a reference, which means the bytes of its character
abbrev pub IsPart : (ℕ → Bool) → List ℕ → List ℕ → Type 0
IsPart plain spelling meaning =
    ((b : ℕ) × (plain b ≡ true) × (spelling ≡ b ∷ []) × (meaning ≡ b ∷ [])) ⊎ ((c : ℕ) × IsReference spelling c × (meaning ≡ encode_utf8 c))

-- the spelling is parts one after another, and the meaning is what they mean: each part is its spelling and its meaning
pub record Means (plain : ℕ → Bool) (spelling meaning : List ℕ) : Type 0 where
  pub parts : List (List ℕ × List ℕ)
  pub each : AllByRecursion (λ part. IsPart plain part.0 part.1) parts
  pub spelled : spelling ≡ flat_map (λ part. part.0) parts
  pub meant : meaning ≡ flat_map (λ part. part.1) parts

-- ---- attributes

-- white space, the name, `=` with white space round it perhaps, and the value between two `"` or two `'`
pub record IsAttr (spelling : List ℕ) (attr : Attr) : Type 0 where
  pub before : List ℕ
  pub left : List ℕ
  pub right : List ℕ
  pub quote : ℕ
  pub value : List ℕ
  pub some_space : 0 < length before
  pub spaces : Each is_space before × Each is_space left × Each is_space right
  pub name : IsName attr.name
  pub quotes : (quote ≡ 34) ⊎ (quote ≡ 39)
  pub means : Means (is_plain quote) value attr.value
  pub spelled : spelling ≡ before ++ (attr.name ++ (left ++ (codes "=" ++ (right ++ (quote ∷ value ++ quote ∷ [])))))

-- attributes one after another
abbrev pub AreAttrs : List ℕ → List Attr → Type 0
AreAttrs spelling [] = spelling ≡ []
AreAttrs spelling (attr ∷ attrs) = (front : List ℕ) × (back : List ℕ) × (spelling ≡ front ++ back) × IsAttr front attr × AreAttrs back attrs

-- no name is that of a later attribute
abbrev pub differ : List Attr → Bool
differ [] = true
differ (attr ∷ attrs) = not (list_any (λ (other : Attr). bytes_eq attr.name other.name) attrs) && differ attrs

-- what stands after a name in a tag: attributes whose names differ, white space perhaps, and the tag's close
pub record IsInside (spelling : List ℕ) (attrs : List Attr) (close : List ℕ) : Type 0 where
  pub front : List ℕ
  pub space : List ℕ
  pub attributes : AreAttrs front attrs
  pub names_differ : differ attrs ≡ true
  pub white : Each is_space space
  pub spelled : spelling ≡ front ++ (space ++ close)

-- ---- pieces

-- `<`, a name, attributes, white space perhaps, and the close
pub record IsTag (spelling name : List ℕ) (attrs : List Attr) (close : List ℕ) : Type 0 where
  pub inside : List ℕ
  pub is_name : IsName name
  pub is_inside : IsInside inside attrs close
  pub spelled : spelling ≡ codes "<" ++ (name ++ inside)

-- `</`, a name, white space perhaps, and `>`
pub record IsEndTag (spelling name : List ℕ) : Type 0 where
  pub space : List ℕ
  pub is_name : IsName name
  pub white : Each is_space space
  pub spelled : spelling ≡ codes "</" ++ (name ++ (space ++ codes ">"))

-- `<!--`, a body without `--` that doesn't end in `-`, and `-->`
pub record IsComment (spelling : List ℕ) : Type 0 where
  pub body : List ℕ
  pub no_dashes : Absent (codes "--") body
  pub no_dash_last : (front : List ℕ) → body ≢ front ++ codes "-"
  pub spelled : spelling ≡ codes "<!--" ++ (body ++ codes "-->")

-- `<![CDATA[`, the text without `]]>`, and `]]>`
pub record IsCData (spelling text : List ℕ) : Type 0 where
  pub no_close : Absent (codes "]]>") text
  pub spelled : spelling ≡ codes "<![CDATA[" ++ (text ++ codes "]]>")

-- one or more parts, plain where they are neither `<` nor `&` (as in a value whose quote is `<`)
pub record IsRun (spelling text : List ℕ) : Type 0 where
  pub some : 0 < length spelling
  pub means : Means (is_plain 60) spelling text

-- the six forms
abbrev pub Spelled : List ℕ → Piece → Type 0
Spelled spelling (Start name attrs) = IsTag spelling name attrs (codes ">")
Spelled spelling (Empty name attrs) = IsTag spelling name attrs (codes "/>")
Spelled spelling (End name) = IsEndTag spelling name
Spelled spelling Comment = IsComment spelling
Spelled spelling (CData text) = IsCData spelling text
Spelled spelling (Text text) = IsRun spelling text

-- The bytes are characters, and spell the piece.
pub record IsPiece (spelling : List ℕ) (piece : Piece) : Type 0 where
  pub characters : AreCharacters spelling
  pub spelled : Spelled spelling piece
