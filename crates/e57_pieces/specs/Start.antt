-- What stands before the pieces: the byte order mark and the declaration, each where it is there.
use Rattle.std.specs.Prelude.{◌≡◌, ℕ, ◌-◌, ◌||◌, ◌==◌, ◌⊎◌, Bool, true, false, List, [], ◌∷◌, ◌++◌, length, not, ◌&&◌, Option, Some, None, codes, if◌then◌else◌}
use Rattle.std.specs.Str.{bytes_eq, str_to_ascii_lowercase}
use Rattle.e57_base.specs.declared.kind.Kind.TheVariants.{Piece}
use Rattle.e57_base.specs.Fault.{fault}
use Rattle.e57_base.specs.declared.fault.TextFault.{TextFault}
use Rattle.e57_base.specs.declared.fault.TextFault.TheVariants.{Refused, Memory}
use Rattle.e57_pieces.specs.declared.piece.Attr.{Attr}
use Rattle.e57_pieces.specs.Characters.{AreCharacters}
use Rattle.e57_pieces.specs.Words.{is_space}
use Rattle.e57_pieces.specs.Grammar.{IsInside}

-- what follows the word, where the bytes begin with it
unfoldable pub strip : List ℕ → List ℕ → Option (List ℕ)
strip [] bytes = Some bytes
strip (p ∷ ps) [] = None
strip (p ∷ ps) (b ∷ bs) = if b == p then strip ps bs else None

-- the bytes EF BB BF
abbrev pub mark : List ℕ
mark = 0xEF ∷ 0xBB ∷ 0xBF ∷ []

-- what follows the byte order mark, where it is there
abbrev pub after_mark : List ℕ → List ℕ
after_mark text = unmarked text (strip mark text) where
  unmarked : List ℕ → Option (List ℕ) → List ℕ
  unmarked text None = text
  unmarked text (Some rest) = rest

-- a declaration stands here, or a fault: `<?xml`, and then white space or `?`
abbrev pub declares : List ℕ → Bool
declares text = goes_on (strip (codes "<?xml") text) where
  goes_on : Option (List ℕ) → Bool
  goes_on None = false
  goes_on (Some []) = false
  goes_on (Some (b ∷ bs)) = is_space b || b == 63

-- an attribute `encoding` is `UTF-8` in any ASCII case
abbrev pub attr_fits : Attr → Bool
attr_fits attr = not (bytes_eq attr.name (codes "encoding")) || bytes_eq (str_to_ascii_lowercase attr.value) (codes "utf-8")

abbrev pub encoding_fits : List Attr → Bool
encoding_fits [] = true
encoding_fits (attr ∷ attrs) = attr_fits attr && encoding_fits attrs

-- `<?xml`, attributes as in a start tag, white space perhaps, and `?>`
pub record IsDeclaration (spelling : List ℕ) : Type 0 where
  pub characters : AreCharacters spelling
  pub inside : List ℕ
  pub attrs : List Attr
  pub is_inside : IsInside inside attrs (codes "?>")
  pub encoding : encoding_fits attrs ≡ true
  pub spelled : spelling ≡ codes "<?xml" ++ inside

-- The pieces of the text begin with the body: it follows the optional mark and the optional declaration.
abbrev pub Begins : List ℕ → List ℕ → Type 0
Begins text body =
    ((declares (after_mark text) ≡ false) × (body ≡ after_mark text))
    ⊎ ((declares (after_mark text) ≡ true) × (spelling : List ℕ) × IsDeclaration spelling × (after_mark text ≡ spelling ++ body))

-- A declaration has to stand there and doesn't: the pieces begin nowhere.
pub record BeginsNowhere (text : List ℕ) : Type 0 where
  pub declared : declares (after_mark text) ≡ true
  pub no_declaration : (spelling rest : List ℕ) → after_mark text ≡ spelling ++ rest → IsDeclaration spelling → ⊥

-- where the declaration would stand: 3 after a byte order mark, else 0
abbrev pub start_place : List ℕ → ℕ
start_place text = length text - length (after_mark text)

-- how the search for that place fails: with the fault Piece there, unless memory runs out while a declaration is read
abbrev pub IsStartFault : List ℕ → TextFault → Type 0
IsStartFault text (Refused found) = BeginsNowhere text × (found ≡ fault Piece (start_place text) 0)
IsStartFault text Memory = declares (after_mark text) ≡ true
