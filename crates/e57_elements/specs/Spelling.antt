-- The written spelling of a tree.
use Rattle.std.specs.Prelude.{ℕ, Bool, true, false, ◌==◌, List, [], ◌∷◌, ◌++◌, codes, if◌then◌else◌}
use Rattle.e57_pieces.specs.declared.piece.Attr.{Attr}
use Rattle.e57_elements.specs.Tree.{Element, element, Elements, none, more}

-- a byte of a text as it is written
unfoldable pub text_byte : ℕ → List ℕ
text_byte b =
    if b == 38 then codes "&amp;"
    else if b == 60 then codes "&lt;"
    else if b == 62 then codes "&gt;"
    else if b == 13 then codes "&#13;"
    else b ∷ []

-- a byte of a value as it is written
unfoldable pub value_byte : ℕ → List ℕ
value_byte b =
    if b == 34 then codes "&quot;"
    else if b == 9 then codes "&#9;"
    else if b == 10 then codes "&#10;"
    else text_byte b

-- bytes, each as it is written
abbrev pub written : (ℕ → List ℕ) → List ℕ → List ℕ
written byte [] = []
written byte (b ∷ bs) = byte b ++ written byte bs

-- one space, the name, `=`, and the value between `"`
abbrev pub attrs_spelling : List Attr → List ℕ
attrs_spelling [] = []
attrs_spelling (attr ∷ attrs) = codes " " ++ (attr.name ++ (codes "=" ++ (34 ∷ written value_byte attr.value ++ (34 ∷ attrs_spelling attrs))))

-- there is neither text nor a child
abbrev pub is_bare : List ℕ → Elements → Bool
is_bare [] none = true
is_bare [] (more e es) = false
is_bare (b ∷ bs) children = false

-- an empty tag, or a start tag, the text, the children and an end tag
abbrev mutual
  pub element_spelling : Element → List ℕ
  element_spelling (element name attrs text children) =
      codes "<" ++ (name ++ (attrs_spelling attrs ++ (if is_bare text children then codes "/>"
      else codes ">" ++ (written text_byte text ++ (elements_spelling children ++ (codes "</" ++ (name ++ codes ">")))))))

  pub elements_spelling : Elements → List ℕ
  elements_spelling none = []
  elements_spelling (more e es) = element_spelling e ++ elements_spelling es

-- the declaration, a line feed, and the root
abbrev pub spelling : Element → List ℕ
spelling tree = codes "<?xml version=" ++ (34 ∷ codes "1.0" ++ (34 ∷ codes " encoding=" ++ (34 ∷ codes "UTF-8" ++ (34 ∷ codes "?>" ++ (10 ∷ element_spelling tree)))))
