-- How pieces nest to a tree.
use Rattle.std.specs.Prelude.{◌≡◌, ℕ, Bool, true, ◌⊎◌, List, [], ◌∷◌, ◌++◌, if◌then◌else◌}
use Rattle.std.specs.List.{AllByRecursion, list_all}
use Rattle.e57_pieces.specs.declared.piece.Piece.{Piece}
use Rattle.e57_pieces.specs.declared.piece.Piece.TheVariants.{Start, Empty, End, Comment, CData, Text}
use Rattle.e57_pieces.specs.Words.{is_space}
use Rattle.e57_elements.specs.Tree.{Element, element, Elements, none, more}

-- each byte is white space
abbrev pub only_space : List ℕ → Bool
only_space bytes = list_all is_space bytes

-- ---- text

-- a text run, CDATA or a comment
abbrev pub IsTextual : Piece → Type 0
IsTextual (Start name attrs) = ⊥
IsTextual (Empty name attrs) = ⊥
IsTextual (End name) = ⊥
IsTextual Comment = Unit {0}
IsTextual (CData text) = Unit {0}
IsTextual (Text text) = Unit {0}

-- what a piece adds to the text that it stands in
abbrev pub text_of : Piece → List ℕ
text_of (Start name attrs) = []
text_of (Empty name attrs) = []
text_of (End name) = []
text_of Comment = []
text_of (CData text) = text
text_of (Text text) = text

-- what pieces add one after another
abbrev pub texts_of : List Piece → List ℕ
texts_of [] = []
texts_of (piece ∷ pieces) = text_of piece ++ texts_of pieces

-- Text runs, CDATA and comments, whose texts joined are this text.
pub record AreTexts (pieces : List Piece) (text : List ℕ) : Type 0 where
  pub each : AllByRecursion IsTextual pieces
  pub joined : text ≡ texts_of pieces

-- the text of an element with these children: nothing, where it has children and the text is white space alone
abbrev pub kept : Elements → List ℕ → List ℕ
kept none text = text
kept (more e es) text = if only_space text then [] else text

-- ---- elements

abbrev mutual
  -- The pieces are the element: an empty tag, or a start tag, a content, and an end tag with the same name.
  pub IsElement : Element → List Piece → Type 0
  IsElement (element name attrs text children) pieces =
      ((pieces ≡ Empty name attrs ∷ []) × (text ≡ []) × (children ≡ none))
      ⊎ ((inside : List Piece) × (runs : List ℕ) × (pieces ≡ Start name attrs ∷ (inside ++ End name ∷ [])) × IsContent children inside runs × (text ≡ kept children runs))

  -- The pieces are a content with these children, in which this text stands.
  pub IsContent : Elements → List Piece → List ℕ → Type 0
  IsContent none pieces text = AreTexts pieces text
  IsContent (more e es) pieces text =
      (before inside after : List Piece) × (first rest : List ℕ) × (pieces ≡ before ++ (inside ++ after)) × (text ≡ first ++ rest)
      × AreTexts before first × IsElement e inside × IsContent es after rest

-- ---- the whole

-- a comment, or a text run of white space alone
abbrev pub IsOuter : Piece → Type 0
IsOuter (Start name attrs) = ⊥
IsOuter (Empty name attrs) = ⊥
IsOuter (End name) = ⊥
IsOuter Comment = Unit {0}
IsOuter (CData text) = ⊥
IsOuter (Text text) = only_space text ≡ true

-- Comments and white space, then one element, then comments and white space.
pub record Nested (pieces : List Piece) (tree : Element) : Type 0 where
  pub before : List Piece
  pub inside : List Piece
  pub after : List Piece
  pub parts : pieces ≡ before ++ (inside ++ after)
  pub outer_before : AllByRecursion IsOuter before
  pub is_element : IsElement tree inside
  pub outer_after : AllByRecursion IsOuter after

-- The pieces begin some list that is nested.
pub record Alive (pieces : List Piece) : Type 0 where
  pub rest : List Piece
  pub tree : Element
  pub nested : Nested (pieces ++ rest) tree
