-- The cut of a text into pieces.
use Rattle.std.specs.Prelude.{◌≡◌, List, [], ◌∷◌, ◌++◌, ℕ}
use Rattle.e57_pieces.specs.declared.piece.Piece.{Piece}
use Rattle.e57_pieces.specs.declared.piece.Piece.TheVariants.{Start, Empty, End, Comment, CData, Text}
use Rattle.e57_pieces.specs.Grammar.{IsPiece}

-- No piece is spelled at the front of the text.
abbrev pub NoPiece : List ℕ → Type 0
NoPiece text = (spelling rest : List ℕ) (piece : Piece) → text ≡ spelling ++ rest → IsPiece spelling piece → ⊥

-- No text run is spelled at the front of the text.
abbrev pub NoRun : List ℕ → Type 0
NoRun text = (spelling rest run : List ℕ) → text ≡ spelling ++ rest → IsPiece spelling (Text run) → ⊥

-- A text run is as long as possible: no run is spelled after it.
abbrev pub IsWhole : Piece → List ℕ → Type 0
IsWhole (Start name attrs) rest = Unit {0}
IsWhole (Empty name attrs) rest = Unit {0}
IsWhole (End name) rest = Unit {0}
IsWhole Comment rest = Unit {0}
IsWhole (CData text) rest = Unit {0}
IsWhole (Text text) rest = NoRun rest

-- The piece is spelled at the front of the text, and the rest follows it.
pub record IsNext (text : List ℕ) (piece : Piece) (rest : List ℕ) : Type 0 where
  pub spelling : List ℕ
  pub is_piece : IsPiece spelling piece
  pub is_whole : IsWhole piece rest
  pub parts : text ≡ spelling ++ rest

-- The pieces are spelled one after another at the front of the text, and the rest follows them.
abbrev pub IsFront : List ℕ → List Piece → List ℕ → Type 0
IsFront text [] rest = text ≡ rest
IsFront text (piece ∷ pieces) rest = (after : List ℕ) × IsNext text piece after × IsFront after pieces rest

-- The cut: the longest such list of pieces, since none is spelled on the rest.
pub record IsCut (text : List ℕ) (pieces : List Piece) (rest : List ℕ) : Type 0 where
  pub is_front : IsFront text pieces rest
  pub is_longest : NoPiece rest

-- The text has at most one cut.
abbrev pub HasOneCut : List ℕ → Type 0
HasOneCut text = (xs ys : List Piece) (r s : List ℕ) → IsCut text xs r → IsCut text ys s → (xs ≡ ys) × (r ≡ s)
