-- The first fault of a text that isn't the spelling of a lawful tree.
use Rattle.std.specs.Prelude.{◌≡◌, ℕ, ◌+◌, ◌-◌, nat_lt, ◌⊎◌, List, [], ◌∷◌, ◌++◌, length, Option, Some, None, if◌then◌else◌, IsUtf8}
use Rattle.std.specs.Str.Lossy.{utf8_valid_len}
use Rattle.e57_base.specs.Fault.{fault}
use Rattle.e57_base.specs.declared.fault.Fault.{Fault}
use Rattle.e57_base.specs.declared.fault.TextFault.{TextFault}
use Rattle.e57_base.specs.declared.fault.TextFault.TheVariants.{Refused, Memory}
use Rattle.e57_base.specs.declared.kind.Kind.TheVariants as kind
use Rattle.e57_pieces.specs.declared.piece.Piece.{Piece}
use Rattle.e57_pieces.specs.declared.piece.Piece.TheVariants.{Start, Empty, End, Comment, CData, Text}
use Rattle.e57_pieces.specs.Cut.{IsFront, IsNext, NoPiece}
use Rattle.e57_pieces.specs.Start.{Begins, IsStartFault}
use Rattle.e57_elements.specs.Limits.{max_attrs, max_depth, max_elements}
use Rattle.e57_elements.specs.Tree.{Element}
use Rattle.e57_elements.specs.Nested.{Nested, Alive}
use Rattle.e57_elements.specs.Lawful.{IsLawful}
use Rattle.e57_elements.specs.Spells.{Spells}

-- ---- the limits

-- how many elements a piece begins, opens and closes
abbrev pub begun : Piece → ℕ
begun (Start name attrs) = 1
begun (Empty name attrs) = 1
begun (End name) = 0
begun Comment = 0
begun (CData text) = 0
begun (Text text) = 0

abbrev pub opened : Piece → ℕ
opened (Start name attrs) = 1
opened (Empty name attrs) = 0
opened (End name) = 0
opened Comment = 0
opened (CData text) = 0
opened (Text text) = 0

abbrev pub closed : Piece → ℕ
closed (Start name attrs) = 0
closed (Empty name attrs) = 0
closed (End name) = 1
closed Comment = 0
closed (CData text) = 0
closed (Text text) = 0

-- over a list of pieces
abbrev pub total : (Piece → ℕ) → List Piece → ℕ
total count [] = 0
total count (piece ∷ pieces) = count piece + total count pieces

-- how many elements are open after the pieces
abbrev pub open_after : List Piece → ℕ
open_after pieces = total opened pieces - total closed pieces

-- the first limit that an element passes, by its number
abbrev pub limit : ℕ → ℕ → ℕ → Option ℕ
limit attrs depth place =
    if nat_lt max_attrs attrs then Some 1
    else if nat_lt max_depth depth then Some 2
    else if nat_lt max_elements place then Some 3
    else None

-- the first limit that a piece passes which stands after these
abbrev pub passes : List Piece → Piece → Option ℕ
passes before (Start name attrs) = limit (length attrs) (open_after before + 1) (total begun before + 1)
passes before (Empty name attrs) = limit (length attrs) (open_after before + 1) (total begun before + 1)
passes before (End name) = None
passes before Comment = None
passes before (CData text) = None
passes before (Text text) = None

-- ---- the faults

-- No piece has a fault: they begin a nested list, and none passes a limit.
pub record AreSound (pieces : List Piece) : Type 0 where
  pub alive : Alive pieces
  pub within : (before after : List Piece) (piece : Piece) → pieces ≡ before ++ piece ∷ after → passes before piece ≡ None

-- The piece at this byte has the fault: with it the pieces begin no nested list; or else it passes a limit.
abbrev pub IsPieceFault : List Piece → Piece → ℕ → Fault → Type 0
IsPieceFault before piece byte found =
    ((Alive (before ++ piece ∷ []) → ⊥) × (found ≡ fault kind.Nest byte 0))
    ⊎ (Alive (before ++ piece ∷ []) × (b : ℕ) × (passes before piece ≡ Some b) × (found ≡ fault kind.TreeLimit byte b))

-- No piece is spelled at this byte, which is the text's length where the text ends: it ends before it is nested.
abbrev pub IsStopFault : List Piece → List ℕ → ℕ → Fault → Type 0
IsStopFault before [] byte found = ((tree : Element) → Nested before tree → ⊥) × (found ≡ fault kind.Nest byte 0)
IsStopFault before (b ∷ bs) byte found = found ≡ fault kind.Piece byte 0

-- Sound pieces lead up to here, and what is here has the fault. The text has this length.
pub record IsBodyFault (len : ℕ) (body : List ℕ) (found : Fault) : Type 0 where
  pub before : List Piece
  pub here : List ℕ
  pub is_front : IsFront body before here
  pub are_sound : AreSound before
  pub is_fault :
      ((piece : Piece) × (rest : List ℕ) × IsNext here piece rest × IsPieceFault before piece (len - length here) found)
      ⊎ (NoPiece here × IsStopFault before here (len - length here) found)

-- The first fault: the text isn't UTF-8; or a declaration is missing; or else it is the first of the pieces.
abbrev pub IsFirstFault : List ℕ → Fault → Type 0
IsFirstFault text found =
    ((IsUtf8 text → ⊥) × (found ≡ fault kind.XmlUtf8 (utf8_valid_len text) 0))
    ⊎ (IsUtf8 text × IsStartFault text (Refused found))
    ⊎ (IsUtf8 text × (body : List ℕ) × Begins text body × IsBodyFault (length text) body found)

-- How the reading fails: with the first fault; or memory runs out, but not where the text isn't UTF-8.
abbrev pub IsReadFault : List ℕ → TextFault → Type 0
IsReadFault text (Refused found) = IsFirstFault text found
IsReadFault text Memory = IsUtf8 text

-- The text spells a lawful tree, or has a first fault.
abbrev pub HasAnswer : List ℕ → Type 0
HasAnswer text = ((tree : Element) × Spells text tree × IsLawful tree) ⊎ ((found : Fault) × IsFirstFault text found)

-- It doesn't do both.
abbrev pub HasNotBoth : List ℕ → Type 0
HasNotBoth text = (tree : Element) (found : Fault) → Spells text tree → IsLawful tree → IsFirstFault text found → ⊥
