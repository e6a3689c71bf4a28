-- What a reader of the code gave, against a reading function.
use Rattle.std.specs.Prelude.{◌≡◌, List, ℕ, true, ◌++◌, Option, Some, None, Result, Ok, Err, MatchOption}
use Rattle.e57_pieces.specs.Cut.{NoPiece, IsNext}
use Rattle.e57_pieces.specs.Start.{after_mark, declares, IsDeclaration, BeginsNowhere}
use Rattle.e57_pieces.specs.Reading.{IsCleanAt, next_at}
use Rattle.e57_pieces.specs.declared.piece.Piece.{Piece}
use Rattle.e57_pieces.specs.declared.stop.Stop.{Stop}
use Rattle.e57_pieces.specs.declared.stop.Stop.TheVariants.{Memory, Absent}

abbrev pub Stops : {Y : Type 0} → Stop → Option Y → Type 0
Stops Memory read = Unit {0}
Stops Absent read = read ≡ None

-- What a function returned, seen by view, is what reading gives, unless memory ran out.
abbrev pub Gives : {X Y : Type 0} → (X → Y) → Result X Stop → Option Y → Type 0
Gives view (Ok x) read = read ≡ Some (view x)
Gives view (Err stop) read = Stops stop read

-- a declaration stands before the rest
abbrev pub DeclaredBefore : List ℕ → List ℕ → Type 0
DeclaredBefore text rest = (spelling : List ℕ) × IsDeclaration spelling × (text ≡ spelling ++ rest)

-- why no piece is next, and why no declaration stands there
abbrev pub StopsNext : Stop → List ℕ → Type 0
StopsNext Memory text = Unit {0}
StopsNext Absent text = NoPiece text

abbrev pub StopsDeclaration : Stop → List ℕ → Type 0
StopsDeclaration Memory text = Unit {0}
StopsDeclaration Absent text = (spelling rest : List ℕ) → text ≡ spelling ++ rest → IsDeclaration spelling → ⊥

abbrev pub StopsStart : Stop → List ℕ → Type 0
StopsStart Memory text = declares (after_mark text) ≡ true
StopsStart Absent text = BeginsNowhere text

-- a declaration stands before the rest, whose first n bytes are characters
abbrev pub DeclaredClean : List ℕ → List ℕ → ℕ → Type 0
DeclaredClean text rest n = DeclaredBefore text rest × IsCleanAt rest n

-- where a piece is next, it was found, and its rest is left
abbrev pub IsFoundNext : List ℕ → Option Piece → List ℕ → Type 0
IsFoundNext text found left = (piece : Piece) (rest : List ℕ) → IsNext text piece rest → (found ≡ Some piece) × (left ≡ rest)

-- the reading function gives what was found, and what is left
abbrev pub IsNextRead : List ℕ → Option Piece → List ℕ → Type 0
IsNextRead text found left = MatchOption found (next_at text ≡ None) (λ piece. next_at text ≡ Some (piece, left))
