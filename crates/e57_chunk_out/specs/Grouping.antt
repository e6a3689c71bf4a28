-- The fields of a cloud as kinds, columns of items that wait, and the run that is under way.
use Rattle.std.specs.Prelude.{◌≡◌, ℕ, Bool, true, false, List, [], map, Option, Some, None}
use Rattle.e57_layout.specs.Values.{ItemKind, Value}
use Rattle.e57_chunk_out.specs.Waiting.{Waiting}
use Rattle.e57_chunk_out.specs.Cutting.{streams_of}

abbrev pub kinds_of : List Waiting → List ItemKind
kinds_of fields = map (λ (w : Waiting). w.kind) fields

abbrev pub columns_of : List Waiting → List (List Value)
columns_of fields = map (λ (w : Waiting). w.items) fields

-- the streams of the groups under way, if there are any
abbrev pub run_of : Bool → List Waiting → Option (List (List ℕ))
run_of true fields = Some (streams_of fields)
run_of false fields = None

-- nothing is under way
abbrev pub IsFresh : Waiting → Type 0
IsFresh w = w.stream ≡ []
