-- What the calls that read items answer, by cases: how many were read, or the stop.
use Rattle.std.specs.Prelude.{◌≡◌, ℕ, ◌<◌, ◌≤◌, List, length, Result, Ok, Err}
use Rattle.e57_base.specs.Source.{SourceView}
use Rattle.e57_layout.specs.Values.{Value}
use Rattle.e57_stream.specs.declared.bytestream.Stopped.{Stopped}
use Rattle.e57_texts.specs.Reading.{begin_of}
use Rattle.e57_column.specs.declared.state.State.{State}
use Rattle.e57_column.specs.declared.texts.TextsRead.{TextsRead}
use Rattle.e57_column.specs.Column.{wanted}
use Rattle.e57_column.specs.Reading.{ReadsInto, StopsInto}
use Rattle.e57_column.specs.Texts.{ReadsTexts, StopsTexts}

-- as many items as the buffer has places, or as records are left; or those before a stop
abbrev pub AnswersAll : {X : Type 0} → X → (X → Value) → SourceView → State → List X → Result ℕ Stopped → SourceView → State → List X → Type 0
AnswersAll default value old before out (Ok n) new after out' =
    (n ≡ wanted before (length out)) × ReadsInto default value old before n out out' new after
AnswersAll default value old before out (Err stopped) new after out' =
    StopsInto default value old before (wanted before (length out)) stopped.done stopped.fault out out' new after

-- one item or more, for which the buffer has places; or those before a stop
abbrev pub AnswersSome : {X : Type 0} → X → (X → Value) → SourceView → State → List X → Result ℕ Stopped → SourceView → State → List X → Type 0
AnswersSome default value old before out (Ok n) new after out' =
    (0 < n) × (n ≤ length out) × ReadsInto default value old before n out out' new after
AnswersSome default value old before out (Err stopped) new after out' =
    StopsInto default value old before (length out) stopped.done stopped.fault out out' new after

-- as many strings as there are places for ends, or as records are left, or as there is room for; or those before a stop
abbrev pub AnswersTexts : SourceView → State → (bytes ends : List ℕ) → Result TextsRead Stopped → SourceView → State → (bytes' ends' : List ℕ) → Type 0
AnswersTexts old before bytes ends (Ok read) new after bytes' ends' =
    ReadsTexts old before (wanted before (length ends)) read bytes bytes' ends ends' new after
AnswersTexts old before bytes ends (Err stopped) new after bytes' ends' =
    StopsTexts old before (wanted before (length ends)) stopped.done stopped.fault bytes bytes' ends ends' new after
