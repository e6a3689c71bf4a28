-- The rows of a text, read one after another.
use Rattle.std.specs.Prelude.{◌≡◌, ℕ, ◌+◌, Bool, true, false, List, [], ◌∷◌, length, Option, Some, None, IsSome}
use Rattle.std.specs.Borrow.{Bor}
use Rattle.csv.specs.Machine.{ends_at_end}
use Rattle.csv.specs.Reading.{Ready, default_config, is_flexible, reader_config, reader_state, reader_trim, records_from, source_of}
use Rattle.csv.specs.declared.parser.State.{State}
use Rattle.csv.specs.declared.reader.Reader.{Reader}
use Rattle.csv.specs.declared.reader.Trim.TheVariants as trim
use Rattle.e57_base.specs.declared.fault.AskFault.{AskFault}
use Rattle.e57_base.specs.declared.fault.RunFault.{RunFault}
use Rattle.e57_base.specs.declared.fault.RunFault.TheVariants.{Refused, Source, Out, Memory, Ask}
use Rattle.e57_import.specs.Rows.{Row}

-- the bytes that the reader hasn't read
abbrev pub unread : Reader (Bor (List ℕ)) → Option (List ℕ)
unread reader = source_of (λ (text : Bor (List ℕ)). Some text.now) reader

-- the rows of these bytes, from a state between two rows
abbrev pub rows_from : Option (List ℕ) → State → List Row
rows_from None state = []
rows_from (Some bytes) state = records_from default_config (length bytes + 1) state bytes

-- the rows that are left
abbrev pub rows_left : Reader (Bor (List ℕ)) → List Row
rows_left reader = rows_from (unread reader) (reader_state reader)

-- The reader stands before a row or at the end of the text.
pub record IsAtRow (reader : Reader (Bor (List ℕ))) : Type 0 where
  pub config : reader_config reader ≡ default_config
  pub trim : reader_trim reader ≡ trim.None
  pub ready : Ready reader
  pub known : IsSome (unread reader)
  pub between : ends_at_end (reader_state reader) ≡ false

-- a row was there, and these are its cells; or none was
abbrev pub TakesRow : Bool → Row → Reader (Bor (List ℕ)) → Reader (Bor (List ℕ)) → Type 0
TakesRow true cells old new = IsAtRow new × (rows_left old ≡ cells ∷ rows_left new)
TakesRow false cells old new = rows_left old ≡ []

-- why rows were not taken: the fault that they have, or memory ran out
abbrev pub IsRowsCause : Option AskFault → RunFault → Type 0
IsRowsCause found (Refused fault) = ⊥
IsRowsCause found Source = ⊥
IsRowsCause found Out = ⊥
IsRowsCause found Memory = Unit {0}
IsRowsCause found (Ask why) = found ≡ Some why
