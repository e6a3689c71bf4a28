-- A column of integers that is ready to be read, and a field of integers.
use Rattle.std.specs.Prelude.{◌≡◌, ℕ, ◌<◌, Some}
use Rattle.e57_lib.specs.Layout.Values.{item_kind, IsValidField}
use Rattle.e57_lib.specs.Layout.field.Field.{Field}
use Rattle.e57_lib.specs.Layout.section.Section.{Section}
use Rattle.e57_lib.specs.Column.state.State.{State}
use Rattle.e57_lib.specs.Column.Column.{kind_of, placed}
use Rattle.e57_lib.specs.Column.Reading.{AreWhole}

-- The column is one of this section's, has integers, and is placed at this record.
pub record IsReady (s : Section) (i : ℕ) (c : State) : Type 0 where
  pub of_section : c.stream.section ≡ s
  pub integers : AreWhole (kind_of c.items)
  pub is_at : placed c ≡ Some i

-- This is one of so many fields, with its number, and has integers.
pub record IsWholeField (count number : ℕ) (field : Field) : Type 0 where
  pub within : number < count
  pub valid : IsValidField field
  pub integers : AreWhole (item_kind field.kind)
