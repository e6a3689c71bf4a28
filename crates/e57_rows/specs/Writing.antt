-- Rows while they are written.
use Rattle.std.specs.Prelude.{◌≡◌, ℕ, ◌==◌, ◌&&◌, ◌||◌, not, false, List, length, Option}
use Rattle.std.specs.Io.KnownBytes.{Appends}
use Rattle.csv.specs.Writing.{default_writer, fields_written, has_written, is_blank, row_body, text_written, writer_setup}
use Rattle.csv.specs.declared.writer.Writer.{Writer}

-- The writer has written these first cells of a row behind `base`.
pub record InRow {W : Type 0} (contents : W → Option (List ℕ)) (base : Option (List ℕ)) (cells : List (List ℕ)) (writer : Writer W) : Type 0 where
  pub setup : writer_setup writer ≡ default_writer
  pub text : Appends base (text_written contents writer) (row_body default_writer cells)
  pub count : fields_written writer ≡ length cells
  pub blank : is_blank default_writer cells ≡ (not (has_written writer) && ((length cells == 0) || (length cells == 1)))

-- The writer has written whole rows, with this text, behind `base`.
pub record AtRow {W : Type 0} (contents : W → Option (List ℕ)) (base : Option (List ℕ)) (rows : List ℕ) (writer : Writer W) : Type 0 where
  pub setup : writer_setup writer ≡ default_writer
  pub text : Appends base (text_written contents writer) rows
  pub count : fields_written writer ≡ 0
  pub clean : has_written writer ≡ false
