-- A row written cell by cell, and rows one after another.
use Rattle.std.specs.Prelude.{◌≡◌, ◌≢◌, ℕ, ◌+◌, ◌-◌, ◌^◌, ◌<◌, ◌==◌, not, min, true, false, List, [], ◌∷◌, ◌++◌, length, Option, Some, None}
use Rattle.std.specs.Io.KnownBytes.{Appends, Keeps}
use Rattle.std.proofs.Common.{refl, subst, ◌∙◌, arith, length-append}
use Rattle.csv.specs.declared.writer.QuoteStyle.TheVariants as style
use Rattle.csv.specs.declared.writer.WriterBuilder.{WriterBuilder}
use Rattle.csv.specs.declared.writer.Writer.{Writer}
use Rattle.csv.specs.Writing.{default_writer, field_text, fields_written, has_written, is_blank, next_sep, row_body, tail_text, text_written, writer_setup}
use Rattle.csv.proofs.WriteFacts.{appends-more, appends-none, blank-more, row-final, row-more}
use Rattle.e57_rows.specs.Cells.{csv_row}
use Rattle.e57_rows.specs.Writing.{AtRow, InRow}

plain : (setup : WriterBuilder) → setup ≡ default_writer → setup.style ≢ style.NonNumeric
plain setup is = rw is (λ e. cc e)

-- one more cell
pub text_more : {W : Type 0} (contents : W → Option (List ℕ)) (old new : Writer W) (text : List ℕ)
    → ((writer_setup old).style ≢ style.NonNumeric → Appends (text_written contents old) (text_written contents new) (next_sep (writer_setup old) (fields_written old) ++ field_text (writer_setup old) text))
    → writer_setup new ≡ writer_setup old
    → fields_written new ≡ min (fields_written old + 1) (2 ^ 64 - 1)
    → (has_written old ≡ false → (writer_setup old).style ≢ style.NonNumeric → has_written new ≡ not (length (field_text (writer_setup old) text) == 0))
    → (has_written old ≡ true → has_written new ≡ true)
    → (base : Option (List ℕ)) (cells : List (List ℕ)) → length cells + 1 < 2 ^ 64 → InRow contents base cells old → InRow contents base (cells ++ text ∷ []) new
text_more contents old new text appends same count wrote stays base cells few row =
    let numbers = plain (writer_setup old) row.setup in
    let long : length (cells ++ text ∷ []) ≡ length cells + 1 = length-append cells (text ∷ []) in
    let piece = rw (row.setup, row.count) at (appends numbers) in
    let before = row.count in
    record {
      setup = same ∙ row.setup;
      text = rw (row-more default_writer cells text) (appends-more base (text_written contents old) (text_written contents new) (row_body default_writer cells) (next_sep default_writer (length cells) ++ field_text default_writer text) row.text piece);
      count = omega (arith, count, before, few, long);
      blank = rw long (blank-more default_writer cells text (has_written old) (has_written new) row.blank (λ none. rw row.setup at (wrote none numbers)) stays);
    }

-- a row's end
pub row_ends : {W : Type 0} (contents : W → Option (List ℕ)) (old new : Writer W)
    → Appends (text_written contents old) (text_written contents new) (tail_text (writer_setup old) (has_written old) (fields_written old)) → fields_written new ≡ 0 → has_written new ≡ false → writer_setup new ≡ writer_setup old
    → (base : Option (List ℕ)) (cells : List (List ℕ)) → InRow contents base cells old → AtRow contents base (csv_row cells) new
row_ends contents old new appends count clean same base cells row = record {
  setup = same ∙ row.setup;
  text = row-final base (text_written contents old) (text_written contents new) default_writer cells (has_written old) (length cells) row.text row.blank (rw (row.setup, row.count) at appends);
  count = count;
  clean = clean;
}

-- a row begins behind whole rows
pub row_begins : {W : Type 0} (contents : W → Option (List ℕ)) (base : Option (List ℕ)) (rows : List ℕ) (writer : Writer W) → AtRow contents base rows writer → InRow contents (text_written contents writer) [] writer
unfolding is_blank
row_begins contents base rows writer at_row = record {
  setup = at_row.setup;
  text = appends-none (text_written contents writer);
  count = at_row.count;
  blank = rw at_row.clean refl;
}

-- whole rows, and one more
pub rows_more : {W : Type 0} (contents : W → Option (List ℕ)) (base : Option (List ℕ)) (rows row : List ℕ) (old new : Writer W) → AtRow contents base rows old → AtRow contents (text_written contents old) row new → AtRow contents base (rows ++ row) new
rows_more contents base rows row old new first next = record {
  setup = next.setup;
  text = appends-more base (text_written contents old) (text_written contents new) rows row first.text next.text;
  count = next.count;
  clean = next.clean;
}

-- the first row begins
pub row_first : {W : Type 0} (contents : W → Option (List ℕ)) (base : Option (List ℕ)) (writer : Writer W) → AtRow contents base [] writer → InRow contents base [] writer
unfolding is_blank
row_first contents base writer at_row = record {
  setup = at_row.setup;
  text = at_row.text;
  count = at_row.count;
  blank = rw at_row.clean refl;
}

-- a new writer
pub rows_none : {W : Type 0} (contents : W → Option (List ℕ)) (writer : Writer W) → writer_setup writer ≡ default_writer → fields_written writer ≡ 0 → has_written writer ≡ false → AtRow contents (text_written contents writer) [] writer
rows_none contents writer setup count clean = record { setup = setup; text = appends-none (text_written contents writer); count = count; clean = clean }

kept_text : (written : Option (List ℕ)) (text rows : List ℕ) → Appends (Some []) written rows → Keeps written (Some text) → text ≡ rows
kept_text None text rows appends keeps = absurd appends
kept_text (Some xs) text rows appends keeps = keeps ∙ appends

-- the bytes of a new writer into which whole rows were written
pub whole_text : {W : Type 0} (contents : W → Option (List ℕ)) (first last : Writer W) (text rows : List ℕ)
    → writer_setup first ≡ default_writer → fields_written first ≡ 0 → has_written first ≡ false → text_written contents first ≡ Some []
    → ((base : Option (List ℕ)) → AtRow contents base [] first → AtRow contents base rows last)
    → Keeps (text_written contents last) (Some text) → text ≡ rows
whole_text contents first last text rows setup count clean none wrote keeps =
    let at_row = wrote (Some []) (subst (λ (base : Option (List ℕ)). AtRow contents base [] first) none (rows_none contents first setup count clean)) in
    kept_text (text_written contents last) text rows at_row.text keeps
