-- Rows of a text, read one after another.
use Rattle.std.proofs.Common.{◌≡◌, ℕ, ◌+◌, ◌≤◌, Bool, true, false, List, [], ◌∷◌, length, Option, Some, None, Bor, refl, sym, ap, subst, ◌∙◌}
use Rattle.std.specs.Prelude.{IsSome}
use Rattle.csv.specs.Machine.{Read, ends_at_end, next_record}
use Rattle.csv.specs.Reading.{Ready, Reached, ReadRecord, default_config, records_from, source_of}
use Rattle.csv.specs.declared.parser.State.{State}
use Rattle.csv.specs.declared.parser.State.TheVariants as st
use Rattle.csv.specs.declared.reader.Reader.{Reader}
use Rattle.csv.specs.declared.reader.Trim.TheVariants as trim
use Rattle.csv.proofs.ReadFacts.{rows-end, rows-more}
use Rattle.e57_import.specs.Rows.{Row}
use Rattle.e57_import.specs.Walking.{rows_from, rows_left, unread, IsAtRow, TakesRow}
use Rattle.e57_import.proofs.Records.{next, records_end, records_more}

-- the state and the bytes behind one row
one_row : (s s2 : State) (bytes z : List ℕ) (cells : Row) → ends_at_end s ≡ false → Reached default_config s bytes (cells ∷ []) s2 z
    → (records_from default_config (length bytes + 1) s bytes ≡ cells ∷ records_from default_config (length z + 1) s2 z) × (ends_at_end s2 ≡ false)
unfolding Reached
one_row s s2 bytes z cells between reached =
    let p = reached.0 in
    let f = next default_config s bytes p between reached.1 in
    let state : p.1 ≡ s2 = reached.3.0 in
    let rest : p.2 ≡ z = reached.3.1 in
    let all = records_more default_config s bytes p between reached.1 in (
      all ∙ ap (λ row. row ∷ records_from default_config (length p.2 + 1) p.1 p.2) (sym reached.2)
          ∙ ap (λ (x : State). cells ∷ records_from default_config (length p.2 + 1) x p.2) state
          ∙ ap (λ (x : List ℕ). cells ∷ records_from default_config (length x + 1) s2 x) rest,
      subst (λ (x : State). ends_at_end x ≡ false) state f.between,
    )

-- what is known to be there
known : (o : Option (List ℕ)) → IsSome o → (y : List ℕ) × (o ≡ Some y)
known None some = absurd (cc some)
known (Some y) some = (y, refl)

-- a row was read
pub takes : (old new : Reader (Bor (List ℕ))) (cells : Row) → IsAtRow old → ReadRecord (λ (text : Bor (List ℕ)). Some text.now) old new true cells → Ready new → TakesRow true cells old new
unfolding Reached
takes old new cells at_row read ready =
    let y = known (unread old) at_row.known in
    let more = rows-more (λ (text : Bor (List ℕ)). Some text.now) old new cells default_config old.state y.0 y.0 [] at_row.config y.1 (refl, refl) read in
    let row = one_row old.state new.state y.0 more.0 cells at_row.between more.2 in (
      record {
        config = read.2 ∙ at_row.config;
        trim = read.3 ∙ at_row.trim;
        ready = ready;
        known = subst (λ (o : Option (List ℕ)). IsSome o) (sym more.1) refl;
        between = row.1;
      },
      ap (λ (o : Option (List ℕ)). rows_from o old.state) y.1 ∙ row.0 ∙ ap (λ (o : Option (List ℕ)). cells ∷ rows_from o new.state) (sym more.1),
    )

-- none was there
pub takes_none : (old new : Reader (Bor (List ℕ))) (cells : Row) → IsAtRow old → ReadRecord (λ (text : Bor (List ℕ)). Some text.now) old new false cells → TakesRow false cells old new
takes_none old new cells at_row read =
    let y = known (unread old) at_row.known in
    let none = rows-end (λ (text : Bor (List ℕ)). Some text.now) old new cells default_config y.0 at_row.config y.1 read in
    ap (λ (o : Option (List ℕ)). rows_from o old.state) y.1 ∙ records_end default_config old.state y.0 none

pub takes_found : (found : Bool) (old new : Reader (Bor (List ℕ))) (cells : Row) → IsAtRow old → ReadRecord (λ (text : Bor (List ℕ)). Some text.now) old new found cells → Ready new → TakesRow found cells old new
takes_found true old new cells at_row read ready = takes old new cells at_row read ready
takes_found false old new cells at_row read ready = takes_none old new cells at_row read
