-- What it is to put the records of a section that pass into a cloud that is written.
use Rattle.std.specs.Prelude.{◌≡◌, ℕ, ◌+◌, ◌%◌, ◌<◌, ◌≤◌, ◌==◌, Bool, ◌&&◌, true, List, map, take, slice_index_or, Some, IfSome}
use Rattle.std.specs.List.{list_all}
use Rattle.e57_base.specs.Count.{Rose}
use Rattle.e57_base.specs.Source.{SourceView}
use Rattle.e57_base.specs.Target.{TargetView}
use Rattle.e57_base.specs.declared.fault.AskFault.TheVariants as of_ask
use Rattle.e57_base.specs.declared.fault.AskFault.{AskFault}
use Rattle.e57_base.specs.declared.fault.RunFault.{RunFault}
use Rattle.e57_base.specs.declared.fault.RunFault.TheVariants.{Refused, Source, Out, Memory, Ask}
use Rattle.e57_layout.specs.Items.{AreColumns}
use Rattle.e57_layout.specs.Values.{ItemKind, strings, Value}
use Rattle.e57_page_out.specs.Sequences.{Leaves}
use Rattle.e57_page_out.specs.Writing.{Writing}
use Rattle.e57_plain.specs.Kept.{Test, is_between, column_value, passing, passing_count}
use Rattle.e57_stream.specs.Asking.{AsksMet}
use Rattle.e57_column.specs.Finding.{is_column_kind}
use Rattle.e57_column.specs.Reading.{AreWhole}
use Rattle.e57_blocks.specs.Fields.{Blocks, Slice, OnSlice, record_fault}
use Rattle.e57_chunk_out.specs.CloudCalls.{HasStrings}
use Rattle.e57_chunk_out.specs.Standing.{Cloud}
use Rattle.e57_copy.specs.Adding.{AddsRecords, PassesWith}
use Rattle.e57_copy.specs.Copying.{AreOfSlice, AreSpent, StandBefore}
use Rattle.e57_copy.specs.Found.{asked_kinds}
use Rattle.e57_filter.specs.declared.keep.Limits.{Limits}

-- ---- which records

-- Which records of a range pass: each `every`-th one, from its first one on, whose items are within some limits. A test names its
-- field by its number among the columns.
pub record Sieve : Type 0 where
  pub every : ℕ
  pub tests : List Test

abbrev pub test_of : Limits → Test
test_of limits = record { field = limits.block; low = limits.low; high = limits.high }

abbrev pub sieve_of : ℕ → List Limits → Sieve
sieve_of every tests = record { every = every; tests = map test_of tests }

-- a test of one of the fields of these kinds, which is of integers
abbrev pub IsTestOf : List ItemKind → Limits → Type 0
IsTestOf kinds limits = AreWhole (slice_index_or kinds limits.block strings)

-- record k of the range, of which these are the columns, passes
unfoldable pub passes_sieve : Sieve → List (List Value) → ℕ → Bool
passes_sieve s columns k = k % s.every == 0 && list_all (λ (t : Test). is_between t.low t.high (column_value columns t.field k)) s.tests

-- of the first m columns the items of the records that pass
abbrev pub kept_columns : Sieve → ℕ → List (List Value) → List (List Value)
kept_columns s m columns = map (passing (passes_sieve s columns) 0) (take m columns)

-- how many of the n records pass
abbrev pub kept_number : Sieve → List (List Value) → ℕ → ℕ
kept_number s columns n = passing_count (passes_sieve s columns) 0 n

-- ---- keeping

-- Of the first n records of a slice those that pass were put, as the file has them, with the first m fields; the blocks stand
-- before the next one.
pub record KeepsFirst {T : Type 0} (view : T → TargetView) (s : Sieve) (m : ℕ) (a : Slice) (n : ℕ) (old : SourceView) (c : Cloud) (out : Writing T) (new : SourceView) (b : Blocks) (c' : Cloud) (out' : Writing T) : Type 0 where
  pub within : n ≤ a.count
  pub before : StandBefore b (a.from + n) new
  pub columns : List (List Value)
  pub found : AreOfSlice a old columns
  pub full : AreColumns (asked_kinds a.asked) n columns
  pub adds : AddsRecords view (kept_number s columns n) (kept_columns s m columns) c out c' out'

-- Of all of them were. Only pages on the way to their items were asked for.
pub record KeepsAll {T : Type 0} (view : T → TargetView) (s : Sieve) (m : ℕ) (a : Slice) (old : SourceView) (c : Cloud) (out : Writing T) (new : SourceView) (b : Blocks) (c' : Cloud) (out' : Writing T) : Type 0 where
  pub met : AsksMet (OnSlice a) old new
  pub keeps : KeepsFirst view s m a a.count old c out new b c' out'

-- Of some records those that pass were put, and what stopped the keeping is of the record behind them.
pub record StopsAt {T : Type 0} (view : T → TargetView) (s : Sieve) (m : ℕ) (a : Slice) (old : SourceView) (c : Cloud) (out : Writing T) (new : SourceView) (b : Blocks) (c' : Cloud) (out' : Writing T) (stop : ℕ → Type 0) : Type 0 where
  pub n : ℕ
  pub short : n < a.count
  pub keeps : KeepsFirst view s m a n old c out new b c' out'
  pub stopped : stop (a.from + n)

-- The packets that are whole with those that pass of some first records of a slice would pass the last page.
pub record PassesIn {T : Type 0} (s : Sieve) (m : ℕ) (a : Slice) (old : SourceView) (c : Cloud) (out : Writing T) : Type 0 where
  pub n : ℕ
  pub some : 0 < n
  pub few : n ≤ a.count
  pub columns : List (List Value)
  pub found : AreOfSlice a old columns
  pub full : AreColumns (asked_kinds a.asked) n columns
  pub passes : PassesWith (kept_number s columns n) (kept_columns s m columns) c out

abbrev pub IsLargeCause : {T : Type 0} → Sieve → ℕ → Slice → SourceView → Cloud → Writing T → AskFault → Type 0
IsLargeCause s m a old c out of_ask.Large = PassesIn s m a old c out
IsLargeCause s m a old c out why = ⊥

-- Why not: the next record has a fault, which is the first one of its fields; the source failed at it; the target failed; the new
-- file would be too large; or memory ran out, which is wanted for strings alone.
abbrev pub IsKeepCause : {T : Type 0} → (T → TargetView) → Sieve → ℕ → Slice → SourceView → Cloud → Writing T → RunFault → SourceView → Blocks → Cloud → Writing T → Type 0
IsKeepCause view s m a old c out (Refused found) new b c' out' =
    (is_column_kind found.kind ≡ true) × StopsAt view s m a old c out new b c' out' (λ i. IfSome old.held (λ file. record_fault file a.section a.fixed a.asked i ≡ Some found))
IsKeepCause view s m a old c out Source new b c' out' = StopsAt view s m a old c out new b c' out' (λ i. Rose old.faults new.faults)
IsKeepCause view s m a old c out Out new b c' out' = AreSpent c' out' × Rose (view out.target).faults (view out'.target).faults
IsKeepCause view s m a old c out Memory new b c' out' = HasStrings (asked_kinds a.asked)
IsKeepCause view s m a old c out (Ask why) new b c' out' = AreSpent c' out' × IsLargeCause s m a old c out why

-- Not of all of them were. What the target holds is no whole file.
pub record KeepsNot {T : Type 0} (view : T → TargetView) (s : Sieve) (m : ℕ) (a : Slice) (old : SourceView) (c : Cloud) (out : Writing T) (fault : RunFault) (new : SourceView) (b : Blocks) (c' : Cloud) (out' : Writing T) : Type 0 where
  pub met : AsksMet (OnSlice a) old new
  pub left : Leaves view out (view out'.target)
  pub cause : IsKeepCause view s m a old c out fault new b c' out'
