-- Laws of records that are put behind those of a cloud.
use Rattle.std.proofs.Common.{◌≡◌, ℕ, ◌+◌, ◌%◌, ◌<◌, true, false, List, length, take, drop, Option, Some, None, refl, sym, subst, ap, ◌∙◌, arith}
use Rattle.std.specs.List.{AllByRecursion}
use Rattle.std.proofs.lemmas.List.{length-map}
use Rattle.e57_base.specs.Target.{TargetView}
use Rattle.e57_base.specs.declared.fault.WriteFault.{WriteFault}
use Rattle.e57_base.specs.declared.fault.WriteFault.TheVariants.{Target, Large, Memory}
use Rattle.e57_layout.specs.Values.{ItemKind, Value}
use Rattle.e57_layout.specs.Items.{AreColumns}
use Rattle.e57_layout.specs.Packing.{first_records, later_records, join_columns}
use Rattle.e57_layout.proofs.Laws.Blocks.{columns-length, join_columns-columns}
use Rattle.e57_page_out.specs.Writing.{Writing, IsBeingWritten, most_bytes}
use Rattle.e57_page_out.proofs.WritingLaws.{keeps_none, keeps_both}
use Rattle.e57_chunk_out.specs.CloudCalls.{block_length, block_of, HasStrings, IsBetween, IsEven, EndsBlock, PassesBlock}
use Rattle.e57_chunk_out.specs.Going.{LosesRecords}
use Rattle.e57_chunk_out.specs.Standing.{Cloud, Stands, IsPut, IsHere, in_groups}
use Rattle.e57_chunk_out.specs.Turns.{data_end}
use Rattle.e57_chunk_out.specs.declared.section.Begun.{Begun}
use Rattle.e57_column.specs.Column.{kind_of}
use Rattle.e57_blocks.specs.Block.{Block}
use Rattle.e57_copy.specs.Adding.{block_kinds, with_columns, AddsRecords, IsStanding, LosesRun, PassesWith}
use Rattle.e57_copy.specs.Items.{AreAlike}
use Rattle.e57_copy.proofs.Alike.{alike_many}
use Rattle.e57_copy.proofs.Columns.{columns_long, first_kept, first_with, join_assoc, join_none, later_block, long_with, no_records, none_columns}

-- ---- a cloud that stands for some records

length-first : (n : ℕ) (columns : List (List Value)) → length (first_records n columns) ≡ length columns
unfolding first_records
length-first n columns = length-map columns (λ (column : List Value). take n column)

length-later : (n : ℕ) (columns : List (List Value)) → length (later_records n columns) ≡ length columns
unfolding later_records
length-later n columns = length-map columns (λ (column : List Value). drop n column)

-- a column for each field waits
pub pending_many : {T : Type 0} (c : Cloud) (out : Writing T) → IsStanding c out → length c.pending ≡ length c.kinds
pending_many c out standing =
    let stands = standing.stands in
    sym (length-first (c.count % 8) c.pending)
    ∙ ap (λ (columns : List (List Value)). length columns) stands.left
    ∙ length-later (in_groups c.count) standing.columns
    ∙ columns-length c.kinds c.count standing.columns stands.columns

pub is_here : {T : Type 0} (c : Cloud) (out : Writing T) → IsStanding c out → IsHere c out
is_here {T} c out standing = by_section c.section standing.stands.written
  where
    by_section : (s : Option Begun) → IsPut standing.before standing.start standing.columns c out s → IsHere (record c { section = s }) out
    by_section None put = put.held
    by_section (Some s) put = let way = put.2 in let page = put.0 in (way.held ∙ ap Some (sym page), put.1)

-- ---- a block handed over

module _ {T : Type 0} (n : ℕ) (more : List (List Value)) (c : Cloud) (out : Writing T) (are : AreColumns c.kinds n more) (between : IsBetween c) (many : length c.pending ≡ length c.kinds) where
  as_many : length c.pending ≡ length more
  as_many = many ∙ sym (columns-length c.kinds n more are)

  left_with : first_records (c.count % 8) (join_columns c.pending more) ≡ first_records (c.count % 8) c.pending
  left_with = first_kept (c.count % 8) c.pending more between as_many

  pub stands_with : (before : Option (List ℕ)) (start : ℕ) (cs : List (List Value)) → Stands before start cs c out → Stands before start cs (with_columns c more) out
  stands_with before start cs stands = record { long = stands.long; columns = stands.columns; left = left_with ∙ stands.left; written = by_section c.section stands.written }
    where
      by_section : (s : Option Begun) → IsPut before start cs c out s → IsPut before start cs (with_columns c more) out s
      by_section None put = record { count = put.count; run = put.run; begun = put.begun; entries = put.entries; bytes = put.bytes; size = put.size; held = put.held }
      by_section (Some s) put = put

  pub block_with : block_of (with_columns c more) ≡ more
  block_with = later_block (c.count % 8) c.pending more between as_many

  pub length_with : 0 < length c.kinds → block_length (with_columns c more) ≡ n
  length_with some =
      let first = first_with (c.count % 8) n c.pending more (omega (arith, some, many)) between (columns_long c.kinds n more are) as_many in
      omega (arith, first)

  pub even_with : 0 < length c.kinds → IsEven (with_columns c more)
  even_with some =
      subst (λ (k : ℕ). AllByRecursion (λ (column : List Value). length column ≡ c.count % 8 + k) (join_columns c.pending more)) (sym (length_with some))
      (long_with (c.count % 8) n c.pending more between (columns_long c.kinds n more are) as_many)

  -- the block was ended
  pub adds_block : (view : T → TargetView) (new : Cloud) (now : Writing T) → 0 < length c.kinds → EndsBlock view (with_columns c more) out new now → AddsRecords view n more c out new now
  adds_block view new now some ends = record {
    columns = are;
    kinds = ends.kinds;
    chunk = ends.chunk;
    at_most = ends.at_most;
    count = ends.count ∙ ap (λ (k : ℕ). c.count + k) (length_with some);
    between = ends.between;
    unspent = ends.unspent;
    state = ends.state;
    target = ends.target;
    stands = λ before start cs stands. subst (λ (columns : List (List Value)). Stands before start (join_columns cs columns) new now) block_with (ends.stands before start cs (stands_with before start cs stands));
  }

  passes_past : 0 < length c.kinds → PassesBlock (with_columns c more) out → (before : Option (List ℕ)) (start : ℕ) (cs : List (List Value)) → Stands before start cs c out → most_bytes < data_end start c.kinds c.chunk (in_groups (c.count + n)) (join_columns cs more)
  passes_past some passes before start cs stands =
      let past = passes before start cs (stands_with before start cs stands) in
      subst (λ (k : ℕ). most_bytes < data_end start c.kinds c.chunk (in_groups (c.count + k)) (join_columns cs more)) (length_with some)
      (subst (λ (columns : List (List Value)). most_bytes < data_end start c.kinds c.chunk (in_groups (c.count + block_length (with_columns c more))) (join_columns cs columns)) block_with past)

  -- it was not
  pub loses_block : (view : T → TargetView) (fault : WriteFault) (new : Cloud) (now : Writing T) → 0 < length c.kinds → new.is_spent ≡ true → now.is_spent ≡ true
      → LosesRecords view out (PassesBlock (with_columns c more) out) (HasStrings c.kinds) fault (view now.target) → LosesRun view n more c out fault new now
  loses_block view fault new now some spent closed lost = by_fault fault lost
    where
      by_fault : (fault : WriteFault) → LosesRecords view out (PassesBlock (with_columns c more) out) (HasStrings c.kinds) fault (view now.target) → LosesRun view n more c out fault new now
      by_fault Target lost = record { spent = spent; file = closed; cause = lost }
      by_fault Large lost = record { spent = spent; file = closed; cause = (lost.0, record { columns = are; past = passes_past some lost.1 }) }
      by_fault Memory lost = record { spent = spent; file = tt; cause = lost }

-- ---- records after records

pub adds_none : {T : Type 0} (view : T → TargetView) (c : Cloud) (out : Writing T) → IsBetween c → c.is_spent ≡ false → IsBeingWritten view out → AddsRecords view 0 (no_records c.kinds) c out c out
adds_none view c out between unspent state = record {
  columns = none_columns c.kinds;
  kinds = refl;
  chunk = refl;
  at_most = refl;
  count = omega arith;
  between = between;
  unspent = unspent;
  state = state;
  target = keeps_none (view out.target);
  stands = λ before start cs stands. subst (λ (columns : List (List Value)). Stands before start columns c out) (sym (join_none c.kinds c.count cs stands.columns)) stands;
}

pub adds_both : {T : Type 0} (view : T → TargetView) (n m : ℕ) (xs ys : List (List Value)) (a b c : Cloud) (out mid now : Writing T) → AddsRecords view n xs a out b mid → AddsRecords view m ys b mid c now
    → AddsRecords view (n + m) (join_columns xs ys) a out c now
adds_both view n m xs ys a b c out mid now first next = record {
  columns = join_columns-columns a.kinds n m xs ys first.columns (subst (λ (kinds : List ItemKind). AreColumns kinds m ys) first.kinds next.columns);
  kinds = next.kinds ∙ first.kinds;
  chunk = next.chunk ∙ first.chunk;
  at_most = next.at_most ∙ first.at_most;
  count = let low = first.count in let high = next.count in omega (arith, low, high);
  between = next.between;
  unspent = next.unspent;
  state = next.state;
  target = keeps_both (view out.target) (view mid.target) (view now.target) first.target next.target;
  stands = λ before start cs stands. subst (λ (columns : List (List Value)). Stands before start columns c now) (join_assoc cs xs ys) (next.stands before start (join_columns cs xs) (first.stands before start cs stands));
}

pub still_standing : {T : Type 0} (view : T → TargetView) (n : ℕ) (xs : List (List Value)) (a b : Cloud) (out mid : Writing T) → AddsRecords view n xs a out b mid → IsStanding a out → IsStanding b mid
still_standing view n xs a b out mid adds standing = record {
  before = standing.before;
  start = standing.start;
  columns = join_columns standing.columns xs;
  stands = adds.stands standing.before standing.start standing.columns standing.stands;
}

-- with more records than those that were put the file would pass its last page
passes_on : {T : Type 0} (view : T → TargetView) (n m : ℕ) (xs ys : List (List Value)) (a b : Cloud) (out mid : Writing T) → AddsRecords view n xs a out b mid
    → ((before : Option (List ℕ)) (start : ℕ) (cs : List (List Value)) → Stands before start cs b mid → most_bytes < data_end start b.kinds b.chunk (in_groups (b.count + m)) (join_columns cs ys))
    → (before : Option (List ℕ)) (start : ℕ) (cs : List (List Value)) → Stands before start cs a out → most_bytes < data_end start a.kinds a.chunk (in_groups (a.count + (n + m))) (join_columns cs (join_columns xs ys))
passes_on view n m xs ys a b out mid adds passes before start cs stands =
    let past = passes before start (join_columns cs xs) (adds.stands before start cs stands) in
    let size : b.count + m ≡ a.count + (n + m) = let count = adds.count in omega (arith, count) in
    subst (λ (columns : List (List Value)). most_bytes < data_end start a.kinds a.chunk (in_groups (a.count + (n + m))) columns) (join_assoc cs xs ys)
    (rw (adds.kinds, adds.chunk, size) at past)

pub passes_later : {T : Type 0} (view : T → TargetView) (n m : ℕ) (xs ys : List (List Value)) (a b : Cloud) (out mid : Writing T) → AddsRecords view n xs a out b mid → PassesWith m ys b mid → PassesWith (n + m) (join_columns xs ys) a out
passes_later view n m xs ys a b out mid adds passes = record {
  columns = join_columns-columns a.kinds n m xs ys adds.columns (subst (λ (kinds : List ItemKind). AreColumns kinds m ys) adds.kinds passes.columns);
  past = passes_on view n m xs ys a b out mid adds passes.past;
}

-- there is a field
pub some_kinds : (c : Cloud) (blocks : List Block) → AreAlike (block_kinds blocks) c.kinds → 0 < length blocks → 0 < length c.kinds
some_kinds c blocks alike some =
    let many : length blocks ≡ length c.kinds = sym (length-map blocks (λ (b : Block). kind_of b.column.items)) ∙ alike_many (block_kinds blocks) c.kinds alike in
    omega (arith, many, some)
