-- Records that are put behind those of a cloud that is written.
use Rattle.std.specs.Prelude.{◌≡◌, ℕ, ◌+◌, ◌-◌, ◌%◌, ◌<◌, ◌≤◌, true, false, List, length, map, Option}
use Rattle.std.specs.List.{AllByRecursion}
use Rattle.e57_base.specs.Target.{TargetView}
use Rattle.e57_base.specs.declared.fault.WriteFault.{WriteFault}
use Rattle.e57_base.specs.declared.fault.WriteFault.TheVariants.{Target, Large, Memory}
use Rattle.e57_layout.specs.Values.{ItemKind, Value}
use Rattle.e57_layout.specs.Items.{AreColumns}
use Rattle.e57_layout.specs.Packing.{join_columns}
use Rattle.e57_page_out.specs.Writing.{Writing, KeepsTarget, IsBeingWritten, most_bytes}
use Rattle.e57_column.specs.Column.{kind_of}
use Rattle.e57_blocks.specs.Block.{Block}
use Rattle.e57_blocks.specs.Runs.{held_values}
use Rattle.e57_chunk_out.specs.CloudCalls.{most_of_block, HasStrings, IsBetween}
use Rattle.e57_chunk_out.specs.Going.{LosesRecords}
use Rattle.e57_chunk_out.specs.Standing.{Cloud, Stands, in_groups}
use Rattle.e57_chunk_out.specs.Turns.{data_end}

-- ---- a run of records

-- the kinds of the fields of these blocks
abbrev pub block_kinds : List Block → List ItemKind
block_kinds blocks = map (λ (b : Block). kind_of b.column.items) blocks

-- the items of the n records from record i on, a column for each block
abbrev pub held_columns : List Block → ℕ → ℕ → List (List Value)
held_columns blocks i n = map (λ (b : Block). held_values b i n) blocks

-- the cloud with these items as its begun block
abbrev pub with_columns : Cloud → List (List Value) → Cloud
with_columns c columns = record c { pending = join_columns c.pending columns }

-- the begun block has room for n more records: each of its fields has
abbrev pub HasRoom : Cloud → ℕ → Type 0
HasRoom c n = AllByRecursion (λ (column : List Value). length column - c.count % 8 + n ≤ most_of_block) c.pending

-- ---- more records

-- The cloud and the file stand for some records.
pub record IsStanding {T : Type 0} (c : Cloud) (out : Writing T) : Type 0 where
  pub before : Option (List ℕ)
  pub start : ℕ
  pub columns : List (List Value)
  pub stands : Stands before start columns c out

-- These n records were put: with the records for which the cloud and the file stood, they stand for those and these behind them.
pub record AddsRecords {T : Type 0} (view : T → TargetView) (n : ℕ) (more : List (List Value)) (old : Cloud) (out : Writing T) (new : Cloud) (now : Writing T) : Type 0 where
  pub columns : AreColumns old.kinds n more
  pub kinds : new.kinds ≡ old.kinds
  pub chunk : new.chunk ≡ old.chunk
  pub at_most : new.at_most ≡ old.at_most
  pub count : new.count ≡ old.count + n
  pub between : IsBetween new
  pub unspent : new.is_spent ≡ false
  pub state : IsBeingWritten view now
  pub target : KeepsTarget (view out.target) (view now.target)
  pub stands : (before : Option (List ℕ)) (start : ℕ) (cs : List (List Value)) → Stands before start cs old out → Stands before start (join_columns cs more) new now

-- With the packets that are whole with these n records the file would pass its last page.
pub record PassesWith {T : Type 0} (n : ℕ) (more : List (List Value)) (c : Cloud) (out : Writing T) : Type 0 where
  pub columns : AreColumns c.kinds n more
  pub past : (before : Option (List ℕ)) (start : ℕ) (cs : List (List Value)) → Stands before start cs c out
      → most_bytes < data_end start c.kinds c.chunk (in_groups (c.count + n)) (join_columns cs more)

-- where it isn't for want of memory
abbrev pub UnlessMemory : WriteFault → Type 0 → Type 0
UnlessMemory Target fact = fact
UnlessMemory Large fact = fact
UnlessMemory Memory fact = Unit {0}

-- Why a run of records was not put: as the cloud's block; and the cloud is spent.
pub record LosesRun {T : Type 0} (view : T → TargetView) (n : ℕ) (more : List (List Value)) (c : Cloud) (out : Writing T) (fault : WriteFault) (new : Cloud) (now : Writing T) : Type 0 where
  pub spent : new.is_spent ≡ true
  pub file : UnlessMemory fault (now.is_spent ≡ true)
  pub cause : LosesRecords view out (PassesWith n more c out) (HasStrings c.kinds) fault (view now.target)
