-- Items of records that are held, and limits of other fields that they pass.
use Rattle.std.specs.Prelude.{◌≡◌, ℕ, ◌+◌, ◌-◌, ◌<◌, ◌≤◌, List, slice_get, Some}
use Rattle.e57_base.specs.Fault.{fault}
use Rattle.e57_base.specs.declared.fault.Fault.{Fault}
use Rattle.e57_base.specs.declared.kind.Kind.TheVariants.{ValueRange}
use Rattle.e57_layout.specs.Items.{IsItem}
use Rattle.e57_layout.specs.Values.{item_kind}
use Rattle.e57_layout.specs.declared.field.Field.{Field}
use Rattle.e57_blocks.specs.Block.{Block, held_item}

-- Of the n records from record i on this one's item isn't one of the field, and this is the fault.
pub record IsFieldOutside (field : Field) (b : Block) (i n : ℕ) (found : Fault) : Type 0 where
  pub k : ℕ
  pub after : i ≤ k
  pub before : k < i + n
  pub outside : IsItem (item_kind field.kind) (held_item b (k - b.first)) → ⊥
  pub is : found ≡ fault ValueRange k field.node

-- One of these fields has such an item.
pub record IsRunOutside (fields : List Field) (blocks : List Block) (i n : ℕ) (found : Fault) : Type 0 where
  pub j : ℕ
  pub field : Field
  pub of_cloud : slice_get fields j ≡ Some field
  pub block : Block
  pub of_block : slice_get blocks j ≡ Some block
  pub outside : IsFieldOutside field block i n found
