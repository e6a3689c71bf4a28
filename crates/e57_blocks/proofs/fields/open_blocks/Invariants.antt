use Rattle.std.specs.Prelude.{◌<◌, ◌≤◌, take}
use Rattle.e57_blocks.specs.Filling.{most_places}
use Rattle.e57_blocks.specs.Fields.{asked_of}
use Rattle.e57_blocks.specs.Fields.{OpensBlocks}
use Rattle.e57_blocks.proofs.fields.open_blocks.Given as goal

abbrev pub invariant-loop-k : goal.invariant-loop-k
invariant-loop-k l = record {
  some : 0 < l.places;
  few : l.places ≤ most_places;
  opened : OpensBlocks l.section l.fixed (asked_of l.fields (take l.k l.asked)) l.blocks.items;
}
