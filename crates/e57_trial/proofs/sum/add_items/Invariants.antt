use Rattle.std.proofs.Common.{◌≡◌, ◌+◌, ◌%◌, ◌^◌, map, take}
use Rattle.std.specs.List.{sum_by}
use Rattle.e57_layout.specs.Values.{whole}
use Rattle.e57_trial.specs.Summing.{raw_number}
use Rattle.e57_trial.proofs.sum.add_items.Given as goal

abbrev pub invariant-loop-item : goal.invariant-loop-item
invariant-loop-item l = l.sum ≡ (l.fn.total + sum_by raw_number (map whole (take l.item-index l.items))) % 2 ^ 64
