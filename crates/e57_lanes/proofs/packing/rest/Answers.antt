use Rattle.std.proofs.Common.{ap, ◌∙◌, arith, ◌^◌, ◌/◌, ◌-◌}
use Rattle.std.proofs.lemmas.Nat.{shr-shr}
use Rattle.e57_lanes.proofs.packing.rest.Goals as goal

pub returns : goal.returns
returns c = shr-shr c.args.number 1 (c.args.taken - 1) ∙ ap (λ m. c.args.number / 2 ^ m) (omega arith)
