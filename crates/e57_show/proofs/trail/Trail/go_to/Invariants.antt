use Rattle.std.proofs.Common.{◌-◌, ◌≤◌}
use Rattle.e57_show.specs.Trail.{IsTrail}
use Rattle.e57_show.proofs.trail.Trail.go_to.Given as goal

abbrev pub invariant-loop-self : goal.invariant-loop-self
invariant-loop-self l = record {
  before : l.self.node ≤ l.wanted;
  trail : IsTrail l.raw l.self;
}

abbrev pub decreases-loop-self : goal.decreases-loop-self
decreases-loop-self l = l.wanted - l.self.node
