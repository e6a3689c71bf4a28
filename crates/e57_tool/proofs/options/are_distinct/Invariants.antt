use Rattle.std.proofs.Common.{◌≡◌, length}
use denote.Text.{Utf8}
use denote.Shadow.{shadow}
use Rattle.e57_select.specs.Asking.{names_in}
use Rattle.e57_tool.specs.Options.{are_distinct}
use Rattle.e57_tool.proofs.options.are_distinct.Given as goal

abbrev pub invariant-names : goal.invariant-names
invariant-names l = shadow (Utf8 l.left) × (are_distinct (names_in l.list) ≡ are_distinct (names_in l.left))

abbrev pub decreases-names : goal.decreases-names
decreases-names l = length l.left
