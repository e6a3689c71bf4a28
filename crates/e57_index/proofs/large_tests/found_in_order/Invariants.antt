use Rattle.std.proofs.Common.{◌≡◌}
use Rattle.e57_index.proofs.large_tests.found_in_order.Given as goal

abbrev pub invariant-loop-k : goal.invariant-loop-k
invariant-loop-k l =
    record {
      length : l.pages.length ≡ l.initial.pages.length;
      section : l.cursor.section ≡ l.initial.cursor.section;
    }
