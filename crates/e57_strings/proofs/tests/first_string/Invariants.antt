use Rattle.std.proofs.Common.{◌≤◌, length}
use Rattle.e57_strings.specs.Feeds.{HasRoom}
use Rattle.e57_strings.proofs.tests.first_string.Given as goal

abbrev pub invariant-loop : goal.invariant-loop
invariant-loop l = record { place : l.at ≤ length l.stream; room : HasRoom l.cursor 8 }
