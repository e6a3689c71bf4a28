use Rattle.std.proofs.Common.{◌≡◌, ◌+◌, ◌-◌, ◌^◌, ◌<◌, ◌≤◌, ◌++◌, length}
use Rattle.e57_decimal.specs.Writing.{places_of}
use Rattle.e57_decimal.proofs.writing.put_places.Given as goal

abbrev pub invariant-loop-done : goal.invariant-loop-done
invariant-loop-done l = record {
  below : l.rest < 10 ^ (l.places - l.done);
  room : length l.text.bytes + (l.places - l.done) ≤ 112;
  put : l.text.bytes ++ places_of (l.places - l.done) l.rest ≡ l.initial.text.bytes ++ places_of l.places l.initial.rest;
}
