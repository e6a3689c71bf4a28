use Rattle.std.proofs.Common.{◌≡◌, ◌+◌, ◌-◌, ◌^◌, ◌<◌, ◌≤◌, ◌++◌, length}
use Rattle.e57_decimal.specs.Writing.{places_of}
use Rattle.e57_decimal.proofs.writing.put_short_places.Given as goal

abbrev pub invariant-loop : goal.invariant-loop
invariant-loop l = record {
  power : l.power ≡ 10 ^ (l.places - l.counter);
  below : l.left < l.power;
  room : length l.text.bytes + (l.places - l.counter) ≤ 112;
  put : l.text.bytes ++ places_of (l.places - l.counter) l.left ≡ l.initial.text.bytes ++ places_of l.places l.fn.rest;
}
