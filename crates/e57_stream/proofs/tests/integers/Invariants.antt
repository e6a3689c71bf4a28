use Rattle.std.proofs.Common.{◌*◌, ◌/◌, ◌<◌}
use Rattle.e57_base.specs.Source.{page_length}
use Rattle.e57_page.specs.Place.{payload_length}
use Rattle.e57_section.specs.Opening.{LiesIn}
use Rattle.e57_stream.specs.Standing.{IsWithin}
use Rattle.e57_stream.proofs.tests.integers.Given as goal

abbrev pub invariant-loop-k : goal.invariant-loop-k
invariant-loop-k l = record {
  lies : LiesIn l.stream.section (l.pages.length / page_length * payload_length);
  field : l.stream.field < l.stream.section.fields;
  within : IsWithin l.stream.section l.fn.range.width l.chunk;
}
