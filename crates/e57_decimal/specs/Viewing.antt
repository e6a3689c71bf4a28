-- What clauses see of the code's own values.
use Rattle.e57_decimal.specs.declared.parts.Parts.{Parts as HeldParts}
use Rattle.e57_decimal.specs.Reading.{Parts}

-- the parts without where they lie in memory
abbrev pub parts_of : HeldParts → Parts
parts_of p = record {
  negative = p.negative;
  whole = p.whole.now;
  places = p.places.now;
  raised = p.raised;
  lowered = p.lowered;
}
