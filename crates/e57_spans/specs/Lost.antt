-- What is lost of a cloud, and what is kept: its spans with a fault, and the records of those without one.
use Rattle.std.specs.Prelude.{ℕ, List, filter, flat_map, length, is_some, is_none}
use Rattle.e57_cloud.specs.Cloud.{Cloud}
use Rattle.e57_spans.specs.Spans.{Span, records_in}
use Rattle.e57_spans.specs.Judged.{spans_of}

-- spans with a fault, and spans without one
abbrev pub lost : List Span → List Span
lost spans = filter (λ (x : Span). is_some x.fault) spans

abbrev pub sound : List Span → List Span
sound spans = filter (λ (x : Span). is_none x.fault) spans

-- the lost spans of a cloud
unfoldable pub lost_spans : List ℕ → Cloud → List Span
lost_spans file c = lost (spans_of file c)

-- the numbers of the records of a cloud that are kept, in order
unfoldable pub kept_records : List ℕ → Cloud → List ℕ
kept_records file c = flat_map records_in (sound (spans_of file c))

-- how many these are
abbrev pub kept_count : List ℕ → Cloud → ℕ
kept_count file c = length (kept_records file c)
