-- What is sound of a blob of a damaged file: all its bytes, or none.
use Rattle.std.specs.Prelude.{ℕ, ◌+◌, List, [], Option, is_none, if◌then◌else◌}
use Rattle.std.specs.Option.{option_or}
use Rattle.e57_base.specs.declared.fault.Fault.{Fault}
use Rattle.e57_page.specs.Place.{place}
use Rattle.e57_page.specs.File.{span_fault}
use Rattle.e57_cloud.specs.Section.{or_zero}
use Rattle.e57_verdict.specs.Blob.{Blob, blob_header_length, blob_fault, blob_bytes}

-- the first fault for which a blob is lost: of its section, or of the pages of its bytes
unfoldable pub blob_loss : List ℕ → Blob → Option Fault
blob_loss file b = option_or (blob_fault file b) (span_fault file (or_zero (place b.offset) + blob_header_length) b.length)

-- the bytes that are kept: none of a lost blob
unfoldable pub saved_bytes : List ℕ → Blob → List ℕ
saved_bytes file b = if is_none (blob_loss file b) then blob_bytes file b else []
