-- Files in memory, by their names.
use Rattle.std.specs.Prelude.{ℕ, List, map, Option, Some, None}
use Rattle.std.specs.List.{slice_get}
use Rattle.std.specs.Option.{option_map}
use Rattle.std.specs.String.{string_bytes}
use Rattle.std.specs.FinMap.{from_entries}
use Rattle.e57_base.specs.Source.{Stock}
use Rattle.e57_base.specs.declared.files.NamedFile.{NamedFile}

-- the name and the bytes of each file
abbrev pub entries_of : List NamedFile → List (List ℕ × List ℕ)
entries_of files = map (λ file. (string_bytes file.name, file.bytes.items)) files

-- the files by their names
abbrev pub stock_of : List NamedFile → Stock
stock_of files = from_entries (entries_of files)

-- the bytes of the file at this place
abbrev pub bytes_at : List NamedFile → Option ℕ → Option (List ℕ)
bytes_at files None = None
bytes_at files (Some place) = option_map (λ file. file.bytes.items) (slice_get files place)
