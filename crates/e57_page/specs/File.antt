-- A file as a row of pages of 1024 bytes (ASTM E2807, physical layout), its logical bytes, and the faults of its
-- length and pages.
use Rattle.std.specs.Prelude.{ℕ, zero, suc, ◌+◌, ◌-◌, ◌*◌, ◌/◌, ◌%◌, ◌^◌, ◌==◌, ◌||◌, not, nat_lt, if◌then◌else◌, List, length, take, Option, Some, None}
use Rattle.std.specs.List.{flat_map, range_with_len}
use Rattle.std.specs.Option.{option_or}
use Rattle.e57_base.specs.declared.fault.Fault.{Fault}
use Rattle.e57_base.specs.declared.kind.Kind.TheVariants.{FileLength, Page}
use Rattle.e57_base.specs.Source.{page_length, page_of}
use Rattle.e57_crc.specs.Crc.{is_right}
use Rattle.e57_base.specs.Fault.{fault}
use Rattle.e57_page.specs.Header.{header_fault}
use Rattle.e57_page.specs.Place.{payload_length, span_end}

-- the payload of page n: its first 1020 bytes
abbrev pub payload : List ℕ → ℕ → List ℕ
payload file n = take payload_length (page_of file n)

-- the logical bytes: the payloads of all pages, one after another
unfoldable pub logical : List ℕ → List ℕ
logical file = flat_map (payload file) (range_with_len 0 (length file / page_length))

-- the most bytes that a file has
abbrev pub longest_file : ℕ
longest_file = 2 ^ 48

-- the fault of a length in bytes
unfoldable pub length_fault : ℕ → Option Fault
length_fault n = if n == 0 || not (n % page_length == 0) || nat_lt longest_file n then Some (fault FileLength n 0) else None

-- the fault of page n: its word is wrong
unfoldable pub page_fault : List ℕ → ℕ → Option Fault
page_fault file n = if is_right (page_of file n) then None else Some (fault Page n 0)

-- the first fault of the count pages from page n on
unfoldable pub pages_fault : List ℕ → ℕ → ℕ → Option Fault
pages_fault file n zero = None
pages_fault file n (suc count) = option_or (page_fault file n) (pages_fault file (n + 1) count)

-- the first fault of the pages that the n logical bytes from place q on lie in
abbrev pub span_fault : List ℕ → ℕ → ℕ → Option Fault
span_fault file q n = pages_fault file (q / payload_length) (span_end q n - q / payload_length)

-- the number of the logical bytes
abbrev pub logical_size : List ℕ → ℕ
logical_size file = length file / page_length * payload_length

-- the first fault that is met when a file is opened: of its length, its header and page 0
abbrev pub opening_fault : List ℕ → Option Fault
opening_fault file = option_or (length_fault (length file)) (option_or (header_fault file (length file)) (page_fault file 0))
