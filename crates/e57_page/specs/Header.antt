-- The header of a file (ASTM E2807): its first 48 bytes.
use Rattle.std.specs.Prelude.{ℕ, ◌*◌, ◌==◌, ◌&&◌, not, if◌then◌else◌, List, take, Option, Some, None, codes}
use Rattle.std.specs.Str.{bytes_eq}
use Rattle.e57_bits.specs.Bits.{number}
use Rattle.e57_base.specs.Source.{page_length}
use Rattle.e57_base.specs.declared.fault.Fault.{Fault}
use Rattle.e57_base.specs.Fault.{fault}
use Rattle.e57_base.specs.declared.kind.Kind.TheVariants.{Signature, Version, FileLength, PageSize}
use Rattle.e57_page.specs.declared.header.Header.{Header}

-- the fields of the header, each a little-endian number
abbrev pub signature : List ℕ → List ℕ
signature file = take 8 file

abbrev pub major_version : List ℕ → ℕ
major_version file = number file (8 * 8) 32

abbrev pub minor_version : List ℕ → ℕ
minor_version file = number file (8 * 12) 32

abbrev pub physical_length : List ℕ → ℕ
physical_length file = number file (8 * 16) 64

abbrev pub xml_offset : List ℕ → ℕ
xml_offset file = number file (8 * 24) 64

abbrev pub xml_length : List ℕ → ℕ
xml_length file = number file (8 * 32) 64

abbrev pub page_size : List ℕ → ℕ
page_size file = number file (8 * 40) 64

-- the numbers of the header that are used later
abbrev pub header_of : List ℕ → Header
header_of file = record { length = physical_length file; xml_place = xml_offset file; xml_length = xml_length file }

-- The first fault of the header of a file of this length in bytes, in the order signature, version, length, page size.
unfoldable pub header_fault : List ℕ → ℕ → Option Fault
header_fault file length =
    if not (bytes_eq (signature file) (codes "ASTM-E57")) then Some (fault Signature 0 0)
    else (if not (major_version file == 1 && minor_version file == 0) then Some (fault Version (major_version file) (minor_version file))
    else (if not (physical_length file == length) then Some (fault FileLength length (physical_length file))
    else (if not (page_size file == page_length) then Some (fault PageSize (page_size file) 0)
    else None)))
