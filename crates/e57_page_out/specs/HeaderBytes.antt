-- The header of a file as it is written (ASTM E2807, file header).
use Rattle.std.specs.Prelude.{ℕ, List, ◌++◌, codes}
use Rattle.e57_layout.specs.Bytes.{low_bytes}
use Rattle.e57_page.specs.declared.header.Header.{Header}

-- signature, major and minor version, length, place and length of the XML section, page size: 48 bytes
unfoldable pub header_bytes : Header → List ℕ
header_bytes h =
    codes "ASTM-E57"
    ++ (low_bytes 4 1 ++ (low_bytes 4 0 ++ (low_bytes 8 h.length ++ (low_bytes 8 h.xml_place ++ (low_bytes 8 h.xml_length ++ low_bytes 8 1024)))))
