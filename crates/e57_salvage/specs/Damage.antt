-- The lines of all damage of a file: its wrong pages, and then what would be lost of it, and kept.
use Rattle.std.specs.Prelude.{ℕ, ◌/◌, List, ◌++◌, length, filter, flat_map, codes, decimal, is_some}
use Rattle.std.specs.List.{range_with_len}
use Rattle.e57_base.specs.Source.{page_length}
use Rattle.e57_page.specs.File.{page_fault}
use Rattle.e57_elements.specs.Tree.{Element}
use Rattle.e57_salvage.specs.Lines.{salvage_lines}

-- the numbers of the pages whose word is wrong
abbrev pub wrong_pages : List ℕ → List ℕ
wrong_pages file = filter (λ n. is_some (page_fault file n)) (range_with_len 0 (length file / page_length))

-- `page N`
abbrev pub page_line : ℕ → List ℕ
page_line n = codes "page " ++ decimal n ++ codes "\n"

-- of a file with this tree
unfoldable pub damage_lines : List ℕ → Element → List ℕ
damage_lines file tree = flat_map page_line (wrong_pages file) ++ salvage_lines file tree
