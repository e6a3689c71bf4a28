-- What the items of a field are, told apart.
use Rattle.std.specs.Prelude.{◌==◌, if◌then◌else◌}
use Rattle.e57_layout.specs.Values.{ItemKind, integers, words, strings}
use Rattle.e57_check.specs.declared.column.Sort.{Sort}
use Rattle.e57_check.specs.declared.column.Sort.TheVariants as sort

abbrev pub item_sort : ItemKind → Sort
item_sort (integers low high) = sort.Whole
item_sort (words w) = if w == 32 then sort.Words32 else sort.Words64
item_sort strings = sort.Strings
