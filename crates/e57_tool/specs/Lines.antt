-- The lines that the program writes, as bytes.
use Rattle.std.specs.Prelude.{ℕ, List, ◌++◌, codes, decimal}
use Rattle.e57_base.specs.Kind.{kind_name}
use Rattle.e57_base.specs.declared.fault.AskFault.{AskFault}
use Rattle.e57_base.specs.declared.fault.AskFault.TheVariants.{Cloud, Blob, Field, Keep, NotInteger, Range, Decimal, Clash, Length, Header, Width, Cell, Large}
use Rattle.e57_base.specs.declared.fault.Fault.{Fault}

-- `pages N xml PLACE LENGTH`: how many pages, and the physical place and the logical length of the XML section
abbrev pub pages_line : ℕ → ℕ → ℕ → List ℕ
pages_line count place length = codes "pages " ++ decimal count ++ codes " xml " ++ decimal place ++ codes " " ++ decimal length ++ codes "\n"

-- `accepted CLOUDS BLOBS RECORDS`
abbrev pub accepted_line : ℕ → ℕ → ℕ → List ℕ
accepted_line clouds blobs records = codes "accepted " ++ decimal clouds ++ codes " " ++ decimal blobs ++ codes " " ++ decimal records ++ codes "\n"

-- `trial START COUNT first L1 second L2 sum X`: the two numbers of a content, the lengths of its two files in bytes, and a sum
abbrev pub trial_line : ℕ → ℕ → ℕ → ℕ → ℕ → List ℕ
trial_line start count first second sum =
    codes "trial " ++ decimal start ++ codes " " ++ decimal count ++ codes " first " ++ decimal first ++ codes " second " ++ decimal second ++ codes " sum " ++ decimal sum ++ codes "\n"

-- `KIND A B`: a fault
abbrev pub fault_words : Fault → List ℕ
fault_words found = kind_name found.kind ++ codes " " ++ decimal found.a ++ codes " " ++ decimal found.b ++ codes "\n"

-- `refused KIND A B`
abbrev pub refused_line : Fault → List ℕ
refused_line found = codes "refused " ++ fault_words found

-- `second KIND A B`: a fault of the second file
abbrev pub second_line : Fault → List ℕ
second_line found = codes "second " ++ fault_words found

-- `ask WORD ASKED HAVE`
abbrev pub ask_numbers : List ℕ → ℕ → ℕ → List ℕ
ask_numbers word asked have = codes "ask " ++ word ++ codes " " ++ decimal asked ++ codes " " ++ decimal have ++ codes "\n"

-- the line of what the file doesn't have
abbrev pub ask_line : AskFault → List ℕ
ask_line (Cloud asked have) = ask_numbers (codes "cloud") asked have
ask_line (Blob asked have) = ask_numbers (codes "blob") asked have
ask_line (Field asked have) = ask_numbers (codes "field") asked have
ask_line (Keep asked have) = ask_numbers (codes "keep") asked have
ask_line (NotInteger asked have) = ask_numbers (codes "integer") asked have
ask_line (Range asked have) = ask_numbers (codes "range") asked have
ask_line (Decimal asked have) = ask_numbers (codes "decimal") asked have
ask_line (Clash asked have) = ask_numbers (codes "clash") asked have
ask_line (Length asked have) = ask_numbers (codes "length") asked have
ask_line (Header asked have) = ask_numbers (codes "header") asked have
ask_line (Width asked have) = ask_numbers (codes "width") asked have
ask_line (Cell asked have) = ask_numbers (codes "cell") asked have
ask_line Large = codes "ask large\n"

-- `words N`
abbrev pub words_line : ℕ → List ℕ
words_line at = codes "words " ++ decimal at ++ codes "\n"

abbrev pub source_line : List ℕ
source_line = codes "source fault\n"

abbrev pub out_line : List ℕ
out_line = codes "output fault\n"

abbrev pub memory_line : List ℕ
memory_line = codes "out of memory\n"
