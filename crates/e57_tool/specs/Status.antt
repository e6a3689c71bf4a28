-- The exit statuses of the program.
use Rattle.std.specs.Prelude.{ℕ}
use Rattle.e57_tool.specs.declared.status.Status.{Status}
use Rattle.e57_tool.specs.declared.status.Status.TheVariants.{Done, Refused, WordsFault, SourceFault, OutFault, Memory, AskRefused}

abbrev pub code_of : Status → ℕ
code_of Done = 0
code_of Refused = 1
code_of WordsFault = 2
code_of SourceFault = 3
code_of OutFault = 4
code_of Memory = 5
code_of AskRefused = 6
