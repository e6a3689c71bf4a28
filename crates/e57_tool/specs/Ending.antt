-- How a command ends, the status of that, and its line on `err`.
use Rattle.std.specs.Prelude.{◌≡◌, ◌⊎◌, ℕ, List, Option, Some, None}
use Rattle.e57_base.specs.Count.{Rose}
use Rattle.e57_base.specs.Sink.{SinkView, Grows, GrowsByFront}
use Rattle.e57_base.specs.declared.fault.RunFault.{RunFault}
use Rattle.e57_base.specs.declared.fault.RunFault.TheVariants.{Refused, Source, Out, Memory, Ask}
use Rattle.e57_tool.specs.declared.ending.Ending.{Ending}
use Rattle.e57_tool.specs.declared.ending.Ending.TheVariants.{Done, RefusedOnOut, RefusedSecond, Failed}
use Rattle.e57_tool.specs.declared.status.Status.{Status}
use Rattle.e57_tool.specs.declared.status.Status.TheVariants as status
use Rattle.e57_tool.specs.Lines.{refused_line, second_line, ask_line, source_line, out_line, memory_line}

-- the status of a fault
abbrev pub fault_status : RunFault → Status
fault_status (Refused found) = status.Refused
fault_status Source = status.SourceFault
fault_status Out = status.OutFault
fault_status Memory = status.Memory
fault_status (Ask why) = status.AskRefused

abbrev pub status_of : Ending → Status
status_of Done = status.Done
status_of RefusedOnOut = status.Refused
status_of (RefusedSecond found) = status.Refused
status_of (Failed fault) = fault_status fault

-- the line of a fault
abbrev pub fault_line : RunFault → List ℕ
fault_line (Refused found) = refused_line found
fault_line Source = source_line
fault_line Out = out_line
fault_line Memory = memory_line
fault_line (Ask why) = ask_line why

-- the line on `err`, none where there is nothing to say there
abbrev pub line_of : Ending → Option (List ℕ)
line_of Done = None
line_of RefusedOnOut = None
line_of (RefusedSecond found) = Some (second_line found)
line_of (Failed fault) = Some (fault_line fault)

-- The line was put, or a prefix of it where the sink failed.
abbrev pub PutsLine : SinkView → List ℕ → SinkView → Type 0
PutsLine old line new = Grows old.written line new.written ⊎ (Rose old.faults new.faults × GrowsByFront old.written line new.written)

-- The line was put, where there is one.
abbrev pub PutsLineOf : SinkView → Option (List ℕ) → SinkView → Type 0
PutsLineOf old None new = new ≡ old
PutsLineOf old (Some line) new = PutsLine old line new
