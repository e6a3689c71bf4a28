-- A fault with its two numbers, and the fault of one call as that of a call that passes it on.
use Rattle.std.specs.Prelude.{ℕ}
use Rattle.e57_base.specs.declared.kind.Kind.{Kind}
use Rattle.e57_base.specs.declared.fault.Fault.{Fault}
use Rattle.e57_base.specs.declared.fault.ReadFault.{ReadFault}
use Rattle.e57_base.specs.declared.fault.ReadFault.TheVariants as of_read
use Rattle.e57_base.specs.declared.fault.TextFault.{TextFault}
use Rattle.e57_base.specs.declared.fault.TextFault.TheVariants as of_text
use Rattle.e57_base.specs.declared.fault.OpenFault.{OpenFault}
use Rattle.e57_base.specs.declared.fault.OpenFault.TheVariants as of_open
use Rattle.e57_base.specs.declared.fault.PutFault.{PutFault}
use Rattle.e57_base.specs.declared.fault.PutFault.TheVariants as of_put
use Rattle.e57_base.specs.declared.fault.WriteFault.{WriteFault}
use Rattle.e57_base.specs.declared.fault.WriteFault.TheVariants as of_write
use Rattle.e57_base.specs.declared.fault.AskFault.TheVariants as of_ask
use Rattle.e57_base.specs.declared.fault.RunFault.{RunFault}
use Rattle.e57_base.specs.declared.fault.RunFault.TheVariants as of_run

-- the fault of this kind with these two numbers
abbrev pub fault : Kind → ℕ → ℕ → Fault
fault kind a b = record { kind = kind; a = a; b = b }

-- a fault of a read as one of an opening, and as one of a run
abbrev pub read_as_open : ReadFault → OpenFault
read_as_open (of_read.Refused found) = of_open.Refused found
read_as_open of_read.Source = of_open.Source

abbrev pub read_as_run : ReadFault → RunFault
read_as_run (of_read.Refused found) = of_run.Refused found
read_as_run of_read.Source = of_run.Source

-- a fault of a text as one of an opening
abbrev pub text_as_open : TextFault → OpenFault
text_as_open (of_text.Refused found) = of_open.Refused found
text_as_open of_text.Memory = of_open.Memory

-- a fault of an opening as one of a run
abbrev pub open_as_run : OpenFault → RunFault
open_as_run (of_open.Refused found) = of_run.Refused found
open_as_run of_open.Source = of_run.Source
open_as_run of_open.Memory = of_run.Memory

-- a fault of a write of pages as one of a write that takes memory, and that as one of a run
abbrev pub put_as_write : PutFault → WriteFault
put_as_write of_put.Target = of_write.Target
put_as_write of_put.Large = of_write.Large

abbrev pub write_as_run : WriteFault → RunFault
write_as_run of_write.Target = of_run.Out
write_as_run of_write.Large = of_run.Ask of_ask.Large
write_as_run of_write.Memory = of_run.Memory
