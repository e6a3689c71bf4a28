-- A command that opens no file and puts a text: how it ends.
use Rattle.std.specs.Prelude.{◌≡◌, ℕ, List, Bool, false, IsTrue}
use Rattle.e57_base.specs.Count.{Rose}
use Rattle.e57_base.specs.Sink.{SinkView, Grows, GrowsByFront}
use Rattle.e57_base.specs.declared.fault.RunFault.TheVariants.{Refused, Source, Out, Memory, Ask}
use Rattle.e57_tool.specs.declared.ending.Ending.{Ending}
use Rattle.e57_tool.specs.declared.ending.Ending.TheVariants.{Done, RefusedOnOut, RefusedSecond, Failed}
use Rattle.e57_tool.specs.Run.{Promise, NoFile}

-- The text was put, or a prefix of it where the sink failed; or, where memory is taken, it ran out, and nothing was put.
abbrev pub PutsText : Bool → List ℕ → SinkView → SinkView → Ending → Type 0
PutsText takes text out out' Done = Grows out.written text out'.written
PutsText takes text out out' RefusedOnOut = ⊥
PutsText takes text out out' (RefusedSecond found) = ⊥
PutsText takes text out out' (Failed (Refused found)) = ⊥
PutsText takes text out out' (Failed Source) = ⊥
PutsText takes text out out' (Failed Out) = Rose out.faults out'.faults × GrowsByFront out.written text out'.written
PutsText takes text out out' (Failed Memory) = IsTrue takes × (out' ≡ out)
PutsText takes text out out' (Failed (Ask why)) = ⊥

-- what a command promises that puts this text, by whether it takes memory
abbrev pub putting : Bool → List ℕ → Promise
putting takes text =
    record {
      ends = λ before after ending. PutsText takes text before.out after.out ending;
      is_ready = λ before. Unit {0};
      takes_memory = takes;
      opens = NoFile;
      writes = false;
    }
