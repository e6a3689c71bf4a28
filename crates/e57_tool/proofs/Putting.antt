-- A command that opens no file and puts a text keeps its promise, by how it ended.
use Rattle.std.proofs.Common.{◌≡◌, List, ℕ, Bool, inl, inr, refl, subst}
use Rattle.e57_base.specs.Count.{Rose}
use Rattle.e57_base.specs.Source.{SourceView}
use Rattle.e57_base.specs.Target.{TargetView}
use Rattle.e57_base.specs.Sink.{SinkView, GrowsByFront}
use Rattle.e57_base.specs.declared.fault.RunFault.TheVariants.{Refused, Source, Out, Memory, Ask}
use Rattle.e57_tool.specs.declared.ending.Ending.{Ending}
use Rattle.e57_tool.specs.declared.ending.Ending.TheVariants.{Done, RefusedOnOut, RefusedSecond, Failed}
use Rattle.e57_tool.specs.Ending.{status_of}
use Rattle.e57_tool.specs.Outside.{Outside, NoCallFails}
use Rattle.e57_tool.specs.Putting.{PutsText, putting}
use Rattle.e57_tool.specs.Run.{IsDone, Keeps}

done : (takes : Bool) (text : List ℕ) (before after : Outside) (ending : Ending) → PutsText takes text before.out after.out ending → NoCallFails before after → IsDone takes (status_of ending)
done takes text before after Done ends calls = inl refl
done takes text before after RefusedOnOut ends calls = absurd ends
done takes text before after (RefusedSecond found) ends calls = absurd ends
done takes text before after (Failed (Refused found)) ends calls = absurd ends
done takes text before after (Failed Source) ends calls = absurd ends
done takes text before after (Failed Out) ends calls = absurd (calls.out_calls ends.0)
done takes text before after (Failed Memory) ends calls = inr (ends.0, refl)
done takes text before after (Failed (Ask why)) ends calls = absurd ends

pub keeps : {S T O : Type 0} (source_of : S → SourceView) (target_of : T → TargetView) (out_of : O → SinkView) (takes : Bool) (text : List ℕ) (source : S) (target : T) (out out' : O) (ending : Ending) → PutsText takes text (out_of out) (out_of out') ending → Keeps source_of target_of out_of (putting takes text) source target out (source, target, ending) out'
keeps source_of target_of out_of takes text source target out out' ending ends =
    record {
      ends = ends;
      complete = λ ready calls. done takes text _ _ ending ends calls;
      source_calls = refl;
      target_calls = refl;
    }

-- a piece that is the text was put in part
pub front_put : (takes : Bool) (text piece : List ℕ) (out out' : SinkView) → piece ≡ text → GrowsByFront out.written piece out'.written → Rose out.faults out'.faults → PutsText takes text out out' (Failed Out)
front_put takes text piece out out' same front rose = (rose, subst (λ p. GrowsByFront out.written p out'.written) same front)
