-- A command that reads one file keeps its promise.
use Rattle.std.proofs.Common.{◌≡◌, ℕ, List, Option, Some, None, inl, inr, refl, ◌∙◌}
use Rattle.std.specs.Prelude.{IfSome, option_and_then}
use Rattle.std.specs.FinMap.{get}
use Rattle.e57_base.specs.Source.{Stock, SourceView}
use Rattle.e57_base.specs.Target.{TargetView}
use Rattle.e57_base.specs.Sink.{SinkView}
use Rattle.e57_base.specs.declared.fault.Fault.{Fault}
use Rattle.e57_base.specs.declared.fault.RunFault.TheVariants.{Refused, Source, Out, Memory, Ask}
use Rattle.e57_tool.specs.declared.ending.Ending.{Ending}
use Rattle.e57_tool.specs.declared.ending.Ending.TheVariants.{Done, RefusedOnOut, RefusedSecond, Failed}
use Rattle.e57_tool.specs.Ending.{status_of}
use Rattle.e57_tool.specs.Outside.{Outside, outside, NoCallFails}
use Rattle.e57_tool.specs.Run.{CallsSource, OneFile, IsDone, Keeps}
use Rattle.e57_tool.specs.FileAnswer.{FileAnswer, PageRule, AnswersFile, ReadsFile, HasSoundFile, reading}
use Rattle.e57_base.proofs.Told.{told_is}

-- what is held is the stock's file
pub held_file : (stock : Option Stock) (name file : List ℕ) (held : Option (List ℕ)) → option_and_then (λ files. get files name) stock ≡ Some file → IfSome stock (λ files. held ≡ get files name) → held ≡ Some file
held_file None name file held has is = absurd cc
held_file (Some files) name file held has is = is ∙ has

-- no file is sound and has a fault
abbrev pub IsEither : FileAnswer → Type 0
IsEither answer = (file : List ℕ) (found : Fault) → answer.is_sound file → answer.is_faulty file found → ⊥

done : (answer : FileAnswer) (name : List ℕ) (before after : Outside) (ending : Ending) → IsEither answer → AnswersFile answer name before.source after.source before.out after.out ending → HasSoundFile answer name before → NoCallFails before after → IsDone answer.takes_memory (status_of ending)
done answer name before after Done either ends ready calls = inl refl
done answer name before after RefusedOnOut either ends ready calls = absurd ends
done answer name before after (RefusedSecond found) either ends ready calls = absurd ends
done answer name before after (Failed (Refused found)) either ends ready calls =
    let held = held_file before.source.stock name ready.0 after.source.held ready.1 ends.file.held in
    absurd (either ready.0 found ready.2 (told_is (λ file. answer.is_faulty file found) after.source.held ready.0 held ends.first))
done answer name before after (Failed Source) either ends ready calls = absurd (calls.source_calls ends.cause)
done answer name before after (Failed Out) either ends ready calls = absurd (calls.out_calls ends.cause)
done answer name before after (Failed Memory) either ends ready calls = inr (ends.takes, refl)
done answer name before after (Failed (Ask why)) either ends ready calls = absurd ends

opened : {S : Type 0} (answer : FileAnswer) (name : List ℕ) (source source' : S) (old new : SourceView) (out out' : SinkView) (ending : Ending) → AnswersFile answer name old new out out' ending → CallsSource OneFile source source' old new (status_of ending)
opened answer name source source' old new out out' Done ends = (ends.opens.opened, λ tells. ends.file.size)
opened answer name source source' old new out out' RefusedOnOut ends = absurd ends
opened answer name source source' old new out out' (RefusedSecond found) ends = absurd ends
opened answer name source source' old new out out' (Failed (Refused found)) ends = (ends.opens.opened, λ tells. ends.file.size)
opened answer name source source' old new out out' (Failed Source) ends = (ends.opens.opened, λ tells. absurd cc)
opened answer name source source' old new out out' (Failed Out) ends = (ends.opens.opened, λ tells. absurd cc)
opened answer name source source' old new out out' (Failed Memory) ends = (ends.opens.opened, λ tells. absurd cc)
opened answer name source source' old new out out' (Failed (Ask why)) ends = absurd ends

pub keeps : {S T O : Type 0} (source_of : S → SourceView) (target_of : T → TargetView) (out_of : O → SinkView) (answer : FileAnswer) (rule : PageRule) (name : List ℕ) (source source' : S) (target : T) (out out' : O) (ending : Ending) → IsEither answer → ReadsFile answer rule name (source_of source) (source_of source') (out_of out) (out_of out') ending → Keeps source_of target_of out_of (reading answer rule name) source target out (source', target, ending) out'
keeps source_of target_of out_of answer rule name source source' target out out' ending either reads =
    let before = outside (source_of source) (target_of target) (out_of out) in
    let after = outside (source_of source') (target_of target) (out_of out') in
    record {
      ends = reads;
      complete = done answer name before after ending either reads.answers;
      source_calls = opened answer name source source' (source_of source) (source_of source') (out_of out) (out_of out') ending reads.answers;
      target_calls = refl;
    }
