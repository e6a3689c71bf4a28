-- A command that puts its output in pieces: how it ends, from what opening the file and putting found, and that it keeps its
-- promise.
use Rattle.std.proofs.Common.{◌≡◌, ℕ, ◌*◌, ◌/◌, Bool, true, false, List, Option, Some, None, inl, inr, refl, ◌∙◌}
use Rattle.e57_base.proofs.CountLaws.{rose_before}
use Rattle.e57_base.specs.Fault.{read_as_run}
use Rattle.e57_base.specs.Source.{SourceView}
use Rattle.e57_base.specs.Target.{TargetView}
use Rattle.e57_base.specs.Sink.{SinkView}
use Rattle.e57_base.proofs.Told.{told_map, told_both, told_here, told_is}
use Rattle.e57_base.proofs.OpeningLaws.{opens_later, open_later}
use Rattle.e57_base.specs.declared.fault.Fault.{Fault}
use Rattle.e57_base.specs.declared.fault.ReadFault.{ReadFault}
use Rattle.e57_base.specs.declared.fault.ReadFault.TheVariants as read
use Rattle.e57_base.specs.declared.fault.RunFault.{RunFault}
use Rattle.e57_base.specs.declared.fault.RunFault.TheVariants.{Refused, Source, Out, Memory, Ask}
use Rattle.e57_page.specs.declared.header.Header.{Header}
use Rattle.e57_page.specs.Header.{header_of}
use Rattle.e57_page.specs.File.{logical_size, opening_fault}
use Rattle.e57_page.specs.Opening.{IsOpenedFile, IsUnopenedFile}
use Rattle.e57_page.specs.Pages.{AsksFor}
use Rattle.e57_page.specs.XmlSection.{xml_span_fault}
use Rattle.e57_show.specs.Streaming.{Streamed, IsWhole, PutsAll, PutsFront, PutsSome, PutsBeforeMemory, StreamEnds}
use Rattle.e57_tool.specs.declared.ending.Ending.{Ending}
use Rattle.e57_tool.specs.declared.ending.Ending.TheVariants.{Done, RefusedOnOut, RefusedSecond, Failed}
use Rattle.e57_tool.specs.Ending.{status_of}
use Rattle.e57_tool.specs.Outside.{Outside, outside, NoCallFails}
use Rattle.e57_tool.specs.Run.{CallsSource, OneFile, IsDone, Keeps}
use Rattle.e57_tool.specs.FileAnswer.{PageRule}
use Rattle.e57_tool.specs.Show.{HasTextPlace}
use Rattle.e57_tool.specs.InPieces.{IsEarlyFault, IsWholeFile, OpensFile, AnswersInPieces, HasWholeFile, StreamsFile, streaming}
use Rattle.e57_tool.proofs.Keeping.{held_file}
use Rattle.e57_tool.proofs.Showing.{place_told}
use Rattle.e57_base.proofs.Options.{none_and_some}

-- ---- the promise is kept

not_early : (streamed : Streamed) (file : List ℕ) (found : Fault) → IsWholeFile streamed file → IsEarlyFault streamed file found → ⊥
not_early streamed file found sound (inl opening) = sound.opening found opening
not_early streamed file found sound (inr (before, early)) = sound.whole.early found early

done : (streamed : Streamed) (name : List ℕ) (before after : Outside) (ending : Ending) → AnswersInPieces streamed name before.source after.source before.out after.out ending → HasWholeFile streamed name before → NoCallFails before after → IsDone true (status_of ending)
done streamed name before after Done ends ready calls = inl refl
done streamed name before after RefusedOnOut ends ready calls = absurd ends
done streamed name before after (RefusedSecond found) ends ready calls = absurd ends
done streamed name before after (Failed (Refused found)) (inl ends) ready calls =
    let held = held_file before.source.stock name ready.0 after.source.held ready.1 ends.source.file.held in
    absurd (not_early streamed ready.0 found ready.2 (told_is (λ file. IsEarlyFault streamed file found) after.source.held ready.0 held ends.first))
done streamed name before after (Failed (Refused found)) (inr ends) ready calls =
    let held = held_file before.source.stock name ready.0 after.source.held ready.1 ends.source.file.held in
    absurd (ready.2.whole.late found (told_is (λ file. streamed.is_late file found) after.source.held ready.0 held ends.first))
done streamed name before after (Failed Source) ends ready calls = absurd (calls.source_calls ends.cause)
done streamed name before after (Failed Out) ends ready calls = absurd (calls.out_calls ends.cause)
done streamed name before after (Failed Memory) ends ready calls = inr (refl, refl)
done streamed name before after (Failed (Ask why)) ends ready calls =
    let held = held_file before.source.stock name ready.0 after.source.held ready.1 ends.source.file.held in
    absurd (ready.2.whole.there why (told_is (λ file. streamed.is_short file why) after.source.held ready.0 held ends.short))

opened : {S : Type 0} (streamed : Streamed) (name : List ℕ) (source source' : S) (old new : SourceView) (out out' : SinkView) (ending : Ending) → AnswersInPieces streamed name old new out out' ending → CallsSource OneFile source source' old new (status_of ending)
opened streamed name source source' old new out out' Done ends = (ends.source.opens.opened, λ tells. ends.source.file.size)
opened streamed name source source' old new out out' RefusedOnOut ends = absurd ends
opened streamed name source source' old new out out' (RefusedSecond found) ends = absurd ends
opened streamed name source source' old new out out' (Failed (Refused found)) (inl ends) = (ends.source.opens.opened, λ tells. ends.source.file.size)
opened streamed name source source' old new out out' (Failed (Refused found)) (inr ends) = (ends.source.opens.opened, λ tells. ends.source.file.size)
opened streamed name source source' old new out out' (Failed Source) ends = (ends.opens.opened, λ tells. absurd cc)
opened streamed name source source' old new out out' (Failed Out) ends = (ends.source.opens.opened, λ tells. absurd cc)
opened streamed name source source' old new out out' (Failed Memory) ends = (ends.source.opens.opened, λ tells. absurd cc)
opened streamed name source source' old new out out' (Failed (Ask why)) ends = (ends.source.opens.opened, λ tells. ends.source.file.size)

pub keeps : {S T O : Type 0} (source_of : S → SourceView) (target_of : T → TargetView) (out_of : O → SinkView) (streamed : Streamed) (rule : PageRule) (name : List ℕ) (source source' : S) (target : T) (out out' : O) (ending : Ending) → StreamsFile streamed rule name (source_of source) (source_of source') (out_of out) (out_of out') ending → Keeps source_of target_of out_of (streaming streamed rule name) source target out (source', target, ending) out'
keeps source_of target_of out_of streamed rule name source source' target out out' ending streams =
    let before = outside (source_of source) (target_of target) (out_of out) in
    let after = outside (source_of source') (target_of target) (out_of out') in
    record {
      ends = streams;
      complete = done streamed name before after ending streams.answers;
      source_calls = opened streamed name source source' (source_of source) (source_of source') (out_of out) (out_of out') ending streams.answers;
      target_calls = refl;
    }

-- ---- how it ends

-- the file was not opened
pub unopened : (streamed : Streamed) (name : List ℕ) (old new : SourceView) (out : SinkView) (fault : ReadFault) → IsUnopenedFile name old fault new → AnswersInPieces streamed name old new out out (Failed (read_as_run fault))
unopened streamed name old new out (read.Refused found) refused =
    inl (record {
      source = record { opens = refused.opens; file = refused.file };
      first = told_map (λ file. opening_fault file ≡ Some found) (λ file. IsEarlyFault streamed file found) new.held (λ file first. inl first) refused.first;
      kind = inl refused.kind;
      nothing = refl;
    })
unopened streamed name old new out read.Source lost = record { opens = lost.opens; cause = lost.cause; wrote = inl refl }

-- what was put is of the file that is held still
all_here : (streamed : Streamed) (before now : Option (List ℕ)) (out out' : SinkView) → now ≡ before → PutsAll streamed before out out' → PutsAll streamed now out out'
all_here streamed before now out out' same (text, told, grows) = (text, told_here (λ file. streamed.is_output file text) before now same told, grows)

front_here : (streamed : Streamed) (before now : Option (List ℕ)) (out out' : SinkView) → now ≡ before → PutsFront streamed before out out' → PutsFront streamed now out out'
front_here streamed before now out out' same (text, told, grows) = (text, told_here (λ file. streamed.is_output file text) before now same told, grows)

some_here : (streamed : Streamed) (before now : Option (List ℕ)) (out out' : SinkView) → now ≡ before → PutsSome streamed before out out' → PutsSome streamed now out out'
some_here streamed before now out out' same (inl nothing) = inl nothing
some_here streamed before now out out' same (inr front) = inr (front_here streamed before now out out' same front)

memory_here : (midway : Bool) (streamed : Streamed) (before now : Option (List ℕ)) (out out' : SinkView) → now ≡ before → PutsBeforeMemory midway streamed before out out' → PutsBeforeMemory midway streamed now out out'
memory_here false streamed before now out out' same nothing = nothing
memory_here true streamed before now out out' same some = some_here streamed before now out out' same some

pub opens_file : (name : List ℕ) (old mid new : SourceView) (size : ℕ) (header : Header) (pages : List ℕ) → IsOpenedFile name old size header mid → AsksFor mid pages new → OpensFile name old new
opens_file name old mid new size header pages opened asks =
    record { opens = opens_later opened.opens asks.same asks.faults; file = open_later old mid new name opened.file asks.same }

-- all was put
pub completed : (streamed : Streamed) (name : List ℕ) (old mid new : SourceView) (size : ℕ) (header : Header) (pages : List ℕ) (out out' : SinkView) → IsOpenedFile name old size header mid → AsksFor mid pages new → StreamEnds streamed mid new out out' None → AnswersInPieces streamed name old new out out' Done
completed streamed name old mid new size header pages out out' opened asks ends =
    record {
      source = opens_file name old mid new size header pages opened asks;
      sound = told_here (IsWholeFile streamed) mid.held new.held asks.same.held
          (told_both (λ file. opening_fault file ≡ None) (IsWhole streamed) (IsWholeFile streamed) mid.held (λ file sound whole. record { opening = λ found some. none_and_some (opening_fault file) found sound some; whole = whole }) opened.sound ends.0);
      wrote = all_here streamed mid.held new.held out out' asks.same.held ends.1;
    }

-- it was not; where memory ran out, the section has its place
pub failed : (streamed : Streamed) (name : List ℕ) (old mid new : SourceView) (size : ℕ) (header : Header) (pages : List ℕ) (out out' : SinkView) (fault : RunFault) → IsOpenedFile name old size header mid → AsksFor mid pages new → (fault ≡ Memory → xml_span_fault header (size / 1024 * 1020) ≡ None) → StreamEnds streamed mid new out out' (Some fault) → AnswersInPieces streamed name old new out out' (Failed fault)
failed streamed name old mid new size header pages out out' (Refused found) opened asks placed (inl (kind, early, nothing)) =
    inl (record {
      source = opens_file name old mid new size header pages opened asks;
      first = told_here (λ file. IsEarlyFault streamed file found) mid.held new.held asks.same.held
          (told_both (λ file. opening_fault file ≡ None) (λ file. streamed.is_faulty file found) (λ file. IsEarlyFault streamed file found) mid.held (λ file sound late. inr (sound, late)) opened.sound early);
      kind = inr kind;
      nothing = nothing;
    })
failed streamed name old mid new size header pages out out' (Refused found) opened asks placed (inr (kind, late, puts)) =
    inr (record {
      source = opens_file name old mid new size header pages opened asks;
      opened = told_here (λ file. opening_fault file ≡ None) mid.held new.held asks.same.held opened.sound;
      first = told_here (λ file. streamed.is_late file found) mid.held new.held asks.same.held late;
      kind = kind;
      wrote = all_here streamed mid.held new.held out out' asks.same.held puts;
    })
failed streamed name old mid new size header pages out out' Source opened asks placed (cause, puts) =
    record {
      opens = opens_later opened.opens asks.same asks.faults;
      cause = rose_before old.faults mid.faults new.faults opened.opens.faults cause;
      wrote = some_here streamed mid.held new.held out out' asks.same.held puts;
    }
failed streamed name old mid new size header pages out out' Out opened asks placed (cause, puts) =
    record {
      source = opens_file name old mid new size header pages opened asks;
      opened = told_here (λ file. opening_fault file ≡ None) mid.held new.held asks.same.held opened.sound;
      cause = cause;
      wrote = front_here streamed mid.held new.held out out' asks.same.held puts;
    }
failed streamed name old mid new size header pages out out' Memory opened asks placed puts =
    record {
      source = opens_file name old mid new size header pages opened asks;
      whole = (size, asks.same.size ∙ opened.size_is, opened.whole);
      long = told_here HasTextPlace mid.held new.held asks.same.held
          (told_both (λ file. opening_fault file ≡ None) (λ file. xml_span_fault (header_of file) (logical_size file) ≡ None) HasTextPlace mid.held (λ file sound none. (sound, none)) opened.sound (place_told mid size header None opened.long opened.read (placed refl)));
      wrote = memory_here streamed.runs_out_midway streamed mid.held new.held out out' asks.same.held puts;
    }
failed streamed name old mid new size header pages out out' (Ask why) opened asks placed (may, short, nothing) =
    record {
      source = opens_file name old mid new size header pages opened asks;
      opened = told_here (λ file. opening_fault file ≡ None) mid.held new.held asks.same.held opened.sound;
      short = told_here (λ file. streamed.is_short file why) mid.held new.held asks.same.held short;
      may = may;
      nothing = nothing;
    }
