-- The command that judges a file: how it ends, from the verdict and from what was put, and that it keeps its promise.
use Rattle.std.proofs.Common.{◌≡◌, ℕ, true, List, Some, Result, Ok, Err, inl, inr, refl, ap, subst, sym, ◌∙◌}
use Rattle.std.specs.Prelude.{MatchResult}
use Rattle.std.specs.Option.{option_or}
use Rattle.e57_base.proofs.CountLaws.{rose_before}
use Rattle.e57_base.specs.Fault.{read_as_open}
use Rattle.e57_base.specs.Source.{SourceView}
use Rattle.e57_base.specs.Target.{TargetView}
use Rattle.e57_base.specs.Sink.{SinkView}
use Rattle.e57_base.proofs.Told.{told_map, told_here, told_is}
use Rattle.e57_base.proofs.OpeningLaws.{opens_later}
use Rattle.e57_base.specs.declared.fault.Fault.{Fault}
use Rattle.e57_base.specs.declared.fault.ReadFault.{ReadFault}
use Rattle.e57_base.specs.declared.fault.ReadFault.TheVariants as read
use Rattle.e57_base.specs.declared.fault.OpenFault.{OpenFault}
use Rattle.e57_base.specs.declared.fault.OpenFault.TheVariants as opening
use Rattle.e57_base.specs.declared.fault.RunFault.TheVariants.{Refused, Source, Out, Memory, Ask}
use Rattle.e57_page.specs.declared.header.Header.{Header}
use Rattle.e57_page.specs.Header.{header_of}
use Rattle.e57_page.specs.File.{logical_size, opening_fault}
use Rattle.e57_page.specs.Opening.{IsOpenedFile, IsUnopenedFile}
use Rattle.e57_page.specs.XmlSection.{xml_span_fault}
use Rattle.e57_verdict.specs.Verdict.{all_pages_fault, fault_before_text, Verdict, accepted, refused, IsVerdict}
use Rattle.e57_check.specs.Checking.{Accepts, Rejects}
use Rattle.e57_check.specs.declared.summary.Summary.{Summary}
use Rattle.e57_tool.specs.declared.ending.Ending.{Ending}
use Rattle.e57_tool.specs.declared.ending.Ending.TheVariants.{Done, RefusedOnOut, RefusedSecond, Failed}
use Rattle.e57_tool.specs.Ending.{status_of}
use Rattle.e57_tool.specs.Outside.{Outside, outside, NoCallFails}
use Rattle.e57_tool.specs.Run.{CallsSource, OneFile, IsDone, Keeps}
use Rattle.e57_tool.specs.Check.{accepting, JudgesFile, PutsAnswer, ChecksFile, HasAcceptedFile, check_promise}
use Rattle.e57_tool.proofs.Keeping.{held_file}
use Rattle.e57_tool.proofs.Streaming.{opens_file}

-- ---- the verdict

-- the first faults of the verdict are those of opening
abbrev pub BeginsWithOpening : Type 0
BeginsWithOpening = (file : List ℕ) → fault_before_text file ≡ option_or (opening_fault file) (option_or (all_pages_fault file) (xml_span_fault (header_of file) (logical_size file)))

opening_refused : BeginsWithOpening → (file : List ℕ) (found : Fault) → opening_fault file ≡ Some found → IsVerdict file (refused found)
opening_refused begins file found first = inl (begins file ∙ ap (λ o. option_or o (option_or (all_pages_fault file) (xml_span_fault (header_of file) (logical_size file)))) first)

-- the file was not opened
pub unopened_judged : BeginsWithOpening → (name : List ℕ) (old new : SourceView) (fault : ReadFault) → IsUnopenedFile name old fault new → JudgesFile name old new (Err (read_as_open fault))
unopened_judged begins name old new (read.Refused found) wrong =
    record {
      source = record { opens = wrong.opens; file = wrong.file };
      is = told_map (λ file. opening_fault file ≡ Some found) (λ file. IsVerdict file (refused found)) new.held (λ file first. opening_refused begins file found first) wrong.first;
    }
unopened_judged begins name old new read.Source lost = record { opens = lost.opens; cause = lost.cause }

-- the open file was judged
pub judged : (name : List ℕ) (old mid new : SourceView) (size count : ℕ) (header : Header) (answer : Result Summary OpenFault) → IsOpenedFile name old size header mid → MatchResult answer (λ summary. Accepts count mid summary new) (λ found. Rejects count mid found new) → JudgesFile name old new answer
judged name old mid new size count header (Ok summary) opened accepts =
    record {
      source = opens_file name old mid new size header accepts.source.pages opened accepts.source.asks;
      is = told_here (λ file. IsVerdict file (accepting summary)) mid.held new.held accepts.source.asks.same.held accepts.verdict;
    }
judged name old mid new size count header (Err (opening.Refused found)) opened rejects =
    record {
      source = opens_file name old mid new size header rejects.source.pages opened rejects.source.asks;
      is = told_here (λ file. IsVerdict file (refused found)) mid.held new.held rejects.source.asks.same.held rejects.cause;
    }
judged name old mid new size count header (Err opening.Source) opened rejects =
    record {
      opens = opens_later opened.opens rejects.source.asks.same rejects.source.asks.faults;
      cause = rose_before old.faults mid.faults new.faults opened.opens.faults rejects.cause;
    }
judged name old mid new size count header (Err opening.Memory) opened rejects =
    record {
      source = opens_file name old mid new size header rejects.source.pages opened rejects.source.asks;
      whole = (size, rejects.source.asks.same.size ∙ opened.size_is, opened.whole);
    }

-- ---- what is put

pub checks : (name : List ℕ) (old new : SourceView) (answer : Result Summary OpenFault) (out out' : SinkView) (ending : Ending) → JudgesFile name old new answer → PutsAnswer answer out out' ending → ChecksFile name old new out out' ending
checks name old new (Ok summary) out out' ending has (inl (is, wrote)) =
    subst (λ e. ChecksFile name old new out out' e) (sym is) (summary, record { has = has; wrote = wrote })
checks name old new (Ok summary) out out' ending has (inr (is, cause, wrote)) =
    subst (λ e. ChecksFile name old new out out' e) (sym is) (record { verdict = accepting summary; has = has; cause = cause; wrote = wrote })
checks name old new (Err (opening.Refused found)) out out' ending has (inl (is, wrote)) =
    subst (λ e. ChecksFile name old new out out' e) (sym is) (found, record { has = has; wrote = wrote })
checks name old new (Err (opening.Refused found)) out out' ending has (inr (is, cause, wrote)) =
    subst (λ e. ChecksFile name old new out out' e) (sym is) (record { verdict = refused found; has = has; cause = cause; wrote = wrote })
checks name old new (Err opening.Source) out out' ending fails (is, nothing) =
    subst (λ e. ChecksFile name old new out out' e) (sym is) (record { opens = fails.opens; cause = fails.cause; nothing = nothing })
checks name old new (Err opening.Memory) out out' ending has (is, nothing) =
    subst (λ e. ChecksFile name old new out out' e) (sym is) (record { has = has; nothing = nothing })

-- ---- the promise is kept

-- each file has one verdict
abbrev pub HasOneVerdict : Type 0
HasOneVerdict = (file : List ℕ) (a b : Verdict) → IsVerdict file a → IsVerdict file b → a ≡ b

pub not_both : (clouds blobs records : ℕ) (found : Fault) → accepted clouds blobs records ≡ refused found → ⊥
not_both clouds blobs records found same = cc

done : HasOneVerdict → (name : List ℕ) (before after : Outside) (ending : Ending) → ChecksFile name before.source after.source before.out after.out ending → HasAcceptedFile name before → NoCallFails before after → IsDone true (status_of ending)
done one name before after Done ends ready calls = inl refl
done one name before after RefusedOnOut (found, puts) (file, there, accepts) calls =
    let held = held_file before.source.stock name file after.source.held there puts.has.source.file.held in
    let wrong = told_is (λ file. IsVerdict file (refused found)) after.source.held file held puts.has.is in
    absurd (not_both accepts.0.clouds accepts.0.blobs accepts.0.records found (one file (accepting accepts.0) (refused found) accepts.1 wrong))
done one name before after (RefusedSecond found) ends ready calls = absurd ends
done one name before after (Failed (Refused found)) ends ready calls = absurd ends
done one name before after (Failed Source) ends ready calls = absurd (calls.source_calls ends.cause)
done one name before after (Failed Out) ends ready calls = absurd (calls.out_calls ends.cause)
done one name before after (Failed Memory) ends ready calls = inr (refl, refl)
done one name before after (Failed (Ask why)) ends ready calls = absurd ends

opened : {S : Type 0} (name : List ℕ) (source source' : S) (old new : SourceView) (out out' : SinkView) (ending : Ending) → ChecksFile name old new out out' ending → CallsSource OneFile source source' old new (status_of ending)
opened name source source' old new out out' Done (summary, puts) = (puts.has.source.opens.opened, λ tells. puts.has.source.file.size)
opened name source source' old new out out' RefusedOnOut (found, puts) = (puts.has.source.opens.opened, λ tells. puts.has.source.file.size)
opened name source source' old new out out' (RefusedSecond found) ends = absurd ends
opened name source source' old new out out' (Failed (Refused found)) ends = absurd ends
opened name source source' old new out out' (Failed Source) ends = (ends.opens.opened, λ tells. absurd cc)
opened name source source' old new out out' (Failed Out) ends = (ends.has.source.opens.opened, λ tells. absurd cc)
opened name source source' old new out out' (Failed Memory) ends = (ends.has.source.opens.opened, λ tells. absurd cc)
opened name source source' old new out out' (Failed (Ask why)) ends = absurd ends

pub keeps : {S T O : Type 0} (source_of : S → SourceView) (target_of : T → TargetView) (out_of : O → SinkView) (name : List ℕ) (source source' : S) (target : T) (out out' : O) (ending : Ending) → HasOneVerdict → ChecksFile name (source_of source) (source_of source') (out_of out) (out_of out') ending → Keeps source_of target_of out_of (check_promise name) source target out (source', target, ending) out'
keeps source_of target_of out_of name source source' target out out' ending one ends =
    let before = outside (source_of source) (target_of target) (out_of out) in
    let after = outside (source_of source') (target_of target) (out_of out') in
    record {
      ends = ends;
      complete = done one name before after ending ends;
      source_calls = opened name source source' (source_of source) (source_of source') (out_of out) (out_of out') ending ends;
      target_calls = refl;
    }
