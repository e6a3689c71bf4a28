-- A command that writes one file from another: how it ends, from what opening and writing found, and that it keeps its promise.
use Rattle.std.proofs.Common.{◌≡◌, ◌⊎◌, ℕ, Bool, true, List, Option, Some, None, Result, Ok, Err, IfSome, MatchResult, inl, inr, refl, ap, subst, sym, ◌∙◌}
use Rattle.e57_base.proofs.CountLaws.{rose_before}
use Rattle.e57_base.proofs.OpeningLaws.{opens_later}
use Rattle.e57_base.proofs.Told.{told_here, told_is}
use Rattle.e57_base.specs.Count.{raised}
use Rattle.e57_base.specs.Fault.{read_as_run}
use Rattle.e57_base.specs.Source.{SourceView}
use Rattle.e57_base.specs.Target.{TargetView}
use Rattle.e57_base.specs.Sink.{SinkView}
use Rattle.e57_base.specs.declared.fault.Fault.{Fault}
use Rattle.e57_base.specs.declared.fault.AskFault.{AskFault}
use Rattle.e57_base.specs.declared.fault.AskFault.TheVariants as of_ask
use Rattle.e57_base.specs.declared.fault.ReadFault.{ReadFault}
use Rattle.e57_base.specs.declared.fault.ReadFault.TheVariants as read
use Rattle.e57_base.specs.declared.fault.RunFault.{RunFault}
use Rattle.e57_base.specs.declared.fault.RunFault.TheVariants.{Refused, Source, Out, Memory, Ask}
use Rattle.e57_page.specs.declared.header.Header.{Header}
use Rattle.e57_page.specs.Opening.{IsOpenedFile, IsUnopenedFile}
use Rattle.e57_page.specs.Pages.{AsksFor}
use Rattle.e57_verdict.specs.Content.{Content, IsContent}
use Rattle.e57_verdict.specs.Verdict.{IsVerdict, accepted, refused}
use Rattle.e57_plain.specs.Written.{Fits}
use Rattle.e57_copy.specs.Rewriting.{Rewriting, Gives, FallsShort, Rewrites, RewritesNot, LeavesPart, LeavesNew, BreaksNew, IsAskCause}
use Rattle.e57_plain.specs.Kept.{Selection, kept}
use Rattle.e57_plain.specs.Valid.{items_in}
use Rattle.e57_repack.specs.Repacking.{repacking}
use Rattle.e57_filter.specs.Asking.{FilterAsked, select_kept, filtering}
use Rattle.e57_tool.specs.declared.ending.Ending.{Ending}
use Rattle.e57_tool.specs.declared.ending.Ending.TheVariants.{Done, RefusedOnOut, RefusedSecond, Failed}
use Rattle.e57_tool.specs.Ending.{status_of}
use Rattle.e57_tool.specs.Outside.{Outside, outside, NoCallFails}
use Rattle.e57_tool.specs.Run.{CallsSource, OneFile, IsDone, Keeps}
use Rattle.e57_tool.specs.Rewritten.{told, LeavesUnclosed, RewritesFile, IsRewritable, HasRewritableFile, rewriting}
use Rattle.e57_tool.proofs.Checking.{BeginsWithOpening, HasOneVerdict, not_both, unopened_judged}
use Rattle.e57_tool.proofs.Keeping.{held_file}
use Rattle.e57_tool.proofs.Streaming.{opens_file}

-- ---- how it ends

-- the file was not opened
pub unopened : BeginsWithOpening → (r : Rewriting) (name made : List ℕ) (old new : SourceView) (target : TargetView) (fault : ReadFault) → IsUnopenedFile name old fault new → RewritesFile r name made old new target target (Failed (read_as_run fault))
unopened begins r name made old new target (read.Refused found) wrong =
    let has = unopened_judged begins name old new (read.Refused found) wrong in
    record { source = has.source; cause = inl (refl, has.is) }
unopened begins r name made old new target read.Source lost = record { opens = lost.opens; cause = lost.cause; left = inl refl }

-- the target was left so, by what it tells
left_told : {T : Type 0} (view : T → TargetView) (made : List ℕ) (target now : T) → LeavesNew view target made now → LeavesUnclosed made (view target) (view now)
left_told view made target now (inl same) = inl (ap view same)
left_told view made target now (inr part) = inr part

-- the target failed, by the source that holds the file still
broken_here : (r : Rewriting) (mid new : SourceView) (target now : TargetView) (made : List ℕ) → new.held ≡ mid.held → BreaksNew r mid target made now → BreaksNew r new target made now
broken_here r mid new target now made same (inl begun) = inl begun
broken_here r mid new target now made same (inr (inl part)) = inr (inl part)
broken_here r mid new target now made same (inr (inr part)) =
    inr (inr (record {
      content = part.content;
      writable = part.writable;
      of_file = told_here (λ file. Gives r file part.content) mid.held new.held same part.of_file;
      held = part.held;
      unended = part.unended;
      creates = part.creates;
    }))

-- what is asked for isn't there
abbrev Lacks : {T : Type 0} → Rewriting → SourceView → T → AskFault → T → Type 0
Lacks r source target why now = (now ≡ target) × IfSome source.held (λ file. FallsShort r file why)

lacks_here : {T : Type 0} (view : T → TargetView) (r : Rewriting) (mid new : SourceView) (target now : T) (why : AskFault) → new.held ≡ mid.held → Lacks r mid target why now → Lacks r new (view target) why (view now)
lacks_here view r mid new target now why same (left, short) = (ap view left, told_here (λ file. FallsShort r file why) mid.held new.held same short)

-- an ask is refused since the new file is too long, or since what is asked for isn't there
asked_case : {T : Type 0} (view : T → TargetView) (r : Rewriting) (source : SourceView) (target now : T) (made : List ℕ) (why : AskFault) (P : AskFault → Type 0) → (IsAskCause view r source target made of_ask.Large now → P of_ask.Large) → ((other : AskFault) → Lacks r source target other now → P other) → IsAskCause view r source target made why now → P why
asked_case view r source target now made (of_ask.Cloud a b) P large other cause = other (of_ask.Cloud a b) cause
asked_case view r source target now made (of_ask.Blob a b) P large other cause = other (of_ask.Blob a b) cause
asked_case view r source target now made (of_ask.Field a b) P large other cause = other (of_ask.Field a b) cause
asked_case view r source target now made (of_ask.Keep a b) P large other cause = other (of_ask.Keep a b) cause
asked_case view r source target now made (of_ask.NotInteger a b) P large other cause = other (of_ask.NotInteger a b) cause
asked_case view r source target now made (of_ask.Range a b) P large other cause = other (of_ask.Range a b) cause
asked_case view r source target now made (of_ask.Decimal a b) P large other cause = other (of_ask.Decimal a b) cause
asked_case view r source target now made (of_ask.Clash a b) P large other cause = other (of_ask.Clash a b) cause
asked_case view r source target now made (of_ask.Length a b) P large other cause = other (of_ask.Length a b) cause
asked_case view r source target now made (of_ask.Header a b) P large other cause = other (of_ask.Header a b) cause
asked_case view r source target now made (of_ask.Width a b) P large other cause = other (of_ask.Width a b) cause
asked_case view r source target now made (of_ask.Cell a b) P large other cause = other (of_ask.Cell a b) cause
asked_case view r source target now made of_ask.Large P large other cause = large cause

-- a new file of what is asked for is past the format's limits
abbrev IsPast : Rewriting → List ℕ → Type 0
IsPast r file = (content : Content) × Gives r file content × (Fits r.chunk content → ⊥)

asked_here : {T : Type 0} (view : T → TargetView) (r : Rewriting) (mid new : SourceView) (target now : T) (made : List ℕ) (why : AskFault) → new.held ≡ mid.held → IsAskCause view r mid target made why now → IsAskCause told r new (view target) made why (view now)
asked_here view r mid new target now made (of_ask.Cloud a b) same cause = lacks_here view r mid new target now (of_ask.Cloud a b) same cause
asked_here view r mid new target now made (of_ask.Blob a b) same cause = lacks_here view r mid new target now (of_ask.Blob a b) same cause
asked_here view r mid new target now made (of_ask.Field a b) same cause = lacks_here view r mid new target now (of_ask.Field a b) same cause
asked_here view r mid new target now made (of_ask.Keep a b) same cause = lacks_here view r mid new target now (of_ask.Keep a b) same cause
asked_here view r mid new target now made (of_ask.NotInteger a b) same cause = lacks_here view r mid new target now (of_ask.NotInteger a b) same cause
asked_here view r mid new target now made (of_ask.Range a b) same cause = lacks_here view r mid new target now (of_ask.Range a b) same cause
asked_here view r mid new target now made (of_ask.Decimal a b) same cause = lacks_here view r mid new target now (of_ask.Decimal a b) same cause
asked_here view r mid new target now made (of_ask.Clash a b) same cause = lacks_here view r mid new target now (of_ask.Clash a b) same cause
asked_here view r mid new target now made (of_ask.Length a b) same cause = lacks_here view r mid new target now (of_ask.Length a b) same cause
asked_here view r mid new target now made (of_ask.Header a b) same cause = lacks_here view r mid new target now (of_ask.Header a b) same cause
asked_here view r mid new target now made (of_ask.Width a b) same cause = lacks_here view r mid new target now (of_ask.Width a b) same cause
asked_here view r mid new target now made (of_ask.Cell a b) same cause = lacks_here view r mid new target now (of_ask.Cell a b) same cause
asked_here view r mid new target now made of_ask.Large same (part, past) = (part, told_here (IsPast r) mid.held new.held same past)

-- how writing the file anew from the open file ends
abbrev pub Answers : {T : Type 0} → (T → TargetView) → Rewriting → SourceView → SourceView → T → List ℕ → Result ℕ RunFault → T → Type 0
Answers view r mid new target made answer now =
    MatchResult answer (λ total. Rewrites r mid (view target) made total (view now)) (λ fault. RewritesNot view r mid new target made fault now)

-- the file was open, and was written anew or not
ends : {T : Type 0} (view : T → TargetView) (r : Rewriting) (name made : List ℕ) (old mid new : SourceView) (size : ℕ) (header : Header) (pages : List ℕ) (target now : T) (fault : RunFault) → IsOpenedFile name old size header mid → AsksFor mid pages new → RewritesNot view r mid new target made fault now → RewritesFile r name made old new (view target) (view now) (Failed fault)
ends view r name made old mid new size header pages target now (Refused found) opened asks (inl (same, verdict)) =
    record {
      source = opens_file name old mid new size header pages opened asks;
      cause = inl (ap view same, told_here (λ file. IsVerdict file (refused found)) mid.held new.held asks.same.held verdict);
    }
ends view r name made old mid new size header pages target now (Refused found) opened asks (inr (untold, part)) =
    record { source = opens_file name old mid new size header pages opened asks; cause = inr (asks.same.held ∙ untold, part) }
ends view r name made old mid new size header pages target now Source opened asks (cause, left) =
    record {
      opens = opens_later opened.opens asks.same asks.faults;
      cause = rose_before old.faults mid.faults new.faults opened.opens.faults cause;
      left = left_told view made target now left;
    }
ends view r name made old mid new size header pages target now Out opened asks (cause, left) =
    record {
      source = opens_file name old mid new size header pages opened asks;
      cause = cause;
      left = broken_here r mid new (view target) (view now) made asks.same.held left;
    }
ends view r name made old mid new size header pages target now Memory opened asks left =
    record {
      has = record { source = opens_file name old mid new size header pages opened asks; whole = (size, asks.same.size ∙ opened.size_is, opened.whole) };
      left = left_told view made target now left;
    }
ends view r name made old mid new size header pages target now (Ask why) opened asks cause =
    record {
      source = opens_file name old mid new size header pages opened asks;
      cause = asked_here view r mid new target now made why asks.same.held cause;
    }

pub rewritten : {T : Type 0} (view : T → TargetView) (r : Rewriting) (name made : List ℕ) (old mid new : SourceView) (size : ℕ) (header : Header) (pages : List ℕ) (target now : T) (answer : Result ℕ RunFault) (ending : Ending) → IsOpenedFile name old size header mid → AsksFor mid pages new → Answers view r mid new target made answer now → MatchResult answer (λ total. ending ≡ Done) (λ fault. ending ≡ Failed fault) → RewritesFile r name made old new (view target) (view now) ending
rewritten view r name made old mid new size header pages target now (Ok total) ending opened asks wrote is =
    subst (λ e. RewritesFile r name made old new (view target) (view now) e) (sym is)
    (record {
      source = opens_file name old mid new size header pages opened asks;
      wrote = (
        total,
        record {
          content = wrote.content;
          writable = wrote.writable;
          of_file = told_here (λ file. Gives r file wrote.content) mid.held new.held asks.same.held wrote.of_file;
          held = wrote.held;
          total = wrote.total;
          ended = wrote.ended;
          creates = wrote.creates;
        },
      );
    })
rewritten view r name made old mid new size header pages target now (Err fault) ending opened asks wrote is =
    subst (λ e. RewritesFile r name made old new (view target) (view now) e) (sym is)
    (ends view r name made old mid new size header pages target now fault opened asks wrote)

-- ---- the promise is kept

-- each file has one content, and only an accepted file has one
abbrev pub HasOneContent : Type 0
HasOneContent = (file : List ℕ) (a b : Content) → IsContent file a → IsContent file b → a ≡ b

abbrev pub IsAcceptedWhereContent : Type 0
IsAcceptedWhereContent = (file : List ℕ) (content : Content) → IsContent file content → (clouds blobs records : ℕ) × IsVerdict file (accepted clouds blobs records)

-- from each content one is made
abbrev pub GivesOne : Rewriting → Type 0
GivesOne r = (c d e : Content) → r.gives c d → r.gives c e → d ≡ e

pub repack_gives_one : (chunk : ℕ) (is_tight : Bool) → GivesOne (repacking chunk is_tight)
repack_gives_one chunk is_tight c d e first second = first ∙ sym second

same_answer : {A E : Type 0} (result : Result A E) (a b : A) → result ≡ Ok a → result ≡ Ok b → a ≡ b
same_answer result a b first second = cc

pub filter_gives_one : (asked : FilterAsked) → GivesOne (filtering asked)
filter_gives_one asked c d e first second =
    let same : first.selection ≡ second.selection = same_answer (select_kept asked (items_in c)) first.selection second.selection first.selects second.selects in
    first.keeps ∙ (ap (λ (s : Selection). kept s c) same ∙ sym second.keeps)

not_refused : HasOneVerdict → (file : List ℕ) (found : Fault) → (clouds blobs records : ℕ) × IsVerdict file (accepted clouds blobs records) → IsVerdict file (refused found) → ⊥
not_refused one file found (clouds, blobs, records, accepts) wrong =
    not_both clouds blobs records found (one file (accepted clouds blobs records) (refused found) accepts wrong)

fits : HasOneContent → (r : Rewriting) → GivesOne r → (file : List ℕ) → IsRewritable r file → (content : Content) → Gives r file content → Fits r.chunk content
fits one r single file ready content given =
    let same = one file given.old ready.old given.of_file ready.of_file in
    let there : r.gives ready.old content = subst (λ c. r.gives c content) same given.gives in
    subst (λ c. Fits r.chunk c) (single ready.old ready.content content ready.gives there) ready.fits

not_past : HasOneContent → (r : Rewriting) → GivesOne r → (file : List ℕ) → IsRewritable r file → IsPast r file → ⊥
not_past one r single file ready (content, given, past) = past (fits one r single file ready content given)

not_short : HasOneContent → (r : Rewriting) (file : List ℕ) (why : AskFault) → IsRewritable r file → FallsShort r file why → ⊥
not_short one r file why ready short =
    ready.there why (subst (λ c. r.is_short c why) (one file short.old ready.old short.of_file ready.of_file) short.short)

untold : (held : Option (List ℕ)) (file : List ℕ) → held ≡ Some file → held ≡ None → ⊥
untold held file some none = cc

done : HasOneVerdict → HasOneContent → IsAcceptedWhereContent → (r : Rewriting) → GivesOne r → (name made : List ℕ) (before after : Outside) (ending : Ending) → RewritesFile r name made before.source after.source before.target after.target ending → HasRewritableFile r name before → NoCallFails before after → IsDone true (status_of ending)
done one content accepts r single name made before after Done wrote ready calls = inl refl
done one content accepts r single name made before after RefusedOnOut wrote ready calls = absurd wrote
done one content accepts r single name made before after (RefusedSecond found) wrote ready calls = absurd wrote
done one content accepts r single name made before after (Failed (Refused found)) wrote ready calls =
    let held = held_file before.source.stock name ready.0 after.source.held ready.1 wrote.source.file.held in
    absurd (refuses held wrote.cause) where
      refuses : after.source.held ≡ Some ready.0 → ((after.target ≡ before.target) × IfSome after.source.held (λ file. IsVerdict file (refused found))) ⊎ ((after.source.held ≡ None) × LeavesPart before.target made after.target) → ⊥
      refuses held (inl (same, verdict)) = not_refused one ready.0 found (accepts ready.0 ready.2.old ready.2.of_file) (told_is (λ file. IsVerdict file (refused found)) after.source.held ready.0 held verdict)
      refuses held (inr (none, part)) = untold after.source.held ready.0 held none
done one content accepts r single name made before after (Failed Source) wrote ready calls = absurd (calls.source_calls wrote.cause)
done one content accepts r single name made before after (Failed Out) wrote ready calls = absurd (calls.target_calls wrote.cause)
done one content accepts r single name made before after (Failed Memory) wrote ready calls = inr (refl, refl)
done one content accepts r single name made before after (Failed (Ask why)) wrote ready calls =
    let held = held_file before.source.stock name ready.0 after.source.held ready.1 wrote.source.file.held in
    absurd (asked_case told r after.source before.target after.target made why (λ _. ⊥)
    (λ large. not_past content r single ready.0 ready.2 (told_is (IsPast r) after.source.held ready.0 held large.1))
    (λ other lacks. not_short content r ready.0 other ready.2 (told_is (λ file. FallsShort r file other) after.source.held ready.0 held lacks.1))
    wrote.cause)

-- the target was created once at most
abbrev IsCreated : TargetView → TargetView → Type 0
IsCreated target now = (now.created ≡ target.created) ⊎ (now.created ≡ raised target.created)

created_same : (target now : TargetView) → now ≡ target → IsCreated target now
created_same target now same = inl (ap (λ (t : TargetView). t.created) same)

created_left : (made : List ℕ) (target now : TargetView) → LeavesUnclosed made target now → IsCreated target now
created_left made target now (inl same) = created_same target now same
created_left made target now (inr part) = inr part.creates.created

created_broken : (r : Rewriting) (source : SourceView) (made : List ℕ) (target now : TargetView) → BreaksNew r source target made now → IsCreated target now
created_broken r source made target now (inl begun) = inr begun.created
created_broken r source made target now (inr (inl part)) = inr part.creates.created
created_broken r source made target now (inr (inr part)) = inr part.creates.created

created_refused : (made : List ℕ) (target now : TargetView) (A B : Type 0) → ((now ≡ target) × A) ⊎ (B × LeavesPart target made now) → IsCreated target now
created_refused made target now A B (inl (same, verdict)) = created_same target now same
created_refused made target now A B (inr (none, part)) = inr part.creates.created

created : (r : Rewriting) (name made : List ℕ) (old new : SourceView) (target now : TargetView) (ending : Ending) → RewritesFile r name made old new target now ending → IsCreated target now
created r name made old new target now Done wrote = inr wrote.wrote.1.creates.created
created r name made old new target now RefusedOnOut wrote = absurd wrote
created r name made old new target now (RefusedSecond found) wrote = absurd wrote
created r name made old new target now (Failed (Refused found)) wrote = created_refused made target now _ _ wrote.cause
created r name made old new target now (Failed Source) wrote = created_left made target now wrote.left
created r name made old new target now (Failed Out) wrote = created_broken r new made target now wrote.left
created r name made old new target now (Failed Memory) wrote = created_left made target now wrote.left
created r name made old new target now (Failed (Ask why)) wrote =
    asked_case told r new target now made why (λ _. IsCreated target now) (λ large. inr large.0.creates.created) (λ other lacks. created_same target now lacks.0) wrote.cause

opened : {S : Type 0} (r : Rewriting) (name made : List ℕ) (source source' : S) (old new : SourceView) (target now : TargetView) (ending : Ending) → RewritesFile r name made old new target now ending → CallsSource OneFile source source' old new (status_of ending)
opened r name made source source' old new target now Done wrote = (wrote.source.opens.opened, λ tells. wrote.source.file.size)
opened r name made source source' old new target now RefusedOnOut wrote = absurd wrote
opened r name made source source' old new target now (RefusedSecond found) wrote = absurd wrote
opened r name made source source' old new target now (Failed (Refused found)) wrote = (wrote.source.opens.opened, λ tells. wrote.source.file.size)
opened r name made source source' old new target now (Failed Source) wrote = (wrote.opens.opened, λ tells. absurd cc)
opened r name made source source' old new target now (Failed Out) wrote = (wrote.source.opens.opened, λ tells. absurd cc)
opened r name made source source' old new target now (Failed Memory) wrote = (wrote.has.source.opens.opened, λ tells. absurd cc)
opened r name made source source' old new target now (Failed (Ask why)) wrote = (wrote.source.opens.opened, λ tells. wrote.source.file.size)

pub keeps : {S T O : Type 0} (source_of : S → SourceView) (target_of : T → TargetView) (out_of : O → SinkView) (r : Rewriting) (name made : List ℕ) (source source' : S) (target target' : T) (out : O) (ending : Ending) → HasOneVerdict → HasOneContent → IsAcceptedWhereContent → GivesOne r → RewritesFile r name made (source_of source) (source_of source') (target_of target) (target_of target') ending → Keeps source_of target_of out_of (rewriting r name made) source target out (source', target', ending) out
keeps source_of target_of out_of r name made source source' target target' out ending one content accepts single wrote =
    let before = outside (source_of source) (target_of target) (out_of out) in
    let after = outside (source_of source') (target_of target') (out_of out) in
    record {
      ends = record { ends = wrote; nothing = refl };
      complete = done one content accepts r single name made before after ending wrote;
      source_calls = opened r name made source source' (source_of source) (source_of source') (target_of target) (target_of target') ending wrote;
      target_calls = created r name made (source_of source) (source_of source') (target_of target) (target_of target') ending wrote;
    }
