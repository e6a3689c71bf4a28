-- From a new file that is written, or not, to what is asked for of the file that it is made of.
use Rattle.std.specs.Prelude.{MatchResult, Result, Ok, Err}
use Rattle.std.specs.Option.{option_map, option_or}
use Rattle.std.proofs.Common.{◌≡◌, inl, inr, ℕ, ◌≤◌, List, length, None, IfSome, refl, sym, subst, ◌∙◌}
use Rattle.e57_base.proofs.CountLaws.{rose_before}
use Rattle.e57_base.proofs.Options.{option_or_parts}
use Rattle.e57_base.proofs.Told.{told_here}
use Rattle.e57_base.specs.Count.{Rose}
use Rattle.e57_base.specs.Fault.{open_as_run}
use Rattle.e57_base.specs.Source.{SourceView}
use Rattle.e57_base.specs.Target.{TargetView}
use Rattle.e57_base.specs.declared.fault.AskFault.{AskFault}
use Rattle.e57_base.specs.declared.fault.AskFault.TheVariants as of_ask
use Rattle.e57_base.specs.declared.fault.OpenFault.{OpenFault}
use Rattle.e57_base.specs.declared.fault.OpenFault.TheVariants as of_open
use Rattle.e57_base.specs.declared.fault.RunFault.{RunFault}
use Rattle.e57_base.specs.declared.fault.RunFault.TheVariants.{Refused, Source, Out, Memory, Ask}
use Rattle.e57_page.specs.File.{opening_fault, logical_size}
use Rattle.e57_page.specs.Header.{header_of}
use Rattle.e57_page.specs.XmlSection.{xml_span_fault}
use Rattle.e57_elements.specs.Tree.{Element, preorder}
use Rattle.e57_elements.specs.declared.tree.RawNode.{RawNode}
use Rattle.e57_nodes.specs.Shape.{shape_of}
use Rattle.e57_nodes.specs.Typed.{typed_fault}
use Rattle.e57_verdict.specs.Content.{Content, IsContent}
use Rattle.e57_verdict.specs.Things.{things_in, things_fault}
use Rattle.e57_verdict.specs.Verdict.{IsSoundFile, IsVerdict, refused, all_pages_fault, fault_behind_text}
use Rattle.e57_verdict.proofs.Laws.Opening.{before-opening}
use Rattle.e57_plain.specs.Written.{Fits, IsWritable, plain}
use Rattle.e57_check.specs.Checking.{HasSoundNodes, Rejects}
use Rattle.e57_copy.specs.Ending.{Aim, BreaksFile, IsLarge, WritesFile, WritesNoFile}
use Rattle.e57_copy.specs.Rewriting.{Rewriting, Rewrites, RewritesNot, BreaksNew, FallsShort, Gives, IsAskCause, LacksHeader, LeavesPart}
use Rattle.e57_copy.specs.Several.{content_in, AreSound}
use Rattle.e57_copy.proofs.OneTree.{one-tree}

-- ---- the file that is read

pub sound-things : (file : List ℕ) (e : Element) → IsSoundFile file e → AreSound (things_in e) file
unfolding fault_behind_text
sound-things file e sound =
    let first = option_or_parts (opening_fault file) (option_or (all_pages_fault file) (xml_span_fault (header_of file) (logical_size file))) (sym (before-opening file) ∙ sound.has_tree.sound) in (
      (option_or_parts (all_pages_fault file) (xml_span_fault (header_of file) (logical_size file)) first.1).0,
      (option_or_parts (typed_fault (shape_of e)) (things_fault file (things_in e)) sound.sound).1,
    )

pub is-content : (file : List ℕ) (e : Element) → IsSoundFile file e → IsContent file (content_in file e)
is-content file e sound = record { tree = e; is_sound = sound; same_tree = refl; same_bodies = refl }

pub sound-tree : (file : List ℕ) (nodes : List RawNode) (e : Element) → nodes ≡ preorder e → HasSoundNodes file nodes → IsSoundFile file e
sound-tree file nodes e same has = subst (λ (x : Element). IsSoundFile file x) (one-tree nodes has.tree e has.in_preorder same) has.sound

-- ---- what is written of it

-- What is aimed at is what is asked for of the file that the source held, and each reason against it is one of the file or the source.
pub record Serves (r : Rewriting) (aim : Aim) (source after : SourceView) : Type 0 where
  pub chunk : aim.chunk ≡ r.chunk
  pub gives : (content : Content) → aim.is content → IsWritable r.chunk content → IfSome source.held (λ file. Gives r file content)
  pub refused : aim.refused → source.held ≡ None
  pub failed : aim.failed → Rose source.faults after.faults
  pub large : aim.large → IfSome source.held (λ file. (content : Content) × Gives r file content × (Fits r.chunk content → ⊥))

module _ {T : Type 0} (view : T → TargetView) (r : Rewriting) (aim : Aim) (source after : SourceView) (target now : T) (name : List ℕ) (serves : Serves r aim source after) where
  writable-so : (content : Content) → IsWritable aim.chunk content → IsWritable r.chunk content
  writable-so content is = subst (λ n. IsWritable n content) serves.chunk is

  rewrites : (total : ℕ) → WritesFile aim (view target) name total (view now) → Rewrites r source (view target) name total (view now)
  rewrites total written =
      let content = written.content in
      let can = writable-so content written.writable in
      record {
        content = content;
        writable = can;
        of_file = serves.gives content written.is can;
        held = subst (λ n. (view now).held ≡ option_map (λ _. plain n content) (view target).held) serves.chunk written.held;
        total = subst (λ n. total ≡ length (plain n content)) serves.chunk written.total;
        ended = written.ended;
        creates = written.creates;
      }

  breaks : BreaksFile aim (view target) name (view now) → BreaksNew r source (view target) name (view now)
  breaks (inl not_begun) = inl not_begun
  breaks (inr (inl part)) = inr (inl part)
  breaks (inr (inr lacks)) =
      let content = lacks.content in
      let can = writable-so content lacks.writable in
      inr (inr (record {
        content = content;
        writable = can;
        of_file = serves.gives content lacks.is can;
        held = subst (λ n. LacksHeader (plain n content) (view target).held (view now).held) serves.chunk lacks.held;
        unended = lacks.unended;
        creates = lacks.creates;
      }))

  asked : (why : AskFault) → LeavesPart (view target) name (view now) → IsLarge aim why → IsAskCause view r source target name why now
  asked of_ask.Large part large = (part, serves.large large)
  asked why part none = absurd none

  not-rewritten : (fault : RunFault) → WritesNoFile aim (view target) name fault (view now) → RewritesNot view r source after target name fault now
  not-rewritten (Refused found) lost = inr (serves.refused lost.1, lost.0)
  not-rewritten Source lost = (serves.failed lost.0, inr lost.1)
  not-rewritten Out lost = (lost.0, breaks lost.1)
  not-rewritten Memory lost = inr lost
  not-rewritten (Ask why) lost = asked why lost.0 lost.1

  pub rewritten-or-not : (result : Result ℕ RunFault)
      → MatchResult result (λ total. WritesFile aim (view target) name total (view now)) (λ fault. WritesNoFile aim (view target) name fault (view now))
      → MatchResult result (λ total. Rewrites r source (view target) name total (view now)) (λ fault. RewritesNot view r source after target name fault now)
  rewritten-or-not (Ok total) written = rewrites total written
  rewritten-or-not (Err fault) lost = not-rewritten fault lost

-- ---- a file that is not accepted

pub not-judged : {T : Type 0} (view : T → TargetView) (r : Rewriting) (count : ℕ) (old new : SourceView) (target : T) (name : List ℕ) (fault : OpenFault) → Rejects count old fault new → RewritesNot view r old new target name (open_as_run fault) target
not-judged view r count old new target name (of_open.Refused found) rejects = inl (refl, rejects.cause)
not-judged view r count old new target name of_open.Source rejects = (rejects.cause, inl refl)
not-judged view r count old new target name of_open.Memory rejects = inl refl

-- ---- what came before

-- the same file, asked for other pages before
pub rewritten-later : {T : Type 0} (view : T → TargetView) (r : Rewriting) (old mid new : SourceView) (target now : T) (name : List ℕ) (result : Result ℕ RunFault) → mid.held ≡ old.held → old.faults ≤ mid.faults
    → MatchResult result (λ total. Rewrites r mid (view target) name total (view now)) (λ fault. RewritesNot view r mid new target name fault now)
    → MatchResult result (λ total. Rewrites r old (view target) name total (view now)) (λ fault. RewritesNot view r old new target name fault now)
rewritten-later view r old mid new target now name result here rises done = by_result result done
  where
    given : (content : Content) → IfSome mid.held (λ file. Gives r file content) → IfSome old.held (λ file. Gives r file content)
    given content of = told_here (λ file. Gives r file content) mid.held old.held (sym here) of

    breaks : BreaksNew r mid (view target) name (view now) → BreaksNew r old (view target) name (view now)
    breaks (inl not_begun) = inl not_begun
    breaks (inr (inl part)) = inr (inl part)
    breaks (inr (inr lacks)) = inr (inr (record {
      content = lacks.content;
      writable = lacks.writable;
      of_file = given lacks.content lacks.of_file;
      held = lacks.held;
      unended = lacks.unended;
      creates = lacks.creates;
    }))

    short : (why : AskFault) → (now ≡ target) × IfSome mid.held (λ file. FallsShort r file why) → (now ≡ target) × IfSome old.held (λ file. FallsShort r file why)
    short why lost = (lost.0, told_here (λ file. FallsShort r file why) mid.held old.held (sym here) lost.1)

    by_fault : (fault : RunFault) → RewritesNot view r mid new target name fault now → RewritesNot view r old new target name fault now
    by_fault (Refused found) (inl lost) = inl (lost.0, told_here (λ file. IsVerdict file (refused found)) mid.held old.held (sym here) lost.1)
    by_fault (Refused found) (inr lost) = inr (sym here ∙ lost.0, lost.1)
    by_fault Source lost = (rose_before old.faults mid.faults new.faults rises lost.0, lost.1)
    by_fault Out lost = (lost.0, breaks lost.1)
    by_fault Memory lost = lost
    by_fault (Ask of_ask.Large) lost = (lost.0, told_here (λ file. (content : Content) × Gives r file content × (Fits r.chunk content → ⊥)) mid.held old.held (sym here) lost.1)
    by_fault (Ask why) lost = short why lost

    by_result : (result : Result ℕ RunFault) → MatchResult result (λ total. Rewrites r mid (view target) name total (view now)) (λ fault. RewritesNot view r mid new target name fault now)
        → MatchResult result (λ total. Rewrites r old (view target) name total (view now)) (λ fault. RewritesNot view r old new target name fault now)
    by_result (Ok total) done = record {
      content = done.content;
      writable = done.writable;
      of_file = given done.content done.of_file;
      held = done.held;
      total = done.total;
      ended = done.ended;
      creates = done.creates;
    }
    by_result (Err fault) lost = by_fault fault lost
