-- How `blob` ends, and what it asks for, from its steps.
use Rattle.std.proofs.Common.{◌≡◌, ℕ, ◌+◌, ◌*◌, ◌/◌, ◌<◌, ◌≤◌, Bool, true, false, ◌||◌, List, [], length, slice_get, Option, Some, None, Result, Ok, Err, inl, inr, refl, sym, subst, ap, ◌∙◌, arith}
use Rattle.std.specs.Prelude.{IfSome, IfErr, IsErrAnd, MatchOption, MatchResult, nat_lt}
use Rattle.std.proofs.lemmas.Bool.{ltb-false}
use Rattle.std.proofs.lemmas.Bool.Decides.{nat_tests}
use Rattle.std.proofs.lemmas.List.{append-nil}
use Rattle.std.proofs.lemmas.Option.{slice_get_within}
use Rattle.e57_base.proofs.CountLaws.{rose_before}
use Rattle.e57_base.specs.Source.{SourceView}
use Rattle.e57_base.specs.Sink.{SinkView}
use Rattle.e57_base.proofs.Told.{told_map, told_both, told_here}
use Rattle.e57_base.specs.Fault.{open_as_run, read_as_run}
use Rattle.e57_base.specs.declared.fault.Fault.{Fault}
use Rattle.e57_base.specs.declared.fault.AskFault.{AskFault}
use Rattle.e57_base.specs.declared.fault.OpenFault.{OpenFault}
use Rattle.e57_base.specs.declared.fault.OpenFault.TheVariants as of_open
use Rattle.e57_base.specs.declared.fault.ReadFault.{ReadFault}
use Rattle.e57_base.specs.declared.fault.ReadFault.TheVariants as read
use Rattle.e57_base.specs.declared.fault.RunFault.{RunFault}
use Rattle.e57_base.specs.declared.fault.RunFault.TheVariants.{Refused, Source, Out, Memory, Ask}
use Rattle.e57_base.specs.declared.kind.Kind.{Kind}
use Rattle.e57_base.specs.declared.kind.Kind.TheVariants.{XmlPlace, XmlLimit}
use Rattle.e57_page.specs.Kept.{KeepsTo}
use Rattle.e57_page.specs.Place.{place, span_end}
use Rattle.e57_page.proofs.PlaceLaws.{rises_from_lower, rises_to_higher}
use Rattle.e57_page.specs.File.{logical_size, span_fault}
use Rattle.e57_page.specs.Pages.{Reading, AsksWithin, AsksFor}
use Rattle.e57_page.proofs.PagesLaws.{asks_for_on, asks_within_on, asks_unkept_within}
use Rattle.e57_page.specs.XmlSection.{xml_span_fault}
use Rattle.e57_elements.specs.declared.tree.RawNode.{RawNode}
use Rattle.e57_elements.specs.Tree.{Element, preorder}
use Rattle.e57_tree.specs.declared.items.Blob.{Blob}
use Rattle.e57_tree.specs.Held.{blobs_of}
use Rattle.e57_file.specs.Text.{AsksForXml, JudgesPlace, is_place_kind}
use Rattle.e57_file.specs.Opened.{HasNodes, IsTreeFault, IsOpenCause, is_tree_kind}
use Rattle.e57_file.specs.Blob.{blob_head, blob_start, stated_blob_fault, head_within, head_place, LiesIn}
use Rattle.e57_file.specs.BlobReading.{AsksHead, IsBlobCause, JudgesBlobPlace, IsPastBlobPlace, is_blob_kind}
use Rattle.e57_show.specs.Opening.{IsPastPlace, JudgesPlaceFirst}
use Rattle.e57_show.specs.Streaming.{IsWhole, StreamEnds}
use Rattle.e57_show.specs.Blob.{HasBlobAt, IsBlobFault, HasFewerBlobs, IsLatePage, is_page_kind, right_bytes, IsBlobOutput, blob_streamed, needed, AreBlobPages, AsksForBlob, IsBlobOf, FewerBlobs}
use Rattle.e57_show.specs.BlobPutting.{KeepsLast, AsksBetween, IsBytesCause, PutsBytes, FailsBytes}
use Rattle.e57_show.proofs.Showing.{IsEither, IsOneTree, no_tree_fault}
use Rattle.e57_base.proofs.Options.{cond_found, none_and_some}
use Rattle.e57_file.proofs.Blobs.{lies}

placed : (size n head : ℕ) (p : Option ℕ) → head_within size n p ≡ Some head → head + (16 + n) ≤ size
placed size n head None e = absurd cc
placed size n head (Some q) e =
    let both = cond_found (nat_lt size (q + (16 + n))) q head e in
    rw both.1 at (ltb-false size (q + (16 + n)) both.0)

lies_within : (size : ℕ) (blob : Blob) → LiesIn size blob → blob_head blob + (16 + blob.length) ≤ size
lies_within size blob lies = placed size blob.length (blob_head blob) (place blob.place) lies

head_is : (size n head : ℕ) (p : Option ℕ) → head_within size n p ≡ Some head → p ≡ Some head
head_is size n head None e = absurd cc
head_is size n head (Some q) e = ap (λ (x : ℕ). Some x) (cond_found (nat_lt size (q + (16 + n))) q head e).1

last_of : (h k : ℕ) → k + 1 ≡ span_end h 16 → (k < span_end h 16) × (span_end h 16 ≤ k + 144) × (h / 1020 ≤ k)
last_of h k is = (grind (arith, nat_tests), grind (arith, nat_tests), grind (arith, nat_tests))

pub keeps_last : (h : ℕ) (kept now : List ℕ) → KeepsTo kept (h / 1020) (span_end h 16) (span_end h 16) now → KeepsLast h 16 now
keeps_last h kept now keeps k is = let here = last_of h k is in keeps.last k here.0 here.1 (inl here.2)

-- ---- the blob of a told file

pub has_blob_at : (held : Option (List ℕ)) (nodes : List RawNode) (k : ℕ) (blob : Blob) → IsBlobOf nodes k blob → IfSome held (λ file. HasNodes file nodes) → IfSome held (λ file. HasBlobAt file k blob)
has_blob_at held nodes k blob of_nodes told =
    told_map (λ file. HasNodes file nodes) (λ file. HasBlobAt file k blob) held (λ file is. (is.tree, record { has = is.has; typed = is.typed }, of_nodes.there is.tree is.in_preorder)) told

pub blob_there : (nodes : List RawNode) (k : ℕ) (blob : Blob) (e : Element) → IsBlobOf nodes k blob → nodes ≡ preorder e → k < length (blobs_of e)
blob_there nodes k blob e of_nodes same = slice_get_within (blobs_of e) k blob (of_nodes.there e same)

-- ---- what was asked for

pub asked_text : {S : Type 0} (now : Reading S) (k : ℕ) (old new : SourceView) → AsksForXml now old new → AsksForBlob now k old new
asked_text now k old new (text, rises, unkept, asks) =
    record {
      text = text;
      bytes = [];
      text_rises = rises;
      text_unkept = unkept;
      bytes_rise = tt;
      of_blob = inl refl;
      asks = subst (λ (pages : List ℕ). AsksFor old pages new) (sym (append-nil text)) asks;
    }

end_in_file : (h n long count pages : ℕ) → n ≤ 16 + long → h + (16 + long) ≤ count → count ≡ pages * 1020 → span_end h n ≤ pages
end_in_file h n long count pages few inside is = grind (arith, nat_tests)

longer_span : (h a b : ℕ) → a ≤ b → span_end h a ≤ span_end h b
longer_span h a b within = grind (arith, nat_tests)

-- pages of the first n bytes of the blob's section
pub asked_blob : {S : Type 0} (now : Reading S) (k n : ℕ) (blob : Blob) (old mid new : SourceView) → AsksForXml now old mid → AsksWithin (blob_head blob / 1020) (span_end (blob_head blob) n) mid new → n ≤ 16 + blob.length → LiesIn (now.length / 1024 * 1020) blob → IfSome old.held (λ file. logical_size file ≡ now.length / 1024 * 1020) → IfSome old.held (λ file. HasBlobAt file k blob) → IfSome old.held (λ file. n ≤ needed blob.length (stated_blob_fault file blob)) → AsksForBlob now k old new
asked_blob now k n blob old mid new (text, rises, unkept, asks) (bytes, bytes_rise, bytes_asked) few lies sized there needs =
    let h = blob_head blob in
    let size = now.length / 1024 * 1020 in
    let within = end_in_file h n blob.length size (now.length / 1024) few (lies_within size blob lies) refl in
    record {
      text = text;
      bytes = bytes;
      text_rises = rises;
      text_unkept = unkept;
      bytes_rise = rises_from_lower 0 (h / 1020) (now.length / 1024) bytes (omega arith) (rises_to_higher (h / 1020) (span_end h n) (now.length / 1024) bytes within bytes_rise);
      of_blob = inr
          (told_both (λ file. (logical_size file ≡ size) × HasBlobAt file k blob) (λ file. n ≤ needed blob.length (stated_blob_fault file blob)) (λ file. AreBlobPages k file bytes) old.held
          (λ file both need. (blob, both.1, subst (λ (s : ℕ). LiesIn s blob) (sym both.0) lies, rises_to_higher (h / 1020) (span_end h n) (span_end h (needed blob.length (stated_blob_fault file blob))) bytes (longer_span h n (needed blob.length (stated_blob_fault file blob)) need) bytes_rise))
          (told_both (λ file. logical_size file ≡ size) (λ file. HasBlobAt file k blob) (λ file. (logical_size file ≡ size) × HasBlobAt file k blob) old.held (λ file a b. (a, b)) sized there)
          needs);
      asks = asks_for_on text bytes asks bytes_asked;
    }

need_head : (n : ℕ) (o : Option Fault) → 16 ≤ needed n o
need_head n None = omega arith
need_head n (Some found) = omega arith

needs_head : (held : Option (List ℕ)) (blob : Blob) → IfSome held (λ file. 16 ≤ needed blob.length (stated_blob_fault file blob))
needs_head None blob = tt
needs_head (Some file) blob = need_head blob.length (stated_blob_fault file blob)

-- pages of the header
pub asked_head : {S : Type 0} (now : Reading S) (k : ℕ) (kept : List ℕ) (blob : Blob) (old mid new : SourceView) → AsksForXml now old mid → AsksHead kept blob mid new → LiesIn (now.length / 1024 * 1020) blob → IfSome old.held (λ file. logical_size file ≡ now.length / 1024 * 1020) → IfSome old.held (λ file. HasBlobAt file k blob) → AsksForBlob now k old new
asked_head now k kept blob old mid new text head lies sized there =
    asked_blob now k 16 blob old mid new text (asks_unkept_within kept (blob_head blob / 1020) (span_end (blob_head blob) 16) mid new head) (omega arith) lies sized there (needs_head old.held blob)

-- where the blob's place was judged, the pages of the header, or none
pub asked_judged : {S T : Type 0} (view : S → SourceView) (now before after : Reading S) (k : ℕ) (blob : Blob) (old : SourceView) (result : Result T ReadFault) → AsksForXml now old (view before.source) → before.length ≡ now.length → JudgesBlobPlace before blob result after → AsksHead before.kept blob (view before.source) (view after.source) → IfSome old.held (λ file. logical_size file ≡ now.length / 1024 * 1020) → IfSome old.held (λ file. HasBlobAt file k blob) → AsksForBlob now k old (view after.source)
asked_judged {S} {T} view now before after k blob old result text same judged head sized there = elim (head_place (before.length / 1024 * 1020) blob) as (λ (o : Option ℕ). head_place (before.length / 1024 * 1020) blob ≡ o → MatchOption o ((result ≡ Err (read.Refused (record { kind = Rattle.e57_base.specs.declared.kind.Kind.TheVariants.BlobPlace; a = blob.node; b = blob.place }))) × (after ≡ before)) (λ _. IfErr result IsPastBlobPlace) → AsksForBlob now k old (view after.source)) [
  | None ↦ λ none here. subst (λ (r : Reading S). AsksForBlob now k old (view r.source)) (sym here.1) (asked_text now k old (view before.source) text)
  | Some q ↦ λ some past. asked_head now k before.kept blob old (view before.source) (view after.source) text head (subst (λ (n : ℕ). LiesIn (n / 1024 * 1020) blob) same (lies (before.length / 1024 * 1020) q blob some)) sized there
] refl judged

-- pages of the header and of the bytes
pub asked_all : {S : Type 0} (now : Reading S) (k : ℕ) (kept : List ℕ) (blob : Blob) (old mid later new : SourceView) → AsksForXml now old mid → AsksHead kept blob mid later → AsksBetween blob 0 blob.length later new → LiesIn (now.length / 1024 * 1020) blob → IfSome old.held (λ file. logical_size file ≡ now.length / 1024 * 1020) → IfSome old.held (λ file. HasBlobAt file k blob) → IfSome old.held (λ file. stated_blob_fault file blob ≡ None) → AsksForBlob now k old new
asked_all now k kept blob old mid later new text head bytes lies sized there sound =
    let h = blob_head blob in
    asked_blob now k (16 + blob.length) blob old mid new text
    (asks_within_on (h / 1020) (span_end h 16) (span_end h (16 + blob.length)) mid later new (head_begin h) (longer_span h 16 (16 + blob.length) (omega arith)) (asks_unkept_within kept (h / 1020) (span_end h 16) mid later head) bytes)
    (omega arith) lies sized there
    (told_map (λ file. stated_blob_fault file blob ≡ None) (λ file. 16 + blob.length ≤ needed blob.length (stated_blob_fault file blob)) old.held (λ file none. rw none (omega arith)) sound)
  where
    head_begin : (q : ℕ) → q / 1020 ≤ span_end q 16
    head_begin q = grind (arith, nat_tests)

-- ---- the section's place was judged

not_both : {A : Type 0} (x : A) (fault : OpenFault) → ◌≡◌ {A = Result A OpenFault} (Ok x) (Err fault) → ⊥
not_both x fault e = cc

pub judged_later : {S A B : Type 0} (old mid new : Reading S) (x : A) (later : Result B RunFault) (out out' : SinkView) → JudgesPlace {S = S} {T = A} old (Ok x) mid → IfErr later IsPastPlace → JudgesPlaceFirst old out later new out'
judged_later {S} {A} {B} old mid new x later out out' judged past = elim (xml_span_fault old.header (old.length / 1024 * 1020)) as (λ (o : Option Fault). MatchOption o (IfErr {T = A} {E = OpenFault} (Ok x) (λ f. Rattle.e57_file.specs.Text.IsPastPlace f)) (λ found. (◌≡◌ {A = Result A OpenFault} (Ok x) (Err (of_open.Refused found))) × (mid ≡ old)) → MatchOption o (IfErr later IsPastPlace) (λ found. (later ≡ Err (Refused found)) × (new ≡ old) × (out' ≡ out))) [
  | None ↦ λ _. past
  | Some found ↦ λ refused. absurd (not_both x (of_open.Refused found) refused.0)
] judged

blob_kind : (kind : Kind) → is_blob_kind kind ≡ true → is_place_kind kind ≡ false
blob_kind XmlPlace e = absurd cc
blob_kind XmlLimit e = absurd cc
blob_kind other e = refl

page_kind : (kind : Kind) → is_page_kind kind ≡ true → is_place_kind kind ≡ false
page_kind XmlPlace e = absurd cc
page_kind XmlLimit e = absurd cc
page_kind other e = refl

read_past : (old new : SourceView) (blob : Blob) (found : ReadFault) → IsBlobCause old blob found new → IsPastPlace (read_as_run found)
read_past old new blob (read.Refused found) cause = blob_kind found.kind cause.0
read_past old new blob read.Source cause = tt

pub head_past : {T : Type 0} (old new : SourceView) (blob : Blob) (found : ReadFault) (result : Result T RunFault) → IsErrAnd result (λ f. f ≡ read_as_run found) → IsBlobCause old blob found new → IfErr result IsPastPlace
head_past old new blob found (Ok x) is cause = tt
head_past old new blob found (Err f) is cause = subst IsPastPlace (sym is) (read_past old new blob found cause)

bytes_fault_past : (blob : Blob) (old new : SourceView) (out out' : SinkView) (fault : RunFault) → IsBytesCause blob old new out out' fault → IsPastPlace fault
bytes_fault_past blob old new out out' (Refused found) cause = page_kind found.kind cause.0
bytes_fault_past blob old new out out' Source cause = tt
bytes_fault_past blob old new out out' Out cause = tt
bytes_fault_past blob old new out out' Memory cause = absurd cause
bytes_fault_past blob old new out out' (Ask why) cause = absurd cause

pub bytes_past : {T : Type 0} (blob : Blob) (old new : SourceView) (out out' : SinkView) (result : Result T RunFault) → MatchResult result (λ _. PutsBytes blob old new out out') (λ fault. FailsBytes blob old new out out' fault) → IfErr result IsPastPlace
bytes_past blob old new out out' (Ok x) is = tt
bytes_past blob old new out out' (Err fault) is = bytes_fault_past blob old new out out' fault is.cause

-- ---- the ends

either_kind : (a b : Bool) → a ≡ true → (a || b) ≡ true
either_kind true b e = refl
either_kind false b e = absurd cc

other_kind : (a b : Bool) → b ≡ true → (a || b) ≡ true
other_kind true b e = refl
other_kind false b e = e

-- the file wasn't opened
pub not_opened : (k : ℕ) (old new : SourceView) (out : SinkView) (fault : OpenFault) → IsOpenCause old fault new → StreamEnds (blob_streamed k) old new out out (Some (open_as_run fault))
not_opened k old new out (of_open.Refused found) cause =
    inl (either_kind (is_tree_kind found.kind) (is_blob_kind found.kind) cause.0, told_map (λ file. IsTreeFault file found) (λ file. IsBlobFault k file found) old.held (λ file is. inl is) cause.1, refl)
not_opened k old new out of_open.Source cause = (cause, inl refl)
not_opened k old new out of_open.Memory cause = refl

-- the file has no such blob
pub too_few : (k : ℕ) (nodes : List RawNode) (old new : SourceView) (out : SinkView) (why : AskFault) → FewerBlobs nodes k why → IfSome old.held (λ file. HasNodes file nodes) → StreamEnds (blob_streamed k) old new out out (Some (Ask why))
too_few k nodes old new out why fewer told = (
  fewer.refused,
  told_map (λ file. HasNodes file nodes) (λ file. HasFewerBlobs k file why) old.held
      (λ file is. let here = fewer.fewer is.tree is.in_preorder in (is.tree, record { has = is.has; typed = is.typed }, here.0, here.1)) told,
  refl,
)

-- the blob's section has a fault
pub no_section : (k : ℕ) (blob : Blob) (old mid new : SourceView) (out : SinkView) (found : ReadFault) → mid.held ≡ old.held → old.faults ≤ mid.faults → IfSome old.held (λ file. HasBlobAt file k blob) → IsBlobCause mid blob found new → StreamEnds (blob_streamed k) old new out out (Some (read_as_run found))
no_section k blob old mid new out (read.Refused found) same counts there cause =
    inl (
      other_kind (is_tree_kind found.kind) (is_blob_kind found.kind) cause.0,
      told_both (λ file. HasBlobAt file k blob) (λ file. stated_blob_fault file blob ≡ Some found) (λ file. IsBlobFault k file found) old.held
          (λ file at_k wrong. inr (blob, at_k, wrong)) there (told_here (λ file. stated_blob_fault file blob ≡ Some found) mid.held old.held (sym same) cause.1),
      refl,
    )
no_section k blob old mid new out read.Source same counts there cause = (rose_before old.faults mid.faults new.faults counts cause, inl refl)

-- a file has one blob of a number
one_blob : (file : List ℕ) (k : ℕ) (a b : Blob) → IsOneTree → HasBlobAt file k a → HasBlobAt file k b → a ≡ b
one_blob file k a b one (x, sound, at_k) (y, also, here) =
    let same : y ≡ x = one (Rattle.e57_file.specs.Text.section_text file) y x also.has.spells sound.has.spells in
    some_same a b (sym at_k ∙ subst (λ (e : Element). slice_get (blobs_of e) k ≡ Some b) same here) where
      some_same : (p q : Blob) → ◌≡◌ {A = Option Blob} (Some p) (Some q) → p ≡ q
      some_same p q e = cc

whole_file : (file : List ℕ) (k : ℕ) (nodes : List RawNode) (blob : Blob) → IsEither → IsOneTree → HasNodes file nodes → HasBlobAt file k blob → stated_blob_fault file blob ≡ None → span_fault file (blob_start blob) blob.length ≡ None → IsWhole (blob_streamed k) file
whole_file file k nodes blob either one nodes_of there sound right = record { early = early; late = late; there = enough } where
  early : (found : Fault) → IsBlobFault k file found → ⊥
  early found (inl tree) = no_tree_fault file nodes either one nodes_of found tree
  early found (inr (other, at_k, wrong)) = none_and_some (stated_blob_fault file blob) found sound (subst (λ (b : Blob). stated_blob_fault file b ≡ Some found) (one_blob file k other blob one at_k there) wrong)

  late : (found : Fault) → IsLatePage k file found → ⊥
  late found (other, at_k, good, wrong) = none_and_some (span_fault file (blob_start blob) blob.length) found right (subst (λ (b : Blob). span_fault file (blob_start b) b.length ≡ Some found) (one_blob file k other blob one at_k there) wrong)

  enough : (why : AskFault) → HasFewerBlobs k file why → ⊥
  enough why (tree, also, few, is) =
      let same : there.0 ≡ tree = one (Rattle.e57_file.specs.Text.section_text file) there.0 tree there.1.has.spells also.has.spells in
      let here : k < length (blobs_of tree) = subst (λ (e : Element). k < length (blobs_of e)) same (slice_get_within (blobs_of there.0) k blob there.2) in
      absurd (omega (arith, here, few))

-- what was put is of the blob
output_of : (k : ℕ) (blob : Blob) (held : Option (List ℕ)) (text : List ℕ) → IfSome held (λ file. HasBlobAt file k blob) → IfSome held (λ file. stated_blob_fault file blob ≡ None) → IfSome held (λ file. text ≡ right_bytes file blob) → IfSome held (λ file. IsBlobOutput k file text)
output_of k blob None text there sound is = tt
output_of k blob (Some file) text there sound is = (blob, there, sound, is)

late_of : (k : ℕ) (blob : Blob) (held : Option (List ℕ)) (found : Fault) → IfSome held (λ file. HasBlobAt file k blob) → IfSome held (λ file. stated_blob_fault file blob ≡ None) → IfSome held (λ file. span_fault file (blob_start blob) blob.length ≡ Some found) → IfSome held (λ file. IsLatePage k file found)
late_of k blob None found there sound is = tt
late_of k blob (Some file) found there sound is = (blob, there, sound, is)

whole_of : (k : ℕ) (nodes : List RawNode) (blob : Blob) (held : Option (List ℕ)) → IsEither → IsOneTree → IfSome held (λ file. HasNodes file nodes) → IfSome held (λ file. HasBlobAt file k blob) → IfSome held (λ file. stated_blob_fault file blob ≡ None) → IfSome held (λ file. span_fault file (blob_start blob) blob.length ≡ None) → IfSome held (IsWhole (blob_streamed k))
whole_of k nodes blob None either one nodes_of there sound right = tt
whole_of k nodes blob (Some file) either one nodes_of there sound right = whole_file file k nodes blob either one nodes_of there sound right

-- the bytes were put, or not all of them
pub bytes_end : {T : Type 0} (k : ℕ) (nodes : List RawNode) (blob : Blob) (old mid new : SourceView) (out out' : SinkView) (result : Result T RunFault) → IsEither → IsOneTree → mid.held ≡ old.held → old.faults ≤ mid.faults → IfSome old.held (λ file. HasNodes file nodes) → IfSome old.held (λ file. HasBlobAt file k blob) → IfSome old.held (λ file. stated_blob_fault file blob ≡ None)
    → MatchResult result (λ _. PutsBytes blob mid new out out') (λ fault. FailsBytes blob mid new out out' fault)
    → MatchResult result (λ _. StreamEnds (blob_streamed k) old new out out' None) (λ fault. StreamEnds (blob_streamed k) old new out out' (Some fault))
bytes_end k nodes blob old mid new out out' (Ok x) either one same counts nodes_of there sound is = (
  whole_of k nodes blob old.held either one nodes_of there sound (told_here (λ file. span_fault file (blob_start blob) blob.length ≡ None) mid.held old.held (sym same) is.right),
  (is.wrote.0, output_of k blob old.held is.wrote.0 there sound (told_here (λ file. is.wrote.0 ≡ right_bytes file blob) mid.held old.held (sym same) is.wrote.1), is.wrote.2),
)
bytes_end k nodes blob old mid new out out' (Err fault) either one same counts nodes_of there sound is = by_cause fault is.cause where
  by_cause : (fault : RunFault) → IsBytesCause blob mid new out out' fault → StreamEnds (blob_streamed k) old new out out' (Some fault)
  by_cause (Refused found) (kind, wrong, (text, read, wrote)) =
      inr (
        kind,
        late_of k blob old.held found there sound (told_here (λ file. span_fault file (blob_start blob) blob.length ≡ Some found) mid.held old.held (sym same) wrong),
        (text, output_of k blob old.held text there sound (told_here (λ file. text ≡ right_bytes file blob) mid.held old.held (sym same) read), wrote),
      )
  by_cause Source (rose, (text, read, wrote)) = (
    rose_before old.faults mid.faults new.faults counts rose,
    inr ((text, output_of k blob old.held text there sound (told_here (λ file. text ≡ right_bytes file blob) mid.held old.held (sym same) read), wrote)),
  )
  by_cause Out (rose, (text, read, wrote)) = (
    rose,
    (text, output_of k blob old.held text there sound (told_here (λ file. text ≡ right_bytes file blob) mid.held old.held (sym same) read), wrote),
  )
  by_cause Memory never = absurd never
  by_cause (Ask why) never = absurd never

pub bytes_asked : {T : Type 0} (blob : Blob) (old new : SourceView) (out out' : SinkView) (result : Result T RunFault) → MatchResult result (λ _. PutsBytes blob old new out out') (λ fault. FailsBytes blob old new out out' fault) → AsksBetween blob 0 blob.length old new
bytes_asked blob old new out out' (Ok x) is = is.source
bytes_asked blob old new out out' (Err fault) is = is.source
