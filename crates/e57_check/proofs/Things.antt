-- Clouds and blobs of a tree, one after another.
use Rattle.std.specs.Prelude.{◌≡◌, ℕ, ◌+◌, ◌*◌, ◌/◌, ◌<◌, ◌≤◌, nat_lt, Bool, true, false, if◌then◌else◌, List, length, Option, Some, None, Result, Err, IfErr, MatchOption}
use Rattle.std.proofs.Common.{refl, sym, ap, ◌∙◌, arith}
use Rattle.std.proofs.lemmas.Option.{slice_get-get_or}
use Rattle.std.proofs.lemmas.Bool.{ltb-false}
use Rattle.e57_base.specs.Fault.{read_as_open, fault}
use Rattle.e57_base.specs.Source.{SourceView}
use Rattle.e57_base.proofs.Told.{told_map}
use Rattle.e57_base.specs.declared.fault.ReadFault.{ReadFault}
use Rattle.e57_base.specs.declared.fault.ReadFault.TheVariants as of_read
use Rattle.e57_base.specs.declared.fault.OpenFault.{OpenFault}
use Rattle.e57_base.specs.declared.kind.Kind.TheVariants.{BlobPlace}
use Rattle.e57_page.specs.Place.{place, span_end}
use Rattle.e57_page.specs.Pages.{Reading}
use Rattle.e57_cloud.specs.Section.{or_zero}
use Rattle.e57_elements.specs.Tree.{Element, preorder}
use Rattle.e57_elements.specs.declared.tree.RawNode.{RawNode}
use Rattle.e57_file.specs.Blob.{stated_blob_fault, stated_blob_fault_from, OfBlob, blob_head, head_within, head_place}
use Rattle.e57_file.specs.BlobReading.{AsksHead, OpensBlob, OpensNoBlob, JudgesBlobPlace, IsPastBlobPlace}
use Rattle.e57_tree.specs.declared.items.Item.TheVariants as item
use Rattle.e57_tree.specs.declared.items.Blob.{Blob as StatedBlob}
use Rattle.e57_tree.specs.Held.{blobs_of, no_blob, blob_in}
use Rattle.e57_verdict.specs.Things.{thing_fault}
use Rattle.e57_verdict.specs.Blob.{Blob, blob_fault, blob_fault_from}
use Rattle.e57_check.specs.Asking.{AsksPages}
use Rattle.e57_check.proofs.AskingLaws.{asks_pages_none, asks_anywhere, unkept_pages, span_below}
use Rattle.e57_check.specs.Checking.{thing_in, JudgesThing, RefusesThing}
use Rattle.e57_check.specs.declared.summary.Summary.{Summary}

-- a blob of a tree
blob_of : StatedBlob → Blob
blob_of b = record { node = b.node; offset = b.place; length = b.length }

-- the first fault of a blob's section is that of the verdict
stated : (file : List ℕ) (b : StatedBlob) → stated_blob_fault file b ≡ stated_blob_fault_from file b (place b.place)
unfolding stated_blob_fault
stated file b = refl

pub same-blob : (file : List ℕ) (b : StatedBlob) → stated_blob_fault file b ≡ blob_fault file (record { node = b.node; offset = b.place; length = b.length })
unfolding blob_fault
same-blob file b = stated file b ∙ by_place (place b.place)
  where
    by_place : (p : Option ℕ) → stated_blob_fault_from file b p ≡ blob_fault_from file (record { node = b.node; offset = b.place; length = b.length }) p
    by_place None = refl
    by_place (Some q) = refl

-- what is so of blob k
pub blob-at : (nodes : List RawNode) (k : ℕ) (P : StatedBlob → Type 0) (e : Element) → nodes ≡ preorder e → k < length (blobs_of e) → OfBlob nodes k P → P (blob_in e k)
blob-at nodes k P e same below of = of e same (blob_in e k) (slice_get-get_or (blobs_of e) k no_blob below)

-- ---- a blob

if-head : (b : Bool) (q h : ℕ) → ◌≡◌ {A = Option ℕ} (if b then None else Some q) (Some h) → (b ≡ false) × (q ≡ h)
if-head true q h is = absurd cc
if-head false q h is = (refl, cc)

-- a header that has a place lies in the file
head-inside : (size h : ℕ) (b : StatedBlob) → head_place size b ≡ Some h → (h ≡ blob_head b) × (h + 16 ≤ size)
head-inside size h b is = by_place (place b.place) is
  where
    by_place : (p : Option ℕ) → head_within size b.length p ≡ Some h → (h ≡ or_zero p) × (h + 16 ≤ size)
    by_place None is = absurd cc
    by_place (Some q) is =
        let both = if-head (nat_lt size (q + (16 + b.length))) q h is in
        let same = both.1 in
        let low = ltb-false size (q + (16 + b.length)) both.0 in
        (sym both.1, omega (arith, same, low))

head-pages : (count : ℕ) (old new : SourceView) (kept : List ℕ) (b : StatedBlob) (h : ℕ) → head_place (count * 1020) b ≡ Some h → AsksHead kept b old new → AsksPages count old new
head-pages count old new kept b h is asks =
    let in_file = head-inside (count * 1020) h b is in
    let same = in_file.0 in
    let within = in_file.1 in
    unkept_pages kept (blob_head b / 1020) (span_end (blob_head b) 16) count old new (span_below (blob_head b) 16 count (omega (arith, same, within))) asks

pub blob-read : (count : ℕ) (old new : SourceView) (kept now : List ℕ) (e : Element) (k start : ℕ) (summary : Summary) → OpensBlob old kept (count * 1020) (blob_in e k) start new now → JudgesThing count old e (item.Blob k) summary (record summary { blobs = summary.blobs + 1 }) new
blob-read count old new kept now e k start summary opens = record {
  none = record {
    source = asks_anywhere (λ file. Unit {0}) count old new (head-pages count old new kept (blob_in e k) (blob_head (blob_in e k)) opens.lies opens.source);
    sound = told_map (λ file. stated_blob_fault file (blob_in e k) ≡ None) (λ file. thing_fault file (thing_in e (item.Blob k)) ≡ None) old.held (λ file none. sym (same-blob file (blob_in e k)) ∙ none) opens.sound;
  };
  counted = refl;
}

-- the blob's place isn't in the file, so nothing was asked for; or pages of the header were
pub unread-pages : {S T : Type 0} (count : ℕ) (view : S → SourceView) (before after : Reading S) (b : StatedBlob) (result : Result T ReadFault) → before.length / 1024 ≡ count → JudgesBlobPlace before b result after → AsksHead before.kept b (view before.source) (view after.source) → AsksPages count (view before.source) (view after.source)
unread-pages count view before after b result long judged asks = by_place (head_place (before.length / 1024 * 1020) b) refl judged
  where
    by_place : (p : Option ℕ) → head_place (before.length / 1024 * 1020) b ≡ p → MatchOption p ((result ≡ Err (of_read.Refused (fault BlobPlace b.node b.place))) × (after ≡ before)) (λ q. IfErr result IsPastBlobPlace) → AsksPages count (view before.source) (view after.source)
    by_place None is judged = rw judged.1 (asks_pages_none count (view before.source))
    by_place (Some h) is judged = head-pages count (view before.source) (view after.source) before.kept b h (ap (λ (n : ℕ). head_place (n * 1020) b) (sym long) ∙ is) asks

pub blob-refused : (count : ℕ) (old new : SourceView) (kept now : List ℕ) (e : Element) (k : ℕ) (found : ReadFault) (given : OpenFault) → given ≡ read_as_open found → AsksPages count old new → OpensNoBlob old kept (blob_in e k) found new now → RefusesThing count old e (item.Blob k) given new
blob-refused count old new kept now e k found given same asks lost = rw same (by_fault found lost)
  where
    by_fault : (found : ReadFault) → OpensNoBlob old kept (blob_in e k) found new now → RefusesThing count old e (item.Blob k) (read_as_open found) new
    by_fault (of_read.Refused f) lost = record {
      source = asks_anywhere (λ file. Unit {0}) count old new asks;
      cause = told_map (λ file. stated_blob_fault file (blob_in e k) ≡ Some f) (λ file. thing_fault file (thing_in e (item.Blob k)) ≡ Some f) old.held (λ file is. sym (same-blob file (blob_in e k)) ∙ is) lost.cause.1;
    }
    by_fault of_read.Source lost = record { source = asks_anywhere (λ file. Unit {0}) count old new asks; cause = lost.cause }
