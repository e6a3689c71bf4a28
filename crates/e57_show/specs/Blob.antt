-- What `blob` puts: the bytes of one blob.
use Rattle.std.specs.Prelude.{◌≡◌, ◌⊎◌, ℕ, ◌+◌, ◌-◌, ◌*◌, ◌/◌, ◌≤◌, ◌==◌, ◌||◌, ◌&&◌, nat_le, Bool, true, false, min, List, [], ◌++◌, length, take, slice_get, Option, Some, None, IfSome}
use Rattle.e57_base.specs.Source.{SourceView, page_length}
use Rattle.e57_base.specs.declared.fault.Fault.{Fault}
use Rattle.e57_base.specs.declared.fault.AskFault.{AskFault}
use Rattle.e57_base.specs.declared.fault.AskFault.TheVariants as ask
use Rattle.e57_base.specs.declared.kind.Kind.{Kind}
use Rattle.e57_base.specs.declared.kind.Kind.TheVariants.{Page}
use Rattle.e57_page.specs.Place.{payload_length, span_end, RisesWithin}
use Rattle.e57_page.specs.Kept.{AreUnkept}
use Rattle.e57_page.specs.File.{logical_size, span_fault}
use Rattle.e57_page.specs.Pages.{Reading, AsksFor}
use Rattle.e57_page.specs.XmlSection.{xml_start}
use Rattle.e57_elements.specs.declared.tree.RawNode.{RawNode}
use Rattle.e57_elements.specs.Tree.{Element, preorder}
use Rattle.e57_elements.specs.Lawful.{AreNodes}
use Rattle.e57_nodes.specs.Shape.{shape_of}
use Rattle.e57_nodes.specs.Typed.{typed_fault}
use Rattle.e57_tree.specs.declared.items.Blob.{Blob}
use Rattle.e57_tree.specs.Held.{blobs_of}
use Rattle.e57_file.specs.Opened.{HasXmlTree, IsTreeFault, is_tree_kind}
use Rattle.e57_file.specs.Blob.{head_length, blob_head, blob_start, stated_blob_fault, LiesIn, stated_blob_bytes}
use Rattle.e57_file.specs.BlobReading.{is_blob_kind}
use Rattle.e57_show.specs.Streaming.{Streamed}

-- The file's text spells this tree, and none of its nodes has a fault.
pub record HasSoundTree (file : List ℕ) (tree : Element) : Type 0 where
  pub has : HasXmlTree file tree
  pub typed : typed_fault (shape_of tree) ≡ None

-- the file has this blob, with number k
abbrev pub HasBlobAt : List ℕ → ℕ → Blob → Type 0
HasBlobAt file k blob = (tree : Element) × HasSoundTree file tree × (slice_get (blobs_of tree) k ≡ Some blob)

-- the first fault of the XML section or of a node, or else of the blob's section
abbrev pub IsBlobFault : ℕ → List ℕ → Fault → Type 0
IsBlobFault k file found = IsTreeFault file found ⊎ ((blob : Blob) × HasBlobAt file k blob × (stated_blob_fault file blob ≡ Some found))

-- the file has so many blobs, which are too few for a number k
abbrev pub HasFewerBlobs : ℕ → List ℕ → AskFault → Type 0
HasFewerBlobs k file why = (tree : Element) × HasSoundTree file tree × (length (blobs_of tree) ≤ k) × (why ≡ ask.Blob k (length (blobs_of tree)))

-- it is refused by its number, of which there are at most as many
abbrev pub is_blob_ask : ℕ → AskFault → Bool
is_blob_ask k (ask.Blob asked have) = (asked == k) && nat_le have k
is_blob_ask k _ = false

-- the first page of the blob's bytes with a wrong word, where the blob's section has no fault
abbrev pub IsLatePage : ℕ → List ℕ → Fault → Type 0
IsLatePage k file found = (blob : Blob) × HasBlobAt file k blob × (stated_blob_fault file blob ≡ None) × (span_fault file (blob_start blob) blob.length ≡ Some found)

abbrev pub is_page_kind : Kind → Bool
is_page_kind Page = true
is_page_kind _ = false

-- how many of the n logical bytes from place q on lie before the page of this fault
abbrev pub length_before : ℕ → ℕ → Option Fault → ℕ
length_before q n None = n
length_before q n (Some found) = payload_length * found.a - q

-- the blob's bytes before the first page with a wrong word
abbrev pub right_bytes : List ℕ → Blob → List ℕ
right_bytes file blob = take (length_before (blob_start blob) blob.length (span_fault file (blob_start blob) blob.length)) (stated_blob_bytes file blob)

abbrev pub IsBlobOutput : ℕ → List ℕ → List ℕ → Type 0
IsBlobOutput k file text = (blob : Blob) × HasBlobAt file k blob × (stated_blob_fault file blob ≡ None) × (text ≡ right_bytes file blob)

-- the first fault before the blob's bytes, or these up to a page with a wrong word
abbrev pub blob_streamed : ℕ → Streamed
blob_streamed k =
    record {
      is_faulty = IsBlobFault k;
      is_named = λ kind. is_tree_kind kind || is_blob_kind kind;
      is_short = HasFewerBlobs k;
      may_refuse = is_blob_ask k;
      is_late = IsLatePage k;
      may_stop = is_page_kind;
      is_output = IsBlobOutput k;
      runs_out_midway = false;
    }

-- ---- the pages that are asked for

-- how many bytes of a blob's section are read: those of its header, and where that has no fault those of the blob
abbrev pub needed : ℕ → Option Fault → ℕ
needed n None = head_length + n
needed n (Some found) = head_length

-- pages of the bytes of the blob's section that are read
abbrev pub AreBlobPages : ℕ → List ℕ → List ℕ → Type 0
AreBlobPages k file pages =
    (blob : Blob) × HasBlobAt file k blob × LiesIn (logical_size file) blob
    × RisesWithin (blob_head blob / payload_length) (span_end (blob_head blob) (needed blob.length (stated_blob_fault file blob))) pages

-- Pages of the XML section that weren't kept were asked for, and then pages of the blob's section, both in ascending order
-- and each at most once, and no other.
pub record AsksForBlob {S : Type 0} (now : Reading S) (k : ℕ) (old new : SourceView) : Type 0 where
  pub text : List ℕ
  pub bytes : List ℕ
  pub text_rises : RisesWithin (xml_start now.header / payload_length) (min (span_end (xml_start now.header) now.header.xml_length) (now.length / page_length)) text
  pub text_unkept : AreUnkept now.kept text
  pub bytes_rise : RisesWithin 0 (now.length / page_length) bytes
  pub of_blob : (bytes ≡ []) ⊎ IfSome old.held (λ file. AreBlobPages k file bytes)
  pub asks : AsksFor old (text ++ bytes) new

-- ---- the steps

-- These are the nodes of a tree, and this is its blob with number k.
pub record IsBlobOf (nodes : List RawNode) (k : ℕ) (blob : Blob) : Type 0 where
  pub are_nodes : AreNodes nodes
  pub there : (e : Element) → nodes ≡ preorder e → slice_get (blobs_of e) k ≡ Some blob

-- The tree with these nodes has too few blobs for a number k.
pub record FewerBlobs (nodes : List RawNode) (k : ℕ) (why : AskFault) : Type 0 where
  pub refused : is_blob_ask k why ≡ true
  pub fewer : (e : Element) → nodes ≡ preorder e → (length (blobs_of e) ≤ k) × (why ≡ ask.Blob k (length (blobs_of e)))
