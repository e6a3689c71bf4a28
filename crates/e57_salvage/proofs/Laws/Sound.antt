-- Of a file without fault nothing is lost.
use Rattle.std.specs.Prelude.{◌≡◌, ℕ, ◌+◌, ◌≤◌, nat_lt, List, [], ◌∷◌, ◌++◌, length, map, Option, Some, None}
use Rattle.std.proofs.Common.{refl, ap, ◌∙◌, arith}
use Rattle.std.proofs.lemmas.Bool.{ltb-false}
use Rattle.std.proofs.lemmas.List.FromFn.{length-range_with_len}
use Rattle.e57_base.specs.declared.kind.Kind.TheVariants.{BlobPlace}
use Rattle.e57_base.specs.Fault.{fault}
use Rattle.e57_base.proofs.Options.{option_or_parts}
use Rattle.e57_page.specs.Place.{place}
use Rattle.e57_page.specs.File.{length_fault, logical_size, span_fault}
use Rattle.e57_page.specs.Header.{header_of, header_fault}
use Rattle.e57_page.specs.XmlSection.{xml_span_fault}
use Rattle.e57_cloud.specs.Section.{when, or_zero}
use Rattle.e57_cloud.specs.Cloud.{Cloud, cloud_fault}
use Rattle.e57_cloud.specs.Written.{AreRight}
use Rattle.e57_cloud.proofs.Laws.Sections.{when-none}
use Rattle.e57_cloud.proofs.Laws.Spans.{span-right}
use Rattle.e57_elements.specs.Tree.{Element}
use Rattle.e57_nodes.specs.Shape.{shape_of}
use Rattle.e57_nodes.specs.Items.{StatedItem, stated_cloud, stated_blob, stated_items, leaves_of}
use Rattle.e57_nodes.specs.Places.{places_in}
use Rattle.e57_nodes.specs.Typed.{typed_fault}
use Rattle.e57_nodes.proofs.Laws.Stated.{length-stated_items}
use Rattle.e57_verdict.specs.Blob.{Blob, blob_header_length, blob_fault_from, blob_fault, blob_bytes}
use Rattle.e57_verdict.specs.Things.{Thing, cloud_thing, blob_thing, things_at, things_in, record_count, blob_count, things_fault, Body, records_body, bytes_body, body_of}
use Rattle.e57_verdict.specs.Verdict.{all_pages_fault, fault_before_text, fault_behind_text, IsSoundFile}
use Rattle.e57_verdict.proofs.Laws.Opening.{all-right}
use Rattle.e57_spans.specs.Spans.{Span}
use Rattle.e57_spans.specs.Judged.{spans_of}
use Rattle.e57_spans.specs.Lost.{kept_count}
use Rattle.e57_spans.proofs.Laws.Sound.{HaveNone, spans-none, all-kept, all-saved}
use Rattle.e57_salvage.specs.Blobs.{blob_loss, saved_bytes}
use Rattle.e57_salvage.specs.Lines.{span_lines, lost_lines, records_kept, blobs_kept, kept_line, salvage_lines}
use Rattle.e57_salvage.specs.Saved.{saved_body}

-- ---- a blob

from-within : (file : List ℕ) (b : Blob) (at : Option ℕ) → blob_fault_from file b at ≡ None → or_zero at + blob_header_length + b.length ≤ logical_size file
from-within file b None none = cc
from-within file b (Some start) none =
    let parts = option_or_parts (when (nat_lt (logical_size file) (start + (blob_header_length + b.length))) (fault BlobPlace b.node b.offset)) _ none in
    let within = ltb-false (logical_size file) (start + (blob_header_length + b.length)) (when-none (nat_lt (logical_size file) (start + (blob_header_length + b.length))) (fault BlobPlace b.node b.offset) parts.0) in
    omega arith

blob-none : (file : List ℕ) (b : Blob) → AreRight file → blob_fault file b ≡ None → blob_loss file b ≡ None
unfolding blob_loss blob_fault
blob-none file b right none =
    let pages : span_fault file (or_zero (place b.offset) + blob_header_length) b.length ≡ None = span-right file (or_zero (place b.offset) + blob_header_length) b.length right (from-within file b (place b.offset) none) in
    rw (none, pages) refl

blob-saved : (file : List ℕ) (b : Blob) → blob_loss file b ≡ None → saved_bytes file b ≡ blob_bytes file b
unfolding saved_bytes
blob-saved file b none = rw none refl

-- ---- clouds and blobs

no-lines : (k : ℕ) (spans : List Span) → HaveNone spans → span_lines k spans ≡ []
no-lines k [] none = refl
no-lines k (x ∷ xs) none = rw (none.0, no-lines k xs none.1) refl

pub things-lost : (file : List ℕ) (clouds blobs : ℕ) (things : List Thing) → AreRight file → things_fault file things ≡ None → lost_lines file clouds blobs things ≡ []
things-lost file clouds blobs [] right none = refl
things-lost file clouds blobs (cloud_thing c ∷ things) right none =
    let parts = option_or_parts (cloud_fault file c) (things_fault file things) none in
    rw (no-lines clouds (spans_of file c) (spans-none file c parts.0)) (things-lost file (clouds + 1) blobs things right parts.1)
things-lost file clouds blobs (blob_thing b ∷ things) right none =
    let parts = option_or_parts (blob_fault file b) (things_fault file things) none in
    rw (blob-none file b right parts.0) (things-lost file clouds (blobs + 1) things right parts.1)

pub things-saved : (file : List ℕ) (things : List Thing) → AreRight file → things_fault file things ≡ None → map (saved_body file) things ≡ map (body_of file) things
things-saved file [] right none = refl
things-saved file (cloud_thing c ∷ things) right none =
    let parts = option_or_parts (cloud_fault file c) (things_fault file things) none in
    ap (λ columns. records_body columns ∷ map (saved_body file) things) (all-saved file c parts.0)
    ∙ ap (λ (bodies : List Body). body_of file (cloud_thing c) ∷ bodies) (things-saved file things right parts.1)
things-saved file (blob_thing b ∷ things) right none =
    let parts = option_or_parts (blob_fault file b) (things_fault file things) none in
    ap (λ bytes. bytes_body bytes ∷ map (saved_body file) things) (blob-saved file b (blob-none file b right parts.0))
    ∙ ap (λ (bodies : List Body). body_of file (blob_thing b) ∷ bodies) (things-saved file things right parts.1)

-- ---- a file

pub sound-pages : (file : List ℕ) → fault_before_text file ≡ None → AreRight file
unfolding fault_before_text
sound-pages file none =
    let first = option_or_parts (length_fault (length file)) _ none in
    let second = option_or_parts (header_fault file (length file)) _ first.1 in
    let third = option_or_parts (all_pages_fault file) (xml_span_fault (header_of file) (logical_size file)) second.1 in
    all-right file third.0

pub sound-things : (file : List ℕ) (tree : Element) → fault_behind_text file tree ≡ None → things_fault file (things_in tree) ≡ None
unfolding fault_behind_text
sound-things file tree none = (option_or_parts (typed_fault (shape_of tree)) (things_fault file (things_in tree)) none).1

-- Nothing of it is lost, and what is saved of its clouds and blobs is what they hold.
pub none-lost : (file : List ℕ) (tree : Element) → IsSoundFile file tree → (lost_lines file 0 0 (things_in tree) ≡ []) × (map (saved_body file) (things_in tree) ≡ map (body_of file) (things_in tree))
none-lost file tree is =
    let right = sound-pages file is.has_tree.sound in
    let free = sound-things file tree is.sound in
    (things-lost file 0 0 (things_in tree) right free, things-saved file (things_in tree) right free)

records-all : (file : List ℕ) (items : List StatedItem) (offsets : List ℕ) → length items ≡ length offsets → things_fault file (things_at items offsets) ≡ None → records_kept file (things_at items offsets) ≡ record_count items
records-all file [] offsets same none = refl
records-all file (item ∷ items) [] same none = absurd (omega arith)
records-all file (stated_cloud n count fields ∷ items) (offset ∷ offsets) same none =
    let c : Cloud = record { node = n; offset = offset; count = count; leaves = leaves_of fields } in
    let parts = option_or_parts (cloud_fault file c) (things_fault file (things_at items offsets)) none in
    let all : kept_count file c ≡ count = ap length (all-kept file c parts.0) ∙ length-range_with_len 0 count in
    ap (λ (k : ℕ). k + records_kept file (things_at items offsets)) all ∙ ap (λ (k : ℕ). count + k) (records-all file items offsets (omega arith) parts.1)
records-all file (stated_blob n size ∷ items) (offset ∷ offsets) same none =
    let parts = option_or_parts (blob_fault file (record { node = n; offset = offset; length = size })) (things_fault file (things_at items offsets)) none in
    records-all file items offsets (omega arith) parts.1

blobs-all : (file : List ℕ) (items : List StatedItem) (offsets : List ℕ) → AreRight file → length items ≡ length offsets → things_fault file (things_at items offsets) ≡ None → blobs_kept file (things_at items offsets) ≡ blob_count items
blobs-all file [] offsets right same none = refl
blobs-all file (item ∷ items) [] right same none = absurd (omega arith)
blobs-all file (stated_cloud n count fields ∷ items) (offset ∷ offsets) right same none =
    let c : Cloud = record { node = n; offset = offset; count = count; leaves = leaves_of fields } in
    let parts = option_or_parts (cloud_fault file c) (things_fault file (things_at items offsets)) none in
    blobs-all file items offsets right (omega arith) parts.1
blobs-all file (stated_blob n size ∷ items) (offset ∷ offsets) right same none =
    let b : Blob = record { node = n; offset = offset; length = size } in
    let parts = option_or_parts (blob_fault file b) (things_fault file (things_at items offsets)) none in
    rw (blob-none file b right parts.0) (ap (λ (k : ℕ). 1 + k) (blobs-all file items offsets right (omega arith) parts.1))

-- The one line of it says that all records and blobs are kept.
pub sound-lines : (file : List ℕ) (tree : Element) → IsSoundFile file tree → salvage_lines file tree ≡ kept_line (record_count (stated_items (shape_of tree))) (blob_count (stated_items (shape_of tree)))
unfolding salvage_lines
sound-lines file tree is =
    let right = sound-pages file is.has_tree.sound in
    let free = sound-things file tree is.sound in
    let items = stated_items (shape_of tree) in
    let many = length-stated_items tree in
    ap (λ (lines : List ℕ). lines ++ kept_line (records_kept file (things_in tree)) (blobs_kept file (things_in tree))) (none-lost file tree is).0
    ∙ ap (λ (k : ℕ). kept_line k (blobs_kept file (things_in tree))) (records-all file items (places_in tree) many free)
    ∙ ap (λ (k : ℕ). kept_line (record_count items) k) (blobs-all file items (places_in tree) right many free)
