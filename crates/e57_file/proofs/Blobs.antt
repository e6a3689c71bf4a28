-- The first fault of a blob's section, from the steps of its opening.
use Rattle.std.proofs.Common.{◌≡◌, ℕ, ◌+◌, ◌*◌, ◌/◌, ◌≤◌, ◌<◌, ◌⊎◌, ◌==◌, Bool, true, false, not, List, length, take, drop, Option, Some, None, inl, inr, refl, sym, subst, ap, ◌∙◌, arith, lit≤, ⊎_elim}
use Rattle.std.specs.Prelude.{nat_lt, IfSome}
use Rattle.std.specs.Option.{option_or}
use Rattle.std.proofs.lemmas.Bool.{ltb-false, eqb-true}
use Rattle.e57_base.specs.Fault.{fault}
use Rattle.e57_base.specs.Source.{SourceView, HoldsSize}
use Rattle.e57_base.proofs.Told.{told_map, told_both, length_told}
use Rattle.e57_base.specs.declared.fault.Fault.{Fault}
use Rattle.e57_base.specs.declared.fault.ReadFault.{ReadFault}
use Rattle.e57_base.specs.declared.fault.ReadFault.TheVariants.{Refused, Source}
use Rattle.e57_base.specs.declared.kind.Kind.TheVariants.{BlobPlace, BlobId}
use Rattle.e57_bits.specs.Bits.{number}
use Rattle.e57_bits.proofs.BitLaws.{number-take, number-drop}
use Rattle.e57_page.specs.declared.pages.Cut.{Cut}
use Rattle.e57_page.specs.Place.{place, span_end}
use Rattle.e57_page.specs.Kept.{is_kept, KeepsTo}
use Rattle.e57_page.specs.File.{logical, logical_size, span_fault}
use Rattle.e57_page.specs.Pages.{IsCutAt, IsStopped}
use Rattle.e57_page.proofs.PagesLaws.{cut_below, cut_fault, cut_source}
use Rattle.e57_layout.specs.Headers.{blob_head_at}
use Rattle.e57_layout.specs.declared.section.BlobHeader.{BlobHeader}
use Rattle.e57_cloud.specs.Met.{InSpan}
use Rattle.e57_cloud.specs.Section.{when}
use Rattle.e57_tree.specs.declared.items.Blob.{Blob}
use Rattle.e57_file.specs.Blob.{blob_head, stated_blob_fault, stated_blob_fault_from, head_within, head_place, LiesIn}
use Rattle.e57_file.specs.BlobReading.{is_blob_kind, IsBlobCause}
use Rattle.e57_base.proofs.Options.{cond_none, cond_found}

outside : (file : List ℕ) (size : ℕ) (blob : Blob) (p : Option ℕ) → logical_size file ≡ size → head_within size blob.length p ≡ None → stated_blob_fault_from file blob p ≡ Some (fault BlobPlace blob.node blob.place)
outside file size blob None same e = refl
outside file size blob (Some q) same e = let past = cond_none (nat_lt size (q + (16 + blob.length))) q e in rw (same, past) refl

-- the first fault of the header at this place
abbrev head_fault : List ℕ → Blob → ℕ → Option Fault
head_fault file blob head =
    option_or (span_fault file head 16) (when (not ((blob_head_at (logical file) head).id == 0)) (fault BlobId blob.node (blob_head_at (logical file) head).id))

inside : (file : List ℕ) (size : ℕ) (blob : Blob) (head : ℕ) (p : Option ℕ) → logical_size file ≡ size → head_within size blob.length p ≡ Some head → stated_blob_fault_from file blob p ≡ head_fault file blob head
inside file size blob head None same e = absurd cc
inside file size blob head (Some q) same e =
    let both = cond_found (nat_lt size (q + (16 + blob.length))) q head e in
    let here = both.1 in
    rw (same, both.0, here) refl

-- the header's place is that of the blob, and the bytes behind it are in the file
placed : (size n head : ℕ) (p : Option ℕ) → head_within size n p ≡ Some head → (p ≡ Some head) × (head + (16 + n) ≤ size)
placed size n head None e = absurd cc
placed size n head (Some q) e =
    let both = cond_found (nat_lt size (q + (16 + n))) q head e in
    (ap (λ (x : ℕ). Some x) both.1, rw both.1 at (ltb-false size (q + (16 + n)) both.0))

pub head_is : (size head : ℕ) (blob : Blob) → head_place size blob ≡ Some head → blob_head blob ≡ head
head_is size head blob e = let at_place : place blob.place ≡ Some head = (placed size blob.length head (place blob.place) e).0 in rw at_place refl

pub lies : (size head : ℕ) (blob : Blob) → head_place size blob ≡ Some head → LiesIn size blob
lies size head blob e = e ∙ ap (λ (x : ℕ). Some x) (sym (head_is size head blob e))

pub lies_within : (size head : ℕ) (blob : Blob) → head_place size blob ≡ Some head → head + (16 + blob.length) ≤ size
lies_within size head blob e = (placed size blob.length head (place blob.place) e).1

-- a told file has this many logical bytes
pub told_size : (old : SourceView) (size : ℕ) → HoldsSize old → old.size ≡ Some size → IfSome old.held (λ file. logical_size file ≡ size / 1024 * 1020)
told_size old size holds known = told_map (λ file. length file ≡ size) (λ file. logical_size file ≡ size / 1024 * 1020) old.held (λ file is. rw is refl) (length_told old.held old.size size holds known)

-- ---- the causes

pub outside_cause : (old : SourceView) (size : ℕ) (blob : Blob) → IfSome old.held (λ file. logical_size file ≡ size) → head_place size blob ≡ None → IfSome old.held (λ file. stated_blob_fault file blob ≡ Some (fault BlobPlace blob.node blob.place))
unfolding stated_blob_fault
outside_cause old size blob told e =
    told_map (λ file. logical_size file ≡ size) (λ file. stated_blob_fault file blob ≡ Some (fault BlobPlace blob.node blob.place)) old.held (λ file same. outside file size blob (place blob.place) same e) told

by_page : (file : List ℕ) (blob : Blob) (head : ℕ) (found : Fault) → span_fault file head 16 ≡ Some found → head_fault file blob head ≡ Some found
by_page file blob head found wrong = rw wrong refl

pub page_cause : (old new : SourceView) (size head n : ℕ) (blob : Blob) (kept now before after : List ℕ) (cut : Cut) → length before ≡ 16 → IfSome old.held (λ file. logical_size file ≡ size) → head_place size blob ≡ Some head → IsCutAt old kept head before cut after n new now → IsBlobCause old blob cut.fault new
unfolding stated_blob_fault
page_cause old new size head n blob kept now before after cut long told e is = by_fault cut.fault refl where
  by_fault : (failure : ReadFault) → cut.fault ≡ failure → IsBlobCause old blob failure new
  by_fault (Refused found) same = (
    subst (λ (f : Fault). is_blob_kind f.kind ≡ true) (sym (subst (λ (f : ReadFault). IsStopped old n f new) same is.cause).0) refl,
    told_both (λ file. logical_size file ≡ size) (λ file. span_fault file head (length before) ≡ Some found) (λ file. stated_blob_fault file blob ≡ Some found) old.held
        (λ file long_is wrong. inside file size blob head (place blob.place) long_is e ∙ by_page file blob head found (rw long at wrong)) told (cut_fault old new kept now head n before after cut found same is),
  )
  by_fault Source same = cut_source old new kept now head n before after cut same is

head-piece : (b : List ℕ) (q : ℕ) → blob_head_at (take 16 (drop q b)) 0 ≡ blob_head_at b q
unfolding blob_head_at
head-piece b q =
    let id : number (take 16 (drop q b)) 0 8 ≡ number b (8 * q) 8 = number-take (drop q b) 16 0 8 (lit≤ tt) ∙ number-drop b q 0 8 ∙ ap (λ (t : ℕ). number b t 8) (omega arith) in
    let size : number (take 16 (drop q b)) 64 64 ≡ number b (8 * q + 64) 64 = number-take (drop q b) 16 64 64 (lit≤ tt) ∙ number-drop b q 64 64 in
    rw (id, size) refl

-- the header that was read has this id
pub id_outcome : (old : SourceView) (size head : ℕ) (blob : Blob) (bytes : List ℕ) (header : BlobHeader) (outcome : Option Fault) → IfSome old.held (λ file. logical_size file ≡ size) → head_place size blob ≡ Some head → IfSome old.held (λ file. span_fault file head 16 ≡ None) → IfSome old.held (λ file. bytes ≡ take 16 (drop head (logical file))) → header ≡ blob_head_at bytes 0 → when (not (header.id == 0)) (fault BlobId blob.node header.id) ≡ outcome → IfSome old.held (λ file. stated_blob_fault file blob ≡ outcome)
unfolding stated_blob_fault
id_outcome old size head blob bytes header outcome told e right read is judged =
    told_both (λ file. logical_size file ≡ size) (λ file. (span_fault file head 16 ≡ None) × (bytes ≡ take 16 (drop head (logical file)))) (λ file. stated_blob_fault file blob ≡ outcome) old.held
    (λ file same both.
    let header_is : header ≡ blob_head_at (logical file) head = is ∙ ap (λ (b : List ℕ). blob_head_at b 0) both.1 ∙ head-piece (logical file) head in
    inside file size blob head (place blob.place) same e ∙ rw (both.0, ← header_is) judged)
    told
    (told_both (λ file. span_fault file head 16 ≡ None) (λ file. bytes ≡ take 16 (drop head (logical file))) (λ file. (span_fault file head 16 ≡ None) × (bytes ≡ take 16 (drop head (logical file)))) old.held (λ file a b. (a, b)) right read)

pub right_id : (id : ℕ) (found : Fault) → id ≡ 0 → when (not (id == 0)) found ≡ None
right_id id found is = rw is refl

pub wrong_id : (id : ℕ) (found : Fault) → (id ≡ 0 → ⊥) → when (not (id == 0)) found ≡ Some found
wrong_id id found other = tested (id == 0) refl where
  tested : (b : Bool) → (id == 0) ≡ b → when (not b) found ≡ Some found
  tested false is = refl
  tested true is = absurd (other (eqb-true id 0 is))

-- ---- the pages that are kept

pub keeps_only : (old now : List ℕ) (q n m : ℕ) → m ≤ span_end q n → KeepsTo old (q / 1020) m (span_end q n) now → (k : ℕ) → is_kept now k ≡ true → ((is_kept old k ≡ true) ⊎ InSpan q n k)
keeps_only old now q n m within keeps k is =
    ⊎_elim
    (λ (before : is_kept old k ≡ true). inl before)
    (λ (here : (q / 1020 ≤ k) × (k < m)). inr (here.0, omega (arith, here.1, within)))
    (keeps.no_other k is)

pub cut_keeps : (old new : SourceView) (kept now : List ℕ) (q n : ℕ) (before after : List ℕ) (cut : Cut) → IsCutAt old kept q before cut after n new now → (k : ℕ) → is_kept now k ≡ true → ((is_kept kept k ≡ true) ⊎ InSpan q (length before) k)
cut_keeps old new kept now q n before after cut is =
    let below = cut_below q cut.done (length before) n is.short is.place in
    keeps_only kept now q (length before) n (omega arith) is.keeps
