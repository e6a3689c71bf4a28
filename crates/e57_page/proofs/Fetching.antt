-- What the bytes of a page tell of the file that they are of, where it is told.
use Rattle.std.proofs.Common.{◌≡◌, ℕ, zero, suc, if◌then◌else◌, ◌&&◌, ◌==◌, not, codes, add-zero, zero-add, add-one, ◌+◌, ◌/◌, ◌<◌, Bool, true, false, List, [], ◌∷◌, ◌++◌, length, Option, Some, None, IfSome, Result, refl, sym, ap, ◌∙◌, subst, arith}
use Rattle.std.specs.List.{range_with_len}
use Rattle.std.specs.Str.{bytes_eq}
use Rattle.std.proofs.lemmas.Bool.{eqb-true, not-false}
use Rattle.e57_base.specs.Source.{SourceView, ReadsPage, page_of}
use Rattle.e57_base.specs.declared.fault.Failed.{Failed}
use Rattle.e57_base.specs.declared.fault.Fault.{Fault}
use Rattle.e57_base.specs.declared.fault.ReadFault.{ReadFault}
use Rattle.e57_base.specs.declared.kind.Kind.TheVariants.{Signature, Version, FileLength, PageSize, Page}
use Rattle.e57_crc.specs.Crc.{is_right}
use Rattle.e57_page.specs.declared.header.Header.{Header}
use Rattle.e57_base.specs.Fault.{fault}
use Rattle.e57_page.specs.Header.{signature, major_version, minor_version, physical_length, page_size, header_fault, header_of}
use Rattle.e57_page.specs.File.{length_fault, page_fault, pages_fault, opening_fault}
use Rattle.e57_page.proofs.FileLaws.{whole_length, page_fault-right, page_fault-wrong, header_fault-page, header_of-page, pages_fault-zero, pages_fault-more}
use Rattle.e57_page.specs.Pages.{AsksFor, IsScanned, IsScannedTo, is_opening_kind}
use Rattle.e57_page.proofs.PagesLaws.{asks_for_none, asks_for_on, is_stopped_before}
use Rattle.e57_page.specs.Fetch.{IsFetched, IsNotFetched}

-- a read of a page asks for it
pub asks_for_page : {T : Type 0} {old new : SourceView} {n : ℕ} {page : List ℕ} {result : Result T Failed} → ReadsPage old n page result new → AsksFor old (n ∷ []) new
asks_for_page read = record { same = read.same; asked = read.asked; faults = read.faults }

pub told_right : (held : Option (List ℕ)) (n : ℕ) (page : List ℕ) → IfSome held (λ file. page ≡ page_of file n) → is_right page ≡ true → IfSome held (λ file. page_fault file n ≡ None)
told_right None n page bytes right = tt
told_right (Some file) n page bytes right = page_fault-right file n (subst (λ (p : List ℕ). is_right p ≡ true) bytes right)

pub told_wrong : (held : Option (List ℕ)) (n : ℕ) (page : List ℕ) → IfSome held (λ file. page ≡ page_of file n) → is_right page ≡ false → IfSome held (λ file. page_fault file n ≡ Some (fault Page n 0))
told_wrong None n page bytes wrong = tt
told_wrong (Some file) n page bytes wrong = page_fault-wrong file n (subst (λ (p : List ℕ). is_right p ≡ false) bytes wrong)

-- what is told of the open file is told of it afterwards
pub told_later : (old new : Option (List ℕ)) (n : ℕ) (page : List ℕ) → new ≡ old → IfSome old (λ file. page ≡ page_of file n) → IfSome new (λ file. page ≡ page_of file n)
told_later old new n page same bytes = subst (λ (held : Option (List ℕ)). IfSome held (λ file. page ≡ page_of file n)) (sym same) bytes

-- the first of four faults of a header
abbrev first_of_four : (s v l p : Bool) (major minor size stated page_size : ℕ) → Option Fault
first_of_four s v l p major minor size stated page_size =
    if s then Some (fault Signature 0 0)
    else (if v then Some (fault Version major minor)
    else (if l then Some (fault FileLength size stated)
    else (if p then Some (fault PageSize page_size 0) else None)))

same_kind : (f found : Fault) → Some f ≡ Some found → is_opening_kind f.kind ≡ true → is_opening_kind found.kind ≡ true
same_kind f found is kind = let same : f ≡ found = cc in subst (λ (x : Fault). is_opening_kind x.kind ≡ true) same kind

first_of_four-kind : (s v l p : Bool) (major minor size stated page_size : ℕ) (found : Fault) → first_of_four s v l p major minor size stated page_size ≡ Some found → is_opening_kind found.kind ≡ true
first_of_four-kind true v l p major minor size stated page_size found is = same_kind (fault Signature 0 0) found is refl
first_of_four-kind false true l p major minor size stated page_size found is = same_kind (fault Version major minor) found is refl
first_of_four-kind false false true p major minor size stated page_size found is = same_kind (fault FileLength size stated) found is refl
first_of_four-kind false false false true major minor size stated page_size found is = same_kind (fault PageSize page_size 0) found is refl
first_of_four-kind false false false false major minor size stated page_size found is = cc

first_of_four-third : (s v l p : Bool) (major minor size stated page_size : ℕ) → first_of_four s v l p major minor size stated page_size ≡ None → l ≡ false
first_of_four-third true v l p major minor size stated page_size none = cc
first_of_four-third false true l p major minor size stated page_size none = cc
first_of_four-third false false true p major minor size stated page_size none = cc
first_of_four-third false false false p major minor size stated page_size none = refl

-- what is wrong with a header
module _ (page : List ℕ) (size : ℕ) where
  abbrev wrong_signature : Bool
  wrong_signature = not (bytes_eq (signature page) (codes "ASTM-E57"))

  abbrev wrong_version : Bool
  wrong_version = not (major_version page == 1 && minor_version page == 0)

  abbrev wrong_length : Bool
  wrong_length = not (physical_length page == size)

  abbrev wrong_page_size : Bool
  wrong_page_size = not (page_size page == 1024)

  -- a fault of a header has a kind that page 0 can have
  pub header_kind : (found : Fault) → header_fault page size ≡ Some found → is_opening_kind found.kind ≡ true
  unfolding header_fault
  header_kind found is =
      first_of_four-kind wrong_signature wrong_version wrong_length wrong_page_size (major_version page) (minor_version page) size (physical_length page) (page_size page) found is

  -- a header with no fault has the file's length
  pub header_length : (header : Header) → header_fault page size ≡ None → header ≡ header_of page → header.length ≡ size
  unfolding header_fault
  header_length header none is =
      let third = first_of_four-third wrong_signature wrong_version wrong_length wrong_page_size (major_version page) (minor_version page) size (physical_length page) (page_size page) none in
      ap (λ (h : Header). h.length) is ∙ eqb-true (physical_length page) size (not-false (physical_length page == size) third)

-- page 0 of a file, its header first
module _ (size : ℕ) (page : List ℕ) (whole : length_fault size ≡ None) where
  pub told_header : (held : Option (List ℕ)) (header : Header) → IfSome held (λ file. page ≡ page_of file 0) → header ≡ header_of page → IfSome held (λ file. header ≡ header_of file)
  told_header None header bytes is = tt
  told_header (Some file) header bytes is = is ∙ (ap header_of bytes ∙ header_of-page file)

  pub told_bad_header : (held : Option (List ℕ)) (found : Fault) → IfSome held (λ file. Some size ≡ Some (length file)) → IfSome held (λ file. page ≡ page_of file 0) → header_fault page size ≡ Some found → IfSome held (λ file. opening_fault file ≡ Some found)
  told_bad_header None found long bytes is = tt
  told_bad_header (Some file) found long bytes is =
      let same : length file ≡ size = cc in
      let header : header_fault file size ≡ Some found = sym (header_fault-page file size) ∙ (ap (λ (p : List ℕ). header_fault p size) (sym bytes) ∙ is) in
      rw (same, whole, header)

  -- the header has no fault: the page's word decides
  pub told_word : (held : Option (List ℕ)) (outcome : Option Fault) → IfSome held (λ file. Some size ≡ Some (length file)) → IfSome held (λ file. page ≡ page_of file 0) → header_fault page size ≡ None → IfSome held (λ file. page_fault file 0 ≡ outcome) → IfSome held (λ file. opening_fault file ≡ outcome)
  told_word None outcome long bytes none word = tt
  told_word (Some file) outcome long bytes none word =
      let same : length file ≡ size = cc in
      let header : header_fault file size ≡ None = sym (header_fault-page file size) ∙ (ap (λ (p : List ℕ). header_fault p size) (sym bytes) ∙ none) in
      rw (same, whole, header, word)

-- the law of a source at the size that it told before
pub told_size : (held : Option (List ℕ)) (known : Option ℕ) (size : ℕ) → IfSome held (λ file. known ≡ Some (length file)) → known ≡ Some size → IfSome held (λ file. Some size ≡ Some (length file))
told_size None known size law is = tt
told_size (Some file) known size law is = sym is ∙ law

-- one page more of a scan
pub scanned_none : (source : SourceView) → IsScanned source 0 source
scanned_none source = record { source = asks_for_none source; right = no_fault source.held }
  where
    no_fault : (held : Option (List ℕ)) → IfSome held (λ file. pages_fault file 0 0 ≡ None)
    no_fault None = tt
    no_fault (Some file) = pages_fault-zero file 0

-- the numbers below n, and n
numbers_more : (from n : ℕ) → range_with_len from n ++ (from + n) ∷ [] ≡ range_with_len from (n + 1)
numbers_more from zero = rw (add-zero)
numbers_more from (suc n) =
    let place : from + suc n ≡ from + 1 + n = omega arith in
    rw (place, add-one (suc n)) (ap (λ (ns : List ℕ). from ∷ ns) (rw (add-one n) at (numbers_more (from + 1) n)))

told_more : (held : Option (List ℕ)) (n : ℕ) → IfSome held (λ file. pages_fault file 0 n ≡ None) → IfSome held (λ file. page_fault file n ≡ None) → IfSome held (λ file. pages_fault file 0 (n + 1) ≡ None)
told_more None n before this = tt
told_more (Some file) n before this = pages_fault-more file 0 n before (rw zero-add this)

pub scanned_more : (old mid new : SourceView) (n : ℕ) (page : List ℕ) → IsScanned old n mid → IsFetched mid n page new → IsScanned old (n + 1) new
scanned_more old mid new n page scanned fetched =
    let asked = asks_for_on (range_with_len 0 n) (n ∷ []) scanned.source fetched.source in
    let held : new.held ≡ old.held = asked.same.held in
    let right : IfSome new.held (λ file. page_fault file n ≡ None) = told_right new.held n page fetched.right_page.bytes fetched.right_page.right in
    record {
      source = subst (λ (ns : List ℕ). AsksFor old ns new) (rw zero-add at (numbers_more 0 n)) asked;
      right = told_more old.held n scanned.right (subst (λ (h : Option (List ℕ)). IfSome h (λ file. page_fault file n ≡ None)) held right);
    }

pub scanned_to : (old mid new : SourceView) (n count : ℕ) (found : ReadFault) → n < count → IsScanned old n mid → IsNotFetched mid n found new → IsScannedTo old count found n new
scanned_to old mid new n count found below scanned failed =
    let asked = asks_for_on (range_with_len 0 n) (n ∷ []) scanned.source failed.source in
    record {
      source = subst (λ (ns : List ℕ). AsksFor old ns new) (rw zero-add at (numbers_more 0 n)) asked;
      within = below;
      right = scanned.right;
      cause = is_stopped_before old mid new (range_with_len 0 n) n found scanned.source failed.cause;
    }

-- a file whose length has no fault has a page 0
pub has_first : (size : ℕ) → length_fault size ≡ None → 0 < size / 1024
has_first size whole = let parts = whole_length size whole in omega arith
