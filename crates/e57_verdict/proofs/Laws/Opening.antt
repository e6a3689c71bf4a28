-- The first faults that are met when a file is opened are those of the verdict, where all pages are right.
use Rattle.std.specs.Prelude.{◌≡◌, ℕ, zero, suc, ◌+◌, ◌/◌, ◌<◌, ◌≤◌, nat_lt, Bool, true, false, if◌then◌else◌, List, length, Option, Some, None}
use Rattle.std.specs.Option.{option_or}
use Rattle.std.proofs.Common.{refl, sym, ap, ◌∙◌, arith, zero-add, add-zero}
use Rattle.std.proofs.lemmas.Bool.Decides.{nat_tests}
use Rattle.e57_base.specs.declared.fault.Fault.{Fault}
use Rattle.e57_base.specs.Fault.{fault}
use Rattle.e57_base.specs.declared.kind.Kind.TheVariants.{XmlPlace}
use Rattle.e57_page.specs.declared.header.Header.{Header}
use Rattle.e57_page.specs.Place.{place}
use Rattle.e57_page.specs.Header.{header_fault, header_of}
use Rattle.e57_page.specs.File.{length_fault, page_fault, pages_fault, opening_fault, logical_size}
use Rattle.e57_page.proofs.FileLaws.{pages_fault-suc, whole_length}
use Rattle.e57_page.specs.XmlSection.{xml_start, xml_place_fault, xml_limit_fault, xml_pages_fault, xml_span_fault, xml_section_fault}
use Rattle.e57_cloud.proofs.Laws.Spans.{span-right}
use Rattle.e57_cloud.specs.Written.{AreRight}
use Rattle.e57_verdict.specs.Verdict.{all_pages_fault, fault_before_text}
use Rattle.e57_base.proofs.Options.{option_or_parts}

-- of pages without fault, each has none
pub each-right : (file : List ℕ) (n count k : ℕ) → pages_fault file n count ≡ None → k < count → page_fault file (n + k) ≡ None
each-right file n zero k none below = absurd (omega arith)
each-right file n (suc count) zero none below =
    let both = option_or_parts (page_fault file n) (pages_fault file (n + 1) count) (rw pages_fault-suc at none) in
    rw (add-zero n) both.0
each-right file n (suc count) (suc k) none below =
    let both = option_or_parts (page_fault file n) (pages_fault file (n + 1) count) (rw pages_fault-suc at none) in
    let place : n + suc k ≡ n + 1 + k = omega arith in
    rw place (each-right file (n + 1) count k both.1 (omega arith))

pub all-right : (file : List ℕ) → all_pages_fault file ≡ None → AreRight file
all-right file none n below = rw zero-add at (each-right file 0 (length file / 1024) n none below)

-- the first of several pages is the first that is met
pages-first : (file : List ℕ) (count : ℕ) → 0 < count → option_or (page_fault file 0) (pages_fault file 0 count) ≡ pages_fault file 0 count
pages-first file zero some = absurd (omega arith)
pages-first file (suc count) some = rw pages_fault-suc (twice (page_fault file 0) (pages_fault file 1 count)) where
  twice : (a b : Option Fault) → option_or a (option_or a b) ≡ option_or a b
  twice None b = refl
  twice (Some x) b = refl

-- the verdict goes on from the opening
pub before-opening : (file : List ℕ) → fault_before_text file ≡ option_or (opening_fault file) (option_or (all_pages_fault file) (xml_span_fault (header_of file) (logical_size file)))
unfolding fault_before_text
before-opening file = by_length (length_fault (length file)) (header_fault file (length file)) (page_fault file 0) (all_pages_fault file) (xml_span_fault (header_of file) (logical_size file)) (λ none. pages-first file (length file / 1024) (some none)) where
  some : length_fault (length file) ≡ None → 0 < length file / 1024
  some none = let whole = whole_length (length file) none in omega arith

  by_first : (h a b x : Option Fault) → option_or a b ≡ b → option_or h (option_or b x) ≡ option_or (option_or h a) (option_or b x)
  by_first (Some f) a b x same = refl
  by_first None None b x same = refl
  by_first None (Some f) b x same = rw (← same) refl

  by_length : (l h a b x : Option Fault) → (l ≡ None → option_or a b ≡ b) → option_or l (option_or h (option_or b x)) ≡ option_or (option_or l (option_or h a)) (option_or b x)
  by_length (Some f) h a b x same = refl
  by_length None h a b x same = by_first h a b x (same refl)

-- a section with a place lies in the file
within : (header : Header) (count : ℕ) → xml_place_fault header count ≡ None → xml_start header + header.xml_length ≤ count
unfolding xml_place_fault
within header count none = by_place (place header.xml_place) refl where
  by_test : (start : ℕ) (b : Bool) → nat_lt count (start + header.xml_length) ≡ b → (if b then Some (fault XmlPlace header.xml_place header.xml_length) else None) ≡ None → start + header.xml_length ≤ count
  by_test start true is none = absurd (cc)
  by_test start false is none = grind (arith, nat_tests)

  by_place : (p : Option ℕ) → place header.xml_place ≡ p → xml_start header + header.xml_length ≤ count
  by_place None is = absurd (let h = rw is at none in cc)
  by_place (Some start) is = rw is (by_test start (nat_lt count (start + header.xml_length)) refl (rw is at none))

-- right pages have no fault in the section either
pub section-right : (header : Header) (file : List ℕ) → all_pages_fault file ≡ None → xml_section_fault header file ≡ xml_span_fault header (logical_size file)
section-right header file right = by_place (xml_place_fault header (logical_size file)) refl where
  by_limit : (limit : Option Fault) (pages : Option Fault) → pages ≡ None → option_or limit pages ≡ limit
  by_limit None pages none = none
  by_limit (Some f) pages none = refl

  by_place : (p : Option Fault) → xml_place_fault header (logical_size file) ≡ p → xml_section_fault header file ≡ xml_span_fault header (logical_size file)
  by_place (Some f) is = rw is refl
  by_place None is =
      rw is
      (by_limit (xml_limit_fault header) (xml_pages_fault header file)
      (span-right file (xml_start header) header.xml_length (all-right file right) (within header (logical_size file) is)))

-- where all pages are right, the first fault before the text is that of the opening, or else that of the XML section
pub before-section : (file : List ℕ) → all_pages_fault file ≡ None → fault_before_text file ≡ option_or (opening_fault file) (xml_section_fault (header_of file) file)
before-section file right =
    before-opening file
    ∙ rw right (ap (option_or (opening_fault file)) (sym (section-right (header_of file) file right)))
