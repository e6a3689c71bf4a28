-- The faults of the XML section, from what the steps of its opening found.
use Rattle.std.proofs.Common.{◌≡◌, ℕ, ◌+◌, ◌-◌, ◌*◌, ◌/◌, ◌≤◌, min, Bool, true, false, cond, List, [], ◌∷◌, length, take, drop, Option, Some, None, inl, inr, refl, sym, subst, arith, ⊎_elim}
use Rattle.std.specs.Prelude.{IfSome, nat_lt}
use Rattle.std.specs.Option.{option_or}
use Rattle.std.proofs.lemmas.Bool.Decides.{nat_tests}
use Rattle.e57_base.specs.Fault.{fault, read_as_open, text_as_open}
use Rattle.e57_base.specs.Source.{SourceView, HoldsSize}
use Rattle.e57_base.proofs.Told.{told_map, told_both, length_told}
use Rattle.e57_base.specs.declared.fault.Fault.{Fault}
use Rattle.e57_base.specs.declared.fault.ReadFault.{ReadFault}
use Rattle.e57_base.specs.declared.fault.ReadFault.TheVariants as read
use Rattle.e57_base.specs.declared.fault.OpenFault.TheVariants.{Refused}
use Rattle.e57_base.specs.declared.fault.TextFault.{TextFault}
use Rattle.e57_base.specs.declared.fault.TextFault.TheVariants as text
use Rattle.e57_base.specs.declared.kind.Kind.TheVariants.{XmlPlace, XmlLimit}
use Rattle.e57_page.specs.declared.header.Header.{Header}
use Rattle.e57_page.specs.declared.pages.Cut.{Cut}
use Rattle.e57_page.specs.Header.{header_of}
use Rattle.e57_page.specs.Place.{place, span_end}
use Rattle.e57_page.specs.File.{logical, span_fault}
use Rattle.e57_page.specs.Pages.{AsksUnkept, IsCutAt, IsStopped}
use Rattle.e57_page.proofs.PagesLaws.{asks_unkept_wider, cut_fault, cut_source}
use Rattle.e57_page.specs.XmlSection.{xml_limit, xml_place_fault, xml_limit_fault, xml_start, xml_span_fault, xml_section_fault, xml_text}
use Rattle.e57_pieces.specs.declared.piece.Piece.{Piece}
use Rattle.e57_pieces.specs.Cut.{IsNext, NoPiece}
use Rattle.e57_elements.specs.declared.tree.RawNode.{RawNode}
use Rattle.e57_elements.specs.Spells.{Reads}
use Rattle.e57_elements.specs.Fault.{IsFirstFault, IsReadFault, IsPieceFault, IsStopFault}
use Rattle.e57_file.specs.Section.{IsSectionPlace}
use Rattle.e57_file.specs.Text.{xml_fault, section_text, IsTextFault, is_text_kind, IsTextRead, IsTextCause}

-- ---- three faults, one after another

first_of_two : (a b c : Option Fault) (found : Fault) → option_or a b ≡ Some found → option_or a (option_or b c) ≡ Some found
first_of_two None None c found e = absurd cc
first_of_two None (Some x) c found e = e
first_of_two (Some x) b c found e = e

past_two : (a b c outcome : Option Fault) → option_or a b ≡ None → c ≡ outcome → option_or a (option_or b c) ≡ outcome
past_two None None c outcome e is = is
past_two None (Some x) c outcome e is = absurd cc
past_two (Some x) b c outcome e is = absurd cc

-- ---- the kinds of faults

same_some : (x y : Fault) → ◌≡◌ {A = Option Fault} (Some x) (Some y) → x ≡ y
same_some x y e = cc

place_kind : (header : Header) (count : ℕ) (found : Fault) → xml_place_fault header count ≡ Some found → is_text_kind found.kind ≡ true
unfolding xml_place_fault
place_kind header count found e = elim (place header.xml_place) as (λ (p : Option ℕ). elim p as (λ _. Option Fault) [ None ↦ Some (fault XmlPlace header.xml_place header.xml_length) | Some start ↦ cond (nat_lt count (start + header.xml_length)) (Some (fault XmlPlace header.xml_place header.xml_length)) None ] ≡ Some found → is_text_kind found.kind ≡ true) [
  | None ↦ λ is. subst (λ (f : Fault). is_text_kind f.kind ≡ true) (same_some _ _ is) refl
  | Some start ↦ λ is. tested (nat_lt count (start + header.xml_length)) found is
] e where
  tested : (b : Bool) (found : Fault) → cond b (Some (fault XmlPlace header.xml_place header.xml_length)) None ≡ Some found → is_text_kind found.kind ≡ true
  tested true found is = subst (λ (f : Fault). is_text_kind f.kind ≡ true) (same_some _ _ is) refl
  tested false found is = absurd cc

limit_kind : (header : Header) (found : Fault) → xml_limit_fault header ≡ Some found → is_text_kind found.kind ≡ true
unfolding xml_limit_fault
limit_kind header found e = tested (nat_lt xml_limit header.xml_length) found e where
  tested : (b : Bool) (found : Fault) → cond b (Some (fault XmlLimit header.xml_length xml_limit)) None ≡ Some found → is_text_kind found.kind ≡ true
  tested true found is = let same : fault XmlLimit header.xml_length xml_limit ≡ found = cc in subst (λ (f : Fault). is_text_kind f.kind ≡ true) same refl
  tested false found is = absurd cc

one_kind : (a b : Option Fault) (found : Fault) → (a ≡ Some found → is_text_kind found.kind ≡ true) → (b ≡ Some found → is_text_kind found.kind ≡ true) → option_or a b ≡ Some found → is_text_kind found.kind ≡ true
one_kind None b found f g e = g e
one_kind (Some x) b found f g e = f e

piece_kind : (before : List Piece) (piece : Piece) (byte : ℕ) (found : Fault) → IsPieceFault before piece byte found → is_text_kind found.kind ≡ true
piece_kind before piece byte found (inl (dead, e)) = subst (λ (f : Fault). is_text_kind f.kind ≡ true) (sym e) refl
piece_kind before piece byte found (inr (alive, b, past, e)) = subst (λ (f : Fault). is_text_kind f.kind ≡ true) (sym e) refl

stop_kind : (before : List Piece) (here : List ℕ) (byte : ℕ) (found : Fault) → IsStopFault before here byte found → is_text_kind found.kind ≡ true
stop_kind before [] byte found (unfinished, e) = subst (λ (f : Fault). is_text_kind f.kind ≡ true) (sym e) refl
stop_kind before (b ∷ bs) byte found e = subst (λ (f : Fault). is_text_kind f.kind ≡ true) (sym e) refl

text_kind : (bytes : List ℕ) (found : Fault) → IsFirstFault bytes found → is_text_kind found.kind ≡ true
text_kind bytes found (inl (bad, e)) = subst (λ (f : Fault). is_text_kind f.kind ≡ true) (sym e) refl
text_kind bytes found (inr (inl (utf8, start))) = subst (λ (f : Fault). is_text_kind f.kind ≡ true) (sym start.1) refl
text_kind bytes found (inr (inr (utf8, body, begins, here))) =
    ⊎_elim (λ (w : (piece : Piece) × (rest : List ℕ) × IsNext here.here piece rest × IsPieceFault here.before piece (length bytes - length here.here) found). piece_kind here.before w.0 (length bytes - length here.here) found w.3)
    (λ (w : NoPiece here.here × IsStopFault here.before here.here (length bytes - length here.here) found). stop_kind here.before here.here (length bytes - length here.here) found w.1)
    here.is_fault

-- ---- the section of a told file

-- the file has the length and the header that were read
abbrev pub HasHeader : Header → ℕ → List ℕ → Type 0
HasHeader header size file = (length file ≡ size) × (header ≡ header_of file)

pub has_header : (header : Header) (size : ℕ) (old : SourceView) → HoldsSize old → old.size ≡ Some size → IfSome old.held (λ file. header ≡ header_of file) → IfSome old.held (HasHeader header size)
has_header header size old holds known read =
    told_both (λ file. length file ≡ size) (λ file. header ≡ header_of file) (HasHeader header size) old.held (λ file long is. (long, is)) (length_told old.held old.size size holds known) read

-- The section has no place, or is too long.
pub refused_by_place : (header : Header) (size : ℕ) (old new : SourceView) (found : Fault) → IfSome old.held (HasHeader header size) → xml_span_fault header (size / 1024 * 1020) ≡ Some found → IsTextCause old (Refused found) new
refused_by_place header size old new found told e = (
  one_kind (xml_place_fault header (size / 1024 * 1020)) (xml_limit_fault header) found (place_kind header (size / 1024 * 1020) found) (limit_kind header found) e,
  told_map (HasHeader header size) (λ file. IsTextFault file found) old.held
      (λ file is. inl (subst (λ (h : Header). xml_section_fault h file ≡ Some found) is.1
      (first_of_two (xml_place_fault header (length file / 1024 * 1020)) (xml_limit_fault header) (span_fault file (xml_start header) header.xml_length) found (subst (λ (n : ℕ). xml_span_fault header (n / 1024 * 1020) ≡ Some found) (sym is.0) e))))
      told,
)

-- where place and length are right, the first fault before the text is that of the pages
before_text : (header : Header) (size start count : ℕ) (file : List ℕ) (outcome : Option Fault) → HasHeader header size file → IsSectionPlace header (size / 1024 * 1020) start → count ≡ header.xml_length → span_fault file start count ≡ outcome → xml_fault file ≡ outcome
before_text header size start count file outcome is placed long pages =
    let here : span_fault file (xml_start header) header.xml_length ≡ outcome = subst (λ (n : ℕ). span_fault file (xml_start header) n ≡ outcome) long (subst (λ (q : ℕ). span_fault file q count ≡ outcome) placed.start_is pages) in
    subst (λ (h : Header). xml_section_fault h file ≡ outcome) is.1
    (past_two (xml_place_fault header (length file / 1024 * 1020)) (xml_limit_fault header) (span_fault file (xml_start header) header.xml_length) outcome (subst (λ (n : ℕ). xml_span_fault header (n / 1024 * 1020) ≡ None) (sym is.0) placed.placed) here)

text_here : (header : Header) (size start count : ℕ) (file bytes : List ℕ) → HasHeader header size file → start ≡ xml_start header → count ≡ header.xml_length → bytes ≡ take count (drop start (logical file)) → bytes ≡ section_text file
text_here header size start count file bytes is begins long read =
    subst (λ (h : Header). bytes ≡ xml_text h file) is.1
    (subst (λ (n : ℕ). bytes ≡ take n (drop (xml_start header) (logical file))) long (subst (λ (q : ℕ). bytes ≡ take count (drop q (logical file))) begins read))

-- ---- the pages that were asked for

end_in_file : (start long count pages : ℕ) → start + long ≤ count → count ≡ pages * 1020 → span_end start long ≤ pages
end_in_file start long count pages inside is = grind (arith, nat_tests)

pub asked_for : (header : Header) (size start count : ℕ) (kept : List ℕ) (old new : SourceView) → IsSectionPlace header (size / 1024 * 1020) start → count ≡ header.xml_length → AsksUnkept kept (start / 1020) (span_end start count) old new → AsksUnkept kept (xml_start header / 1020) (min (span_end (xml_start header) header.xml_length) (size / 1024)) old new
asked_for header size start count kept old new placed long asked =
    let inside : span_end start header.xml_length ≤ size / 1024 = end_in_file start header.xml_length (size / 1024 * 1020) (size / 1024) placed.inside refl in
    let least : span_end start header.xml_length ≤ min (span_end start header.xml_length) (size / 1024) = omega (arith, inside) in
    subst (λ (q : ℕ). AsksUnkept kept (q / 1020) (min (span_end q header.xml_length) (size / 1024)) old new) placed.start_is
    (asks_unkept_wider kept (start / 1020) (start / 1020) (span_end start header.xml_length) (min (span_end start header.xml_length) (size / 1024)) old new (omega arith) least (subst (λ (n : ℕ). AsksUnkept kept (start / 1020) (span_end start n) old new) long asked))

-- ---- the section's pages, and then its text

page_kind : (old new : SourceView) (n : ℕ) (found : Fault) → IsStopped old n (read.Refused found) new → is_text_kind found.kind ≡ true
page_kind old new n found stopped = subst (λ (f : Fault). is_text_kind f.kind ≡ true) (sym stopped.0) refl

-- A page of the section failed or is wrong.
pub refused_by_page : (header : Header) (size start : ℕ) (kept now : List ℕ) (n : ℕ) (before after : List ℕ) (cut : Cut) (old new : SourceView) → IfSome old.held (HasHeader header size) → IsSectionPlace header (size / 1024 * 1020) start → length before ≡ header.xml_length → IsCutAt old kept start before cut after n new now → IsTextCause old (read_as_open cut.fault) new
refused_by_page header size start kept now n before after cut old new told placed long is = by_fault cut.fault refl where
  by_fault : (failure : ReadFault) → cut.fault ≡ failure → IsTextCause old (read_as_open failure) new
  by_fault (read.Refused found) e = (
    page_kind old new n found (subst (λ (f : ReadFault). IsStopped old n f new) e is.cause),
    told_both (HasHeader header size) (λ file. span_fault file start (length before) ≡ Some found) (λ file. IsTextFault file found) old.held
        (λ file here wrong. inl (before_text header size start (length before) file (Some found) here placed long wrong)) told (cut_fault old new kept now start n before after cut found e is),
  )
  by_fault read.Source e = cut_source old new kept now start n before after cut e is

-- all pages of the section are right, and the text is that of the file
section_read : (header : Header) (size start count : ℕ) (old : SourceView) (bytes : List ℕ) → IfSome old.held (HasHeader header size) → IsSectionPlace header (size / 1024 * 1020) start → count ≡ header.xml_length → IfSome old.held (λ file. span_fault file start count ≡ None) → IfSome old.held (λ file. bytes ≡ take count (drop start (logical file))) → IfSome old.held (λ file. (xml_fault file ≡ None) × (bytes ≡ section_text file))
section_read header size start count old bytes told placed long right text =
    told_both (λ file. (HasHeader header size file) × (span_fault file start count ≡ None)) (λ file. bytes ≡ take count (drop start (logical file))) (λ file. (xml_fault file ≡ None) × (bytes ≡ section_text file)) old.held
    (λ file here is. (before_text header size start count file None here.0 placed long here.1, text_here header size start count file bytes here.0 placed.start_is long is))
    (told_both (HasHeader header size) (λ file. span_fault file start count ≡ None) (λ file. (HasHeader header size file) × (span_fault file start count ≡ None)) old.held (λ file is none. (is, none)) told right)
    text

-- The text has a fault, or memory ran out.
pub refused_by_text : (header : Header) (size start count : ℕ) (old new : SourceView) (bytes : List ℕ) (failure : TextFault) → IfSome old.held (HasHeader header size) → IsSectionPlace header (size / 1024 * 1020) start → count ≡ header.xml_length → IfSome old.held (λ file. span_fault file start count ≡ None) → IfSome old.held (λ file. bytes ≡ take count (drop start (logical file))) → IsReadFault bytes failure → IsTextCause old (text_as_open failure) new
refused_by_text header size start count old new bytes (text.Refused found) told placed long right read is = (
  text_kind bytes found is,
  told_map (λ file. (xml_fault file ≡ None) × (bytes ≡ section_text file)) (λ file. IsTextFault file found) old.held (λ file here. inr (here.0, subst (λ (t : List ℕ). IsFirstFault t found) here.1 is)) (section_read header size start count old bytes told placed long right read),
)
refused_by_text header size start count old new bytes text.Memory told placed long right read is = tt

-- The text was read.
pub text_read : (header : Header) (size start count : ℕ) (old : SourceView) (bytes : List ℕ) (nodes : List RawNode) → IfSome old.held (HasHeader header size) → IsSectionPlace header (size / 1024 * 1020) start → count ≡ header.xml_length → IfSome old.held (λ file. span_fault file start count ≡ None) → IfSome old.held (λ file. bytes ≡ take count (drop start (logical file))) → Reads bytes nodes → IsTextRead old nodes
text_read header size start count old bytes nodes told placed long right read is =
    let here = section_read header size start count old bytes told placed long right read in
    record {
      sound = told_map (λ file. (xml_fault file ≡ None) × (bytes ≡ section_text file)) (λ file. xml_fault file ≡ None) old.held (λ file both. both.0) here;
      tree = told_map (λ file. (xml_fault file ≡ None) × (bytes ≡ section_text file)) (λ file. Reads (section_text file) nodes) old.held (λ file both. subst (λ (t : List ℕ). Reads t nodes) both.1 is) here;
    }
