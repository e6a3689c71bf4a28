-- The first fault of a section's header, from the steps of its opening.
use Rattle.std.specs.Prelude.{◌≡◌, ℕ, ◌+◌, ◌*◌, ◌/◌, ◌≤◌, ◌==◌, ◌||◌, not, nat_lt, Bool, true, false, if◌then◌else◌, List, [], length, take, drop, Option, Some, None, IfSome, MatchOption}
use Rattle.std.specs.Option.{option_or}
use Rattle.std.proofs.Common.{refl, sym, subst, ap, ◌∙◌, arith}
use Rattle.std.proofs.lemmas.Bool.{ltb-false, or_parts}
use Rattle.e57_base.specs.Fault.{fault}
use Rattle.e57_base.specs.Source.{SourceView, HoldsSize}
use Rattle.e57_base.proofs.Told.{told_map, told_both, length_told}
use Rattle.e57_base.specs.declared.fault.Fault.{Fault}
use Rattle.e57_base.specs.declared.fault.ReadFault.{ReadFault}
use Rattle.e57_base.specs.declared.fault.ReadFault.TheVariants.{Refused, Source}
use Rattle.e57_base.specs.declared.kind.Kind.{Kind}
use Rattle.e57_base.specs.declared.kind.Kind.TheVariants.{SectionPlace, SectionId, DataPlace}
use Rattle.e57_page.specs.Place.{place}
use Rattle.e57_page.specs.File.{logical, logical_size, span_fault}
use Rattle.e57_page.specs.Pages.{AsksFor}
use Rattle.e57_layout.specs.Headers.{section_head_at}
use Rattle.e57_layout.specs.declared.section.Section.{Section}
use Rattle.e57_layout.specs.declared.section.SectionHeader.{SectionHeader}
use Rattle.e57_cloud.specs.Section.{when, data_place_fault, section_header_fault, section_fault_from, section_fault, section_at}
use Rattle.e57_section.specs.Asking.{AsksSpan, KeepsOnly}
use Rattle.e57_section.specs.Opening.{header_within, header_place, AsksHeader, KeepsHeader, is_section_kind, IsSectionCause}
use Rattle.e57_section.specs.Steps.{IsSpanCause}
use Rattle.e57_section.proofs.Moved.{section_head-piece}
use Rattle.e57_base.proofs.Options.{cond_none, option_or_parts}
use Rattle.e57_section.proofs.Answered.{when_false}

cond_some : (b : Bool) (q start : ℕ) → ◌≡◌ {A = Option ℕ} (if b then None else Some q) (Some start) → (b ≡ false) × (q ≡ start)
cond_some true q start e = absurd cc
cond_some false q start e = (refl, cc)

outside : (file : List ℕ) (size node offset : ℕ) (p : Option ℕ) → logical_size file ≡ size → header_within size p ≡ None → section_fault_from file node offset p ≡ Some (fault SectionPlace node offset)
outside file size node offset None same e = refl
outside file size node offset (Some q) same e = let past = cond_none (nat_lt size (q + 32)) q e in rw (same, past) refl

inside : (file : List ℕ) (size node offset start : ℕ) (p : Option ℕ) → logical_size file ≡ size → header_within size p ≡ Some start → section_fault_from file node offset p ≡ option_or (span_fault file start 32) (section_header_fault node offset size start (section_head_at (logical file) start))
inside file size node offset start None same e = absurd cc
inside file size node offset start (Some q) same e =
    let both = cond_some (nat_lt size (q + 32)) q start e in
    let here = both.1 in
    rw (same, both.0, here) refl

placed : (size start : ℕ) (p : Option ℕ) → header_within size p ≡ Some start → (p ≡ Some start) × (start + 32 ≤ size)
placed size start None e = absurd cc
placed size start (Some q) e =
    let both = cond_some (nat_lt size (q + 32)) q start e in
    (ap (λ (n : ℕ). Some n) both.1, rw both.1 at (ltb-false size (q + 32) both.0))

pub header_placed : (size offset start : ℕ) → header_place size offset ≡ Some start → (place offset ≡ Some start) × (start + 32 ≤ size)
header_placed size offset start e = placed size start (place offset) e

-- a told file has this many logical bytes
pub told_size : (old : SourceView) (length' : ℕ) → HoldsSize old → old.size ≡ Some length' → IfSome old.held (λ file. logical_size file ≡ length' / 1024 * 1020)
told_size old length' holds known = told_map (λ file. length file ≡ length') (λ file. logical_size file ≡ length' / 1024 * 1020) old.held (λ file is. rw is refl) (length_told old.held old.size length' holds known)

-- ---- the causes

pub outside_cause : (old : SourceView) (size node offset : ℕ) → IfSome old.held (λ file. logical_size file ≡ size) → header_place size offset ≡ None → IfSome old.held (λ file. section_fault file node offset ≡ Some (fault SectionPlace node offset))
unfolding section_fault
outside_cause old size node offset told e =
    told_map (λ file. logical_size file ≡ size) (λ file. section_fault file node offset ≡ Some (fault SectionPlace node offset)) old.held (λ file same. outside file size node offset (place offset) same e) told

pub page_cause : (old new : SourceView) (size node offset start : ℕ) (found : ReadFault) → IfSome old.held (λ file. logical_size file ≡ size) → header_place size offset ≡ Some start → IsSpanCause old start 32 found new → IsSectionCause old node offset found new
unfolding section_fault
page_cause old new size node offset start (Refused found) told e cause = (
  ap (λ (k : Kind). is_section_kind k) cause.0,
  told_both (λ file. logical_size file ≡ size) (λ file. span_fault file start 32 ≡ Some found) (λ file. section_fault file node offset ≡ Some found) old.held
      (λ file same wrong. inside file size node offset start (place offset) same e ∙ rw wrong refl) told cause.1,
)
page_cause old new size node offset start Source told e cause = cause

-- the header that was read has this outcome
pub header_outcome : (old : SourceView) (size node offset start : ℕ) (bytes : List ℕ) (header : SectionHeader) (outcome : Option Fault) → IfSome old.held (λ file. logical_size file ≡ size) → header_place size offset ≡ Some start → IfSome old.held (λ file. span_fault file start 32 ≡ None) → IfSome old.held (λ file. bytes ≡ take 32 (drop start (logical file))) → header ≡ section_head_at bytes 0 → section_header_fault node offset size start header ≡ outcome → IfSome old.held (λ file. section_fault file node offset ≡ outcome)
unfolding section_fault
header_outcome old size node offset start bytes header outcome told e right read is judged =
    told_both (λ file. logical_size file ≡ size) (λ file. (span_fault file start 32 ≡ None) × (bytes ≡ take 32 (drop start (logical file)))) (λ file. section_fault file node offset ≡ outcome) old.held
    (λ file same both.
    let header_is : header ≡ section_head_at (logical file) start = is ∙ ap (λ (b : List ℕ). section_head_at b 0) both.1 ∙ section_head-piece (logical file) start in
    inside file size node offset start (place offset) same e ∙ rw (both.0, ← header_is) judged)
    told
    (told_both (λ file. span_fault file start 32 ≡ None) (λ file. bytes ≡ take 32 (drop start (logical file))) (λ file. (span_fault file start 32 ≡ None) × (bytes ≡ take 32 (drop start (logical file)))) old.held (λ file a b. (a, b)) right read)

pub header_section : (old : SourceView) (node offset count fields start data_place : ℕ) (bytes : List ℕ) (header : SectionHeader) → place offset ≡ Some start → place header.data_place ≡ Some data_place → IfSome old.held (λ file. bytes ≡ take 32 (drop start (logical file))) → header ≡ section_head_at bytes 0 → IfSome old.held (λ file. ◌≡◌ {A = Section} (record { node = node; fields = fields; start = start; end = start + header.length; data_place = data_place; index = header.index; count = count }) (section_at file node offset count fields))
unfolding section_at
header_section old node offset count fields start data_place bytes header at_offset at_data read is =
    told_map (λ file. bytes ≡ take 32 (drop start (logical file))) (λ file. ◌≡◌ {A = Section} (record { node = node; fields = fields; start = start; end = start + header.length; data_place = data_place; index = header.index; count = count }) (section_at file node offset count fields)) old.held
    (λ file piece.
    let header_is : header ≡ section_head_at (logical file) start = is ∙ ap (λ (b : List ℕ). section_head_at b 0) piece ∙ section_head-piece (logical file) start in
    rw (at_offset, ← header_is, at_data) refl) read

-- ---- the kinds, and where the section lies

when_kind : (b : Bool) (f found : Fault) → is_section_kind f.kind ≡ true → when b f ≡ Some found → is_section_kind found.kind ≡ true
when_kind true f found k e = let same : f ≡ found = cc in subst (λ (x : Fault). is_section_kind x.kind ≡ true) same k
when_kind false f found k e = absurd cc

either_kind : (a b : Option Fault) (found : Fault) → (a ≡ Some found → is_section_kind found.kind ≡ true) → (b ≡ Some found → is_section_kind found.kind ≡ true) → option_or a b ≡ Some found → is_section_kind found.kind ≡ true
either_kind None b found f g e = g e
either_kind (Some x) b found f g e = f e

data_kind : (node start : ℕ) (header : SectionHeader) (p : Option ℕ) (found : Fault) → data_place_fault node start header p ≡ Some found → is_section_kind found.kind ≡ true
data_kind node start header None found e = when_kind true (fault DataPlace node header.data_place) found refl e
data_kind node start header (Some q) found e = when_kind (nat_lt q (start + 32) || nat_lt (start + header.length) q) (fault DataPlace node header.data_place) found refl e

pub header_kind : (node offset size start : ℕ) (header : SectionHeader) (found : Fault) → section_header_fault node offset size start header ≡ Some found → is_section_kind found.kind ≡ true
unfolding section_header_fault
header_kind node offset size start header found e =
    either_kind (when (nat_lt header.length 32 || nat_lt size (start + header.length)) (fault SectionPlace node offset)) _ found
    (when_kind (nat_lt header.length 32 || nat_lt size (start + header.length)) (fault SectionPlace node offset) found refl)
    (either_kind (when (not (header.id == 1)) (fault SectionId node header.id)) _ found
    (when_kind (not (header.id == 1)) (fault SectionId node header.id) found refl)
    (data_kind node start header (place header.data_place) found)) e

data_lies : (node start data_place : ℕ) (header : SectionHeader) (p : Option ℕ) → p ≡ Some data_place → data_place_fault node start header p ≡ None → (start + 32 ≤ data_place) × (data_place ≤ start + header.length)
data_lies node start data_place header None e sound = absurd cc
data_lies node start data_place header (Some q) e sound =
    let same : q ≡ data_place = cc in
    let tests = or_parts (nat_lt q (start + 32)) (nat_lt (start + header.length) q) (when_false (nat_lt q (start + 32) || nat_lt (start + header.length) q) (fault DataPlace node header.data_place) sound) in
    let low = ltb-false q (start + 32) tests.0 in
    let high = ltb-false (start + header.length) q tests.1 in
    (omega (arith, low, same), omega (arith, high, same))

-- the header's numbers are within the file
pub record HeaderLies (size start data_place : ℕ) (header : SectionHeader) : Type 0 where
  pub after : start + 32 ≤ data_place
  pub inside : data_place ≤ start + header.length
  pub end : start + header.length ≤ size

pub header_lies : (node offset size start data_place : ℕ) (header : SectionHeader) → section_header_fault node offset size start header ≡ None → place header.data_place ≡ Some data_place → HeaderLies size start data_place header
unfolding section_header_fault
header_lies node offset size start data_place header sound e =
    let first = option_or_parts (when (nat_lt header.length 32 || nat_lt size (start + header.length)) (fault SectionPlace node offset)) _ sound in
    let second = option_or_parts (when (not (header.id == 1)) (fault SectionId node header.id)) _ first.1 in
    let tests = or_parts (nat_lt header.length 32) (nat_lt size (start + header.length)) (when_false (nat_lt header.length 32 || nat_lt size (start + header.length)) (fault SectionPlace node offset) first.0) in
    let lies = data_lies node start data_place header (place header.data_place) e second.1 in
    record { after = lies.0; inside = lies.1; end = ltb-false size (start + header.length) tests.1 }

-- ---- the pages

pub asks_header : (kept : List ℕ) (size offset start : ℕ) (old new : SourceView) → header_place size offset ≡ Some start → AsksSpan kept start 32 old new → AsksHeader kept size offset old new
asks_header kept size offset start old new e asks = subst (λ (p : Option ℕ). MatchOption p (AsksFor old [] new) (λ q. AsksSpan kept q 32 old new)) (sym e) asks

pub asks_no_header : (kept : List ℕ) (size offset : ℕ) (old new : SourceView) → header_place size offset ≡ None → AsksFor old [] new → AsksHeader kept size offset old new
asks_no_header kept size offset old new e asks = subst (λ (p : Option ℕ). MatchOption p (AsksFor old [] new) (λ q. AsksSpan kept q 32 old new)) (sym e) asks

pub keeps_header : (kept now : List ℕ) (size offset start : ℕ) → header_place size offset ≡ Some start → KeepsOnly kept start 32 now → KeepsHeader kept size offset now
keeps_header kept now size offset start e keeps = subst (λ (p : Option ℕ). MatchOption p (now ≡ kept) (λ q. KeepsOnly kept q 32 now)) (sym e) keeps

pub keeps_no_header : (kept : List ℕ) (size offset : ℕ) → header_place size offset ≡ None → KeepsHeader kept size offset kept
keeps_no_header kept size offset e = subst (λ (p : Option ℕ). MatchOption p (kept ≡ kept) (λ q. KeepsOnly kept q 32 kept)) (sym e) refl
