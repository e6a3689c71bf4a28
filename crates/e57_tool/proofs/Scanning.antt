-- How `pages` ends, from what opening the file and scanning its pages found.
use Rattle.std.proofs.Common.{◌≡◌, ℕ, zero, suc, ◌+◌, ◌/◌, ◌≤◌, ◌<◌, true, List, [], ◌∷◌, length, take, Option, Some, None, inl, inr, refl, sym, ap, subst, ◌∙◌, arith, zero-add}
use Rattle.std.specs.Prelude.{IfSome}
use Rattle.std.specs.List.{range_with_len}
use Rattle.std.specs.Option.{option_or}
use Rattle.e57_base.proofs.CountLaws.{rose_before}
use Rattle.e57_base.specs.Source.{SourceView, Asks}
use Rattle.e57_base.proofs.SourceLaws.{asks_on}
use Rattle.e57_base.specs.Sink.{SinkView}
use Rattle.e57_base.specs.declared.fault.Fault.{Fault}
use Rattle.e57_base.specs.Fault.{read_as_run}
use Rattle.e57_base.specs.declared.fault.ReadFault.{ReadFault}
use Rattle.e57_base.specs.declared.fault.ReadFault.TheVariants as read
use Rattle.e57_base.specs.declared.fault.RunFault.TheVariants.{Refused, Source}
use Rattle.e57_page.specs.declared.header.Header.{Header}
use Rattle.e57_page.specs.Header.{header_fault, header_of}
use Rattle.e57_page.specs.File.{length_fault, page_fault, pages_fault, opening_fault}
use Rattle.e57_page.proofs.FileLaws.{pages_fault-found, pages_fault-zero, whole_length}
use Rattle.e57_page.specs.Pages.{AsksFor, IsScanned, IsScannedTo, is_opening_kind}
use Rattle.e57_base.proofs.Told.{told_map, told_both, told_here}
use Rattle.e57_tool.specs.declared.ending.Ending.TheVariants.{Failed}
use Rattle.e57_tool.specs.Lines.{pages_line}
use Rattle.e57_base.specs.Opening.{OpensOnce, IsOpen}
use Rattle.e57_base.proofs.OpeningLaws.{opens_later, open_later}
use Rattle.e57_page.specs.Opening.{IsOpenedFile, IsUnopenedFile, AsksAtMostForFirst}
use Rattle.e57_tool.specs.PagesAsked.{StopsAtOpening}
use Rattle.e57_tool.specs.FileAnswer.{ReadsFile}
use Rattle.e57_tool.specs.Pages.{pages_verdict, IsPagesOutput, pages_answer, page_order, AsksInOrder}
use Rattle.e57_tool.proofs.Asked.{stops_before, stops_at_first, goes_on}
use Rattle.e57_base.proofs.Options.{option_or_parts}

-- no file has a fault and none
pub is_either : (file : List ℕ) (found : Fault) → pages_verdict file ≡ None → pages_verdict file ≡ Some found → ⊥
is_either file found sound fault = cc

-- where the opening has no fault, the verdict is that of the pages
verdict_is : (file : List ℕ) (outcome : Option Fault) → opening_fault file ≡ None → pages_fault file 0 (length file / 1024) ≡ outcome → pages_verdict file ≡ outcome
verdict_is file outcome opens pages =
    let a = option_or_parts (length_fault (length file)) (option_or (header_fault file (length file)) (page_fault file 0)) opens in
    let b = option_or_parts (header_fault file (length file)) (page_fault file 0) a.1 in
    rw (a.0, b.0) pages

by_page : (b c d : Option Fault) (found : Fault) → (c ≡ Some found → d ≡ Some found) → option_or b c ≡ Some found → option_or b d ≡ Some found
by_page None c d found f e = f e
by_page (Some x) c d found f e = e

-- a fault of the opening is the first one
opening_is : (file : List ℕ) (found : Fault) → opening_fault file ≡ Some found → pages_verdict file ≡ Some found
opening_is file found e = elim (length_fault (length file)) as (λ (l : Option Fault). length_fault (length file) ≡ l → option_or l (option_or (header_fault file (length file)) (page_fault file 0)) ≡ Some found → option_or l (option_or (header_fault file (length file)) (pages_fault file 0 (length file / 1024))) ≡ Some found) [
  | None ↦ λ none first.
      let whole = whole_length (length file) none in
      by_page (header_fault file (length file)) (page_fault file 0) (pages_fault file 0 (length file / 1024)) found
      (λ page. pages_fault-found file 0 0 (length file / 1024) found (pages_fault-zero file 0) page (omega (arith, whole.0, whole.1)))
      first
  | Some x ↦ λ some first. first
] refl e

-- The first pages of the order were asked for.
abbrev pub AsksForFirst : SourceView → SourceView → Type 0
AsksForFirst old new = (count : ℕ) × Asks old.asked (take count (page_order new.size)) new.asked × StopsAtOpening (take count (page_order new.size)) new

-- the first pages of the order are these
first_pages : (old new : SourceView) (size count : ℕ) (pages : List ℕ) → new.size ≡ Some size → take count (0 ∷ range_with_len 0 (size / 1024)) ≡ pages → Asks old.asked pages new.asked → StopsAtOpening pages new → AsksForFirst old new
first_pages old new size count pages is these asks stops =
    let same : take count (page_order new.size) ≡ pages = ap (λ (s : Option ℕ). take count (page_order s)) is ∙ these in
    (count, subst (λ (xs : List ℕ). Asks old.asked xs new.asked) (sym same) asks, subst (λ (xs : List ℕ). StopsAtOpening xs new) (sym same) stops)

unopened_asked : (old new : SourceView) → AsksAtMostForFirst old new → AsksForFirst old new
unopened_asked old new (inl none) = (0, none, stops_before new)
unopened_asked old new (inr (first, (size, is, whole))) = first_pages old new size 1 (0 ∷ []) is refl first (stops_at_first new size is whole)

take_range : (first count k : ℕ) → k ≤ count → take k (range_with_len first count) ≡ range_with_len first k
take_range first count zero within = refl
take_range first zero (suc k) within = absurd (omega arith)
take_range first (suc count) (suc k) within = ap (λ (xs : List ℕ). first ∷ xs) (take_range (first + 1) count k (omega arith))

-- page 0 and then these pages were asked for
scan_asked : (old mid new : SourceView) (pages : List ℕ) → Asks old.asked (0 ∷ []) mid.asked → AsksFor mid pages new → Asks old.asked (0 ∷ pages) new.asked
scan_asked old mid new pages first then = asks_on old.asked mid.asked new.asked (0 ∷ []) pages first then.asked

-- the scan went up to page n
part_asked : (name : List ℕ) (old mid new : SourceView) (size n : ℕ) (header : Header) → IsOpenedFile name old size header mid → AsksFor mid (range_with_len 0 (n + 1)) new → n < size / 1024 → AsksForFirst old new
part_asked name old mid new size n header opened scanned within =
    let is : new.size ≡ Some size = scanned.same.size ∙ opened.size_is in
    let these : take (suc (n + 1)) (0 ∷ range_with_len 0 (size / 1024)) ≡ 0 ∷ range_with_len 0 (n + 1) = ap (λ (xs : List ℕ). 0 ∷ xs) (take_range 0 (size / 1024) (n + 1) (omega arith)) in
    first_pages old new size (suc (n + 1)) (0 ∷ range_with_len 0 (n + 1)) is these
    (scan_asked old mid new (range_with_len 0 (n + 1)) opened.asked scanned)
    (goes_on new (0 ∷ range_with_len 0 (n + 1)) size is opened.whole (told_here (λ file. opening_fault file ≡ None) mid.held new.held scanned.same.held opened.sound))

-- the file was not opened
pub unopened_pages : (name : List ℕ) (old new : SourceView) (out : SinkView) (fault : ReadFault) → IsUnopenedFile name old fault new → ReadsFile pages_answer AsksInOrder name old new out out (Failed (read_as_run fault))
unopened_pages name old new out (read.Refused found) refused =
    record {
      pages = unopened_asked old new refused.asked;
      answers = record {
        opens = refused.opens;
        file = refused.file;
        first = told_map (λ file. opening_fault file ≡ Some found) (λ file. pages_verdict file ≡ Some found) new.held (λ file first. opening_is file found first) refused.first;
        kind = refused.kind;
        nothing = refl;
      };
    }
unopened_pages name old new out read.Source lost = record { pages = unopened_asked old new lost.asked; answers = record { opens = lost.opens; cause = lost.cause; nothing = refl } }

-- a page that the scan finds wrong
wrong_page : (name : List ℕ) (old mid new : SourceView) (out : SinkView) (size n : ℕ) (header : Header) (found : Fault) → IsOpenedFile name old size header mid → IsScannedTo mid (size / 1024) (read.Refused found) n new → ReadsFile pages_answer AsksInOrder name old new out out (Failed (Refused found))
wrong_page name old mid new out size n header found opened scanned =
    let same = scanned.source.same in
    let pages = told_both (λ file. (length file ≡ size) × (pages_fault file 0 n ≡ None)) (λ file. page_fault file n ≡ Some found) (λ file. pages_fault file 0 (length file / 1024) ≡ Some found) mid.held
    (λ file before at. pages_fault-found file 0 n (length file / 1024) found before.1 (rw zero-add at) (rw before.0 scanned.within))
    (told_both (λ file. length file ≡ size) (λ file. pages_fault file 0 n ≡ None) (λ file. (length file ≡ size) × (pages_fault file 0 n ≡ None)) mid.held (λ file is none. (is, none)) opened.long scanned.right)
    scanned.cause.1 in
    record {
      pages = part_asked name old mid new size n header opened scanned.source scanned.within;
      answers = record {
        opens = opens_later opened.opens same scanned.source.faults;
        file = open_later old mid new name opened.file same;
        first = told_here (λ file. pages_verdict file ≡ Some found) mid.held new.held same.held (told_both (λ file. opening_fault file ≡ None) (λ file. pages_fault file 0 (length file / 1024) ≡ Some found) (λ file. pages_verdict file ≡ Some found) mid.held (λ file opens page. verdict_is file (Some found) opens page) opened.sound pages);
        kind = subst (λ (f : Fault). is_opening_kind f.kind ≡ true) (sym scanned.cause.0) refl;
        nothing = refl;
      };
    }

-- a page that the source fails to give
lost_page : (name : List ℕ) (old mid new : SourceView) (out : SinkView) (size n : ℕ) (header : Header) → IsOpenedFile name old size header mid → IsScannedTo mid (size / 1024) read.Source n new → ReadsFile pages_answer AsksInOrder name old new out out (Failed Source)
lost_page name old mid new out size n header opened scanned =
    record {
      pages = part_asked name old mid new size n header opened scanned.source scanned.within;
      answers = record {
        opens = opens_later opened.opens scanned.source.same scanned.source.faults;
        cause = rose_before old.faults mid.faults new.faults opened.opens.faults scanned.cause;
        nothing = refl;
      };
    }

-- the page that stopped the scan
pub stopped_at : (name : List ℕ) (old mid new : SourceView) (out : SinkView) (size n : ℕ) (header : Header) (fault : ReadFault) → IsOpenedFile name old size header mid → IsScannedTo mid (size / 1024) fault n new → ReadsFile pages_answer AsksInOrder name old new out out (Failed (read_as_run fault))
stopped_at name old mid new out size n header (read.Refused found) opened scanned = wrong_page name old mid new out size n header found opened scanned
stopped_at name old mid new out size n header read.Source opened scanned = lost_page name old mid new out size n header opened scanned

-- What a scan of all pages says: the file has no fault, and the line is its output.
pub record IsScannedFile (name : List ℕ) (old : SourceView) (text : List ℕ) (new : SourceView) : Type 0 where
  pub asked : Asks old.asked (page_order new.size) new.asked
  pub opens : OpensOnce old name new
  pub file : IsOpen old name new
  pub sound : IfSome new.held pages_answer.is_sound
  pub output : IfSome new.held (λ file. IsPagesOutput file text)

pub scanned_file : (name : List ℕ) (old mid new : SourceView) (size count : ℕ) (header : Header) (text : List ℕ) → IsOpenedFile name old size header mid → IsScanned mid count new → count ≡ size / 1024 → text ≡ pages_line count header.xml_place header.xml_length → IsScannedFile name old text new
scanned_file name old mid new size count header text opened scanned counted written =
    let same = scanned.source.same in
    let order : page_order new.size ≡ 0 ∷ range_with_len 0 count = ap page_order (same.size ∙ opened.size_is) ∙ ap (λ (n : ℕ). 0 ∷ range_with_len 0 n) (sym counted) in
    let pages = told_both (λ file. length file ≡ size) (λ file. pages_fault file 0 count ≡ None) (λ file. pages_fault file 0 (length file / 1024) ≡ None) mid.held (λ file is right. rw (is, ← counted) right) opened.long scanned.right in
    record {
      asked = subst (λ (xs : List ℕ). Asks old.asked xs new.asked) (sym order) (scan_asked old mid new (range_with_len 0 count) opened.asked scanned.source);
      opens = opens_later opened.opens same scanned.source.faults;
      file = open_later old mid new name opened.file same;
      sound = told_here pages_answer.is_sound mid.held new.held same.held (told_both (λ file. opening_fault file ≡ None) (λ file. pages_fault file 0 (length file / 1024) ≡ None) pages_answer.is_sound mid.held (λ file opens page. verdict_is file None opens page) opened.sound pages);
      output = told_here (λ file. IsPagesOutput file text) mid.held new.held same.held (told_both (λ file. length file ≡ size) (λ file. header ≡ header_of file) (λ file. IsPagesOutput file text) mid.held (λ file is head. written ∙ rw (counted, is, head) refl) opened.long opened.read);
    }

-- the text that is put is the line for the header that was kept
pub text_is : {bytes str line : List ℕ} (count : ℕ) {given header : Header} → bytes ≡ str → str ≡ line → line ≡ pages_line count given.xml_place given.xml_length → given ≡ header → bytes ≡ pages_line count header.xml_place header.xml_length
text_is count {given = given} {header = header} a b c d = a ∙ b ∙ c ∙ ap (λ (h : Header). pages_line count h.xml_place h.xml_length) d
