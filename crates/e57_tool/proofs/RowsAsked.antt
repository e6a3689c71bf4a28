-- What pages `extract` asks for, with those of the opening, and that each of them is met for what is asked.
use Rattle.std.proofs.Common.{◌≡◌, ℕ, ◌+◌, ◌*◌, ◌/◌, ◌<◌, ◌≤◌, min, max, List, [], ◌∷◌, ◌++◌, length, Option, Some, None, Result, Err, inl, inr, refl, sym, subst, ◌∙◌, arith, lit≤}
use Rattle.std.specs.Prelude.{IfSome, MatchOption, IfErr, ◌⊎◌}
use Rattle.std.specs.List.{AllByRecursion}
use Rattle.e57_base.specs.Source.{SourceView, Asks}
use Rattle.e57_base.proofs.SourceLaws.{asks_on}
use Rattle.e57_base.specs.Sink.{SinkView}
use Rattle.e57_base.proofs.Told.{told_map, told_both, told_here}
use Rattle.e57_base.specs.declared.fault.Fault.{Fault}
use Rattle.e57_base.specs.declared.fault.ReadFault.{ReadFault}
use Rattle.e57_base.specs.declared.fault.ReadFault.TheVariants as read
use Rattle.e57_base.specs.declared.fault.RunFault.{RunFault}
use Rattle.e57_base.specs.declared.fault.RunFault.TheVariants.{Refused}
use Rattle.e57_page.specs.declared.header.Header.{Header}
use Rattle.e57_page.specs.Header.{header_of}
use Rattle.e57_page.specs.Kept.{KeepsFirst}
use Rattle.e57_page.proofs.KeptLaws.{rises_from_unkept}
use Rattle.e57_page.specs.Place.{RisesWithin, span_end}
use Rattle.e57_page.proofs.PlaceLaws.{rises_from_lower, rises_to_higher}
use Rattle.e57_page.specs.File.{logical_size, opening_fault}
use Rattle.e57_page.specs.Opening.{IsOpenedFile, IsUnopenedFile, AsksAtMostForFirst}
use Rattle.e57_page.specs.Pages.{Reading}
use Rattle.e57_page.specs.XmlSection.{xml_start, xml_span_fault}
use Rattle.e57_show.specs.Opening.{IsPastPlace, JudgesPlaceFirst}
use Rattle.e57_show.specs.Extract.{Asked, IsMetBy, AreRowsPages, AsksForRows}
use Rattle.e57_tool.specs.PagesAsked.{StopsAtOpening}
use Rattle.e57_tool.specs.Extract.{IsMetFor, AreFileRowsPages, AsksForRowsPages}
use Rattle.e57_tool.proofs.Asked.{told_always, stops_before, stops_at_first, goes_on}
use Rattle.e57_tool.proofs.Showing.{few, place_told, no_place_fault, kept_first}
use Rattle.e57_base.proofs.Lists.{all_append, all_map}

risen : (low high : ℕ) (pages : List ℕ) → RisesWithin low high pages → AllByRecursion (λ (p : ℕ). (low ≤ p) × (p < high)) pages
risen low high [] rises = tt
risen low high (page ∷ pages) rises =
    ((rises.0, rises.1), all_map (λ (p : ℕ). (page + 1 ≤ p) × (p < high)) (λ (p : ℕ). (low ≤ p) × (p < high)) pages (λ p within. let from = rises.0 in let past = within.0 in (omega arith, within.1)) (risen (page + 1) high pages rises.2))

text_met : (asked : Asked) (file text : List ℕ) → xml_span_fault (header_of file) (logical_size file) ≡ None → RisesWithin (max 1 (xml_start (header_of file) / 1020)) (span_end (xml_start (header_of file)) (header_of file).xml_length) text → AllByRecursion (IsMetFor asked file) text
text_met asked file text placed rises =
    let low = xml_start (header_of file) / 1020 in
    let high = span_end (xml_start (header_of file)) (header_of file).xml_length in
    all_map (λ (p : ℕ). (max 1 low ≤ p) × (p < high)) (IsMetFor asked file) text (λ p within. let from = within.0 in inr (inl (placed, (omega arith, within.1)))) (risen (max 1 low) high text rises)

rows_met : (asked : Asked) (file rows : List ℕ) → ((rows ≡ []) ⊎ AreRowsPages asked file rows) → AllByRecursion (IsMetFor asked file) rows
rows_met asked file rows (inl none) = rw none tt
rows_met asked file rows (inr (s, selects, all)) = all_map (IsMetBy file s) (IsMetFor asked file) rows (λ p met. inr (inr (s, selects, inr (inr met)))) all

pages_met : (asked : Asked) (file text rows : List ℕ) → xml_span_fault (header_of file) (logical_size file) ≡ None → AreFileRowsPages asked file text rows → AllByRecursion (IsMetFor asked file) (0 ∷ (text ++ rows))
pages_met asked file text rows placed pages = (inl refl, all_append (IsMetFor asked file) text rows (text_met asked file text placed pages.of_text) (rows_met asked file rows pages.of_rows))

-- ---- which pages

nothing_asked : (asked : Asked) (old new : SourceView) → Asks old.asked [] new.asked → AsksForRowsPages asked old new
nothing_asked asked old new none =
    record {
      pages = [];
      asks = none;
      stops = stops_before new;
      parts = inl refl;
      by_place = few [] new (lit≤ tt);
      met = told_always (λ file. AllByRecursion (IsMetFor asked file) []) new.held (λ file. tt);
    }

first_asked : (asked : Asked) (old new : SourceView) → Asks old.asked (0 ∷ []) new.asked → StopsAtOpening (0 ∷ []) new → AsksForRowsPages asked old new
first_asked asked old new first stops =
    record {
      pages = 0 ∷ [];
      asks = first;
      stops = stops;
      parts = inr
          (record {
            text = [];
            rows = [];
            all = refl;
            of_file = told_always (λ size. RisesWithin 1 (size / 1024) []) new.size (λ size. tt);
            of_rows = told_always (λ file. AreFileRowsPages asked file [] []) new.held (λ file. record { of_text = tt; of_rows = inl refl });
          });
      by_place = few (0 ∷ []) new (lit≤ tt);
      met = told_always (λ file. AllByRecursion (IsMetFor asked file) (0 ∷ [])) new.held (λ file. (inl refl, tt));
    }

pub unopened_asked : (asked : Asked) (old new : SourceView) → AsksAtMostForFirst old new → AsksForRowsPages asked old new
unopened_asked asked old new (inl none) = nothing_asked asked old new none
unopened_asked asked old new (inr (first, (size, is, whole))) = first_asked asked old new first (stops_at_first new size is whole)

-- the parts of the pages, of the file
parts_told : (asked : Asked) (held : Option (List ℕ)) (header : Header) (text rows : List ℕ) → IfSome held (λ file. header ≡ header_of file) → RisesWithin (max 1 (xml_start header / 1020)) (span_end (xml_start header) header.xml_length) text → ((rows ≡ []) ⊎ IfSome held (λ file. AreRowsPages asked file rows)) → IfSome held (λ file. AreFileRowsPages asked file text rows)
parts_told asked held header text rows read rises (inl none) =
    told_map (λ file. header ≡ header_of file) (λ file. AreFileRowsPages asked file text rows) held
    (λ file head. record { of_text = subst (λ (h : Header). RisesWithin (max 1 (xml_start h / 1020)) (span_end (xml_start h) h.xml_length) text) head rises; of_rows = inl none }) read
parts_told asked held header text rows read rises (inr told) =
    told_both (λ file. header ≡ header_of file) (λ file. AreRowsPages asked file rows) (λ file. AreFileRowsPages asked file text rows) held
    (λ file head pages. record { of_text = subst (λ (h : Header). RisesWithin (max 1 (xml_start h / 1020)) (span_end (xml_start h) h.xml_length) text) head rises; of_rows = inr pages }) read told

-- page 0, and then pages of the section and those on the way to what is asked
section_asked : {S : Type 0} (view : S → SourceView) (name : List ℕ) (asked : Asked) (old new : SourceView) (before : Reading S) → IsOpenedFile name old before.length before.header (view before.source) → KeepsFirst before.kept → xml_span_fault before.header (before.length / 1024 * 1020) ≡ None → AsksForRows before asked (view before.source) new → AsksForRowsPages asked old new
section_asked view name asked old new before opened keeps placed asks_for =
    let mid = view before.source in
    let size = before.length in
    let header = before.header in
    let low = xml_start header / 1020 in
    let high = min (span_end (xml_start header) header.xml_length) (size / 1024) in
    let text = asks_for.text in
    let rows = asks_for.rows in
    let asks = asks_for.asks in
    let is : new.size ≡ Some size = asks.same.size ∙ opened.size_is in
    let rises = rises_from_unkept before.kept low (max 1 low) high text (λ n from below. kept_first before.kept low n keeps from below) asks_for.text_rises asks_for.text_unkept in
    let in_file : RisesWithin 1 (size / 1024) text = rises_from_lower 1 (max 1 low) (size / 1024) text (omega arith) (rises_to_higher (max 1 low) high (size / 1024) text (omega arith) rises) in
    let in_text : RisesWithin (max 1 low) (span_end (xml_start header) header.xml_length) text = rises_to_higher (max 1 low) high (span_end (xml_start header) header.xml_length) text (omega arith) rises in
    let parts = parts_told asked mid.held header text rows opened.read in_text asks_for.of_rows in
    let place = place_told mid size header None opened.long opened.read placed in
    record {
      pages = 0 ∷ (text ++ rows);
      asks = asks_on old.asked mid.asked new.asked (0 ∷ []) (text ++ rows) opened.asked asks.asked;
      stops = goes_on new (0 ∷ (text ++ rows)) size is opened.whole (told_here (λ file. opening_fault file ≡ None) mid.held new.held asks.same.held opened.sound);
      parts = inr
          (record {
            text = text;
            rows = rows;
            all = refl;
            of_file = subst (λ (s : Option ℕ). IfSome s (λ n. RisesWithin 1 (n / 1024) text)) (sym is) in_file;
            of_rows = told_here (λ file. AreFileRowsPages asked file text rows) mid.held new.held asks.same.held parts;
          });
      by_place = told_here (λ file. IfSome (xml_span_fault (header_of file) (logical_size file)) (λ _. length (0 ∷ (text ++ rows)) ≤ 1)) mid.held new.held asks.same.held
          (told_map (λ file. xml_span_fault (header_of file) (logical_size file) ≡ None) (λ file. IfSome (xml_span_fault (header_of file) (logical_size file)) (λ _. length (0 ∷ (text ++ rows)) ≤ 1)) mid.held
          (λ file none. no_place_fault (xml_span_fault (header_of file) (logical_size file)) (length (0 ∷ (text ++ rows)) ≤ 1) none) place);
      met = told_here (λ file. AllByRecursion (IsMetFor asked file) (0 ∷ (text ++ rows))) mid.held new.held asks.same.held
          (told_both (λ file. xml_span_fault (header_of file) (logical_size file) ≡ None) (λ file. AreFileRowsPages asked file text rows) (λ file. AllByRecursion (IsMetFor asked file) (0 ∷ (text ++ rows))) mid.held
          (λ file none pages. pages_met asked file text rows none pages) place parts);
    }

-- page 0 was asked for, and no other where the section has no place
pub rows_pages : {S T : Type 0} (view : S → SourceView) (name : List ℕ) (asked : Asked) (old : SourceView) (before after : Reading S) (out out' : SinkView) (result : Result T RunFault) → IsOpenedFile name old before.length before.header (view before.source) → KeepsFirst before.kept → JudgesPlaceFirst before out result after out' → AsksForRows before asked (view before.source) (view after.source) → AsksForRowsPages asked old (view after.source)
rows_pages {S} view name asked old before after out out' result opened keeps judged asks_for = elim (xml_span_fault before.header (before.length / 1024 * 1020)) as (λ (o : Option Fault). xml_span_fault before.header (before.length / 1024 * 1020) ≡ o → MatchOption o (IfErr result IsPastPlace) (λ found. (result ≡ Err (Refused found)) × (after ≡ before) × (out' ≡ out)) → AsksForRowsPages asked old (view after.source)) [
  | None ↦ λ none past. section_asked view name asked old (view after.source) before opened keeps none asks_for
  | Some found ↦ λ some refused. subst (λ (r : Reading S). AsksForRowsPages asked old (view r.source)) (sym refused.1) (first_asked asked old (view before.source) opened.asked (stops_at_first (view before.source) before.length opened.size_is opened.whole))
] refl judged

-- the file was not opened
pub unopened_pages : (asked : Asked) (name : List ℕ) (old new : SourceView) (fault : ReadFault) → IsUnopenedFile name old fault new → AsksForRowsPages asked old new
unopened_pages asked name old new (read.Refused found) refused = unopened_asked asked old new refused.asked
unopened_pages asked name old new read.Source lost = unopened_asked asked old new lost.asked
