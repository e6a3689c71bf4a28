-- What pages `blob` asks for, with those of the opening.
use Rattle.std.proofs.Common.{◌≡◌, ℕ, ◌*◌, ◌/◌, ◌≤◌, min, max, List, [], ◌∷◌, ◌++◌, length, Option, Some, None, Result, Err, inl, inr, refl, sym, subst, ◌∙◌, arith, lit≤}
use Rattle.std.specs.Prelude.{IfSome, MatchOption, IfErr, ◌⊎◌}
use Rattle.e57_base.specs.Source.{SourceView, Asks}
use Rattle.e57_base.proofs.SourceLaws.{asks_on}
use Rattle.e57_base.specs.Sink.{SinkView}
use Rattle.e57_base.proofs.Told.{told_map, told_both, told_here}
use Rattle.e57_base.specs.declared.fault.Fault.{Fault}
use Rattle.e57_base.specs.declared.fault.ReadFault.{ReadFault}
use Rattle.e57_base.specs.declared.fault.ReadFault.TheVariants as read
use Rattle.e57_base.specs.declared.fault.RunFault.{RunFault}
use Rattle.e57_base.specs.declared.fault.RunFault.TheVariants.{Refused}
use Rattle.e57_page.specs.declared.header.Header.{Header}
use Rattle.e57_page.specs.Header.{header_of}
use Rattle.e57_page.specs.Kept.{KeepsFirst}
use Rattle.e57_page.proofs.KeptLaws.{rises_from_unkept}
use Rattle.e57_page.specs.Place.{RisesWithin, span_end}
use Rattle.e57_page.proofs.PlaceLaws.{rises_from_lower, rises_to_higher}
use Rattle.e57_page.specs.File.{logical_size, opening_fault}
use Rattle.e57_page.specs.Opening.{IsOpenedFile, IsUnopenedFile, AsksAtMostForFirst}
use Rattle.e57_page.specs.Pages.{Reading}
use Rattle.e57_page.specs.XmlSection.{xml_start, xml_span_fault}
use Rattle.e57_show.specs.Opening.{IsPastPlace, JudgesPlaceFirst}
use Rattle.e57_show.specs.Blob.{AreBlobPages, AsksForBlob}
use Rattle.e57_tool.specs.PagesAsked.{StopsAtOpening}
use Rattle.e57_tool.specs.Blob.{AreFileBlobPages, AsksForBlobPages}
use Rattle.e57_tool.proofs.Asked.{told_always, stops_before, stops_at_first, goes_on}
use Rattle.e57_tool.proofs.Showing.{few, place_told, no_place_fault, kept_first}

nothing_asked : (k : ℕ) (old new : SourceView) → Asks old.asked [] new.asked → AsksForBlobPages k old new
nothing_asked k old new none = record { pages = []; asks = none; stops = stops_before new; parts = inl refl; by_place = few [] new (lit≤ tt) }

first_asked : (k : ℕ) (old new : SourceView) → Asks old.asked (0 ∷ []) new.asked → StopsAtOpening (0 ∷ []) new → AsksForBlobPages k old new
first_asked k old new first stops =
    record {
      pages = 0 ∷ [];
      asks = first;
      stops = stops;
      parts = inr
          (record {
            text = [];
            bytes = [];
            all = refl;
            of_file = told_always (λ size. RisesWithin 1 (size / 1024) [] × RisesWithin 0 (size / 1024) []) new.size (λ size. (tt, tt));
            of_blob = told_always (λ file. AreFileBlobPages k file [] []) new.held (λ file. record { of_text = tt; of_blob = inl refl });
          });
      by_place = few (0 ∷ []) new (lit≤ tt);
    }

pub unopened_asked : (k : ℕ) (old new : SourceView) → AsksAtMostForFirst old new → AsksForBlobPages k old new
unopened_asked k old new (inl none) = nothing_asked k old new none
unopened_asked k old new (inr (first, (size, is, whole))) = first_asked k old new first (stops_at_first new size is whole)

-- the parts of the pages, of the file
parts_told : (k : ℕ) (held : Option (List ℕ)) (header : Header) (text bytes : List ℕ) → IfSome held (λ file. header ≡ header_of file) → RisesWithin (max 1 (xml_start header / 1020)) (span_end (xml_start header) header.xml_length) text → ((bytes ≡ []) ⊎ IfSome held (λ file. AreBlobPages k file bytes)) → IfSome held (λ file. AreFileBlobPages k file text bytes)
parts_told k held header text bytes read rises (inl none) =
    told_map (λ file. header ≡ header_of file) (λ file. AreFileBlobPages k file text bytes) held
    (λ file head. record { of_text = subst (λ (h : Header). RisesWithin (max 1 (xml_start h / 1020)) (span_end (xml_start h) h.xml_length) text) head rises; of_blob = inl none }) read
parts_told k held header text bytes read rises (inr told) =
    told_both (λ file. header ≡ header_of file) (λ file. AreBlobPages k file bytes) (λ file. AreFileBlobPages k file text bytes) held
    (λ file head pages. record { of_text = subst (λ (h : Header). RisesWithin (max 1 (xml_start h / 1020)) (span_end (xml_start h) h.xml_length) text) head rises; of_blob = inr pages }) read told

-- page 0, and then pages of the section and of the blob
section_asked : {S : Type 0} (view : S → SourceView) (name : List ℕ) (k : ℕ) (old new : SourceView) (before : Reading S) → IsOpenedFile name old before.length before.header (view before.source) → KeepsFirst before.kept → xml_span_fault before.header (before.length / 1024 * 1020) ≡ None → AsksForBlob before k (view before.source) new → AsksForBlobPages k old new
section_asked view name k old new before opened keeps placed asked =
    let mid = view before.source in
    let size = before.length in
    let header = before.header in
    let low = xml_start header / 1020 in
    let high = min (span_end (xml_start header) header.xml_length) (size / 1024) in
    let text = asked.text in
    let bytes = asked.bytes in
    let asks = asked.asks in
    let is : new.size ≡ Some size = asks.same.size ∙ opened.size_is in
    let rises = rises_from_unkept before.kept low (max 1 low) high text (λ n from below. kept_first before.kept low n keeps from below) asked.text_rises asked.text_unkept in
    let in_file : RisesWithin 1 (size / 1024) text = rises_from_lower 1 (max 1 low) (size / 1024) text (omega arith) (rises_to_higher (max 1 low) high (size / 1024) text (omega arith) rises) in
    let in_text : RisesWithin (max 1 low) (span_end (xml_start header) header.xml_length) text = rises_to_higher (max 1 low) high (span_end (xml_start header) header.xml_length) text (omega arith) rises in
    record {
      pages = 0 ∷ (text ++ bytes);
      asks = asks_on old.asked mid.asked new.asked (0 ∷ []) (text ++ bytes) opened.asked asks.asked;
      stops = goes_on new (0 ∷ (text ++ bytes)) size is opened.whole (told_here (λ file. opening_fault file ≡ None) mid.held new.held asks.same.held opened.sound);
      parts = inr
          (record {
            text = text;
            bytes = bytes;
            all = refl;
            of_file = subst (λ (s : Option ℕ). IfSome s (λ n. RisesWithin 1 (n / 1024) text × RisesWithin 0 (n / 1024) bytes)) (sym is) (in_file, asked.bytes_rise);
            of_blob = told_here (λ file. AreFileBlobPages k file text bytes) mid.held new.held asks.same.held (parts_told k mid.held header text bytes opened.read in_text asked.of_blob);
          });
      by_place = told_here (λ file. IfSome (xml_span_fault (header_of file) (logical_size file)) (λ _. length (0 ∷ (text ++ bytes)) ≤ 1)) mid.held new.held asks.same.held
          (told_map (λ file. xml_span_fault (header_of file) (logical_size file) ≡ None) (λ file. IfSome (xml_span_fault (header_of file) (logical_size file)) (λ _. length (0 ∷ (text ++ bytes)) ≤ 1)) mid.held
          (λ file none. no_place_fault (xml_span_fault (header_of file) (logical_size file)) (length (0 ∷ (text ++ bytes)) ≤ 1) none)
          (place_told mid size header None opened.long opened.read placed));
    }

-- page 0 was asked for, and no other where the section has no place
pub blob_asked : {S T : Type 0} (view : S → SourceView) (name : List ℕ) (k : ℕ) (old : SourceView) (before after : Reading S) (out out' : SinkView) (result : Result T RunFault) → IsOpenedFile name old before.length before.header (view before.source) → KeepsFirst before.kept → JudgesPlaceFirst before out result after out' → AsksForBlob before k (view before.source) (view after.source) → AsksForBlobPages k old (view after.source)
blob_asked {S} view name k old before after out out' result opened keeps judged asked = elim (xml_span_fault before.header (before.length / 1024 * 1020)) as (λ (o : Option Fault). xml_span_fault before.header (before.length / 1024 * 1020) ≡ o → MatchOption o (IfErr result IsPastPlace) (λ found. (result ≡ Err (Refused found)) × (after ≡ before) × (out' ≡ out)) → AsksForBlobPages k old (view after.source)) [
  | None ↦ λ none past. section_asked view name k old (view after.source) before opened keeps none asked
  | Some found ↦ λ some refused. subst (λ (r : Reading S). AsksForBlobPages k old (view r.source)) (sym refused.1) (first_asked k old (view before.source) opened.asked (stops_at_first (view before.source) before.length opened.size_is opened.whole))
] refl judged

-- the file was not opened
pub unopened_pages : (k : ℕ) (name : List ℕ) (old new : SourceView) (fault : ReadFault) → IsUnopenedFile name old fault new → AsksForBlobPages k old new
unopened_pages k name old new (read.Refused found) refused = unopened_asked k old new refused.asked
unopened_pages k name old new read.Source lost = unopened_asked k old new lost.asked
