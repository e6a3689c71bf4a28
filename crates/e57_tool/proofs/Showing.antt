-- How a command ends that opens a file and shows it, from what opening the file and showing it found.
use Rattle.std.proofs.Common.{◌≡◌, ℕ, ◌*◌, ◌/◌, ◌<◌, ◌≤◌, min, max, Bool, true, false, ◌||◌, List, [], ◌∷◌, length, Option, Some, None, Result, Err, inl, inr, refl, sym, subst, ◌∙◌, arith, lit≤}
use Rattle.std.specs.Prelude.{IfSome, MatchOption, IfErr}
use Rattle.e57_base.proofs.CountLaws.{rose_before}
use Rattle.e57_base.specs.Fault.{read_as_run}
use Rattle.e57_base.specs.Source.{SourceView, Asks}
use Rattle.e57_base.proofs.SourceLaws.{asks_on}
use Rattle.e57_base.specs.Sink.{SinkView}
use Rattle.e57_base.proofs.Told.{told_map, told_both, told_here}
use Rattle.e57_base.specs.Opening.{OpensOnce, IsOpen}
use Rattle.e57_base.proofs.OpeningLaws.{opens_later, open_later}
use Rattle.e57_base.specs.declared.fault.Fault.{Fault}
use Rattle.e57_base.specs.declared.fault.ReadFault.{ReadFault}
use Rattle.e57_base.specs.declared.fault.ReadFault.TheVariants as read
use Rattle.e57_base.specs.declared.fault.RunFault.{RunFault}
use Rattle.e57_base.specs.declared.fault.RunFault.TheVariants.{Refused, Source, Out, Memory, Ask}
use Rattle.e57_page.specs.declared.header.Header.{Header}
use Rattle.e57_page.specs.Header.{header_of}
use Rattle.e57_page.specs.Kept.{is_kept, KeepsFirst}
use Rattle.e57_page.specs.Place.{RisesWithin, span_end}
use Rattle.e57_page.proofs.PlaceLaws.{rises_from_lower, rises_to_higher}
use Rattle.e57_page.specs.File.{logical_size, opening_fault}
use Rattle.e57_page.specs.Opening.{IsOpenedFile, IsUnopenedFile, AsksAtMostForFirst}
use Rattle.e57_page.specs.Pages.{Reading, AsksFor, AsksUnkept, is_opening_kind}
use Rattle.e57_page.proofs.PagesLaws.{asks_unkept_from}
use Rattle.e57_page.specs.XmlSection.{xml_start, xml_span_fault}
use Rattle.e57_file.specs.Text.{AsksForXml}
use Rattle.e57_show.specs.Showing.{Shown, ShowEnds, ShowsText, HasNoFault}
use Rattle.e57_show.specs.Opening.{IsPastPlace, JudgesPlaceFirst}
use Rattle.e57_tool.specs.declared.ending.Ending.TheVariants.{Failed}
use Rattle.e57_tool.specs.PagesAsked.{StopsAtOpening}
use Rattle.e57_tool.specs.FileAnswer.{ReadsFile}
use Rattle.e57_tool.specs.Show.{IsShowFault, HasNoShowFault, HasTextPlace, IsFirstAndThen, IsTextAsk, AsksForText, show_answer, text_rule}
use Rattle.e57_tool.proofs.Asked.{told_always, stops_before, stops_at_first, goes_on}

-- no file has a fault and none
pub is_either : (shown : Shown) (file : List ℕ) (found : Fault) → HasNoShowFault shown file → IsShowFault shown file found → ⊥
is_either shown file found sound fault = sound found fault

-- so few pages that no place was judged
pub few : (pages : List ℕ) (source : SourceView) → length pages ≤ 1 → IfSome source.held (λ file. IfSome (xml_span_fault (header_of file) (logical_size file)) (λ _. length pages ≤ 1))
few pages source within = told_always (λ file. IfSome (xml_span_fault (header_of file) (logical_size file)) (λ _. length pages ≤ 1)) source.held (λ file. told_always (λ _. length pages ≤ 1) (xml_span_fault (header_of file) (logical_size file)) (λ _. within))

nothing_asked : (old new : SourceView) → Asks old.asked [] new.asked → AsksForText old new
nothing_asked old new none =
    record {
      pages = [];
      asks = none;
      stops = stops_before new;
      of_file = inl refl;
      of_text = told_always (λ file. IsTextAsk (header_of file) []) new.held (λ file. inl refl);
      by_place = few [] new (lit≤ tt);
    }

first_asked : (old new : SourceView) → Asks old.asked (0 ∷ []) new.asked → StopsAtOpening (0 ∷ []) new → AsksForText old new
first_asked old new first stops =
    record {
      pages = 0 ∷ [];
      asks = first;
      stops = stops;
      of_file = inr (told_always (λ size. IsFirstAndThen 1 (size / 1024) (0 ∷ [])) new.size (λ size. inr ([], refl, tt)));
      of_text = told_always (λ file. IsTextAsk (header_of file) (0 ∷ [])) new.held (λ file. inr ([], refl, tt));
      by_place = few (0 ∷ []) new (lit≤ tt);
    }

unopened_asked : (old new : SourceView) → AsksAtMostForFirst old new → AsksForText old new
unopened_asked old new (inl none) = nothing_asked old new none
unopened_asked old new (inr (first, (size, is, whole))) = first_asked old new first (stops_at_first new size is whole)

either_kind : (a b : Bool) → a ≡ true → (a || b) ≡ true
either_kind true b e = refl
either_kind false b e = absurd cc

other_kind : (a b : Bool) → b ≡ true → (a || b) ≡ true
other_kind true b e = refl
other_kind false b e = e

-- the file was not opened
pub unopened : (shown : Shown) (name : List ℕ) (old new : SourceView) (out : SinkView) (fault : ReadFault) → IsUnopenedFile name old fault new → ReadsFile (show_answer shown) text_rule name old new out out (Failed (read_as_run fault))
unopened shown name old new out (read.Refused found) refused =
    record {
      pages = unopened_asked old new refused.asked;
      answers = record {
        opens = refused.opens;
        file = refused.file;
        first = told_map (λ file. opening_fault file ≡ Some found) (λ file. IsShowFault shown file found) new.held (λ file first. inl first) refused.first;
        kind = either_kind (is_opening_kind found.kind) (shown.is_named found.kind) refused.kind;
        nothing = refl;
      };
    }
unopened shown name old new out read.Source lost = record { pages = unopened_asked old new lost.asked; answers = record { opens = lost.opens; cause = lost.cause; nothing = refl } }

-- the place of the section, by the numbers that were read and by the file
pub place_told : (mid : SourceView) (size : ℕ) (header : Header) (outcome : Option Fault) → IfSome mid.held (λ file. length file ≡ size) → IfSome mid.held (λ file. header ≡ header_of file) → xml_span_fault header (size / 1024 * 1020) ≡ outcome → IfSome mid.held (λ file. xml_span_fault (header_of file) (logical_size file) ≡ outcome)
place_told mid size header outcome long read is =
    told_both (λ file. length file ≡ size) (λ file. header ≡ header_of file) (λ file. xml_span_fault (header_of file) (logical_size file) ≡ outcome) mid.held
    (λ file same head. let by_file : xml_span_fault (header_of file) (logical_size file) ≡ xml_span_fault header (size / 1024 * 1020) = rw (← head, same) refl in by_file ∙ is) long read

pub no_place_fault : (found : Option Fault) (P : Type 0) → found ≡ None → IfSome found (λ _. P)
no_place_fault None P is = tt
no_place_fault (Some found) P is = absurd cc

-- page 0 is kept, so it isn't asked for again
pub kept_first : (kept : List ℕ) (low k : ℕ) → KeepsFirst kept → low ≤ k → k < max 1 low → is_kept kept k ≡ true
kept_first kept low k keeps from below = let first : k ≡ 0 = omega arith in subst (λ (n : ℕ). is_kept kept n ≡ true) (sym first) (keeps 0)

-- page 0, and then pages of the section
section_asked : (name : List ℕ) (old mid new : SourceView) (size : ℕ) (header : Header) (kept : List ℕ) → IsOpenedFile name old size header mid → KeepsFirst kept → xml_span_fault header (size / 1024 * 1020) ≡ None → AsksUnkept kept (xml_start header / 1020) (min (span_end (xml_start header) header.xml_length) (size / 1024)) mid new → AsksForText old new
section_asked name old mid new size header kept opened keeps placed asked =
    let low = xml_start header / 1020 in
    let high = min (span_end (xml_start header) header.xml_length) (size / 1024) in
    let unkept : AsksUnkept kept (max 1 low) high mid new = asks_unkept_from kept low (max 1 low) high mid new (λ k from below. kept_first kept low k keeps from below) asked in
    let rest = unkept.0 in
    let asks = unkept.3 in
    let is : new.size ≡ Some size = asks.same.size ∙ opened.size_is in
    let in_file : RisesWithin 1 (size / 1024) rest = rises_from_lower 1 (max 1 low) (size / 1024) rest (omega arith) (rises_to_higher (max 1 low) high (size / 1024) rest (omega arith) unkept.1) in
    let in_text : RisesWithin (max 1 low) (span_end (xml_start header) header.xml_length) rest = rises_to_higher (max 1 low) high (span_end (xml_start header) header.xml_length) rest (omega arith) unkept.1 in
    record {
      pages = 0 ∷ rest;
      asks = asks_on old.asked mid.asked new.asked (0 ∷ []) rest opened.asked asks.asked;
      stops = goes_on new (0 ∷ rest) size is opened.whole (told_here (λ file. opening_fault file ≡ None) mid.held new.held asks.same.held opened.sound);
      of_file = inr (subst (λ (s : Option ℕ). IfSome s (λ n. IsFirstAndThen 1 (n / 1024) (0 ∷ rest))) (sym is) (inr (rest, refl, in_file)));
      of_text = told_here (λ file. IsTextAsk (header_of file) (0 ∷ rest)) mid.held new.held asks.same.held
          (told_map (λ file. header ≡ header_of file) (λ file. IsTextAsk (header_of file) (0 ∷ rest)) mid.held
          (λ file head. subst (λ (h : Header). IsTextAsk h (0 ∷ rest)) head (inr (rest, refl, in_text)))
          opened.read);
      by_place = told_here (λ file. IfSome (xml_span_fault (header_of file) (logical_size file)) (λ _. length (0 ∷ rest) ≤ 1)) mid.held new.held asks.same.held
          (told_map (λ file. xml_span_fault (header_of file) (logical_size file) ≡ None) (λ file. IfSome (xml_span_fault (header_of file) (logical_size file)) (λ _. length (0 ∷ rest) ≤ 1)) mid.held
          (λ file none. no_place_fault (xml_span_fault (header_of file) (logical_size file)) (length (0 ∷ rest) ≤ 1) none)
          (place_told mid size header None opened.long opened.read placed));
    }

-- page 0 was asked for, and no other where the section has no place
pub text_asked : {S T : Type 0} (view : S → SourceView) (name : List ℕ) (old : SourceView) (before after : Reading S) (out out' : SinkView) (result : Result T RunFault) → IsOpenedFile name old before.length before.header (view before.source) → KeepsFirst before.kept → JudgesPlaceFirst before out result after out' → AsksForXml before (view before.source) (view after.source) → AsksForText old (view after.source)
text_asked {S} view name old before after out out' result opened keeps judged asked = elim (xml_span_fault before.header (before.length / 1024 * 1020)) as (λ (o : Option Fault). xml_span_fault before.header (before.length / 1024 * 1020) ≡ o → MatchOption o (IfErr result IsPastPlace) (λ found. (result ≡ Err (Refused found)) × (after ≡ before) × (out' ≡ out)) → AsksForText old (view after.source)) [
  | None ↦ λ none past. section_asked name old (view before.source) (view after.source) before.length before.header before.kept opened keeps none asked
  | Some found ↦ λ some refused. subst (λ (r : Reading S). AsksForText old (view r.source)) (sym refused.1) (first_asked old (view before.source) opened.asked (stops_at_first (view before.source) before.length opened.size_is opened.whole))
] refl judged

not_both : {T : Type 0} (result : Result T RunFault) (found : Fault) → result ≡ Err Memory → result ≡ Err (Refused found) → ⊥
not_both result found memory refused = cc

-- memory ran out, so the section has its place
pub placed : {S T : Type 0} (before after : Reading S) (out out' : SinkView) (result : Result T RunFault) → result ≡ Err Memory → JudgesPlaceFirst before out result after out' → xml_span_fault before.header (before.length / 1024 * 1020) ≡ None
placed before after out out' result is judged = elim (xml_span_fault before.header (before.length / 1024 * 1020)) as (λ (o : Option Fault). MatchOption o (IfErr result IsPastPlace) (λ found. (result ≡ Err (Refused found)) × (after ≡ before) × (out' ≡ out)) → o ≡ None) [
  | None ↦ λ past. refl
  | Some found ↦ λ refused. absurd (not_both result found is refused.0)
] judged

no_show_fault : (shown : Shown) (file : List ℕ) → opening_fault file ≡ None → HasNoFault shown file → HasNoShowFault shown file
no_show_fault shown file opens none found (inl early) = absurd cc
no_show_fault shown file opens none found (inr (before, late)) = none found late

-- What a text that is shown says of the file.
pub record IsShownFile (shown : Shown) (name : List ℕ) (old : SourceView) (text : List ℕ) (new : SourceView) : Type 0 where
  pub opens : OpensOnce old name new
  pub file : IsOpen old name new
  pub sound : IfSome new.held (HasNoShowFault shown)
  pub output : IfSome new.held (λ file. shown.is_output file text)

pub shown_file : (shown : Shown) (name : List ℕ) (old mid new : SourceView) (size : ℕ) (header : Header) (text rest : List ℕ) → IsOpenedFile name old size header mid → AsksFor mid rest new → ShowsText shown mid text → IsShownFile shown name old text new
shown_file shown name old mid new size header text rest opened asks shows =
    record {
      opens = opens_later opened.opens asks.same asks.faults;
      file = open_later old mid new name opened.file asks.same;
      sound = told_here (HasNoShowFault shown) mid.held new.held asks.same.held (told_both (λ file. opening_fault file ≡ None) (HasNoFault shown) (HasNoShowFault shown) mid.held (λ file sound none. no_show_fault shown file sound none) opened.sound shows.sound);
      output = told_here (λ file. shown.is_output file text) mid.held new.held asks.same.held shows.output;
    }

-- the text has a fault, or a call failed
pub failed : {S T : Type 0} (shown : Shown) (view : S → SourceView) (name : List ℕ) (old : SourceView) (before after : Reading S) (out out' : SinkView) (result : Result T RunFault) (fault : RunFault) → result ≡ Err fault → IsOpenedFile name old before.length before.header (view before.source) → AsksForXml before (view before.source) (view after.source) → JudgesPlaceFirst before out result after out' → AsksForText old (view after.source) → ShowEnds shown (view before.source) (view after.source) out out' (Some fault) → ReadsFile (show_answer shown) text_rule name old (view after.source) out out' (Failed fault)
failed shown view name old before after out out' result (Refused found) is opened asked judged pages (kind, first, nothing) =
    let asks = asked.3 in
    let mid = view before.source in
    let new = view after.source in
    record {
      pages = pages;
      answers = record {
        opens = opens_later opened.opens asks.same asks.faults;
        file = open_later old mid new name opened.file asks.same;
        first = told_here (λ file. IsShowFault shown file found) mid.held new.held asks.same.held (told_both (λ file. opening_fault file ≡ None) (λ file. shown.is_faulty file found) (λ file. IsShowFault shown file found) mid.held (λ file sound late. inr (sound, late)) opened.sound first);
        kind = other_kind (is_opening_kind found.kind) (shown.is_named found.kind) kind;
        nothing = nothing;
      };
    }
failed shown view name old before after out out' result Source is opened asked judged pages (cause, nothing) =
    let asks = asked.3 in
    record {
      pages = pages;
      answers = record { opens = opens_later opened.opens asks.same asks.faults; cause = rose_before old.faults (view before.source).faults (view after.source).faults opened.opens.faults cause; nothing = nothing };
    }
failed shown view name old before after out out' result Out is opened asked judged pages (text, shows, cause, wrote) =
    let file = shown_file shown name old (view before.source) (view after.source) before.length before.header text asked.0 opened asked.3 shows in
    record {
      pages = pages;
      answers = record { opens = file.opens; file = file.file; sound = file.sound; cause = cause; wrote = (text, file.output, wrote) };
    }
failed shown view name old before after out out' result Memory is opened asked judged pages nothing =
    let asks = asked.3 in
    let mid = view before.source in
    let new = view after.source in
    let place = place_told mid before.length before.header None opened.long opened.read (placed before after out out' result is judged) in
    record {
      pages = pages;
      answers = record {
        takes = refl;
        opens = opens_later opened.opens asks.same asks.faults;
        file = open_later old mid new name opened.file asks.same;
        whole = (before.length, asks.same.size ∙ opened.size_is, opened.whole);
        long = told_here HasTextPlace mid.held new.held asks.same.held (told_both (λ file. opening_fault file ≡ None) (λ file. xml_span_fault (header_of file) (logical_size file) ≡ None) HasTextPlace mid.held (λ file sound none. (sound, none)) opened.sound place);
        nothing = nothing;
      };
    }
failed shown view name old before after out out' result (Ask why) is opened asked judged pages never = absurd never
