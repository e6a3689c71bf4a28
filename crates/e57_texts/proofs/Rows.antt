-- Strings in a row, one after another.
use Rattle.std.proofs.Common.{◌≡◌, ℕ, ◌+◌, ◌-◌, ◌<◌, ◌≤◌, List, [], ◌++◌, length, drop, refl, sym, subst, ap, ◌∙◌, arith, ⊎_elim, append-nil}
use Rattle.std.specs.Prelude.{Ok, Err, IfSome}
use Rattle.std.proofs.lemmas.Bool.{cases_lt}
use Rattle.std.proofs.lemmas.List.{take-append-drop}
use Rattle.e57_base.proofs.CountLaws.{rose_before}
use Rattle.e57_base.specs.Source.{SourceView}
use Rattle.e57_base.proofs.Told.{told_map, told_both, told_here, told_all}
use Rattle.e57_base.specs.declared.fault.ReadFault.{ReadFault}
use Rattle.e57_base.specs.declared.fault.ReadFault.TheVariants.{Refused, Source}
use Rattle.e57_layout.specs.Values.{strings, word, octets}
use Rattle.e57_layout.specs.Strings.{StringRead, string_found, first_prefix, first_string, after_strings}
use Rattle.e57_layout.proofs.Laws.Strings.{after_strings-next}
use Rattle.e57_layout.proofs.Laws.Found.{StringStays, first_string-stays}
use Rattle.e57_stream.specs.declared.bytestream.Bytestream.{Bytestream}
use Rattle.e57_stream.specs.declared.chunk.Chunk.{Chunk}
use Rattle.e57_stream.specs.Asking.{AsksMet, AsksNear}
use Rattle.e57_stream.proofs.AskingLaws.{asks_met_none, asks_met_on, asks_met_map, asks_near_none, asks_near_on}
use Rattle.e57_stream.specs.Standing.{Reaches}
use Rattle.e57_stream.specs.Taking.{SamePlace}
use Rattle.e57_stream.specs.Reading.{chunk_item, IsMet}
use Rattle.e57_texts.specs.Standing.{IsWithinText, StandsText, StaysText}
use Rattle.e57_texts.specs.Pieces.{IsCut, TakesPiece, HasPrefix}
use Rattle.e57_texts.specs.Reading.{chunk_length, OnWay, AsksOnWay, IsNextCause, IsLengthCause, IsFitting, LacksText, begin_of, string_held, FillsTexts, ReadsTexts, IsTextCause, StopsStrings, SkipsStrings, StopsSkipping}
use Rattle.e57_texts.specs.Steps.{one_on, TakesText, SkipsText}
use Rattle.e57_texts.proofs.Lengths.{chunk_later}
use Rattle.e57_texts.proofs.Texts.{behind, begins_after, chunk_text, chunk_states, asks_on_way}

-- ---- one step

-- what any step keeps
pub record Steps (old : SourceView) (b : Bytestream) (before after : Chunk) (new : SourceView) : Type 0 where
  pub stays : StaysText b before after
  pub near : AsksNear before.taken after.taken old new
  pub way : AsksOnWay b before old new
  pub stands : IfSome old.held (λ file. StandsText file b before → StandsText file b after)

pub next_at : (s0 s1 : SourceView) (b : Bytestream) (before after : Chunk) (text : List ℕ) → TakesText s0 b before text after s1 → after.at ≡ before.at + 1
unfolding one_on
next_at s0 s1 b before after text f = ap (λ (chunk : Chunk). chunk.at) f.next ∙ ap (λ (a : ℕ). a + 1) f.takes.same.at

stands_mid : (file : List ℕ) (b : Bytestream) (before mid : Chunk) (bytes text : List ℕ) → before.start ≤ before.at → SamePlace before mid → first_string bytes ≡ string_found text [] → ((front : List ℕ) → Reaches file b before front → Reaches file b mid (front ++ bytes))
    → StandsText file b before → StandsText file b (one_on mid)
unfolding one_on
stands_mid file b before mid bytes text low same found on stands =
    let at = same.at in
    let start = same.start in
    let count : mid.at + 1 - mid.start ≡ (before.at - before.start) + 1 = omega (arith, at, start, low) in
    record {
      front = stands.front ++ bytes;
      reaches = on stands.front stands.reaches;
      strings = ap (λ (k : ℕ). after_strings k (stands.front ++ bytes)) count ∙ after_strings-next (before.at - before.start) (stands.front ++ bytes) bytes text [] (behind (before.at - before.start) stands.front bytes stands.strings) found;
    }

stays_mid : (b : Bytestream) (before mid : Chunk) → IsWithinText b.section before → before.at < before.until → SamePlace before mid → before.taken ≤ mid.taken → mid.taken ≤ b.section.end → StaysText b before (one_on mid)
unfolding one_on
stays_mid b before mid is left same onward within =
    let at = same.at in
    let start = same.start in
    let until = same.until in
    let low = is.low in
    let most = is.most in
    record {
      start = start;
      until = until;
      entry = same.entry;
      onward = onward;
      within = record { low = omega (arith, at, start, low); high = omega (arith, at, until, left); most = omega (arith, until, most); taken_within = within; whole = same.bit ∙ is.whole };
    }

steps_mid : (s0 s1 : SourceView) (b : Bytestream) (before mid : Chunk) (bytes text : List ℕ) → IsWithinText b.section before → before.at < before.until → first_string bytes ≡ string_found text [] → TakesPiece s0 b before IsCut bytes mid s1 → Steps s0 b before (one_on mid) s1
unfolding one_on
steps_mid s0 s1 b before mid bytes text is left found takes = record {
  stays = stays_mid b before mid is left takes.same takes.onward takes.within;
  near = takes.near;
  way = asks_on_way s0 s1 b before is.low takes.met;
  stands = told_map (λ file. (front : List ℕ) → Reaches file b before front → Reaches file b mid (front ++ bytes)) (λ file. StandsText file b before → StandsText file b (one_on mid)) s0.held
      (λ file on stands. stands_mid file b before mid bytes text is.low takes.same found on stands) takes.reaches;
}

-- a string was taken
pub steps_text : (s0 s1 : SourceView) (b : Bytestream) (before after : Chunk) (text : List ℕ) → IsWithinText b.section before → before.at < before.until → TakesText s0 b before text after s1 → Steps s0 b before after s1
steps_text s0 s1 b before after text is left f = subst (λ (chunk : Chunk). Steps s0 b before chunk s1) (sym f.next) (steps_mid s0 s1 b before f.mid f.bytes text is left f.found f.takes)

stays_same : (b : Bytestream) (before after : Chunk) → IsWithinText b.section before → SamePlace before after → before.taken ≤ after.taken → after.taken ≤ b.section.end → StaysText b before after
stays_same b before after is same onward within =
    let at = same.at in
    let start = same.start in
    let until = same.until in
    let low = is.low in
    let high = is.high in
    let most = is.most in
    record {
      start = start;
      until = until;
      entry = same.entry;
      onward = onward;
      within = record { low = omega (arith, at, start, low); high = omega (arith, at, until, high); most = omega (arith, until, most); taken_within = within; whole = same.bit ∙ is.whole };
    }

stands_same : (file : List ℕ) (b : Bytestream) (before after : Chunk) → SamePlace before after → ((front : List ℕ) → Reaches file b before front → Reaches file b after (front ++ [])) → StandsText file b before → StandsText file b after
stands_same file b before after same on stands =
    let at = same.at in
    let start = same.start in
    let count : after.at - after.start ≡ before.at - before.start = omega (arith, at, start) in
    record {
      front = stands.front;
      reaches = subst (λ (xs : List ℕ). Reaches file b after xs) (append-nil stands.front) (on stands.front stands.reaches);
      strings = ap (λ (k : ℕ). after_strings k stands.front) count ∙ stands.strings;
    }

-- a prefix was looked at
pub steps_prefix : (s0 s1 : SourceView) (b : Bytestream) (before after : Chunk) → IsWithinText b.section before → TakesPiece s0 b before IsCut [] after s1 → Steps s0 b before after s1
steps_prefix s0 s1 b before after is takes = record {
  stays = stays_same b before after is takes.same takes.onward takes.within;
  near = takes.near;
  way = asks_on_way s0 s1 b before is.low takes.met;
  stands = told_map (λ file. (front : List ℕ) → Reaches file b before front → Reaches file b after (front ++ [])) (λ file. StandsText file b before → StandsText file b after) s0.held
      (λ file on stands. stands_same file b before after takes.same on stands) takes.reaches;
}

-- ---- what the string is

text_there : (file : List ℕ) (b : Bytestream) (before mid : Chunk) (bytes text : List ℕ) → SamePlace before mid → first_string bytes ≡ string_found text [] → ((front : List ℕ) → Reaches file b before front → Reaches file b mid (front ++ bytes)) → StandsText file b before
    → chunk_item file b strings before before.at ≡ Ok (octets text)
text_there file b before mid bytes text same found on stands =
    let longer : first_string (bytes ++ mid.window) ≡ string_found text ([] ++ mid.window) = subst (λ (s : StringRead). StringStays mid.window s (first_string (bytes ++ mid.window))) found (first_string-stays bytes mid.window) in
    chunk_text file b before (bytes ++ mid.window) text ([] ++ mid.window) (begins_after file b before mid bytes same on stands) longer

pub text_item : (s0 s1 : SourceView) (b : Bytestream) (before after : Chunk) (text : List ℕ) → TakesText s0 b before text after s1 → IfSome s0.held (λ file. StandsText file b before → chunk_item file b strings before before.at ≡ Ok (octets text))
text_item s0 s1 b before after text f =
    told_map (λ file. (front : List ℕ) → Reaches file b before front → Reaches file b f.mid (front ++ f.bytes)) (λ file. StandsText file b before → chunk_item file b strings before before.at ≡ Ok (octets text)) s0.held
    (λ file on stands. text_there file b before f.mid f.bytes text f.takes.same f.found on stands) f.takes.reaches

pub prefix_length : (s0 s1 : SourceView) (b : Bytestream) (before after : Chunk) (n size : ℕ) → HasPrefix s0 b before n size after s1 → IfSome s0.held (λ file. StandsText file b before → chunk_length file b before before.at ≡ Ok (word n))
prefix_length s0 s1 b before after n size f =
    let begin = ap first_prefix (sym (take-append-drop size after.window)) ∙ f.states.stated (drop size after.window) in
    told_map (λ file. (front : List ℕ) → Reaches file b before front → Reaches file b after (front ++ [])) (λ file. StandsText file b before → chunk_length file b before before.at ≡ Ok (word n)) s0.held
    (λ file on stands. chunk_states file b before after.window n (drop size after.window) (begins_after file b before after [] f.takes.same on stands) begin) f.takes.reaches

-- ---- step after step

pub stays_on : (b : Bytestream) (first second third : Chunk) → StaysText b first second → StaysText b second third → StaysText b first third
stays_on b first second third f g =
    let on = f.onward in
    let too = g.onward in
    record { start = g.start ∙ f.start; until = g.until ∙ f.until; entry = g.entry ∙ f.entry; onward = omega (arith, on, too); within = g.within }

pub same_way : (file : List ℕ) (b : Bytestream) (first second : Chunk) (i p : ℕ) → StaysText b first second → OnWay file b second i p → OnWay file b first i p
same_way file b first second i p stays way = rw (stays.start, stays.entry) at way

pub same_item : (file : List ℕ) (b : Bytestream) (first second : Chunk) (i : ℕ) → StaysText b first second → chunk_item file b strings second i ≡ chunk_item file b strings first i
same_item file b first second i stays = rw (stays.start, stays.until, stays.entry) refl

pub same_length : (file : List ℕ) (b : Bytestream) (first second : Chunk) (i : ℕ) → StaysText b first second → chunk_length file b second i ≡ chunk_length file b first i
same_length file b first second i stays = rw (stays.start, stays.until, stays.entry) refl

stands_on : (s0 s1 : SourceView) (b : Bytestream) (first second third : Chunk) → s1.held ≡ s0.held → IfSome s0.held (λ file. StandsText file b first → StandsText file b second) → IfSome s1.held (λ file. StandsText file b second → StandsText file b third)
    → IfSome s0.held (λ file. StandsText file b first → StandsText file b third)
stands_on s0 s1 b first second third held f g =
    told_both (λ file. StandsText file b first → StandsText file b second) (λ file. StandsText file b second → StandsText file b third) (λ file. StandsText file b first → StandsText file b third) s0.held
    (λ file one two stands. two (one stands)) f (told_here (λ file. StandsText file b second → StandsText file b third) s1.held s0.held (sym held) g)

-- ---- skipping

-- the strings before the next record were skipped, on the way to record i
pub record Passes (old : SourceView) (b : Bytestream) (before : Chunk) (i : ℕ) (after : Chunk) (new : SourceView) : Type 0 where
  pub stays : StaysText b before after
  pub reached : after.at ≤ i
  pub near : AsksNear before.taken after.taken old new
  pub met : AsksMet (λ file p. StandsText file b before → OnWay file b before i p) old new
  pub stands : IfSome old.held (λ file. StandsText file b before → StandsText file b after)

pub stays_here : (b : Bytestream) (chunk : Chunk) → IsWithinText b.section chunk → StaysText b chunk chunk
stays_here b chunk is = record { start = refl; until = refl; entry = refl; onward = omega arith; within = is }

pub passes_none : (source : SourceView) (b : Bytestream) (chunk : Chunk) (i : ℕ) → IsWithinText b.section chunk → chunk.at ≤ i → Passes source b chunk i chunk source
passes_none source b chunk i is reached = record {
  stays = stays_here b chunk is;
  reached = reached;
  near = asks_near_none chunk.taken source;
  met = asks_met_none (λ file p. StandsText file b chunk → OnWay file b chunk i p) source;
  stands = told_all (λ file. StandsText file b chunk → StandsText file b chunk) source.held (λ file stands. stands);
}

way_on : (s0 s1 s2 : SourceView) (b : Bytestream) (first second : Chunk) (i : ℕ) → second.at ≤ i → s1.held ≡ s0.held → StaysText b first second → IfSome s0.held (λ file. StandsText file b first → StandsText file b second) → AsksOnWay b second s1 s2
    → AsksMet (λ file p. StandsText file b first → OnWay file b first i p) s1 s2
way_on s0 s1 s2 b first second i near held stays stands way =
    asks_met_map (λ file p. StandsText file b second → (j : ℕ) → second.at ≤ j → OnWay file b second j p) (λ file p. StandsText file b first → OnWay file b first i p) s1 s2
    (told_map (λ file. StandsText file b first → StandsText file b second) (λ file. (p : ℕ) → (StandsText file b second → (j : ℕ) → second.at ≤ j → OnWay file b second j p) → StandsText file b first → OnWay file b first i p) s1.held
    (λ file on p each is. same_way file b first second i p stays (each (on is) i near))
    (told_here (λ file. StandsText file b first → StandsText file b second) s0.held s1.held held stands))
    way

pub passes_more : (s0 s1 s2 : SourceView) (b : Bytestream) (first second third : Chunk) (i : ℕ) → second.at < i → i < first.until → Passes s0 b first i second s1 → SkipsText s1 b second third s2 → Passes s0 b first i third s2
passes_more s0 s1 s2 b first second third i near high f g =
    let until = f.stays.until in
    let step = steps_text s1 s2 b second third g.text f.stays.within (omega (arith, near, high, until)) g.takes in
    let at = next_at s1 s2 b second third g.text g.takes in
    let held = f.near.asks.same.held in
    record {
      stays = stays_on b first second third f.stays step.stays;
      reached = omega (arith, at, near);
      near = asks_near_on first.taken second.taken third.taken s0 s1 s2 f.stays.onward step.stays.onward f.near step.near;
      met = asks_met_on (λ file p. StandsText file b first → OnWay file b first i p) s0 s1 s2 f.met (way_on s0 s1 s2 b first second i (omega (arith, near)) held f.stays f.stands step.way);
      stands = stands_on s0 s1 b first second third held f.stands step.stands;
    }

pub passes_all : (s0 s1 : SourceView) (b : Bytestream) (first second : Chunk) (i : ℕ) → i ≤ second.at → Passes s0 b first i second s1 → SkipsStrings s0 b first i second s1
passes_all s0 s1 b first second i past f = let reached = f.reached in record { stays = f.stays; at = omega (arith, past, reached); near = f.near; met = f.met; stands = f.stands }

cause_on : (s0 s1 s2 : SourceView) (b : Bytestream) (first second : Chunk) (i : ℕ) (found : ReadFault) → second.at ≤ i → s1.held ≡ s0.held → s0.faults ≤ s1.faults → StaysText b first second → IfSome s0.held (λ file. StandsText file b first → StandsText file b second)
    → IsNextCause s1 b second found s2 → IsTextCause s0 b first i found s2
cause_on s0 s1 s2 b first second i (Refused found) near held faults stays stands cause = (
  cause.0,
  told_both (λ file. StandsText file b first → StandsText file b second) (λ file. StandsText file b second → (j : ℕ) → second.at ≤ j → chunk_item file b strings second j ≡ Err found) (λ file. StandsText file b first → chunk_item file b strings first i ≡ Err found) s0.held
      (λ file on wrong is. sym (same_item file b first second i stays) ∙ wrong (on is) i near) stands
      (told_here (λ file. StandsText file b second → (j : ℕ) → second.at ≤ j → chunk_item file b strings second j ≡ Err found) s1.held s0.held (sym held) cause.1),
)
cause_on s0 s1 s2 b first second i Source near held faults stays stands cause = rose_before s0.faults s1.faults s2.faults faults cause

later_cause : (s0 s1 s2 : SourceView) (b : Bytestream) (first second : Chunk) (i : ℕ) (found : ReadFault) → second.at < i → s1.held ≡ s0.held → StaysText b first second → IfSome s0.held (λ file. StandsText file b first → StandsText file b second)
    → IsNextCause s1 b second found s2 → IsLengthCause s0 b first i found
later_cause s0 s1 s2 b first second i (Refused found) near held stays stands cause =
    told_both (λ file. StandsText file b first → StandsText file b second) (λ file. StandsText file b second → (j : ℕ) → second.at ≤ j → chunk_item file b strings second j ≡ Err found) (λ file. StandsText file b first → chunk_length file b first i ≡ Err found) s0.held
    (λ file on wrong is. sym (same_length file b first second i stays) ∙ chunk_later file b second second.at i found stays.within.low near (wrong (on is) second.at (omega arith))) stands
    (told_here (λ file. StandsText file b second → (j : ℕ) → second.at ≤ j → chunk_item file b strings second j ≡ Err found) s1.held s0.held (sym held) cause.1)
later_cause s0 s1 s2 b first second i Source near held stays stands cause = tt

pub passes_stop : (s0 s1 s2 : SourceView) (b : Bytestream) (first second third : Chunk) (i : ℕ) (found : ReadFault) → second.at < i → Passes s0 b first i second s1 → LacksText s1 b second found third s2 → StopsSkipping s0 b first i found third s2
passes_stop s0 s1 s2 b first second third i found near f g =
    let held = f.near.asks.same.held in
    record {
      stays = stays_on b first second third f.stays (stays_same b second third f.stays.within g.same g.onward g.within);
      met = asks_met_on (λ file p. StandsText file b first → OnWay file b first i p) s0 s1 s2 f.met (way_on s0 s1 s2 b first second i (omega (arith, near)) held f.stays f.stands g.met);
      cause = cause_on s0 s1 s2 b first second i found (omega (arith, near)) held f.near.asks.faults f.stays f.stands g.cause;
      length = later_cause s0 s1 s2 b first second i found near held f.stays f.stands g.cause;
    }

-- ---- reading

met_more : (file : List ℕ) (b : Bytestream) (chunk : Chunk) (a n m p : ℕ) → n ≤ m → IsMet file b strings chunk a n p → IsMet file b strings chunk a m p
met_more file b chunk a n m p most met = let below = met.before in record { i = met.i; after = met.after; before = omega (arith, below, most); way = met.way }

-- pages that a step asked for, behind those for n records
met_on : (s0 s1 s2 : SourceView) (b : Bytestream) (first second : Chunk) (n : ℕ) → second.at ≡ first.at + n → s1.held ≡ s0.held → StaysText b first second → IfSome s0.held (λ file. StandsText file b first → StandsText file b second)
    → AsksMet (λ file p. StandsText file b first → IsMet file b strings first first.at n p) s0 s1 → AsksOnWay b second s1 s2 → AsksMet (λ file p. StandsText file b first → IsMet file b strings first first.at (n + 1) p) s0 s2
met_on s0 s1 s2 b first second n at held stays stands met way =
    asks_met_on (λ file p. StandsText file b first → IsMet file b strings first first.at (n + 1) p) s0 s1 s2
    (asks_met_map (λ file p. StandsText file b first → IsMet file b strings first first.at n p) (λ file p. StandsText file b first → IsMet file b strings first first.at (n + 1) p) s0 s1
    (told_all (λ file. (p : ℕ) → (StandsText file b first → IsMet file b strings first first.at n p) → StandsText file b first → IsMet file b strings first first.at (n + 1) p) s0.held
    (λ file p is_met is. met_more file b first first.at n (n + 1) p (omega arith) (is_met is)))
    met)
    (asks_met_map (λ file p. StandsText file b first → OnWay file b first second.at p) (λ file p. StandsText file b first → IsMet file b strings first first.at (n + 1) p) s1 s2
    (told_all (λ file. (p : ℕ) → (StandsText file b first → OnWay file b first second.at p) → StandsText file b first → IsMet file b strings first first.at (n + 1) p) s1.held
    (λ file p on is. record { i = second.at; after = omega (arith, at); before = omega (arith, at); way = on is }))
    (way_on s0 s1 s2 b first second second.at (omega arith) held stays stands way))

items_more : (file : List ℕ) (b : Bytestream) (first second : Chunk) (n : ℕ) (read read' : ℕ → List ℕ) (text : List ℕ) → second.at ≡ first.at + n → StaysText b first second → ((j : ℕ) → j < n → read j ≡ read' j) → text ≡ read' n
    → ((j : ℕ) → j < n → chunk_item file b strings first (first.at + j) ≡ Ok (octets (read j))) → chunk_item file b strings second second.at ≡ Ok (octets text)
    → (j : ℕ) → j < n + 1 → chunk_item file b strings first (first.at + j) ≡ Ok (octets (read' j))
items_more file b first second n read read' text at stays same last items item j below =
    ⊎_elim
    (λ (early : j < n). items j early ∙ ap (λ (xs : List ℕ). Ok (octets xs)) (same j early))
    (λ (late : n ≤ j).
    let place : n ≡ j = omega (arith, late, below) in
    let number : first.at + j ≡ second.at = omega (arith, place, at) in
    ap (chunk_item file b strings first) number ∙ sym (same_item file b first second second.at stays) ∙ item ∙ ap (λ (xs : List ℕ). Ok (octets xs)) (last ∙ ap read' place))
    (cases_lt j n)

-- some strings, and then one more
pub reads_more : (s0 s1 s2 : SourceView) (b : Bytestream) (first second third : Chunk) (n : ℕ) (read read' : ℕ → List ℕ) (text : List ℕ) → second.at < second.until → ((j : ℕ) → j < n → read j ≡ read' j) → text ≡ read' n
    → ReadsTexts s0 b first n n read second s1 → TakesText s1 b second text third s2 → ReadsTexts s0 b first (n + 1) (n + 1) read' third s2
reads_more s0 s1 s2 b first second third n read read' text left same last f g =
    let step = steps_text s1 s2 b second third text f.stays.within left g in
    let at = f.at in
    let at_too = next_at s1 s2 b second third text g in
    let held = f.near.asks.same.held in
    record {
      stays = stays_on b first second third f.stays step.stays;
      at = omega (arith, at, at_too);
      near = asks_near_on first.taken second.taken third.taken s0 s1 s2 f.stays.onward step.stays.onward f.near step.near;
      met = met_on s0 s1 s2 b first second n at held f.stays f.stands f.met step.way;
      items = told_both (λ file. (StandsText file b first → (j : ℕ) → j < n → chunk_item file b strings first (first.at + j) ≡ Ok (octets (read j))) × (StandsText file b first → StandsText file b second))
          (λ file. StandsText file b second → chunk_item file b strings second second.at ≡ Ok (octets text))
          (λ file. StandsText file b first → (j : ℕ) → j < n + 1 → chunk_item file b strings first (first.at + j) ≡ Ok (octets (read' j))) s0.held
          (λ file one two is. items_more file b first second n read read' text at f.stays same last (one.0 is) (two (one.1 is)))
          (told_both (λ file. StandsText file b first → (j : ℕ) → j < n → chunk_item file b strings first (first.at + j) ≡ Ok (octets (read j))) (λ file. StandsText file b first → StandsText file b second)
          (λ file. (StandsText file b first → (j : ℕ) → j < n → chunk_item file b strings first (first.at + j) ≡ Ok (octets (read j))) × (StandsText file b first → StandsText file b second)) s0.held (λ file x y. (x, y)) f.items f.stands)
          (told_here (λ file. StandsText file b second → chunk_item file b strings second second.at ≡ Ok (octets text)) s1.held s0.held (sym held) (text_item s1 s2 b second third text g));
      stands = stands_on s0 s1 b first second third held f.stands step.stands;
    }

pub reads_none : (source : SourceView) (b : Bytestream) (chunk : Chunk) (read : ℕ → List ℕ) → IsWithinText b.section chunk → ReadsTexts source b chunk 0 0 read chunk source
reads_none source b chunk read is = record {
  stays = stays_here b chunk is;
  at = omega arith;
  near = asks_near_none chunk.taken source;
  met = asks_met_none (λ file p. StandsText file b chunk → IsMet file b strings chunk chunk.at 0 p) source;
  items = told_all (λ file. StandsText file b chunk → (j : ℕ) → j < 0 → chunk_item file b strings chunk (chunk.at + j) ≡ Ok (octets (read j))) source.held (λ file stands j below. absurd (omega (arith, below)));
  stands = told_all (λ file. StandsText file b chunk → StandsText file b chunk) source.held (λ file stands. stands);
}

-- some strings, and then the length of the next one
pub reads_looked : (s0 s1 s2 : SourceView) (b : Bytestream) (first second third : Chunk) (n k size : ℕ) (read : ℕ → List ℕ) → ReadsTexts s0 b first n n read second s1 → HasPrefix s1 b second k size third s2 → ReadsTexts s0 b first n (n + 1) read third s2
reads_looked s0 s1 s2 b first second third n k size read f g =
    let step = steps_prefix s1 s2 b second third f.stays.within g.takes in
    let held = f.near.asks.same.held in
    record {
      stays = stays_on b first second third f.stays step.stays;
      at = g.takes.same.at ∙ f.at;
      near = asks_near_on first.taken second.taken third.taken s0 s1 s2 f.stays.onward step.stays.onward f.near step.near;
      met = met_on s0 s1 s2 b first second n f.at held f.stays f.stands f.met step.way;
      items = f.items;
      stands = stands_on s0 s1 b first second third held f.stands step.stands;
    }

length_there : (file : List ℕ) (b : Bytestream) (first second : Chunk) (n k : ℕ) → second.at ≡ first.at + n → StaysText b first second → chunk_length file b second second.at ≡ Ok (word k) → chunk_length file b first (first.at + n) ≡ Ok (word k)
length_there file b first second n k at stays is = ap (chunk_length file b first) (sym at) ∙ sym (same_length file b first second second.at stays) ∙ is

pub looked_length : (s0 s1 s2 : SourceView) (b : Bytestream) (first second third : Chunk) (n k size : ℕ) (read : ℕ → List ℕ) → ReadsTexts s0 b first n n read second s1 → HasPrefix s1 b second k size third s2
    → IfSome s0.held (λ file. StandsText file b first → chunk_length file b first (first.at + n) ≡ Ok (word k))
looked_length s0 s1 s2 b first second third n k size read f g =
    told_both (λ file. StandsText file b first → StandsText file b second) (λ file. StandsText file b second → chunk_length file b second second.at ≡ Ok (word k)) (λ file. StandsText file b first → chunk_length file b first (first.at + n) ≡ Ok (word k)) s0.held
    (λ file on is stands. length_there file b first second n k f.at f.stays (is (on stands))) f.stands
    (told_here (λ file. StandsText file b second → chunk_length file b second second.at ≡ Ok (word k)) s1.held s0.held (sym f.near.asks.same.held) (prefix_length s1 s2 b second third k size g))

fits_on : (s0 s1 : SourceView) (b : Bytestream) (first second : Chunk) (n left left' : ℕ) (found : ReadFault) → second.at ≡ first.at + n → left ≡ left' → s1.held ≡ s0.held → StaysText b first second → IfSome s0.held (λ file. StandsText file b first → StandsText file b second)
    → IsFitting s1 b second second.at left found → IsFitting s0 b first (first.at + n) left' found
fits_on s0 s1 b first second n left left' (Refused found) at room held stays stands fits =
    told_both (λ file. StandsText file b first → StandsText file b second) (λ file. StandsText file b second → (k : ℕ) → chunk_length file b second second.at ≡ Ok (word k) → k ≤ left)
    (λ file. StandsText file b first → (k : ℕ) → chunk_length file b first (first.at + n) ≡ Ok (word k) → k ≤ left') s0.held
    (λ file on most is k long. subst (λ (l : ℕ). k ≤ l) room (most (on is) k (same_length file b first second second.at stays ∙ ap (chunk_length file b first) at ∙ long))) stands
    (told_here (λ file. StandsText file b second → (k : ℕ) → chunk_length file b second second.at ≡ Ok (word k) → k ≤ left) s1.held s0.held (sym held) fits)
fits_on s0 s1 b first second n left left' Source at room held stays stands fits = tt

-- some strings, and then a stop
pub stops_at : (s0 s1 s2 : SourceView) (b : Bytestream) (first second third : Chunk) (want filled n left : ℕ) (found : ReadFault) (bytes bytes' ends ends' : List ℕ) → n < want → FillsTexts filled n bytes bytes' ends ends'
    → ReadsTexts s0 b first n n (string_held filled bytes' ends') second s1 → LacksText s1 b second found third s2 → left ≡ length bytes' - begin_of filled ends' n → IsFitting s1 b second second.at left found → StopsStrings s0 b first want filled n found bytes bytes' ends ends' third s2
stops_at s0 s1 s2 b first second third want filled n left found bytes bytes' ends ends' below fills f g room fits =
    let held = f.near.asks.same.held in
    let at = f.at in
    record {
      below = below;
      fills = fills;
      stays = stays_on b first second third f.stays (stays_same b second third f.stays.within g.same g.onward g.within);
      met = met_on s0 s1 s2 b first second n at held f.stays f.stands f.met g.met;
      items = f.items;
      cause = cause_on s0 s1 s2 b first second (first.at + n) found (omega (arith, at)) held f.near.asks.faults f.stays f.stands g.cause;
      fits = fits_on s0 s1 b first second n left (length bytes' - begin_of filled ends' n) found at room held f.stays f.stands fits;
    }

-- the same strings in another buffer
pub reads_same : (s0 s1 : SourceView) (b : Bytestream) (first second : Chunk) (n m : ℕ) (read read' : ℕ → List ℕ) → ((j : ℕ) → j < n → read j ≡ read' j) → ReadsTexts s0 b first n m read second s1 → ReadsTexts s0 b first n m read' second s1
reads_same s0 s1 b first second n m read read' same f = record {
  stays = f.stays;
  at = f.at;
  near = f.near;
  met = f.met;
  items = told_map (λ file. StandsText file b first → (j : ℕ) → j < n → chunk_item file b strings first (first.at + j) ≡ Ok (octets (read j))) (λ file. StandsText file b first → (j : ℕ) → j < n → chunk_item file b strings first (first.at + j) ≡ Ok (octets (read' j))) s0.held
      (λ file items stands j below. items stands j below ∙ ap (λ (xs : List ℕ). Ok (octets xs)) (same j below)) f.items;
  stands = f.stands;
}
