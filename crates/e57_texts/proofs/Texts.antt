-- Strings of a chunk.
use Rattle.std.proofs.Common.{◌≡◌, ℕ, zero, suc, ◌+◌, ◌-◌, ◌≤◌, Bool, true, if◌then◌else◌, List, [], ◌++◌, length, take, drop, refl, sym, subst, ap, ap₂, ◌∙◌, arith, append_assoc}
use Rattle.std.specs.Prelude.{Some, Ok, Err}
use Rattle.std.proofs.lemmas.Bool.{lt-ltb, le-ltb}
use Rattle.std.proofs.lemmas.List.{take_all, drop_all}
use Rattle.e57_base.specs.Fault.{fault}
use Rattle.e57_base.specs.Source.{SourceView}
use Rattle.e57_base.proofs.Told.{told_map, told_all}
use Rattle.e57_base.specs.declared.fault.Fault.{Fault}
use Rattle.e57_base.specs.declared.fault.ReadFault.{ReadFault}
use Rattle.e57_base.specs.declared.fault.ReadFault.TheVariants.{Refused, Source}
use Rattle.e57_base.specs.declared.kind.Kind.{Kind}
use Rattle.e57_base.specs.declared.kind.Kind.TheVariants.{StreamShort, StringLimit}
use Rattle.e57_layout.specs.Values.{strings, word, octets, here, short, over_limit}
use Rattle.e57_layout.specs.Items.{item_at}
use Rattle.e57_layout.specs.Strings.{PrefixRead, prefix_found, prefix_too_long, prefix_cut_off, first_prefix, StringRead, string_found, string_too_long, string_cut_off, after_prefix, first_string, on_string, string_at, on_prefix, string_length_at, after_strings}
use Rattle.e57_layout.proofs.Laws.Strings.{string_at-zero, string_at-suc, string_length_at-zero, after_strings-at, after_strings-length_at, after_strings-stays}
use Rattle.e57_layout.proofs.Laws.Found.{PrefixStays, first_prefix-stays, StringStays, first_string-stays}
use Rattle.e57_cloud.specs.Met.{lacks_item}
use Rattle.e57_cloud.specs.PathItem.{stretch, ended_by, or_short, item_in}
use Rattle.e57_stream.specs.declared.bytestream.Bytestream.{Bytestream}
use Rattle.e57_stream.specs.declared.chunk.Chunk.{Chunk}
use Rattle.e57_stream.specs.Asking.{AsksMet}
use Rattle.e57_stream.proofs.AskingLaws.{asks_met_map}
use Rattle.e57_stream.specs.Standing.{HasTaken, Reaches}
use Rattle.e57_stream.proofs.StandingLaws.{taken_first}
use Rattle.e57_stream.specs.Taking.{is_walk_kind, SamePlace, Finishes}
use Rattle.e57_stream.specs.Reading.{chunk_item}
use Rattle.e57_texts.specs.Standing.{StandsText}
use Rattle.e57_texts.specs.Pieces.{IsCut, IsFewer, IsAsked, TakesPiece, EndsWanting, IsPieceCause, LacksPiece}
use Rattle.e57_texts.specs.Reading.{chunk_length, limit_at, is_text_kind, OnWay, AsksOnWay, IsNextCause, LacksText}

-- ---- strings behind strings

cut_at : (done : ℕ) (rest : List ℕ) (j : ℕ) → IsCut rest → string_at done rest j ≡ short done
cut_at done rest zero e = string_at-zero done rest ∙ ap (on_string done (λ t later. here (octets t))) e
cut_at done rest (suc j) e = string_at-suc done rest j ∙ ap (on_string done (λ t later. string_at (done + 1) later j)) e

over_at : (done : ℕ) (rest : List ℕ) (j : ℕ) → first_string rest ≡ string_too_long → string_at done rest j ≡ over_limit done
over_at done rest zero e = string_at-zero done rest ∙ ap (on_string done (λ t later. here (octets t))) e
over_at done rest (suc j) e = string_at-suc done rest j ∙ ap (on_string done (λ t later. string_at (done + 1) later j)) e

pub behind : (k : ℕ) (front more : List ℕ) → after_strings k front ≡ Some [] → after_strings k (front ++ more) ≡ Some more
behind k front more h = after_strings-stays k front [] more h

item_behind : (k m : ℕ) (front more : List ℕ) → after_strings k front ≡ Some [] → k ≤ m → item_at strings (front ++ more) m ≡ string_at k more (m - k)
unfolding item_at
item_behind k m front more h le =
    let e : k + (m - k) ≡ m = omega (arith, le) in
    let z : 0 + k ≡ k = omega arith in
    ap (string_at 0 (front ++ more)) (sym e) ∙ after_strings-at k 0 (front ++ more) more (m - k) (behind k front more h) ∙ ap (λ (d : ℕ). string_at d more (m - k)) z

pub cut_item : (k m : ℕ) (front more : List ℕ) → after_strings k front ≡ Some [] → k ≤ m → IsCut more → item_at strings (front ++ more) m ≡ short k
cut_item k m front more h le e = item_behind k m front more h le ∙ cut_at k more (m - k) e

over_item : (k m : ℕ) (front more : List ℕ) → after_strings k front ≡ Some [] → k ≤ m → first_string more ≡ string_too_long → item_at strings (front ++ more) m ≡ over_limit k
over_item k m front more h le e = item_behind k m front more h le ∙ over_at k more (m - k) e

here_item : (k : ℕ) (front more text rest : List ℕ) → after_strings k front ≡ Some [] → first_string more ≡ string_found text rest → item_at strings (front ++ more) k ≡ here (octets text)
here_item k front more text rest h e =
    let z : k - k ≡ 0 = omega arith in
    item_behind k k front more h (omega arith) ∙ ap (λ (j : ℕ). string_at k more j) z ∙ string_at-zero k more ∙ ap (on_string k (λ t later. here (octets t))) e

length_item : (k : ℕ) (front more : List ℕ) (n : ℕ) (rest : List ℕ) → after_strings k front ≡ Some [] → first_prefix more ≡ prefix_found n rest → string_length_at 0 (front ++ more) k ≡ here (word n)
length_item k front more n rest h e =
    let none : k + 0 ≡ k = omega arith in
    let z : 0 + k ≡ k = omega arith in
    ap (string_length_at 0 (front ++ more)) (sym none) ∙ after_strings-length_at k 0 (front ++ more) more 0 (behind k front more h) ∙ string_length_at-zero (0 + k) more ∙ ap (on_prefix (0 + k)) e

-- ---- the first string by its prefix

pub cut_prefix : (bytes : List ℕ) → first_prefix bytes ≡ prefix_cut_off → IsCut bytes
unfolding first_string
cut_prefix bytes e = ap after_prefix e

over_prefix : (bytes : List ℕ) → first_prefix bytes ≡ prefix_too_long → first_string bytes ≡ string_too_long
unfolding first_string
over_prefix bytes e = ap after_prefix e

-- where a string's bytes aren't all there
pub cut_behind : (bytes more : List ℕ) (n : ℕ) → first_prefix (bytes ++ more) ≡ prefix_found n more → IsFewer n more → IsCut (bytes ++ more)
unfolding first_string
cut_behind bytes more n e few = ap after_prefix e ∙ ap (λ (t : Bool). if t then string_cut_off else string_found (take n more) (drop n more)) (lt-ltb (length more) n few)

-- and where they are
pub found_behind : (bytes text : List ℕ) (n : ℕ) → first_prefix (bytes ++ text) ≡ prefix_found n text → length text ≡ n → first_string (bytes ++ text) ≡ string_found text []
unfolding first_string
found_behind bytes text n e size =
    ap after_prefix e
    ∙ ap (λ (t : Bool). if t then string_cut_off else string_found (take n text) (drop n text)) (le-ltb (length text) n (omega (arith, size)))
    ∙ ap₂ string_found (take_all n text (omega (arith, size))) (drop_all n text (omega (arith, size)))

-- ---- items of the chunk

-- where the stream of the chunk ends within the next string, this is what is answered for it and all later ones
chunk_cut : (file : List ℕ) (b : Bytestream) (chunk : Chunk) (bytes : List ℕ) (found : Fault) (i : ℕ) → chunk.start ≤ chunk.at → Finishes file b chunk.entry chunk.at bytes found → item_at strings bytes (i - chunk.start) ≡ short (chunk.at - chunk.start) → chunk_item file b strings chunk i ≡ Err found
unfolding item_in
chunk_cut file b chunk bytes found i low finishes is =
    let number : chunk.start + (chunk.at - chunk.start) ≡ chunk.at = omega arith in
    rw (finishes.stream, is) (ap (λ (n : ℕ). or_short (ended_by b.section b.fixed (stretch file b.section chunk.entry)) (fault StreamShort n b.node)) number ∙ finishes.cause)

-- the strings before are there, and then bytes of which more follow
pub record Begins (file : List ℕ) (b : Bytestream) (chunk : Chunk) (more : List ℕ) : Type 0 where
  pub front : List ℕ
  pub taken : ℕ
  pub fresh : Bool
  pub strings : after_strings (chunk.at - chunk.start) front ≡ Some []
  pub has : HasTaken file b chunk.entry taken fresh (front ++ more)

chunk_over : (file : List ℕ) (b : Bytestream) (chunk : Chunk) (more : List ℕ) (i : ℕ) → chunk.start ≤ chunk.at → chunk.at ≤ i → Begins file b chunk more → first_string more ≡ string_too_long → chunk_item file b strings chunk i ≡ Err (limit_at b chunk.at)
unfolding item_in
chunk_over file b chunk more i low above begins is =
    let (later, all) = taken_first file b chunk.entry begins.taken begins.fresh (begins.front ++ more) begins.has in
    let number : chunk.start + (chunk.at - chunk.start) ≡ chunk.at = omega arith in
    let longer : first_string (more ++ later) ≡ string_too_long = subst (λ (s : StringRead). StringStays later s (first_string (more ++ later))) is (first_string-stays more later) in
    let item : item_at strings (begins.front ++ (more ++ later)) (i - chunk.start) ≡ over_limit (chunk.at - chunk.start) = over_item (chunk.at - chunk.start) (i - chunk.start) begins.front (more ++ later) begins.strings (omega (arith, above)) longer in
    rw (all, append_assoc begins.front more later, item) (ap (λ (n : ℕ). Err (fault StringLimit n b.node)) number)

pub chunk_text : (file : List ℕ) (b : Bytestream) (chunk : Chunk) (more text rest : List ℕ) → Begins file b chunk more → first_string more ≡ string_found text rest → chunk_item file b strings chunk chunk.at ≡ Ok (octets text)
unfolding item_in
chunk_text file b chunk more text rest begins is =
    let (later, all) = taken_first file b chunk.entry begins.taken begins.fresh (begins.front ++ more) begins.has in
    let longer : first_string (more ++ later) ≡ string_found text (rest ++ later) = subst (λ (s : StringRead). StringStays later s (first_string (more ++ later))) is (first_string-stays more later) in
    let item : item_at strings (begins.front ++ (more ++ later)) (chunk.at - chunk.start) ≡ here (octets text) = here_item (chunk.at - chunk.start) begins.front (more ++ later) text (rest ++ later) begins.strings longer in
    rw (all, append_assoc begins.front more later, item) refl

pub chunk_states : (file : List ℕ) (b : Bytestream) (chunk : Chunk) (more : List ℕ) (n : ℕ) (rest : List ℕ) → Begins file b chunk more → first_prefix more ≡ prefix_found n rest → chunk_length file b chunk chunk.at ≡ Ok (word n)
unfolding item_in
chunk_states file b chunk more n rest begins is =
    let (later, all) = taken_first file b chunk.entry begins.taken begins.fresh (begins.front ++ more) begins.has in
    let longer : first_prefix (more ++ later) ≡ prefix_found n (rest ++ later) = subst (λ (s : PrefixRead). PrefixStays later s (first_prefix (more ++ later))) is (first_prefix-stays more later) in
    let item : string_length_at 0 (begins.front ++ (more ++ later)) (chunk.at - chunk.start) ≡ here (word n) = length_item (chunk.at - chunk.start) begins.front (more ++ later) n (rest ++ later) begins.strings longer in
    rw (all, append_assoc begins.front more later, item) refl

-- what stands in the window after a piece
pub begins_after : (file : List ℕ) (b : Bytestream) (before after : Chunk) (bytes : List ℕ) → SamePlace before after → ((front : List ℕ) → Reaches file b before front → Reaches file b after (front ++ bytes)) → StandsText file b before → Begins file b before (bytes ++ after.window)
begins_after file b before after bytes same on stands = record {
  front = stands.front;
  taken = after.taken;
  fresh = after.fresh;
  strings = stands.strings;
  has = subst (λ (xs : List ℕ). HasTaken file b before.entry after.taken after.fresh xs) (append_assoc stands.front bytes after.window)
      (subst (λ (e : ℕ). HasTaken file b e after.taken after.fresh ((stands.front ++ bytes) ++ after.window)) same.entry (on stands.front stands.reaches));
}

-- ---- pages

on_way : (file : List ℕ) (b : Bytestream) (chunk : Chunk) (i p : ℕ) → chunk.start ≤ chunk.at → chunk.at ≤ i → StandsText file b chunk → IsAsked b chunk IsCut file p → OnWay file b chunk i p
unfolding lacks_item
on_way file b chunk i p low above stands asked =
    let on = asked stands.front stands.reaches in
    let item = cut_item (chunk.at - chunk.start) (i - chunk.start) stands.front on.more stands.strings (omega (arith, above)) on.wanting in
    record { before = on.packets; q = on.q; walked = on.walked; there = on.there; wanting = rw (on.stream, item) refl; within = on.within }

pub asks_on_way : (old new : SourceView) (b : Bytestream) (chunk : Chunk) → chunk.start ≤ chunk.at → AsksMet (IsAsked b chunk IsCut) old new → AsksOnWay b chunk old new
asks_on_way old new b chunk low met =
    asks_met_map (IsAsked b chunk IsCut) (λ file p. StandsText file b chunk → (i : ℕ) → chunk.at ≤ i → OnWay file b chunk i p) old new
    (told_all (λ file. (p : ℕ) → IsAsked b chunk IsCut file p → StandsText file b chunk → (i : ℕ) → chunk.at ≤ i → OnWay file b chunk i p) old.held
    (λ file p asked stands i above. on_way file b chunk i p low above stands asked))
    met

-- ---- the next string isn't there

ends_item : (file : List ℕ) (b : Bytestream) (chunk : Chunk) (found : Fault) (i : ℕ) → chunk.start ≤ chunk.at → chunk.at ≤ i → (stands : StandsText file b chunk) → EndsWanting file b chunk stands.front IsCut found → chunk_item file b strings chunk i ≡ Err found
ends_item file b chunk found i low above stands ends =
    chunk_cut file b chunk (stands.front ++ ends.more) found i low ends.finishes (cut_item (chunk.at - chunk.start) (i - chunk.start) stands.front ends.more stands.strings (omega (arith, above)) ends.wanting)

text_kind : (kind : Kind) → is_walk_kind kind ≡ true → is_text_kind kind ≡ true
text_kind kind is = rw is refl

text_cause : (old new : SourceView) (b : Bytestream) (chunk : Chunk) (found : ReadFault) → chunk.start ≤ chunk.at → IsPieceCause old b chunk IsCut found new → IsNextCause old b chunk found new
text_cause old new b chunk (Refused found) low cause = (
  text_kind found.kind cause.0,
  told_map (λ file. (front : List ℕ) → Reaches file b chunk front → EndsWanting file b chunk front IsCut found) (λ file. StandsText file b chunk → (i : ℕ) → chunk.at ≤ i → chunk_item file b strings chunk i ≡ Err found) old.held
      (λ file ends stands i above. ends_item file b chunk found i low above stands (ends stands.front stands.reaches)) cause.1,
)
text_cause old new b chunk Source low cause = cause

pub lacks_text : (old new : SourceView) (b : Bytestream) (before after : Chunk) (found : ReadFault) → before.start ≤ before.at → LacksPiece old b before IsCut found after new → LacksText old b before found after new
lacks_text old new b before after found low lacks = record {
  same = lacks.same;
  onward = lacks.onward;
  within = lacks.within;
  met = asks_on_way old new b before low lacks.met;
  cause = text_cause old new b before found low lacks.cause;
}

-- the next string is above the limit
pub limit_text : (old new : SourceView) (b : Bytestream) (before after : Chunk) (found : ReadFault) → before.start ≤ before.at → TakesPiece old b before IsCut [] after new → first_prefix after.window ≡ prefix_too_long → found ≡ Refused (limit_at b before.at) → LacksText old b before found after new
limit_text old new b before after found low takes over is =
    rw is
    (record {
      same = takes.same;
      onward = takes.onward;
      within = takes.within;
      met = asks_on_way old new b before low takes.met;
      cause = (
        refl,
        told_map (λ file. (front : List ℕ) → Reaches file b before front → Reaches file b after (front ++ [])) (λ file. StandsText file b before → (i : ℕ) → before.at ≤ i → chunk_item file b strings before i ≡ Err (limit_at b before.at)) old.held
            (λ file on stands i above. chunk_over file b before after.window i low above (begins_after file b before after [] takes.same on stands) (over_prefix after.window over)) takes.reaches,
      );
    })
