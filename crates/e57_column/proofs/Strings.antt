-- Strings over the chunks.
use Rattle.std.specs.Prelude.{◌≡◌, ℕ, zero, suc, ◌+◌, ◌-◌, ◌<◌, ◌≤◌, ◌⊎◌, min, List, length, take, drop, Option, Some, None, IfSome, Result, Ok, Err}
use Rattle.std.proofs.Common.{refl, sym, subst, ap, ap₂, ◌∙◌, arith, inl, inr, ⊎_elim}
use Rattle.std.proofs.lemmas.Bool.{cases_lt}
use Rattle.std.proofs.lemmas.List.{length-take, take-append-drop}
use Rattle.e57_base.specs.Source.{SourceView}
use Rattle.e57_base.proofs.Told.{told_map, told_both, told_here, told_all}
use Rattle.e57_base.specs.declared.fault.Fault.{Fault}
use Rattle.e57_base.specs.declared.fault.ReadFault.{ReadFault}
use Rattle.e57_base.specs.declared.fault.ReadFault.TheVariants.{Refused, Source}
use Rattle.e57_layout.specs.Values.{ItemKind, strings, Value, word, octets}
use Rattle.e57_layout.specs.Strings.{string_limit}
use Rattle.e57_cloud.specs.PathItem.{constant_of}
use Rattle.e57_stream.specs.Standing.{wanted as wanted_here}
use Rattle.e57_stream.specs.Window.{held_bytes}
use Rattle.e57_stream.specs.declared.bytestream.Bytestream.{Bytestream}
use Rattle.e57_stream.specs.declared.chunk.Chunk.{Chunk}
use Rattle.e57_texts.specs.Standing.{StandsText}
use Rattle.e57_texts.specs.Reading.{chunk_length, begin_of, end_of, string_held, FillsTexts, ReadsTexts as ReadsHere, looked_at, IsNext, ReadsStrings, IsTextCause, IsFitting as FitsHere, StopsStrings}
use Rattle.e57_column.specs.declared.finder.Finder.{Finder}
use Rattle.e57_column.specs.declared.state.Items.TheVariants.{Strings}
use Rattle.e57_column.specs.declared.state.Place.TheVariants.{Nowhere}
use Rattle.e57_column.specs.declared.state.State.{State}
use Rattle.e57_column.specs.Column.{kind_of, leaf_of, placed, column_item, column_length, IsColumn, IsChunkOf, StandsIn}
use Rattle.e57_column.specs.Reading.{SameField, KeepsStanding, IsCause, HasNoLength, SeeksNot, ReadsRecords, StopsRecords}
use Rattle.e57_column.specs.Texts.{TooLong, left_over, ReadsTexts, IsFitting, StopsTexts, IsLeft, ReadsSome, StopsSome}
use Rattle.e57_column.specs.Going.{GoesTo}
use Rattle.e57_column.proofs.Finders.{text_kind}
use Rattle.e57_column.proofs.Ways.{length_of-in}
use Rattle.e57_column.proofs.Arriving.{at_chunk, state-is}
use Rattle.e57_column.proofs.Chunks.{ReadsChunk, IsChunkCause, StopsChunk, came-in, reads_one, stops_one}
use Rattle.e57_column.proofs.Joining.{reads_on, stops_on, reads_nothing}
use borrow.Rule.Slice.PartMut.{put_mid}
use Rattle.e57_texts.proofs.Filling.{held_inside, ends_rise}
use Rattle.e57_stream.proofs.Parts.{part_before, part_in, length-part, length_of_part, rest_on}

-- ---- strings of a chunk

looked-room : (old : SourceView) (b : Bytestream) (chunk : Chunk) (want count room : ℕ) (next : Option ℕ) → 0 < want → IsNext old b chunk want count room next → (count ≤ looked_at count next) × (0 < looked_at count next) × (looked_at count next ≤ want)
looked-room old b chunk want count room None some is = (omega arith, omega (arith, is, some), omega (arith, is))
looked-room old b chunk want count room (Some n) some is = let below = is.0 in (omega arith, omega arith, omega (arith, below))

strings-chunk : (old new : SourceView) (b : Bytestream) (before after : Chunk) (n m : ℕ) (read : ℕ → List ℕ) → ReadsHere old b before n m read after new → ReadsChunk old b strings before n m (λ j. octets (read j)) after new
strings-chunk old new b before after n m read r = record {
  start = r.stays.start;
  until = r.stays.until;
  entry = r.stays.entry;
  onward = r.stays.onward;
  at = r.at;
  read_to = r.stays.within;
  near = r.near;
  met = r.met;
  items = r.items;
  stands = r.stands;
}

strings-cause : (old new : SourceView) (b : Bytestream) (chunk : Chunk) (i : ℕ) (found : ReadFault) → IsTextCause old b chunk i found new → IsChunkCause old b strings chunk i found new
strings-cause old new b chunk i (Refused found) cause = (text_kind found.kind cause.0, cause.1)
strings-cause old new b chunk i Source cause = cause

too-long : (old mid : SourceView) (before : State) (count room n : ℕ) (chunk : Chunk) (f : Finder) → chunk.at + count < chunk.until → GoesTo old before before.chunk.at mid (at_chunk before chunk f) → room < n → n ≤ string_limit
    → IfSome mid.held (λ file. StandsText file before.stream chunk → chunk_length file before.stream chunk (chunk.at + count) ≡ Ok (word n)) → kind_of before.items ≡ strings → TooLong old before (before.chunk.at + count) room n
too-long old mid before count room n chunk f below goes more limit is kind = record {
  more = more;
  limit = limit;
  is = told_both (λ file. StandsIn file before → IsChunkOf file before.stream (kind_of before.items) chunk) (λ file. StandsText file before.stream chunk → chunk_length file before.stream chunk (chunk.at + count) ≡ Ok (word n)) (λ file. StandsIn file before → column_length file before (before.chunk.at + count) ≡ Ok (word n)) old.held
      (λ file came long stands. one file (subst (λ (k : ItemKind). IsChunkOf file before.stream k chunk) kind (came stands)) long) (came-in old mid before before.chunk.at chunk f goes)
      (told_here (λ file. StandsText file before.stream chunk → chunk_length file before.stream chunk (chunk.at + count) ≡ Ok (word n)) mid.held old.held (sym goes.met.asks.same.held) is);
}
  where
    one : (file : List ℕ) → IsChunkOf file before.stream strings chunk → (StandsText file before.stream chunk → chunk_length file before.stream chunk (chunk.at + count) ≡ Ok (word n)) → column_length file before (before.chunk.at + count) ≡ Ok (word n)
    one file here long =
        let at = goes.is_at in
        let place : before.chunk.at + count ≡ chunk.at + count = omega (arith, at) in
        ap (column_length file before) place ∙ length_of-in file before.stream (leaf_of before) (chunk.at + count) chunk.start chunk.entry chunk.until (here.records (chunk.at + count) (omega arith) below) ∙ long here.read

is-left : (old mid : SourceView) (before : State) (chunk : Chunk) (f : Finder) (want places count room : ℕ) (next : Option ℕ) → 0 < want → want ≤ places → chunk.at + want ≤ chunk.until → kind_of before.items ≡ strings → GoesTo old before before.chunk.at mid (at_chunk before chunk f)
    → IsNext mid before.stream chunk want count room next → IsLeft old before places count room next
is-left old mid before chunk f want places count room None some most there kind goes is = omega (arith, is, some)
is-left old mid before chunk f want places count room (Some n) some most there kind goes is =
    let below = is.0 in (omega (arith, below, most), too-long old mid before count room n chunk f (omega (arith, below, there)) goes is.1 is.2 is.3 kind)

left-in : (old mid : SourceView) (before c : State) (want places count room : ℕ) (next : Option ℕ) → 0 < want → want ≤ places → c.chunk.at + want ≤ c.chunk.until → kind_of before.items ≡ strings → GoesTo old before before.chunk.at mid c
    → IsNext mid c.stream c.chunk want count room next → IsLeft old before places count room next
left-in old mid before c want places count room next some most there kind goes is =
    let same = state-is before c goes.same goes.inside in
    is-left old mid before c.chunk c.finder want places count room next some most there kind (subst (λ (x : State). GoesTo old before before.chunk.at mid x) same goes) (subst (λ (b : Bytestream). IsNext mid b c.chunk want count room next) goes.same.stream is)

next-few : (old : SourceView) (b : Bytestream) (chunk : Chunk) (want count room : ℕ) (next : Option ℕ) → IsNext old b chunk want count room next → count ≤ want
next-few old b chunk want count room None is = omega (arith, is)
next-few old b chunk want count room (Some n) is = let below = is.0 in omega (arith, below)

-- what a step answers
pub reads-strings : (old mid new : SourceView) (before c : State) (filled count : ℕ) (next : Option ℕ) (bytes bytes' ends ends' : List ℕ) (chunk' : Chunk) → before.items ≡ Strings → 0 < length ends → IsColumn c → GoesTo old before before.chunk.at mid c
    → ReadsStrings mid c.stream c.chunk (wanted_here c.chunk (length ends)) filled count next bytes bytes' ends ends' chunk' new → ReadsSome old before filled count next bytes bytes' ends ends' new (record c { chunk = chunk' })
reads-strings old mid new before c filled count next bytes bytes' ends ends' chunk' is room column goes r =
    let at = goes.is_at in
    let high = goes.high in
    let want : 0 < wanted_here c.chunk (length ends) = omega (arith, room, high, at) in
    let looked = looked-room mid c.stream c.chunk (wanted_here c.chunk (length ends)) count (length bytes' - begin_of filled ends' count) next want r.why in
    let most = looked.2 in
    let few = next-few mid c.stream c.chunk (wanted_here c.chunk (length ends)) count (length bytes' - begin_of filled ends' count) next r.why in
    let here : kind_of before.items ≡ strings = ap kind_of is in
    let there : kind_of c.items ≡ strings = ap kind_of goes.same.items ∙ here in
    let read = subst (λ (k : ItemKind). ReadsChunk mid c.stream k c.chunk count (looked_at count next) (λ j. octets (string_held filled bytes' ends' j)) chunk' new) (sym there) (strings-chunk mid new c.stream c.chunk chunk' count (looked_at count next) (string_held filled bytes' ends') r.reads) in
    let varies = subst (λ (k : ItemKind). constant_of k ≡ None) (sym here) refl in
    record {
      few = omega (arith, few);
      fills = r.fills;
      reads = (reads_one old mid new before c count (looked_at count next) chunk' (λ j. octets (string_held filled bytes' ends' j)) varies looked.0 looked.1 (omega (arith, most, high, at)) column goes read).reads;
      why = left-in old mid before c (wanted_here c.chunk (length ends)) (length ends) count (length bytes' - begin_of filled ends' count) next want (omega arith) (omega (arith, high, at)) here goes r.why;
    }

pub reads-strings-column : (old mid new : SourceView) (before c : State) (filled count : ℕ) (next : Option ℕ) (bytes bytes' ends ends' : List ℕ) (chunk' : Chunk) → before.items ≡ Strings → 0 < length ends → IsColumn c → GoesTo old before before.chunk.at mid c
    → ReadsStrings mid c.stream c.chunk (wanted_here c.chunk (length ends)) filled count next bytes bytes' ends ends' chunk' new → IsColumn (record c { chunk = chunk' })
reads-strings-column old mid new before c filled count next bytes bytes' ends ends' chunk' is room column goes r =
    let at = goes.is_at in
    let high = goes.high in
    let want : 0 < wanted_here c.chunk (length ends) = omega (arith, room, high, at) in
    let looked = looked-room mid c.stream c.chunk (wanted_here c.chunk (length ends)) count (length bytes' - begin_of filled ends' count) next want r.why in
    let most = looked.2 in
    let here : kind_of before.items ≡ strings = ap kind_of is in
    let there : kind_of c.items ≡ strings = ap kind_of goes.same.items ∙ here in
    let read = subst (λ (k : ItemKind). ReadsChunk mid c.stream k c.chunk count (looked_at count next) (λ j. octets (string_held filled bytes' ends' j)) chunk' new) (sym there) (strings-chunk mid new c.stream c.chunk chunk' count (looked_at count next) (string_held filled bytes' ends') r.reads) in
    (reads_one old mid new before c count (looked_at count next) chunk' (λ j. octets (string_held filled bytes' ends' j)) (subst (λ (k : ItemKind). constant_of k ≡ None) (sym here) refl) looked.0 looked.1 (omega (arith, most, high, at)) column goes read).column

fits-chunk : (old mid : SourceView) (before : State) (done left : ℕ) (chunk : Chunk) (f : Finder) (found : ReadFault) → chunk.at + done < chunk.until → GoesTo old before before.chunk.at mid (at_chunk before chunk f) → kind_of before.items ≡ strings
    → FitsHere mid before.stream chunk (chunk.at + done) left found → IsFitting old before (before.chunk.at + done) left found
fits-chunk old mid before done left chunk f (Refused found) below goes kind fits =
    told_both (λ file. StandsIn file before → IsChunkOf file before.stream (kind_of before.items) chunk) (λ file. StandsText file before.stream chunk → (n : ℕ) → chunk_length file before.stream chunk (chunk.at + done) ≡ Ok (word n) → n ≤ left)
    (λ file. StandsIn file before → (n : ℕ) → column_length file before (before.chunk.at + done) ≡ Ok (word n) → n ≤ left) old.held
    (λ file came most stands n long. one file (subst (λ (k : ItemKind). IsChunkOf file before.stream k chunk) kind (came stands)) most n long) (came-in old mid before before.chunk.at chunk f goes)
    (told_here (λ file. StandsText file before.stream chunk → (n : ℕ) → chunk_length file before.stream chunk (chunk.at + done) ≡ Ok (word n) → n ≤ left) mid.held old.held (sym goes.met.asks.same.held) fits)
  where
    one : (file : List ℕ) → IsChunkOf file before.stream strings chunk → (StandsText file before.stream chunk → (n : ℕ) → chunk_length file before.stream chunk (chunk.at + done) ≡ Ok (word n) → n ≤ left) → (n : ℕ) → column_length file before (before.chunk.at + done) ≡ Ok (word n) → n ≤ left
    one file here most n long =
        let at = goes.is_at in
        let place : before.chunk.at + done ≡ chunk.at + done = omega (arith, at) in
        most here.read n (sym (ap (column_length file before) place ∙ length_of-in file before.stream (leaf_of before) (chunk.at + done) chunk.start chunk.entry chunk.until (here.records (chunk.at + done) (omega arith) below)) ∙ long)
fits-chunk old mid before done left chunk f Source below goes kind fits = tt

fits-in : (old mid : SourceView) (before c : State) (done left : ℕ) (found : ReadFault) → c.chunk.at + done < c.chunk.until → kind_of before.items ≡ strings → GoesTo old before before.chunk.at mid c → FitsHere mid c.stream c.chunk (c.chunk.at + done) left found
    → IsFitting old before (before.chunk.at + done) left found
fits-in old mid before c done left found below kind goes fits =
    let same = state-is before c goes.same goes.inside in
    fits-chunk old mid before done left c.chunk c.finder found below (subst (λ (x : State). GoesTo old before before.chunk.at mid x) same goes) kind (subst (λ (b : Bytestream). FitsHere mid b c.chunk (c.chunk.at + done) left found) goes.same.stream fits)

pub stops-strings : (old mid new : SourceView) (before c : State) (filled done : ℕ) (found : ReadFault) (bytes bytes' ends ends' : List ℕ) (chunk' : Chunk) → before.items ≡ Strings → IsColumn c → GoesTo old before before.chunk.at mid c
    → StopsStrings mid c.stream c.chunk (wanted_here c.chunk (length ends)) filled done found bytes bytes' ends ends' chunk' new → StopsSome old before filled (length ends) done found bytes bytes' ends ends' new (record c { place = Nowhere; chunk = chunk' })
stops-strings old mid new before c filled done found bytes bytes' ends ends' chunk' is column goes s =
    let at = goes.is_at in
    let high = goes.high in
    let below = s.below in
    let here : kind_of before.items ≡ strings = ap kind_of is in
    let there : kind_of c.items ≡ strings = ap kind_of goes.same.items ∙ here in
    let stop = subst (λ (k : ItemKind). StopsChunk mid c.stream k c.chunk (length ends) done found (λ j. octets (string_held filled bytes' ends' j)) new) (sym there)
    (record { below = omega (arith, below); met = s.met; items = s.items; cause = strings-cause mid new c.stream c.chunk (c.chunk.at + done) found s.cause }) in
    record { fills = s.fills; stops = (stops_one old mid new before c (length ends) done chunk' found (λ j. octets (string_held filled bytes' ends' j)) (subst (λ (k : ItemKind). constant_of k ≡ None) (sym here) refl) (omega (arith, below, high, at)) column goes stop).stops; fits = fits-in old mid before c done (length bytes' - begin_of filled ends' done) found (omega (arith, below, high, at)) here goes s.fits }

-- no string yet
pub fills-none : (filled : ℕ) (bytes ends : List ℕ) → FillsTexts filled 0 bytes bytes ends ends
fills-none filled bytes ends = record {
  order = λ j below. absurd (omega (arith, below));
  inside = λ j below. absurd (omega (arith, below));
  short = λ j below. absurd (omega (arith, below));
  rest = λ j past. refl;
  before = refl;
  same_bytes = refl;
  same_ends = refl;
}

one-result : (r : Result Value Fault) (found : Fault) (n left : ℕ) → r ≡ Err found → r ≡ Ok (word n) → n ≤ left
one-result r found n left e g = cc

fits-lost : (old : SourceView) (c : State) (i j left : ℕ) (found : ReadFault) → i ≡ j → kind_of c.items ≡ strings → HasNoLength old c i found → IsFitting old c j left found
fits-lost old c i j left (Refused found) same kind lost =
    told_map (λ file. StandsIn file c → kind_of c.items ≡ strings → column_length file c i ≡ Err found) (λ file. StandsIn file c → (n : ℕ) → column_length file c j ≡ Ok (word n) → n ≤ left) old.held
    (λ file wrong stands n long. one-result (column_length file c j) found n left (ap (column_length file c) (sym same) ∙ wrong stands kind) long) lost
fits-lost old c i j left Source same kind lost = tt

pub stops-at-first : (old new : SourceView) (before after : State) (filled want : ℕ) (found : ReadFault) (bytes ends : List ℕ) → before.items ≡ Strings → 0 < want → SeeksNot old before before.chunk.at found new after → StopsSome old before filled want 0 found bytes bytes ends ends new after
stops-at-first old new before after filled want found bytes ends kind some s = record {
  fills = fills-none filled bytes ends;
  stops = record {
    below = some;
    is_at = s.is_at;
    same = s.same;
    met = s.met;
    items = told_all (λ file. StandsIn file before → (j : ℕ) → j < 0 → column_item file before (before.chunk.at + j) ≡ Ok (octets (string_held filled bytes ends j))) old.held (λ file is j below. absurd (omega (arith, below)));
    stands = s.stands;
    cause = let none : before.chunk.at ≡ before.chunk.at + 0 = omega arith in subst (λ (i : ℕ). IsCause old before i found new) none s.cause;
  };
  fits = let none : before.chunk.at ≡ before.chunk.at + 0 = omega arith in fits-lost old before before.chunk.at (before.chunk.at + 0) (length bytes - begin_of filled ends 0) found none (ap kind_of kind) s.length;
}

-- bytes behind a part don't matter for it
held_same : (bytes bytes' : List ℕ) (begin end at : ℕ) → begin ≤ end → end ≤ at → at ≤ length bytes → length bytes' ≡ length bytes → take at bytes' ≡ take at bytes → held_bytes bytes' begin end ≡ held_bytes bytes begin end
held_same bytes bytes' begin end at order below room same_length same =
    let size = length-take at bytes in
    let size' = length-take at bytes' in
    ap (λ (xs : List ℕ). held_bytes xs begin end) (sym (take-append-drop at bytes'))
    ∙ held_inside (take at bytes') (drop at bytes') begin end order (omega (arith, size', below, room, same_length))
    ∙ ap (λ (xs : List ℕ). held_bytes xs begin end) same
    ∙ sym (held_inside (take at bytes) (drop at bytes) begin end order (omega (arith, size, below, room)))
    ∙ ap (λ (xs : List ℕ). held_bytes xs begin end) (take-append-drop at bytes)

-- the last end is within the bytes
pub begin-within : (filled : ℕ) (ends : List ℕ) (n size : ℕ) → filled ≤ size → ((j : ℕ) → j < n → end_of ends j ≤ size) → begin_of filled ends n ≤ size
begin-within filled ends zero size first each = first
begin-within filled ends (suc n) size first each = each n (omega arith)

-- what the two parts of a row of strings are
record Parts (want n m at : ℕ) (bytes0 bytes1 bytes2 ends0 ends1 part part' : List ℕ) : Type 0 where
  pub few : n ≤ want
  pub room : want ≤ length ends1
  pub is : part ≡ take (want - n) (drop n ends1)
  pub most : m ≤ length part'
  pub begins : at ≡ begin_of 0 ends1 n
  pub within : at ≤ length bytes1
  pub front : FillsTexts 0 n bytes0 bytes1 ends0 ends1
  pub back : FillsTexts at m bytes1 bytes2 part part'

abbrev joined : ℕ → ℕ → List ℕ → List ℕ → List ℕ
joined want n ends1 part' = put_mid n (want - n) ends1 part'

begin-early : (want n j : ℕ) (ends1 part' : List ℕ) → n ≤ length ends1 → j ≤ n → begin_of 0 (joined want n ends1 part') j ≡ begin_of 0 ends1 j
begin-early want n zero ends1 part' room few = refl
begin-early want n (suc j) ends1 part' room few = part_before ends1 part' n (want - n) j 0 room (omega (arith, few))

begin-late : (want n at i : ℕ) (ends1 part' : List ℕ) → n ≤ length ends1 → at ≡ begin_of 0 ends1 n → i ≤ length part' → begin_of 0 (joined want n ends1 part') (n + i) ≡ begin_of at part' i
begin-late want n at zero ends1 part' room begins few = let e : n + 0 ≡ n = omega arith in ap (λ (k : ℕ). begin_of 0 (joined want n ends1 part') k) e ∙ begin-early want n n ends1 part' room (omega arith) ∙ sym begins
begin-late want n at (suc i) ends1 part' room begins few = let e : n + suc i ≡ suc (n + i) = omega arith in ap (λ (k : ℕ). begin_of 0 (joined want n ends1 part') k) e ∙ part_in ends1 part' n (want - n) i 0 room (omega (arith, few))

by_part : (n m j : ℕ) (P : ℕ → Type 0) → ((k : ℕ) → k < n → P k) → ((i : ℕ) → i < m → P (n + i)) → j < n + m → P j
by_part n m j P early late below =
    ⊎_elim (λ (before : j < n). early j before) (λ (past : n ≤ j). let e : n + (j - n) ≡ j = omega (arith, past) in subst P e (late (j - n) (omega (arith, past, below)))) (cases_lt j n)

fills-join : (want n m at : ℕ) (bytes0 bytes1 bytes2 ends0 ends1 part part' : List ℕ) → Parts want n m at bytes0 bytes1 bytes2 ends0 ends1 part part' → FillsTexts 0 (n + m) bytes0 bytes2 ends0 (joined want n ends1 part')
fills-join want n m at bytes0 bytes1 bytes2 ends0 ends1 part part' p =
    let few = p.few in
    let room = p.room in
    let most = p.most in
    let begin : n ≤ length ends1 = omega (arith, few, room) in
    let ends2 = joined want n ends1 part' in
    let size = p.back.same_bytes in
    record {
      order = λ j below. by_part n m j (λ k. begin_of 0 ends2 k ≤ end_of ends2 k)
          (λ k less. rw (begin-early want n k ends1 part' begin (omega (arith, less)), part_before ends1 part' n (want - n) k 0 begin less) (p.front.order k less))
          (λ i less. rw (begin-late want n at i ends1 part' begin p.begins (omega (arith, less, most)), part_in ends1 part' n (want - n) i 0 begin (omega (arith, less, most))) (p.back.order i less)) below;
      inside = λ j below. by_part n m j (λ k. end_of ends2 k ≤ length bytes2)
          (λ k less. let inside = p.front.inside k less in rw (part_before ends1 part' n (want - n) k 0 begin less) (omega (arith, inside, size)))
          (λ i less. rw (part_in ends1 part' n (want - n) i 0 begin (omega (arith, less, most))) (p.back.inside i less)) below;
      short = λ j below. by_part n m j (λ k. end_of ends2 k ≤ begin_of 0 ends2 k + string_limit)
          (λ k less. rw (begin-early want n k ends1 part' begin (omega (arith, less)), part_before ends1 part' n (want - n) k 0 begin less) (p.front.short k less))
          (λ i less. rw (begin-late want n at i ends1 part' begin p.begins (omega (arith, less, most)), part_in ends1 part' n (want - n) i 0 begin (omega (arith, less, most))) (p.back.short i less)) below;
      rest = λ j past. rest_on want n m j ends0 ends1 part part' 0 few room p.is p.back.same_ends p.front.rest p.back.rest past;
      before = refl;
      same_bytes = p.back.same_bytes ∙ p.front.same_bytes;
      same_ends = length-part ends1 part' n (want - n) (omega (arith, few, room)) (p.back.same_ends ∙ length_of_part ends1 part want n few room p.is) ∙ p.front.same_ends;
    }

text-early : (want n m at : ℕ) (bytes0 bytes1 bytes2 ends0 ends1 part part' : List ℕ) → Parts want n m at bytes0 bytes1 bytes2 ends0 ends1 part part' → (j : ℕ) → j < n → string_held 0 bytes1 ends1 j ≡ string_held 0 bytes2 (joined want n ends1 part') j
text-early want n m at bytes0 bytes1 bytes2 ends0 ends1 part part' p j below =
    let few = p.few in
    let room = p.room in
    let begin : n ≤ length ends1 = omega (arith, few, room) in
    let begins = p.begins in
    let risen = ends_rise 0 ends1 n p.front.order j below in
    sym (ap₂ (λ (x y : ℕ). held_bytes bytes2 x y) (begin-early want n j ends1 part' begin (omega (arith, below))) (part_before ends1 part' n (want - n) j 0 begin below)
    ∙ held_same bytes1 bytes2 (begin_of 0 ends1 j) (end_of ends1 j) at (p.front.order j below) (omega (arith, risen, begins)) p.within p.back.same_bytes p.back.before)

text-late : (want n m at : ℕ) (bytes0 bytes1 bytes2 ends0 ends1 part part' : List ℕ) → Parts want n m at bytes0 bytes1 bytes2 ends0 ends1 part part' → (i : ℕ) → i < m → string_held at bytes2 part' i ≡ string_held 0 bytes2 (joined want n ends1 part') (n + i)
text-late want n m at bytes0 bytes1 bytes2 ends0 ends1 part part' p i below =
    let few = p.few in
    let room = p.room in
    let most = p.most in
    let begin : n ≤ length ends1 = omega (arith, few, room) in
    sym (ap₂ (λ (x y : ℕ). held_bytes bytes2 x y) (begin-late want n at i ends1 part' begin p.begins (omega (arith, below, most))) (part_in ends1 part' n (want - n) i 0 begin (omega (arith, below, most))))

-- ---- the loop

-- n strings were read so far, and the next one comes to byte `at`
pub record Row (old : SourceView) (before : State) (n at : ℕ) (bytes bytes' ends ends' : List ℕ) (new : SourceView) (after : State) : Type 0 where
  pub fills : FillsTexts 0 n bytes bytes' ends ends'
  pub begins : at ≡ begin_of 0 ends' n
  pub within : at ≤ length bytes'
  pub reads : ReadsRecords old before before.chunk.at n n (λ j. octets (string_held 0 bytes' ends' j)) new after

pub row_none : (source : SourceView) (c : State) (bytes ends : List ℕ) → placed c ≡ Some c.chunk.at → Row source c 0 0 bytes bytes ends ends source c
row_none source c bytes ends at = record { fills = fills-none 0 bytes ends; begins = refl; within = omega arith; reads = reads_nothing source c c.chunk.at (λ j. octets (string_held 0 bytes ends j)) at }

parts-of : (s0 s1 s2 : SourceView) (first second third : State) (want n m at : ℕ) (next : Option ℕ) (bytes0 bytes1 bytes2 ends0 ends1 part part' : List ℕ) → n ≤ want → want ≤ length ends1 → part ≡ take (want - n) (drop n ends1) → m ≤ length part
    → Row s0 first n at bytes0 bytes1 ends0 ends1 s1 second → FillsTexts at m bytes1 bytes2 part part' → Parts want n m at bytes0 bytes1 bytes2 ends0 ends1 part part'
parts-of s0 s1 s2 first second third want n m at next bytes0 bytes1 bytes2 ends0 ends1 part part' few room is most row back = let same = back.same_ends in record { few = few; room = room; is = is; most = omega (arith, most, same); begins = row.begins; within = row.within; front = row.fills; back = back }

-- some strings, and then some more
pub row-reads : (s0 s1 s2 : SourceView) (first second third : State) (want n m at : ℕ) (next : Option ℕ) (bytes0 bytes1 bytes2 ends0 ends1 part part' : List ℕ) → n ≤ want → want ≤ length ends1 → part ≡ take (want - n) (drop n ends1) → 0 < looked_at m next → second.chunk.at ≡ first.chunk.at + n
    → Row s0 first n at bytes0 bytes1 ends0 ends1 s1 second → ReadsSome s1 second at m next bytes1 bytes2 part part' s2 third
    → FillsTexts 0 (n + m) bytes0 bytes2 ends0 (joined want n ends1 part') × ReadsRecords s0 first first.chunk.at (n + m) (n + looked_at m next) (λ j. octets (string_held 0 bytes2 (joined want n ends1 part') j)) s2 third
row-reads s0 s1 s2 first second third want n m at next bytes0 bytes1 bytes2 ends0 ends1 part part' few room is some place row r =
    let p = parts-of s0 s1 s2 first second third want n m at next bytes0 bytes1 bytes2 ends0 ends1 part part' few room is r.few row r.fills in (
      fills-join want n m at bytes0 bytes1 bytes2 ends0 ends1 part part' p,
      reads_on s0 s1 s2 first second third first.chunk.at n m (looked_at m next) (λ j. octets (string_held 0 bytes1 ends1 j)) (λ j. octets (string_held at bytes2 part' j)) (λ j. octets (string_held 0 bytes2 (joined want n ends1 part') j)) some
          (λ j early. ap octets (text-early want n m at bytes0 bytes1 bytes2 ends0 ends1 part part' p j early)) (λ i below. ap octets (text-late want n m at bytes0 bytes1 bytes2 ends0 ends1 part part' p i below))
          row.reads (subst (λ (a : ℕ). ReadsRecords s1 second a m (looked_at m next) (λ j. octets (string_held at bytes2 part' j)) s2 third) place r.reads),
    )

-- all of a chunk
pub row_more : (s0 s1 s2 : SourceView) (first second third : State) (want n m at at' : ℕ) (bytes0 bytes1 bytes2 ends0 ends1 part part' : List ℕ) → n ≤ want → want ≤ length ends1 → part ≡ take (want - n) (drop n ends1) → second.chunk.at ≡ first.chunk.at + n → at' ≡ begin_of at part' m
    → Row s0 first n at bytes0 bytes1 ends0 ends1 s1 second → ReadsSome s1 second at m None bytes1 bytes2 part part' s2 third → Row s0 first (n + m) at' bytes0 bytes2 ends0 (joined want n ends1 part') s2 third
row_more s0 s1 s2 first second third want n m at at' bytes0 bytes1 bytes2 ends0 ends1 part part' few room is place end row r =
    let both = row-reads s0 s1 s2 first second third want n m at None bytes0 bytes1 bytes2 ends0 ends1 part part' few room is r.why place row r in
    let within = row.within in
    let size = r.fills.same_bytes in
    let most = r.few in
    let same = r.fills.same_ends in
    record {
      fills = both.0;
      begins = end ∙ sym (begin-late want n at m ends1 part' (omega (arith, few, room)) row.begins (omega (arith, most, same)));
      within = rw end (begin-within at part' m (length bytes2) (omega (arith, within, size)) r.fills.inside);
      reads = both.1;
    }

-- the next string doesn't fit
pub row_left : (s0 s1 s2 : SourceView) (first second third : State) (want n m at k : ℕ) (bytes0 bytes1 bytes2 ends0 ends1 part part' : List ℕ) → n ≤ want → want ≤ length ends1 → part ≡ take (want - n) (drop n ends1) → second.chunk.at ≡ first.chunk.at + n
    → Row s0 first n at bytes0 bytes1 ends0 ends1 s1 second → ReadsSome s1 second at m (Some k) bytes1 bytes2 part part' s2 third → ReadsTexts s0 first want (left_over (n + m) k) bytes0 bytes2 ends0 (joined want n ends1 part') s2 third
row_left s0 s1 s2 first second third want n m at k bytes0 bytes1 bytes2 ends0 ends1 part part' few room is place row r =
    let both = row-reads s0 s1 s2 first second third want n m at (Some k) bytes0 bytes1 bytes2 ends0 ends1 part part' few room is (omega arith) place row r in
    let size = length_of_part ends1 part want n few room is in
    let below = r.why.0 in
    let looked : n + (m + 1) ≡ min (n + m + 1) want = omega (arith, below, size) in
    let most = r.few in
    let same = r.fills.same_ends in
    let last = begin-late want n at m ends1 part' (omega (arith, few, room)) row.begins (omega (arith, most, same)) in
    let held = row.reads.met.asks.same.held in
    record {
      fills = both.0;
      reads = subst (λ (q : ℕ). ReadsRecords s0 first first.chunk.at (n + m) q (λ j. octets (string_held 0 bytes2 (joined want n ends1 part') j)) s2 third) looked both.1;
      why = inr (record {
        n = k;
        fewer = omega (arith, below, size);
        next = record {
          more = let more = r.why.1.more in rw last more;
          limit = r.why.1.limit;
          is = told_both (λ file. StandsIn file first → StandsIn file second) (λ file. StandsIn file second → column_length file second (second.chunk.at + m) ≡ Ok (word k)) (λ file. StandsIn file first → column_length file first (first.chunk.at + (n + m)) ≡ Ok (word k)) s0.held
              (λ file on long stands. same-length file (long (on stands))) row.reads.stands (told_here (λ file. StandsIn file second → column_length file second (second.chunk.at + m) ≡ Ok (word k)) s1.held s0.held (sym held) r.why.1.is);
        };
        answer = refl;
      });
    }
  where
    same-length : (file : List ℕ) → column_length file second (second.chunk.at + m) ≡ Ok (word k) → column_length file first (first.chunk.at + (n + m)) ≡ Ok (word k)
    same-length file long =
        let number : first.chunk.at + (n + m) ≡ second.chunk.at + m = omega (arith, place) in
        ap (column_length file first) number ∙ sym (length-same file (second.chunk.at + m)) ∙ long
      where
        length-same : (file : List ℕ) (i : ℕ) → column_length file second i ≡ column_length file first i
        length-same file i = rw (row.reads.same.stream, row.reads.same.items) refl

-- all that are wanted were read
pub row_all : (s0 s1 : SourceView) (first second : State) (want n at : ℕ) (bytes0 bytes1 ends0 ends1 : List ℕ) → n ≡ want → Row s0 first n at bytes0 bytes1 ends0 ends1 s1 second → ReadsTexts s0 first want (record { count = n; need = None }) bytes0 bytes1 ends0 ends1 s1 second
row_all s0 s1 first second want n at bytes0 bytes1 ends0 ends1 all row =
    let looked : n ≡ min (n + 1) want = omega (arith, all) in
    record { fills = row.fills; reads = subst (λ (q : ℕ). ReadsRecords s0 first first.chunk.at n q (λ j. octets (string_held 0 bytes1 ends1 j)) s1 second) looked row.reads; why = inl (all, refl) }

fits-on : (s0 s1 : SourceView) (first second : State) (n m left left' : ℕ) (found : ReadFault) → second.chunk.at ≡ first.chunk.at + n → left ≡ left' → s1.held ≡ s0.held → SameField first second → KeepsStanding s0 first second
    → IsFitting s1 second (second.chunk.at + m) left found → IsFitting s0 first (first.chunk.at + (n + m)) left' found
fits-on s0 s1 first second n m left left' (Refused found) place room held same stands fits =
    told_both (λ file. StandsIn file first → StandsIn file second) (λ file. StandsIn file second → (k : ℕ) → column_length file second (second.chunk.at + m) ≡ Ok (word k) → k ≤ left)
    (λ file. StandsIn file first → (k : ℕ) → column_length file first (first.chunk.at + (n + m)) ≡ Ok (word k) → k ≤ left') s0.held
    (λ file on most is k long. subst (λ (l : ℕ). k ≤ l) room (most (on is) k (same-length file ∙ long))) stands
    (told_here (λ file. StandsIn file second → (k : ℕ) → column_length file second (second.chunk.at + m) ≡ Ok (word k) → k ≤ left) s1.held s0.held (sym held) fits)
  where
    length-same : (file : List ℕ) (i : ℕ) → column_length file second i ≡ column_length file first i
    length-same file i = rw (same.stream, same.items) refl

    same-length : (file : List ℕ) → column_length file second (second.chunk.at + m) ≡ column_length file first (first.chunk.at + (n + m))
    same-length file =
        let number : second.chunk.at + m ≡ first.chunk.at + (n + m) = omega (arith, place) in
        length-same file (second.chunk.at + m) ∙ ap (column_length file first) number
fits-on s0 s1 first second n m left left' Source place room held same stands fits = tt

-- some strings, and then a stop
pub row_stops : (s0 s1 s2 : SourceView) (first second third : State) (want n m at : ℕ) (found : ReadFault) (bytes0 bytes1 bytes2 ends0 ends1 part part' : List ℕ) → n ≤ want → want ≤ length ends1 → part ≡ take (want - n) (drop n ends1) → second.chunk.at ≡ first.chunk.at + n
    → Row s0 first n at bytes0 bytes1 ends0 ends1 s1 second → StopsSome s1 second at (length part) m found bytes1 bytes2 part part' s2 third → StopsTexts s0 first want (n + m) found bytes0 bytes2 ends0 (joined want n ends1 part') s2 third
row_stops s0 s1 s2 first second third want n m at found bytes0 bytes1 bytes2 ends0 ends1 part part' few room is place row s =
    let below = s.stops.below in
    let size = length_of_part ends1 part want n few room is in
    let p = parts-of s0 s1 s2 first second third want n m at None bytes0 bytes1 bytes2 ends0 ends1 part part' few room is (omega (arith, below)) row s.fills in
    record {
      fills = fills-join want n m at bytes0 bytes1 bytes2 ends0 ends1 part part' p;
      stops = stops_on s0 s1 s2 first second third first.chunk.at want n m found (λ j. octets (string_held 0 bytes1 ends1 j)) (λ j. octets (string_held at bytes2 part' j)) (λ j. octets (string_held 0 bytes2 (joined want n ends1 part') j))
          (λ j early. ap octets (text-early want n m at bytes0 bytes1 bytes2 ends0 ends1 part part' p j early)) (λ i less. ap octets (text-late want n m at bytes0 bytes1 bytes2 ends0 ends1 part part' p i less))
          row.reads (subst (λ (a : ℕ). StopsRecords s1 second a (want - n) m found (λ j. octets (string_held at bytes2 part' j)) s2 third) place (subst (λ (k : ℕ). StopsRecords s1 second second.chunk.at k m found (λ j. octets (string_held at bytes2 part' j)) s2 third) size s.stops));
      fits = fits-on s0 s1 first second n m (length bytes2 - begin_of at part' m) (length bytes2 - begin_of 0 (joined want n ends1 part') (n + m)) found place
          (ap (λ (k : ℕ). length bytes2 - k) (sym (begin-late want n at m ends1 part' (omega (arith, few, room)) row.begins p.most))) row.reads.met.asks.same.held row.reads.same row.reads.stands s.fits;
    }
