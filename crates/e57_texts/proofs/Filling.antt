-- Strings that are put one after another into a buffer, and their ends into another one.
use Rattle.std.proofs.Common.{◌≡◌, ℕ, zero, suc, ◌+◌, ◌-◌, ◌<◌, ◌≤◌, ◌⊎◌, List, ◌++◌, length, take, drop, set, refl, sym, subst, ap, ap₂, ◌∙◌, arith, inl, inr, ⊎_elim, length-append}
use Rattle.std.specs.Prelude.{Some, None}
use Rattle.std.proofs.lemmas.Bool.{cases_lt}
use Rattle.std.proofs.lemmas.List.{length-take, length-drop, length-set, get_or-set_same, get_or-set_other, drop_at, take-append-le, drop-append-le, take-append-drop, take-take}
use Rattle.e57_base.specs.Source.{SourceView}
use Rattle.e57_base.specs.declared.fault.ReadFault.{ReadFault}
use Rattle.e57_layout.specs.Strings.{string_limit}
use Rattle.e57_stream.specs.declared.bytestream.Bytestream.{Bytestream}
use Rattle.e57_stream.specs.declared.chunk.Chunk.{Chunk}
use Rattle.e57_stream.specs.Standing.{wanted}
use Rattle.e57_stream.specs.Window.{held_bytes}
use Rattle.e57_texts.specs.Standing.{IsWithinText}
use Rattle.e57_texts.specs.Reading.{begin_of, end_of, string_held, FillsTexts, ReadsTexts, ReadsStrings, StopsStrings, IsFitting, LacksText}
use Rattle.e57_texts.specs.Steps.{TakesText, NeedsMore}
use Rattle.e57_texts.proofs.Rows.{reads_none, reads_more, reads_looked, looked_length, reads_same, stops_at}

-- ---- parts of a buffer

pub held_inside : (front part : List ℕ) (begin end : ℕ) → begin ≤ end → end ≤ length front → held_bytes (front ++ part) begin end ≡ held_bytes front begin end
held_inside front part begin end order inside =
    let size = length-drop begin front in
    ap (take (end - begin)) (drop-append-le begin front part (omega (arith, order, inside))) ∙ take-append-le (end - begin) (drop begin front) part (omega (arith, size, inside, order))

-- bytes that are put behind a part change nothing of it
held_front : (bytes part : List ℕ) (begin end at : ℕ) → begin ≤ end → end ≤ at → at ≤ length bytes → held_bytes (take at bytes ++ part) begin end ≡ held_bytes bytes begin end
held_front bytes part begin end at order below room =
    let size = length-take at bytes in
    held_inside (take at bytes) part begin end order (omega (arith, size, below, room))
    ∙ sym (held_inside (take at bytes) (drop at bytes) begin end order (omega (arith, size, below, room)))
    ∙ ap (λ (xs : List ℕ). held_bytes xs begin end) (take-append-drop at bytes)

held_last : (bytes part : List ℕ) (at n : ℕ) → at ≤ length bytes → held_bytes (take at bytes ++ part) at (at + n) ≡ take n part
held_last bytes part at n room =
    let size = length-take at bytes in
    let count : at + n - at ≡ n = omega arith in
    ap₂ (λ (k : ℕ) (xs : List ℕ). take k xs) count (drop_at (take at bytes) part at (omega (arith, size, room)))

-- ---- ends

begin_next : (filled : ℕ) (ends : List ℕ) (n : ℕ) → begin_of filled ends (n + 1) ≡ end_of ends n
begin_next filled ends n = let e : n + 1 ≡ suc n = omega arith in ap (λ (k : ℕ). begin_of filled ends k) e

end_other : (ends : List ℕ) (n end j : ℕ) → j < n ⊎ n < j → end_of (set ends n end) j ≡ end_of ends j
end_other ends n end j (inl below) = get_or-set_other ends n j end 0 (λ (e : j ≡ n). absurd (omega (arith, e, below)))
end_other ends n end j (inr above) = get_or-set_other ends n j end 0 (λ (e : j ≡ n). absurd (omega (arith, e, above)))

begin_other : (filled : ℕ) (ends : List ℕ) (n end j : ℕ) → j ≤ n → begin_of filled (set ends n end) j ≡ begin_of filled ends j
begin_other filled ends n end zero few = refl
begin_other filled ends n end (suc j) few = end_other ends n end j (inl (omega (arith, few)))

-- no end is above where the next string begins
pub ends_rise : (filled : ℕ) (ends : List ℕ) (n : ℕ) → ((j : ℕ) → j < n → begin_of filled ends j ≤ end_of ends j) → (j : ℕ) → j < n → end_of ends j ≤ begin_of filled ends n
ends_rise filled ends zero order j below = absurd (omega (arith, below))
ends_rise filled ends (suc n) order j below =
    ⊎_elim
    (λ (early : j < n).
    let before = ends_rise filled ends n (λ k less. order k (omega (arith, less))) j early in
    let last : begin_of filled ends n ≤ end_of ends n = order n (omega arith) in
    omega (arith, before, last))
    (λ (late : n ≤ j). let e : n ≡ j = omega (arith, late, below) in subst (λ (k : ℕ). end_of ends k ≤ end_of ends n) e (omega arith))
    (cases_lt j n)

-- ---- one string more

-- the state of the buffers, and where the next string begins
pub record Fills (filled n at : ℕ) (bytes bytes' ends ends' : List ℕ) : Type 0 where
  pub fills : FillsTexts filled n bytes bytes' ends ends'
  pub begins : at ≡ begin_of filled ends' n
  pub room : at ≤ length bytes'
  pub behind : filled ≤ at

pub fills_none : (filled : ℕ) (bytes ends : List ℕ) → filled ≤ length bytes → Fills filled 0 filled bytes bytes ends ends
fills_none filled bytes ends room = record {
  fills = record {
    order = λ j below. absurd (omega (arith, below));
    inside = λ j below. absurd (omega (arith, below));
    short = λ j below. absurd (omega (arith, below));
    rest = λ j past. refl;
    before = refl;
    same_bytes = refl;
    same_ends = refl;
  };
  begins = refl;
  room = room;
  behind = omega arith;
}

length-filled : (bytes part : List ℕ) (at : ℕ) → at ≤ length bytes → length part ≡ length bytes - at → length (take at bytes ++ part) ≡ length bytes
length-filled bytes part at room size = let front = length-take at bytes in length-append (take at bytes) part ∙ omega (arith, front, size, room)

by_last : (n j : ℕ) (P : ℕ → Type 0) → ((k : ℕ) → k < n → P k) → P n → j < n + 1 → P j
by_last n j P each last below =
    ⊎_elim (λ (early : j < n). each j early) (λ (late : n ≤ j). let e : n ≡ j = omega (arith, late, below) in subst P e last) (cases_lt j n)

pub fills_more : (filled n at count : ℕ) (bytes0 bytes ends0 ends part : List ℕ) → Fills filled n at bytes0 bytes ends0 ends → n < length ends → length part ≡ length bytes - at → count ≤ length part → count ≤ string_limit
    → Fills filled (n + 1) (at + count) bytes0 (take at bytes ++ part) ends0 (set ends n (at + count))
fills_more filled n at count bytes0 bytes ends0 ends part f place size fits limit =
    let begins = f.begins in
    let room = f.room in
    let behind = f.behind in
    let same = length-filled bytes part at room size in
    let last : end_of (set ends n (at + count)) n ≡ at + count = get_or-set_same ends n (at + count) 0 place in
    let first : begin_of filled (set ends n (at + count)) n ≡ at = begin_other filled ends n (at + count) n (omega arith) ∙ sym begins in
    let front = length-take at bytes in
    record {
      fills = record {
        order = λ j below. by_last n j (λ k. begin_of filled (set ends n (at + count)) k ≤ end_of (set ends n (at + count)) k)
            (λ k less. rw (begin_other filled ends n (at + count) k (omega (arith, less)), end_other ends n (at + count) k (inl less)) (f.fills.order k less)) (rw (first, last) (omega arith)) below;
        inside = λ j below. by_last n j (λ k. end_of (set ends n (at + count)) k ≤ length (take at bytes ++ part))
            (λ k less. rw (end_other ends n (at + count) k (inl less), same) (f.fills.inside k less)) (rw (last, same) (omega (arith, fits, size, room))) below;
        short = λ j below. by_last n j (λ k. end_of (set ends n (at + count)) k ≤ begin_of filled (set ends n (at + count)) k + string_limit)
            (λ k less. rw (begin_other filled ends n (at + count) k (omega (arith, less)), end_other ends n (at + count) k (inl less)) (f.fills.short k less)) (rw (first, last) (omega (arith, limit))) below;
        rest = λ j past. end_other ends n (at + count) j (inr (omega (arith, past))) ∙ f.fills.rest j (omega (arith, past));
        before = take-append-le filled (take at bytes) part (omega (arith, front, behind, room)) ∙ take-take filled at bytes behind ∙ f.fills.before;
        same_bytes = same ∙ f.fills.same_bytes;
        same_ends = length-set ends n (at + count) ∙ f.fills.same_ends;
      };
      begins = sym (begin_next filled (set ends n (at + count)) n ∙ last);
      room = rw same (omega (arith, fits, size, room));
      behind = omega (arith, behind);
    }

-- the strings before are as they were
text_before : (filled n at count : ℕ) (bytes0 bytes ends0 ends part : List ℕ) → Fills filled n at bytes0 bytes ends0 ends → (j : ℕ) → j < n → string_held filled bytes ends j ≡ string_held filled (take at bytes ++ part) (set ends n (at + count)) j
text_before filled n at count bytes0 bytes ends0 ends part f j below =
    let begins = f.begins in
    let risen = ends_rise filled ends n f.fills.order j below in
    sym (ap₂ (λ (x y : ℕ). held_bytes (take at bytes ++ part) x y) (begin_other filled ends n (at + count) j (omega (arith, below))) (end_other ends n (at + count) j (inl below))
    ∙ held_front bytes part (begin_of filled ends j) (end_of ends j) at (f.fills.order j below) (omega (arith, risen, begins)) f.room)

text_last : (filled n at count : ℕ) (bytes0 bytes ends0 ends part : List ℕ) → Fills filled n at bytes0 bytes ends0 ends → n < length ends → take count part ≡ string_held filled (take at bytes ++ part) (set ends n (at + count)) n
text_last filled n at count bytes0 bytes ends0 ends part f place =
    sym (ap₂ (λ (x y : ℕ). held_bytes (take at bytes ++ part) x y) (begin_other filled ends n (at + count) n (omega arith) ∙ sym f.begins) (get_or-set_same ends n (at + count) 0 place)
    ∙ held_last bytes part at count f.room)

-- ---- the loop

-- n strings of `want` were read, and the next one comes to byte `at`
pub record Row (old : SourceView) (b : Bytestream) (before : Chunk) (want filled n at : ℕ) (bytes bytes' ends ends' : List ℕ) (after : Chunk) (new : SourceView) : Type 0 where
  pub want_is : want ≡ wanted before (length ends)
  pub few : n ≤ want
  pub buffers : Fills filled n at bytes bytes' ends ends'
  pub reads : ReadsTexts old b before n n (string_held filled bytes' ends') after new

pub row_none : (source : SourceView) (b : Bytestream) (chunk : Chunk) (want filled : ℕ) (bytes ends : List ℕ) → want ≡ wanted chunk (length ends) → filled ≤ length bytes → IsWithinText b.section chunk → Row source b chunk want filled 0 filled bytes bytes ends ends chunk source
row_none source b chunk want filled bytes ends want_is room is = record { want_is = want_is; few = omega arith; buffers = fills_none filled bytes ends room; reads = reads_none source b chunk (string_held filled bytes ends) is }

-- a record is left
pub row_left : (s0 s1 : SourceView) (b : Bytestream) (c0 c1 : Chunk) (want filled n at : ℕ) (bytes0 bytes ends0 ends : List ℕ) → n < want → c0.at ≤ c0.until → Row s0 b c0 want filled n at bytes0 bytes ends0 ends c1 s1 → c1.at < c1.until
row_left s0 s1 b c0 c1 want filled n at bytes0 bytes ends0 ends below low f =
    let want_is = f.want_is in
    let place = f.reads.at in
    let until = f.reads.stays.until in
    omega (arith, want_is, place, until, below, low)

pub row_place : (s0 s1 : SourceView) (b : Bytestream) (c0 c1 : Chunk) (want filled n at : ℕ) (bytes0 bytes ends0 ends : List ℕ) → n < want → Row s0 b c0 want filled n at bytes0 bytes ends0 ends c1 s1 → n < length ends
row_place s0 s1 b c0 c1 want filled n at bytes0 bytes ends0 ends below f =
    let want_is = f.want_is in
    let same = f.buffers.fills.same_ends in
    omega (arith, want_is, same, below)

pub row_more : (s0 s1 s2 : SourceView) (b : Bytestream) (c0 c1 c2 : Chunk) (want filled n at count : ℕ) (bytes0 bytes ends0 ends out part : List ℕ) → n < want → c0.at ≤ c0.until → Row s0 b c0 want filled n at bytes0 bytes ends0 ends c1 s1
    → out ≡ drop at bytes → length part ≡ length out → count ≤ length out → TakesText s1 b c1 (take count part) c2 s2
    → Row s0 b c0 want filled (n + 1) (at + count) bytes0 (take at bytes ++ part) ends0 (set ends n (at + count)) c2 s2
row_more s0 s1 s2 b c0 c1 c2 want filled n at count bytes0 bytes ends0 ends out part below low f out_is same fits takes =
    let place = row_place s0 s1 b c0 c1 want filled n at bytes0 bytes ends0 ends below f in
    let out_size : length out ≡ length bytes - at = ap (λ (xs : List ℕ). length xs) out_is ∙ length-drop at bytes in
    let text_size = length-take count part in
    let limit = takes.limit in
    record {
      want_is = f.want_is;
      few = omega (arith, below);
      buffers = fills_more filled n at count bytes0 bytes ends0 ends part f.buffers place (same ∙ out_size) (omega (arith, same, fits)) (omega (arith, limit, text_size, same, fits));
      reads = reads_more s0 s1 s2 b c0 c1 c2 n (string_held filled bytes ends) (string_held filled (take at bytes ++ part) (set ends n (at + count))) (take count part) (row_left s0 s1 b c0 c1 want filled n at bytes0 bytes ends0 ends below low f)
          (λ j early. text_before filled n at count bytes0 bytes ends0 ends part f.buffers j early) (text_last filled n at count bytes0 bytes ends0 ends part f.buffers place) f.reads takes;
    }

pub row_all : (s0 s1 : SourceView) (b : Bytestream) (c0 c1 : Chunk) (want filled n at : ℕ) (bytes0 bytes ends0 ends : List ℕ) → want ≤ n → Row s0 b c0 want filled n at bytes0 bytes ends0 ends c1 s1 → ReadsStrings s0 b c0 want filled n None bytes0 bytes ends0 ends c1 s1
row_all s0 s1 b c0 c1 want filled n at bytes0 bytes ends0 ends all f = let few = f.few in record { fills = f.buffers.fills; reads = f.reads; why = omega (arith, all, few) }

pub row_needs : (s0 s1 s2 : SourceView) (b : Bytestream) (c0 c1 c2 : Chunk) (want filled n at k : ℕ) (bytes0 bytes ends0 ends out out' : List ℕ) → n < want → Row s0 b c0 want filled n at bytes0 bytes ends0 ends c1 s1
    → out ≡ drop at bytes → NeedsMore s1 b c1 k out out' c2 s2 → ReadsStrings s0 b c0 want filled n (Some k) bytes0 bytes ends0 ends c2 s2
row_needs s0 s1 s2 b c0 c1 c2 want filled n at k bytes0 bytes ends0 ends out out' below f out_is needs =
    let out_size : length out ≡ length bytes - at = ap (λ (xs : List ℕ). length xs) out_is ∙ length-drop at bytes in
    let begins = f.buffers.begins in
    let more = needs.more in
    record {
      fills = f.buffers.fills;
      reads = reads_looked s0 s1 s2 b c0 c1 c2 n k needs.size (string_held filled bytes ends) f.reads needs.has;
      why = (below, omega (arith, more, out_size, begins), needs.has.states.limit, looked_length s0 s1 s2 b c0 c1 c2 n k needs.size (string_held filled bytes ends) f.reads needs.has);
    }

-- where the buffer's last part is as it was
pub part_same : (bytes out out' : List ℕ) (at : ℕ) → out ≡ drop at bytes → out' ≡ out → take at bytes ++ out' ≡ bytes
part_same bytes out out' at out_is same = ap (λ (xs : List ℕ). take at bytes ++ xs) (same ∙ out_is) ∙ take-append-drop at bytes

-- the buffer's last part may be anything
fills_part : (filled n at : ℕ) (bytes0 bytes ends0 ends part : List ℕ) → Fills filled n at bytes0 bytes ends0 ends → length part ≡ length bytes - at → FillsTexts filled n bytes0 (take at bytes ++ part) ends0 ends
fills_part filled n at bytes0 bytes ends0 ends part f size =
    let room = f.room in
    let behind = f.behind in
    let same = length-filled bytes part at room size in
    let front = length-take at bytes in
    record {
      order = f.fills.order;
      inside = λ j below. rw same (f.fills.inside j below);
      short = f.fills.short;
      rest = f.fills.rest;
      before = take-append-le filled (take at bytes) part (omega (arith, front, behind, room)) ∙ take-take filled at bytes behind ∙ f.fills.before;
      same_bytes = same ∙ f.fills.same_bytes;
      same_ends = f.fills.same_ends;
    }

text_part : (filled n at : ℕ) (bytes0 bytes ends0 ends part : List ℕ) → Fills filled n at bytes0 bytes ends0 ends → (j : ℕ) → j < n → string_held filled bytes ends j ≡ string_held filled (take at bytes ++ part) ends j
text_part filled n at bytes0 bytes ends0 ends part f j below =
    let begins = f.begins in
    let risen = ends_rise filled ends n f.fills.order j below in
    sym (held_front bytes part (begin_of filled ends j) (end_of ends j) at (f.fills.order j below) (omega (arith, risen, begins)) f.room)

pub row_stops : (s0 s1 s2 : SourceView) (b : Bytestream) (c0 c1 c2 : Chunk) (want filled n at : ℕ) (found : ReadFault) (bytes0 bytes ends0 ends out part : List ℕ) → n < want → Row s0 b c0 want filled n at bytes0 bytes ends0 ends c1 s1
    → out ≡ drop at bytes → length part ≡ length out → LacksText s1 b c1 found c2 s2 → IsFitting s1 b c1 c1.at (length out) found → StopsStrings s0 b c0 want filled n found bytes0 (take at bytes ++ part) ends0 ends c2 s2
row_stops s0 s1 s2 b c0 c1 c2 want filled n at found bytes0 bytes ends0 ends out part below f out_is same lacks fits =
    let out_size : length out ≡ length bytes - at = ap (λ (xs : List ℕ). length xs) out_is ∙ length-drop at bytes in
    let begins = f.buffers.begins in
    let all = length-filled bytes part at f.buffers.room (same ∙ out_size) in
    stops_at s0 s1 s2 b c0 c1 c2 want filled n (length out) found bytes0 (take at bytes ++ part) ends0 ends below (fills_part filled n at bytes0 bytes ends0 ends part f.buffers (same ∙ out_size))
    (reads_same s0 s1 b c0 c1 n n (string_held filled bytes ends) (string_held filled (take at bytes ++ part) ends) (λ j early. text_part filled n at bytes0 bytes ends0 ends part f.buffers j early) f.reads) lacks (omega (arith, out_size, begins, all)) fits
