-- Integers of one chunk, and integers of which only one value is possible.
use Rattle.std.specs.Prelude.{◌≡◌, ℕ, ◌+◌, ◌-◌, ◌<◌, ◌≤◌, ◌==◌, ◌⊎◌, min, true, false, ℤ, pos, List, length, take, drop, replicate, ◌++◌, get_or, Some, None, IsSome, IsOk, Result, Ok, Err}
use Rattle.std.specs.Result.{IsOkAnd}
use Rattle.std.proofs.Common.{refl, sym, subst, ap, ◌∙◌, arith, inl, inr, ⊎_elim}
use Rattle.std.proofs.lemmas.Bool.{cases_Bool, eqb-true}
use Rattle.std.proofs.lemmas.List.{length-take, length-replicate, get_or-replicate, get_or_append_left}
use Rattle.e57_base.specs.Source.{SourceView}
use Rattle.e57_base.proofs.Told.{told_map, told_all}
use Rattle.e57_base.specs.declared.fault.Fault.{Fault}
use Rattle.e57_base.specs.declared.fault.ReadFault.{ReadFault}
use Rattle.e57_base.specs.declared.fault.ReadFault.TheVariants.{Refused, Source}
use Rattle.e57_layout.specs.Values.{integers, strings, Value, whole}
use Rattle.e57_layout.specs.Widths.{width}
use Rattle.e57_cloud.specs.PathItem.{ChunkAt, and_then, path, chunk_at, constant_of, item_of}
use Rattle.e57_index.specs.declared.cursor.Found.{Found}
use Rattle.e57_stream.specs.Asking.{AsksMet}
use Rattle.e57_stream.proofs.AskingLaws.{asks_met_none, asks_met_map}
use Rattle.e57_stream.specs.Integers.{kind_of as kind_of_range, whole_at, FillsIntegers, ReadsIntegers, StopsIntegers}
use Rattle.e57_stream.specs.Reading.{IsMet, IsOf, IsItemCause}
use Rattle.e57_stream.specs.Standing.{wanted as wanted_here}
use Rattle.e57_stream.specs.declared.bytestream.Bytestream.{Bytestream}
use Rattle.e57_stream.specs.declared.bytestream.Integers.{Integers}
use Rattle.e57_stream.specs.declared.chunk.Chunk.{Chunk}
use Rattle.e57_column.specs.declared.finder.Finder.{Finder}
use Rattle.e57_column.specs.declared.state.Items.{Items}
use Rattle.e57_column.specs.declared.state.Items.TheVariants.{Whole}
use Rattle.e57_column.specs.declared.state.Place.{Place}
use Rattle.e57_column.specs.declared.state.Place.TheVariants.{Nowhere, Outside, Inside}
use Rattle.e57_column.specs.declared.state.State.{State}
use Rattle.e57_column.specs.Finding.{IsFinder, FinderStands, AreIn, OnSearch, Finds, IsFindCause, FindsNot}
use Rattle.e57_column.specs.Column.{kind_of, placed_at, placed, column_item, column_length, IsPlaced, IsColumn, StandsIn}
use Rattle.e57_column.specs.Reading.{OnRecords, AsksRecords, IsCause, AreOfChunk, StaysIn, HasNoLength, SeeksNot, ReadsRecords, KeepsRest, IsLimited, AreLimited, ReadsInto, StopsInto}
use Rattle.e57_column.specs.Going.{GoesTo, FindsPaths}
use Rattle.e57_column.proofs.Finders.{item_kind}
use Rattle.e57_column.proofs.Chunks.{ReadsChunk, IsChunkCause, StopsChunk, reads_one, stops_one}
use Rattle.e57_cloud.proofs.Laws.Reached.{chunk_at-indexed}
use Rattle.e57_stream.proofs.Parts.{behind_front, length_front}

-- ---- what the items are

pub varies-is : (range : Integers) → range.width ≡ width range.low range.high → 0 < range.width → constant_of (integers range.low range.high) ≡ None
varies-is range is some =
    ⊎_elim
    (λ (none : (width range.low range.high == 0) ≡ true). let same = eqb-true (width range.low range.high) 0 none in absurd (omega (arith, same, is, some)))
    (λ (not_none : (width range.low range.high == 0) ≡ false). rw not_none refl)
    (cases_Bool (width range.low range.high == 0))

pub constant-is : (range : Integers) → range.width ≡ width range.low range.high → range.width ≡ 0 → constant_of (integers range.low range.high) ≡ Some (whole range.low)
constant-is range is none = let zero_is : width range.low range.high ≡ 0 = sym is ∙ none in rw zero_is refl

-- ---- integers of a chunk

pub ints-chunk : (old new : SourceView) (b : Bytestream) (range : Integers) (before after : Chunk) (n : ℕ) (out out' : List ℤ) → ReadsIntegers old b range before n n out out' after new → ReadsChunk old b (kind_of_range range) before n n (whole_at out') after new
ints-chunk old new b range before after n out out' r = record {
  start = r.reads.stays.start;
  until = r.reads.stays.until;
  entry = r.reads.stays.entry;
  onward = r.reads.stays.onward;
  at = r.reads.at;
  read_to = r.reads.stays.within;
  near = r.reads.near;
  met = let count : min (n + 1) n ≡ n = omega arith in subst (λ (m : ℕ). AsksMet (λ file p. IsOf file b (kind_of_range range) before → IsMet file b (kind_of_range range) before before.at m p) old new) count r.reads.met;
  items = r.reads.items;
  stands = r.reads.stands;
}

ints-cause : (old new : SourceView) (b : Bytestream) (range : Integers) (chunk : Chunk) (i : ℕ) (found : ReadFault) → IsItemCause old b (kind_of_range range) chunk i found new → IsChunkCause old b (kind_of_range range) chunk i found new
ints-cause old new b range chunk i (Refused found) cause = (item_kind found.kind cause.0, cause.1)
ints-cause old new b range chunk i Source cause = cause

pub ints-stop : (old new : SourceView) (b : Bytestream) (range : Integers) (before after : Chunk) (want wider done : ℕ) (found : ReadFault) (out out' : List ℤ) → want ≤ wider → StopsIntegers old b range before want done found out out' after new → StopsChunk old b (kind_of_range range) before wider done found (whole_at out') new
ints-stop old new b range before after want wider done found out out' most s = let below = s.stops.below in record { below = omega (arith, below, most); met = s.stops.met; items = s.stops.items; cause = ints-cause old new b range before (before.at + done) found s.stops.cause }

-- the buffer
ints-rest : (range : Integers) (n : ℕ) (out out' : List ℤ) → FillsIntegers range n out out' → KeepsRest (pos 0) n out out'
ints-rest range n out out' fills = record { rest = fills.rest; same_length = fills.same_length }

ints-within : (range : Integers) (n : ℕ) (out out' : List ℤ) → FillsIntegers range n out out' → AreLimited (pos 0) whole (integers range.low range.high) n out'
ints-within range n out out' fills j below = (fills.least j below, fills.most j below)

-- what a step answers
pub record ReadsStep (old : SourceView) (before : State) (n : ℕ) (out out' : List ℤ) (new : SourceView) (after : State) : Type 0 where
  pub some : 0 < n
  pub few : n ≤ length out
  pub column : IsColumn after
  pub reads : ReadsInto (pos 0) whole old before n out out' new after

pub reads-ints : (old mid new : SourceView) (before c : State) (range : Integers) (n : ℕ) (out out' : List ℤ) (chunk' : Chunk) → before.items ≡ Whole range → range.width ≡ width range.low range.high → 0 < range.width → 0 < length out → IsColumn c
    → GoesTo old before before.chunk.at mid c → n ≡ wanted_here c.chunk (length out) → ReadsIntegers mid c.stream range c.chunk (wanted_here c.chunk (length out)) n out out' chunk' new
    → ReadsStep old before n out out' new (record c { chunk = chunk' })
reads-ints old mid new before c range n out out' chunk' items is some room column goes count r =
    let at = goes.is_at in
    let high = goes.high in
    let same : c.items ≡ Whole range = goes.same.items ∙ items in
    let whole_r = subst (λ (k : ℕ). ReadsIntegers mid c.stream range c.chunk k n out out' chunk' new) (sym count) r in
    let there = subst (λ (x : Items). ReadsChunk mid c.stream (kind_of x) c.chunk n n (whole_at out') chunk' new) (sym same) (ints-chunk mid new c.stream range c.chunk chunk' n out out' whole_r) in
    let varies = subst (λ (x : Items). constant_of (kind_of x) ≡ None) (sym items) (varies-is range is some) in
    let one = reads_one old mid new before c n n chunk' (whole_at out') varies (omega arith) (omega (arith, count, room, high, at)) (omega (arith, count, high, at)) column goes there in
    record {
      some = omega (arith, count, room, high, at);
      few = omega (arith, count);
      column = one.column;
      reads = record { rest = ints-rest range n out out' r.fills; within = subst (λ (x : Items). AreLimited (pos 0) whole (kind_of x) n out') (sym items) (ints-within range n out out' r.fills); reads = one.reads };
    }

pub record StopsStep (old : SourceView) (before : State) (want done : ℕ) (found : ReadFault) (out out' : List ℤ) (new : SourceView) (after : State) : Type 0 where
  pub column : IsColumn after
  pub stops : StopsInto (pos 0) whole old before want done found out out' new after

pub stops-ints : (old mid new : SourceView) (before c : State) (range : Integers) (done : ℕ) (found : ReadFault) (out out' : List ℤ) (chunk' : Chunk) → before.items ≡ Whole range → range.width ≡ width range.low range.high → 0 < range.width → IsColumn c
    → GoesTo old before before.chunk.at mid c → StopsIntegers mid c.stream range c.chunk (wanted_here c.chunk (length out)) done found out out' chunk' new
    → StopsStep old before (length out) done found out out' new (record c { place = Nowhere; chunk = chunk' })
stops-ints old mid new before c range done found out out' chunk' items is some column goes s =
    let at = goes.is_at in
    let high = goes.high in
    let below = s.stops.below in
    let same : c.items ≡ Whole range = goes.same.items ∙ items in
    let there = subst (λ (x : Items). StopsChunk mid c.stream (kind_of x) c.chunk (length out) done found (whole_at out') new) (sym same) (ints-stop mid new c.stream range c.chunk chunk' (wanted_here c.chunk (length out)) (length out) done found out out' (omega arith) s) in
    let varies = subst (λ (x : Items). constant_of (kind_of x) ≡ None) (sym items) (varies-is range is some) in
    let one = stops_one old mid new before c (length out) done chunk' found (whole_at out') varies (omega (arith, below, high, at)) column goes there in
    record { column = one.column; stops = record { rest = ints-rest range done out out' s.fills; within = subst (λ (x : Items). AreLimited (pos 0) whole (kind_of x) done out') (sym items) (ints-within range done out out' s.fills); stops = one.stops } }

-- a stop before the first item
pub stops-first : {X : Type 0} (d : X) (value : X → Value) (old new : SourceView) (before after : State) (want : ℕ) (found : ReadFault) (out : List X) → 0 < want → SeeksNot old before before.chunk.at found new after → StopsInto d value old before want 0 found out out new after
stops-first d value old new before after want found out some s = record {
  rest = record { rest = λ j past. refl; same_length = refl };
  within = λ j below. absurd (omega (arith, below));
  stops = record {
    below = some;
    is_at = s.is_at;
    same = s.same;
    met = s.met;
    items = told_all (λ file. StandsIn file before → (j : ℕ) → j < 0 → column_item file before (before.chunk.at + j) ≡ Ok (value (get_or out j d))) old.held (λ file is j below. absurd (omega (arith, below)));
    stands = s.stands;
    cause = let none : before.chunk.at ≡ before.chunk.at + 0 = omega arith in subst (λ (i : ℕ). IsCause old before i found new) none s.cause;
  };
}

-- ---- only one value

pub outside-is : (c : State) (v : Value) → IsColumn c → IsSome (placed c) → constant_of (kind_of c.items) ≡ Some v → c.place ≡ Outside
outside-is c v is at constant = cases c.place at is.sound
  where
    cases : (p : Place) → IsSome (placed_at p c.chunk.at) → IsPlaced p c.stream.section (kind_of c.items) c.chunk → p ≡ Outside
    cases Nowhere at sound = cc
    cases Outside at sound = refl
    cases Inside at sound = absurd (let varies = sound.varies in cc)

-- the item of a record whose path has no fault
pub constant-item : (file : List ℕ) (c : State) (v : Value) (i : ℕ) → constant_of (kind_of c.items) ≡ Some v → IsOk (path file c.stream.section i) → column_item file c i ≡ Ok v
unfolding item_of
constant-item file c v i constant is = rw constant (through (path file c.stream.section i) is)
  where
    through : (r : Result ChunkAt Fault) → IsOk r → and_then r (λ chunk. Ok v) ≡ Ok v
    through (Ok chunk) is = refl
    through (Err found) is = cc

pub constant-lost : (file : List ℕ) (c : State) (v : Value) (i : ℕ) (found : Fault) → constant_of (kind_of c.items) ≡ Some v → path file c.stream.section i ≡ Err found → column_item file c i ≡ Err found
unfolding item_of
constant-lost file c v i found constant is = rw (constant, is) refl

-- without an index
pub paths-none : (source : SourceView) (c : State) (n : ℕ) → (c.stream.section.index == 0) ≡ true → FindsPaths source c n source c.finder
unfolding path
paths-none source c n unindexed = record {
  met = asks_met_none (λ file p. StandsIn file c → OnRecords file c c.chunk.at n p) source;
  paths = told_all (λ file. StandsIn file c → (j : ℕ) → j < n → IsOk (path file c.stream.section (c.chunk.at + j))) source.held (λ file stands j below. rw unindexed refl);
  stands = told_all (λ file. StandsIn file c → FinderStands file c.finder) source.held (λ file stands. stands.finder);
}

-- with an index
indexed-way : (file : List ℕ) (c : State) (i p n : ℕ) → (c.stream.section.index == 0) ≡ false → i ≡ c.chunk.at → 0 < n → OnSearch file c.stream i p → OnRecords file c c.chunk.at n p
indexed-way file c i p n indexed at some (inl on) = record { i = i; after = omega (arith, at); before = omega (arith, at, some); way = inl on }
indexed-way file c i p n indexed at some (inr on) = absurd (let zero_is = on.0 in let e : (0 == 0) ≡ false = subst (λ (k : ℕ). (k == 0) ≡ false) zero_is indexed in cc)

indexed-met : (old new : SourceView) (c : State) (n : ℕ) → (c.stream.section.index == 0) ≡ false → 0 < n → AsksMet (λ file p. FinderStands file c.finder → OnSearch file c.stream c.chunk.at p) old new → AsksRecords old c c.chunk.at n new
indexed-met old new c n indexed some met =
    asks_met_map (λ file p. FinderStands file c.finder → OnSearch file c.stream c.chunk.at p) (λ file p. StandsIn file c → OnRecords file c c.chunk.at n p) old new
    (told_all (λ file. (p : ℕ) → (FinderStands file c.finder → OnSearch file c.stream c.chunk.at p) → StandsIn file c → OnRecords file c c.chunk.at n p) old.held
    (λ file p on stands. indexed-way file c c.chunk.at p n indexed refl some (on stands.finder))) met

ok-path : (file : List ℕ) (b : Bytestream) (start place i : ℕ) → (b.section.index == 0) ≡ false → IsOkAnd (chunk_at file b.section b.fixed i) (λ chunk. (chunk.first ≡ start) × (chunk.place ≡ place)) → IsOk (path file b.section i)
ok-path file b start place i indexed is = some (path file b.section i) (subst (λ (r : Result ChunkAt Fault). IsOkAnd r (λ chunk. (chunk.first ≡ start) × (chunk.place ≡ place))) (chunk_at-indexed file b.section b.fixed i indexed) is)
  where
    some : (r : Result ChunkAt Fault) → IsOkAnd r (λ chunk. (chunk.first ≡ start) × (chunk.place ≡ place)) → IsOk r
    some (Ok chunk) x = refl
    some (Err found) x = absurd x

pub paths-indexed : (old new : SourceView) (c : State) (n : ℕ) (found : Found) (after : Finder) → (c.stream.section.index == 0) ≡ false → 0 < n → c.chunk.at + n ≤ found.until → Finds old c.stream c.finder c.chunk.at found new after → FindsPaths old c n new after
paths-indexed old new c n found after indexed some room f = record {
  met = indexed-met old new c n indexed some f.met;
  paths = told_map (λ file. FinderStands file c.finder → AreIn file c.stream found.start found.place c.chunk.at found.until) (λ file. StandsIn file c → (j : ℕ) → j < n → IsOk (path file c.stream.section (c.chunk.at + j))) old.held
      (λ file are stands j below. ok-path file c.stream found.start found.place (c.chunk.at + j) indexed (are stands.finder (c.chunk.at + j) (omega arith) (omega (arith, below, room)))) f.are;
  stands = told_map (λ file. FinderStands file c.finder → FinderStands file after) (λ file. StandsIn file c → FinderStands file after) old.held (λ file on stands. on stands.finder) f.stands;
}

-- the state after n records
abbrev pub passed : State → ℕ → Finder → State
passed c n f = record c { chunk = record c.chunk { at = c.chunk.at + n }; finder = f }

pub constant-column : (c : State) (v : Value) (n : ℕ) (f : Finder) → IsColumn c → IsSome (placed c) → constant_of (kind_of c.items) ≡ Some v → c.chunk.at + n ≤ c.stream.section.count → IsFinder c.stream.section c.stream.fixed f → IsColumn (passed c n f)
constant-column c v n f is at constant room finder = record {
  items = is.items;
  is_field = is.is_field;
  finder = finder;
  sound = subst (λ (p : Place). IsPlaced p c.stream.section (kind_of c.items) (record c.chunk { at = c.chunk.at + n })) (sym (outside-is c v is at constant)) room;
}

not-inside : (p : Place) → p ≡ Outside → p ≡ Inside → ⊥
not-inside p out inside = let e : Outside ≡ Inside = sym out ∙ inside in cc

pub constant-reads : (old new : SourceView) (c : State) (low : ℤ) (n : ℕ) (f : Finder) (out : List ℤ) → IsColumn c → IsSome (placed c) → constant_of (kind_of c.items) ≡ Some (whole low) → 0 < n → ((j : ℕ) → j < n → get_or out j (pos 0) ≡ low) → FindsPaths old c n new f
    → ReadsRecords old c c.chunk.at n n (λ j. whole (get_or out j (pos 0))) new (passed c n f)
constant-reads old new c low n f out is at constant some filled paths =
    let outside = outside-is c (whole low) is at constant in
    record {
      is_at = ap (λ (p : Place). placed_at p (c.chunk.at + n)) outside;
      same = record { stream = refl; items = refl };
      met = paths.met;
      items = told_map (λ file. StandsIn file c → (j : ℕ) → j < n → IsOk (path file c.stream.section (c.chunk.at + j))) (λ file. StandsIn file c → (j : ℕ) → j < n → column_item file c (c.chunk.at + j) ≡ Ok (whole (get_or out j (pos 0)))) old.held
          (λ file ok stands j below. constant-item file c (whole low) (c.chunk.at + j) constant (ok stands j below) ∙ ap (λ (z : ℤ). Ok (whole z)) (sym (filled j below))) paths.paths;
      stands = told_map (λ file. StandsIn file c → FinderStands file f) (λ file. StandsIn file c → StandsIn file (passed c n f)) old.held
          (λ file on stands. record { finder = on stands; chunk = λ inside. absurd (not-inside c.place outside inside) }) paths.stands;
      near = told_all (λ file. AreOfChunk file c c.chunk.at n → StaysIn file old c c.chunk.at n new (passed c n f)) old.held (λ file of. absurd (not-inside c.place outside of.inside));
      chunk = λ varies has. absurd (let e : None ≡ Some (whole low) = sym varies ∙ constant in cc);
      none = λ zero_is. absurd (omega (arith, zero_is, some));
    }

constant-cause : (old new : SourceView) (c : State) (low : ℤ) (found : ReadFault) → constant_of (kind_of c.items) ≡ Some (whole low) → (c.stream.section.index == 0) ≡ false → IsFindCause old c.stream c.finder c.chunk.at found new → IsCause old c c.chunk.at found new
constant-cause old new c low (Refused found) constant indexed cause = (
  cause.0,
  told_map (λ file. FinderStands file c.finder → chunk_at file c.stream.section c.stream.fixed c.chunk.at ≡ Err found) (λ file. StandsIn file c → column_item file c c.chunk.at ≡ Err found) old.held
      (λ file lost stands. constant-lost file c (whole low) c.chunk.at found constant (sym (chunk_at-indexed file c.stream.section c.stream.fixed c.chunk.at indexed) ∙ lost stands.finder)) cause.1,
)
constant-cause old new c low Source constant indexed cause = cause

-- it isn't a string
constant-length : (old : SourceView) (c : State) (low : ℤ) (found : ReadFault) → constant_of (kind_of c.items) ≡ Some (whole low) → HasNoLength old c c.chunk.at found
constant-length old c low (Refused found) constant =
    told_all (λ file. StandsIn file c → kind_of c.items ≡ strings → column_length file c c.chunk.at ≡ Err found) old.held
    (λ file stands kind. absurd (let e : None ≡ Some (whole low) = sym (ap constant_of kind) ∙ constant in cc))
constant-length old c low Source constant = tt

-- the path wasn't found
pub constant-stops : (old new : SourceView) (c : State) (low : ℤ) (found : ReadFault) (f : Finder) → constant_of (kind_of c.items) ≡ Some (whole low) → (c.stream.section.index == 0) ≡ false → FindsNot old c.stream c.finder c.chunk.at found new f
    → SeeksNot old c c.chunk.at found new (record c { place = Nowhere; finder = f })
constant-stops old new c low found f constant indexed lost = record {
  is_at = refl;
  same = record { stream = refl; items = refl };
  met = indexed-met old new c 1 indexed (omega arith) lost.met;
  stands = told_map (λ file. FinderStands file c.finder → FinderStands file f) (λ file. StandsIn file c → StandsIn file (record c { place = Nowhere; finder = f })) old.held
      (λ file on stands. record { finder = on stands.finder; chunk = λ no. absurd cc }) lost.stands;
  cause = constant-cause old new c low found constant indexed lost.cause;
  length = constant-length old c low found constant;
}

filled-with : (n : ℕ) (low : ℤ) (out part : List ℤ) → n ≤ length out → part ≡ replicate (length (take n out)) low → (length part ≡ n) × ((j : ℕ) → j < n → get_or (part ++ drop n out) j (pos 0) ≡ low)
filled-with n low out part room is =
    let front : length (take n out) ≡ n = length-take n out ∙ omega (arith, room) in
    let same : part ≡ replicate n low = is ∙ ap (λ (k : ℕ). replicate k low) front in
    let size : length part ≡ n = ap (λ (l : List ℤ). length l) same ∙ length-replicate n low in
    (size, λ j below. get_or_append_left part (drop n out) (pos 0) j (omega (arith, size, below)) ∙ ap (λ (l : List ℤ). get_or l j (pos 0)) same ∙ get_or-replicate n j low (pos 0) below)

-- what a step over such integers answers
pub constant-into : (old new : SourceView) (c after : State) (low : ℤ) (n : ℕ) (out part : List ℤ) → IsColumn c → IsSome (placed c) → constant_of (kind_of c.items) ≡ Some (whole low) → IsLimited (kind_of c.items) (whole low) → n ≤ length out → 0 < n → part ≡ replicate (length (take n out)) low
    → after ≡ record c { finder = after.finder } → FindsPaths old c n new after.finder → ReadsInto (pos 0) whole old c n out (part ++ drop n out) new (record after { chunk = record after.chunk { at = after.chunk.at + n } })
constant-into old new c after low n out part is at constant within room some filled same paths =
    let fills = filled-with n low out part room filled in
    subst (λ (x : State). ReadsInto (pos 0) whole old c n out (part ++ drop n out) new (record x { chunk = record x.chunk { at = x.chunk.at + n } })) (sym same)
    (record {
      rest = record { rest = λ j past. behind_front out part n j (pos 0) fills.0 past; same_length = length_front out part n fills.0 room };
      within = λ j below. subst (λ (z : ℤ). IsLimited (kind_of c.items) (whole z)) (sym (fills.1 j below)) within;
      reads = constant-reads old new c low n after.finder (part ++ drop n out) is at constant some fills.1 paths;
    })

pub constant-stop : (old new : SourceView) (c after : State) (low : ℤ) (found : ReadFault) (out : List ℤ) → constant_of (kind_of c.items) ≡ Some (whole low) → 0 < length out → after ≡ record c { finder = after.finder }
    → (c.stream.section.index == 0) ≡ false → FindsNot old c.stream c.finder c.chunk.at found new after.finder → StopsInto (pos 0) whole old c (length out) 0 found out out new (record after { place = Nowhere })
constant-stop old new c after low found out constant some same indexed lost =
    subst (λ (x : State). StopsInto (pos 0) whole old c (length out) 0 found out out new (record x { place = Nowhere })) (sym same)
    (stops-first (pos 0) whole old new c (record c { place = Nowhere; finder = after.finder }) (length out) found out some (constant-stops old new c low found after.finder constant indexed lost))
