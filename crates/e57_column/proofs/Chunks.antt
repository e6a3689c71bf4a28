-- Items of one chunk are records of the column.
use Rattle.std.specs.Prelude.{◌≡◌, ℕ, ◌+◌, ◌-◌, ◌<◌, ◌≤◌, true, List, Some, None, IfSome, Ok, Err}
use Rattle.std.proofs.Common.{refl, sym, subst, ap, ◌∙◌, arith}
use Rattle.e57_base.proofs.CountLaws.{rose_before}
use Rattle.e57_base.specs.Count.{Rose}
use Rattle.e57_base.specs.Source.{SourceView}
use Rattle.e57_base.proofs.Told.{told_map, told_both, told_here, told_all}
use Rattle.e57_base.specs.declared.fault.ReadFault.{ReadFault}
use Rattle.e57_base.specs.declared.fault.ReadFault.TheVariants.{Refused, Source}
use Rattle.e57_layout.specs.Values.{ItemKind, Value}
use Rattle.e57_cloud.specs.PathItem.{constant_of}
use Rattle.e57_stream.specs.Asking.{AsksMet, AsksNear}
use Rattle.e57_stream.proofs.AskingLaws.{asks_met_map, asks_met_on}
use Rattle.e57_stream.specs.Reading.{IsMet, chunk_item}
use Rattle.e57_stream.specs.declared.bytestream.Bytestream.{Bytestream}
use Rattle.e57_stream.specs.declared.chunk.Chunk.{Chunk}
use Rattle.e57_column.specs.declared.finder.Finder.{Finder}
use Rattle.e57_column.specs.declared.state.Place.TheVariants.{Nowhere, Inside}
use Rattle.e57_column.specs.declared.state.State.{State}
use Rattle.e57_column.specs.Finding.{IsIn, is_column_kind}
use Rattle.e57_column.specs.Column.{kind_of, leaf_of, column_item, IsRead, IsColumn, IsReadOf, IsChunkOf, StandsIn}
use Rattle.e57_column.specs.Reading.{OnRecords, AsksRecords, IsCause, OnCounts, AreOfChunk, StaysIn, ReadsRecords, StopsRecords}
use Rattle.e57_column.specs.Going.{GoesTo}
use Rattle.e57_column.proofs.Apart.{apart_on, apart_near}
use Rattle.e57_column.proofs.Ways.{item_of-in, walk-item}
use Rattle.e57_column.proofs.Entering.{start-low, sound-inside}
use Rattle.e57_column.proofs.Arriving.{at_chunk, at_nowhere, state-is}

-- Of the chunk's records from the next one on n were read, and m were read or looked at.
pub record ReadsChunk (old : SourceView) (b : Bytestream) (kind : ItemKind) (before : Chunk) (n m : ℕ) (read : ℕ → Value) (after : Chunk) (new : SourceView) : Type 0 where
  pub start : after.start ≡ before.start
  pub until : after.until ≡ before.until
  pub entry : after.entry ≡ before.entry
  pub onward : before.taken ≤ after.taken
  pub at : after.at ≡ before.at + n
  pub read_to : IsRead b.section kind after
  pub near : AsksNear before.taken after.taken old new
  pub met : AsksMet (λ file p. IsReadOf file b kind before → IsMet file b kind before before.at m p) old new
  pub items : IfSome old.held (λ file. IsReadOf file b kind before → (j : ℕ) → j < n → chunk_item file b kind before (before.at + j) ≡ Ok (read j))
  pub stands : IfSome old.held (λ file. IsReadOf file b kind before → IsReadOf file b kind after)

-- why the item of record i of the chunk wasn't read
abbrev pub IsChunkCause : SourceView → Bytestream → ItemKind → Chunk → ℕ → ReadFault → SourceView → Type 0
IsChunkCause old b kind chunk i (Refused found) new =
    (is_column_kind found.kind ≡ true) × IfSome old.held (λ file. IsReadOf file b kind chunk → chunk_item file b kind chunk i ≡ Err found)
IsChunkCause old b kind chunk i Source new = Rose old.faults new.faults

-- Of the chunk's records `done` were read, and the next one wasn't.
pub record StopsChunk (old : SourceView) (b : Bytestream) (kind : ItemKind) (before : Chunk) (want done : ℕ) (found : ReadFault) (read : ℕ → Value) (new : SourceView) : Type 0 where
  pub below : done < want
  pub met : AsksMet (λ file p. IsReadOf file b kind before → IsMet file b kind before before.at (done + 1) p) old new
  pub items : IfSome old.held (λ file. IsReadOf file b kind before → (j : ℕ) → j < done → chunk_item file b kind before (before.at + j) ≡ Ok (read j))
  pub cause : IsChunkCause old b kind before (before.at + done) found new

-- ---- where the column came to

-- What is known of the file where the column came to a record.
pub came-in : (old mid : SourceView) (before : State) (i : ℕ) (chunk : Chunk) (f : Finder) → GoesTo old before i mid (at_chunk before chunk f) → IfSome old.held (λ file. StandsIn file before → IsChunkOf file before.stream (kind_of before.items) chunk)
came-in old mid before i chunk f goes =
    told_map (λ file. StandsIn file before → StandsIn file (at_chunk before chunk f)) (λ file. StandsIn file before → IsChunkOf file before.stream (kind_of before.items) chunk) old.held
    (λ file on stands. (on stands).chunk refl) goes.stands

-- pages for the records of the chunk
records-of : (file : List ℕ) (before : State) (a m p : ℕ) (chunk : Chunk) → constant_of (kind_of before.items) ≡ None → chunk.at ≡ a → a + m ≤ chunk.until → IsChunkOf file before.stream (kind_of before.items) chunk
    → IsMet file before.stream (kind_of before.items) chunk chunk.at m p → OnRecords file before a m p
records-of file before a m p chunk varies at room is met =
    let low = met.after in
    let high = met.before in
    record { i = met.i; after = omega (arith, low, at); before = omega (arith, high, at); way = walk-item file before.stream (leaf_of before) met.i p chunk.start chunk.entry varies (is.records met.i low (omega (arith, high, at, room))) met.way }

wider-records : (old new : SourceView) (before : State) (a n m : ℕ) → n ≤ m → AsksRecords old before a n new → AsksRecords old before a m new
wider-records old new before a n m most met =
    asks_met_map (λ file p. StandsIn file before → OnRecords file before a n p) (λ file p. StandsIn file before → OnRecords file before a m p) old new
    (told_all (λ file. (p : ℕ) → (StandsIn file before → OnRecords file before a n p) → StandsIn file before → OnRecords file before a m p) old.held
    (λ file p on stands. let one = on stands in let high = one.before in record { i = one.i; after = one.after; before = omega (arith, high, most); way = one.way })) met

chunk-met : (old mid new : SourceView) (before : State) (a m : ℕ) (chunk : Chunk) (f : Finder) → constant_of (kind_of before.items) ≡ None → 0 < m → a + m ≤ chunk.until → GoesTo old before a mid (at_chunk before chunk f)
    → AsksMet (λ file p. IsReadOf file before.stream (kind_of before.items) chunk → IsMet file before.stream (kind_of before.items) chunk chunk.at m p) mid new → AsksRecords old before a m new
chunk-met old mid new before a m chunk f varies some room goes met =
    asks_met_on (λ file p. StandsIn file before → OnRecords file before a m p) old mid new (wider-records old mid before a 1 m (omega (arith, some)) goes.met)
    (asks_met_map (λ file p. IsReadOf file before.stream (kind_of before.items) chunk → IsMet file before.stream (kind_of before.items) chunk chunk.at m p) (λ file p. StandsIn file before → OnRecords file before a m p) mid new
    (told_map (λ file. StandsIn file before → IsChunkOf file before.stream (kind_of before.items) chunk)
    (λ file. (p : ℕ) → (IsReadOf file before.stream (kind_of before.items) chunk → IsMet file before.stream (kind_of before.items) chunk chunk.at m p) → StandsIn file before → OnRecords file before a m p) mid.held
    (λ file is p on stands. let here = is stands in records-of file before a m p chunk varies goes.is_at room here (on here.read))
    (told_here (λ file. StandsIn file before → IsChunkOf file before.stream (kind_of before.items) chunk) old.held mid.held goes.met.asks.same.held (came-in old mid before a chunk f goes)))
    met)

chunk-items : (old mid : SourceView) (before : State) (a n : ℕ) (chunk : Chunk) (f : Finder) (read : ℕ → Value) → constant_of (kind_of before.items) ≡ None → a + n ≤ chunk.until → GoesTo old before a mid (at_chunk before chunk f)
    → IfSome mid.held (λ file. IsReadOf file before.stream (kind_of before.items) chunk → (j : ℕ) → j < n → chunk_item file before.stream (kind_of before.items) chunk (chunk.at + j) ≡ Ok (read j))
    → IfSome old.held (λ file. StandsIn file before → (j : ℕ) → j < n → column_item file before (a + j) ≡ Ok (read j))
chunk-items old mid before a n chunk f read varies room goes items =
    told_both (λ file. StandsIn file before → IsChunkOf file before.stream (kind_of before.items) chunk)
    (λ file. IsReadOf file before.stream (kind_of before.items) chunk → (j : ℕ) → j < n → chunk_item file before.stream (kind_of before.items) chunk (chunk.at + j) ≡ Ok (read j))
    (λ file. StandsIn file before → (j : ℕ) → j < n → column_item file before (a + j) ≡ Ok (read j)) old.held
    (λ file is read_is stands j below. let here = is stands in one file here j below (read_is here.read j below)) (came-in old mid before a chunk f goes)
    (told_here (λ file. IsReadOf file before.stream (kind_of before.items) chunk → (j : ℕ) → j < n → chunk_item file before.stream (kind_of before.items) chunk (chunk.at + j) ≡ Ok (read j)) mid.held old.held (sym goes.met.asks.same.held) items)
  where
    one : (file : List ℕ) → IsChunkOf file before.stream (kind_of before.items) chunk → (j : ℕ) → j < n → chunk_item file before.stream (kind_of before.items) chunk (chunk.at + j) ≡ Ok (read j) → column_item file before (a + j) ≡ Ok (read j)
    one file is j below read_is =
        let at = goes.is_at in
        let place : a + j ≡ chunk.at + j = omega (arith, at) in
        ap (column_item file before) place ∙ item_of-in file before.stream (leaf_of before) (chunk.at + j) chunk.start chunk.entry chunk.until varies (is.records (chunk.at + j) (omega arith) (omega (arith, at, below, room))) ∙ read_is

-- ---- records were read

read-column : (old mid new : SourceView) (before : State) (a n m : ℕ) (chunk chunk' : Chunk) (f : Finder) (read : ℕ → Value) → IsColumn (at_chunk before chunk f) → ReadsChunk mid before.stream (kind_of before.items) chunk n m read chunk' new → IsColumn (at_chunk before chunk' f)
read-column old mid new before a n m chunk chunk' f read is r =
    let inside = sound-inside before.stream.section (kind_of before.items) chunk Inside refl is.sound in
    let start = r.start in
    let until = r.until in
    let some = inside.some in
    let most = inside.most in
    record { items = is.items; is_field = is.is_field; finder = is.finder; sound = record { varies = inside.varies; some = omega (arith, some, start, until); most = omega (arith, most, until); read = r.read_to } }

chunk-of : (file : List ℕ) (b : Bytestream) (kind : ItemKind) (n : ℕ) (chunk chunk' : Chunk) → chunk'.start ≡ chunk.start → chunk'.until ≡ chunk.until → chunk'.entry ≡ chunk.entry → chunk'.at ≡ chunk.at + n → IsChunkOf file b kind chunk → IsReadOf file b kind chunk' → IsChunkOf file b kind chunk'
chunk-of file b kind n chunk chunk' start until entry at is read = record {
  records = rw (start, entry, until) (λ i from below. is.records i (omega (arith, from, at)) below);
  led = rw (start, entry, until) is.led;
  read = read;
}

read-stands : (old mid new : SourceView) (before : State) (a n m : ℕ) (chunk chunk' : Chunk) (f : Finder) (read : ℕ → Value) → GoesTo old before a mid (at_chunk before chunk f) → ReadsChunk mid before.stream (kind_of before.items) chunk n m read chunk' new
    → IfSome old.held (λ file. StandsIn file before → StandsIn file (at_chunk before chunk' f))
read-stands old mid new before a n m chunk chunk' f read goes r =
    told_both (λ file. StandsIn file before → StandsIn file (at_chunk before chunk f)) (λ file. IsReadOf file before.stream (kind_of before.items) chunk → IsReadOf file before.stream (kind_of before.items) chunk') (λ file. StandsIn file before → StandsIn file (at_chunk before chunk' f)) old.held
    (λ file on reads stands. let there = on stands in let here = there.chunk refl in record { finder = there.finder; chunk = λ inside. chunk-of file before.stream (kind_of before.items) n chunk chunk' r.start r.until r.entry r.at here (reads here.read) })
    goes.stands
    (told_here (λ file. IsReadOf file before.stream (kind_of before.items) chunk → IsReadOf file before.stream (kind_of before.items) chunk') mid.held old.held (sym goes.met.asks.same.held) r.stands)

stays-on : (file : List ℕ) (old mid new : SourceView) (before : State) (a n m : ℕ) (chunk chunk' : Chunk) (f : Finder) (read : ℕ → Value) → 0 < m → ReadsChunk mid before.stream (kind_of before.items) chunk n m read chunk' new → StaysIn file old before a 1 mid (at_chunk before chunk f) → StaysIn file old before a m new (at_chunk before chunk' f)
stays-on file old mid new before a n m chunk chunk' f read some r s =
    let onward = s.onward in
    let more = r.onward in
    record {
      inside = refl;
      start = r.start ∙ s.start;
      entry = r.entry ∙ s.entry;
      onward = omega (arith, onward, more);
      near = apart_on (OnCounts file before.stream a 1) (OnCounts file before.stream a m) (OnCounts file before.stream a m) before.chunk.taken chunk.taken chunk'.taken old mid new
          (λ p x. let high = x.before in record { i = x.i; after = x.after; before = omega (arith, high, some); way = x.way }) (λ p x. x) onward more s.near (apart_near (OnCounts file before.stream a m) chunk.taken chunk'.taken mid new r.near);
    }

pub fewer-of : (file : List ℕ) (before : State) (a n m : ℕ) → n ≤ m → AreOfChunk file before a m → AreOfChunk file before a n
fewer-of file before a n m most of = record { stands = of.stands; inside = of.inside; records = λ i from below. of.records i from (omega (arith, below, most)) }

reads-here : (old mid new : SourceView) (before : State) (n m : ℕ) (chunk chunk' : Chunk) (f : Finder) (read : ℕ → Value) → constant_of (kind_of before.items) ≡ None → n ≤ m → 0 < m → chunk.at + m ≤ chunk.until → IsColumn (at_chunk before chunk f)
    → GoesTo old before before.chunk.at mid (at_chunk before chunk f) → ReadsChunk mid before.stream (kind_of before.items) chunk n m read chunk' new → ReadsRecords old before before.chunk.at n m read new (at_chunk before chunk' f)
reads-here old mid new before n m chunk chunk' f read varies few some room is goes r =
    let a = before.chunk.at in
    let at = goes.is_at in
    let inside = sound-inside before.stream.section (kind_of before.items) chunk Inside refl is.sound in
    let low = start-low before.stream.section (kind_of before.items) chunk inside.read in
    let start = r.start in
    let until = r.until in
    let there : before.chunk.at + m ≤ chunk.until = omega (arith, at, room) in
    record {
      is_at = let number : chunk'.at ≡ before.chunk.at + n = r.at ∙ omega (arith, at) in ap Some number;
      same = record { stream = refl; items = refl };
      met = chunk-met old mid new before a m chunk f varies some there goes r.met;
      items = chunk-items old mid before a n chunk f read varies (omega (arith, there, few)) goes r.items;
      stands = read-stands old mid new before a n m chunk chunk' f read goes r;
      near = told_map (λ file. before.chunk.at ≡ before.chunk.at → AreOfChunk file before a 1 → StaysIn file old before a 1 mid (at_chunk before chunk f)) (λ file. AreOfChunk file before a m → StaysIn file old before a m new (at_chunk before chunk' f)) old.held
          (λ file near of. stays-on file old mid new before a n m chunk chunk' f read some r (near refl (fewer-of file before a 1 m (omega (arith, some)) of))) goes.near;
      chunk = λ v has. record {
        inside = refl;
        low = omega (arith, start, low, at, some);
        high = omega (arith, until, there, some);
        is = told_map (λ file. StandsIn file before → IsChunkOf file before.stream (kind_of before.items) chunk) (λ file. StandsIn file before → IsIn file before.stream chunk'.start chunk'.entry (before.chunk.at + m - 1)) old.held
            (λ file on stands. rw (r.start, r.entry) ((on stands).records (before.chunk.at + m - 1) (omega (arith, at, some)) (omega (arith, there, some)))) (came-in old mid before a chunk f goes);
      };
      none = λ zero_is. absurd (omega (arith, zero_is, some));
    }

-- ---- a stop

stop-cause : (old mid new : SourceView) (before : State) (done : ℕ) (chunk : Chunk) (f : Finder) (found : ReadFault) → constant_of (kind_of before.items) ≡ None → chunk.at + done < chunk.until → GoesTo old before before.chunk.at mid (at_chunk before chunk f)
    → IsChunkCause mid before.stream (kind_of before.items) chunk (chunk.at + done) found new → IsCause old before (before.chunk.at + done) found new
stop-cause old mid new before done chunk f (Refused found) varies room goes cause = (
  cause.0,
  told_both (λ file. StandsIn file before → IsChunkOf file before.stream (kind_of before.items) chunk) (λ file. IsReadOf file before.stream (kind_of before.items) chunk → chunk_item file before.stream (kind_of before.items) chunk (chunk.at + done) ≡ Err found)
      (λ file. StandsIn file before → column_item file before (before.chunk.at + done) ≡ Err found) old.held
      (λ file is wrong stands. let here = is stands in one file here (wrong here.read)) (came-in old mid before before.chunk.at chunk f goes)
      (told_here (λ file. IsReadOf file before.stream (kind_of before.items) chunk → chunk_item file before.stream (kind_of before.items) chunk (chunk.at + done) ≡ Err found) mid.held old.held (sym goes.met.asks.same.held) cause.1),
)
  where
    one : (file : List ℕ) → IsChunkOf file before.stream (kind_of before.items) chunk → chunk_item file before.stream (kind_of before.items) chunk (chunk.at + done) ≡ Err found → column_item file before (before.chunk.at + done) ≡ Err found
    one file is wrong =
        let at = goes.is_at in
        let place : before.chunk.at + done ≡ chunk.at + done = omega (arith, at) in
        ap (column_item file before) place ∙ item_of-in file before.stream (leaf_of before) (chunk.at + done) chunk.start chunk.entry chunk.until varies (is.records (chunk.at + done) (omega arith) room) ∙ wrong
stop-cause old mid new before done chunk f Source varies room goes cause = rose_before old.faults mid.faults new.faults goes.met.asks.faults cause

stops-here : (old mid new : SourceView) (before : State) (want done : ℕ) (chunk chunk' : Chunk) (f : Finder) (found : ReadFault) (read : ℕ → Value) → constant_of (kind_of before.items) ≡ None → chunk.at + done < chunk.until
    → GoesTo old before before.chunk.at mid (at_chunk before chunk f) → StopsChunk mid before.stream (kind_of before.items) chunk want done found read new → StopsRecords old before before.chunk.at want done found read new (at_nowhere before chunk' f)
stops-here old mid new before want done chunk chunk' f found read varies room goes s =
    let at = goes.is_at in
    record {
      below = s.below;
      is_at = refl;
      same = record { stream = refl; items = refl };
      met = chunk-met old mid new before before.chunk.at (done + 1) chunk f varies (omega arith) (omega (arith, at, room)) goes s.met;
      items = chunk-items old mid before before.chunk.at done chunk f read varies (omega (arith, at, room)) goes s.items;
      stands = told_map (λ file. StandsIn file before → StandsIn file (at_chunk before chunk f)) (λ file. StandsIn file before → StandsIn file (at_nowhere before chunk' f)) old.held
          (λ file on stands. record { finder = (on stands).finder; chunk = λ no. absurd cc }) goes.stands;
      cause = stop-cause old mid new before done chunk f found varies room goes s.cause;
    }

-- ---- for any state in which the column came to the record

pub record Reads (old : SourceView) (before : State) (n m : ℕ) (read : ℕ → Value) (new : SourceView) (after : State) : Type 0 where
  pub column : IsColumn after
  pub reads : ReadsRecords old before before.chunk.at n m read new after

pub reads_one : (old mid new : SourceView) (before c : State) (n m : ℕ) (chunk' : Chunk) (read : ℕ → Value) → constant_of (kind_of before.items) ≡ None → n ≤ m → 0 < m → c.chunk.at + m ≤ c.chunk.until → IsColumn c
    → GoesTo old before before.chunk.at mid c → ReadsChunk mid c.stream (kind_of c.items) c.chunk n m read chunk' new → Reads old before n m read new (record c { chunk = chunk' })
reads_one old mid new before c n m chunk' read varies few some room is goes r =
    let same = state-is before c goes.same goes.inside in
    let there = subst (λ (x : State). GoesTo old before before.chunk.at mid x) same goes in
    let sound = subst (λ (x : State). IsColumn x) same is in
    subst (λ (x : State). ReadsChunk mid x.stream (kind_of x.items) c.chunk n m read chunk' new → Reads old before n m read new (record x { chunk = chunk' })) (sym same)
    (λ reads. record { column = read-column old mid new before before.chunk.at n m c.chunk chunk' c.finder read sound reads; reads = reads-here old mid new before n m c.chunk chunk' c.finder read varies few some room sound there reads }) r

pub record Stops (old : SourceView) (before : State) (want done : ℕ) (found : ReadFault) (read : ℕ → Value) (new : SourceView) (after : State) : Type 0 where
  pub column : IsColumn after
  pub stops : StopsRecords old before before.chunk.at want done found read new after

pub stops_one : (old mid new : SourceView) (before c : State) (want done : ℕ) (chunk' : Chunk) (found : ReadFault) (read : ℕ → Value) → constant_of (kind_of before.items) ≡ None → c.chunk.at + done < c.chunk.until → IsColumn c
    → GoesTo old before before.chunk.at mid c → StopsChunk mid c.stream (kind_of c.items) c.chunk want done found read new → Stops old before want done found read new (record c { place = Nowhere; chunk = chunk' })
stops_one old mid new before c want done chunk' found read varies room is goes s =
    let same = state-is before c goes.same goes.inside in
    let there = subst (λ (x : State). GoesTo old before before.chunk.at mid x) same goes in
    subst (λ (x : State). StopsChunk mid x.stream (kind_of x.items) c.chunk want done found read new → Stops old before want done found read new (record x { place = Nowhere; chunk = chunk' })) (sym same)
    (λ stops. record { column = let sound = subst (λ (x : State). IsColumn x) same is in record { items = sound.items; is_field = sound.is_field; finder = sound.finder; sound = tt }; stops = stops-here old mid new before want done c.chunk chunk' c.finder found read varies room there stops }) s
