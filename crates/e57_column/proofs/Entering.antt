-- The chunk of a record: the column stands in it, or it is found.
use Rattle.std.specs.Prelude.{◌≡◌, ℕ, ◌+◌, ◌-◌, ◌<◌, ◌≤◌, ◌==◌, ◌⊎◌, ◌&&◌, nat_le, true, false, List, [], ◌∷◌, length, None, IfSome, Result, Ok, Err}
use Rattle.std.specs.List.{AllByRecursion}
use Rattle.std.specs.Result.{IsOkAnd}
use Rattle.std.proofs.Common.{refl, sym, subst, ap, ◌∙◌, arith, inl, inr, ⊎_elim}
use Rattle.std.proofs.lemmas.Bool.{cases_Bool, cond-true, cond-false, and_parts, cases_lt, leb-true, le-leb, eqb-true, eq-eqb}
use Rattle.e57_base.specs.Source.{SourceView}
use Rattle.e57_base.proofs.Told.{told_map, told_both, told_all}
use Rattle.e57_base.specs.declared.fault.Fault.{Fault}
use Rattle.e57_base.specs.declared.fault.ReadFault.{ReadFault}
use Rattle.e57_base.specs.declared.fault.ReadFault.TheVariants.{Refused, Source}
use Rattle.e57_layout.specs.Values.{ItemKind, integers, words, strings}
use Rattle.e57_layout.specs.Widths.{width}
use Rattle.e57_layout.specs.Strings.{after_strings}
use Rattle.e57_layout.specs.declared.section.Section.{Section}
use Rattle.e57_cloud.specs.Chunks.{stream_of}
use Rattle.e57_cloud.specs.Met.{InSpan}
use Rattle.e57_cloud.specs.PathItem.{ChunkAt, path, chunk_at as chunk_of_record, constant_of}
use Rattle.e57_cloud.proofs.Laws.Fronts.{front-none}
use Rattle.e57_cloud.proofs.Laws.Pieces.{data-none, by_chunk-none}
use Rattle.e57_section.specs.Opening.{LiesIn, most_records}
use Rattle.e57_index.specs.Finding.{chunk_of}
use Rattle.e57_index.proofs.Laws.Onward.{path_onward}
use Rattle.e57_index.specs.declared.cursor.Found.{Found}
use Rattle.e57_stream.specs.Asking.{AsksMet}
use Rattle.e57_stream.proofs.AskingLaws.{asks_met_none, asks_met_map}
use Rattle.e57_stream.specs.Standing.{chunk_at, HasTaken, Stands}
use Rattle.e57_stream.specs.declared.bytestream.Bytestream.{Bytestream}
use Rattle.e57_stream.specs.declared.chunk.Chunk.{Chunk}
use Rattle.e57_column.specs.declared.finder.Finder.{Finder}
use Rattle.e57_column.specs.declared.state.Place.{Place}
use Rattle.e57_column.specs.declared.state.Place.TheVariants.{Nowhere, Outside, Inside}
use Rattle.e57_column.specs.declared.state.State.{State}
use Rattle.e57_column.specs.Finding.{FinderStands, IsFinder, IsIn, AreIn, IsLedTo, OnSearch, Finds, IsFindCause, FindsNot}
use Rattle.e57_column.specs.Column.{kind_of, leaf_of, column_item, column_length, IsRead, IsInside, IsPlaced, IsColumn, IsReadOf, IsChunkOf, StandsIn}
use Rattle.e57_column.specs.Asking.{AsksApart}
use Rattle.e57_column.specs.Reading.{OnRecords, AsksRecords, IsCause, HasNoLength, SeeksNot, OnCounts, AreOfChunk}
use Rattle.e57_column.specs.Going.{is_inside, has_record, is_same, raised, begun, entered, KeepsChunk, Enters}
use Rattle.e57_column.proofs.Apart.{apart_none, apart_all}
use Rattle.e57_column.proofs.Ways.{item_of-lost, length_of-lost, search-item}
use Rattle.e57_cloud.proofs.Laws.Reached.{chunk_at-indexed}

-- ---- what is known of a place

pub inside-is : (p : Place) → is_inside p ≡ true → p ≡ Inside
inside-is Nowhere is = cc
inside-is Outside is = cc
inside-is Inside is = refl

pub sound-inside : (s : Section) (kind : ItemKind) (chunk : Chunk) (p : Place) → p ≡ Inside → IsPlaced p s kind chunk → IsInside s kind chunk
sound-inside s kind chunk p is sound = subst (λ (q : Place). IsPlaced q s kind chunk) is sound

-- the first record of a chunk isn't behind the next one
pub start-low : (s : Section) (kind : ItemKind) (chunk : Chunk) → IsRead s kind chunk → chunk.start ≤ chunk.at
start-low s (integers low high) chunk read = read.low
start-low s (words w) chunk read = read.low
start-low s strings chunk read = read.low

pub at-high : (s : Section) (kind : ItemKind) (chunk : Chunk) → IsRead s kind chunk → chunk.at ≤ chunk.until
at-high s (integers low high) chunk read = read.high
at-high s (words w) chunk read = read.high
at-high s strings chunk read = read.high

-- ---- the column stands in the chunk

parts-of : (c : State) (i : ℕ) → has_record c i ≡ true → (c.place ≡ Inside) × (c.chunk.at ≤ i) × (i + 1 ≤ c.chunk.until)
parts-of c i has =
    let one = and_parts (is_inside c.place) (nat_le c.chunk.at i && nat_le (i + 1) c.chunk.until) has in
    let two = and_parts (nat_le c.chunk.at i) (nat_le (i + 1) c.chunk.until) one.1 in
    (inside-is c.place one.0, leb-true c.chunk.at i two.0, leb-true (i + 1) c.chunk.until two.1)

pub stays-there : (source : SourceView) (c : State) (i : ℕ) → IsColumn c → has_record c i ≡ true → Enters source c i source c
stays-there source c i is has =
    let parts = parts-of c i has in
    let inside = sound-inside c.stream.section (kind_of c.items) c.chunk c.place parts.0 is.sound in
    let low = parts.1 in
    let high = parts.2 in
    record {
      inside = parts.0;
      low = low;
      high = omega (arith, high);
      some = inside.some;
      most = inside.most;
      read = inside.read;
      same = record { stream = refl; items = refl };
      finder = is.finder;
      met = asks_met_none (λ file p. StandsIn file c → OnSearch file c.stream i p) source;
      finds = told_all (λ file. StandsIn file c → FinderStands file c.finder) source.held (λ file stands. stands.finder);
      are = told_all (λ file. StandsIn file c → AreIn file c.stream c.chunk.start c.chunk.entry i c.chunk.until) source.held
          (λ file stands j from below. (stands.chunk parts.0).records j (omega (arith, low, from)) below);
      led = told_all (λ file. StandsIn file c → IsLedTo file c.stream.section (chunk_at c.chunk)) source.held (λ file stands. (stands.chunk parts.0).led);
      stands = told_all (λ file. StandsIn file c → IsReadOf file c.stream (kind_of c.items) c.chunk) source.held (λ file stands. (stands.chunk parts.0).read);
      near = told_all (λ file. c.chunk.at ≡ i → AreOfChunk file c i 1 → KeepsChunk file source c i source c) source.held
          (λ file at of. record { start = refl; entry = refl; taken = refl; near = apart_none (OnCounts file c.stream i 1) c.chunk.taken source });
    }

-- ---- a chunk that is begun

pub read-begun : (s : Section) (kind : ItemKind) (f : Found) → f.start ≤ f.until → f.until ≤ most_records → f.place ≤ s.end → IsRead s kind (begun f)
read-begun s (integers low high) f order most within = record { low = omega arith; high = order; most = most; taken_within = within; begins = omega arith; whole = λ _. refl }
read-begun s (words w) f order most within = record { low = omega arith; high = order; most = most; taken_within = within; begins = omega arith; whole = λ _. refl }
read-begun s strings f order most within = record { low = omega arith; high = order; most = most; taken_within = within; whole = refl }

taken-none : (file : List ℕ) (b : Bytestream) (at : ℕ) → HasTaken file b at at true []
unfolding stream_of
taken-none file b at = record { packets = []; leads = front-none file b.section at; one_chunk = rw (data-none, by_chunk-none) refl; freshness = data-none; stream = rw data-none refl }

stands-begun : (file : List ℕ) (b : Bytestream) (w : ℕ) (f : Found) → Stands file b w (begun f)
stands-begun file b w f = record { front = []; reaches = taken-none file b f.place; begins = let e : f.start - f.start ≡ 0 = omega arith in rw e (omega arith) }

pub read_of-begun : (file : List ℕ) (b : Bytestream) (kind : ItemKind) (f : Found) → IsReadOf file b kind (begun f)
unfolding after_strings
read_of-begun file b (integers low high) f = stands-begun file b (width low high) f
read_of-begun file b (words w) f = stands-begun file b w f
read_of-begun file b strings f = record { front = []; reaches = taken-none file b f.place; strings = let e : f.start - f.start ≡ 0 = omega arith in rw e refl }

-- ---- more records of the chunk

pub read-raised : (s : Section) (kind : ItemKind) (chunk : Chunk) (until : ℕ) → chunk.at ≤ until → until ≤ most_records → IsRead s kind chunk → IsRead s kind (record chunk { until = until })
read-raised s (integers low high) chunk until order most read = record { low = read.low; high = order; most = most; taken_within = read.taken_within; begins = read.begins; whole = read.whole }
read-raised s (words w) chunk until order most read = record { low = read.low; high = order; most = most; taken_within = read.taken_within; begins = read.begins; whole = read.whole }
read-raised s strings chunk until order most read = record { low = read.low; high = order; most = most; taken_within = read.taken_within; whole = read.whole }

pub read_of-raised : (file : List ℕ) (b : Bytestream) (kind : ItemKind) (chunk : Chunk) (until : ℕ) → IsReadOf file b kind chunk → IsReadOf file b kind (record chunk { until = until })
read_of-raised file b (integers low high) chunk until of = record { front = of.front; reaches = of.reaches; begins = of.begins }
read_of-raised file b (words w) chunk until of = record { front = of.front; reaches = of.reaches; begins = of.begins }
read_of-raised file b strings chunk until of = record { front = of.front; reaches = of.reaches; strings = of.strings }

-- ---- the pages of a search

-- with an index a chunk that ended isn't the next record's, so pages of a search by counting alone are asked for
indexed-new : (file : List ℕ) (c : State) (i : ℕ) → (c.stream.section.index == 0) ≡ false → i < c.stream.section.count → c.chunk.start < c.chunk.until → c.chunk.until ≡ i → IsChunkOf file c.stream (kind_of c.items) c.chunk → IsIn file c.stream c.chunk.start c.chunk.entry i → ⊥
indexed-new file c i indexed below some until of is =
    let led = of.led indexed in
    next (chunk_of_record file c.stream.section c.stream.fixed i) refl is led
  where
    next : (r : Result ChunkAt Fault) → chunk_of_record file c.stream.section c.stream.fixed i ≡ r → IsOkAnd r (λ chunk. (chunk.first ≡ c.chunk.start) × (chunk.place ≡ c.chunk.entry)) → ((j : ℕ) × (j < c.stream.section.count) × (path file c.stream.section j ≡ Ok (chunk_at c.chunk))) → ⊥
    next (Ok d) same there led =
        let here : path file c.stream.section c.chunk.until ≡ Ok d = ap (path file c.stream.section) until ∙ sym (chunk_at-indexed file c.stream.section c.stream.fixed i indexed) ∙ same in
        let begins : d.first ≡ c.chunk.until = path_onward file c.stream.section led.0 (chunk_at c.chunk) d indexed led.1 led.2 (omega (arith, until, below)) here in
        let first = there.0 in
        absurd (omega (arith, begins, first, some))
    next (Err found) same there led = absurd there

search-counts : (file : List ℕ) (b : Bytestream) (i p : ℕ) → b.section.index ≡ 0 → OnSearch file b i p → OnCounts file b i 1 p
search-counts file b i p unindexed (inl on) = absurd (on.0 unindexed)
search-counts file b i p unindexed (inr on) = record { i = i; after = omega arith; before = omega arith; way = on }

all-counts : (file : List ℕ) (b : Bytestream) (f : Finder) (i : ℕ) (ps : List ℕ) → b.section.index ≡ 0 → FinderStands file f → AllByRecursion (λ (p : ℕ). FinderStands file f → OnSearch file b i p) ps → AllByRecursion (OnCounts file b i 1) ps
all-counts file b f i [] unindexed stands all = tt
all-counts file b f i (p ∷ ps) unindexed stands all = (search-counts file b i p unindexed (all.0 stands), all-counts file b f i ps unindexed stands all.1)

-- ---- the chunk was found

-- the state after the search
abbrev with_finder : State → Finder → State
with_finder c f = record c { finder = f }

same-chunk : (file : List ℕ) (b : Bytestream) (i start place start' place' : ℕ) → IsIn file b start place i → IsIn file b start' place' i → (start ≡ start') × (place ≡ place')
same-chunk file b i start place start' place' one other = both (chunk_of_record file b.section b.fixed i) one other
  where
    both : (r : Result ChunkAt Fault) → IsOkAnd r (λ chunk. (chunk.first ≡ start) × (chunk.place ≡ place)) → IsOkAnd r (λ chunk. (chunk.first ≡ start') × (chunk.place ≡ place')) → (start ≡ start') × (place ≡ place')
    both (Ok d) x y = (sym x.0 ∙ y.0, sym x.1 ∙ y.1)
    both (Err found) x y = absurd x

is-same : (c : State) (found : Found) (i : ℕ) → c.place ≡ Inside → c.chunk.start ≡ found.start → c.chunk.entry ≡ found.place → c.chunk.at ≤ i → is_same c found i ≡ true
is-same c found i inside start entry low = rw (inside, eq-eqb c.chunk.start found.start start, eq-eqb c.chunk.entry found.place entry, le-leb c.chunk.at i low) refl

same-parts : (c : State) (found : Found) (i : ℕ) → is_same c found i ≡ true → (c.place ≡ Inside) × (c.chunk.start ≡ found.start) × (c.chunk.entry ≡ found.place) × (c.chunk.at ≤ i)
same-parts c found i is =
    let one = and_parts (is_inside c.place) (c.chunk.start == found.start && (c.chunk.entry == found.place && nat_le c.chunk.at i)) is in
    let two = and_parts (c.chunk.start == found.start) (c.chunk.entry == found.place && nat_le c.chunk.at i) one.1 in
    let three = and_parts (c.chunk.entry == found.place) (nat_le c.chunk.at i) two.1 in
    (inside-is c.place one.0, eqb-true c.chunk.start found.start two.0, eqb-true c.chunk.entry found.place three.0, leb-true c.chunk.at i three.1)

pub entered-same : (c : State) (found : Found) (i : ℕ) → is_same c found i ≡ true → entered c found i ≡ raised c found.until
unfolding entered
entered-same c found i is = cond-true (is_same c found i) (raised c found.until) (record c { place = Inside; chunk = begun found }) is

pub entered-new : (c : State) (found : Found) (i : ℕ) → is_same c found i ≡ false → entered c found i ≡ record c { place = Inside; chunk = begun found }
unfolding entered
entered-new c found i is = cond-false (is_same c found i) (raised c found.until) (record c { place = Inside; chunk = begun found }) is

-- Where the next record is sought and is of the chunk in which the column stands, the chunk that is found is this one, and
-- pages of a search by counting alone were asked for.
pub record FoundAgain (file : List ℕ) (old : SourceView) (before : State) (i : ℕ) (found : Found) (new : SourceView) : Type 0 where
  pub same : is_same before found i ≡ true
  pub near : AsksApart (OnCounts file before.stream i 1) before.chunk.taken before.chunk.taken old new

found-again : (file : List ℕ) (old new : SourceView) (before : State) (i : ℕ) (found : Found) (after : Finder) → IsColumn before → has_record before i ≡ false → i < before.stream.section.count → (f : Finds old before.stream before.finder i found new after)
    → AllByRecursion (λ (p : ℕ). FinderStands file before.finder → OnSearch file before.stream i p) f.met.pages → (FinderStands file before.finder → AreIn file before.stream found.start found.place i found.until)
    → before.chunk.at ≡ i → AreOfChunk file before i 1 → FoundAgain file old before i found new
found-again file old new before i found after is lacks below f all are at of =
    let b = before.stream in
    let inside = sound-inside b.section (kind_of before.items) before.chunk before.place of.inside is.sound in
    let stands = of.stands.finder in
    let here : IsIn file b before.chunk.start before.chunk.entry i = of.records i (omega arith) (omega arith) in
    let same = same-chunk file b i before.chunk.start before.chunk.entry found.start found.place here (are stands i (omega arith) f.high) in
    let high = at-high b.section (kind_of before.items) before.chunk inside.read in
    ⊎_elim
    (λ (unindexed : (b.section.index == 0) ≡ true). record {
      same = is-same before found i of.inside same.0 same.1 (omega (arith, at));
      near = record { pages = f.met.pages; apart = apart_all (OnCounts file b i 1) (InSpan before.chunk.taken (before.chunk.taken - before.chunk.taken)) (before.chunk.taken - before.chunk.taken) f.met.pages (all-counts file b before.finder i f.met.pages (eqb-true b.section.index 0 unindexed) stands all); asks = f.met.asks };
    })
    (λ (indexed : (b.section.index == 0) ≡ false).
    absurd (indexed-new file before i indexed below inside.some (ended before.chunk.until high) (of.stands.chunk of.inside) here))
    (cases_Bool (b.section.index == 0))
  where
    ended : (until : ℕ) → before.chunk.at ≤ until → before.chunk.until ≡ i
    ended until high =
        ⊎_elim
        (λ (more : i < before.chunk.until). absurd (let has : has_record before i ≡ true = rw (of.inside, le-leb before.chunk.at i (omega (arith, at)), le-leb (i + 1) before.chunk.until (omega (arith, more))) refl in cc))
        (λ (none : before.chunk.until ≤ i). let up = at-high before.stream.section (kind_of before.items) before.chunk (sound-inside before.stream.section (kind_of before.items) before.chunk before.place of.inside is.sound).read in omega (arith, at, up, none))
        (cases_lt i before.chunk.until)

abbrev Nears : SourceView → State → ℕ → SourceView → State → Type 0
Nears old before i new after = IfSome old.held (λ file. before.chunk.at ≡ i → AreOfChunk file before i 1 → KeepsChunk file old before i new after)

-- the pages of the search
search-met : (old new : SourceView) (before : State) (i : ℕ) → AsksMet (λ file p. FinderStands file before.finder → OnSearch file before.stream i p) old new → AsksMet (λ file p. StandsIn file before → OnSearch file before.stream i p) old new
search-met old new before i met =
    asks_met_map (λ file p. FinderStands file before.finder → OnSearch file before.stream i p) (λ file p. StandsIn file before → OnSearch file before.stream i p) old new
    (told_all (λ file. (p : ℕ) → (FinderStands file before.finder → OnSearch file before.stream i p) → StandsIn file before → OnSearch file before.stream i p) old.held (λ file p on stands. on stands.finder)) met

pub enters-found : (old new : SourceView) (before : State) (i size : ℕ) (found : Found) (after : Finder) → LiesIn before.stream.section size → IsColumn before → has_record before i ≡ false → i < before.stream.section.count
    → IsFinder before.stream.section before.stream.fixed after → Finds old before.stream before.finder i found new after → Enters old before i new (entered (with_finder before after) found i)
enters-found old new before i size found after lies is lacks below finder f =
    let most = f.most in
    let few = lies.few_records in
    let low = f.low in
    let high = f.high in
    let again = told_both (λ file. AllByRecursion (λ (p : ℕ). FinderStands file before.finder → OnSearch file before.stream i p) f.met.pages) (λ file. FinderStands file before.finder → AreIn file before.stream found.start found.place i found.until)
    (λ file. before.chunk.at ≡ i → AreOfChunk file before i 1 → FoundAgain file old before i found new) old.held
    (λ file all are at of. found-again file old new before i found after is lacks below f all are at of) f.met.are_met f.are in
    let finds = told_map (λ file. FinderStands file before.finder → FinderStands file after) (λ file. StandsIn file before → FinderStands file after) old.held (λ file on stands. on stands.finder) f.stands in
    let met = search-met old new before i f.met in
    ⊎_elim
    (λ (same : is_same before found i ≡ true).
    let parts = same-parts before found i same in
    let inside = sound-inside before.stream.section (kind_of before.items) before.chunk before.place parts.0 is.sound in
    subst (λ (c : State). Enters old before i new c) (sym (entered-same (with_finder before after) found i same))
    (record {
      inside = parts.0;
      low = parts.3;
      high = high;
      some = let start = parts.1 in omega (arith, start, low, high);
      most = most;
      read = read-raised before.stream.section (kind_of before.items) before.chunk found.until (let at = parts.3 in omega (arith, at, high)) (omega (arith, most, few)) inside.read;
      same = record { stream = refl; items = refl };
      finder = finder;
      met = met;
      finds = finds;
      are = told_map (λ file. FinderStands file before.finder → AreIn file before.stream found.start found.place i found.until) (λ file. StandsIn file before → AreIn file before.stream before.chunk.start before.chunk.entry i found.until) old.held
          (λ file are stands. subst (λ (n : ℕ). AreIn file before.stream n before.chunk.entry i found.until) (sym parts.1) (subst (λ (n : ℕ). AreIn file before.stream found.start n i found.until) (sym parts.2) (are stands.finder))) f.are;
      led = told_map (λ file. FinderStands file before.finder → IsLedTo file before.stream.section (chunk_of found)) (λ file. StandsIn file before → IsLedTo file before.stream.section (record { first = before.chunk.start; until = found.until; place = before.chunk.entry })) old.held
          (λ file led stands. subst (λ (n : ℕ). IsLedTo file before.stream.section (record { first = n; until = found.until; place = before.chunk.entry })) (sym parts.1) (subst (λ (n : ℕ). IsLedTo file before.stream.section (record { first = found.start; until = found.until; place = n })) (sym parts.2) (led stands.finder))) f.led;
      stands = told_all (λ file. StandsIn file before → IsReadOf file before.stream (kind_of before.items) (record before.chunk { until = found.until })) old.held
          (λ file stands. read_of-raised file before.stream (kind_of before.items) before.chunk found.until (stands.chunk parts.0).read);
      near = told_map (λ file. before.chunk.at ≡ i → AreOfChunk file before i 1 → FoundAgain file old before i found new) (λ file. before.chunk.at ≡ i → AreOfChunk file before i 1 → KeepsChunk file old before i new (raised (with_finder before after) found.until)) old.held
          (λ file on at of. record { start = refl; entry = refl; taken = refl; near = (on at of).near }) again;
    }))
    (λ (other : is_same before found i ≡ false).
    subst (λ (c : State). Enters old before i new c) (sym (entered-new (with_finder before after) found i other))
    (record {
      inside = refl;
      low = low;
      high = high;
      some = omega (arith, low, high);
      most = most;
      read = read-begun before.stream.section (kind_of before.items) found (omega (arith, low, high)) (omega (arith, most, few)) f.within;
      same = record { stream = refl; items = refl };
      finder = finder;
      met = met;
      finds = finds;
      are = told_map (λ file. FinderStands file before.finder → AreIn file before.stream found.start found.place i found.until) (λ file. StandsIn file before → AreIn file before.stream found.start found.place i found.until) old.held (λ file are stands. are stands.finder) f.are;
      led = told_map (λ file. FinderStands file before.finder → IsLedTo file before.stream.section (chunk_of found)) (λ file. StandsIn file before → IsLedTo file before.stream.section (chunk_of found)) old.held (λ file led stands. led stands.finder) f.led;
      stands = told_all (λ file. StandsIn file before → IsReadOf file before.stream (kind_of before.items) (begun found)) old.held (λ file stands. read_of-begun file before.stream (kind_of before.items) found);
      near = told_map (λ file. before.chunk.at ≡ i → AreOfChunk file before i 1 → FoundAgain file old before i found new) (λ file. before.chunk.at ≡ i → AreOfChunk file before i 1 → KeepsChunk file old before i new (record before { place = Inside; chunk = begun found; finder = after })) old.held
          (λ file on at of. absurd (let same = (on at of).same in cc)) again;
    }))
    (cases_Bool (is_same before found i))

-- ---- it wasn't found

-- a state that isn't placed stands where its finder does
pub nowhere-stands : (file : List ℕ) (c : State) (f : Finder) → FinderStands file f → StandsIn file (record c { place = Nowhere; finder = f })
nowhere-stands file c f stands = record { finder = stands; chunk = λ no. absurd cc }

pub records-met : (old new : SourceView) (before : State) (i : ℕ) → constant_of (kind_of before.items) ≡ None → AsksMet (λ file p. StandsIn file before → OnSearch file before.stream i p) old new → AsksRecords old before i 1 new
records-met old new before i varies met =
    asks_met_map (λ file p. StandsIn file before → OnSearch file before.stream i p) (λ file p. StandsIn file before → OnRecords file before i 1 p) old new
    (told_all (λ file. (p : ℕ) → (StandsIn file before → OnSearch file before.stream i p) → StandsIn file before → OnRecords file before i 1 p) old.held
    (λ file p on stands. record { i = i; after = omega arith; before = omega arith; way = search-item file before.stream (leaf_of before) i p varies (on stands) })) met

lost-cause : (old new : SourceView) (before : State) (i : ℕ) (found : ReadFault) → constant_of (kind_of before.items) ≡ None → IsFindCause old before.stream before.finder i found new → IsCause old before i found new
lost-cause old new before i (Refused found) varies cause = (
  cause.0,
  told_map (λ file. FinderStands file before.finder → chunk_of_record file before.stream.section before.stream.fixed i ≡ Err found) (λ file. StandsIn file before → column_item file before i ≡ Err found) old.held
      (λ file lost stands. item_of-lost file before.stream (leaf_of before) i found varies (lost stands.finder)) cause.1,
)
lost-cause old new before i Source varies cause = cause

lost-length : (old new : SourceView) (before : State) (i : ℕ) (found : ReadFault) → IsFindCause old before.stream before.finder i found new → HasNoLength old before i found
lost-length old new before i (Refused found) cause =
    told_map (λ file. FinderStands file before.finder → chunk_of_record file before.stream.section before.stream.fixed i ≡ Err found) (λ file. StandsIn file before → kind_of before.items ≡ strings → column_length file before i ≡ Err found) old.held
    (λ file lost stands kind. length_of-lost file before.stream (leaf_of before) i found (lost stands.finder)) cause.1
lost-length old new before i Source cause = tt

pub enters-not : (old new : SourceView) (before : State) (i : ℕ) (found : ReadFault) (after : Finder) → constant_of (kind_of before.items) ≡ None → FindsNot old before.stream before.finder i found new after
    → SeeksNot old before i found new (record before { place = Nowhere; finder = after })
enters-not old new before i found after varies f = record {
  is_at = refl;
  same = record { stream = refl; items = refl };
  met = records-met old new before i varies (search-met old new before i f.met);
  stands = told_map (λ file. FinderStands file before.finder → FinderStands file after) (λ file. StandsIn file before → StandsIn file (record before { place = Nowhere; finder = after })) old.held
      (λ file on stands. nowhere-stands file before after (on stands.finder)) f.stands;
  cause = lost-cause old new before i found varies f.cause;
  length = lost-length old new before i found f.cause;
}

pub nowhere-column : (c : State) (f : Finder) → IsColumn c → IsFinder c.stream.section c.stream.fixed f → IsColumn (record c { place = Nowhere; finder = f })
nowhere-column c f is finder = record { items = is.items; is_field = is.is_field; finder = finder; sound = tt }
