-- Reads of a column in a row.
use Rattle.std.specs.Prelude.{◌≡◌, ℕ, ◌+◌, ◌-◌, ◌<◌, ◌≤◌, List, length, take, drop, get_or, Some, IfSome, IsSome, Ok, Err}
use Rattle.std.proofs.Common.{refl, sym, subst, ap, ◌∙◌, arith, ⊎_elim}
use Rattle.std.proofs.lemmas.Bool.{cases_lt}
use Rattle.std.proofs.lemmas.Option.{same_Some}
use Rattle.e57_base.proofs.CountLaws.{rose_before}
use Rattle.e57_base.specs.Source.{SourceView}
use Rattle.e57_base.proofs.Told.{told_map, told_both, told_here, told_all}
use Rattle.e57_base.specs.declared.fault.ReadFault.{ReadFault}
use Rattle.e57_base.specs.declared.fault.ReadFault.TheVariants.{Refused, Source}
use Rattle.e57_layout.specs.Values.{ItemKind, Value}
use Rattle.e57_cloud.specs.PathItem.{constant_of}
use Rattle.e57_stream.proofs.AskingLaws.{asks_met_none, asks_met_map, asks_met_on}
use Rattle.e57_stream.specs.declared.bytestream.Bytestream.{Bytestream}
use Rattle.e57_column.specs.declared.state.Items.{Items}
use Rattle.e57_column.specs.declared.state.Place.{Place}
use Rattle.e57_column.specs.declared.state.Place.TheVariants.{Nowhere, Outside, Inside}
use Rattle.e57_column.specs.declared.state.State.{State}
use Rattle.e57_column.specs.Finding.{IsIn}
use Rattle.e57_column.specs.Column.{kind_of, placed_at, placed, column_item, StandsIn}
use Rattle.e57_column.specs.Reading.{SameField, KeepsStanding, OnRecords, AsksRecords, IsCause, StandsAt, OnCounts, StaysIn, AreOfChunk, ReadsRecords, StopsRecords, KeepsRest, IsLimited, AreLimited, ReadsInto, StopsInto}
use Rattle.e57_column.proofs.Apart.{apart_on, apart_none}
use Rattle.e57_column.proofs.Chunks.{fewer-of}
use borrow.Rule.Slice.PartMut.{put_mid}
use Rattle.e57_stream.proofs.Parts.{part_before, part_in, length-part, length_of_part, rest_on}

-- ---- the field is the same

pub field-on : (a b c : State) → SameField a b → SameField b c → SameField a c
field-on a b c f g = record { stream = g.stream ∙ f.stream; items = g.items ∙ f.items }

pub same-item : (file : List ℕ) (a b : State) (i : ℕ) → SameField a b → column_item file b i ≡ column_item file a i
same-item file a b i same = rw (same.stream, same.items) refl

pub same-records : (file : List ℕ) (a b : State) (x n p : ℕ) → SameField a b → OnRecords file b x n p → OnRecords file a x n p
same-records file a b x n p same on = record { i = on.i; after = on.after; before = on.before; way = rw (same.stream, same.items) at on.way }

-- ---- two reads

met-on : (old mid new : SourceView) (first second : State) (a n m : ℕ) → SameField first second → KeepsStanding old first second → AsksRecords old first a n mid → AsksRecords mid second (a + n) m new → AsksRecords old first a (n + m) new
met-on old mid new first second a n m same stands f g =
    asks_met_on (λ file p. StandsIn file first → OnRecords file first a (n + m) p) old mid new
    (asks_met_map (λ file p. StandsIn file first → OnRecords file first a n p) (λ file p. StandsIn file first → OnRecords file first a (n + m) p) old mid
    (told_all (λ file. (p : ℕ) → (StandsIn file first → OnRecords file first a n p) → StandsIn file first → OnRecords file first a (n + m) p) old.held
    (λ file p on is. let one = on is in let high = one.before in record { i = one.i; after = one.after; before = omega (arith, high); way = one.way })) f)
    (asks_met_map (λ file p. StandsIn file second → OnRecords file second (a + n) m p) (λ file p. StandsIn file first → OnRecords file first a (n + m) p) mid new
    (told_map (λ file. StandsIn file first → StandsIn file second) (λ file. (p : ℕ) → (StandsIn file second → OnRecords file second (a + n) m p) → StandsIn file first → OnRecords file first a (n + m) p) mid.held
    (λ file on p met is. let one = same-records file first second (a + n) m p same (met (on is)) in let low = one.after in let high = one.before in record { i = one.i; after = omega (arith, low); before = omega (arith, high); way = one.way })
    (told_here (λ file. StandsIn file first → StandsIn file second) old.held mid.held f.asks.same.held stands)) g)

items-on : (file : List ℕ) (first second : State) (a n m : ℕ) (front back read : ℕ → Value) → SameField first second → ((j : ℕ) → j < n → front j ≡ read j) → ((j : ℕ) → j < m → back j ≡ read (n + j))
    → ((j : ℕ) → j < n → column_item file first (a + j) ≡ Ok (front j)) → ((j : ℕ) → j < m → column_item file second (a + n + j) ≡ Ok (back j)) → (j : ℕ) → j < n + m → column_item file first (a + j) ≡ Ok (read j)
items-on file first second a n m front back read same same_front same_back f g j below =
    ⊎_elim
    (λ (early : j < n). f j early ∙ ap Ok (same_front j early))
    (λ (late : n ≤ j).
    let number : n + (j - n) ≡ j = omega arith in
    let there : j - n < m = omega arith in
    let place : a + n + (j - n) ≡ a + j = omega (arith, late) in
    sym (same-item file first second (a + j) same) ∙ ap (column_item file second) (sym place) ∙ g (j - n) there ∙ ap Ok (same_back (j - n) there) ∙ ap (λ (i : ℕ). Ok (read i)) number)
    (cases_lt j n)

told-items : (old mid : SourceView) (first second : State) (a n m : ℕ) (front back read : ℕ → Value) → SameField first second → KeepsStanding old first second → mid.held ≡ old.held → ((j : ℕ) → j < n → front j ≡ read j) → ((j : ℕ) → j < m → back j ≡ read (n + j))
    → IfSome old.held (λ file. StandsIn file first → (j : ℕ) → j < n → column_item file first (a + j) ≡ Ok (front j)) → IfSome mid.held (λ file. StandsIn file second → (j : ℕ) → j < m → column_item file second (a + n + j) ≡ Ok (back j))
    → IfSome old.held (λ file. StandsIn file first → (j : ℕ) → j < n + m → column_item file first (a + j) ≡ Ok (read j))
told-items old mid first second a n m front back read same stands held same_front same_back f g =
    told_both (λ file. (StandsIn file first → (j : ℕ) → j < n → column_item file first (a + j) ≡ Ok (front j)) × (StandsIn file first → StandsIn file second))
    (λ file. StandsIn file second → (j : ℕ) → j < m → column_item file second (a + n + j) ≡ Ok (back j))
    (λ file. StandsIn file first → (j : ℕ) → j < n + m → column_item file first (a + j) ≡ Ok (read j)) old.held
    (λ file one two is. items-on file first second a n m front back read same same_front same_back (one.0 is) (two (one.1 is)))
    (told_both (λ file. StandsIn file first → (j : ℕ) → j < n → column_item file first (a + j) ≡ Ok (front j)) (λ file. StandsIn file first → StandsIn file second)
    (λ file. (StandsIn file first → (j : ℕ) → j < n → column_item file first (a + j) ≡ Ok (front j)) × (StandsIn file first → StandsIn file second)) old.held (λ file x y. (x, y)) f stands)
    (told_here (λ file. StandsIn file second → (j : ℕ) → j < m → column_item file second (a + n + j) ≡ Ok (back j)) mid.held old.held (sym held) g)

pub stands-on : (old mid : SourceView) (first second third : State) → mid.held ≡ old.held → KeepsStanding old first second → KeepsStanding mid second third → KeepsStanding old first third
stands-on old mid first second third held f g =
    told_both (λ file. StandsIn file first → StandsIn file second) (λ file. StandsIn file second → StandsIn file third) (λ file. StandsIn file first → StandsIn file third) old.held (λ file x y is. y (x is)) f
    (told_here (λ file. StandsIn file second → StandsIn file third) mid.held old.held (sym held) g)

-- ---- the chunk

counts-more : (file : List ℕ) (b c : Bytestream) (a n x m : ℕ) → b ≡ c → x ≤ a → a + n ≤ x + m → (p : ℕ) → OnCounts file b a n p → OnCounts file c x m p
counts-more file b c a n x m same low high p on = let from = on.after in let below = on.before in record { i = on.i; after = omega (arith, low, from); before = omega (arith, high, below); way = rw same at on.way }

of-second : (file : List ℕ) (old mid : SourceView) (first second : State) (a n m : ℕ) → SameField first second → StandsIn file second → StaysIn file old first a n mid second → AreOfChunk file first a (n + m) → AreOfChunk file second (a + n) m
of-second file old mid first second a n m same stands stays of = record {
  stands = stands;
  inside = stays.inside;
  records = λ i from below. rw (same.stream, stays.start, stays.entry) (of.records i (omega (arith, from)) (omega (arith, below)));
}

stays-too : (file : List ℕ) (old mid new : SourceView) (first second third : State) (a n m : ℕ) → SameField first second → StaysIn file old first a n mid second → StaysIn file mid second (a + n) m new third → StaysIn file old first a (n + m) new third
stays-too file old mid new first second third a n m same f g =
    record {
      inside = g.inside;
      start = g.start ∙ f.start;
      entry = g.entry ∙ f.entry;
      onward = let one = f.onward in let two = g.onward in omega (arith, one, two);
      near = apart_on (OnCounts file first.stream a n) (OnCounts file second.stream (a + n) m) (OnCounts file first.stream a (n + m)) first.chunk.taken second.chunk.taken third.chunk.taken old mid new
          (counts-more file first.stream first.stream a n a (n + m) refl (omega arith) (omega arith)) (counts-more file second.stream first.stream (a + n) m a (n + m) same.stream (omega arith) (omega arith)) f.onward g.onward f.near g.near;
    }

abbrev Nears : SourceView → State → ℕ → ℕ → SourceView → State → Type 0
Nears old before a m new after = IfSome old.held (λ file. AreOfChunk file before a m → StaysIn file old before a m new after)

near-on : (old mid new : SourceView) (first second third : State) (a n m : ℕ) → mid.held ≡ old.held → SameField first second → KeepsStanding old first second → Nears old first a n mid second → Nears mid second (a + n) m new third → Nears old first a (n + m) new third
near-on old mid new first second third a n m held same stands f g =
    told_both (λ file. (AreOfChunk file first a n → StaysIn file old first a n mid second) × (StandsIn file first → StandsIn file second)) (λ file. AreOfChunk file second (a + n) m → StaysIn file mid second (a + n) m new third)
    (λ file. AreOfChunk file first a (n + m) → StaysIn file old first a (n + m) new third) old.held
    (λ file one two of.
    let stays = one.0 (fewer-of file first a n (n + m) (omega arith) of) in
    stays-too file old mid new first second third a n m same stays (two (of-second file old mid first second a n m same (one.1 of.stands) stays of)))
    (told_both (λ file. AreOfChunk file first a n → StaysIn file old first a n mid second) (λ file. StandsIn file first → StandsIn file second)
    (λ file. (AreOfChunk file first a n → StaysIn file old first a n mid second) × (StandsIn file first → StandsIn file second)) old.held (λ file x y. (x, y)) f stands)
    (told_here (λ file. AreOfChunk file second (a + n) m → StaysIn file mid second (a + n) m new third) mid.held old.held (sym held) g)

stands-last : (old mid : SourceView) (first second third : State) (i k : ℕ) → mid.held ≡ old.held → i ≡ k → KeepsStanding old first second → StandsAt mid second i third → StandsAt old first k third
stands-last old mid first second third i k held at stands s =
    let low = s.low in
    let high = s.high in
    record {
      inside = s.inside;
      low = omega (arith, low, at);
      high = omega (arith, high, at);
      is = told_both (λ file. StandsIn file first → StandsIn file second) (λ file. StandsIn file second → IsIn file third.stream third.chunk.start third.chunk.entry i) (λ file. StandsIn file first → IsIn file third.stream third.chunk.start third.chunk.entry k) old.held
          (λ file on is stands. subst (λ (n : ℕ). IsIn file third.stream third.chunk.start third.chunk.entry n) at (is (on stands))) stands
          (told_here (λ file. StandsIn file second → IsIn file third.stream third.chunk.start third.chunk.entry i) mid.held old.held (sym held) s.is);
    }

-- some records, and then some more, of which one at least was looked at
pub reads_on : (old mid new : SourceView) (first second third : State) (a n q m : ℕ) (front back read : ℕ → Value) → 0 < m → ((j : ℕ) → j < n → front j ≡ read j) → ((j : ℕ) → j < q → back j ≡ read (n + j))
    → ReadsRecords old first a n n front mid second → ReadsRecords mid second (a + n) q m back new third → ReadsRecords old first a (n + q) (n + m) read new third
reads_on old mid new first second third a n q m front back read some same_front same_back f g =
    let held = f.met.asks.same.held in
    record {
      is_at = g.is_at ∙ ap Some (omega arith);
      same = field-on first second third f.same g.same;
      met = met-on old mid new first second a n m f.same f.stands f.met g.met;
      items = told-items old mid first second a n q front back read f.same f.stands held same_front same_back f.items g.items;
      stands = stands-on old mid first second third held f.stands g.stands;
      near = near-on old mid new first second third a n m held f.same f.stands f.near g.near;
      chunk = λ varies has. stands-last old mid first second third (a + n + m - 1) (a + (n + m) - 1) held (omega arith) f.stands (g.chunk (ap (λ (items : Items). constant_of (kind_of items)) f.same.items ∙ varies) some);
      none = λ zero_is. absurd (omega (arith, zero_is, some));
    }

cause-on : (old mid new : SourceView) (first second : State) (i k : ℕ) (found : ReadFault) → SameField first second → i ≡ k → mid.held ≡ old.held → old.faults ≤ mid.faults → KeepsStanding old first second → IsCause mid second i found new → IsCause old first k found new
cause-on old mid new first second i k (Refused found) same at held faults stands cause = (
  cause.0,
  told_both (λ file. StandsIn file first → StandsIn file second) (λ file. StandsIn file second → column_item file second i ≡ Err found) (λ file. StandsIn file first → column_item file first k ≡ Err found) old.held
      (λ file on wrong is. ap (column_item file first) (sym at) ∙ sym (same-item file first second i same) ∙ wrong (on is)) stands
      (told_here (λ file. StandsIn file second → column_item file second i ≡ Err found) mid.held old.held (sym held) cause.1),
)
cause-on old mid new first second i k Source same at held faults stands cause = rose_before old.faults mid.faults new.faults faults cause

-- some records, and then a stop
pub stops_on : (old mid new : SourceView) (first second third : State) (a want n m : ℕ) (found : ReadFault) (front back read : ℕ → Value) → ((j : ℕ) → j < n → front j ≡ read j) → ((j : ℕ) → j < m → back j ≡ read (n + j))
    → ReadsRecords old first a n n front mid second → StopsRecords mid second (a + n) (want - n) m found back new third → StopsRecords old first a want (n + m) found read new third
stops_on old mid new first second third a want n m found front back read same_front same_back f g =
    let held = f.met.asks.same.held in
    let below = g.below in
    record {
      below = omega (arith, below);
      is_at = g.is_at;
      same = field-on first second third f.same g.same;
      met = let count : n + (m + 1) ≡ n + m + 1 = omega arith in subst (λ (k : ℕ). AsksRecords old first a k new) count (met-on old mid new first second a n (m + 1) f.same f.stands f.met g.met);
      items = told-items old mid first second a n m front back read f.same f.stands held same_front same_back f.items g.items;
      stands = stands-on old mid first second third held f.stands g.stands;
      cause = cause-on old mid new first second (a + n + m) (a + (n + m)) found f.same (omega arith) held f.met.asks.faults f.stands g.cause;
    }

-- nothing yet
pub reads_nothing : (source : SourceView) (c : State) (a : ℕ) (read : ℕ → Value) → placed c ≡ Some a → ReadsRecords source c a 0 0 read source c
reads_nothing source c a read at = record {
  is_at = at ∙ ap Some (omega arith);
  same = record { stream = refl; items = refl };
  met = asks_met_none (λ file p. StandsIn file c → OnRecords file c a 0 p) source;
  items = told_all (λ file. StandsIn file c → (j : ℕ) → j < 0 → column_item file c (a + j) ≡ Ok (read j)) source.held (λ file is j below. absurd (omega arith));
  stands = told_all (λ file. StandsIn file c → StandsIn file c) source.held (λ file is. is);
  near = told_all (λ file. AreOfChunk file c a 0 → StaysIn file source c a 0 source c) source.held (λ file of. record { inside = of.inside; start = refl; entry = refl; onward = omega arith; near = apart_none (OnCounts file c.stream a 0) c.chunk.taken source });
  chunk = λ varies some. absurd (omega (arith, some));
  none = λ zero_is. (refl, refl);
}

-- ---- buffers

rest-on : {X : Type 0} (d : X) (want n m : ℕ) (out0 out1 part part' : List X) → n ≤ want → want ≤ length out1 → part ≡ take (want - n) (drop n out1) → KeepsRest d n out0 out1 → KeepsRest d m part part' → KeepsRest d (n + m) out0 (put_mid n (want - n) out1 part')
rest-on d want n m out0 out1 part part' few room is f g = record {
  rest = λ j past. rest_on want n m j out0 out1 part part' d few room is g.same_length f.rest g.rest past;
  same_length = length-part out1 part' n (want - n) (omega (arith, few, room)) (g.same_length ∙ length_of_part out1 part want n few room is) ∙ f.same_length;
}

items-into : {X : Type 0} (d : X) (value : X → Value) (kind : ItemKind) (want n m : ℕ) (out1 part' : List X) → n ≤ length out1 → m ≤ length part' → AreLimited d value kind n out1 → AreLimited d value kind m part' → AreLimited d value kind (n + m) (put_mid n (want - n) out1 part')
items-into {X} d value kind want n m out1 part' begin size f g j below =
    ⊎_elim
    (λ (early : j < n). rw (part_before out1 part' n (want - n) j d begin early) (f j early))
    (λ (late : n ≤ j).
    let e : n + (j - n) ≡ j = omega (arith, late) in
    let there : j - n < m = omega (arith, below, late) in
    subst (λ (i : ℕ). IsLimited kind (value (get_or (put_mid n (want - n) out1 part') i d))) e (rw (part_in out1 part' n (want - n) (j - n) d begin (omega (arith, there, size))) (g (j - n) there)))
    (cases_lt j n)

-- some items, and then some more into a part of the buffer
pub reads_into_on : {X : Type 0} (d : X) (value : X → Value) (old mid new : SourceView) (first second third : State) (want n m : ℕ) (out0 out1 part part' : List X) → n ≤ want → want ≤ length out1 → part ≡ take (want - n) (drop n out1) → 0 < m → m ≤ length part
    → second.chunk.at ≡ first.chunk.at + n → ReadsInto d value old first n out0 out1 mid second → ReadsInto d value mid second m part part' new third → ReadsInto d value old first (n + m) out0 (put_mid n (want - n) out1 part') new third
reads_into_on d value old mid new first second third want n m out0 out1 part part' few room is some most at f g =
    let begin : n ≤ length out1 = omega (arith, few, room) in
    let size = length_of_part out1 part want n few room is in
    let same_size = g.rest.same_length in
    let within : m ≤ length part' = omega (arith, most, same_size) in
    record {
      rest = rest-on d want n m out0 out1 part part' few room is f.rest g.rest;
      within = items-into d value (kind_of first.items) want n m out1 part' begin within f.within (subst (λ (items : Items). AreLimited d value (kind_of items) m part') f.reads.same.items g.within);
      reads = reads_on old mid new first second third first.chunk.at n m m (λ j. value (get_or out1 j d)) (λ j. value (get_or part' j d)) (λ j. value (get_or (put_mid n (want - n) out1 part') j d)) some
          (λ j early. ap value (sym (part_before out1 part' n (want - n) j d begin early)))
          (λ j there. ap value (sym (part_in out1 part' n (want - n) j d begin (omega (arith, there, within)))))
          f.reads (subst (λ (a : ℕ). ReadsRecords mid second a m m (λ j. value (get_or part' j d)) new third) at g.reads);
    }

pub stops_into_on : {X : Type 0} (d : X) (value : X → Value) (old mid new : SourceView) (first second third : State) (want n m : ℕ) (found : ReadFault) (out0 out1 part part' : List X) → n ≤ want → want ≤ length out1 → part ≡ take (want - n) (drop n out1)
    → second.chunk.at ≡ first.chunk.at + n → ReadsInto d value old first n out0 out1 mid second → StopsInto d value mid second (length part) m found part part' new third → StopsInto d value old first want (n + m) found out0 (put_mid n (want - n) out1 part') new third
stops_into_on d value old mid new first second third want n m found out0 out1 part part' few room is at f g =
    let begin : n ≤ length out1 = omega (arith, few, room) in
    let size = length_of_part out1 part want n few room is in
    let same_size = g.rest.same_length in
    let below = g.stops.below in
    let within : m ≤ length part' = omega (arith, below, same_size) in
    record {
      rest = rest-on d want n m out0 out1 part part' few room is f.rest g.rest;
      within = items-into d value (kind_of first.items) want n m out1 part' begin within f.within (subst (λ (items : Items). AreLimited d value (kind_of items) m part') f.reads.same.items g.within);
      stops = stops_on old mid new first second third first.chunk.at want n m found (λ j. value (get_or out1 j d)) (λ j. value (get_or part' j d)) (λ j. value (get_or (put_mid n (want - n) out1 part') j d))
          (λ j early. ap value (sym (part_before out1 part' n (want - n) j d begin early)))
          (λ j there. ap value (sym (part_in out1 part' n (want - n) j d begin (omega (arith, there, within)))))
          f.reads (subst (λ (k : ℕ). StopsRecords mid second k (want - n) m found (λ j. value (get_or part' j d)) new third) at (subst (λ (k : ℕ). StopsRecords mid second second.chunk.at k m found (λ j. value (get_or part' j d)) new third) size g.stops));
    }

pub reads_into_none : {X : Type 0} (d : X) (value : X → Value) (source : SourceView) (c : State) (out : List X) → placed c ≡ Some c.chunk.at → ReadsInto d value source c 0 out out source c
reads_into_none d value source c out at = record {
  rest = record { rest = λ j past. refl; same_length = refl };
  within = λ j below. absurd (omega (arith, below));
  reads = reads_nothing source c c.chunk.at (λ j. value (get_or out j d)) at;
}

-- ---- where a column is placed

pub placed-some : (c : State) → IsSome (placed c) → placed c ≡ Some c.chunk.at
placed-some c is = cases c.place is
  where
    cases : (p : Place) → IsSome (placed_at p c.chunk.at) → placed_at p c.chunk.at ≡ Some c.chunk.at
    cases Nowhere is = cc
    cases Outside is = refl
    cases Inside is = refl

pub placed-is : (c : State) (i : ℕ) → placed c ≡ Some i → IsSome (placed c) × (c.chunk.at ≡ i)
placed-is c i is = cases c.place is
  where
    cases : (p : Place) → placed_at p c.chunk.at ≡ Some i → IsSome (placed_at p c.chunk.at) × (c.chunk.at ≡ i)
    cases Nowhere is = cc
    cases Outside is = (refl, same_Some c.chunk.at i is)
    cases Inside is = (refl, same_Some c.chunk.at i is)
