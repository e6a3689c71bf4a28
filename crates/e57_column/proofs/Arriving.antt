-- From the chunk of a record to the record.
use Rattle.std.specs.Prelude.{◌≡◌, ℕ, ◌-◌, ◌<◌, ◌≤◌, List, None, IfSome, Err}
use Rattle.std.proofs.Common.{refl, sym, subst, ◌∙◌, arith}
use Rattle.e57_base.proofs.CountLaws.{rose_before}
use Rattle.e57_base.specs.Source.{SourceView}
use Rattle.e57_base.proofs.Told.{told_map, told_both, told_here}
use Rattle.e57_base.specs.declared.fault.ReadFault.{ReadFault}
use Rattle.e57_base.specs.declared.fault.ReadFault.TheVariants.{Refused, Source}
use Rattle.e57_layout.specs.Values.{strings}
use Rattle.e57_cloud.specs.PathItem.{constant_of}
use Rattle.e57_stream.specs.Asking.{AsksMet}
use Rattle.e57_stream.proofs.AskingLaws.{asks_met_map, asks_met_on}
use Rattle.e57_stream.specs.Reading.{IsMet, chunk_item}
use Rattle.e57_stream.specs.Standing.{chunk_at}
use Rattle.e57_stream.specs.declared.bytestream.Bytestream.{Bytestream}
use Rattle.e57_stream.specs.declared.chunk.Chunk.{Chunk}
use Rattle.e57_texts.specs.Reading.{chunk_length}
use Rattle.e57_column.specs.declared.finder.Finder.{Finder}
use Rattle.e57_column.specs.declared.state.Items.{Items}
use Rattle.e57_column.specs.declared.state.Place.{Place}
use Rattle.e57_column.specs.declared.state.Place.TheVariants.{Nowhere, Inside}
use Rattle.e57_column.specs.declared.state.State.{State}
use Rattle.e57_column.specs.Finding.{FinderStands, AreIn, IsLedTo}
use Rattle.e57_column.specs.Column.{kind_of, leaf_of, column_item, column_length, IsColumn, IsReadOf, StandsIn}
use Rattle.e57_column.specs.Reading.{SameField, OnRecords, AsksRecords, IsCause, HasNoLength, SeeksNot, OnCounts, AreOfChunk, StaysIn}
use Rattle.e57_column.specs.Going.{KeepsChunk, Enters, OnSkip, Skips, IsSkipCause, IsSkipLength, SkipsNot, GoesTo}
use Rattle.e57_column.specs.Asking.{AsksApart}
use Rattle.e57_column.proofs.Apart.{apart_on, apart_near}
use Rattle.e57_column.proofs.Ways.{item_of-in, length_of-in, walk-item}
use Rattle.e57_column.proofs.Entering.{records-met}

-- the column in this chunk
abbrev pub at_chunk : State → Chunk → Finder → State
at_chunk c chunk f = record c { place = Inside; chunk = chunk; finder = f }

pub state-is : (before c : State) → SameField before c → c.place ≡ Inside → c ≡ at_chunk before c.chunk c.finder
state-is before c same inside =
    let one : c ≡ record { stream = before.stream; items = c.items; place = c.place; chunk = c.chunk; finder = c.finder } = subst (λ (b : Bytestream). c ≡ record { stream = b; items = c.items; place = c.place; chunk = c.chunk; finder = c.finder }) same.stream refl in
    let two : c ≡ record { stream = before.stream; items = before.items; place = c.place; chunk = c.chunk; finder = c.finder } = subst (λ (items : Items). c ≡ record { stream = before.stream; items = items; place = c.place; chunk = c.chunk; finder = c.finder }) same.items one in
    subst (λ (p : Place). c ≡ record { stream = before.stream; items = before.items; place = p; chunk = c.chunk; finder = c.finder }) inside two

-- what is known of the file
pub record EnteredIn (file : List ℕ) (before : State) (i : ℕ) (chunk : Chunk) (f : Finder) : Type 0 where
  pub finds : FinderStands file f
  pub are : AreIn file before.stream chunk.start chunk.entry i chunk.until
  pub led : IsLedTo file before.stream.section (chunk_at chunk)
  pub read : IsReadOf file before.stream (kind_of before.items) chunk

pub entered-in : (old new : SourceView) (before : State) (i : ℕ) (chunk : Chunk) (f : Finder) → Enters old before i new (at_chunk before chunk f) → IfSome old.held (λ file. StandsIn file before → EnteredIn file before i chunk f)
entered-in old new before i chunk f e =
    told_both (λ file. (StandsIn file before → FinderStands file f) × (StandsIn file before → AreIn file before.stream chunk.start chunk.entry i chunk.until))
    (λ file. (StandsIn file before → IsLedTo file before.stream.section (chunk_at chunk)) × (StandsIn file before → IsReadOf file before.stream (kind_of before.items) chunk))
    (λ file. StandsIn file before → EnteredIn file before i chunk f) old.held
    (λ file x y stands. record { finds = x.0 stands; are = x.1 stands; led = y.0 stands; read = y.1 stands })
    (told_both (λ file. StandsIn file before → FinderStands file f) (λ file. StandsIn file before → AreIn file before.stream chunk.start chunk.entry i chunk.until)
    (λ file. (StandsIn file before → FinderStands file f) × (StandsIn file before → AreIn file before.stream chunk.start chunk.entry i chunk.until)) old.held (λ file x y. (x, y)) e.finds e.are)
    (told_both (λ file. StandsIn file before → IsLedTo file before.stream.section (chunk_at chunk)) (λ file. StandsIn file before → IsReadOf file before.stream (kind_of before.items) chunk)
    (λ file. (StandsIn file before → IsLedTo file before.stream.section (chunk_at chunk)) × (StandsIn file before → IsReadOf file before.stream (kind_of before.items) chunk)) old.held (λ file x y. (x, y)) e.led e.stands)

-- ---- pages

met-item : (file : List ℕ) (before : State) (i : ℕ) (chunk : Chunk) (f : Finder) (p : ℕ) → constant_of (kind_of before.items) ≡ None → i < chunk.until → EnteredIn file before i chunk f → IsMet file before.stream (kind_of before.items) chunk i 1 p → OnRecords file before i 1 p
met-item file before i chunk f p varies below is met =
    let low = met.after in
    let high = met.before in
    record {
      i = met.i;
      after = low;
      before = high;
      way = walk-item file before.stream (leaf_of before) met.i p chunk.start chunk.entry varies (is.are met.i low (omega (arith, high, below))) met.way;
    }

skip-met : (old mid new : SourceView) (before : State) (i : ℕ) (chunk : Chunk) (f : Finder) → constant_of (kind_of before.items) ≡ None → Enters old before i mid (at_chunk before chunk f) → AsksMet (OnSkip before.stream (kind_of before.items) chunk i) mid new → AsksRecords old before i 1 new
skip-met old mid new before i chunk f varies e met =
    let held = e.met.asks.same.held in
    asks_met_on (λ file p. StandsIn file before → OnRecords file before i 1 p) old mid new (records-met old mid before i varies e.met)
    (asks_met_map (OnSkip before.stream (kind_of before.items) chunk i) (λ file p. StandsIn file before → OnRecords file before i 1 p) mid new
    (told_map (λ file. StandsIn file before → EnteredIn file before i chunk f) (λ file. (p : ℕ) → OnSkip before.stream (kind_of before.items) chunk i file p → StandsIn file before → OnRecords file before i 1 p) mid.held
    (λ file is p on stands. let here = is stands in met-item file before i chunk f p varies e.high here (on here.read))
    (told_here (λ file. StandsIn file before → EnteredIn file before i chunk f) old.held mid.held held (entered-in old mid before i chunk f e)))
    met)

-- ---- the record is reached

arrived : (file : List ℕ) (before : State) (i : ℕ) (chunk chunk' : Chunk) (f : Finder) → chunk'.start ≡ chunk.start → chunk'.entry ≡ chunk.entry → chunk'.until ≡ chunk.until → chunk'.at ≡ i → EnteredIn file before i chunk f → IsReadOf file before.stream (kind_of before.items) chunk' → StandsIn file (at_chunk before chunk' f)
arrived file before i chunk chunk' f start entry until at is read = record {
  finder = is.finds;
  chunk = λ inside. record { records = rw (start, entry, until, at) is.are; led = rw (start, entry, until) is.led; read = read };
}

stays : (file : List ℕ) (old mid new : SourceView) (before : State) (i : ℕ) (chunk chunk' : Chunk) (f : Finder) → Skips mid before.stream (kind_of before.items) chunk i new chunk' → KeepsChunk file old before i mid (at_chunk before chunk f) → StaysIn file old before i 1 new (at_chunk before chunk' f)
stays file old mid new before i chunk chunk' f s k =
    let taken = k.taken in
    let onward = s.onward in
    let up : before.chunk.taken ≤ chunk'.taken = omega (arith, taken, onward) in
    record {
      inside = refl;
      start = s.start ∙ k.start;
      entry = s.entry ∙ k.entry;
      onward = up;
      near = apart_on (OnCounts file before.stream i 1) (OnCounts file before.stream i 1) (OnCounts file before.stream i 1) before.chunk.taken before.chunk.taken chunk'.taken old mid new (λ p x. x) (λ p x. x) (omega arith) up k.near
          (subst (λ (low : ℕ). AsksApart (OnCounts file before.stream i 1) low chunk'.taken mid new) taken (apart_near (OnCounts file before.stream i 1) chunk.taken chunk'.taken mid new s.near));
    }

goes : (old mid new : SourceView) (before : State) (i : ℕ) (chunk chunk' : Chunk) (f : Finder) → constant_of (kind_of before.items) ≡ None → Enters old before i mid (at_chunk before chunk f) → Skips mid before.stream (kind_of before.items) chunk i new chunk'
    → GoesTo old before i new (at_chunk before chunk' f)
goes old mid new before i chunk chunk' f varies e s =
    let held = e.met.asks.same.held in
    let high = e.high in
    let until = s.until in
    record {
      inside = refl;
      is_at = s.at;
      high = omega (arith, high, until);
      same = record { stream = refl; items = refl };
      met = skip-met old mid new before i chunk f varies e s.met;
      stands = told_both (λ file. StandsIn file before → EnteredIn file before i chunk f) (λ file. IsReadOf file before.stream (kind_of before.items) chunk → IsReadOf file before.stream (kind_of before.items) chunk') (λ file. StandsIn file before → StandsIn file (at_chunk before chunk' f)) old.held
          (λ file is on stands. let here = is stands in arrived file before i chunk chunk' f s.start s.entry s.until s.at here (on here.read)) (entered-in old mid before i chunk f e)
          (told_here (λ file. IsReadOf file before.stream (kind_of before.items) chunk → IsReadOf file before.stream (kind_of before.items) chunk') mid.held old.held (sym held) s.stands);
      near = told_map (λ file. before.chunk.at ≡ i → AreOfChunk file before i 1 → KeepsChunk file old before i mid (at_chunk before chunk f)) (λ file. before.chunk.at ≡ i → AreOfChunk file before i 1 → StaysIn file old before i 1 new (at_chunk before chunk' f)) old.held
          (λ file keeps at of. stays file old mid new before i chunk chunk' f s (keeps at of)) e.near;
    }

arrives-column : (old mid new : SourceView) (before : State) (i : ℕ) (chunk chunk' : Chunk) (f : Finder) → IsColumn before → constant_of (kind_of before.items) ≡ None → Enters old before i mid (at_chunk before chunk f) → Skips mid before.stream (kind_of before.items) chunk i new chunk'
    → IsColumn (at_chunk before chunk' f)
arrives-column old mid new before i chunk chunk' f is varies e s =
    let some = e.some in
    let most = e.most in
    let start = s.start in
    let until = s.until in
    record { items = is.items; is_field = is.is_field; finder = e.finder; sound = record { varies = varies; some = omega (arith, some, start, until); most = omega (arith, most, until); read = s.read } }

-- what follows where the record was reached
pub record Arrives (old : SourceView) (before : State) (i : ℕ) (new : SourceView) (after : State) : Type 0 where
  pub column : IsColumn after
  pub goes : GoesTo old before i new after

pub arrives : (old mid new : SourceView) (before c : State) (i : ℕ) (chunk' : Chunk) → IsColumn before → constant_of (kind_of before.items) ≡ None → Enters old before i mid c → Skips mid c.stream (kind_of c.items) c.chunk i new chunk' → Arrives old before i new (record c { chunk = chunk' })
arrives old mid new before c i chunk' is varies e s =
    let same = state-is before c e.same e.inside in
    let there = subst (λ (x : State). Enters old before i mid x) same e in
    subst (λ (x : State). Skips mid x.stream (kind_of x.items) c.chunk i new chunk' → Arrives old before i new (record x { chunk = chunk' })) (sym same)
    (λ skips. record { column = arrives-column old mid new before i c.chunk chunk' c.finder is varies there skips; goes = goes old mid new before i c.chunk chunk' c.finder varies there skips }) s

-- ---- it wasn't reached

skip-cause : (old mid new : SourceView) (before : State) (i : ℕ) (chunk : Chunk) (f : Finder) (found : ReadFault) → constant_of (kind_of before.items) ≡ None → Enters old before i mid (at_chunk before chunk f) → IsSkipCause mid before.stream (kind_of before.items) chunk i found new → IsCause old before i found new
skip-cause old mid new before i chunk f (Refused found) varies e cause = (
  cause.0,
  told_both (λ file. StandsIn file before → EnteredIn file before i chunk f) (λ file. IsReadOf file before.stream (kind_of before.items) chunk → chunk_item file before.stream (kind_of before.items) chunk i ≡ Err found) (λ file. StandsIn file before → column_item file before i ≡ Err found) old.held
      (λ file is wrong stands. let here = is stands in item_of-in file before.stream (leaf_of before) i chunk.start chunk.entry chunk.until varies (here.are i (omega arith) e.high) ∙ wrong here.read) (entered-in old mid before i chunk f e)
      (told_here (λ file. IsReadOf file before.stream (kind_of before.items) chunk → chunk_item file before.stream (kind_of before.items) chunk i ≡ Err found) mid.held old.held (sym e.met.asks.same.held) cause.1),
)
skip-cause old mid new before i chunk f Source varies e cause = rose_before old.faults mid.faults new.faults e.met.asks.faults cause

skip-length : (old mid : SourceView) (before : State) (i : ℕ) (chunk : Chunk) (f : Finder) (found : ReadFault) → Enters old before i mid (at_chunk before chunk f) → IsSkipLength mid before.stream (kind_of before.items) chunk i found → HasNoLength old before i found
skip-length old mid before i chunk f (Refused found) e cause =
    told_both (λ file. StandsIn file before → EnteredIn file before i chunk f) (λ file. IsReadOf file before.stream (kind_of before.items) chunk → kind_of before.items ≡ strings → chunk_length file before.stream chunk i ≡ Err found)
    (λ file. StandsIn file before → kind_of before.items ≡ strings → column_length file before i ≡ Err found) old.held
    (λ file is wrong stands kind. let here = is stands in length_of-in file before.stream (leaf_of before) i chunk.start chunk.entry chunk.until (here.are i (omega arith) e.high) ∙ wrong here.read kind) (entered-in old mid before i chunk f e)
    (told_here (λ file. IsReadOf file before.stream (kind_of before.items) chunk → kind_of before.items ≡ strings → chunk_length file before.stream chunk i ≡ Err found) mid.held old.held (sym e.met.asks.same.held) cause)
skip-length old mid before i chunk f Source e cause = tt

-- the column in no chunk
abbrev pub at_nowhere : State → Chunk → Finder → State
at_nowhere c chunk f = record c { place = Nowhere; chunk = chunk; finder = f }

nowhere : (old mid new : SourceView) (before : State) (i : ℕ) (chunk chunk' : Chunk) (f : Finder) (found : ReadFault) → constant_of (kind_of before.items) ≡ None → Enters old before i mid (at_chunk before chunk f) → SkipsNot mid before.stream (kind_of before.items) chunk i found new
    → SeeksNot old before i found new (at_nowhere before chunk' f)
nowhere old mid new before i chunk chunk' f found varies e s = record {
  is_at = refl;
  same = record { stream = refl; items = refl };
  met = skip-met old mid new before i chunk f varies e s.met;
  stands = told_map (λ file. StandsIn file before → EnteredIn file before i chunk f) (λ file. StandsIn file before → StandsIn file (at_nowhere before chunk' f)) old.held
      (λ file is stands. record { finder = (is stands).finds; chunk = λ no. absurd cc }) (entered-in old mid before i chunk f e);
  cause = skip-cause old mid new before i chunk f found varies e s.cause;
  length = skip-length old mid before i chunk f found e s.length;
}

pub record ArrivesNot (old : SourceView) (before : State) (i : ℕ) (found : ReadFault) (new : SourceView) (after : State) : Type 0 where
  pub column : IsColumn after
  pub goes : SeeksNot old before i found new after

pub arrives-not : (old mid new : SourceView) (before c : State) (i : ℕ) (chunk' : Chunk) (found : ReadFault) → IsColumn before → constant_of (kind_of before.items) ≡ None → Enters old before i mid c → SkipsNot mid c.stream (kind_of c.items) c.chunk i found new
    → ArrivesNot old before i found new (record c { place = Nowhere; chunk = chunk' })
arrives-not old mid new before c i chunk' found is varies e s =
    let same = state-is before c e.same e.inside in
    let there = subst (λ (x : State). Enters old before i mid x) same e in
    subst (λ (x : State). SkipsNot mid x.stream (kind_of x.items) c.chunk i found new → ArrivesNot old before i found new (record x { place = Nowhere; chunk = chunk' })) (sym same)
    (λ skips. record { column = record { items = is.items; is_field = is.is_field; finder = there.finder; sound = tt }; goes = nowhere old mid new before i c.chunk chunk' c.finder found varies there skips }) s
