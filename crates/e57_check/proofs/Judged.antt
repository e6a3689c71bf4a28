-- The items of a column, some records after others.
use Rattle.std.specs.Prelude.{◌≡◌, ℕ, zero, suc, ◌+◌, ◌-◌, ◌*◌, ◌/◌, ◌<◌, ◌≤◌, ◌⊎◌, min, take, replicate, List, [], ◌∷◌, length, Option, Some, None, IfSome, Result, Ok, Err}
use Rattle.std.specs.List.{AllByRecursion}
use Rattle.std.specs.Option.{option_or}
use Rattle.std.proofs.Common.{refl, sym, subst, ap, ◌∙◌, arith, ⊎_elim, add-zero}
use Rattle.std.proofs.lemmas.List.{length-take-le, length-replicate}
use Rattle.e57_base.proofs.CountLaws.{rose_before}
use Rattle.e57_base.specs.Fault.{read_as_open}
use Rattle.e57_base.specs.Source.{SourceView}
use Rattle.e57_base.proofs.Told.{told_map, told_both, told_here}
use Rattle.e57_base.specs.declared.fault.Fault.{Fault}
use Rattle.e57_base.specs.declared.fault.ReadFault.{ReadFault}
use Rattle.e57_base.specs.declared.fault.ReadFault.TheVariants as of_read
use Rattle.e57_base.specs.declared.fault.OpenFault.{OpenFault}
use Rattle.e57_base.specs.declared.fault.OpenFault.TheVariants.{Refused, Source, Memory}
use Rattle.e57_layout.specs.Values.{ItemKind, Value, item_kind}
use Rattle.e57_layout.specs.declared.field.Field.{Field}
use Rattle.e57_layout.specs.declared.field.Fixed.{Fixed}
use Rattle.e57_layout.specs.declared.section.Section.{Section}
use Rattle.e57_cloud.specs.Cloud.{Leaf}
use Rattle.e57_cloud.specs.PathItem.{item_of, first_refusal}
use Rattle.e57_section.specs.Opening.{LiesIn}
use Rattle.e57_column.specs.Texts.{ReadsTexts}
use Rattle.e57_column.specs.declared.texts.TextsRead.{TextsRead}
use Rattle.e57_column.specs.declared.state.State.{State}
use Rattle.e57_stream.specs.declared.bytestream.Bytestream.{Bytestream}
use Rattle.e57_column.specs.declared.state.Place.{Place}
use Rattle.e57_column.specs.declared.state.Place.TheVariants as place
use Rattle.e57_column.specs.Column.{kind_of, placed, placed_at, column_item, leaf_of, StandsIn}
use Rattle.e57_column.specs.Reading.{IsOpened, Seeks, SeeksNot, OnRecords, AsksRecords, IsCause, ReadsRecords, StopsRecords, SameField, KeepsStanding}
use Rattle.e57_check.specs.Asking.{AsksWhere}
use Rattle.e57_check.proofs.AskingLaws.{asks_where_none, asks_where_on, asks_where_map}
use Rattle.e57_check.specs.Judging.{ReadsBlock, IsBlockCause, ReadsNoBlock, OpensColumn, IsColumnCause, OpensNoColumn}
use Rattle.e57_check.proofs.Paged.{item-below}
use Rattle.e57_check.proofs.Rows.{same-refusal}
use Rattle.e57_column.proofs.Joining.{field-on}
use Rattle.e57_cloud.proofs.Laws.Refusals.{refusal-append}

-- ---- pages

all-below : (file : List ℕ) (c : State) (a n count : ℕ) (pages : List ℕ) → c.stream.section.end ≤ count * 1020 → StandsIn file c → AllByRecursion (λ (p : ℕ). StandsIn file c → OnRecords file c a n p) pages → AllByRecursion (λ (p : ℕ). p < count) pages
all-below file c a n count [] within stands all = tt
all-below file c a n count (p ∷ pages) within stands all =
    let on = all.0 stands in
    (item-below file c.stream.section c.stream.fixed c.stream.field (leaf_of c) on.i p count within on.way, all-below file c a n count pages within stands all.1)

-- what is asked for on the way to records are pages of the file
pub records-asked : (old new : SourceView) (c : State) (a n count : ℕ) → LiesIn c.stream.section (count * 1020) → AsksRecords old c a n new → AsksWhere (λ file. StandsIn file c) count old new
records-asked old new c a n count lies met = record {
  pages = met.pages;
  within = told_map (λ file. AllByRecursion (λ (p : ℕ). StandsIn file c → OnRecords file c a n p) met.pages) (λ file. StandsIn file c → AllByRecursion (λ (p : ℕ). p < count) met.pages) old.held
      (λ file all stands. all-below file c a n count met.pages lies.within stands all) met.are_met;
  asks = met.asks;
}

-- ---- the first fault of some records

refusal-none : (look : ℕ → Result Value Fault) (a n : ℕ) (read : ℕ → Value) → ((j : ℕ) → j < n → look (a + j) ≡ Ok (read j)) → first_refusal look a n ≡ None
unfolding first_refusal
refusal-none look a zero read each = refl
refusal-none look a (suc n) read each =
    let here : look a ≡ Ok (read 0) = ap look (sym (add-zero a)) ∙ each 0 (omega arith) in
    let later = refusal-none look (a + 1) n (λ j. read (suc j)) (λ j below. let place : a + 1 + j ≡ a + suc j = omega arith in ap look place ∙ each (suc j) (omega (arith, below))) in
    rw (here, later) refl

refusal-one : (look : ℕ → Result Value Fault) (a n : ℕ) (found : Fault) → look a ≡ Err found → first_refusal look a (suc n) ≡ Some found
unfolding first_refusal
refusal-one look a n found is = rw is refl

refusal-some : (look : ℕ → Result Value Fault) (a done n : ℕ) (read : ℕ → Value) (found : Fault) → done < n → ((j : ℕ) → j < done → look (a + j) ≡ Ok (read j)) → look (a + done) ≡ Err found → first_refusal look a n ≡ Some found
refusal-some look a done n read found below each is =
    let rest : n ≡ done + suc (n - done - 1) = omega (arith, below) in
    ap (first_refusal look a) rest
    ∙ refusal-append look a done (suc (n - done - 1))
    ∙ ap (λ (o : Option Fault). option_or o (first_refusal look (a + done) (suc (n - done - 1)))) (refusal-none look a done read each)
    ∙ refusal-one look (a + done) (n - done - 1) found is

-- ---- records that were read

-- the next record of a placed column
pub next-record : (where_it_is : Place) (i a : ℕ) → placed_at where_it_is i ≡ Some a → i ≡ a
next-record place.Nowhere i a is = cc
next-record place.Outside i a is = cc
next-record place.Inside i a is = cc

pub block-read : (count : ℕ) (old new : SourceView) (before after : State) (a n k : ℕ) {m : ℕ} {read : ℕ → Value} → LiesIn before.stream.section (count * 1020) → placed before ≡ Some a → k ≡ n → ReadsRecords old before before.chunk.at k m read new after → ReadsBlock count old before a n new after
block-read count old new before after a n k {m} {read} lies is_at same reads =
    let here : before.chunk.at ≡ a = next-record before.place before.chunk.at a is_at in
    let records : ReadsRecords old before a n m read new after = subst (λ (i : ℕ). ReadsRecords old before i n m read new after) here (subst (λ (j : ℕ). ReadsRecords old before before.chunk.at j m read new after) same reads) in
    record {
      source = records-asked old new before a m count lies records.met;
      at_record = records.is_at;
      same = records.same;
      stands = records.stands;
      sound = told_map (λ file. StandsIn file before → (j : ℕ) → j < n → column_item file before (a + j) ≡ Ok (read j)) (λ file. StandsIn file before → first_refusal (column_item file before) a n ≡ None) old.held
          (λ file items stands. refusal-none (column_item file before) a n read (items stands)) records.items;
    }

pub block-stopped : (count : ℕ) (old new : SourceView) (before after : State) (a n want done : ℕ) {read : ℕ → Value} (found : ReadFault) (given : OpenFault) → LiesIn before.stream.section (count * 1020) → placed before ≡ Some a → want ≡ n → given ≡ read_as_open found → StopsRecords old before before.chunk.at want done found read new after → ReadsNoBlock count old before a n given new
block-stopped count old new before after a n want done {read} found given lies is_at same is stops =
    let here : before.chunk.at ≡ a = next-record before.place before.chunk.at a is_at in
    let records : StopsRecords old before a n done found read new after = subst (λ (i : ℕ). StopsRecords old before i n done found read new after) here (subst (λ (j : ℕ). StopsRecords old before before.chunk.at j done found read new after) same stops) in
    record { source = records-asked old new before a (done + 1) count lies records.met; cause = subst (λ (f : OpenFault). IsBlockCause old before a n f new) (sym is) (by-fault found records) }
  where
    by-fault : (found : ReadFault) → StopsRecords old before a n done found read new after → IsBlockCause old before a n (read_as_open found) new
    by-fault (of_read.Refused f) records =
        told_both (λ file. StandsIn file before → (j : ℕ) → j < done → column_item file before (a + j) ≡ Ok (read j)) (λ file. StandsIn file before → column_item file before (a + done) ≡ Err f) (λ file. StandsIn file before → first_refusal (column_item file before) a n ≡ Some f) old.held
        (λ file items lost stands. refusal-some (column_item file before) a done n read f records.below (items stands) (lost stands)) records.items records.cause.1
    by-fault of_read.Source records = records.cause

-- ---- nothing was read, and some records and then more

same-field : (c : State) → SameField c c
same-field c = record { stream = refl; items = refl }

pub block-none : (count : ℕ) (view : SourceView) (c : State) (a : ℕ) → placed c ≡ Some a → ReadsBlock count view c a 0 view c
unfolding first_refusal
block-none count view c a is_at = record {
  source = asks_where_none (λ file. StandsIn file c) count view;
  at_record = is_at ∙ ap Some (sym (add-zero a));
  same = same-field c;
  stands = stays view.held;
  sound = none view.held;
}
  where
    stays : (held : Option (List ℕ)) → IfSome held (λ file. StandsIn file c → StandsIn file c)
    stays None = tt
    stays (Some file) = λ stands. stands

    none : (held : Option (List ℕ)) → IfSome held (λ file. StandsIn file c → first_refusal (column_item file c) a 0 ≡ None)
    none None = tt
    none (Some file) = λ stands. refl

-- what is asked for where the column stands later
later-asks : (count : ℕ) (old mid new : SourceView) (a b : State) → mid.held ≡ old.held → KeepsStanding old a b → AsksWhere (λ file. StandsIn file b) count mid new → AsksWhere (λ file. StandsIn file a) count mid new
later-asks count old mid new a b same stands asks =
    asks_where_map (λ file. StandsIn file b) (λ file. StandsIn file a) count mid new
    (told_here (λ file. StandsIn file a → StandsIn file b) old.held mid.held same stands) asks

-- a fact where the column stands, of a column that stands later
later-told : (old mid : SourceView) (a b : State) (P Q : List ℕ → Type 0) → mid.held ≡ old.held → KeepsStanding old a b → ((file : List ℕ) → P file → Q file) → IfSome mid.held (λ file. StandsIn file b → P file) → IfSome old.held (λ file. StandsIn file a → Q file)
later-told old mid a b P Q same stands each told =
    told_both (λ file. StandsIn file a → StandsIn file b) (λ file. StandsIn file b → P file) (λ file. StandsIn file a → Q file) old.held (λ file f g stand. each file (g (f stand))) stands
    (told_here (λ file. StandsIn file b → P file) mid.held old.held (sym same) told)

pub block-on : (count : ℕ) (old mid new : SourceView) (a b c : State) (i m k : ℕ) → ReadsBlock count old a i m mid b → ReadsBlock count mid b (i + m) k new c → ReadsBlock count old a i (m + k) new c
block-on count old mid new a b c i m k first next =
    let place : i + m + k ≡ i + (m + k) = omega arith in
    let held = first.source.asks.same.held in
    record {
      source = asks_where_on (λ file. StandsIn file a) count old mid new first.source (later-asks count old mid new a b held first.stands next.source);
      at_record = next.at_record ∙ ap Some place;
      same = field-on a b c first.same next.same;
      stands = later-told old mid a b (λ file. StandsIn file c) (λ file. StandsIn file c) held first.stands (λ file stand. stand) next.stands;
      sound = told_both (λ file. StandsIn file a → first_refusal (column_item file a) i m ≡ None) (λ file. StandsIn file a → first_refusal (column_item file a) (i + m) k ≡ None) (λ file. StandsIn file a → first_refusal (column_item file a) i (m + k) ≡ None) old.held
          (λ file none rest stand. refusal-append (column_item file a) i m k ∙ ap (λ (o : Option Fault). option_or o (first_refusal (column_item file a) (i + m) k)) (none stand) ∙ rest stand) first.sound
          (later-told old mid a b (λ file. first_refusal (column_item file b) (i + m) k ≡ None) (λ file. first_refusal (column_item file a) (i + m) k ≡ None) held first.stands (λ file none. same-refusal file a b (i + m) k first.same ∙ none) next.sound);
    }

pub block-lost : (count : ℕ) (old mid new : SourceView) (a b : State) (i m k n : ℕ) (found : OpenFault) → n ≡ m + k → ReadsBlock count old a i m mid b → ReadsNoBlock count mid b (i + m) k found new → ReadsNoBlock count old a i n found new
block-lost count old mid new a b i m k n found all first next = record {
  source = asks_where_on (λ file. StandsIn file a) count old mid new first.source (later-asks count old mid new a b first.source.asks.same.held first.stands next.source);
  cause = by-fault found next.cause;
}
  where
    by-fault : (found : OpenFault) → IsBlockCause mid b (i + m) k found new → IsBlockCause old a i n found new
    by-fault (Refused f) cause =
        told_both (λ file. StandsIn file a → first_refusal (column_item file a) i m ≡ None) (λ file. StandsIn file a → first_refusal (column_item file a) (i + m) k ≡ Some f) (λ file. StandsIn file a → first_refusal (column_item file a) i n ≡ Some f) old.held
        (λ file none rest stand. ap (first_refusal (column_item file a) i) all ∙ refusal-append (column_item file a) i m k ∙ ap (λ (o : Option Fault). option_or o (first_refusal (column_item file a) (i + m) k)) (none stand) ∙ rest stand) first.sound
        (later-told old mid a b (λ file. first_refusal (column_item file b) (i + m) k ≡ Some f) (λ file. first_refusal (column_item file a) (i + m) k ≡ Some f) first.source.asks.same.held first.stands (λ file is. same-refusal file a b (i + m) k first.same ∙ is) cause)
    by-fault Source cause = rose_before old.faults mid.faults new.faults first.source.asks.faults cause
    by-fault Memory cause = tt

-- ---- buffers

-- all the places of a part are wanted
pub all-wanted : {X : Type 0} (x : X) (n size a i count : ℕ) → n ≤ size → i ≡ a → a + n ≤ count → min (length (take n (replicate size x))) (count - i) ≡ n
all-wanted x n size a i count few is left =
    let long : length (take n (replicate size x)) ≡ n = length-take-le n (replicate size x) (let all = length-replicate size x in omega (arith, all, few)) in
    rw long (omega (arith, is, left))

-- ---- strings

-- some strings were read
pub some-read : (count : ℕ) (old new : SourceView) (before after : State) (a n want : ℕ) (read : TextsRead) {bytes bytes' ends ends' : List ℕ} → LiesIn before.stream.section (count * 1020) → placed before ≡ Some a → want ≡ n → ReadsTexts old before want read bytes bytes' ends ends' new after → (read.count ≤ n) × ReadsBlock count old before a read.count new after
some-read count old new before after a n want read {bytes} {bytes'} {ends} {ends'} lies is_at same reads = (
  ⊎_elim (λ all. let k = all.0 in omega (arith, k, same)) (λ left. let k = left.fewer in omega (arith, k, same)) reads.why,
  block-read count old new before after a read.count read.count lies is_at refl reads.reads,
)

-- there is no memory for the next one
pub some-full : (count : ℕ) (old new : SourceView) (before after : State) (a n want : ℕ) (read : TextsRead) {bytes bytes' ends ends' : List ℕ} → LiesIn before.stream.section (count * 1020) → placed before ≡ Some a → want ≡ n → ReadsTexts old before want read bytes bytes' ends ends' new after → ReadsNoBlock count old before a n Memory new
some-full count old new before after a n want read {bytes} {bytes'} {ends} {ends'} lies is_at same reads =
    record { source = (some-read count old new before after a n want read lies is_at same reads).1.source; cause = tt }

pub lies-later : (before after : State) (m n : ℕ) → SameField before after → n ≡ m → LiesIn before.stream.section (m / 1024 * 1020) → LiesIn after.stream.section (n / 1024 * 1020)
lies-later before after m n same long lies =
    subst (λ (k : ℕ). LiesIn after.stream.section (k / 1024 * 1020)) (sym long) (subst (λ (b : Bytestream). LiesIn b.section (m / 1024 * 1020)) (sym same.stream) lies)

pub kind-later : (before after : State) (kind : ItemKind) → SameField before after → kind_of before.items ≡ kind → kind_of after.items ≡ kind
kind-later before after kind same is = ap kind_of same.items ∙ is

pub count-later : (before after : State) → SameField before after → after.stream.section.count ≡ before.stream.section.count
count-later before after same = ap (λ (b : Bytestream). b.section.count) same.stream

-- fewer strings are left, or there is room for longer ones
pub less-left : (n done read long longer : ℕ) → done < n → read ≤ n - done → (0 < read) ⊎ ((long < longer) × (longer ≤ 16777216)) → (n - (done + read)) * 16777217 + (16777216 - longer) < (n - done) * 16777217 + (16777216 - long)
less-left n done read long longer below few how =
    ⊎_elim (λ (some : 0 < read). omega (arith, below, few, some)) (λ grows. let more = grows.0 in let most = grows.1 in omega (arith, below, few, more, most)) how

-- ---- a column is opened

-- the leaf of a field
abbrev field_leaf : Field → Leaf
field_leaf field = record { node = field.node; kind = item_kind field.kind }

-- what the column of this field is
abbrev field_stream : Section → Option Fixed → ℕ → Field → Bytestream
field_stream s fixed f field = record { section = s; fixed = fixed; field = f; node = field.node }

leaf_with : Bytestream → ItemKind → Leaf
leaf_with b kind = record { node = b.node; kind = kind }

opened-leaf : (c : State) (b : Bytestream) (kind : ItemKind) → c.stream ≡ b → kind_of c.items ≡ kind → leaf_of c ≡ record { node = b.node; kind = kind }
unfolding leaf_with
opened-leaf c b kind stream is =
    ap (λ (x : Bytestream). leaf_with x (kind_of c.items)) stream ∙ ap (λ (k : ItemKind). leaf_with b k) is

item-of-field : (file : List ℕ) (s : Section) (fixed : Option Fixed) (f : ℕ) (field : Field) (c : State) → IsOpened s f field fixed c → column_item file c 0 ≡ item_of file s fixed f (field_leaf field) 0
item-of-field file s fixed f field c opened =
    ap (λ (b : Bytestream). item_of file b.section b.fixed b.field (leaf_of c) 0) opened.stream
    ∙ ap (λ (leaf : Leaf). item_of file s fixed f leaf 0) (opened-leaf c (field_stream s fixed f field) (item_kind field.kind) opened.stream opened.kind)

opened-asks : (count : ℕ) (old new : SourceView) (s : Section) (fixed : Option Fixed) (f : ℕ) (field : Field) (c : State) → LiesIn s (count * 1020) → IsOpened s f field fixed c → AsksRecords old c 0 1 new → AsksWhere (λ file. Unit {0}) count old new
opened-asks count old new s fixed f field c lies opened met =
    asks_where_map (λ file. StandsIn file c) (λ file. Unit {0}) count old new (each old.held)
    (records-asked old new c 0 1 count (subst (λ (b : Bytestream). LiesIn b.section (count * 1020)) (sym opened.stream) lies) met)
  where
    each : (held : Option (List ℕ)) → IfSome held (λ file. Unit {0} → StandsIn file c)
    each None = tt
    each (Some file) = λ always. opened.stands file

pub column-opened : (count : ℕ) (old new : SourceView) (s : Section) (fixed : Option Fixed) (f : ℕ) (field : Field) (before after : State) → LiesIn s (count * 1020) → IsOpened s f field fixed before → Seeks old before 0 new after → OpensColumn count old s fixed f (record { node = field.node; kind = item_kind field.kind }) after new
column-opened count old new s fixed f field before after lies opened seeks =
    let stream : after.stream ≡ field_stream s fixed f field = seeks.same.stream ∙ opened.stream in
    let kind : kind_of after.items ≡ item_kind field.kind = ap kind_of seeks.same.items ∙ opened.kind in
    record {
      source = opened-asks count old new s fixed f field before lies opened seeks.met;
      is_at = record { section = ap (λ (b : Bytestream). b.section) stream; at_record = seeks.is_at };
      fixed_is = ap (λ (b : Bytestream). b.fixed) stream;
      field_is = ap (λ (b : Bytestream). b.field) stream;
      leaf_is = opened-leaf after (field_stream s fixed f field) (item_kind field.kind) stream kind;
      stands = told_map (λ file. StandsIn file before → StandsIn file after) (λ file. StandsIn file after) old.held (λ file keeps. keeps (opened.stands file)) seeks.stands;
    }

pub column-unopened : (count : ℕ) (old new : SourceView) (s : Section) (fixed : Option Fixed) (f : ℕ) (field : Field) (before after : State) (found : ReadFault) (given : OpenFault) → LiesIn s (count * 1020) → IsOpened s f field fixed before → given ≡ read_as_open found → SeeksNot old before 0 found new after → OpensNoColumn count old s fixed f (record { node = field.node; kind = item_kind field.kind }) given new
column-unopened count old new s fixed f field before after found given lies opened is seeks =
    record { source = opened-asks count old new s fixed f field before lies opened seeks.met; cause = subst (λ (x : OpenFault). IsColumnCause old s fixed f (field_leaf field) x new) (sym is) (by-fault found seeks.cause) }
  where
    by-fault : (found : ReadFault) → IsCause old before 0 found new → IsColumnCause old s fixed f (field_leaf field) (read_as_open found) new
    by-fault (of_read.Refused x) cause = told_map (λ file. StandsIn file before → column_item file before 0 ≡ Err x) (λ file. item_of file s fixed f (field_leaf field) 0 ≡ Err x) old.held
        (λ file lost. sym (item-of-field file s fixed f field before opened) ∙ lost (opened.stands file)) cause.1
    by-fault of_read.Source cause = cause
