-- A row of columns, one column after another.
use Rattle.std.specs.Prelude.{◌≡◌, ℕ, suc, ◌+◌, ◌<◌, ◌≤◌, List, [], ◌∷◌, ◌++◌, length, take, drop, get_or, Option, Some, None, IfSome, Result, MatchResult}
use Rattle.std.specs.List.{AllByRecursion}
use Rattle.std.specs.Option.{option_or}
use Rattle.std.proofs.Common.{set, refl, sym, subst, ap, ◌∙◌, arith, length-append, append_assoc}
use Rattle.std.proofs.lemmas.List.{append-nil, take_at, drop_at, get_or_at, set_at, take-append-drop}
use Rattle.e57_base.proofs.CountLaws.{rose_before}
use Rattle.e57_base.specs.Source.{SourceView}
use Rattle.e57_base.proofs.Told.{told_map}
use Rattle.e57_base.specs.declared.fault.Fault.{Fault}
use Rattle.e57_base.specs.declared.fault.OpenFault.{OpenFault}
use Rattle.e57_base.specs.declared.fault.OpenFault.TheVariants.{Refused, Source, Memory}
use Rattle.e57_layout.specs.Values.{Value}
use Rattle.e57_layout.specs.declared.section.Section.{Section}
use Rattle.e57_cloud.specs.PathItem.{item_of, first_refusal}
use Rattle.e57_check.specs.Asking.{AsksWhere}
use Rattle.e57_check.proofs.AskingLaws.{asks_where_none, asks_where_on, asks_where_map}
use Rattle.e57_column.specs.Column.{kind_of, column_item, StandsIn}
use Rattle.e57_column.specs.Reading.{SameField}
use Rattle.e57_check.specs.Judging.{IsAt, AllAt, AllStand, SameFields, columns_fault, ReadsBlock, ReadsNoBlock, FirstHas, RowIs, ReadsRow, IsGiveUp, ReadsNoRow, stopped_row}
use Rattle.e57_stream.specs.declared.bytestream.Bytestream.{Bytestream}
use Rattle.e57_column.specs.declared.state.Items.{Items}
use Rattle.e57_column.specs.declared.state.State.{State}
use Rattle.e57_check.specs.declared.row.Row.{Row}
use Rattle.e57_base.proofs.Options.{option_or_parts, option_or_assoc}
use Rattle.e57_cloud.proofs.Laws.Refusals.{refusal-append}

-- ---- columns

pub columns-none : (file : List ℕ) (a n : ℕ) → columns_fault file [] a n ≡ None
unfolding columns_fault
columns-none file a n = refl

columns-first : (file : List ℕ) (c : State) (cs : List State) (a n : ℕ) → columns_fault file (c ∷ cs) a n ≡ option_or (first_refusal (column_item file c) a n) (columns_fault file cs a n)
unfolding columns_fault
columns-first file c cs a n = refl

pub columns-append : (file : List ℕ) (cs ds : List State) (a n : ℕ) → columns_fault file (cs ++ ds) a n ≡ option_or (columns_fault file cs a n) (columns_fault file ds a n)
unfolding columns_fault
columns-append file [] ds a n = refl
columns-append file (c ∷ cs) ds a n =
    ap (option_or (first_refusal (column_item file c) a n)) (columns-append file cs ds a n)
    ∙ sym (option_or_assoc (first_refusal (column_item file c) a n) (columns_fault file cs a n) (columns_fault file ds a n))

pub columns-one : (file : List ℕ) (c : State) (a n : ℕ) → columns_fault file (c ∷ []) a n ≡ first_refusal (column_item file c) a n
unfolding columns_fault
columns-one file c a n = nothing (first_refusal (column_item file c) a n)
  where
    nothing : (o : Option Fault) → option_or o None ≡ o
    nothing None = refl
    nothing (Some x) = refl

-- columns that have no fault in the next n records
columns-rest : (file : List ℕ) (cs : List State) (a n m : ℕ) → columns_fault file cs a n ≡ None → columns_fault file cs a (n + m) ≡ columns_fault file cs (a + n) m
unfolding columns_fault
columns-rest file [] a n m none = refl
columns-rest file (c ∷ cs) a n m none =
    let both = option_or_parts (first_refusal (column_item file c) a n) (columns_fault file cs a n) none in
    let here : first_refusal (column_item file c) a (n + m) ≡ first_refusal (column_item file c) (a + n) m = refusal-append (column_item file c) a n m ∙ ap (λ (o : Option Fault). option_or o (first_refusal (column_item file c) (a + n) m)) both.0 in
    rw (here, columns-rest file cs a n m both.1) refl

-- the items of a column by its field
items_by : List ℕ → Bytestream → Items → ℕ → Result Value Fault
items_by file b items i = item_of file b.section b.fixed b.field (record { node = b.node; kind = kind_of items }) i

pub same-refusal : (file : List ℕ) (c d : State) (a n : ℕ) → SameField c d → first_refusal (column_item file c) a n ≡ first_refusal (column_item file d) a n
unfolding items_by
same-refusal file c d a n same =
    ap (λ (b : Bytestream). first_refusal (items_by file b c.items) a n) (sym same.stream)
    ∙ ap (λ (items : Items). first_refusal (items_by file d.stream items) a n) (sym same.items)

columns-same : (file : List ℕ) (cs ds : List State) (a n : ℕ) → SameFields cs ds → columns_fault file cs a n ≡ columns_fault file ds a n
unfolding columns_fault SameFields
columns-same file [] [] a n same = refl
columns-same file [] (d ∷ ds) a n same = absurd same
columns-same file (c ∷ cs) [] a n same = absurd same
columns-same file (c ∷ cs) (d ∷ ds) a n same = rw (same-refusal file c d a n same.0, columns-same file cs ds a n same.1) refl

-- the first of these columns has this fault in the next n records
columns-next : (file : List ℕ) (ds : List State) (a n m : ℕ) (found before : Option Fault) → FirstHas file ds a n found → option_or (columns_fault file ds a (n + m)) before ≡ option_or found before
unfolding columns_fault
columns-next file [] a n m found before has = rw has refl
columns-next file (c ∷ cs) a n m None before has = absurd has
columns-next file (c ∷ cs) a n m (Some f) before has =
    let here : first_refusal (column_item file c) a (n + m) ≡ Some f = refusal-append (column_item file c) a n m ∙ ap (λ (o : Option Fault). option_or o (first_refusal (column_item file c) (a + n) m)) has in
    rw here refl

-- The first fault of columns is that of those that are left, further on, or else the one that was found.
pub row-step : (file : List ℕ) (cs cs' : List State) (a n m j : ℕ) (found before : Option Fault) → RowIs file cs a n j found cs' → SameFields (take j cs) (take j cs')
    → option_or (columns_fault file cs a (n + m)) before ≡ option_or (columns_fault file (take j cs') (a + n) m) (option_or found before)
row-step file cs cs' a n m j found before is same =
    ap (λ (all : List State). option_or (columns_fault file all a (n + m)) before) (sym (take-append-drop j cs))
    ∙ ap (λ (o : Option Fault). option_or o before) (columns-append file (take j cs) (drop j cs) a (n + m))
    ∙ option_or_assoc (columns_fault file (take j cs) a (n + m)) (columns_fault file (drop j cs) a (n + m)) before
    ∙ ap (option_or (columns_fault file (take j cs) a (n + m))) (columns-next file (drop j cs) a n m found before is.next)
    ∙ ap (λ (o : Option Fault). option_or o (option_or found before)) (columns-rest file (take j cs) a n m is.sound ∙ columns-same file (take j cs) (take j cs') (a + n) m same)

-- ---- one column after another

pub all-append : (P : State → Type 0) (xs ys : List State) → AllByRecursion P xs → AllByRecursion P ys → AllByRecursion P (xs ++ ys)
all-append P [] ys f g = g
all-append P (x ∷ xs) ys f g = (f.0, all-append P xs ys f.1 g)

all-later : (P : State → Type 0) (xs ys : List State) → AllByRecursion P (xs ++ ys) → AllByRecursion P ys
all-later P [] ys all = all
all-later P (x ∷ xs) ys all = all-later P xs ys all.1

same-append : (cs ds : List State) (c d : State) → SameFields cs ds → SameField c d → SameFields (cs ++ c ∷ []) (ds ++ d ∷ [])
unfolding SameFields
same-append [] [] c d same one = (one, tt)
same-append [] (x ∷ ds) c d same one = absurd same
same-append (x ∷ cs) [] c d same one = absurd same
same-append (x ∷ cs) (y ∷ ds) c d same one = (same.0, same-append cs ds c d same.1 one)

-- so many columns were read, and the others are as they were
pub record RowSoFar (count : ℕ) (old : SourceView) (s : Section) (cs : List State) (a n j : ℕ) (new : SourceView) (cs' : List State) : Type 0 where
  pub source : AsksWhere (λ file. AllStand file cs) count old new
  pub before : List State
  pub after : List State
  pub rest : List State
  pub was : cs ≡ before ++ rest
  pub is : cs' ≡ after ++ rest
  pub long_before : length before ≡ j
  pub long_after : length after ≡ j
  pub all : AllAt s (a + n) after
  pub all_rest : AllAt s a rest
  pub same : SameFields before after
  pub told : IfSome old.held (λ file. AllStand file cs → AllStand file after × (columns_fault file before a n ≡ None))

same-none : SameFields [] []
unfolding SameFields
same-none = tt

pub row-begin : (count : ℕ) (view : SourceView) (s : Section) (cs : List State) (a n : ℕ) → AllAt s a cs → RowSoFar count view s cs a n 0 view cs
row-begin count view s cs a n all = record {
  source = asks_where_none (λ file. AllStand file cs) count view;
  before = [];
  after = [];
  rest = cs;
  was = refl;
  is = refl;
  long_before = refl;
  long_after = refl;
  all = tt;
  all_rest = all;
  same = same-none;
  told = none view.held;
}
  where
    none : (held : Option (List ℕ)) → IfSome held (λ file. AllStand file cs → AllStand file [] × (columns_fault file [] a n ≡ None))
    none None = tt
    none (Some file) = λ stand. (tt, columns-none file a n)

-- the column that comes
pub record NextColumn (s : Section) (a j : ℕ) (cs : List State) (c : State) (before rest : List State) : Type 0 where
  pub is : rest ≡ c ∷ drop 1 rest
  pub at_it : IsAt s a c

pub next-column : (s : Section) (a j : ℕ) (cs before rest : List State) (c d : State) → cs ≡ before ++ rest → length before ≡ j → j < length cs → AllAt s a rest → c ≡ get_or cs j d → NextColumn s a j cs c before rest
next-column s a j cs before [] c d is long below all got = let none : length cs ≡ length before = ap (λ (xs : List State). length xs) (is ∙ append-nil before) in absurd (omega (arith, none, long, below))
next-column s a j cs before (x ∷ rest) c d is long below all got =
    let here : c ≡ x = got ∙ ap (λ (xs : List State). get_or xs j d) is ∙ get_or_at before x rest d j long in
    record { is = ap (λ (y : State). y ∷ rest) (sym here); at_it = subst (IsAt s a) (sym here) all.0 }

-- the columns with it changed
column-set : (s : Section) (a j : ℕ) (cs : List State) (c d : State) (before rest : List State) → cs ≡ before ++ rest → length before ≡ j → NextColumn s a j cs c before rest → before ++ d ∷ drop 1 rest ≡ set cs j d
column-set s a j cs c d before rest is long next =
    sym (set_at before c (drop 1 rest) d j long) ∙ ap (λ (xs : List State). set (before ++ xs) j d) (sym next.is) ∙ ap (λ (xs : List State). set xs j d) (sym is)

stands-later : (file : List ℕ) (cs before rest : List State) (c : State) → cs ≡ before ++ rest → rest ≡ c ∷ drop 1 rest → AllStand file cs → StandsIn file c
stands-later file cs before rest c was is stand =
    (subst (AllByRecursion (StandsIn file)) is (all-later (StandsIn file) before rest (subst (AllByRecursion (StandsIn file)) was stand))).0

-- what was asked for to read the next column
next-asks : (count : ℕ) (old mid new : SourceView) (cs before rest : List State) (c : State) → cs ≡ before ++ rest → rest ≡ c ∷ drop 1 rest → AsksWhere (λ file. AllStand file cs) count old mid → AsksWhere (λ file. StandsIn file c) count mid new → AsksWhere (λ file. AllStand file cs) count old new
next-asks count old mid new cs before rest c was is first next =
    asks_where_on (λ file. AllStand file cs) count old mid new first
    (asks_where_map (λ file. StandsIn file c) (λ file. AllStand file cs) count mid new (each mid.held) next)
  where
    each : (held : Option (List ℕ)) → IfSome held (λ file. AllStand file cs → StandsIn file c)
    each None = tt
    each (Some file) = stands-later file cs before rest c was is

-- one column more
pub row-more : (count : ℕ) (old mid new : SourceView) (s : Section) (cs : List State) (a n j : ℕ) (cs' : List State) (c d : State) (row : RowSoFar count old s cs a n j mid cs') → NextColumn s a j cs' c row.after row.rest → ReadsBlock count mid c a n new d → RowSoFar count old s cs a n (j + 1) new (row.after ++ d ∷ drop 1 row.rest)
row-more count old mid new s cs a n j cs' c d row next reads =
    let longer = row.long_before in
    let longer_after = row.long_after in
    record {
      source = next-asks count old mid new cs row.before row.rest c row.was next.is row.source reads.source;
      before = row.before ++ c ∷ [];
      after = row.after ++ d ∷ [];
      rest = drop 1 row.rest;
      was = row.was ∙ ap (λ (xs : List State). row.before ++ xs) next.is ∙ sym (append_assoc row.before (c ∷ []) (drop 1 row.rest));
      is = sym (append_assoc row.after (d ∷ []) (drop 1 row.rest));
      long_before = length-append row.before (c ∷ []) ∙ ap (λ (k : ℕ). k + 1) longer;
      long_after = length-append row.after (d ∷ []) ∙ ap (λ (k : ℕ). k + 1) longer_after;
      all = all-append (IsAt s (a + n)) row.after (d ∷ []) row.all (record { section = ap (λ (b : Bytestream). b.section) reads.same.stream ∙ next.at_it.section; at_record = reads.at_record }, tt);
      all_rest = (subst (AllAt s a) next.is row.all_rest).1;
      same = same-append row.before row.after c d row.same reads.same;
      told = both old.held mid.held row.source.asks.same.held row.told reads.stands reads.sound;
    }
  where
    both : (held held' : Option (List ℕ)) → held' ≡ held → IfSome held (λ file. AllStand file cs → AllStand file row.after × (columns_fault file row.before a n ≡ None)) → IfSome held' (λ file. StandsIn file c → StandsIn file d) → IfSome held' (λ file. StandsIn file c → first_refusal (column_item file c) a n ≡ None)
        → IfSome held (λ file. AllStand file cs → AllStand file (row.after ++ d ∷ []) × (columns_fault file (row.before ++ c ∷ []) a n ≡ None))
    both None held' same told stands sound = tt
    both (Some file) None same told stands sound = absurd cc
    both (Some file) (Some f) same told stands sound = λ stand.
        let e : f ≡ file = cc in
        let there = stands-later file cs row.before row.rest c row.was next.is stand in
        let goes = subst (λ (x : List ℕ). StandsIn x c → StandsIn x d) e stands in
        let none = subst (λ (x : List ℕ). StandsIn x c → first_refusal (column_item x c) a n ≡ None) e sound in (
          all-append (StandsIn file) row.after (d ∷ []) (told stand).0 (goes there, tt),
          columns-append file row.before (c ∷ []) a n ∙ ap (λ (o : Option Fault). option_or o (columns_fault file (c ∷ []) a n)) (told stand).1 ∙ columns-one file c a n ∙ none there,
        )

-- the next column has a fault
pub row-stops : (count : ℕ) (old mid new : SourceView) (s : Section) (cs : List State) (a n j : ℕ) (cs' : List State) (c d : State) (found : Fault) (row : RowSoFar count old s cs a n j mid cs') → NextColumn s a j cs' c row.after row.rest → ReadsNoBlock count mid c a n (Refused found) new
    → ReadsRow count old s cs a n j (Some found) new (row.after ++ d ∷ drop 1 row.rest)
row-stops count old mid new s cs a n j cs' c d found row next lost =
    let front : take j cs ≡ row.before = ap (take j) row.was ∙ take_at row.before row.rest j row.long_before in
    let front' : take j (row.after ++ d ∷ drop 1 row.rest) ≡ row.after = take_at row.after (d ∷ drop 1 row.rest) j row.long_after in
    let back : drop j cs ≡ c ∷ drop 1 row.rest = ap (drop j) row.was ∙ drop_at row.before row.rest j row.long_before ∙ next.is in
    let all : length cs ≡ length row.before + length row.rest = ap (λ (xs : List State). length xs) row.was ∙ length-append row.before row.rest in
    let all' : length (row.after ++ d ∷ drop 1 row.rest) ≡ length row.after + length (d ∷ drop 1 row.rest) = length-append row.after (d ∷ drop 1 row.rest) in
    let some : length row.rest ≡ length (d ∷ drop 1 row.rest) = ap (λ (xs : List State). length xs) next.is in
    let long = row.long_before in
    let long' = row.long_after in
    record {
      source = next-asks count old mid new cs row.before row.rest c row.was next.is row.source lost.source;
      few = omega (arith, all, long);
      as_many = omega (arith, all, all', some, long, long');
      all = subst (AllAt s (a + n)) (sym front') row.all;
      same = subst (λ (xs : List State). SameFields xs (take j (row.after ++ d ∷ drop 1 row.rest))) (sym front) (subst (SameFields row.before) (sym front') row.same);
      told = both front front' back old.held mid.held row.source.asks.same.held row.told lost.cause;
    }
  where
    both : take j cs ≡ row.before → take j (row.after ++ d ∷ drop 1 row.rest) ≡ row.after → drop j cs ≡ c ∷ drop 1 row.rest → (held held' : Option (List ℕ)) → held' ≡ held
        → IfSome held (λ file. AllStand file cs → AllStand file row.after × (columns_fault file row.before a n ≡ None)) → IfSome held' (λ file. StandsIn file c → first_refusal (column_item file c) a n ≡ Some found)
        → IfSome held (λ file. AllStand file cs → RowIs file cs a n j (Some found) (row.after ++ d ∷ drop 1 row.rest))
    both front front' back None held' same told is = tt
    both front front' back (Some file) None same told is = absurd cc
    both front front' back (Some file) (Some f) same told is = λ stand.
        let e : f ≡ file = cc in
        let has = subst (λ (x : List ℕ). StandsIn x c → first_refusal (column_item x c) a n ≡ Some found) e is in
        let there = stands-later file cs row.before row.rest c row.was next.is stand in
        record {
          sound = subst (λ (xs : List State). columns_fault file xs a n ≡ None) (sym front) (told stand).1;
          stand = subst (AllStand file) (sym front') (told stand).0;
          next = subst (λ (xs : List State). FirstHas file xs a n (Some found)) (sym back) (has there);
        }

-- the source failed or memory ran out
pub row-lost : (count : ℕ) (old mid new : SourceView) (s : Section) (cs : List State) (a n j : ℕ) (cs' : List State) (c : State) (fault : OpenFault) (row : RowSoFar count old s cs a n j mid cs') → NextColumn s a j cs' c row.after row.rest → IsGiveUp mid fault new → AsksWhere (λ file. StandsIn file c) count mid new → ReadsNoRow count old cs fault new
row-lost count old mid new s cs a n j cs' c (Refused found) row next gives asks = absurd gives
row-lost count old mid new s cs a n j cs' c Source row next gives asks = record {
  source = next-asks count old mid new cs row.before row.rest c row.was next.is row.source asks;
  cause = rose_before old.faults mid.faults new.faults row.source.asks.faults gives;
}
row-lost count old mid new s cs a n j cs' c Memory row next gives asks = record { source = next-asks count old mid new cs row.before row.rest c row.was next.is row.source asks; cause = tt }

-- the next column, by what reading it answers
pub row-on : (count : ℕ) (old mid new : SourceView) (s : Section) (cs : List State) (a n j : ℕ) (cs' : List State) (c d x : State) → c ≡ get_or cs' j x → j < length cs → length cs' ≡ length cs → RowSoFar count old s cs a n j mid cs' → ReadsBlock count mid c a n new d → RowSoFar count old s cs a n (j + 1) new (set cs' j d)
row-on count old mid new s cs a n j cs' c d x got below same row reads =
    let next = next-column s a j cs' row.after row.rest c x row.is row.long_after (omega (arith, below, same)) row.all_rest got in
    subst (RowSoFar count old s cs a n (j + 1) new) (column-set s a j cs' c d row.after row.rest row.is row.long_after next) (row-more count old mid new s cs a n j cs' c d row next reads)

pub row-stopped : (count : ℕ) (old mid new : SourceView) (s : Section) (cs : List State) (a n j : ℕ) (cs' : List State) (c d x : State) (fault : OpenFault) (result : Result Row OpenFault) → c ≡ get_or cs' j x → j < length cs → length cs' ≡ length cs → RowSoFar count old s cs a n j mid cs' → ReadsNoBlock count mid c a n fault new → result ≡ stopped_row j fault
    → MatchResult result (λ row. ReadsRow count old s cs a n row.passed row.found new (set cs' j d)) (λ found. ReadsNoRow count old cs found new)
row-stopped count old mid new s cs a n j cs' c d x (Refused found) result got below same row lost is =
    let next = next-column s a j cs' row.after row.rest c x row.is row.long_after (omega (arith, below, same)) row.all_rest got in
    rw is (subst (ReadsRow count old s cs a n j (Some found) new) (column-set s a j cs' c d row.after row.rest row.is row.long_after next) (row-stops count old mid new s cs a n j cs' c d found row next lost))
row-stopped count old mid new s cs a n j cs' c d x Source result got below same row lost is =
    let next = next-column s a j cs' row.after row.rest c x row.is row.long_after (omega (arith, below, same)) row.all_rest got in
    rw is (row-lost count old mid new s cs a n j cs' c Source row next lost.cause lost.source)
row-stopped count old mid new s cs a n j cs' c d x Memory result got below same row lost is =
    let next = next-column s a j cs' row.after row.rest c x row.is row.long_after (omega (arith, below, same)) row.all_rest got in
    rw is (row-lost count old mid new s cs a n j cs' c Memory row next tt lost.source)

-- all columns were read
pub row-ends : (count : ℕ) (old new : SourceView) (s : Section) (cs : List State) (a n j : ℕ) (cs' : List State) → length cs' ≤ j → RowSoFar count old s cs a n j new cs' → ReadsRow count old s cs a n (length cs') None new cs'
row-ends count old new s cs a n j cs' over row = by_rest row.rest refl
  where
    by_rest : (rest : List State) → row.rest ≡ rest → ReadsRow count old s cs a n (length cs') None new cs'
    by_rest (x ∷ rest) is =
        let all : length cs' ≡ length row.after + length row.rest = ap (λ (xs : List State). length xs) row.is ∙ length-append row.after row.rest in
        let some : length row.rest ≡ suc (length rest) = ap (λ (xs : List State). length xs) is in
        let long = row.long_after in
        absurd (omega (arith, all, some, long, over))
    by_rest [] is =
        let was : cs ≡ row.before = row.was ∙ ap (λ (xs : List State). row.before ++ xs) is ∙ append-nil row.before in
        let now : cs' ≡ row.after = row.is ∙ ap (λ (xs : List State). row.after ++ xs) is ∙ append-nil row.after in
        let long : length cs ≡ length cs' = ap (λ (xs : List State). length xs) was ∙ row.long_before ∙ sym row.long_after ∙ ap (λ (xs : List State). length xs) (sym now) in
        let front : take (length cs') cs ≡ row.before = ap (take (length cs')) (sym (append-nil cs)) ∙ take_at cs [] (length cs') long ∙ was in
        let front' : take (length cs') cs' ≡ row.after = ap (take (length cs')) (sym (append-nil cs')) ∙ take_at cs' [] (length cs') refl ∙ now in
        let back : drop (length cs') cs ≡ [] = ap (drop (length cs')) (sym (append-nil cs)) ∙ drop_at cs [] (length cs') long in
        record {
          source = row.source;
          few = omega (arith, long);
          as_many = sym long;
          all = subst (AllAt s (a + n)) (sym front') row.all;
          same = subst (λ (xs : List State). SameFields xs (take (length cs') cs')) (sym front) (subst (SameFields row.before) (sym front') row.same);
          told = told_map (λ file. AllStand file cs → AllStand file row.after × (columns_fault file row.before a n ≡ None)) (λ file. AllStand file cs → RowIs file cs a n (length cs') None cs') old.held
              (λ file told stand. record {
                sound = subst (λ (xs : List State). columns_fault file xs a n ≡ None) (sym front) (told stand).1;
                stand = subst (AllStand file) (sym front') (told stand).0;
                next = subst (λ (xs : List State). FirstHas file xs a n None) (sym back) refl;
              }) row.told;
        }
