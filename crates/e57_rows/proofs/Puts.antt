-- The rows of a slice, put run after run.
use Rattle.std.specs.Prelude.{◌≡◌, ℕ, suc, ◌+◌, ◌-◌, ◌<◌, ◌≤◌, List, [], ◌++◌, length, take, Option, Some, None, IfSome, Err}
use Rattle.std.specs.Option.{option_map}
use Rattle.std.specs.List.{AllByRecursion}
use Rattle.std.proofs.Common.{refl, sym, subst, ap, ◌∙◌, arith, append_assoc, length-append, inr}
use Rattle.std.proofs.Math.Seq.{take-append-add}
use Rattle.std.proofs.lemmas.List.{append-nil, take-append-le, take_all}
use Rattle.e57_base.specs.Count.{Rose}
use Rattle.e57_base.proofs.CountLaws.{rose_before}
use Rattle.e57_base.specs.Source.{SourceView}
use Rattle.e57_base.specs.Sink.{SinkView, Grows, GrowsByFront}
use Rattle.e57_base.proofs.Told.{told_map, told_both, told_here, told_all}
use Rattle.e57_base.specs.Fault.{open_as_run}
use Rattle.e57_base.specs.declared.fault.Fault.{Fault}
use Rattle.e57_base.specs.declared.fault.OpenFault.{OpenFault}
use Rattle.e57_base.specs.declared.fault.OpenFault.TheVariants as lost
use Rattle.e57_base.specs.declared.fault.RunFault.TheVariants.{Out, Memory}
use Rattle.e57_layout.specs.Values.{Value}
use Rattle.e57_stream.specs.Asking.{AsksMet}
use Rattle.e57_stream.proofs.AskingLaws.{asks_met_none, asks_met_on, asks_met_map}
use Rattle.e57_blocks.specs.Block.{Block, Holds}
use Rattle.e57_rows.specs.Rows.{shown_row, rows_text, rows_fault}
use Rattle.e57_blocks.specs.Runs.{HasRecords}
use Rattle.e57_blocks.specs.Fields.{Slice, OnSlice, slice_at, record_fault, Blocks, AreOf, AreBlocks, IsReady, AreOfFile, FillsBlocks, IsBlocksCause, FillsNoBlocks}
use Rattle.e57_rows.specs.Putting.{slice_text, slice_fault, PutsFront, PutsRows, IsRowsCause, FailsRows}
use Rattle.e57_rows.specs.Blocks.{held_rows}
use Rattle.e57_base.proofs.Lists.{all_map}
use Rattle.e57_rows.proofs.Records.{AreRows, row_wrong, rows_none, rows_both, rows_on, rows_sound, rows_stop, row_lost}

-- ---- what a sink holds

grows_none : (written : Option (List ℕ)) → Grows written [] written
grows_none None = refl
grows_none (Some bytes) = ap Some (sym (append-nil bytes))

pub grows_on : (a b c : Option (List ℕ)) (first next : List ℕ) → Grows a first b → Grows b next c → Grows a (first ++ next) c
grows_on None b c first next f g = g ∙ ap (option_map (λ bytes. bytes ++ next)) f
grows_on (Some bytes) b c first next f g = g ∙ ap (option_map (λ bytes. bytes ++ next)) f ∙ ap Some (append_assoc bytes first next)

grows_front : (a b : Option (List ℕ)) (text : List ℕ) → Grows a text b → GrowsByFront a text b
grows_front a b text grows = (length text, omega arith, subst (λ (t : List ℕ). Grows a t b) (sym (take_all (length text) text (omega arith))) grows)

-- some bytes, and a front of others
pub front_on : (a b c : Option (List ℕ)) (first next : List ℕ) → Grows a first b → GrowsByFront b next c → GrowsByFront a (first ++ next) c
front_on a b c first next grows (k, within, front) = (
  length first + k,
  rw length-append (omega (arith, within)),
  subst (λ (t : List ℕ). Grows a t c) (sym (take-append-add first next k)) (grows_on a b c first (take k next) grows front),
)

-- a front of a text is one of a longer text
front_wider : (a b : Option (List ℕ)) (text more : List ℕ) → GrowsByFront a text b → GrowsByFront a (text ++ more) b
front_wider a b text more (k, within, front) = (k, rw length-append (omega (arith, within)), subst (λ (t : List ℕ). Grows a t b) (sym (take-append-le k text more within)) front)

-- ---- a part of a slice

-- some records of it
abbrev pub part : Slice → ℕ → ℕ → Slice
part a i n = record { section = a.section; fixed = a.fixed; asked = a.asked; from = i; count = n }

-- the rows of its records
abbrev pub rows_of : (ℕ → Value → Value) → Slice → List ℕ → ℕ → ℕ → List ℕ → Type 0
rows_of show a file i n text = AreRows (shown_row show file a.section a.fixed a.asked) i n text

part_asks : (a : Slice) (i n : ℕ) (old new : SourceView) → a.from ≤ i → i + n ≤ a.from + a.count → AsksMet (OnSlice (part a i n)) old new → AsksMet (OnSlice a) old new
part_asks a i n old new low high asks =
    asks_met_map (OnSlice (part a i n)) (OnSlice a) old new
    (told_all (λ file. (p : ℕ) → OnSlice (part a i n) file p → OnSlice a file p) old.held
    (λ file p on.
    let after = on.after in
    let before = on.before in
    record { f = on.f; leaf = on.leaf; i = on.i; asks = on.asks; after = omega (arith, after, low); before = omega (arith, before, high); way = on.way })) asks

-- ---- the first rows of a slice

-- The rows of its first n records were put: none of these has a fault.
pub record PutsTo (show : ℕ → Value → Value) (a : Slice) (n : ℕ) (old new : SourceView) (out out' : SinkView) : Type 0 where
  pub met : AsksMet (OnSlice a) old new
  pub text : List ℕ
  pub rows : IfSome old.held (λ file. rows_of show a file a.from n text)
  pub wrote : Grows out.written text out'.written
  pub counts : out.faults ≤ out'.faults

pub puts_none : (show : ℕ → Value → Value) (a : Slice) (source : SourceView) (out : SinkView) → PutsTo show a 0 source source out out
puts_none show a source out = record {
  met = asks_met_none (OnSlice a) source;
  text = [];
  rows = told_all (λ file. rows_of show a file a.from 0 []) source.held (λ file. rows_none (shown_row show file a.section a.fixed a.asked) a.from);
  wrote = grows_none out.written;
  counts = omega arith;
}

-- the rows that the blocks hold, behind the first ones
run_rows : (show : ℕ → Value → Value) (a : Slice) (n want m i : ℕ) (old mid new : SourceView) (blocks : List Block) (first text : List ℕ) → i ≡ a.from + n → mid.held ≡ old.held → IfSome old.held (λ file. rows_of show a file a.from n first) → FillsBlocks (part a i want) mid m new blocks → text ≡ held_rows show blocks i m
    → IfSome old.held (λ file. rows_of show a file a.from (n + m) (first ++ text))
run_rows show a n want m i old mid new blocks first text place same rows fills is =
    told_both (λ file. rows_of show a file a.from n first) (λ file. AllByRecursion (Holds file) blocks) (λ file. rows_of show a file a.from (n + m) (first ++ text)) old.held
    (λ file before holds.
    let next = rows_sound show file a.section a.fixed a.asked blocks i m fills.are holds fills.have in
    let here : rows_of show a file (a.from + n) m text = subst (λ (t : List ℕ). rows_of show a file (a.from + n) m t) (sym is) (subst (λ (k : ℕ). rows_of show a file k m (held_rows show blocks i m)) place next) in
    rows_both (shown_row show file a.section a.fixed a.asked) a.from n m first text before here) rows
    (told_here (λ file. AllByRecursion (Holds file) blocks) mid.held old.held (sym same) fills.holds)

-- one run more
pub puts_on : (show : ℕ → Value → Value) (a : Slice) (n want m i : ℕ) (old mid new : SourceView) (out out' out'' : SinkView) (blocks : List Block) (text : List ℕ) → i ≡ a.from + n → n + want ≤ a.count → PutsTo show a n old mid out out' → FillsBlocks (part a i want) mid m new blocks → text ≡ held_rows show blocks i m
    → Grows out'.written text out''.written → out'.faults ≤ out''.faults → PutsTo show a (n + m) old new out out''
puts_on show a n want m i old mid new out out' out'' blocks text place within first fills is wrote counts =
    let before = first.counts in
    record {
      met = asks_met_on (OnSlice a) old mid new first.met (part_asks a i want mid new (omega (arith, place)) (omega (arith, place, within)) fills.met);
      text = first.text ++ text;
      rows = run_rows show a n want m i old mid new blocks first.text text place first.met.asks.same.held first.rows fills is;
      wrote = grows_on out.written out'.written out''.written first.text text first.wrote wrote;
      counts = omega (arith, before, counts);
    }

pub puts_all : (show : ℕ → Value → Value) (a : Slice) (n : ℕ) (old new : SourceView) (out out' : SinkView) → n ≡ a.count → PutsTo show a n old new out out' → PutsRows show a old new out out'
puts_all show a n old new out out' all first =
    let rows = subst (λ (k : ℕ). IfSome old.held (λ file. rows_of show a file a.from k first.text)) all first.rows in
    record {
      met = first.met;
      sound = told_map (λ file. rows_of show a file a.from a.count first.text) (λ file. slice_fault show a file ≡ None) old.held (λ file are. are.sound) rows;
      wrote = (first.text, told_map (λ file. rows_of show a file a.from a.count first.text) (λ file. first.text ≡ slice_text show a file) old.held (λ file are. are.text_is) rows, first.wrote);
    }

-- ---- not all of them

-- a front of the first rows is one of all
front_of : (show : ℕ → Value → Value) (a : Slice) (n : ℕ) (held : Option (List ℕ)) (text : List ℕ) (out out' : SinkView) → n ≤ a.count → IfSome held (λ file. rows_of show a file a.from n text) → GrowsByFront out.written text out'.written → PutsFront show a held out out'
front_of show a n None text out out' within rows front = (text, tt, front)
front_of show a n (Some file) text out out' within rows front =
    let row = shown_row show file a.section a.fixed a.asked in
    let on = rows_on row a.from n (a.count - n) text rows in
    let all : n + (a.count - n) ≡ a.count = omega (arith, within) in
    let whole : slice_text show a file ≡ text ++ rows_text row (a.from + n) (a.count - n) = subst (λ (k : ℕ). rows_text row a.from k ≡ text ++ rows_text row (a.from + n) (a.count - n)) all on.texts in (
      slice_text show a file,
      refl,
      subst (λ (t : List ℕ). GrowsByFront out.written t out'.written) (sym whole) (front_wider out.written out'.written text (rows_text row (a.from + n) (a.count - n)) front),
    )

puts_front : (show : ℕ → Value → Value) (a : Slice) (n : ℕ) (old mid : SourceView) (out out' : SinkView) → n ≤ a.count → PutsTo show a n old mid out out' → PutsFront show a old.held out out'
puts_front show a n old mid out out' within first = front_of show a n old.held first.text out out' within first.rows (grows_front out.written out'.written first.text first.wrote)

-- no block was opened
pub fails_first : (show : ℕ → Value → Value) (a : Slice) (source : SourceView) (out : SinkView) → FailsRows show a source source out out Memory
fails_first show a source out =
    let first = puts_none show a source out in
    record { met = first.met; cause = puts_front show a 0 source source out out (omega arith) first }

-- the next record isn't held
pub fails_fill : (show : ℕ → Value → Value) (a : Slice) (n want i : ℕ) (old mid new : SourceView) (out out' : SinkView) (before after : List Block) (fault : OpenFault) → 0 < want → i ≡ a.from + n → n + want ≤ a.count → PutsTo show a n old mid out out' → FillsNoBlocks (part a i want) mid before fault new after → FailsRows show a old new out out' (open_as_run fault)
fails_fill show a n want i old mid new out out' before after fault some place within first fails =
    record {
      met = asks_met_on (OnSlice a) old mid new first.met (part_asks a i want mid new (omega (arith, place)) (omega (arith, place, within)) fails.met);
      cause = by_cause fault fails.cause;
    }
  where
    left : n + suc (a.count - n - 1) ≡ a.count
    left = omega (arith, some, within)

    stops : (found : Fault) → IfSome mid.held (λ file. record_fault file a.section a.fixed a.asked i ≡ Some found) → IfSome old.held (λ file. (slice_fault show a file ≡ Some found) × (first.text ≡ slice_text show a file))
    stops found wrong =
        told_both (λ file. rows_of show a file a.from n first.text) (λ file. record_fault file a.section a.fixed a.asked i ≡ Some found) (λ file. (slice_fault show a file ≡ Some found) × (first.text ≡ slice_text show a file)) old.held
        (λ file rows is.
        let row = shown_row show file a.section a.fixed a.asked in
        let stop = rows_stop row a.from n (a.count - n - 1) first.text found rows (subst (λ (k : ℕ). row k ≡ Err found) place (row_lost show file a.section a.fixed a.asked i found (row_wrong file a.section a.fixed a.asked i found is))) in
        subst (λ (k : ℕ). (rows_fault row a.from k ≡ Some found) × (first.text ≡ rows_text row a.from k)) left stop) first.rows
        (told_here (λ file. record_fault file a.section a.fixed a.asked i ≡ Some found) mid.held old.held (sym first.met.asks.same.held) wrong)

    by_cause : (fault : OpenFault) → IsBlocksCause (part a i want) mid before fault new → IsRowsCause show a old new out out' (open_as_run fault)
    by_cause (lost.Refused found) (kind, wrong) =
        let both = stops found wrong in (
          kind,
          told_map (λ file. (slice_fault show a file ≡ Some found) × (first.text ≡ slice_text show a file)) (λ file. slice_fault show a file ≡ Some found) old.held (λ file x. x.0) both,
          (first.text, told_map (λ file. (slice_fault show a file ≡ Some found) × (first.text ≡ slice_text show a file)) (λ file. first.text ≡ slice_text show a file) old.held (λ file x. x.1) both, first.wrote),
        )
    by_cause lost.Source rose = (rose_before old.faults mid.faults new.faults first.met.asks.faults rose, puts_front show a n old mid out out' (omega (arith, within)) first)
    by_cause lost.Memory needs = puts_front show a n old mid out out' (omega (arith, within)) first

-- there is no memory for the text of the next run
pub fails_text : (show : ℕ → Value → Value) (a : Slice) (n want m i : ℕ) (old mid new : SourceView) (out out' : SinkView) (blocks : List Block) → i ≡ a.from + n → n + want ≤ a.count → PutsTo show a n old mid out out' → FillsBlocks (part a i want) mid m new blocks → FailsRows show a old new out out' Memory
fails_text show a n want m i old mid new out out' blocks place within first fills = record {
  met = asks_met_on (OnSlice a) old mid new first.met (part_asks a i want mid new (omega (arith, place)) (omega (arith, place, within)) fills.met);
  cause = puts_front show a n old mid out out' (omega (arith, within)) first;
}

-- the next run wasn't put as a whole
pub fails_put : (show : ℕ → Value → Value) (a : Slice) (n want m i : ℕ) (old mid new : SourceView) (out out' out'' : SinkView) (blocks : List Block) (text : List ℕ) → i ≡ a.from + n → n + want ≤ a.count → PutsTo show a n old mid out out' → FillsBlocks (part a i want) mid m new blocks → text ≡ held_rows show blocks i m
    → GrowsByFront out'.written text out''.written → Rose out'.faults out''.faults → FailsRows show a old new out out'' Out
fails_put show a n want m i old mid new out out' out'' blocks text place within first fills is front rose =
    let few = fills.few in
    record {
      met = asks_met_on (OnSlice a) old mid new first.met (part_asks a i want mid new (omega (arith, place)) (omega (arith, place, within)) fills.met);
      cause = (
        rose_before out.faults out'.faults out''.faults first.counts rose,
        front_of show a (n + m) old.held (first.text ++ text) out out'' (omega (arith, few, within)) (run_rows show a n want m i old mid new blocks first.text text place first.met.asks.same.held first.rows fills is)
            (front_on out.written out'.written out''.written first.text text first.wrote front),
      );
    }

-- ---- the blocks

-- they are ready for what comes behind the records that they hold
pub ready_on : (i n : ℕ) (blocks : List Block) → AllByRecursion (HasRecords i n) blocks → AllByRecursion (IsReady (i + n)) blocks
ready_on i n blocks have = all_map (HasRecords i n) (IsReady (i + n)) blocks (λ b has. let low = has.0 in let high = has.1 in inr (omega (arith, low), omega (arith, high))) have

-- they hold items of the file as long as it is held
pub holds_later : (old new : SourceView) (blocks : List Block) → new.held ≡ old.held → AreOfFile old blocks → AreOfFile new blocks
holds_later old new blocks same holds = told_here (λ file. AllByRecursion (Holds file) blocks) old.held new.held same holds

-- they are blocks of the fields of a slice
pub record AreBeside (a : Slice) (b : Blocks) : Type 0 where
  pub are_of : AreOf a.section a.fixed b
  pub are : AreBlocks a.section a.fixed a.asked b.blocks

slice_is : (a : Slice) (b : Blocks) (i n : ℕ) → AreBeside a b → slice_at b i n ≡ part a i n
slice_is a b i n beside = rw (beside.are_of.in_section, beside.are_of.with_fixed, beside.are.fields) refl

-- what is filled of the blocks of these fields
pub fills_part : (a : Slice) (b : Blocks) (after : List Block) (i want n : ℕ) (old new : SourceView) → AreBeside a b → FillsBlocks (slice_at b i want) old n new after → FillsBlocks (part a i want) old n new after
fills_part a b after i want n old new beside fills = subst (λ (x : Slice). FillsBlocks x old n new after) (slice_is a b i want beside) fills

fills_no_part : (a : Slice) (b : Blocks) (after : List Block) (i want : ℕ) (fault : OpenFault) (old new : SourceView) → AreBeside a b → FillsNoBlocks (slice_at b i want) old b.blocks fault new after → FillsNoBlocks (part a i want) old b.blocks fault new after
fills_no_part a b after i want fault old new beside fails = subst (λ (x : Slice). FillsNoBlocks x old b.blocks fault new after) (slice_is a b i want beside) fails

pub beside_on : (a : Slice) (before after : Blocks) → AreBeside a before → AreOf before.section before.fixed after → AreBlocks a.section a.fixed a.asked after.blocks → AreBeside a after
beside_on a before after beside same are = record { are_of = record { in_section = same.in_section ∙ beside.are_of.in_section; with_fixed = same.with_fixed ∙ beside.are_of.with_fixed }; are = are }

-- ---- a run, as the loop has it: the records before record i were put

pub run_on : (show : ℕ → Value → Value) (a : Slice) (i want m : ℕ) (old mid new : SourceView) (out out' out'' : SinkView) (b : Blocks) (after : List Block) (text : List ℕ) → a.from ≤ i → i + want ≤ a.from + a.count → AreBeside a b → PutsTo show a (i - a.from) old mid out out'
    → FillsBlocks (slice_at b i want) mid m new after → text ≡ held_rows show after i m → Grows out'.written text out''.written → out'.faults ≤ out''.faults → PutsTo show a (i + m - a.from) old new out out''
run_on show a i want m old mid new out out' out'' b after text low high beside first fills is wrote counts =
    let n : i - a.from + m ≡ i + m - a.from = omega (arith, low) in
    subst (λ (k : ℕ). PutsTo show a k old new out out'') n
    (puts_on show a (i - a.from) want m i old mid new out out' out'' after text (omega (arith, low)) (omega (arith, low, high)) first (fills_part a b after i want m mid new beside fills) is wrote counts)

pub run_not : (show : ℕ → Value → Value) (a : Slice) (i want : ℕ) (old mid new : SourceView) (out out' : SinkView) (b : Blocks) (after : List Block) (fault : OpenFault) → 0 < want → a.from ≤ i → i + want ≤ a.from + a.count → AreBeside a b → PutsTo show a (i - a.from) old mid out out'
    → FillsNoBlocks (slice_at b i want) mid b.blocks fault new after → FailsRows show a old new out out' (open_as_run fault)
run_not show a i want old mid new out out' b after fault some low high beside first fails =
    fails_fill show a (i - a.from) want i old mid new out out' b.blocks after fault some (omega (arith, low)) (omega (arith, low, high)) first (fills_no_part a b after i want fault mid new beside fails)

pub run_unwritten : (show : ℕ → Value → Value) (a : Slice) (i want m : ℕ) (old mid new : SourceView) (out out' : SinkView) (b : Blocks) (after : List Block) → a.from ≤ i → i + want ≤ a.from + a.count → AreBeside a b → PutsTo show a (i - a.from) old mid out out'
    → FillsBlocks (slice_at b i want) mid m new after → FailsRows show a old new out out' Memory
run_unwritten show a i want m old mid new out out' b after low high beside first fills =
    fails_text show a (i - a.from) want m i old mid new out out' after (omega (arith, low)) (omega (arith, low, high)) first (fills_part a b after i want m mid new beside fills)

pub run_unput : (show : ℕ → Value → Value) (a : Slice) (i want m : ℕ) (old mid new : SourceView) (out out' out'' : SinkView) (b : Blocks) (after : List Block) (text : List ℕ) → a.from ≤ i → i + want ≤ a.from + a.count → AreBeside a b → PutsTo show a (i - a.from) old mid out out'
    → FillsBlocks (slice_at b i want) mid m new after → text ≡ held_rows show after i m → GrowsByFront out'.written text out''.written → Rose out'.faults out''.faults → FailsRows show a old new out out'' Out
run_unput show a i want m old mid new out out' out'' b after text low high beside first fills is front rose =
    fails_put show a (i - a.from) want m i old mid new out out' out'' after text (omega (arith, low)) (omega (arith, low, high)) first (fills_part a b after i want m mid new beside fills) is front rose
