-- The section of what is kept of a cloud, opened in a file and put into a new one.
use Rattle.std.proofs.Common.{◌≡◌, ℕ, ◌+◌, ◌*◌, ◌/◌, ◌%◌, ◌<◌, ◌≤◌, Bool, true, false, List, [], ◌∷◌, ◌++◌, length, map, get_or, Option, Some, None, Result, Ok, Err, refl, sym, subst, ap, ◌∙◌, arith, inl, inr, ⊎_elim}
use Rattle.std.specs.Prelude.{◌==◌, IfSome, MatchResult}
use Rattle.std.specs.List.{AllByRecursion}
use Rattle.std.proofs.lemmas.Bool.{eq-eqb, cases_lt}
use Rattle.std.proofs.lemmas.List.{length-map}
use Rattle.e57_base.specs.Fault.{read_as_open, read_as_run}
use Rattle.e57_base.specs.Source.{SourceView}
use Rattle.e57_base.specs.Target.{TargetView}
use Rattle.e57_base.specs.declared.fault.AskFault.{AskFault}
use Rattle.e57_base.specs.declared.fault.AskFault.TheVariants as of_ask
use Rattle.e57_base.specs.declared.fault.Fault.{Fault}
use Rattle.e57_base.specs.declared.fault.ReadFault.{ReadFault}
use Rattle.e57_base.specs.declared.fault.ReadFault.TheVariants as of_read
use Rattle.e57_base.specs.declared.fault.RunFault.{RunFault}
use Rattle.e57_base.specs.declared.fault.RunFault.TheVariants.{Refused, Source, Out, Memory, Ask}
use Rattle.e57_base.proofs.CountLaws.{rose_before}
use Rattle.e57_base.proofs.Lists.{all_map}
use Rattle.e57_base.proofs.Told.{told_all, told_both, told_here, told_map}
use Rattle.e57_layout.specs.Values.{item_kind, ItemKind, Value}
use Rattle.e57_layout.specs.Items.{AreColumns}
use Rattle.e57_layout.specs.Packing.{first_records}
use Rattle.e57_layout.specs.Written.{packets_bytes, section_spelled, Spelled}
use Rattle.e57_layout.specs.declared.field.Field.{Field}
use Rattle.e57_layout.specs.declared.field.Fixed.{Fixed}
use Rattle.e57_layout.specs.declared.section.Section.{Section}
use Rattle.e57_page.specs.Place.{span_end}
use Rattle.e57_page_out.specs.Sequences.{Puts}
use Rattle.e57_page_out.specs.Writing.{Writing, IsBeingWritten, most_bytes}
use Rattle.e57_page_out.proofs.Sequences.{leaves_still, puts_nothing}
use Rattle.e57_cloud.specs.Section.{section_fault, section_at}
use Rattle.e57_cloud.specs.Cloud.{Leaf, Cloud, float_from, cloud_fault, records_of}
use Rattle.e57_section.specs.Opening.{OpensSection, OpensNoSection}
use Rattle.e57_nodes.specs.Items.{stated_cloud, leaves_of}
use Rattle.e57_tree.specs.Held.{AreCloudFields}
use Rattle.e57_tree.specs.declared.items.Cloud.{Cloud as StatedCloud}
use Rattle.e57_verdict.specs.Things.{records_body}
use Rattle.e57_verdict.specs.Verdict.{all_pages_fault}
use Rattle.e57_plain.specs.Kept.{chosen, kept_columns as of_selection, kept_count, passes, passing, Selection}
use Rattle.e57_plain.specs.Valid.{kinds_in as stated_kinds}
use Rattle.e57_plain.specs.Written.{body_section, section_offset}
use Rattle.e57_stream.specs.Asking.{AsksMet}
use Rattle.e57_blocks.specs.Fields.{asked_of, OnSlice, record_fault, Slice, slice_of}
use Rattle.e57_chunk_out.specs.CloudCalls.{chosen_kinds}
use Rattle.e57_chunk_out.specs.Progress.{packets_so_far}
use Rattle.e57_chunk_out.specs.Standing.{in_groups}
use Rattle.e57_chunk_out.specs.Turns.{data_end}
use Rattle.e57_chunk_out.specs.declared.cloud_out.Written.{Written}
use Rattle.e57_chunk_out.proofs.Blocks.{so_far-zero}
use Rattle.e57_check.specs.Asking.{AsksWhere}
use Rattle.e57_check.specs.Clouds.{cloud_of, RefusesCloud}
use Rattle.e57_check.proofs.AskingLaws.{asks_anywhere, asks_where_none, asks_where_on, span_below, unkept_pages}
use Rattle.e57_check.proofs.Bodies.{cloud-unopened}
use Rattle.e57_check.proofs.Paged.{item-below}
use Rattle.e57_copy.specs.Found.{asked_kinds, AreFoundColumns}
use Rattle.e57_copy.specs.Items.{IsSoundThing}
use Rattle.e57_copy.specs.Sections.{thing_of, ArePast}
use Rattle.e57_copy.proofs.Clouds.{section_none}
use Rattle.e57_copy.proofs.Columns.{columns_long, no_records, none_columns}
use Rattle.e57_copy.proofs.OfCloud.{records_long, section_past, IsSectionOf}
use Rattle.e57_copy.proofs.Putting.{whole_size}
use Rattle.e57_filter.specs.Asking.{filter_chunk}
use Rattle.e57_filter.specs.Keeping.{kept_columns, kept_number, passes_sieve, sieve_of, Sieve}
use Rattle.e57_filter.specs.KeptSection.{cloud_records, kept_section, limits_from, AreKept, FiltersCloud, HasFault, IsFilterCause, IsKeptCause, IsPastKept, LosesFiltered, LosesKept, PassesFiltered, PassesKept, PutsKept}
use Rattle.e57_filter.specs.Selecting.{selection_of, test_fields, AreOfCloud}
use Rattle.e57_filter.specs.declared.select.Selected.{Selected}
use Rattle.e57_filter.proofs.Ending.{section_some as kept_some}
use Rattle.e57_filter.proofs.OfCloud.{are_kept, found-parts, front_few, front_same, kept_are, kinds-chosen, no_fault, number_same, parts}
use Rattle.e57_filter.proofs.Opening.{asked-below}
use Rattle.e57_filter.proofs.Passing.{number-few}
use Rattle.e57_filter.proofs.Ranges.{count-none, passes-after, passes-before, passing-none}

-- ---- no record of a cloud

empty_records : (file : List ℕ) (c : Cloud) → c.count ≡ 0 → length (records_of file c) ≡ length c.leaves
unfolding records_of
empty_records file c none =
    let counted : (c.count == 0) ≡ true = eq-eqb c.count 0 none in
    rw counted (length-map c.leaves (λ (leaf : Leaf). []))

many_records : (file : List ℕ) (c : Cloud) → cloud_fault file c ≡ None → length (records_of file c) ≡ length c.leaves
many_records file c sound =
    ⊎_elim (λ (some : 0 < c.count). (records_long file c some sound).1) (λ (none : c.count ≤ 0). empty_records file c (omega (arith, none))) (cases_lt 0 c.count)

-- each record is one before the range or behind it
none_passes : (selection : Selection) (columns : List (List Value)) (i : ℕ) → selection.until ≤ selection.from → passes selection columns i ≡ false
none_passes selection columns i none =
    ⊎_elim (λ (low : i < selection.from). passes-before selection columns i low) (λ (high : selection.from ≤ i). passes-after selection columns i (omega (arith, high, none))) (cases_lt i selection.from)

none_chosen : (pass : ℕ → Bool) (flags : List Bool) (fields : List Field) (columns : List (List Value)) → ((i : ℕ) → pass i ≡ false) → length columns ≡ length fields
    → no_records (stated_kinds (chosen flags fields)) ≡ chosen flags (map (passing pass 0) columns)
none_chosen pass [] fields columns none same = refl
none_chosen pass (b ∷ flags) [] [] none same = refl
none_chosen pass (b ∷ flags) [] (column ∷ columns) none same = absurd (omega (arith, same))
none_chosen pass (b ∷ flags) (field ∷ fields) [] none same = absurd (omega (arith, same))
none_chosen pass (true ∷ flags) (field ∷ fields) (column ∷ columns) none same =
    rw (passing-none pass 0 column (λ t below. none (0 + t)), none_chosen pass flags fields columns none (omega (arith, same))) refl
none_chosen pass (false ∷ flags) (field ∷ fields) (column ∷ columns) none same = none_chosen pass flags fields columns none (omega (arith, same))

-- nothing is put
pub filters_none : {T : Type 0} (view : T → TargetView) (every count : ℕ) (selected : Selected) (fields : List Field) (source : SourceView) (out : Writing T) → IsBeingWritten view out → selected.count ≡ 0
    → FiltersCloud view filter_chunk selected.cloud fields (selection_of every selected) count source source out (record { place = 0; count = 0 }) out
filters_none view every count selected fields source out state none =
    let selection = selection_of every selected in
    let left = chosen selection.fields fields in
    let columns = no_records (stated_kinds left) in
    record {
      source = asks_where_none (λ file. Unit {0}) count source;
      columns = columns;
      few = omega arith;
      are = none_columns (stated_kinds left);
      of_file = told_all (λ file. IsSoundThing (thing_of selected.cloud fields) file → AreKept selection (cloud_records selected.cloud fields file) 0 columns) source.held (λ file sound.
          let records = cloud_records selected.cloud fields file in
          let not = λ (i : ℕ). none_passes selection records i (omega (arith, none)) in
          let many = many_records file (cloud_of selected.cloud (leaves_of fields)) sound ∙ length-map fields (λ (field : Field). record { node = field.node; kind = item_kind field.kind }) in
          record {
            count = sym (count-none (passes selection records) 0 (length (get_or records 0 [])) (λ t below. not (0 + t)));
            columns = none_chosen (passes selection records) selection.fields fields records not many;
          });
      puts = λ node.
          let section = section_none filter_chunk out.size node left columns in
          record {
            begins = ap (section_offset (out.size / 1020)) (sym section);
            wrote = subst (λ (xs : List ℕ). Puts view out xs out) (sym section) (puts_nothing view out state);
          };
    }

-- ---- a section that wasn't opened

fault_none : (o : Option Fault) (found : Fault) → o ≡ Some found → o ≡ None → ⊥
fault_none o found some none = cc

unopened : {T : Type 0} (view : T → TargetView) (n count : ℕ) (cloud : StatedCloud) (fields : List Field) (selection : Selection) (old new : SourceView) (out : Writing T) (found : ReadFault) → IsBeingWritten view out → RefusesCloud count old cloud (leaves_of fields) (read_as_open found) new
    → LosesFiltered view n cloud fields selection count old new out (read_as_run found) out
unopened view n count cloud fields selection old new out (of_read.Refused f) state lost = record {
  source = lost.source;
  left = leaves_still view out state;
  cause = told_map (λ file. cloud_fault file (cloud_of cloud (leaves_of fields)) ≡ Some f) (λ file. all_pages_fault file ≡ None → IsSoundThing (thing_of cloud fields) file → ⊥) old.held
      (λ file is pages sound. fault_none (cloud_fault file (cloud_of cloud (leaves_of fields))) f is sound) lost.cause;
}
unopened view n count cloud fields selection old new out of_read.Source state lost = record { source = lost.source; left = leaves_still view out state; cause = lost.cause }

pub filters_unopened : {T : Type 0} (view : T → TargetView) (n count : ℕ) (cloud : StatedCloud) (fields : List Field) (selection : Selection) (old new : SourceView) (kept now : List ℕ) (out : Writing T) (found : ReadFault) (given : RunFault) → 0 < cloud.count → given ≡ read_as_run found → IsBeingWritten view out
    → OpensNoSection old kept (count * 1020) cloud.node cloud.place found new now → LosesFiltered view n cloud fields selection count old new out given out
filters_unopened view n count cloud fields selection old new kept now out found given some is state lost =
    subst (λ (f : RunFault). LosesFiltered view n cloud fields selection count old new out f out) (sym is)
    (unopened view n count cloud fields selection old new out found state (cloud-unopened kept now count (length fields) old new cloud (leaves_of fields) found (read_as_open found) some refl lost))

-- ---- sections

kept_as_body : (n size node count : ℕ) (fields : List Field) (kinds : List ItemKind) (columns : List (List Value)) → kinds ≡ stated_kinds fields → kept_section size kinds n count columns ≡ body_section n size (stated_cloud node count fields) (records_body columns)
unfolding kept_section body_section
kept_as_body n size node count fields kinds columns same = rw same refl

-- with no record kept no page is left only where none was left before
none_past : (size n : ℕ) (kinds : List ItemKind) (columns : List (List Value)) → size % 1020 ≡ 0 → most_bytes < data_end size kinds n (in_groups 0) columns → most_bytes ≤ size
none_past size n kinds columns whole past =
    let front = first_records 0 columns in
    let bytes : length (packets_bytes (packets_so_far kinds n 0 front)) ≡ 0 = ap (λ (ps : List Spelled). length (packets_bytes ps)) (so_far-zero kinds n front) in
    let start = whole_size size whole in
    omega (arith, past, bytes, start, whole)

-- ---- a section that was opened, over plain variables

module _ {T : Type 0} (view : T → TargetView) (every count : ℕ) (selected : Selected) (fixed : Option Fixed) (fields : List Field) (old mid new : SourceView) (kept now : List ℕ) (s : Section) (out out' : Writing T) (whole : out.size % 1020 ≡ 0) (is : fixed ≡ float_from 0 (leaves_of fields)) (of_fields : AreCloudFields fields) (of_cloud : AreOfCloud fields selected) (some : 0 < selected.cloud.count) (opens : OpensSection old kept (count * 1020) selected.cloud.node selected.cloud.place selected.cloud.count (length fields) s mid now) where
  abbrev cloud : StatedCloud
  cloud = selected.cloud

  abbrev c : Cloud
  c = cloud_of cloud (leaves_of fields)

  abbrev numbers : List ℕ
  numbers = selected.numbers.items

  abbrev asked : List ℕ
  asked = numbers ++ test_fields selected.tests.items

  abbrev a : Slice
  a = slice_of s fixed fields asked selected.from selected.count

  abbrev sieve : Sieve
  sieve = sieve_of every (limits_from (length numbers) selected.tests.items)

  abbrev selection : Selection
  selection = selection_of every selected

  abbrev kinds : List ItemKind
  kinds = chosen_kinds fields numbers

  of_file : IfSome old.held (λ file. IsSectionOf file c s)
  of_file =
      let many : length fields ≡ length (leaves_of fields) = sym (length-map fields (λ (field : Field). record { node = field.node; kind = item_kind field.kind })) in
      told_both (λ file. section_fault file cloud.node cloud.place ≡ None) (λ file. s ≡ section_at file cloud.node cloud.place cloud.count (length fields)) (λ file. IsSectionOf file c s) old.held
      (λ file none same. record { header = none; is = same ∙ ap (λ k. section_at file cloud.node cloud.place cloud.count k) many }) opens.sound opens.read

  -- ---- what was asked for

  asks_first : AsksWhere (λ file. Unit {0}) count old mid
  asks_first =
      let header = opens.lies.header in
      let data_within = opens.lies.data_within in
      let within = opens.lies.within in
      asks_anywhere (λ file. Unit {0}) count old mid (unkept_pages kept (s.start / 1020) (span_end s.start 32) count old mid (span_below s.start 32 count (omega (arith, header, data_within, within))) opens.source)

  asks_rest : AsksMet (OnSlice a) mid new → AsksWhere (λ file. Unit {0}) count mid new
  asks_rest met = record {
    pages = met.pages;
    within = told_map (λ file. AllByRecursion (OnSlice a file) met.pages) (λ file. Unit {0} → AllByRecursion (λ (p : ℕ). p < count) met.pages) mid.held
        (λ file all x. all_map (OnSlice a file) (λ (p : ℕ). p < count) met.pages (λ p on. item-below file s fixed on.f on.leaf on.i p count opens.lies.within on.way) all) met.are_met;
    asks = met.asks;
  }

  asks_all : AsksMet (OnSlice a) mid new → AsksWhere (λ file. Unit {0}) count old new
  asks_all met = asks_where_on (λ file. Unit {0}) count old mid new asks_first (asks_rest met)

  held : (P : List ℕ → Type 0) → IfSome mid.held P → IfSome old.held P
  held P told = told_here P mid.held old.held (sym asks_first.asks.same.held) told

  -- ---- the records of the file

  within : selected.from + selected.count ≤ cloud.count
  within = of_cloud.within

  all_asked : AllByRecursion (λ (f : ℕ). f < length fields) asked
  all_asked = asked-below fields selected of_cloud

  -- the first n of the range
  first_found : (file : List ℕ) (section : IsSectionOf file c s) (sound : cloud_fault file c ≡ None) (n : ℕ) (columns : List (List Value)) → n ≤ selected.count → AreColumns (asked_kinds (asked_of fields asked)) n columns → AreFoundColumns file s fixed (asked_of fields asked) selected.from columns
      → columns ≡ parts file c s fixed fields refl is some section sound selected.from n asked
  first_found file section sound n columns few full found =
      found-parts file c s fixed fields refl is some section sound selected.from n asked columns (omega (arith, few, within)) all_asked (columns_long (asked_kinds (asked_of fields asked)) n columns full) found

  -- ---- they were put

  filtered : (written : Written) → PutsKept view sieve (length numbers) a filter_chunk kinds mid new out written out' → FiltersCloud view filter_chunk cloud fields selection count old new out written out'
  filtered written puts =
      let columns = kept_columns sieve (length numbers) puts.columns in
      let left = chosen selection.fields fields in
      let same = kinds-chosen fields selected of_cloud in
      let few = number-few (passes_sieve sieve puts.columns) 0 selected.count in
      let number = puts.number in
      record {
        source = asks_all puts.met;
        columns = columns;
        few = omega (arith, few, number, within);
        are = subst (λ (ks : List ItemKind). AreColumns ks written.count columns) same puts.are;
        of_file = told_both (λ file. IsSectionOf file c s) (λ file. AreFoundColumns file s fixed (asked_of fields asked) selected.from puts.columns) (λ file. IsSoundThing (thing_of cloud fields) file → AreKept selection (cloud_records cloud fields file) written.count columns) old.held
            (λ file section found sound.
            are_kept file c s fixed fields refl is some section sound every selected of_cloud within of_fields.some puts.columns written.count
            (first_found file section sound selected.count puts.columns (omega arith) puts.full found) number) of_file
            (held (λ file. AreFoundColumns file s fixed (asked_of fields asked) selected.from puts.columns) puts.found);
        puts = λ node.
            let section = kept_as_body filter_chunk out.size node written.count left kinds columns same in
            record {
              begins = puts.begins ∙ ap (section_offset (out.size / 1020)) section;
              wrote = subst (λ (xs : List ℕ). Puts view out xs out') section puts.wrote;
            };
      }

  -- ---- they were not

  faulty : (file : List ℕ) → IsSectionOf file c s → HasFault a file → IsSoundThing (thing_of cloud fields) file → ⊥
  faulty file section has sound =
      let before = has.before in
      fault_none (record_fault file s fixed (asked_of fields asked) has.i) has.found has.is
      (no_fault file c s fixed fields refl is some section sound asked has.i (omega (arith, before, within)) all_asked)

  module _ (file : List ℕ) (section : IsSectionOf file c s) (sound : cloud_fault file c ≡ None) (passes_end : PassesKept sieve (length numbers) a filter_chunk kinds mid out.size) (found : AreFoundColumns file s fixed (asked_of fields asked) selected.from passes_end.columns) where
    abbrev records : List (List Value)
    records = records_of file c

    abbrev first : List (List Value)
    first = passes_end.columns

    abbrev number : ℕ
    number = kept_number sieve first passes_end.some

    abbrev all_kept : List (List Value)
    all_kept = of_selection selection records

    abbrev total : ℕ
    total = kept_count selection records

    same_first : first ≡ parts file c s fixed fields refl is some section sound selected.from passes_end.some asked
    same_first = first_found file section sound passes_end.some first passes_end.few passes_end.full found

    same_front : kept_columns sieve (length numbers) first ≡ first_records number all_kept
    same_front =
        subst (λ (cs : List (List Value)). kept_columns sieve (length numbers) cs ≡ first_records (kept_number sieve cs passes_end.some) all_kept) (sym same_first)
        (front_same file c s fixed fields refl is some section sound every selected of_cloud within of_fields.some passes_end.some passes_end.few)

    number_few : number ≤ total
    number_few =
        subst (λ (cs : List (List Value)). kept_number sieve cs passes_end.some ≤ total) (sym same_first)
        (front_few file c s fixed fields refl is some section sound every selected of_cloud within of_fields.some passes_end.some passes_end.few)

    number_all : passes_end.some ≡ selected.count → number ≡ total
    number_all all =
        ap (λ (cs : List (List Value)). kept_number sieve cs passes_end.some) same_first
        ∙ ap (λ (k : ℕ). kept_number sieve (parts file c s fixed fields refl is some section sound selected.from k asked) k) all
        ∙ number_same file c s fixed fields refl is some section sound every selected of_cloud within of_fields.some

    are_all : AreColumns kinds total all_kept
    are_all =
        subst (λ (ks : List ItemKind). AreColumns ks total all_kept) (sym (kinds-chosen fields selected of_cloud))
        (kept_are file c s fixed fields refl is some section sound every selected of_cloud within of_fields.some of_fields.each)

    past_all : ArePast out.size kinds filter_chunk total number (kept_columns sieve (length numbers) first)
    past_all = ⊎_elim (λ (early : most_bytes < data_end out.size kinds filter_chunk (in_groups number) (kept_columns sieve (length numbers) first)). inl early)
        (λ (late : (passes_end.some ≡ selected.count) × (0 < number) × (most_bytes < out.size + length (section_spelled out.size kinds filter_chunk number (kept_columns sieve (length numbers) first)))).
        let same = number_all late.0 in
        inr (same, subst (λ (k : ℕ). most_bytes < out.size + length (section_spelled out.size kinds filter_chunk k (kept_columns sieve (length numbers) first))) same late.2)) passes_end.past

    past_some : 0 < total → most_bytes ≤ out.size + length (section_spelled out.size kinds filter_chunk total all_kept)
    past_some any =
        let past = section_past out.size filter_chunk kinds total number (kept_columns sieve (length numbers) first) all_kept (omega arith) (omega arith) whole are_all number_few same_front past_all in
        omega (arith, past)

    past_none : total ≡ 0 → most_bytes ≤ out.size
    past_none none =
        let zero_number : number ≡ 0 = let few = number_few in omega (arith, few, none) in
        ⊎_elim (λ (early : most_bytes < data_end out.size kinds filter_chunk (in_groups number) (kept_columns sieve (length numbers) first)).
        none_past out.size filter_chunk kinds (kept_columns sieve (length numbers) first) whole
        (subst (λ (k : ℕ). most_bytes < data_end out.size kinds filter_chunk (in_groups k) (kept_columns sieve (length numbers) first)) zero_number early))
        (λ (late : (passes_end.some ≡ selected.count) × (0 < number) × (most_bytes < out.size + length (section_spelled out.size kinds filter_chunk number (kept_columns sieve (length numbers) first)))).
        let any = late.1 in absurd (omega (arith, any, zero_number))) passes_end.past

    past_body : most_bytes ≤ out.size + length (body_section filter_chunk out.size (stated_cloud 0 total (chosen selection.fields fields)) (records_body all_kept))
    past_body =
        subst (λ (xs : List ℕ). most_bytes ≤ out.size + length xs) (kept_as_body filter_chunk out.size 0 total (chosen selection.fields fields) kinds all_kept (kinds-chosen fields selected of_cloud))
        (⊎_elim (λ (any : 0 < total).
        subst (λ (xs : List ℕ). most_bytes ≤ out.size + length xs) (sym (kept_some out.size kinds filter_chunk total all_kept any)) (past_some any))
        (λ (none : total ≤ 0). let past = past_none (omega (arith, none)) in omega (arith, past)) (cases_lt 0 total))

  passing_end : PassesKept sieve (length numbers) a filter_chunk kinds mid out.size → PassesFiltered filter_chunk cloud fields selection old out.size of_ask.Large
  passing_end passes_end =
      told_both (λ file. IsSectionOf file c s) (λ file. AreFoundColumns file s fixed (asked_of fields asked) selected.from passes_end.columns)
      (λ file. IsSoundThing (thing_of cloud fields) file
      → most_bytes ≤ out.size + length (body_section filter_chunk out.size (stated_cloud 0 (kept_count selection (cloud_records cloud fields file)) (chosen selection.fields fields)) (records_body (of_selection selection (cloud_records cloud fields file))))) old.held
      (λ file section found sound. past_body file section sound passes_end found) of_file
      (held (λ file. AreFoundColumns file s fixed (asked_of fields asked) selected.from passes_end.columns) passes_end.found)

  why_asked : (why : AskFault) → IsPastKept sieve (length numbers) a filter_chunk kinds mid out why → PassesFiltered filter_chunk cloud fields selection old out.size why
  why_asked of_ask.Large passes_end = passing_end passes_end
  why_asked why lost = absurd lost

  why_lost : (fault : RunFault) → IsKeptCause view sieve (length numbers) a filter_chunk kinds mid new out fault out' → IsFilterCause view filter_chunk cloud fields selection old new out fault out'
  why_lost (Refused found) has =
      told_both (λ file. IsSectionOf file c s) (HasFault a) (λ file. all_pages_fault file ≡ None → IsSoundThing (thing_of cloud fields) file → ⊥) old.held
      (λ file section wrong pages sound. faulty file section wrong sound) of_file (held (HasFault a) has)
  why_lost Source rose = rose_before old.faults mid.faults new.faults asks_first.asks.faults rose
  why_lost Out rose = rose
  why_lost Memory x = tt
  why_lost (Ask why) lost = why_asked why lost

  lost : (fault : RunFault) → LosesKept view sieve (length numbers) a filter_chunk kinds mid new out fault out' → LosesFiltered view filter_chunk cloud fields selection count old new out fault out'
  lost fault loses = record { source = asks_all loses.met; left = loses.left; cause = why_lost fault loses.cause }

  pub filters_result : (result : Result Written RunFault)
      → MatchResult result (λ written. PutsKept view sieve (length numbers) a filter_chunk kinds mid new out written out') (λ fault. LosesKept view sieve (length numbers) a filter_chunk kinds mid new out fault out')
      → MatchResult result (λ written. FiltersCloud view filter_chunk cloud fields selection count old new out written out') (λ fault. LosesFiltered view filter_chunk cloud fields selection count old new out fault out')
  filters_result (Ok written) puts = filtered written puts
  filters_result (Err fault) loses = lost fault loses
