-- A cloud whose records are read: its section is opened, and its columns are those of the file.
use Rattle.std.proofs.Common.{◌≡◌, ℕ, ◌+◌, ◌*◌, ◌/◌, ◌<◌, true, List, [], length, map, get_or, slice_get, Option, Some, None, Result, Ok, Err, refl, sym, subst, ap, ◌∙◌, arith}
use Rattle.std.specs.Prelude.{◌==◌, IfSome, MatchResult}
use Rattle.std.specs.List.{AllByRecursion, range_with_len}
use Rattle.std.proofs.lemmas.Bool.{eq-eqb}
use Rattle.std.proofs.lemmas.List.{get_or-map, length-map}
use Rattle.std.proofs.lemmas.Option.{slice_get-get_or}
use Rattle.e57_base.specs.Fault.{read_as_open}
use Rattle.e57_base.specs.Source.{SourceView}
use Rattle.e57_base.specs.declared.fault.Fault.{Fault}
use Rattle.e57_base.specs.declared.fault.OpenFault.{OpenFault}
use Rattle.e57_base.specs.declared.fault.OpenFault.TheVariants.{Refused, Source, Memory}
use Rattle.e57_base.specs.declared.fault.ReadFault.{ReadFault}
use Rattle.e57_base.proofs.CountLaws.{rose_before}
use Rattle.e57_base.proofs.Lists.{all_map}
use Rattle.e57_base.proofs.Told.{told_all, told_both, told_here, told_map}
use Rattle.e57_layout.specs.Values.{Value}
use Rattle.e57_layout.specs.declared.field.Field.{Field}
use Rattle.e57_layout.specs.declared.field.Fixed.{Fixed}
use Rattle.e57_layout.specs.declared.section.Section.{Section}
use Rattle.e57_page.specs.Place.{span_end}
use Rattle.e57_cloud.specs.Section.{section_fault, section_at}
use Rattle.e57_cloud.specs.Cloud.{Leaf, Cloud, fixed_of, float_from, section_of, cloud_fault, records_of}
use Rattle.e57_cloud.specs.PathItem.{item_of, path_item}
use Rattle.e57_cloud.proofs.Laws.Refusals.{path_item-record}
use Rattle.e57_section.specs.Opening.{OpensSection, OpensNoSection}
use Rattle.e57_nodes.specs.Items.{leaves_of}
use Rattle.e57_tree.specs.declared.items.Cloud.{Cloud as StatedCloud}
use Rattle.e57_verdict.specs.Things.{cloud_thing}
use Rattle.e57_stream.specs.Asking.{AsksMet}
use Rattle.e57_blocks.specs.Fields.{asked_of, field_at, leaf_of, no_field, record_fault, OnSlice}
use Rattle.e57_check.specs.Asking.{AsksWhere}
use Rattle.e57_check.specs.Clouds.{cloud_of, RefusesCloud}
use Rattle.e57_check.proofs.AskingLaws.{asks_anywhere, asks_where_none, asks_where_on, span_below, unkept_pages}
use Rattle.e57_check.proofs.Bodies.{cloud-unopened}
use Rattle.e57_check.proofs.Paged.{item-below}
use Rattle.e57_copy.specs.Found.{AreFoundColumns}
use Rattle.e57_copy.specs.Sections.{all_records}
use Rattle.e57_copy.proofs.Columns.{AreLong}
use Rattle.e57_copy.proofs.OfCloud.{found_all, leaf_in, records_long, IsSectionOf}
use Rattle.e57_copy.proofs.Reading.{no_fault, ItemsAre}
use Rattle.e57_repack.specs.Widening.{HasFault, IsItemCause, IsRecordCause}
use Rattle.e57_trial.specs.Summing.{first_sum, SumsAll, SumsCloud, SumsNoCloud, SumsNot}
use Rattle.e57_trial.proofs.Gathering.{blank-sum}

-- ---- no record of a sound cloud has a fault

leaf-there : (fields : List Field) (f : ℕ) → f < length fields → slice_get (leaves_of fields) f ≡ Some (leaf_of (field_at fields f))
leaf-there fields f below =
    let long = length-map fields leaf_of in
    slice_get-get_or (leaves_of fields) f (leaf_of no_field) (omega (arith, below, long))
    ∙ ap Some (get_or-map leaf_of fields f no_field (leaf_of no_field) below)

by-path : (file : List ℕ) (c : Cloud) (f : ℕ) (leaf : Leaf) (i : ℕ) → section_fault file c.node c.offset ≡ None → path_item file c f leaf i ≡ item_of file (section_of file c) (fixed_of c) f leaf i
unfolding path_item
by-path file c f leaf i none = rw none refl

fault-never : (o : Option Fault) (found : Fault) → o ≡ Some found → o ≡ None → ⊥
fault-never o found some none = cc

module _ (file : List ℕ) (c : Cloud) (s : Section) (fixed : Option Fixed) (fields : List Field) (same : c.leaves ≡ leaves_of fields) (is : fixed ≡ float_from 0 (leaves_of fields)) (some : 0 < c.count) (of : IsSectionOf file c s) (none : cloud_fault file c ≡ None) where
  abbrev all : List (List Value)
  all = records_of file c

  items-are : ItemsAre file s fixed (leaf_in fields) 0 (length fields) c.count all
  items-are g i d below within =
      let place : 0 + g ≡ g = omega arith in
      let there : slice_get c.leaves g ≡ Some (leaf_in fields g) = ap (λ (ls : List Leaf). slice_get ls g) same ∙ leaf-there fields g below in
      let here = sym (by-path file c g (leaf_in fields g) i of.header) ∙ path_item-record file c g (leaf_in fields g) i d none there within in
      let fixed_is : fixed ≡ fixed_of c = is ∙ ap (float_from 0) (sym same) in
      subst (λ (f : ℕ). item_of file s fixed f (leaf_in fields f) i ≡ Ok (get_or (get_or all g []) i d)) (sym place)
      (subst (λ (x : Option Fixed). item_of file s x g (leaf_in fields g) i ≡ Ok (get_or (get_or all g []) i d)) (sym fixed_is)
      (subst (λ (t : Section). item_of file t (fixed_of c) g (leaf_in fields g) i ≡ Ok (get_or (get_or all g []) i d)) (sym of.is) here))

  no-fault : (found : Fault) → s.count ≡ c.count → HasFault (all_records s fixed fields) found file → ⊥
  no-fault found count has =
      let before = has.before in
      let many = (records_long file c some none).1 ∙ ap (λ (ls : List Leaf). length ls) same ∙ length-map fields leaf_of in
      fault-never (record_fault file s fixed (asked_of fields (range_with_len 0 (length fields))) has.i) found has.is
      (no_fault file s fixed (leaf_in fields) 0 (length fields) c.count all has.i many (omega (arith, before, count)) items-are)

-- ---- a cloud without records, and one whose section wasn't opened

records-none : (file : List ℕ) (c : Cloud) → c.count ≡ 0 → map (λ (leaf : Leaf). []) c.leaves ≡ records_of file c
unfolding records_of
records-none file c none = let counted : (c.count == 0) ≡ true = eq-eqb c.count 0 none in rw counted refl

pub cloud-none : (count : ℕ) (c : Cloud) (source : SourceView) → c.count ≡ 0 → SumsCloud c count source 0 source
cloud-none count c source none = record {
  source = asks_where_none (λ file. Unit {0}) count source;
  sum = told_all (λ file. cloud_fault file c ≡ None → 0 ≡ first_sum (records_of file c)) source.held (λ file sound. blank-sum c.leaves ∙ ap first_sum (records-none file c none));
}

pub cloud-not-opened : (count : ℕ) (cloud : StatedCloud) (fields : List Field) (old new : SourceView) (kept now : List ℕ) (found : ReadFault) (given : OpenFault) → 0 < cloud.count → given ≡ read_as_open found
    → OpensNoSection old kept (count * 1020) cloud.node cloud.place found new now → SumsNoCloud (cloud_of cloud (leaves_of fields)) count old given new
cloud-not-opened count cloud fields old new kept now found given some is lost =
    by_fault given (cloud-unopened kept now count (length fields) old new cloud (leaves_of fields) found given some is lost)
  where
    by_fault : (fault : OpenFault) → RefusesCloud count old cloud (leaves_of fields) fault new → SumsNoCloud (cloud_of cloud (leaves_of fields)) count old fault new
    by_fault (Refused f) lost = record {
      source = lost.source;
      cause = told_map (λ file. cloud_fault file (cloud_of cloud (leaves_of fields)) ≡ Some f) (λ file. cloud_fault file (cloud_of cloud (leaves_of fields)) ≡ None → ⊥) old.held
          (λ file is sound. fault-never (cloud_fault file (cloud_of cloud (leaves_of fields))) f is sound) lost.cause;
    }
    by_fault Source lost = record { source = lost.source; cause = lost.cause }
    by_fault Memory lost = record { source = lost.source; cause = tt }

-- ---- a section that was opened

module _ (count : ℕ) (cloud : StatedCloud) (fixed : Option Fixed) (fields : List Field) (old mid new : SourceView) (kept now : List ℕ) (s : Section) (is : fixed ≡ float_from 0 (leaves_of fields)) (some : 0 < cloud.count) (opens : OpensSection old kept (count * 1020) cloud.node cloud.place cloud.count (length fields) s mid now) where
  abbrev c : Cloud
  c = cloud_of cloud (leaves_of fields)

  of-file : IfSome old.held (λ file. IsSectionOf file c s)
  of-file =
      let many : length fields ≡ length (leaves_of fields) = sym (length-map fields leaf_of) in
      told_both (λ file. section_fault file cloud.node cloud.place ≡ None) (λ file. s ≡ section_at file cloud.node cloud.place cloud.count (length fields)) (λ file. IsSectionOf file c s) old.held
      (λ file none same. record { header = none; is = same ∙ ap (λ k. section_at file cloud.node cloud.place cloud.count k) many }) opens.sound opens.read

  asks-first : AsksWhere (λ file. Unit {0}) count old mid
  asks-first =
      let header = opens.lies.header in
      let data_within = opens.lies.data_within in
      let within = opens.lies.within in
      asks_anywhere (λ file. Unit {0}) count old mid (unkept_pages kept (s.start / 1020) (span_end s.start 32) count old mid (span_below s.start 32 count (omega (arith, header, data_within, within))) opens.source)

  asks-rest : AsksMet (OnSlice (all_records s fixed fields)) mid new → AsksWhere (λ file. Unit {0}) count mid new
  asks-rest met = record {
    pages = met.pages;
    within = told_map (λ file. AllByRecursion (OnSlice (all_records s fixed fields) file) met.pages) (λ file. Unit {0} → AllByRecursion (λ (p : ℕ). p < count) met.pages) mid.held
        (λ file all x. all_map (OnSlice (all_records s fixed fields) file) (λ (p : ℕ). p < count) met.pages (λ p on. item-below file s fixed on.f on.leaf on.i p count opens.lies.within on.way) all) met.are_met;
    asks = met.asks;
  }

  asks-all : AsksMet (OnSlice (all_records s fixed fields)) mid new → AsksWhere (λ file. Unit {0}) count old new
  asks-all met = asks_where_on (λ file. Unit {0}) count old mid new asks-first (asks-rest met)

  before-opening : (P : List ℕ → Type 0) → IfSome mid.held P → IfSome old.held P
  before-opening P told = told_here P mid.held old.held (sym asks-first.asks.same.held) told

  summed-all : (total : ℕ) → SumsAll (all_records s fixed fields) mid total new → SumsCloud c count old total new
  summed-all total sums =
      let columns = sums.first.columns in
      let long : AreLong cloud.count columns = subst (λ k. AreLong k columns) opens.has_records sums.first.long in
      record {
        source = asks-all sums.met;
        sum = told_both (λ file. IsSectionOf file c s) (λ file. AreFoundColumns file s fixed (asked_of fields (range_with_len 0 (length fields))) 0 columns)
            (λ file. cloud_fault file c ≡ None → total ≡ first_sum (records_of file c)) old.held
            (λ file of found sound. sums.first.sum ∙ ap first_sum (found_all file c s fixed fields refl is some of sound columns long found)) of-file
            (before-opening (λ file. AreFoundColumns file s fixed (asked_of fields (range_with_len 0 (length fields))) 0 columns) sums.first.found);
      }

  why-not : (fault : OpenFault) → IsRecordCause (all_records s fixed fields) mid fault new → IsItemCause (cloud_thing c) old fault new
  why-not (Refused found) has =
      told_both (λ file. IsSectionOf file c s) (HasFault (all_records s fixed fields) found) (λ file. cloud_fault file c ≡ None → ⊥) old.held
      (λ file of has sound. no-fault file c s fixed fields refl is some of sound found opens.has_records has) of-file (before-opening (HasFault (all_records s fixed fields) found) has)
  why-not Source rose = rose_before old.faults mid.faults new.faults asks-first.asks.faults rose
  why-not Memory x = tt

  pub cloud-result : (result : Result ℕ OpenFault) → MatchResult result (λ total. SumsAll (all_records s fixed fields) mid total new) (λ fault. SumsNot (all_records s fixed fields) mid fault new)
      → MatchResult result (λ total. SumsCloud c count old total new) (λ fault. SumsNoCloud c count old fault new)
  cloud-result (Ok total) sums = summed-all total sums
  cloud-result (Err fault) lost = record { source = asks-all lost.met; cause = why-not fault lost.cause }
