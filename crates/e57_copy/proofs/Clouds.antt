-- The section of a cloud, opened in a file and put into a new one.
use Rattle.std.proofs.Common.{◌≡◌, ℕ, ◌+◌, ◌*◌, ◌/◌, ◌%◌, ◌<◌, ◌≤◌, true, false, List, [], ◌∷◌, length, map, Option, Some, None, Result, Ok, Err, refl, sym, subst, ap, ◌∙◌, arith}
use Rattle.std.specs.Prelude.{◌==◌, IfSome, MatchResult}
use Rattle.std.specs.List.{AllByRecursion, range_with_len}
use Rattle.std.proofs.lemmas.Bool.{eq-eqb, ne_eqb}
use Rattle.std.proofs.lemmas.List.{length-map}
use Rattle.e57_base.specs.Fault.{read_as_open, read_as_run}
use Rattle.e57_base.specs.Source.{SourceView}
use Rattle.e57_base.specs.Target.{TargetView}
use Rattle.e57_base.specs.declared.fault.AskFault.{AskFault}
use Rattle.e57_base.specs.declared.fault.AskFault.TheVariants as of_ask
use Rattle.e57_base.specs.declared.fault.Fault.{Fault}
use Rattle.e57_base.specs.declared.fault.ReadFault.{ReadFault}
use Rattle.e57_base.specs.declared.fault.ReadFault.TheVariants as of_read
use Rattle.e57_base.specs.declared.fault.RunFault.{RunFault}
use Rattle.e57_base.specs.declared.fault.RunFault.TheVariants.{Refused, Source, Out, Memory, Ask}
use Rattle.e57_base.proofs.CountLaws.{rose_before}
use Rattle.e57_base.proofs.Lists.{all_map}
use Rattle.e57_base.proofs.Told.{told_all, told_both, told_here, told_map}
use Rattle.e57_layout.specs.Values.{ItemKind, Value}
use Rattle.e57_layout.specs.Items.{AreColumns}
use Rattle.e57_layout.specs.Written.{physical, section_spelled}
use Rattle.e57_layout.specs.declared.field.Field.{Field}
use Rattle.e57_layout.specs.declared.field.Fixed.{Fixed}
use Rattle.e57_layout.specs.declared.section.Section.{Section}
use Rattle.e57_layout.proofs.Laws.Written.{length-section_spelled}
use Rattle.e57_page.specs.Place.{span_end}
use Rattle.e57_page_out.specs.Sequences.{Puts}
use Rattle.e57_page_out.specs.Writing.{Writing, IsBeingWritten, most_bytes}
use Rattle.e57_page_out.proofs.Sequences.{leaves_still, puts_nothing}
use Rattle.e57_cloud.specs.Section.{section_fault, section_at}
use Rattle.e57_cloud.specs.Cloud.{Leaf, Cloud, float_from, cloud_fault, records_of}
use Rattle.e57_section.specs.Opening.{OpensSection, OpensNoSection}
use Rattle.e57_nodes.specs.Items.{StatedItem, stated_cloud, leaves_of}
use Rattle.e57_tree.specs.declared.items.Cloud.{Cloud as StatedCloud}
use Rattle.e57_verdict.specs.Things.{Body, records_body, body_of}
use Rattle.e57_verdict.specs.Verdict.{all_pages_fault}
use Rattle.e57_plain.specs.Valid.{IsBody, kinds_in as stated_kinds}
use Rattle.e57_plain.specs.Written.{body_section, section_offset}
use Rattle.e57_stream.specs.Asking.{AsksMet}
use Rattle.e57_blocks.specs.Fields.{asked_of, OnSlice}
use Rattle.e57_chunk_out.specs.CloudCalls.{kinds_in, IsChunkLength}
use Rattle.e57_check.specs.Asking.{AsksWhere}
use Rattle.e57_check.specs.Clouds.{cloud_of, RefusesCloud}
use Rattle.e57_check.proofs.AskingLaws.{asks_anywhere, asks_where_none, asks_where_on, span_below, unkept_pages}
use Rattle.e57_check.proofs.Bodies.{cloud-unopened}
use Rattle.e57_check.proofs.Paged.{item-below}
use Rattle.e57_copy.specs.Found.{AreFoundColumns}
use Rattle.e57_copy.specs.Items.{AreAlike, IsItemCause, IsSoundThing, PassesItem}
use Rattle.e57_copy.specs.Sections.{all_records, thing_of, ArePast, CopiesCloud, IsPastCause, IsRecordsCause, LacksRecord, LosesCloud, LosesSection, PassesRecords, PutsBody, PutsRecords}
use Rattle.e57_copy.proofs.Columns.{columns_long}
use Rattle.e57_copy.proofs.OfCloud.{found_all, found_first, no_lack, section_past, IsSectionOf}

-- ---- kinds, sections

pub same_kinds : (fields : List Field) → kinds_in fields ≡ stated_kinds fields
same_kinds [] = refl
same_kinds (field ∷ fields) = rw (same_kinds fields) refl

pub section_none : (n q node : ℕ) (fields : List Field) (columns : List (List Value)) → body_section n q (stated_cloud node 0 fields) (records_body columns) ≡ []
unfolding body_section
section_none n q node fields columns = refl

section_some : (n q node count : ℕ) (fields : List Field) (columns : List (List Value)) → 0 < count → body_section n q (stated_cloud node count fields) (records_body columns) ≡ section_spelled q (kinds_in fields) n count columns
unfolding body_section
section_some n q node count fields columns some =
    let counted : (count == 0) ≡ false = ne_eqb count 0 (λ none. omega (arith, some, none)) in
    rw (counted, same_kinds fields) refl

pub offset_some : (size : ℕ) (bytes : List ℕ) → size % 1020 ≡ 0 → 0 < length bytes → section_offset (size / 1020) bytes ≡ physical size
offset_some size [] whole some = absurd (omega arith)
offset_some size (b ∷ bytes) whole some = let same : 1020 * (size / 1020) ≡ size = omega (arith, whole) in ap physical same

-- ---- a cloud without records

none_alike : (fields others : List Field) → AreAlike (kinds_in fields) (kinds_in others) → AreColumns (stated_kinds others) 0 (map (λ (leaf : Leaf). []) (leaves_of fields))
unfolding AreAlike
none_alike [] [] alike = tt
none_alike [] (other ∷ others) alike = absurd alike
none_alike (field ∷ fields) [] alike = absurd alike
none_alike (field ∷ fields) (other ∷ others) alike = (refl, tt, none_alike fields others alike.1)

records_none : (file : List ℕ) (c : Cloud) → c.count ≡ 0 → map (λ (leaf : Leaf). []) c.leaves ≡ records_of file c
unfolding records_of
records_none file c none = let counted : (c.count == 0) ≡ true = eq-eqb c.count 0 none in rw counted refl

-- the same of other counts
with_count : {T : Type 0} (view : T → TargetView) (n node a b : ℕ) (others : List Field) (body : Body) (out : Writing T) (offset : ℕ) (out' : Writing T) → a ≡ b → PutsBody view n (stated_cloud node a others) body out offset out' → PutsBody view n (stated_cloud node b others) body out offset out'
with_count view n node a b others body out offset out' same puts = subst (λ k. PutsBody view n (stated_cloud node k others) body out offset out') same puts

pub copies_none : {T : Type 0} (view : T → TargetView) (n count : ℕ) (cloud : StatedCloud) (fields others : List Field) (source : SourceView) (out : Writing T) → IsBeingWritten view out → AreAlike (kinds_in fields) (kinds_in others) → cloud.count ≡ 0
    → CopiesCloud view n cloud fields others count source source out 0 out
copies_none view n count cloud fields others source out state alike none = λ node.
    let columns : List (List Value) = map (λ (leaf : Leaf). []) (leaves_of fields) in
    let section = section_none n out.size node others columns in
    record {
      source = asks_where_none (λ file. Unit {0}) count source;
      body = records_body columns;
      is_body = subst (λ k. AreColumns (stated_kinds others) k columns) (sym none) (none_alike fields others alike);
      of_file = told_all (λ file. IsSoundThing (thing_of cloud fields) file → records_body columns ≡ body_of file (thing_of cloud fields)) source.held
          (λ file sound. ap records_body (records_none file (cloud_of cloud (leaves_of fields)) none));
      puts = with_count view n node 0 cloud.count others (records_body columns) out 0 out (sym none)
          (record {
            begins = ap (section_offset (out.size / 1020)) (sym section);
            wrote = subst (λ (xs : List ℕ). Puts view out xs out) (sym section) (puts_nothing view out state);
          });
    }

-- ---- a section that wasn't opened

fault_none : (o : Option Fault) (found : Fault) → o ≡ Some found → o ≡ None → ⊥
fault_none o found some none = cc

unopened : {T : Type 0} (view : T → TargetView) (n count : ℕ) (cloud : StatedCloud) (fields others : List Field) (old new : SourceView) (out : Writing T) (found : ReadFault) → IsBeingWritten view out → RefusesCloud count old cloud (leaves_of fields) (read_as_open found) new
    → LosesCloud view n cloud fields others count old new out (read_as_run found) out
unopened view n count cloud fields others old new out (of_read.Refused f) state lost = λ node. record {
  source = lost.source;
  left = leaves_still view out state;
  cause = told_map (λ file. cloud_fault file (cloud_of cloud (leaves_of fields)) ≡ Some f)
      (λ file. all_pages_fault file ≡ None → IsSoundThing (thing_of cloud fields) file → IsBody (stated_cloud node cloud.count others) (body_of file (thing_of cloud fields)) → ⊥) old.held
      (λ file is pages sound body. fault_none (cloud_fault file (cloud_of cloud (leaves_of fields))) f is sound) lost.cause;
}
unopened view n count cloud fields others old new out of_read.Source state lost = λ node. record { source = lost.source; left = leaves_still view out state; cause = lost.cause }

pub cloud_unopened : {T : Type 0} (view : T → TargetView) (n count : ℕ) (cloud : StatedCloud) (fields others : List Field) (old new : SourceView) (kept now : List ℕ) (out : Writing T) (found : ReadFault) (given : RunFault) → 0 < cloud.count → given ≡ read_as_run found → IsBeingWritten view out
    → OpensNoSection old kept (count * 1020) cloud.node cloud.place found new now → LosesCloud view n cloud fields others count old new out given out
cloud_unopened view n count cloud fields others old new kept now out found given some is state lost =
    subst (λ (f : RunFault). LosesCloud view n cloud fields others count old new out f out) (sym is)
    (unopened view n count cloud fields others old new out found state (cloud-unopened kept now count (length fields) old new cloud (leaves_of fields) found (read_as_open found) some refl lost))

-- ---- a section that was opened, over plain variables

module _ {T : Type 0} (view : T → TargetView) (n count : ℕ) (cloud : StatedCloud) (fixed : Option Fixed) (fields others : List Field) (old mid new : SourceView) (kept now : List ℕ) (s : Section) (out out' : Writing T) (chunk : IsChunkLength n) (whole : out.size % 1020 ≡ 0) (is : fixed ≡ float_from 0 (leaves_of fields)) (some : 0 < cloud.count) (opens : OpensSection old kept (count * 1020) cloud.node cloud.place cloud.count (length fields) s mid now) where
  abbrev c : Cloud
  c = cloud_of cloud (leaves_of fields)

  of_file : IfSome old.held (λ file. IsSectionOf file c s)
  of_file =
      let many : length fields ≡ length (leaves_of fields) = sym (length-map fields (λ (field : Field). record { node = field.node; kind = Rattle.e57_layout.specs.Values.item_kind field.kind })) in
      told_both (λ file. section_fault file cloud.node cloud.place ≡ None) (λ file. s ≡ section_at file cloud.node cloud.place cloud.count (length fields)) (λ file. IsSectionOf file c s) old.held
      (λ file none same. record { header = none; is = same ∙ ap (λ k. section_at file cloud.node cloud.place cloud.count k) many }) opens.sound opens.read

  asks_first : AsksWhere (λ file. Unit {0}) count old mid
  asks_first =
      let header = opens.lies.header in
      let data_within = opens.lies.data_within in
      let within = opens.lies.within in
      asks_anywhere (λ file. Unit {0}) count old mid (unkept_pages kept (s.start / 1020) (span_end s.start 32) count old mid (span_below s.start 32 count (omega (arith, header, data_within, within))) opens.source)

  asks_rest : AsksMet (OnSlice (all_records s fixed fields)) mid new → AsksWhere (λ file. Unit {0}) count mid new
  asks_rest met = record {
    pages = met.pages;
    within = told_map (λ file. AllByRecursion (OnSlice (all_records s fixed fields) file) met.pages) (λ file. Unit {0} → AllByRecursion (λ (p : ℕ). p < count) met.pages) mid.held
        (λ file all x. all_map (OnSlice (all_records s fixed fields) file) (λ (p : ℕ). p < count) met.pages (λ p on. item-below file s fixed on.f on.leaf on.i p count opens.lies.within on.way) all) met.are_met;
    asks = met.asks;
  }

  asks_all : AsksMet (OnSlice (all_records s fixed fields)) mid new → AsksWhere (λ file. Unit {0}) count old new
  asks_all met = asks_where_on (λ file. Unit {0}) count old mid new asks_first (asks_rest met)

  held : (P : List ℕ → Type 0) → IfSome mid.held P → IfSome old.held P
  held P told = told_here P mid.held old.held (sym asks_first.asks.same.held) told

  -- all records were put
  copied : (offset : ℕ) → PutsRecords view (all_records s fixed fields) n (kinds_in others) mid new out offset out' → CopiesCloud view n cloud fields others count old new out offset out'
  copied offset puts = λ node.
      let columns = puts.columns in
      let many = opens.has_records in
      let are : AreColumns (kinds_in others) cloud.count columns = subst (λ k. AreColumns (kinds_in others) k columns) many puts.are in
      let section : section_spelled out.size (kinds_in others) n s.count columns ≡ body_section n out.size (stated_cloud node cloud.count others) (records_body columns) =
      ap (λ k. section_spelled out.size (kinds_in others) n k columns) many ∙ sym (section_some n out.size node cloud.count others columns some) in
      let long = length-section_spelled out.size (kinds_in others) n s.count columns in
      record {
        source = asks_all puts.met;
        body = records_body columns;
        is_body = subst (λ (ks : List ItemKind). AreColumns ks cloud.count columns) (same_kinds others) are;
        of_file = told_both (λ file. IsSectionOf file c s) (λ file. AreFoundColumns file s fixed (asked_of fields (range_with_len 0 (length fields))) 0 columns) (λ file. IsSoundThing (thing_of cloud fields) file → records_body columns ≡ body_of file (thing_of cloud fields)) old.held
            (λ file of found sound. ap records_body (found_all file c s fixed fields refl is some of sound columns (columns_long (kinds_in others) cloud.count columns are) found)) of_file
            (held (λ file. AreFoundColumns file s fixed (asked_of fields (range_with_len 0 (length fields))) 0 columns) puts.found);
        puts = record {
          begins = puts.begins
              ∙ sym (offset_some out.size (section_spelled out.size (kinds_in others) n s.count columns) whole (omega (arith, long)))
              ∙ ap (section_offset (out.size / 1020)) section;
          wrote = subst (λ (xs : List ℕ). Puts view out xs out') section puts.wrote;
        };
      }

  -- they were not
  module _ (node : ℕ) where
    abbrev stated : StatedItem
    stated = stated_cloud node cloud.count others

    columns_of_body : (file : List ℕ) → IsBody stated (body_of file (thing_of cloud fields)) → AreColumns (kinds_in others) cloud.count (records_of file c)
    columns_of_body file body = subst (λ (ks : List ItemKind). AreColumns ks cloud.count (records_of file c)) (sym (same_kinds others)) body

    lacking : (found : Fault) → IfSome old.held (λ file. LacksRecord (all_records s fixed fields) (kinds_in others) file) → IsItemCause view n stated (thing_of cloud fields) old new out (Refused found) out'
    lacking found lack =
        told_both (λ file. IsSectionOf file c s) (LacksRecord (all_records s fixed fields) (kinds_in others)) (λ file. all_pages_fault file ≡ None → IsSoundThing (thing_of cloud fields) file → IsBody stated (body_of file (thing_of cloud fields)) → ⊥) old.held
        (λ file of lacks pages sound body. no_lack file c s fixed fields refl is some of sound (kinds_in others) opens.has_records (columns_of_body file body) lacks) of_file lack

    passing : PassesRecords (all_records s fixed fields) n (kinds_in others) mid out → PassesItem n stated (thing_of cloud fields) old out of_ask.Large
    passing passes =
        let columns = passes.columns in
        let m = passes.m in
        let many = opens.has_records in
        let few : m ≤ cloud.count = let low = passes.few in omega (arith, low, many) in
        let past : ArePast out.size (kinds_in others) n cloud.count m columns = subst (λ k. ArePast out.size (kinds_in others) n k m columns) many passes.past in
        told_both (λ file. IsSectionOf file c s) (λ file. AreFoundColumns file s fixed (asked_of fields (range_with_len 0 (length fields))) 0 columns)
        (λ file. IsSoundThing (thing_of cloud fields) file → IsBody stated (body_of file (thing_of cloud fields)) → most_bytes < out.size + length (body_section n out.size stated (body_of file (thing_of cloud fields)))) old.held
        (λ file of found sound body.
        let first = found_first file c s fixed fields refl is some of sound m columns few (columns_long (kinds_in others) m columns passes.are) found in
        let large = section_past out.size n (kinds_in others) cloud.count m columns (records_of file c) chunk.some chunk.groups whole (columns_of_body file body) few first past in
        subst (λ (xs : List ℕ). most_bytes < out.size + length xs) (sym (section_some n out.size node cloud.count others (records_of file c) some)) large) of_file
        (held (λ file. AreFoundColumns file s fixed (asked_of fields (range_with_len 0 (length fields))) 0 columns) passes.found)

    why_asked : (why : AskFault) → IsPastCause (all_records s fixed fields) n (kinds_in others) mid out why → PassesItem n stated (thing_of cloud fields) old out why
    why_asked of_ask.Large passes = passing passes
    why_asked why lost = absurd lost

    why_lost : (fault : RunFault) → IsRecordsCause view (all_records s fixed fields) n (kinds_in others) mid new out fault out' → IsItemCause view n stated (thing_of cloud fields) old new out fault out'
    why_lost (Refused found) lack = lacking found (held (λ file. LacksRecord (all_records s fixed fields) (kinds_in others) file) lack)
    why_lost Source rose = rose_before old.faults mid.faults new.faults asks_first.asks.faults rose
    why_lost Out rose = rose
    why_lost Memory x = some
    why_lost (Ask why) lost = why_asked why lost

  lost : (fault : RunFault) → LosesSection view (all_records s fixed fields) n (kinds_in others) mid new out fault out' → LosesCloud view n cloud fields others count old new out fault out'
  lost fault loses = λ node. record { source = asks_all loses.met; left = loses.left; cause = why_lost node fault loses.cause }

  pub cloud_result : (result : Result ℕ RunFault) → MatchResult result (λ offset. PutsRecords view (all_records s fixed fields) n (kinds_in others) mid new out offset out') (λ fault. LosesSection view (all_records s fixed fields) n (kinds_in others) mid new out fault out')
      → MatchResult result (λ offset. CopiesCloud view n cloud fields others count old new out offset out') (λ fault. LosesCloud view n cloud fields others count old new out fault out')
  cloud_result (Ok offset) puts = copied offset puts
  cloud_result (Err fault) loses = lost fault loses
