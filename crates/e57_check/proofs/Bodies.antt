-- One cloud: its section, its index, its packets, its chunks, its fields.
use Rattle.std.specs.Prelude.{◌≡◌, ℕ, suc, ◌+◌, ◌-◌, ◌*◌, ◌/◌, ◌<◌, ◌≤◌, ◌⊎◌, List, [], ◌∷◌, length, Option, Some, None, IfSome, Result, Ok, Err, MatchResult}
use Rattle.std.specs.Option.{option_or}
use Rattle.std.proofs.Common.{refl, sym, subst, ap, ◌∙◌, arith, inl, inr, ⊎_elim}
use Rattle.std.proofs.lemmas.Bool.{ne_eqb, cases_lt, lt-ltb, le-ltb}
use Rattle.e57_base.proofs.CountLaws.{rose_before}
use Rattle.e57_base.specs.Fault.{read_as_open}
use Rattle.e57_base.specs.Source.{SourceView}
use Rattle.e57_base.proofs.Told.{told_map, told_both, told_here, told_all}
use Rattle.e57_base.specs.declared.fault.Fault.{Fault}
use Rattle.e57_base.specs.declared.fault.ReadFault.{ReadFault}
use Rattle.e57_base.specs.declared.fault.ReadFault.TheVariants as of_read
use Rattle.e57_base.specs.declared.fault.OpenFault.{OpenFault}
use Rattle.e57_base.specs.declared.fault.OpenFault.TheVariants.{Refused, Source, Memory}
use Rattle.e57_page.specs.Place.{place, span_end}
use Rattle.e57_layout.specs.Values.{item_kind}
use Rattle.e57_layout.specs.declared.field.Field.{Field}
use Rattle.e57_layout.specs.declared.field.FieldKind.{FieldKind}
use Rattle.e57_layout.specs.declared.field.FieldKind.TheVariants.{Int, Scaled, Bits32, Bits64, Text}
use Rattle.e57_layout.specs.declared.field.Fixed.{Fixed}
use Rattle.e57_layout.specs.declared.section.Section.{Section}
use Rattle.e57_nodes.specs.Items.{leaves_of}
use Rattle.e57_cloud.specs.Section.{section_fault, section_at}
use Rattle.e57_cloud.specs.Walk.{walk_from}
use Rattle.e57_cloud.specs.Chunks.{chunks, chunks_fault}
use Rattle.e57_cloud.specs.Cloud.{Leaf, Cloud, float_from, fixed_of, section_of, fields_fault, body_fault, cloud_fault}
use Rattle.e57_section.specs.Opening.{header_within, OpensSection, OpensNoSection}
use Rattle.e57_tree.specs.declared.items.Cloud.{Cloud as StatedCloud}
use Rattle.e57_check.specs.Asking.{AsksPages, AsksWhere}
use Rattle.e57_check.proofs.AskingLaws.{asks_where_none, asks_where_on, asks_anywhere, unkept_pages, span_below}
use Rattle.e57_check.specs.Starts.{IsWidth, IsField}
use Rattle.e57_check.specs.Clouds.{Refuses, index_fault_of, AreOf, OpensStarts, OpensNoStarts, IsIndexed, JudgesRecords, RefusesRecords, JudgesBody, RefusesBody, cloud_of, JudgesCloud, RefusesCloud}
use Rattle.e57_check.specs.declared.starts.Starts.{Starts}

-- ---- one thing after another

-- what is refused later
pub refuses-later : (first judge : List ℕ → Option Fault) (count : ℕ) (old mid new : SourceView) (found : OpenFault) → AsksWhere (λ file. Unit {0}) count old mid → IfSome old.held (λ file. (f : Fault) → first file ≡ Some f → judge file ≡ Some f) → Refuses first count mid found new → Refuses judge count old found new
refuses-later first judge count old mid new (Refused found) asks each lost = record {
  source = asks_where_on (λ file. Unit {0}) count old mid new asks lost.source;
  cause = told_both (λ file. (f : Fault) → first file ≡ Some f → judge file ≡ Some f) (λ file. first file ≡ Some found) (λ file. judge file ≡ Some found) old.held (λ file g is. g found is) each
      (told_here (λ file. first file ≡ Some found) mid.held old.held (sym asks.asks.same.held) lost.cause);
}
refuses-later first judge count old mid new Source asks each lost = record {
  source = asks_where_on (λ file. Unit {0}) count old mid new asks lost.source;
  cause = rose_before old.faults mid.faults new.faults asks.asks.faults lost.cause;
}
refuses-later first judge count old mid new Memory asks each lost = record { source = asks_where_on (λ file. Unit {0}) count old mid new asks lost.source; cause = tt }

-- ---- the index

-- ---- the body

body-index : (file : List ℕ) (s : Section) (fixed : Option Fixed) (leaves : List Leaf) (f : Fault) → index_fault_of s file ≡ Some f → body_fault file s fixed leaves ≡ Some f
unfolding body_fault
body-index file s fixed leaves f is = ap (λ (o : Option Fault). option_or o (option_or (walk_from file s s.data_place).fault (option_or (chunks_fault file s fixed) (fields_fault 0 leaves (chunks file s fixed))))) is

pub body-unopened : (count : ℕ) (old new : SourceView) (s : Section) (fixed : Option Fixed) (leaves : List Leaf) (found : OpenFault) → OpensNoStarts count old s found new → RefusesBody count old s fixed leaves found new
body-unopened count old new s fixed leaves found lost =
    refuses-later (index_fault_of s) (λ file. body_fault file s fixed leaves) count old old new found (asks_where_none (λ file. Unit {0}) count old)
    (told_all (λ file. (f : Fault) → index_fault_of s file ≡ Some f → body_fault file s fixed leaves ≡ Some f) old.held (λ file f is. body-index file s fixed leaves f is)) lost

indexed : (old : SourceView) (s : Section) (fixed : Option Fixed) (starts : Starts) → IfSome old.held (λ file. index_fault_of s file ≡ None) → IfSome old.held (λ file. AreOf file s fixed starts) → IfSome old.held (λ file. IsIndexed file s fixed starts)
indexed old s fixed starts sound are = told_both (λ file. index_fault_of s file ≡ None) (λ file. AreOf file s fixed starts) (λ file. IsIndexed file s fixed starts) old.held (λ file none of. record { sound = none; are = of }) sound are

-- what holds where the index has no fault
where-indexed : (P : List ℕ → Type 0) (old mid : SourceView) (s : Section) (fixed : Option Fixed) (starts : Starts) → mid.held ≡ old.held → IfSome old.held (λ file. IsIndexed file s fixed starts) → IfSome mid.held (λ file. IsIndexed file s fixed starts → P file) → IfSome old.held P
where-indexed P old mid s fixed starts same is told =
    told_both (λ file. IsIndexed file s fixed starts) (λ file. IsIndexed file s fixed starts → P file) P old.held (λ file is told. told is) is
    (told_here (λ file. IsIndexed file s fixed starts → P file) mid.held old.held (sym same) told)

body-sound : (count : ℕ) (old mid new : SourceView) (s : Section) (fixed : Option Fixed) (leaves : List Leaf) (starts : Starts) → OpensStarts count old s fixed starts mid → JudgesRecords count mid s starts fixed leaves new → JudgesBody count old s fixed leaves new
body-sound count old mid new s fixed leaves starts opens judges = record {
  source = asks_where_on (λ file. Unit {0}) count old mid new opens.passed.source judges.source;
  sound = where-indexed (λ file. body_fault file s fixed leaves ≡ None) old mid s fixed starts opens.passed.source.asks.same.held (indexed old s fixed starts opens.passed.sound opens.of_file) judges.sound;
}

body-refused : (count : ℕ) (old mid new : SourceView) (s : Section) (fixed : Option Fixed) (leaves : List Leaf) (starts : Starts) (found : OpenFault) → OpensStarts count old s fixed starts mid → RefusesRecords count mid s starts fixed leaves found new → RefusesBody count old s fixed leaves found new
body-refused count old mid new s fixed leaves starts (Refused f) opens lost = record {
  source = asks_where_on (λ file. Unit {0}) count old mid new opens.passed.source lost.source;
  cause = where-indexed (λ file. body_fault file s fixed leaves ≡ Some f) old mid s fixed starts opens.passed.source.asks.same.held (indexed old s fixed starts opens.passed.sound opens.of_file) lost.cause;
}
body-refused count old mid new s fixed leaves starts Source opens lost = record {
  source = asks_where_on (λ file. Unit {0}) count old mid new opens.passed.source lost.source;
  cause = rose_before old.faults mid.faults new.faults opens.passed.source.asks.faults lost.cause;
}
body-refused count old mid new s fixed leaves starts Memory opens lost = record { source = asks_where_on (λ file. Unit {0}) count old mid new opens.passed.source lost.source; cause = tt }

pub body-result : (count : ℕ) (old mid new : SourceView) (s : Section) (fixed : Option Fixed) (leaves : List Leaf) (starts : Starts) (result : Result (Unit {0}) OpenFault) → OpensStarts count old s fixed starts mid
    → MatchResult result (λ x. JudgesRecords count mid s starts fixed leaves new) (λ found. RefusesRecords count mid s starts fixed leaves found new) → MatchResult result (λ x. JudgesBody count old s fixed leaves new) (λ found. RefusesBody count old s fixed leaves found new)
body-result count old mid new s fixed leaves starts (Ok x) opens judges = body-sound count old mid new s fixed leaves starts opens judges
body-result count old mid new s fixed leaves starts (Err found) opens lost = body-refused count old mid new s fixed leaves starts found opens lost

-- ---- the first Float field

is-float : (f count : ℕ) (fields : List Field) → f + length fields ≤ count → IfSome (float_from f (leaves_of fields)) (λ fixed. (fixed.field < count) × ((fixed.bytes ≡ 4) ⊎ (fixed.bytes ≡ 8)))
unfolding float_from
is-float f count [] few = tt
is-float f count (field ∷ fields) few = by_kind field.kind (is-float (f + 1) count fields (omega (arith, few)))
  where
    by_kind : (kind : FieldKind) → IfSome (float_from (f + 1) (leaves_of fields)) (λ fixed. (fixed.field < count) × ((fixed.bytes ≡ 4) ⊎ (fixed.bytes ≡ 8))) → IfSome (float_from f ((record { node = field.node; kind = item_kind kind }) ∷ leaves_of fields)) (λ fixed. (fixed.field < count) × ((fixed.bytes ≡ 4) ⊎ (fixed.bytes ≡ 8)))
    by_kind (Int low high) later = later
    by_kind (Scaled low high scale offset) later = later
    by_kind Bits32 later = (omega (arith, few), inl refl)
    by_kind Bits64 later = (omega (arith, few), inr refl)
    by_kind Text later = later

pub float-field : (s : Section) (fields : List Field) (fixed : Option Fixed) → length fields ≡ s.fields → fixed ≡ float_from 0 (leaves_of fields) → IsField s fixed × IsWidth fixed
float-field s fields fixed many is = by_fixed fixed (subst (λ (o : Option Fixed). IfSome o (λ x. (x.field < s.fields) × ((x.bytes ≡ 4) ⊎ (x.bytes ≡ 8)))) (sym is) (is-float 0 s.fields fields (omega (arith, many))))
  where
    by_fixed : (fixed : Option Fixed) → IfSome fixed (λ x. (x.field < s.fields) × ((x.bytes ≡ 4) ⊎ (x.bytes ≡ 8))) → IsField s fixed × IsWidth fixed
    by_fixed None has = (tt, tt)
    by_fixed (Some x) has = (has.0, has.1)

-- ---- a cloud

length-leaves : (fields : List Field) → length (leaves_of fields) ≡ length fields
length-leaves [] = refl
length-leaves (x ∷ xs) = ap suc (length-leaves xs)

cloud-empty : (file : List ℕ) (c : Cloud) → c.count ≡ 0 → cloud_fault file c ≡ None
unfolding cloud_fault
cloud-empty file c none = rw none refl

pub cloud-nothing : (count : ℕ) (view : SourceView) (cloud : StatedCloud) (leaves : List Leaf) → cloud.count ≡ 0 → JudgesCloud count view cloud leaves view
cloud-nothing count view cloud leaves none = record {
  source = asks_where_none (λ file. Unit {0}) count view;
  sound = told_all (λ file. cloud_fault file (cloud_of cloud leaves) ≡ None) view.held (λ file. cloud-empty file (cloud_of cloud leaves) none);
}

cloud-section : (file : List ℕ) (c : Cloud) (f : Fault) → 0 < c.count → section_fault file c.node c.offset ≡ Some f → cloud_fault file c ≡ Some f
unfolding cloud_fault
cloud-section file c f some is = let counted = ne_eqb c.count 0 (λ none. omega (arith, some, none)) in rw (counted, is) refl

cloud-body : (file : List ℕ) (c : Cloud) (s : Section) → 0 < c.count → section_fault file c.node c.offset ≡ None → s ≡ section_of file c → cloud_fault file c ≡ body_fault file s (fixed_of c) c.leaves
unfolding cloud_fault
cloud-body file c s some none is = let counted = ne_eqb c.count 0 (λ zero_count. omega (arith, some, zero_count)) in rw (counted, none, is) refl

-- what opening a section asks for
header-pages : (kept : List ℕ) (count offset : ℕ) (old new : SourceView) → Rattle.e57_section.specs.Opening.AsksHeader kept (count * 1020) offset old new → AsksPages count old new
header-pages kept count offset old new asks = by_place (place offset) asks
  where
    by_place : (p : Option ℕ) → Rattle.std.specs.Prelude.MatchOption (header_within (count * 1020) p) (Rattle.e57_page.specs.Pages.AsksFor old [] new) (λ q. Rattle.e57_section.specs.Asking.AsksSpan kept q 32 old new) → AsksPages count old new
    by_place None asks = record { pages = []; within = tt; asks = asks }
    by_place (Some q) asks = ⊎_elim
        (λ (past : count * 1020 < q + 32). record { pages = []; within = tt; asks = rw (lt-ltb (count * 1020) (q + 32) past) at asks })
        (λ (there : q + 32 ≤ count * 1020). unkept_pages kept (q / 1020) (span_end q 32) count old new (span_below q 32 count there) (rw (le-ltb (count * 1020) (q + 32) there) at asks))
        (cases_lt (count * 1020) (q + 32))

pub cloud-unopened : (kept now : List ℕ) (count fields : ℕ) (old new : SourceView) (cloud : StatedCloud) (leaves : List Leaf) (found : ReadFault) (given : OpenFault) → 0 < cloud.count → given ≡ read_as_open found → OpensNoSection old kept (count * 1020) cloud.node cloud.place found new now → RefusesCloud count old cloud leaves given new
cloud-unopened kept now count fields old new cloud leaves found given some same lost = rw same (by_fault found lost)
  where
    by_fault : (found : ReadFault) → OpensNoSection old kept (count * 1020) cloud.node cloud.place found new now → RefusesCloud count old cloud leaves (read_as_open found) new
    by_fault (of_read.Refused f) lost = record {
      source = asks_anywhere (λ file. Unit {0}) count old new (header-pages kept count cloud.place old new lost.source);
      cause = told_map (λ file. section_fault file cloud.node cloud.place ≡ Some f) (λ file. cloud_fault file (cloud_of cloud leaves) ≡ Some f) old.held (λ file is. cloud-section file (cloud_of cloud leaves) f some is) lost.cause.1;
    }
    by_fault of_read.Source lost = record {
      source = asks_anywhere (λ file. Unit {0}) count old new (header-pages kept count cloud.place old new lost.source);
      cause = lost.cause;
    }

-- the section was opened
cloud-is : (kept now : List ℕ) (count fields : ℕ) (old mid : SourceView) (cloud : StatedCloud) (leaves : List Leaf) (fixed : Option Fixed) (s : Section) → 0 < cloud.count → length leaves ≡ fields → fixed ≡ float_from 0 leaves
    → OpensSection old kept (count * 1020) cloud.node cloud.place cloud.count fields s mid now → AsksWhere (λ file. Unit {0}) count old mid × IfSome old.held (λ file. cloud_fault file (cloud_of cloud leaves) ≡ body_fault file s fixed leaves)
cloud-is kept now count fields old mid cloud leaves fixed s some many is opens =
    let header = opens.lies.header in
    let data_within = opens.lies.data_within in
    let within = opens.lies.within in (
      asks_anywhere (λ file. Unit {0}) count old mid (unkept_pages kept (s.start / 1020) (span_end s.start 32) count old mid (span_below s.start 32 count (omega (arith, header, data_within, within))) opens.source),
      told_both (λ file. section_fault file cloud.node cloud.place ≡ None) (λ file. s ≡ section_at file cloud.node cloud.place cloud.count fields) (λ file. cloud_fault file (cloud_of cloud leaves) ≡ body_fault file s fixed leaves) old.held
          (λ file none same.
          cloud-body file (cloud_of cloud leaves) s some none (same ∙ ap (λ (n : ℕ). section_at file cloud.node cloud.place cloud.count n) (sym many))
          ∙ ap (λ (o : Option Fixed). body_fault file s o leaves) (sym is)) opens.sound opens.read,
    )

pub cloud-sound : (kept now : List ℕ) (count fields : ℕ) (old mid new : SourceView) (cloud : StatedCloud) (leaves : List Leaf) (fixed : Option Fixed) (s : Section) → 0 < cloud.count → length leaves ≡ fields → fixed ≡ float_from 0 leaves
    → OpensSection old kept (count * 1020) cloud.node cloud.place cloud.count fields s mid now → JudgesBody count mid s fixed leaves new → JudgesCloud count old cloud leaves new
cloud-sound kept now count fields old mid new cloud leaves fixed s some many is opens body =
    let on = cloud-is kept now count fields old mid cloud leaves fixed s some many is opens in
    record {
      source = asks_where_on (λ file. Unit {0}) count old mid new on.0 body.source;
      sound = told_both (λ file. cloud_fault file (cloud_of cloud leaves) ≡ body_fault file s fixed leaves) (λ file. body_fault file s fixed leaves ≡ None) (λ file. cloud_fault file (cloud_of cloud leaves) ≡ None) old.held (λ file same none. same ∙ none) on.1
          (told_here (λ file. body_fault file s fixed leaves ≡ None) mid.held old.held (sym on.0.asks.same.held) body.sound);
    }

pub cloud-refused : (kept now : List ℕ) (count fields : ℕ) (old mid new : SourceView) (cloud : StatedCloud) (leaves : List Leaf) (fixed : Option Fixed) (s : Section) (found : OpenFault) → 0 < cloud.count → length leaves ≡ fields → fixed ≡ float_from 0 leaves
    → OpensSection old kept (count * 1020) cloud.node cloud.place cloud.count fields s mid now → RefusesBody count mid s fixed leaves found new → RefusesCloud count old cloud leaves found new
cloud-refused kept now count fields old mid new cloud leaves fixed s found some many is opens body =
    let on = cloud-is kept now count fields old mid cloud leaves fixed s some many is opens in
    refuses-later (λ file. body_fault file s fixed leaves) (λ file. cloud_fault file (cloud_of cloud leaves)) count old mid new found on.0
    (told_map (λ file. cloud_fault file (cloud_of cloud leaves) ≡ body_fault file s fixed leaves) (λ file. (f : Fault) → body_fault file s fixed leaves ≡ Some f → cloud_fault file (cloud_of cloud leaves) ≡ Some f) old.held (λ file same f has. same ∙ has) on.1) body

pub cloud-result : (kept now : List ℕ) (count : ℕ) (fields : List Field) (old mid new : SourceView) (cloud : StatedCloud) (fixed : Option Fixed) (s : Section) (result : Result (Unit {0}) OpenFault) → 0 < cloud.count → fixed ≡ float_from 0 (leaves_of fields)
    → OpensSection old kept (count * 1020) cloud.node cloud.place cloud.count (length fields) s mid now → MatchResult result (λ x. JudgesBody count mid s fixed (leaves_of fields) new) (λ found. RefusesBody count mid s fixed (leaves_of fields) found new)
    → MatchResult result (λ x. JudgesCloud count old cloud (leaves_of fields) new) (λ found. RefusesCloud count old cloud (leaves_of fields) found new)
cloud-result kept now count fields old mid new cloud fixed s (Ok x) some is opens body = cloud-sound kept now count (length fields) old mid new cloud (leaves_of fields) fixed s some (length-leaves fields) is opens body
cloud-result kept now count fields old mid new cloud fixed s (Err found) some is opens body = cloud-refused kept now count (length fields) old mid new cloud (leaves_of fields) fixed s found some (length-leaves fields) is opens body
