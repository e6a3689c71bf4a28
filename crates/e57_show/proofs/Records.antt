-- The heading is put, then the section is opened, and then the rows are put.
use Rattle.std.specs.Prelude.{IfSome, IsSomeAnd, MatchOption, MatchResult, slice_index_or, nat_lt, take, if◌then◌else◌}
use Rattle.std.specs.List.{AllByRecursion, Contains}
use Rattle.std.specs.Option.{option_map}
use Rattle.std.proofs.Common.{◌≡◌, ℕ, ◌+◌, ◌/◌, ◌<◌, ◌≤◌, ◌||◌, Bool, true, false, List, [], ◌∷◌, ◌++◌, length, slice_get, zero, suc, lit≤, length-append, Option, Some, None, Result, Ok, Err, inl, inr, refl, sym, subst, ap, ◌∙◌, arith}
use Rattle.std.proofs.lemmas.Bool.{ltb-false}
use Rattle.std.proofs.lemmas.List.{length-map, take-append-le}
use Rattle.std.proofs.lemmas.Option.{slice_get-map, slice_get-get_or, get_or_from_slice_get}
use Rattle.e57_base.specs.Count.{Rose}
use Rattle.e57_base.proofs.CountLaws.{rose_before}
use Rattle.e57_base.specs.Source.{SourceView}
use Rattle.e57_base.specs.Sink.{SinkView, Grows, GrowsByFront}
use Rattle.e57_base.proofs.Told.{told_map, told_both, told_here}
use Rattle.e57_base.specs.Fault.{read_as_run}
use Rattle.e57_base.specs.declared.fault.Fault.{Fault}
use Rattle.e57_base.specs.declared.fault.ReadFault.{ReadFault}
use Rattle.e57_base.specs.declared.fault.ReadFault.TheVariants as read
use Rattle.e57_base.specs.declared.fault.RunFault.{RunFault}
use Rattle.e57_base.specs.declared.fault.RunFault.TheVariants.{Refused, Source, Out, Memory, Ask}
use Rattle.e57_base.specs.declared.kind.Kind.{Kind}
use Rattle.e57_page.specs.Place.{place}
use Rattle.e57_page.specs.File.{logical_size}
use Rattle.e57_page.specs.Pages.{AsksFor}
use Rattle.e57_layout.specs.Values.{item_kind, Value}
use Rattle.e57_layout.specs.declared.field.Field.{Field}
use Rattle.e57_layout.specs.declared.field.FieldKind.{FieldKind}
use Rattle.e57_layout.specs.declared.field.FieldKind.TheVariants.{Int, Scaled, Bits32, Bits64, Text}
use Rattle.e57_layout.specs.declared.field.Fixed.{Fixed}
use Rattle.e57_layout.specs.declared.section.Section.{Section}
use Rattle.e57_cloud.specs.Section.{section_fault, section_at}
use Rattle.e57_cloud.specs.Cloud.{Leaf, fixed_of, float_from}
use Rattle.e57_cloud.specs.Met.{InSpan, OnItem}
use Rattle.e57_section.specs.Asking.{AsksSpan}
use Rattle.e57_section.proofs.AskingLaws.{rises_in_span}
use Rattle.e57_section.specs.Opening.{header_within, AsksHeader, OpensSection, IsSectionCause, is_section_kind}
use Rattle.e57_ahead.specs.Counting.{IsWidth}
use Rattle.e57_stream.specs.Asking.{AsksMet}
use Rattle.e57_stream.proofs.AskingLaws.{asks_met_on, asks_met_map}
use Rattle.e57_column.specs.Finding.{is_column_kind}
use Rattle.e57_nodes.specs.Items.{leaves_of}
use Rattle.e57_rows.specs.Rows.{heading_text, rows_text, rows_fault}
use Rattle.e57_rows.specs.Shown.{show_of}
use Rattle.e57_rows.specs.Putting.{PutsRows, FailsRows, IsRowsCause, slice_text, slice_fault}
use Rattle.e57_blocks.specs.Fields.{Slice, OnSlice, asked_of, leaf_of, field_at, no_field}
use Rattle.e57_show.specs.Extract.{Selection, stated, selected_row, selected_rows, selected_text, selected_fault, is_rows_kind, IsMetBy}
use Rattle.e57_show.specs.Extracting.{selection_streamed, AsksSelected, PutsFirstRows, PutsRecords, FailsRecords}
use Rattle.e57_show.specs.Streaming.{StreamEnds, IsWhole, PutsFront}
use Rattle.e57_show.proofs.Pieces.{grows_none}
use Rattle.e57_show.proofs.Rowing.{IsSectionOf, slice_of, same-section, rows-sound, fault-sound, rows-none, fault-none}
use Rattle.e57_base.proofs.Lists.{all_map}
use Rattle.e57_rows.proofs.Puts.{grows_on, front_on}

-- ---- the asked fields

all-at : (P : ℕ → Type 0) (xs : List ℕ) (k x : ℕ) → AllByRecursion P xs → slice_get xs k ≡ Some x → P x
all-at P [] k x all is = absurd cc
all-at P (y ∷ ys) zero x all is = let same : y ≡ x = cc in subst P same all.0
all-at P (y ∷ ys) (suc k) x all is = all-at P ys k x all.1 is

pair-parts : (a f : ℕ) (b leaf : Leaf) → ◌≡◌ {A = ℕ × Leaf} (a, b) (f, leaf) → (a ≡ f) × (b ≡ leaf)
pair-parts a f b leaf is = (ap (λ (x : ℕ × Leaf). x.0) is, ap (λ (x : ℕ × Leaf). x.1) is)

-- an asked field is one of the cloud
asked-in : (fields : List Field) (numbers : List ℕ) (f : ℕ) (leaf : Leaf) → AllByRecursion (λ f. f < length fields) numbers → Contains (asked_of fields numbers) (f, leaf) → Contains numbers f × (slice_get (leaves_of fields) f ≡ Some leaf)
asked-in fields numbers f leaf all (k, below, is) =
    let within : k < length numbers = subst (λ (n : ℕ). k < n) (length-map numbers (λ (f : ℕ). (f, leaf_of (field_at fields f)))) below in
    let n = slice_index_or numbers k 0 in
    let here : slice_get numbers k ≡ Some n = slice_get-get_or numbers k 0 within in
    let there : slice_get (asked_of fields numbers) k ≡ Some (n, leaf_of (field_at fields n)) =
    slice_get-map (λ (f : ℕ). (f, leaf_of (field_at fields f))) numbers k ∙ ap (λ (o : Option ℕ). option_map (λ (f : ℕ). (f, leaf_of (field_at fields f))) o) here in
    let parts = pair-parts n f (leaf_of (field_at fields n)) leaf (sym (get_or_from_slice_get (asked_of fields numbers) k (n, leaf_of (field_at fields n)) (f, leaf) there) ∙ is) in
    let inside : n < length fields = all-at (λ f. f < length fields) numbers k n all here in
    let at_n : slice_get (leaves_of fields) n ≡ Some (leaf_of (field_at fields n)) =
    slice_get-map (λ (field : Field). record { node = field.node; kind = item_kind field.kind }) fields n
    ∙ ap (λ (o : Option Field). option_map (λ (field : Field). record { node = field.node; kind = item_kind field.kind }) o) (slice_get-get_or fields n no_field inside) in (
      (k, within, get_or_from_slice_get numbers k n f here ∙ parts.0),
      subst (λ (m : ℕ). slice_get (leaves_of fields) m ≡ Some leaf) parts.0 (at_n ∙ ap (λ (l : Leaf). Some l) parts.1),
    )

-- ---- the pages that are asked for

pub header-met : (s : Selection) (kept : List ℕ) (q size : ℕ) (old new : SourceView) → 0 < s.count → place s.cloud.place ≡ Some q → q + 32 ≤ size → IfSome old.held (λ file. logical_size file ≡ size) → AsksSpan kept q 32 old new → AsksSelected s old new
header-met s kept q size old new more at_place within sized (pages, rises, unkept, asks) =
    record {
      pages = pages;
      are_met = told_map (λ file. logical_size file ≡ size) (λ file. AllByRecursion (IsMetBy file s) pages) old.held
          (λ file is. all_map (InSpan q 32) (IsMetBy file s) pages
          (λ p inside. (more, inl (subst (λ (o : Option ℕ). IsSomeAnd o (λ q. (q + 32 ≤ logical_size file) × InSpan q 32 p)) (sym at_place) (subst (λ (n : ℕ). q + 32 ≤ n) (sym is) within, inside))))
          (rises_in_span q 32 (q / 1020) pages (omega arith) rises)) sized;
      asks = asks;
    }

-- pages of the header, if it has a place
pub opening-met : (s : Selection) (kept : List ℕ) (size : ℕ) (old new : SourceView) → 0 < s.count → IfSome old.held (λ file. logical_size file ≡ size) → AsksHeader kept size s.cloud.place old new → AsksSelected s old new
opening-met s kept size old new more sized asks = by_place (place s.cloud.place) refl asks
  where
    nothing : (held : Option (List ℕ)) → IfSome held (λ file. AllByRecursion (IsMetBy file s) [])
    nothing None = tt
    nothing (Some file) = tt

    by_test : (q : ℕ) (b : Bool) → nat_lt size (q + 32) ≡ b → place s.cloud.place ≡ Some q → MatchOption (if b then None else Some q) (AsksFor old [] new) (λ q. AsksSpan kept q 32 old new) → AsksSelected s old new
    by_test q true is at_place asks = record { pages = []; are_met = nothing old.held; asks = asks }
    by_test q false is at_place asks = header-met s kept q size old new more at_place (let low = ltb-false size (q + 32) is in omega (arith, low)) sized asks

    by_place : (o : Option ℕ) → place s.cloud.place ≡ o → MatchOption (header_within size o) (AsksFor old [] new) (λ q. AsksSpan kept q 32 old new) → AsksSelected s old new
    by_place None is asks = record { pages = []; are_met = nothing old.held; asks = asks }
    by_place (Some q) is asks = by_test q (nat_lt size (q + 32)) refl is asks

slice-met : (file : List ℕ) (s : Selection) (section : Section) → 0 < s.count → AllByRecursion (λ f. f < length s.fields) s.numbers → IsSectionOf file s section → (p : ℕ) → OnSlice (slice_of s section) file p → IsMetBy file s p
slice-met file s section more all (none, is) p on =
    let of_cloud = asked-in s.fields s.numbers on.f on.leaf all on.asks in (
      more,
      inr
          (record {
            f = on.f;
            leaf = on.leaf;
            i = on.i;
            asks = of_cloud.0;
            is_field = of_cloud.1;
            after = on.after;
            before = on.before;
            sound = none;
            way = subst (λ (t : Section). OnItem file t (fixed_of (stated s)) on.f on.leaf on.i p) (same-section file s section is) on.way;
          }),
    )

pub rows-met : (s : Selection) (section : Section) (old mid new : SourceView) → 0 < s.count → AllByRecursion (λ f. f < length s.fields) s.numbers → mid.held ≡ old.held → IfSome old.held (λ file. IsSectionOf file s section) → AsksSelected s old mid → AsksMet (OnSlice (slice_of s section)) mid new → AsksSelected s old new
rows-met s section old mid new more all same of first next =
    asks_met_on (λ file p. IsMetBy file s p) old mid new first
    (asks_met_map (OnSlice (slice_of s section)) (λ file p. IsMetBy file s p) mid new
    (told_here (λ file. (p : ℕ) → OnSlice (slice_of s section) file p → IsMetBy file s p) old.held mid.held same
    (told_map (λ file. IsSectionOf file s section) (λ file. (p : ℕ) → OnSlice (slice_of s section) file p → IsMetBy file s p) old.held (λ file is. slice-met file s section more all is) of)) next)

-- ---- the rows

put-all : (s : Selection) (section : Section) (held : Option (List ℕ)) (text : List ℕ) → IfSome held (λ file. IsSectionOf file s section) → IfSome held (λ file. text ≡ slice_text (show_of s.decimal s.fields) (slice_of s section) file) → IfSome held (λ file. text ≡ selected_rows file s)
put-all s section held text of is =
    told_both (λ file. IsSectionOf file s section) (λ file. text ≡ slice_text (show_of s.decimal s.fields) (slice_of s section) file) (λ file. text ≡ selected_rows file s) held
    (λ file here same. same ∙ sym (rows-sound file s section here)) of is

fault-all : (s : Selection) (section : Section) (held : Option (List ℕ)) (found : Option Fault) → IfSome held (λ file. IsSectionOf file s section) → IfSome held (λ file. slice_fault (show_of s.decimal s.fields) (slice_of s section) file ≡ found) → IfSome held (λ file. selected_fault file s ≡ found)
fault-all s section held found of is =
    told_both (λ file. IsSectionOf file s section) (λ file. slice_fault (show_of s.decimal s.fields) (slice_of s section) file ≡ found) (λ file. selected_fault file s ≡ found) held
    (λ file here same. fault-sound file s section here ∙ same) of is

column-kind : (kind : Kind) → is_column_kind kind ≡ true → is_rows_kind kind ≡ true
column-kind kind is = either (is_section_kind kind) (is_column_kind kind) is
  where
    either : (a b : Bool) → b ≡ true → (a || b) ≡ true
    either true b is = refl
    either false b is = is

section-kind : (kind : Kind) → is_section_kind kind ≡ true → is_rows_kind kind ≡ true
section-kind kind is = either (is_section_kind kind) (is_column_kind kind) is
  where
    either : (a b : Bool) → a ≡ true → (a || b) ≡ true
    either true b is = refl
    either false b is = absurd cc

pub rows-put : {T : Type 0} (s : Selection) (section : Section) (old mid new : SourceView) (out out' : SinkView) (result : Result T RunFault) → mid.held ≡ old.held → old.faults ≤ mid.faults → IfSome old.held (λ file. IsSectionOf file s section)
    → MatchResult result (λ _. PutsRows (show_of s.decimal s.fields) (slice_of s section) mid new out out') (λ fault. FailsRows (show_of s.decimal s.fields) (slice_of s section) mid new out out' fault)
    → MatchResult result (λ _. PutsRecords s old out out') (λ fault. FailsRecords s old new out out' fault)
rows-put s section old mid new out out' (Ok x) same counts of is =
    let a = slice_of s section in (
      fault-all s section old.held None of (told_here (λ file. slice_fault (show_of s.decimal s.fields) a file ≡ None) mid.held old.held (sym same) is.sound),
      (is.wrote.0, put-all s section old.held is.wrote.0 of (told_here (λ file. is.wrote.0 ≡ slice_text (show_of s.decimal s.fields) a file) mid.held old.held (sym same) is.wrote.1), is.wrote.2),
    )
rows-put s section old mid new out out' (Err fault) same counts of is = by_cause fault is.cause
  where
    by_cause : (fault : RunFault) → IsRowsCause (show_of s.decimal s.fields) (slice_of s section) mid new out out' fault → FailsRecords s old new out out' fault
    by_cause (Refused found) (kind, wrong, (text, read, wrote)) = (
      column-kind found.kind kind,
      fault-all s section old.held (Some found) of (told_here (λ file. slice_fault (show_of s.decimal s.fields) (slice_of s section) file ≡ Some found) mid.held old.held (sym same) wrong),
      (text, put-all s section old.held text of (told_here (λ file. text ≡ slice_text (show_of s.decimal s.fields) (slice_of s section) file) mid.held old.held (sym same) read), wrote),
    )
    by_cause Source (rose, (text, read, wrote)) = (
      rose_before old.faults mid.faults new.faults counts rose,
      (text, put-all s section old.held text of (told_here (λ file. text ≡ slice_text (show_of s.decimal s.fields) (slice_of s section) file) mid.held old.held (sym same) read), wrote),
    )
    by_cause Out (rose, (text, read, wrote)) = (
      rose,
      (text, put-all s section old.held text of (told_here (λ file. text ≡ slice_text (show_of s.decimal s.fields) (slice_of s section) file) mid.held old.held (sym same) read), wrote),
    )
    by_cause Memory (text, read, wrote) = (text, put-all s section old.held text of (told_here (λ file. text ≡ slice_text (show_of s.decimal s.fields) (slice_of s section) file) mid.held old.held (sym same) read), wrote)
    by_cause (Ask why) never = absurd never

-- ---- no row

rows-empty : (row : ℕ → Result (List ℕ) Fault) (i : ℕ) → (rows_text row i 0 ≡ []) × (rows_fault row i 0 ≡ None)
unfolding rows_text rows_fault
rows-empty row i = (refl, refl)

-- no record is asked for
pub records-none : (s : Selection) (old : SourceView) (out : SinkView) → s.count ≡ 0 → PutsRecords s old out out
records-none s old out none = (all old.held, ([], text old.held, grows_none out))
  where
    all : (held : Option (List ℕ)) → IfSome held (λ file. selected_fault file s ≡ None)
    all None = tt
    all (Some file) = subst (λ (n : ℕ). rows_fault (selected_row file s) s.from n ≡ None) (sym none) ((rows-empty (selected_row file s) s.from).1)

    text : (held : Option (List ℕ)) → IfSome held (λ file. [] ≡ selected_rows file s)
    text None = tt
    text (Some file) = subst (λ (n : ℕ). [] ≡ rows_text (selected_row file s) s.from n) (sym none) (sym (rows-empty (selected_row file s) s.from).0)

front-none : (out : SinkView) → GrowsByFront out.written [] out.written
front-none out = (0, lit≤ tt, grows_none out)

-- the section has a fault, or the source failed
pub section-lost : (s : Selection) (old new : SourceView) (out : SinkView) (found : ReadFault) → 0 < length s.numbers → 0 < s.count → IsSectionCause old s.cloud.node s.cloud.place found new → FailsRecords s old new out out (read_as_run found)
section-lost s old new out (read.Refused found) some more (kind, wrong) = (
  section-kind found.kind kind,
  told_map (λ file. section_fault file s.cloud.node s.cloud.place ≡ Some found) (λ file. selected_fault file s ≡ Some found) old.held (λ file is. fault-none file s found is some more) wrong,
  ([], told_map (λ file. section_fault file s.cloud.node s.cloud.place ≡ Some found) (λ file. [] ≡ selected_rows file s) old.held (λ file is. sym (rows-none file s found is some)) wrong, grows_none out),
)
section-lost s old new out read.Source some more rose = (rose, first old.held)
  where
    first : (held : Option (List ℕ)) → PutsFirstRows s held out out
    first None = ([], tt, front-none out)
    first (Some file) = (selected_rows file s, refl, (0, omega arith, grows_none out))

-- ---- the heading and the rows

text-of : (s : Selection) (held : Option (List ℕ)) (rows : List ℕ) → IfSome held (λ file. rows ≡ selected_rows file s) → IfSome held (λ file. heading_text s.fields s.numbers ++ rows ≡ selected_text file s)
text-of s held rows is =
    told_map (λ file. rows ≡ selected_rows file s) (λ file. heading_text s.fields s.numbers ++ rows ≡ selected_text file s) held (λ file same. ap (λ (r : List ℕ). heading_text s.fields s.numbers ++ r) same) is

pub heading-rows : {T : Type 0} (s : Selection) (old new : SourceView) (out mid out' : SinkView) (result : Result T RunFault) → Grows out.written (heading_text s.fields s.numbers) mid.written → out.faults ≤ mid.faults
    → MatchResult result (λ _. PutsRecords s old mid out') (λ fault. FailsRecords s old new mid out' fault)
    → MatchResult result (λ _. StreamEnds (selection_streamed s) old new out out' None) (λ fault. StreamEnds (selection_streamed s) old new out out' (Some fault))
heading-rows s old new out mid out' (Ok x) wrote counts (sound, (rows, read, next)) = (
  told_map (λ file. selected_fault file s ≡ None) (λ file. IsWhole (selection_streamed s) file) old.held
      (λ file none. record { early = λ found never. never; late = λ found is. some-none (selected_fault file s) found none is; there = λ why never. never }) sound,
  (heading_text s.fields s.numbers ++ rows, text-of s old.held rows read, grows_on out.written mid.written out'.written (heading_text s.fields s.numbers) rows wrote next),
)
  where
    some-none : (o : Option Fault) (found : Fault) → o ≡ None → o ≡ Some found → ⊥
    some-none o found none some = cc
heading-rows s old new out mid out' (Err fault) wrote counts is = by_cause fault is
  where
    by_cause : (fault : RunFault) → FailsRecords s old new mid out' fault → StreamEnds (selection_streamed s) old new out out' (Some fault)
    by_cause (Refused found) (kind, wrong, (rows, read, next)) =
        inr (
          kind,
          wrong,
          (heading_text s.fields s.numbers ++ rows, text-of s old.held rows read, grows_on out.written mid.written out'.written (heading_text s.fields s.numbers) rows wrote next),
        )
    by_cause Source (rose, (rows, read, next)) = (
      rose,
      inr ((heading_text s.fields s.numbers ++ rows, text-of s old.held rows read, front_on out.written mid.written out'.written (heading_text s.fields s.numbers) rows wrote next)),
    )
    by_cause Out (rose, (rows, read, next)) = (
      rose_before out.faults mid.faults out'.faults counts rose,
      (heading_text s.fields s.numbers ++ rows, text-of s old.held rows read, front_on out.written mid.written out'.written (heading_text s.fields s.numbers) rows wrote next),
    )
    by_cause Memory (rows, read, next) =
        inr ((heading_text s.fields s.numbers ++ rows, text-of s old.held rows read, front_on out.written mid.written out'.written (heading_text s.fields s.numbers) rows wrote next))
    by_cause (Ask why) never = absurd never

-- the heading wasn't put as a whole
pub heading-cut : (s : Selection) (old : SourceView) (out out' : SinkView) → Rose out.faults out'.faults → GrowsByFront out.written (heading_text s.fields s.numbers) out'.written → StreamEnds (selection_streamed s) old old out out' (Some Out)
heading-cut s old out out' rose (k, within, wrote) = (rose, front old.held)
  where
    front : (held : Option (List ℕ)) → PutsFront (selection_streamed s) held out out'
    front None = (heading_text s.fields s.numbers, tt, (k, within, wrote))
    front (Some file) = (selected_text file s, refl, (k, longer, subst (λ (t : List ℕ). Grows out.written t out'.written) (sym shorter) wrote))
      where
        longer : k ≤ length (heading_text s.fields s.numbers ++ selected_rows file s)
        longer = let sum = length-append (heading_text s.fields s.numbers) (selected_rows file s) in omega (arith, sum, within)

        shorter : take k (heading_text s.fields s.numbers ++ selected_rows file s) ≡ take k (heading_text s.fields s.numbers)
        shorter = take-append-le k (heading_text s.fields s.numbers) (selected_rows file s) within

-- ---- the section

float-in : (f count : ℕ) (fields : List Field) → f + length fields ≤ count → IfSome (float_from f (leaves_of fields)) (λ x. (x.field < count) × IsWidth x)
unfolding float_from
float-in f count [] few = tt
float-in f count (field ∷ fields) few = by_kind field.kind (float-in (f + 1) count fields (omega (arith, few)))
  where
    by_kind : (kind : FieldKind) → IfSome (float_from (f + 1) (leaves_of fields)) (λ x. (x.field < count) × IsWidth x) → IfSome (float_from f ((record { node = field.node; kind = item_kind kind }) ∷ leaves_of fields)) (λ x. (x.field < count) × IsWidth x)
    by_kind (Int low high) later = later
    by_kind (Scaled low high scale offset) later = later
    by_kind Bits32 later = (omega (arith, few), inl refl)
    by_kind Bits64 later = (omega (arith, few), inr refl)
    by_kind Text later = later

-- the first Float field is one of the section's
pub fixed-in : (fields : List Field) (count : ℕ) (fixed : Option Fixed) → length fields ≡ count → fixed ≡ float_from 0 (leaves_of fields) → IfSome fixed (λ x. (x.field < count) × IsWidth x)
fixed-in fields count fixed many is = subst (λ (o : Option Fixed). IfSome o (λ x. (x.field < count) × IsWidth x)) (sym is) (float-in 0 count fields (omega (arith, many)))

-- what was opened is the section of the selection
pub section-of : (s : Selection) (kept now : List ℕ) (size : ℕ) (section : Section) (old mid : SourceView) → OpensSection old kept size s.cloud.node s.cloud.place s.cloud.count (length s.fields) section mid now → IfSome old.held (λ file. IsSectionOf file s section)
section-of s kept now size section old mid opens =
    told_both (λ file. section_fault file s.cloud.node s.cloud.place ≡ None) (λ file. section ≡ section_at file s.cloud.node s.cloud.place s.cloud.count (length s.fields)) (λ file. IsSectionOf file s section) old.held (λ file none is. (none, is)) opens.sound opens.read

pub opened-met : (s : Selection) (kept now : List ℕ) (size : ℕ) (section : Section) (old mid : SourceView) → 0 < s.count → IfSome old.held (λ file. logical_size file ≡ size) → OpensSection old kept size s.cloud.node s.cloud.place s.cloud.count (length s.fields) section mid now → AsksSelected s old mid
opened-met s kept now size section old mid more sized opens =
    let header = opens.lies.header in
    let data_within = opens.lies.data_within in
    let within = opens.lies.within in
    header-met s kept section.start size old mid more opens.place (omega (arith, header, data_within, within)) sized opens.source

-- ---- what `put_rows` was given

pub given-slice : (s : Selection) (section : Section) (fixed : Option Fixed) (numbers : List ℕ) → fixed ≡ float_from 0 (leaves_of s.fields) → numbers ≡ s.numbers
    → ◌≡◌ {A = Slice} (record { section = section; fixed = fixed; asked = asked_of s.fields numbers; from = s.from; count = s.count }) (slice_of s section)
given-slice s section fixed numbers is same = rw (is, same) refl

pub met-of : {T : Type 0} (show : ℕ → Value → Value) (a : Slice) (old new : SourceView) (out out' : SinkView) (result : Result T RunFault) → MatchResult result (λ _. PutsRows show a old new out out') (λ fault. FailsRows show a old new out out' fault) → AsksMet (OnSlice a) old new
met-of show a old new out out' (Ok x) is = is.met
met-of show a old new out out' (Err fault) is = is.met

pub same-fields : (rows : List (List Field)) (k : ℕ) (a b : List Field) → slice_get rows k ≡ Some a → slice_get rows k ≡ Some b → a ≡ b
same-fields rows k a b at_a at_b = some-same a b (sym at_a ∙ at_b)
  where
    some-same : (x y : List Field) → ◌≡◌ {A = Option (List Field)} (Some x) (Some y) → x ≡ y
    some-same x y is = cc
