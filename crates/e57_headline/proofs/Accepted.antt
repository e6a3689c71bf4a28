-- What is put of an accepted file.
use Rattle.std.specs.Prelude.{◌≡◌, ℕ, zero, suc, ◌+◌, ◌<◌, ◌≤◌, List, [], ◌∷◌, ◌++◌, map, length, slice_get, get_or, nat_lt, if◌then◌else◌, Bool, true, false, pos, Option, Some, None, Result, Ok, Err}
use Rattle.std.specs.List.{AllByRecursion, range_with_len}
use Rattle.std.specs.Option.{option_or}
use Rattle.std.proofs.Common.{refl, sym, subst, ap, ◌∙◌, arith, inl, inr, ⊎_elim}
use Rattle.std.proofs.lemmas.List.{get_or-map, length-map}
use Rattle.std.proofs.lemmas.Option.{slice_get-get_or, get_or_from_slice_get}
use Rattle.e57_base.specs.declared.fault.Fault.{Fault}
use Rattle.e57_base.specs.declared.fault.AskFault.{AskFault}
use Rattle.e57_base.proofs.Options.{option_or_parts}
use Rattle.e57_layout.specs.Values.{Value, whole}
use Rattle.e57_layout.specs.declared.field.Field.{Field}
use Rattle.e57_page.specs.File.{opening_fault, logical_size}
use Rattle.e57_page.specs.Header.{header_of}
use Rattle.e57_page.specs.XmlSection.{xml_span_fault}
use Rattle.e57_elements.specs.Tree.{Element}
use Rattle.e57_elements.specs.Spells.{Spells}
use Rattle.e57_nodes.specs.Shape.{shape_of}
use Rattle.e57_nodes.specs.Typed.{typed_fault}
use Rattle.e57_nodes.specs.Items.{StatedItem, stated_cloud, stated_blob, stated_items, leaves_of}
use Rattle.e57_nodes.specs.Places.{places_in}
use Rattle.e57_cloud.specs.Cloud.{Leaf, Cloud as StatedCloud, cloud_fault, records_of}
use Rattle.e57_cloud.specs.PathItem.{path_item, and_then}
use Rattle.e57_tree.specs.declared.items.Cloud.{Cloud}
use Rattle.e57_tree.specs.Held.{clouds_of, cloud_fields, clouds_among, fields_among}
use Rattle.e57_file.specs.Text.{xml_fault, section_text}
use Rattle.e57_file.specs.Opened.{HasXmlTree, IsTreeFault}
use Rattle.e57_verdict.specs.Content.{Content, IsContent}
use Rattle.e57_verdict.specs.Things.{Body, body_of, things_at, things_in, things_fault, thing_fault, thing_at}
use Rattle.e57_verdict.specs.Verdict.{all_pages_fault, fault_before_text, fault_behind_text, IsFileFault, IsVerdict, Verdict, accepted, refused}
use Rattle.e57_verdict.proofs.Laws.Opening.{before-opening, before-section}
use Rattle.e57_blocks.specs.Fields.{asked_of, field_at, leaf_of, no_field}
use Rattle.e57_base.specs.declared.fault.AskFault.TheVariants as ask
use Rattle.std.proofs.lemmas.Bool.{ltb-false}
use Rattle.e57_nodes.specs.Places.{without_places}
use Rattle.e57_rows.specs.Cells.{cell, csv_row}
use Rattle.e57_rows.specs.Rows.{cells_of, heading_text, shown, rows_text, rows_fault, fault_before}
use Rattle.e57_rows.specs.Shown.{show_of}
use Rattle.e57_show.specs.Extract.{Asked, Selection, Selects, LacksAsked, IsRowsFault, stated, cloud_row, selected_row, lacking, select_from, select_range, select_records, select, rows_streamed}
use Rattle.e57_show.specs.Streaming.{IsWhole}
use Rattle.e57_select.specs.Asking.{numbers_of, asked_end, asked_count}
use Rattle.e57_select.proofs.Looked.{named-all, within-cloud}
use Rattle.e57_headline.specs.Headline.{records_among, cloud_records, record_item, record_row, IsAsked, ShowsRecords}

-- ---- laws that are called

abbrev pub OneTree : Type 0
OneTree = (text : List ℕ) (a b : Element) → Spells text a → Spells text b → a ≡ b

abbrev pub OneVerdict : Type 0
OneVerdict = (file : List ℕ) (a b : Verdict) → IsVerdict file a → IsVerdict file b → a ≡ b

abbrev pub ByRecord : Type 0
ByRecord = (file : List ℕ) (c : StatedCloud) (f : ℕ) (leaf : Leaf) (i : ℕ) (d : Value) → cloud_fault file c ≡ None → slice_get c.leaves f ≡ Some leaf → i < c.count → path_item file c f leaf i ≡ Ok (get_or (get_or (records_of file c) f []) i d)

-- ---- the cloud among the file's things

abbrev pub stated_as : Cloud → List Field → StatedCloud
stated_as cloud fields = record { node = cloud.node; offset = cloud.place; count = cloud.count; leaves = leaves_of fields }

-- it has no fault, and its records stand among those of all
pub record IsSoundCloud (file : List ℕ) (bodies : List Body) (k : ℕ) (c : StatedCloud) : Type 0 where
  pub sound : cloud_fault file c ≡ None
  pub records : slice_get (records_among bodies) k ≡ Some (records_of file c)

same_some : {X : Type 0} (a b : X) → ◌≡◌ {A = Option X} (Some a) (Some b) → a ≡ b
same_some a b is = cc

sound-cloud : (file : List ℕ) (xs : List StatedItem) (places : List ℕ) (k : ℕ) (cloud : Cloud) (fields : List Field) → slice_get (clouds_among xs places) k ≡ Some cloud → slice_get (fields_among xs) k ≡ Some fields → things_fault file (things_at xs places) ≡ None
    → IsSoundCloud file (map (body_of file) (things_at xs places)) k (stated_as cloud fields)
sound-cloud file [] places k cloud fields at_cloud at_fields none = absurd cc
sound-cloud file (x ∷ xs) [] k cloud fields at_cloud at_fields none = absurd cc
sound-cloud file (stated_cloud n count fs ∷ xs) (p ∷ ps) zero cloud fields at_cloud at_fields none =
    let first : record { node = n; place = p; count = count } ≡ cloud = same_some (record { node = n; place = p; count = count }) cloud at_cloud in
    let second : fs ≡ fields = same_some fs fields at_fields in
    let parts = option_or_parts (thing_fault file (thing_at (stated_cloud n count fs) p)) (things_fault file (things_at xs ps)) none in
    subst (λ (c : Cloud). IsSoundCloud file (map (body_of file) (things_at (stated_cloud n count fs ∷ xs) (p ∷ ps))) zero (stated_as c fields)) first
    (subst (λ (f : List Field). IsSoundCloud file (map (body_of file) (things_at (stated_cloud n count fs ∷ xs) (p ∷ ps))) zero (stated_as (record { node = n; place = p; count = count }) f)) second
    (record { sound = parts.0; records = refl }))
sound-cloud file (stated_cloud n count fs ∷ xs) (p ∷ ps) (suc k) cloud fields at_cloud at_fields none =
    let parts = option_or_parts (thing_fault file (thing_at (stated_cloud n count fs) p)) (things_fault file (things_at xs ps)) none in
    let rest = sound-cloud file xs ps k cloud fields at_cloud at_fields parts.1 in
    record { sound = rest.sound; records = rest.records }
sound-cloud file (stated_blob n size ∷ xs) (p ∷ ps) k cloud fields at_cloud at_fields none =
    let parts = option_or_parts (thing_fault file (thing_at (stated_blob n size) p)) (things_fault file (things_at xs ps)) none in
    let rest = sound-cloud file xs ps k cloud fields at_cloud at_fields parts.1 in
    record { sound = rest.sound; records = rest.records }

behind-none : (file : List ℕ) (tree : Element) → fault_behind_text file tree ≡ None → things_fault file (things_in tree) ≡ None
unfolding fault_behind_text
behind-none file tree none = (option_or_parts (typed_fault (shape_of tree)) (things_fault file (things_in tree)) none).1

asked-cloud : (file : List ℕ) (content : Content) (k : ℕ) (s : Selection) → OneTree → IsContent file content → IsAsked file k s → IsSoundCloud file content.bodies k (stated s)
asked-cloud file content k s one is asked =
    let same : is.tree ≡ asked.tree = one (section_text file) is.tree asked.tree is.is_sound.has_tree.spells asked.has.has.spells in
    let none : things_fault file (things_in asked.tree) ≡ None = subst (λ (t : Element). things_fault file (things_in t) ≡ None) same (behind-none file is.tree is.is_sound.sound) in
    let bodies : map (body_of file) (things_in asked.tree) ≡ content.bodies = ap (λ (t : Element). map (body_of file) (things_in t)) (sym same) ∙ sym is.same_bodies in
    subst (λ (bs : List Body). IsSoundCloud file bs k (stated s)) bodies
    (sound-cloud file (stated_items (shape_of asked.tree)) (places_in asked.tree) k s.cloud s.fields asked.cloud asked.fields none)

-- ---- one record

leaf-there : (fields : List Field) (f : ℕ) → f < length fields → slice_get (leaves_of fields) f ≡ Some (leaf_of (field_at fields f))
leaf-there fields f below =
    let long = length-map fields leaf_of in
    slice_get-get_or (leaves_of fields) f (leaf_of no_field) (omega (arith, below, long))
    ∙ ap Some (get_or-map leaf_of fields f no_field (leaf_of no_field) below)

cells-agree : (p q : ℕ → Leaf → Result Value Fault) (fields : List Field) (numbers : List ℕ) → AllByRecursion (λ f. f < length fields) numbers → ((f : ℕ) → f < length fields → p f (leaf_of (field_at fields f)) ≡ q f (leaf_of (field_at fields f))) → cells_of p (asked_of fields numbers) ≡ cells_of q (asked_of fields numbers)
unfolding cells_of
cells-agree p q fields [] all same = refl
cells-agree p q fields (f ∷ numbers) all same = rw (same f all.0, cells-agree p q fields numbers all.1 same) refl

row-agrees : (file : List ℕ) (content : Content) (k : ℕ) (s : Selection) (i : ℕ) → ByRecord → IsSoundCloud file content.bodies k (stated s) → AllByRecursion (λ f. f < length s.fields) s.numbers → i < s.cloud.count → selected_row file s i ≡ record_row (show_of s.decimal s.fields) (cloud_records content k) (asked_of s.fields s.numbers) i
unfolding cloud_row record_row
row-agrees file content k s i by_record cloud all below =
    let show = show_of s.decimal s.fields in
    let records : cloud_records content k ≡ records_of file (stated s) = get_or_from_slice_get (records_among content.bodies) k (records_of file (stated s)) [] cloud.records in
    ap (λ (r : Result (List (List ℕ)) Fault). and_then r (λ cells. Ok (csv_row cells)))
    (cells-agree (λ f leaf. shown show f (path_item file (stated s) f leaf i)) (λ f leaf. Ok (show f (record_item (cloud_records content k) i f))) s.fields s.numbers all
    (λ f there. ap (shown show f) (by_record file (stated s) f (leaf_of (field_at s.fields f)) i (whole (pos 0)) cloud.sound (leaf-there s.fields f there) below)
    ∙ ap (λ (columns : List (List Value)). Ok (show f (record_item columns i f))) (sym records)))

-- ---- records one after another

text-agrees : (p q : ℕ → Result (List ℕ) Fault) (i n : ℕ) → ((j : ℕ) → j < i + n → p j ≡ q j) → rows_text p i n ≡ rows_text q i n
unfolding rows_text
text-agrees p q i zero same = refl
text-agrees p q i (suc n) same = rw (same i (omega arith), text-agrees p q (i + 1) n (λ j below. same j (omega (arith, below)))) refl

fault-agrees : (p q : ℕ → Result (List ℕ) Fault) (i n : ℕ) → ((j : ℕ) → j < i + n → p j ≡ q j) → rows_fault p i n ≡ rows_fault q i n
unfolding rows_fault
fault-agrees p q i zero same = refl
fault-agrees p q i (suc n) same = rw (same i (omega arith), fault-agrees p q (i + 1) n (λ j below. same j (omega (arith, below)))) refl

cells-sound : (item : ℕ → Value) (asked : List (ℕ × Leaf)) → (cells : List (List ℕ)) × (cells_of (λ f leaf. Ok (item f)) asked ≡ Ok cells)
unfolding cells_of
cells-sound item [] = ([], refl)
cells-sound item ((f, leaf) ∷ asked) =
    let rest = cells-sound item asked in
    (cell leaf.kind (item f) ∷ rest.0, ap (λ (r : Result (List (List ℕ)) Fault). and_then r (λ cells. Ok (cell leaf.kind (item f) ∷ cells))) rest.1)

row-sound : (show : ℕ → Value → Value) (columns : List (List Value)) (asked : List (ℕ × Leaf)) (i : ℕ) → (text : List ℕ) × (record_row show columns asked i ≡ Ok text)
unfolding record_row
row-sound show columns asked i =
    let cells = cells-sound (λ f. show f (record_item columns i f)) asked in
    (csv_row cells.0, ap (λ (r : Result (List (List ℕ)) Fault). and_then r (λ cells. Ok (csv_row cells))) cells.1)

rows-sound : (show : ℕ → Value → Value) (columns : List (List Value)) (asked : List (ℕ × Leaf)) (i n : ℕ) → rows_fault (record_row show columns asked) i n ≡ None
unfolding rows_fault
rows-sound show columns asked i zero = refl
rows-sound show columns asked i (suc n) =
    let row = row-sound show columns asked i in
    ap (λ (r : Result (List ℕ) Fault). fault_before r (rows_fault (record_row show columns asked) (i + 1) n)) row.1 ∙ rows-sound show columns asked (i + 1) n

pub shows : (file : List ℕ) (content : Content) (k : ℕ) (s : Selection) → OneTree → ByRecord → IsContent file content → IsAsked file k s → ShowsRecords file content k s
shows file content k s one by_record is asked =
    let cloud = asked-cloud file content k s one is asked in
    let range = asked.range in
    let same = λ (j : ℕ) (below : j < s.from + s.count). row-agrees file content k s j by_record cloud asked.numbers (omega (arith, below, range)) in
    let row = record_row (show_of s.decimal s.fields) (cloud_records content k) (asked_of s.fields s.numbers) in
    record {
      sound = fault-agrees (selected_row file s) row s.from s.count same ∙ rows-sound (show_of s.decimal s.fields) (cloud_records content k) (asked_of s.fields s.numbers) s.from s.count;
      text = ap (λ (t : List ℕ). heading_text s.fields s.numbers ++ t) (text-agrees (selected_row file s) row s.from s.count same);
    }

-- ---- what is asked by names and numbers

all-below : (from n high : ℕ) → from + n ≤ high → AllByRecursion (λ f. f < high) (range_with_len from n)
all-below from zero high within = tt
all-below from (suc n) high within = (omega (arith, within), all-below (from + 1) n high (omega (arith, within)))

numbers-there : (fields : List Field) (names : Option (List (List ℕ))) (numbers : List ℕ) → numbers_of fields names ≡ Ok numbers → AllByRecursion (λ f. f < length fields) numbers
numbers-there fields None numbers is =
    let same : range_with_len 0 (length fields) ≡ numbers = cc in
    subst (λ (xs : List ℕ). AllByRecursion (λ f. f < length fields) xs) same (all-below 0 (length fields) (length fields) (omega arith))
numbers-there fields (Some names) numbers is = (named-all fields 0 names numbers is).1

-- the parts of a selection
pub record IsPicked (asked : Asked) (at_cloud : Option Cloud) (at_fields : Option (List Field)) (s : Selection) : Type 0 where
  pub cloud : at_cloud ≡ Some s.cloud
  pub fields : at_fields ≡ Some s.fields
  pub numbers : AllByRecursion (λ f. f < length s.fields) s.numbers
  pub range : s.from + s.count ≤ s.cloud.count

picked-range : (asked : Asked) (cloud : Cloud) (fields : List Field) (numbers : List ℕ) (lacks : Option ℕ) (s : Selection) → numbers_of fields asked.names ≡ Ok numbers → select_range cloud fields asked numbers lacks ≡ Ok s → IsPicked asked (Some cloud) (Some fields) s
picked-range asked cloud fields numbers (Some j) s at_numbers is = absurd cc
picked-range asked cloud fields numbers None s at_numbers is = by_range (nat_lt cloud.count (asked_end asked.from asked.count)) refl is
  where
    all : Selection
    all = record { cloud = cloud; fields = fields; numbers = numbers; from = asked.from; count = asked_count cloud.count asked.from asked.count; decimal = asked.decimal }

    by_range : (b : Bool) → nat_lt cloud.count (asked_end asked.from asked.count) ≡ b → ◌≡◌ {A = Result Selection AskFault} (if b then Err (ask.Range (asked_end asked.from asked.count) cloud.count) else Ok all) (Ok s) → IsPicked asked (Some cloud) (Some fields) s
    by_range true test is = absurd cc
    by_range false test is =
        let same : all ≡ s = cc in
        let low = ltb-false cloud.count (asked_end asked.from asked.count) test in
        subst (λ (x : Selection). IsPicked asked (Some cloud) (Some fields) x) same
        (record { cloud = refl; fields = refl; numbers = numbers-there fields asked.names numbers at_numbers; range = within-cloud cloud.count asked.from asked.count low })

picked-records : (asked : Asked) (cloud : Cloud) (fields : List Field) (r : Result (List ℕ) ℕ) (s : Selection) → numbers_of fields asked.names ≡ r → select_records cloud fields asked r ≡ Ok s → IsPicked asked (Some cloud) (Some fields) s
picked-records asked cloud fields (Err j) s at_numbers is = absurd cc
picked-records asked cloud fields (Ok numbers) s at_numbers is = picked-range asked cloud fields numbers (lacking asked.decimal fields numbers) s at_numbers is

picked : (asked : Asked) (have : ℕ) (at_cloud : Option Cloud) (at_fields : Option (List Field)) (s : Selection) → select_from asked have at_cloud at_fields ≡ Ok s → IsPicked asked at_cloud at_fields s
picked asked have None at_fields s is = absurd cc
picked asked have (Some cloud) None s is = absurd cc
picked asked have (Some cloud) (Some fields) s is = picked-records asked cloud fields (numbers_of fields asked.names) s refl is

pub selected : (file : List ℕ) (asked : Asked) (s : Selection) → Selects asked file s → IsAsked file asked.cloud s
unfolding select
selected file asked s (tree, has, is) =
    let parts = picked asked (length (clouds_of tree)) (slice_get (clouds_of tree) asked.cloud) (slice_get (cloud_fields tree) asked.cloud) s is in
    record { tree = tree; has = has; cloud = parts.cloud; fields = parts.fields; numbers = parts.numbers; range = parts.range }

-- ---- an accepted file is whole

pub opened : (file : List ℕ) (clouds blobs records : ℕ) → IsVerdict file (accepted clouds blobs records) → opening_fault file ≡ None
opened file clouds blobs records (tree, sound, counts) =
    (option_or_parts (opening_fault file) (option_or (all_pages_fault file) (xml_span_fault (header_of file) (logical_size file))) (sym (before-opening file) ∙ sound.has_tree.sound)).0

-- what is judged before the text is that of the XML section
same-before : (file : List ℕ) → fault_before_text file ≡ None → fault_before_text file ≡ xml_fault file
same-before file none =
    let parts = option_or_parts (opening_fault file) (option_or (all_pages_fault file) (xml_span_fault (header_of file) (logical_size file))) (sym (before-opening file) ∙ none) in
    let pages = option_or_parts (all_pages_fault file) (xml_span_fault (header_of file) (logical_size file)) parts.1 in
    before-section file pages.0 ∙ ap (λ (o : Option Fault). option_or o (xml_fault file)) parts.0

tree-fault : (file : List ℕ) (found : Fault) → fault_before_text file ≡ xml_fault file → IsTreeFault file found → IsFileFault file found
unfolding fault_behind_text
tree-fault file found before lost =
    ⊎_elim
    (λ text. ⊎_elim (λ (first : xml_fault file ≡ Some found). inl (before ∙ first)) (λ later. inr (inl (before ∙ later.0, later.1))) text)
    (λ (node : (tree : Element) × HasXmlTree file tree × (typed_fault (shape_of tree) ≡ Some found)).
    inr (inr (node.0, record { sound = before ∙ node.1.sound; spells = node.1.spells; is_lawful = node.1.is_lawful }, ap (λ (o : Option Fault). option_or o (things_fault file (things_in node.0))) node.2))) lost

no-tree-fault : (file : List ℕ) (clouds blobs records : ℕ) (found : Fault) → OneVerdict → IsVerdict file (accepted clouds blobs records) → IsTreeFault file found → ⊥
no-tree-fault file clouds blobs records found one (tree, sound, counts) lost =
    let never : accepted clouds blobs records ≡ refused found = one file (accepted clouds blobs records) (refused found) (tree, sound, counts) (tree-fault file found (same-before file sound.has_tree.sound) lost) in
    absurd cc

not-short : (file : List ℕ) (asked : Asked) (s : Selection) (why : AskFault) → OneTree → Selects asked file s → LacksAsked asked file why → ⊥
not-short file asked s why one (tree, has, is) (other, has', lacks) =
    let same : tree ≡ other = one (section_text file) tree other has.has.spells has'.has.spells in
    let never : ◌≡◌ {A = Result Selection AskFault} (Ok s) (Err why) = sym is ∙ ap (λ (t : Element). select asked t) same ∙ lacks in
    absurd cc

no-late : (file : List ℕ) (content : Content) (asked : Asked) (found : Fault) → OneTree → ByRecord → IsContent file content → IsRowsFault asked file found → ⊥
no-late file content asked found one by_record is (s, selects, wrong) =
    let sound = (shows file content asked.cloud s one by_record is (selected file asked s selects)).sound in
    let never : ◌≡◌ {A = Option Fault} None (Some found) = sym sound ∙ wrong in
    absurd cc

content-of : (file : List ℕ) (clouds blobs records : ℕ) → IsVerdict file (accepted clouds blobs records) → (content : Content) × IsContent file content
content-of file clouds blobs records (tree, sound, counts) =
    (record { tree = without_places tree; bodies = map (body_of file) (things_in tree) }, record { tree = tree; is_sound = sound; same_tree = refl; same_bodies = refl })

pub is-whole : (file : List ℕ) (clouds blobs records : ℕ) (asked : Asked) (s : Selection) → OneTree → OneVerdict → ByRecord → IsVerdict file (accepted clouds blobs records) → Selects asked file s → IsWhole (rows_streamed asked) file
is-whole file clouds blobs records asked s one verdict by_record is selects =
    let content = content-of file clouds blobs records is in
    record {
      early = λ found lost. no-tree-fault file clouds blobs records found verdict is lost;
      late = λ found lost. no-late file content.0 asked found one by_record content.1 lost;
      there = λ why short. not-short file asked s why one selects short;
    }
