-- The rows of a cloud are those of its section, where that has no fault; else its first record has that fault.
use Rattle.std.proofs.Common.{◌≡◌, ℕ, zero, suc, ◌+◌, ◌<◌, List, [], ◌∷◌, length, Some, None, Result, Ok, Err, refl, sym, ap, ◌∙◌, arith}
use Rattle.std.proofs.lemmas.List.{length-map}
use Rattle.e57_base.specs.declared.fault.Fault.{Fault}
use Rattle.e57_layout.specs.Values.{item_kind, Value}
use Rattle.e57_layout.specs.declared.field.Field.{Field}
use Rattle.e57_layout.specs.declared.section.Section.{Section}
use Rattle.e57_cloud.specs.Section.{section_fault, section_at}
use Rattle.e57_cloud.specs.Cloud.{Leaf, Cloud, fixed_of, section_of, float_from}
use Rattle.e57_cloud.specs.PathItem.{and_then, item_of, path_item}
use Rattle.e57_column.proofs.CloudLaws.{item_of-cloud}
use Rattle.e57_nodes.specs.Items.{leaves_of}
use Rattle.e57_rows.specs.Cells.{csv_row}
use Rattle.e57_rows.specs.Rows.{cells_of, shown, shown_row, rows_text, rows_fault}
use Rattle.e57_rows.specs.Shown.{show_of}
use Rattle.e57_rows.specs.Putting.{slice_text, slice_fault}
use Rattle.e57_blocks.specs.Fields.{Slice, asked_of}
use Rattle.e57_show.specs.Extract.{Selection, stated, cloud_row, selected_row, selected_rows, selected_fault}

-- ---- rows with the same items

cells-same : (p q : ℕ → Leaf → Result Value Fault) (asked : List (ℕ × Leaf)) → ((f : ℕ) (leaf : Leaf) → p f leaf ≡ q f leaf) → cells_of p asked ≡ cells_of q asked
unfolding cells_of
cells-same p q [] same = refl
cells-same p q ((f, leaf) ∷ asked) same = rw (same f leaf, cells-same p q asked same) refl

text-same : (p q : ℕ → Result (List ℕ) Fault) (i n : ℕ) → ((i : ℕ) → p i ≡ q i) → rows_text p i n ≡ rows_text q i n
unfolding rows_text
text-same p q i zero same = refl
text-same p q i (suc n) same = rw (same i, text-same p q (i + 1) n same) refl

fault-same : (p q : ℕ → Result (List ℕ) Fault) (i n : ℕ) → ((i : ℕ) → p i ≡ q i) → rows_fault p i n ≡ rows_fault q i n
unfolding rows_fault
fault-same p q i zero same = refl
fault-same p q i (suc n) same = rw (same i, fault-same p q (i + 1) n same) refl

-- ---- a section without a fault

row-sound : (show : ℕ → Value → Value) (file : List ℕ) (c : Cloud) (s : Section) (asked : List (ℕ × Leaf)) (i : ℕ) → section_fault file c.node c.offset ≡ None → s ≡ section_of file c → cloud_row show file c asked i ≡ shown_row show file s (fixed_of c) asked i
unfolding cloud_row shown_row
row-sound show file c s asked i none same =
    ap (λ (r : Result (List (List ℕ)) Fault). and_then r (λ cells. Ok (csv_row cells)))
    (cells-same (λ f leaf. shown show f (path_item file c f leaf i)) (λ f leaf. shown show f (item_of file s (fixed_of c) f leaf i)) asked (λ f leaf. ap (shown show f) (sym (item_of-cloud file c s f leaf i none same))))

-- what is read of the section of a selection
abbrev pub IsSectionOf : List ℕ → Selection → Section → Type 0
IsSectionOf file s section = (section_fault file s.cloud.node s.cloud.place ≡ None) × (section ≡ section_at file s.cloud.node s.cloud.place s.cloud.count (length s.fields))

abbrev pub slice_of : Selection → Section → Slice
slice_of s section = record { section = section; fixed = float_from 0 (leaves_of s.fields); asked = asked_of s.fields s.numbers; from = s.from; count = s.count }

pub same-section : (file : List ℕ) (s : Selection) (section : Section) → section ≡ section_at file s.cloud.node s.cloud.place s.cloud.count (length s.fields) → section ≡ section_of file (stated s)
same-section file s section is = is ∙ ap (λ (n : ℕ). section_at file s.cloud.node s.cloud.place s.cloud.count n) (sym (length-map s.fields (λ (field : Field). record { node = field.node; kind = item_kind field.kind })))

pub rows-sound : (file : List ℕ) (s : Selection) (section : Section) → IsSectionOf file s section → selected_rows file s ≡ slice_text (show_of s.decimal s.fields) (slice_of s section) file
rows-sound file s section (none, is) =
    text-same (selected_row file s) (shown_row (show_of s.decimal s.fields) file section (fixed_of (stated s)) (asked_of s.fields s.numbers)) s.from s.count
    (λ i. row-sound (show_of s.decimal s.fields) file (stated s) section (asked_of s.fields s.numbers) i none (same-section file s section is))

pub fault-sound : (file : List ℕ) (s : Selection) (section : Section) → IsSectionOf file s section → selected_fault file s ≡ slice_fault (show_of s.decimal s.fields) (slice_of s section) file
fault-sound file s section (none, is) =
    fault-same (selected_row file s) (shown_row (show_of s.decimal s.fields) file section (fixed_of (stated s)) (asked_of s.fields s.numbers)) s.from s.count
    (λ i. row-sound (show_of s.decimal s.fields) file (stated s) section (asked_of s.fields s.numbers) i none (same-section file s section is))

-- ---- a section with a fault

path-fault : (file : List ℕ) (c : Cloud) (f : ℕ) (leaf : Leaf) (i : ℕ) (found : Fault) → section_fault file c.node c.offset ≡ Some found → path_item file c f leaf i ≡ Err found
unfolding path_item
path-fault file c f leaf i found is = rw is refl

row-fault : (show : ℕ → Value → Value) (file : List ℕ) (c : Cloud) (asked : List (ℕ × Leaf)) (i : ℕ) (found : Fault) → section_fault file c.node c.offset ≡ Some found → 0 < length asked → cloud_row show file c asked i ≡ Err found
unfolding cloud_row cells_of
row-fault show file c [] i found is some = absurd (omega (arith, some))
row-fault show file c ((f, leaf) ∷ asked) i found is some = rw (path-fault file c f leaf i found is) refl

text-none : (row : ℕ → Result (List ℕ) Fault) (i n : ℕ) (found : Fault) → row i ≡ Err found → rows_text row i n ≡ []
unfolding rows_text
text-none row i zero found is = refl
text-none row i (suc n) found is = rw is refl

fault-first : (row : ℕ → Result (List ℕ) Fault) (i n : ℕ) (found : Fault) → row i ≡ Err found → 0 < n → rows_fault row i n ≡ Some found
unfolding rows_fault
fault-first row i zero found is some = absurd (omega (arith, some))
fault-first row i (suc n) found is some = rw is refl

some-asked : (fields : List Field) (numbers : List ℕ) → 0 < length numbers → 0 < length (asked_of fields numbers)
some-asked fields [] some = absurd (omega (arith, some))
some-asked fields (f ∷ numbers) some = omega arith

pub rows-none : (file : List ℕ) (s : Selection) (found : Fault) → section_fault file s.cloud.node s.cloud.place ≡ Some found → 0 < length s.numbers → selected_rows file s ≡ []
rows-none file s found is some =
    text-none (selected_row file s) s.from s.count found (row-fault (show_of s.decimal s.fields) file (stated s) (asked_of s.fields s.numbers) s.from found is (some-asked s.fields s.numbers some))

pub fault-none : (file : List ℕ) (s : Selection) (found : Fault) → section_fault file s.cloud.node s.cloud.place ≡ Some found → 0 < length s.numbers → 0 < s.count → selected_fault file s ≡ Some found
fault-none file s found is some more =
    fault-first (selected_row file s) s.from s.count found (row-fault (show_of s.decimal s.fields) file (stated s) (asked_of s.fields s.numbers) s.from found is (some-asked s.fields s.numbers some)) more
