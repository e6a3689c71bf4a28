-- Sections that are written one after another are read as what they were given.
use Rattle.std.specs.Prelude.{◌≡◌, ℕ, suc, ◌+◌, ◌-◌, ◌*◌, ◌%◌, ◌^◌, ◌<◌, ◌≤◌, ◌==◌, nat_lt, ℤ, pos, negsuc, Bool, true, false, List, [], ◌∷◌, ◌++◌, length, map, replicate, None}
use Rattle.std.specs.Int.{int_gap}
use Rattle.std.specs.Int.Signed.{mag}
use Rattle.std.specs.List.{AllByRecursion}
use Rattle.std.proofs.Common.{refl, sym, ap, subst, ◌∙◌, arith, le-ltb, eq-eqb, lit<, length-append}
use Rattle.std.proofs.lemmas.Int.{ints}
use Rattle.std.proofs.lemmas.Bool.Decides.{nat_tests}
use Rattle.std.proofs.lemmas.List.{length-map, nil_from_length}
use Rattle.e57_page.specs.File.{logical, logical_size}
use Rattle.e57_page.proofs.FileLaws.{length-logical}
use Rattle.e57_layout.specs.declared.field.Field.{Field}
use Rattle.e57_layout.specs.declared.section.BlobHeader.{BlobHeader}
use Rattle.e57_layout.specs.Headers.{blob_head_of}
use Rattle.e57_layout.specs.Packets.{whole_words}
use Rattle.e57_layout.specs.Standing.{Stands}
use Rattle.e57_layout.specs.Values.{ItemKind, integers, words, strings, Value, item_kind, AreLimits, IsKind}
use Rattle.e57_layout.specs.Items.{AreColumns}
use Rattle.e57_layout.specs.Written.{physical, section_spelled, blob_spelled}
use Rattle.e57_layout.proofs.Laws.Layouts.{length-blob_head_of, blob_head-read, whole_words-lt}
use Rattle.e57_layout.proofs.Laws.Standing.{Stands-front, Stands-behind, Stands-past, Stands-within}
use Rattle.e57_layout.proofs.Laws.Written.{length-section_spelled, length-blob_spelled}
use Rattle.e57_cloud.specs.Cloud.{Cloud, Leaf, cloud_fault, records_of, kinds_of}
use Rattle.e57_cloud.proofs.Laws.Indexes.{place-physical, physical-small}
use Rattle.e57_cloud.proofs.Laws.Spans.{span-right}
use Rattle.e57_cloud.specs.Written.{AreRight}
use Rattle.e57_cloud.proofs.Laws.Written.{written-cloud}
use Rattle.e57_nodes.specs.Items.{StatedItem, stated_cloud, stated_blob, leaves_of}
use Rattle.e57_nodes.proofs.Laws.Sound.{AreInRange, IsSoundField, IsSoundItem}
use Rattle.e57_page_out.specs.Sealed.{pages_for}
use Rattle.e57_verdict.specs.Blob.{blob_fault, blob_bytes}
use Rattle.e57_verdict.specs.Things.{Thing, cloud_thing, blob_thing, thing_at, things_at, thing_fault, things_fault, Body, records_body, bytes_body, body_of}
use Rattle.e57_plain.specs.Valid.{kinds_in, IsBody, AreBodies}
use Rattle.e57_plain.specs.Written.{whole_pages, body_section, section_offset, page_behind, sections_from, offsets_from}
use Rattle.e57_plain.proofs.Laws.Pages.{whole_pages-is, length-whole_pages}

-- ---- fields

gap-small : (low high : ℤ) → mag low < 2 ^ 63 → mag high < 2 ^ 63 → int_gap low high < 2 ^ 64
gap-small (pos a) (pos b) h g = omega (arith, ints)
gap-small (pos a) (negsuc b) h g = lit< tt
gap-small (negsuc a) (pos b) h g = omega (arith, ints)
gap-small (negsuc a) (negsuc b) h g = omega (arith, ints)

sound-kind : (nodes : ℕ) (field : Field) → IsSoundField nodes field → IsKind (item_kind field.kind)
sound-kind nodes field sound = by_kind (item_kind field.kind) sound.valid.limits sound.in_range where
  by_kind : (kind : ItemKind) → AreLimits kind → AreInRange kind → IsKind kind
  by_kind (integers low high) limits range = (limits, gap-small low high range.0 range.1)
  by_kind (words w) limits range = tt
  by_kind strings limits range = tt

pub sound-kinds : (nodes : ℕ) (fields : List Field) → AllByRecursion (IsSoundField nodes) fields → AllByRecursion IsKind (kinds_in fields)
sound-kinds nodes [] sound = tt
sound-kinds nodes (field ∷ fields) sound = (sound-kind nodes field sound.0, sound-kinds nodes fields sound.1)

-- ---- one cloud or blob

-- What is read of a thing in a file: no fault, and this body.
pub record Holds (file : List ℕ) (thing : Thing) (body : Body) : Type 0 where
  pub sound : thing_fault file thing ≡ None
  pub same : body_of file thing ≡ body

no-records : (leaves : List Leaf) (count : ℕ) (columns : List (List Value)) → count ≡ 0 → AreColumns (kinds_of leaves) count columns → map (λ (leaf : Leaf). []) leaves ≡ columns
no-records [] count [] none are = refl
no-records [] count (column ∷ columns) none are = absurd are
no-records (leaf ∷ leaves) count [] none are = absurd are
no-records (leaf ∷ leaves) count (column ∷ columns) none are =
    let first : [] ≡ column = sym (nil_from_length column (are.0 ∙ none)) in
    let later = no-records leaves count columns none are.2 in
    cc

empty-cloud : (file : List ℕ) (c : Cloud) (columns : List (List Value)) → c.count ≡ 0 → AreColumns (kinds_of c.leaves) c.count columns → Holds file (cloud_thing c) (records_body columns)
unfolding cloud_fault records_of
empty-cloud file c columns none are =
    let test : (c.count == 0) ≡ true = eq-eqb c.count 0 none in
    record { sound = rw test refl; same = rw test (ap records_body (no-records c.leaves c.count columns none are)) }

written-blob : (file : List ℕ) (node q : ℕ) (bytes : List ℕ) → AreRight file → logical_size file ≤ 2 ^ 60 → Stands (logical file) q (blob_spelled bytes) → Holds file (blob_thing (record { node = node; offset = physical q; length = length bytes })) (bytes_body bytes)
unfolding blob_fault blob_bytes blob_spelled
written-blob file node q bytes right near stands =
    let h : BlobHeader = record { id = 0; length = 16 + whole_words (length bytes) } in
    let size = length-blob_spelled bytes in
    let all = length-logical file in
    let within = Stands-within (logical file) q (blob_spelled bytes) stands (omega arith) in
    let room : nat_lt (logical_size file) (q + (16 + length bytes)) ≡ false = le-ltb (logical_size file) (q + (16 + length bytes)) (omega arith) in
    let span = span-right file q 16 right (omega arith) in
    let more = whole_words-lt (length bytes) in
    let head = blob_head-read (logical file) q h (lit< tt) (omega arith) (Stands-front (logical file) q (blob_head_of h) bytes stands) in
    record {
      sound = rw (place-physical q, room, span, head) refl;
      same = rw (place-physical q) (ap bytes_body (Stands-past (logical file) q 16 (blob_head_of h) bytes (length-blob_head_of h) stands));
    }

offset-some : (p : ℕ) (bytes : List ℕ) → 0 < length bytes → section_offset p bytes ≡ physical (1020 * p)
offset-some p [] some = absurd (omega arith)
offset-some p (b ∷ bytes) some = refl

section-none : (n q node count : ℕ) (fields : List Field) (columns : List (List Value)) → (count == 0) ≡ true → body_section n q (stated_cloud node count fields) (records_body columns) ≡ []
unfolding body_section
section-none n q node count fields columns none = rw none refl

section-some : (n q node count : ℕ) (fields : List Field) (columns : List (List Value)) → (count == 0) ≡ false → body_section n q (stated_cloud node count fields) (records_body columns) ≡ section_spelled q (kinds_in fields) n count columns
unfolding body_section
section-some n q node count fields columns some = rw some refl

section-blob : (n q node size : ℕ) (bytes : List ℕ) → body_section n q (stated_blob node size) (bytes_body bytes) ≡ blob_spelled bytes
unfolding body_section
section-blob n q node size bytes = refl

-- the file has right pages, and chunks have records
pub record IsGood (file : List ℕ) (n : ℕ) : Type 0 where
  pub right : AreRight file
  pub near : logical_size file ≤ 2 ^ 60
  pub chunk : 0 < n

body-held : (file : List ℕ) (n p nodes : ℕ) (item : StatedItem) (body : Body) → IsGood file n → IsSoundItem nodes item → IsBody item body → Stands (logical file) (1020 * p) (body_section n (1020 * p) item body)
    → Holds file (thing_at item (section_offset p (body_section n (1020 * p) item body))) body
body-held file n p nodes (stated_cloud node count fields) (bytes_body bytes) good sound is stands = absurd is
body-held file n p nodes (stated_blob node size) (records_body columns) good sound is stands = absurd is
body-held file n p nodes (stated_blob node size) (bytes_body bytes) good sound is stands =
    let section = section-blob n (1020 * p) node size bytes in
    let long = length-blob_spelled bytes in
    let offset = ap (section_offset p) section ∙ offset-some p (blob_spelled bytes) (omega arith) in
    let held = written-blob file node (1020 * p) bytes good.right good.near (subst (Stands (logical file) (1020 * p)) section stands) in
    subst (λ o. Holds file (blob_thing (record { node = node; offset = o; length = size })) (bytes_body bytes)) (sym offset)
    (subst (λ k. Holds file (blob_thing (record { node = node; offset = physical (1020 * p); length = k })) (bytes_body bytes)) is held)
body-held file n p nodes (stated_cloud node count fields) (records_body columns) good sound is stands = by_count (count == 0) refl where
  by_count : (b : Bool) → (count == 0) ≡ b → Holds file (thing_at (stated_cloud node count fields) (section_offset p (body_section n (1020 * p) (stated_cloud node count fields) (records_body columns)))) (records_body columns)
  by_count true none =
      empty-cloud file (record { node = node; offset = section_offset p (body_section n (1020 * p) (stated_cloud node count fields) (records_body columns)); count = count; leaves = leaves_of fields }) columns (grind (arith, nat_tests)) is
  by_count false some =
      let section = section-some n (1020 * p) node count fields columns some in
      let spelled = section_spelled (1020 * p) (kinds_in fields) n count columns in
      let long = length-section_spelled (1020 * p) (kinds_in fields) n count columns in
      let offset = ap (section_offset p) section ∙ offset-some p spelled (omega arith) in
      let few : length (leaves_of fields) ≡ length fields = length-map fields (λ (field : Field). record { node = field.node; kind = item_kind field.kind }) in
      let cloud = written-cloud file node (1020 * p) n count (leaves_of fields) columns (record {
        right = good.right;
        near = good.near;
        stands = subst (Stands (logical file) (1020 * p)) section stands;
        chunk = good.chunk;
        some = grind (arith, nat_tests);
        counted = sound.few_records;
        few = omega (arith, sound.few_fields);
        kinds_ok = sound-kinds nodes fields sound.each;
        columns_ok = is;
      }) in
      subst (λ o. Holds file (cloud_thing (record { node = node; offset = o; count = count; leaves = leaves_of fields })) (records_body columns)) (sym offset)
      (record { sound = cloud.sound; same = ap records_body cloud.records })

-- ---- several

sections-cons : (n p : ℕ) (item : StatedItem) (items : List StatedItem) (body : Body) (bodies : List Body) → sections_from n p (item ∷ items) (body ∷ bodies)
    ≡ whole_pages (body_section n (1020 * p) item body) ++ sections_from n (page_behind p (body_section n (1020 * p) item body)) items bodies
unfolding sections_from
sections-cons n p item items body bodies = refl

sections-nil : (n p : ℕ) (bodies : List Body) → sections_from n p [] bodies ≡ []
unfolding sections_from
sections-nil n p bodies = refl

sections-over : (n p : ℕ) (item : StatedItem) (items : List StatedItem) → sections_from n p (item ∷ items) [] ≡ []
unfolding sections_from
sections-over n p item items = refl

pub length-sections : (n p : ℕ) (items : List StatedItem) (bodies : List Body) → length (sections_from n p items bodies) % 1020 ≡ 0
length-sections n p [] bodies = ap (λ (b : List ℕ). length b % 1020) (sections-nil n p bodies)
length-sections n p (item ∷ items) [] = ap (λ (b : List ℕ). length b % 1020) (sections-over n p item items)
length-sections n p (item ∷ items) (body ∷ bodies) =
    let first = length-whole_pages (body_section n (1020 * p) item body) in
    let later = length-sections n (page_behind p (body_section n (1020 * p) item body)) items bodies in
    rw (sections-cons n p item items body bodies, length-append, first) (omega arith)

-- The things at these offsets hold these bodies.
pub record AreHeld (file : List ℕ) (things : List Thing) (bodies : List Body) : Type 0 where
  pub sound : things_fault file things ≡ None
  pub same : map (body_of file) things ≡ bodies

pub sections-held : (file : List ℕ) (n p nodes : ℕ) (items : List StatedItem) (bodies : List Body) → IsGood file n → AllByRecursion (IsSoundItem nodes) items → AreBodies items bodies → Stands (logical file) (1020 * p) (sections_from n p items bodies)
    → AreHeld file (things_at items (offsets_from n p items bodies)) bodies
unfolding offsets_from
sections-held file n p nodes [] [] good sound are stands = record { sound = refl; same = refl }
sections-held file n p nodes [] (body ∷ bodies) good sound are stands = absurd are
sections-held file n p nodes (item ∷ items) [] good sound are stands = absurd are
sections-held file n p nodes (item ∷ items) (body ∷ bodies) good sound are stands =
    let section = body_section n (1020 * p) item body in
    let next = page_behind p section in
    let parts = subst (Stands (logical file) (1020 * p)) (sections-cons n p item items body bodies) stands in
    let whole = subst (Stands (logical file) (1020 * p)) (whole_pages-is section) (Stands-front (logical file) (1020 * p) (whole_pages section) (sections_from n next items bodies) parts) in
    let held = body-held file n p nodes item body good sound.0 are.0 (Stands-front (logical file) (1020 * p) section (replicate (1020 * pages_for (length section) - length section) 0) whole) in
    let size = length-whole_pages section in
    let place : 1020 * p + length (whole_pages section) ≡ 1020 * next = omega arith in
    let later = sections-held file n next nodes items bodies good sound.1 are.1 (subst (λ (q : ℕ). Stands (logical file) q (sections_from n next items bodies)) place (Stands-behind (logical file) (1020 * p) (whole_pages section) (sections_from n next items bodies) parts)) in
    record { sound = rw (held.sound, later.sound) refl; same = rw (held.same, later.same) refl }

-- ---- their offsets

pub length-offsets : (n p : ℕ) (items : List StatedItem) (bodies : List Body) → AreBodies items bodies → length (offsets_from n p items bodies) ≡ length items
unfolding offsets_from
length-offsets n p [] [] are = refl
length-offsets n p [] (body ∷ bodies) are = absurd are
length-offsets n p (item ∷ items) [] are = absurd are
length-offsets n p (item ∷ items) (body ∷ bodies) are = ap suc (length-offsets n (page_behind p (body_section n (1020 * p) item body)) items bodies are.1)

offset-small : (p : ℕ) (bytes : List ℕ) → 1020 * p ≤ 2 ^ 60 → section_offset p bytes < 2 ^ 64
offset-small p [] near = lit< tt
offset-small p (b ∷ bytes) near = physical-small (1020 * p) near

pub offsets-small : (n p : ℕ) (items : List StatedItem) (bodies : List Body) → 1020 * p + length (sections_from n p items bodies) ≤ 2 ^ 60 → AllByRecursion (λ k. k < 2 ^ 64) (offsets_from n p items bodies)
unfolding offsets_from
offsets-small n p [] bodies near = tt
offsets-small n p (item ∷ items) [] near = tt
offsets-small n p (item ∷ items) (body ∷ bodies) near =
    let section = body_section n (1020 * p) item body in
    let first = length-whole_pages section in
    let all = rw length-append at (ap length (sections-cons n p item items body bodies)) in
    (offset-small p section (omega arith), offsets-small n (page_behind p section) items bodies (omega arith))
