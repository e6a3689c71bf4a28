-- The content of an accepted file is valid.
use Rattle.std.specs.Prelude.{◌≡◌, ℕ, zero, suc, ◌+◌, ◌-◌, ◌^◌, ◌<◌, ◌≤◌, ◌==◌, nat_lt, not, Bool, true, false, cond, List, [], ◌∷◌, ◌++◌, length, map, take, drop, replicate, codes, decimal, Option, Some, None}
use Rattle.std.specs.Fmt.{digits}
use Rattle.std.specs.List.{AllByRecursion}
use Rattle.std.specs.Option.{option_or}
use Rattle.std.proofs.Common.{refl, sym, ap, subst, ◌∙◌, arith, lit<, length-drop}
use Rattle.std.proofs.lemmas.Bool.Decides.{nat_tests}
use Rattle.std.proofs.lemmas.List.{length-take-le, length-replicate}
use Rattle.e57_base.specs.declared.kind.Kind.TheVariants.{BlobPlace, BlobId}
use Rattle.e57_base.specs.Fault.{fault}
use Rattle.e57_page.specs.Place.{place}
use Rattle.e57_page.specs.File.{logical, logical_size, span_fault}
use Rattle.e57_page.proofs.FileLaws.{length-logical}
use Rattle.e57_elements.specs.Tree.{Element}
use Rattle.e57_elements.specs.Lawful.{IsLawful}
use Rattle.e57_layout.specs.declared.field.Fixed.{Fixed}
use Rattle.e57_layout.specs.declared.section.Section.{Section}
use Rattle.e57_layout.specs.Headers.{blob_head_at}
use Rattle.e57_layout.specs.Values.{ItemKind, Value, Outcome, here, short, over_limit, out_of_range, IsKind}
use Rattle.e57_layout.specs.Items.{IsItem, AreItems, AreColumns}
use Rattle.e57_layout.proofs.Laws.Found.{IfHere, item_at-item}
use Rattle.e57_cloud.specs.Section.{when, or_zero, section_at}
use Rattle.e57_cloud.specs.Chunks.{Chunk, stream_of, chunks}
use Rattle.e57_cloud.specs.Cloud.{Leaf, Cloud, fixed_of, section_of, outcome_fault, items_fault, items_from, chunk_item, outcome_value, field_fault, column_of, fields_fault, columns_of, cloud_fault, records_of, kinds_of, IsBodySound}
use Rattle.e57_cloud.proofs.Laws.Refusals.{column-count, cloud-sound}
use Rattle.e57_nodes.specs.Shape.{shape_of, node_count}
use Rattle.e57_nodes.specs.Typed.{typed_fault}
use Rattle.e57_nodes.specs.Items.{StatedItem, stated_cloud, stated_blob, stated_items, leaves_of}
use Rattle.e57_nodes.specs.Places.{places_in, with_places, without_places}
use Rattle.e57_nodes.proofs.Laws.Places.{without_places-with_places}
use Rattle.e57_nodes.proofs.Laws.Sound.{IsSoundItem, sound_items, option_or-none}
use Rattle.e57_nodes.proofs.Laws.Stated.{length-stated_items}
use Rattle.e57_verdict.specs.Blob.{Blob, blob_fault_from, blob_fault, blob_bytes}
use Rattle.e57_verdict.specs.Things.{things_at, things_fault, things_in, Body, body_of}
use Rattle.e57_verdict.specs.Verdict.{fault_behind_text}
use Rattle.e57_verdict.specs.Content.{Content, IsContent}
use Rattle.e57_plain.specs.Valid.{AreBodies, IsValid}
use Rattle.e57_plain.proofs.Laws.Sections.{sound-kinds}
use Rattle.e57_plain.proofs.Laws.Whole.{placed-tree}
use Rattle.e57_cloud.proofs.Laws.Sections.{when-none}

-- ---- records

found-items : (kind : ItemKind) (look : ℕ → Outcome) (node first k n : ℕ) → ((j : ℕ) → IfHere (IsItem kind) (look j)) → items_fault look node first k n ≡ None → AreItems kind (items_from look k n)
unfolding items_fault items_from
found-items kind look node first k zero is free = tt
found-items kind look node first k (suc n) is free =
    let parts = option_or-none (outcome_fault node first (look k)) (items_fault look node first (k + 1) n) free in
    by_outcome (look k) (is k) parts.0 (found-items kind look node first (k + 1) n is parts.1)
  where
    by_outcome : (outcome : Outcome) → IfHere (IsItem kind) outcome → outcome_fault node first outcome ≡ None → AreItems kind (items_from look (k + 1) n) → AreItems kind (outcome_value outcome ∷ items_from look (k + 1) n)
    by_outcome (here v) item free later = (item, later)
    by_outcome (short j) item free later = absurd (cc)
    by_outcome (over_limit j) item free later = absurd (cc)
    by_outcome (out_of_range j) item free later = absurd (cc)

items-append : (kind : ItemKind) (xs ys : List Value) → AreItems kind xs → AreItems kind ys → AreItems kind (xs ++ ys)
items-append kind [] ys f g = g
items-append kind (x ∷ xs) ys f g = (f.0, items-append kind xs ys f.1 g)

column-items : (f : ℕ) (leaf : Leaf) (parts : List Chunk) → IsKind leaf.kind → field_fault f leaf parts ≡ None → AreItems leaf.kind (column_of f leaf.kind parts)
unfolding field_fault column_of
column-items f leaf [] is free = tt
column-items f leaf (chunk ∷ parts) is free =
    let both = option_or-none (items_fault (chunk_item f leaf.kind chunk) leaf.node chunk.first 0 (chunk.until - chunk.first)) (field_fault f leaf parts) free in
    items-append leaf.kind (items_from (chunk_item f leaf.kind chunk) 0 (chunk.until - chunk.first)) (column_of f leaf.kind parts)
    (found-items leaf.kind (chunk_item f leaf.kind chunk) leaf.node chunk.first 0 (chunk.until - chunk.first) (λ j. item_at-item leaf.kind (stream_of f chunk.packets) j is) both.0)
    (column-items f leaf parts is both.1)

columns-are : (file : List ℕ) (s : Section) (fixed : Option Fixed) (f : ℕ) (leaves : List Leaf) → IsBodySound file s fixed → AllByRecursion IsKind (kinds_of leaves) → fields_fault f leaves (chunks file s fixed) ≡ None
    → AreColumns (kinds_of leaves) s.count (columns_of f leaves (chunks file s fixed))
unfolding fields_fault columns_of
columns-are file s fixed f [] sound are free = tt
columns-are file s fixed f (leaf ∷ leaves) sound are free =
    let both = option_or-none (field_fault f leaf (chunks file s fixed)) (fields_fault (f + 1) leaves (chunks file s fixed)) free in
    (column-count file s fixed f leaf.kind sound, column-items f leaf (chunks file s fixed) are.0 both.0, columns-are file s fixed (f + 1) leaves sound are.1 both.1)

empty-columns : (count : ℕ) (leaves : List Leaf) → count ≡ 0 → AreColumns (kinds_of leaves) count (map (λ (leaf : Leaf). []) leaves)
empty-columns count [] none = tt
empty-columns count (leaf ∷ leaves) none = (sym none, tt, empty-columns count leaves none)

section-count : (file : List ℕ) (c : Cloud) → (section_of file c).count ≡ c.count
unfolding section_at
section-count file c = refl

-- The records of a cloud without fault are items of its fields.
pub records-are : (file : List ℕ) (c : Cloud) → AllByRecursion IsKind (kinds_of c.leaves) → cloud_fault file c ≡ None → AreColumns (kinds_of c.leaves) c.count (records_of file c)
unfolding records_of
records-are file c are free = by_count (c.count == 0) refl where
  by_count : (b : Bool) → (c.count == 0) ≡ b → AreColumns (kinds_of c.leaves) c.count (cond b (map (λ (leaf : Leaf). []) c.leaves) (columns_of 0 c.leaves (chunks file (section_of file c) (fixed_of c))))
  by_count true none = empty-columns c.count c.leaves (grind (arith, nat_tests))
  by_count false some =
      let sound = cloud-sound file c (grind (arith, nat_tests)) free in
      subst (λ n. AreColumns (kinds_of c.leaves) n (columns_of 0 c.leaves (chunks file (section_of file c) (fixed_of c)))) (section-count file c)
      (columns-are file (section_of file c) (fixed_of c) 0 c.leaves sound.body are sound.fields)

-- ---- blobs

not-past : (a b : ℕ) → nat_lt a b ≡ false → b ≤ a
not-past a b test = grind (arith, nat_tests)

-- A blob without fault has as many bytes as its length says.
pub blob-length : (file : List ℕ) (b : Blob) → blob_fault file b ≡ None → length (blob_bytes file b) ≡ b.length
unfolding blob_fault blob_bytes
blob-length file b free = by_place (place b.offset) free where
  by_place : (found : Option ℕ) → blob_fault_from file b found ≡ None → length (take b.length (drop (or_zero found + 16) (logical file))) ≡ b.length
  by_place None free = absurd (cc)
  by_place (Some start) free =
      let head = (blob_head_at (logical file) start).id in
      let first = option_or-none (when (nat_lt (logical_size file) (start + (16 + b.length))) (fault BlobPlace b.node b.offset)) (option_or (span_fault file start 16) (when (not (head == 0)) (fault BlobId b.node head))) free in
      let room = not-past (logical_size file) (start + (16 + b.length)) (when-none (nat_lt (logical_size file) (start + (16 + b.length))) (fault BlobPlace b.node b.offset) first.0) in
      let all = length-logical file in
      length-take-le b.length (drop (start + 16) (logical file)) (omega (arith, length-drop (start + 16) (logical file)))

-- ---- bodies

bodies-are : (file : List ℕ) (nodes : ℕ) (items : List StatedItem) (offsets : List ℕ) → length items ≡ length offsets → AllByRecursion (IsSoundItem nodes) items → things_fault file (things_at items offsets) ≡ None
    → AreBodies items (map (body_of file) (things_at items offsets))
bodies-are file nodes [] offsets same sound free = tt
bodies-are file nodes (item ∷ items) [] same sound free = absurd (omega arith)
bodies-are file nodes (stated_cloud n count fields ∷ items) (offset ∷ offsets) same sound free =
    let c : Cloud = record { node = n; offset = offset; count = count; leaves = leaves_of fields } in
    let both = option_or-none (cloud_fault file c) (things_fault file (things_at items offsets)) free in
    (records-are file c (sound-kinds nodes fields sound.0.each) both.0, bodies-are file nodes items offsets (omega arith) sound.1 both.1)
bodies-are file nodes (stated_blob n size ∷ items) (offset ∷ offsets) same sound free =
    let b : Blob = record { node = n; offset = offset; length = size } in
    let both = option_or-none (blob_fault file b) (things_fault file (things_at items offsets)) free in
    (blob-length file b both.0, bodies-are file nodes items offsets (omega arith) sound.1 both.1)

-- ---- the whole

zeros : (n : ℕ) → map decimal (replicate n 0) ≡ replicate n (codes "0")
unfolding digits
zeros zero = refl
zeros (suc n) = ap (λ (texts : List (List ℕ)). codes "0" ∷ texts) (zeros n)

zeros-small : (n : ℕ) → AllByRecursion (λ k. k < 2 ^ 64) (replicate n 0)
zeros-small zero = tt
zeros-small (suc n) = (lit< tt, zeros-small n)

-- Only a valid content is that of a file.
pub content-valid : (file : List ℕ) (content : Content) → IsContent file content → IsValid content
unfolding fault_behind_text
content-valid file content is =
    let e = is.tree in
    let n = length (places_in e) in
    let parts = option_or-none (typed_fault (shape_of e)) (things_fault file (things_in e)) is.is_sound.sound in
    let many : length (replicate n 0) ≡ length (stated_items (shape_of e)) = length-replicate n 0 ∙ sym (length-stated_items e) in
    let placed = placed-tree e (replicate n 0) is.is_sound.has_tree.is_lawful parts.0 (zeros-small n) many in
    let tree : with_places (map decimal (replicate n 0)) e ≡ content.tree = ap (λ (texts : List (List ℕ)). with_places texts e) (zeros n) ∙ sym is.same_tree in
    let shape : shape_of content.tree ≡ shape_of e = ap shape_of (sym tree) ∙ placed.same_shape in
    let bodies = bodies-are file (node_count (shape_of e)) (stated_items (shape_of e)) (places_in e) (length-stated_items e) (sound_items e parts.0) parts.1 in
    record {
      is_lawful = subst (λ (x : Element). IsLawful x) tree placed.is_lawful;
      typed = ap typed_fault shape ∙ parts.0;
      no_places = ap without_places is.same_tree ∙ without_places-with_places (replicate n (codes "0")) e ∙ sym is.same_tree;
      bodies =
          subst (λ s. AreBodies (stated_items s) content.bodies) (sym shape)
          (subst (λ (held : List Body). AreBodies (stated_items (shape_of e)) held) (sym is.same_bodies) bodies);
    }
