-- A cloud of a file, and the records that are found of it.
use Rattle.std.proofs.Common.{◌≡◌, ℕ, suc, ◌+◌, ◌*◌, ◌%◌, ◌<◌, ◌≤◌, List, [], ◌∷◌, length, get_or, slice_get, take, Option, Some, None, Ok, refl, sym, subst, ap, ◌∙◌, arith, ⊎_elim}
use Rattle.std.specs.Prelude.{◌==◌, false}
use Rattle.std.specs.List.{range_with_len}
use Rattle.std.proofs.lemmas.Bool.{ne_eqb}
use Rattle.std.proofs.lemmas.List.{get_or-map, length-map, length-take}
use Rattle.std.proofs.lemmas.Option.{slice_get-get_or}
use Rattle.e57_base.specs.declared.fault.Fault.{Fault}
use Rattle.e57_layout.specs.Values.{ItemKind, Value}
use Rattle.e57_layout.specs.Items.{AreColumns}
use Rattle.e57_layout.specs.Packing.{first_records}
use Rattle.e57_layout.specs.Written.{packets_bytes, data_spelled, packets_spelled, section_spelled, index_spelled, index_place, entries_for, most_levels}
use Rattle.e57_layout.specs.declared.field.Field.{Field}
use Rattle.e57_layout.specs.declared.field.Fixed.{Fixed}
use Rattle.e57_layout.specs.declared.section.Section.{Section}
use Rattle.e57_layout.proofs.Laws.Written.{length-packets_bytes-append, length-section_spelled}
use Rattle.e57_page_out.specs.Sealed.{pages_for}
use Rattle.e57_page_out.specs.Writing.{most_bytes}
use Rattle.e57_cloud.specs.Section.{section_fault, section_at}
use Rattle.e57_cloud.specs.Chunks.{chunks}
use Rattle.e57_cloud.specs.Cloud.{Leaf, Cloud, fixed_of, float_from, section_of, cloud_fault, columns_of, records_of, IsBodySound}
use Rattle.e57_cloud.specs.PathItem.{item_of, path_item}
use Rattle.e57_cloud.proofs.Laws.Refusals.{cloud-sound, column-count, path_item-record}
use Rattle.e57_nodes.specs.Items.{leaves_of}
use Rattle.e57_blocks.specs.Fields.{asked_of, field_at, leaf_of, no_field, record_fault}
use Rattle.e57_chunk_out.specs.Progress.{packets_so_far}
use Rattle.e57_chunk_out.specs.Standing.{in_groups}
use Rattle.e57_chunk_out.specs.Turns.{data_end}
use Rattle.e57_chunk_out.proofs.Fronts.{front-length, so_far-front}
use Rattle.e57_chunk_out.proofs.Joins.{first-all, first-first}
use Rattle.e57_copy.specs.Copying.{IsOutside}
use Rattle.e57_copy.specs.Found.{AreFoundColumns}
use Rattle.e57_copy.specs.Sections.{all_records, ArePast, LacksRecord}
use Rattle.e57_copy.proofs.Columns.{AreLong}
use Rattle.e57_copy.proofs.Putting.{whole_size}
use Rattle.e57_copy.proofs.Reading.{items_first, no_fault, none_outside, same_columns, ItemsAre}

-- ---- how many records, and of how many fields

columns_count : (file : List ℕ) (s : Section) (fixed : Option Fixed) (f : ℕ) (leaves : List Leaf) → IsBodySound file s fixed → AreLong s.count (columns_of f leaves (chunks file s fixed)) × (length (columns_of f leaves (chunks file s fixed)) ≡ length leaves)
unfolding columns_of
columns_count file s fixed f [] sound = (tt, refl)
columns_count file s fixed f (leaf ∷ leaves) sound =
    let rest = columns_count file s fixed (f + 1) leaves sound in
    ((column-count file s fixed f leaf.kind sound, rest.0), ap suc rest.1)

section_count : (file : List ℕ) (c : Cloud) → (section_of file c).count ≡ c.count
unfolding section_at
section_count file c = refl

pub records_long : (file : List ℕ) (c : Cloud) → 0 < c.count → cloud_fault file c ≡ None → AreLong c.count (records_of file c) × (length (records_of file c) ≡ length c.leaves)
unfolding records_of
records_long file c some none =
    let sound = cloud-sound file c some none in
    let counted : (c.count == 0) ≡ false = ne_eqb c.count 0 (λ zero_count. omega (arith, some, zero_count)) in
    let all = columns_count file (section_of file c) (fixed_of c) 0 c.leaves sound.body in
    rw counted (subst (λ n. AreLong n (columns_of 0 c.leaves (chunks file (section_of file c) (fixed_of c)))) (section_count file c) all.0, all.1)

-- ---- its items

leaf_there : (fields : List Field) (f : ℕ) → f < length fields → slice_get (leaves_of fields) f ≡ Some (leaf_of (field_at fields f))
leaf_there fields f below =
    let long = length-map fields leaf_of in
    slice_get-get_or (leaves_of fields) f (leaf_of no_field) (omega (arith, below, long))
    ∙ ap Some (get_or-map leaf_of fields f no_field (leaf_of no_field) below)

by_path : (file : List ℕ) (c : Cloud) (f : ℕ) (leaf : Leaf) (i : ℕ) → section_fault file c.node c.offset ≡ None → path_item file c f leaf i ≡ item_of file (section_of file c) (fixed_of c) f leaf i
unfolding path_item
by_path file c f leaf i none = rw none refl

-- the leaf of field f
abbrev pub leaf_in : List Field → ℕ → Leaf
leaf_in fields f = leaf_of (field_at fields f)

-- the section is the cloud's in the file
pub record IsSectionOf (file : List ℕ) (c : Cloud) (s : Section) : Type 0 where
  pub header : section_fault file c.node c.offset ≡ None
  pub is : s ≡ section_of file c

length_first : (m : ℕ) (columns : List (List Value)) → length (first_records m columns) ≡ length columns
unfolding first_records
length_first m columns = length-map columns (λ (column : List Value). take m column)

first_long : (m n : ℕ) (columns : List (List Value)) → m ≤ n → AreLong n columns → AreLong m (first_records m columns)
unfolding first_records
first_long m n [] few long = tt
first_long m n (column ∷ columns) few long = (let size = long.0 in let part = length-take m column in omega (arith, size, part, few), first_long m n columns few long.1)

module _ (file : List ℕ) (c : Cloud) (s : Section) (fixed : Option Fixed) (fields : List Field) (same : c.leaves ≡ leaves_of fields) (is : fixed ≡ float_from 0 (leaves_of fields)) (some : 0 < c.count) (of : IsSectionOf file c s) (none : cloud_fault file c ≡ None) where
  abbrev all : List (List Value)
  all = records_of file c

  many : length all ≡ length fields
  many = (records_long file c some none).1 ∙ ap (λ (ls : List Leaf). length ls) same ∙ length-map fields leaf_of

  items_are : ItemsAre file s fixed (leaf_in fields) 0 (length fields) c.count all
  items_are g i d below within =
      let place : 0 + g ≡ g = omega arith in
      let there : slice_get c.leaves g ≡ Some (leaf_in fields g) = ap (λ (ls : List Leaf). slice_get ls g) same ∙ leaf_there fields g below in
      let here = sym (by_path file c g (leaf_in fields g) i of.header) ∙ path_item-record file c g (leaf_in fields g) i d none there within in
      let fixed_is : fixed ≡ fixed_of c = is ∙ ap (float_from 0) (sym same) in
      subst (λ (f : ℕ). item_of file s fixed f (leaf_in fields f) i ≡ Ok (get_or (get_or all g []) i d)) (sym place)
      (subst (λ (x : Option Fixed). item_of file s x g (leaf_in fields g) i ≡ Ok (get_or (get_or all g []) i d)) (sym fixed_is)
      (subst (λ (t : Section). item_of file t (fixed_of c) g (leaf_in fields g) i ≡ Ok (get_or (get_or all g []) i d)) (sym of.is) here))

  -- the first m records that are found
  pub found_first : (m : ℕ) (columns : List (List Value)) → m ≤ c.count → AreLong m columns → AreFoundColumns file s fixed (asked_of fields (range_with_len 0 (length fields))) 0 columns → columns ≡ first_records m all
  found_first m columns few long found =
      same_columns file s fixed (leaf_in fields) 0 (length fields) m columns (first_records m all) (length_first m all ∙ many) long (first_long m c.count all few (records_long file c some none).0) found
      (items_first file s fixed (leaf_in fields) 0 (length fields) c.count m all few items_are)

  -- all of them
  pub found_all : (columns : List (List Value)) → AreLong c.count columns → AreFoundColumns file s fixed (asked_of fields (range_with_len 0 (length fields))) 0 columns → columns ≡ all
  found_all columns long found =
      same_columns file s fixed (leaf_in fields) 0 (length fields) c.count columns all many long (records_long file c some none).0 found items_are

  -- none is lacking
  pub no_lack : (kinds : List ItemKind) → s.count ≡ c.count → AreColumns kinds c.count all → LacksRecord (all_records s fixed fields) kinds file → ⊥
  no_lack kinds count are lacks =
      let before = lacks.before in
      let within : lacks.i < c.count = omega (arith, before, count) in
      ⊎_elim
      (λ (wrong : (found : Fault) × (record_fault file s fixed (asked_of fields (range_with_len 0 (length fields))) lacks.i ≡ Some found)).
      let free = no_fault file s fixed (leaf_in fields) 0 (length fields) c.count all lacks.i many within items_are in
      let never : ◌≡◌ {A = Option Fault} None (Some wrong.0) = sym free ∙ wrong.1 in
      absurd cc)
      (λ (out : IsOutside (all_records s fixed fields) kinds file lacks.i).
      out.outside (none_outside file s fixed (leaf_in fields) (length fields) c.count kinds all lacks.i out.j out.field out.kind out.value are within items_are out.asked out.of_cloud out.item)) lacks.lacks

-- ---- too many bytes

packets_front : (q : ℕ) (kinds : List ItemKind) (n count : ℕ) (cs : List (List Value)) → length (packets_bytes (data_spelled kinds n count cs)) ≤ length (packets_bytes (packets_spelled q kinds n count cs))
unfolding packets_spelled
packets_front q kinds n count cs =
    let both = length-packets_bytes-append (data_spelled kinds n count cs) (index_spelled most_levels 0 (index_place q kinds n count cs) (entries_for q kinds n count cs)) in
    omega (arith, both)

groups_within : (m : ℕ) → (in_groups m % 8 ≡ 0) × (in_groups m ≤ m)
groups_within m = (omega arith, omega arith)

pub section_past : (size n : ℕ) (kinds : List ItemKind) (count m : ℕ) (columns cs : List (List Value)) → 0 < n → n % 8 ≡ 0 → size % 1020 ≡ 0 → AreColumns kinds count cs → m ≤ count → columns ≡ first_records m cs → ArePast size kinds n count m columns
    → most_bytes < size + length (section_spelled size kinds n count cs)
section_past size n kinds count m columns cs some groups whole are few is past = ⊎_elim
    (λ (early : most_bytes < data_end size kinds n (in_groups m) columns).
    let e = in_groups m in
    let parts = groups_within m in
    let low = parts.1 in
    let same : first_records e columns ≡ first_records e cs = ap (first_records e) is ∙ first-first e m cs low in
    let end : most_bytes < 1020 * pages_for size + 32 + length (packets_bytes (packets_so_far kinds n e (first_records e cs))) = subst (λ (xs : List (List Value)). most_bytes < 1020 * pages_for size + 32 + length (packets_bytes (packets_so_far kinds n e xs))) same early in
    let front = front-length (packets_so_far kinds n e (first_records e cs)) (data_spelled kinds n count cs) (so_far-front kinds n count cs some groups are e parts.0 (omega (arith, low, few))) in
    let long = length-section_spelled size kinds n count cs in
    let more = packets_front (size + 32) kinds n count cs in
    let pages = whole_size size whole in
    omega (arith, end, front, long, more, pages))
    (λ (late : (m ≡ count) × (most_bytes < size + length (section_spelled size kinds n count columns))).
    let first = late.0 in
    let all : columns ≡ cs = is ∙ first-all kinds count m cs are (omega (arith, first)) in
    subst (λ (xs : List (List Value)). most_bytes < size + length (section_spelled size kinds n count xs)) all late.1) past
