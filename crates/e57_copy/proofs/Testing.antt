-- The items of some records, and the limits of other fields.
use Rattle.std.proofs.Common.{◌≡◌, ℕ, ◌+◌, ◌-◌, ◌<◌, ◌≤◌, ℤ, pos, List, [], ◌∷◌, map, length, get_or, drop, refl, sym, subst, ap, ◌∙◌, arith}
use Rattle.std.proofs.lemmas.List.{drop_all, drop_more, get_or-map, length-map}
use Rattle.std.proofs.lemmas.List.FromFn.{get_or-map-range_with_len}
use Rattle.std.proofs.lemmas.Option.{slice_get_read}
use Rattle.e57_base.specs.Fault.{fault}
use Rattle.e57_base.specs.declared.fault.Fault.{Fault}
use Rattle.e57_base.specs.declared.kind.Kind.TheVariants.{ValueRange}
use Rattle.e57_layout.specs.Values.{item_kind, ItemKind, integers, strings, Value, whole}
use Rattle.e57_layout.specs.Items.{AreColumns, AreItems, IsItem}
use Rattle.e57_layout.specs.declared.field.Field.{Field}
use Rattle.e57_column.specs.Column.{kind_of}
use Rattle.e57_blocks.specs.Block.{Block, held_item}
use Rattle.e57_blocks.specs.Runs.{held_values, HasRecords}
use Rattle.e57_chunk_out.specs.CloudCalls.{kinds_in}
use Rattle.e57_copy.specs.Adding.{block_kinds, held_columns}
use Rattle.e57_copy.specs.Items.{AreAlike, IsAlike}
use Rattle.e57_copy.specs.Limits.{IsFieldOutside, IsRunOutside}
use Rattle.e57_copy.proofs.Alike.{alike_at, alike_many}
use Rattle.e57_copy.proofs.Handing.{length-held}

-- ---- one field

-- the integers that a block holds
module _ (b : Block) (i n : ℕ) (items : List ℤ) (are : map whole items ≡ held_values b i n) where
  pub held_many : length items ≡ n
  held_many = sym (length-map items whole) ∙ ap (λ (values : List Value). length values) are ∙ length-held b i n

  held_at : (k : ℕ) → b.first ≤ i → k < length items → held_item b (i + k - b.first) ≡ whole (get_or items k (pos 0))
  held_at k low below =
      let many = held_many in
      let place : i - b.first + k ≡ i + k - b.first = omega (arith, low) in
      sym (get_or-map-range_with_len (held_item b) (i - b.first) n k (i + k - b.first) (whole (pos 0)) (omega (arith, many, below)) place)
      ∙ sym (ap (λ (values : List Value). get_or values k (whole (pos 0))) are)
      ∙ get_or-map whole items k (pos 0) (whole (pos 0)) below

  pub field_outside : (field : Field) (k : ℕ) (low high least most : ℤ) (found : Fault) → HasRecords i n b → item_kind field.kind ≡ integers low high → least ≡ low → most ≡ high → k < length items
      → (IsItem (integers least most) (whole (get_or items k (pos 0))) → ⊥) → found ≡ fault ValueRange (i + k) field.node → IsFieldOutside field b i n found
  field_outside field k low high least most found has kind same same_too below outside is =
      let many = held_many in
      record {
        k = i + k;
        after = omega arith;
        before = omega (arith, many, below);
        outside = λ item.
            outside (subst (λ (z : ℤ). IsItem (integers z most) (whole (get_or items k (pos 0)))) (sym same)
            (subst (λ (z : ℤ). IsItem (integers low z) (whole (get_or items k (pos 0)))) (sym same_too)
            (subst (λ (x : ItemKind). IsItem x (whole (get_or items k (pos 0)))) kind (subst (λ (v : Value). IsItem (item_kind field.kind) v) (held_at k has.0 below) item))));
        is = is;
      }

-- ---- one field after another

module _ (fields : List Field) (blocks : List Block) (alike : AreAlike (block_kinds blocks) (kinds_in fields)) where
  pub fields_many : length fields ≡ length blocks
  fields_many =
      sym (length-map fields (λ (f : Field). item_kind f.kind))
      ∙ sym (alike_many (block_kinds blocks) (kinds_in fields) alike)
      ∙ length-map blocks (λ (b : Block). kind_of b.column.items)

  module _ (j : ℕ) (field : Field) (b : Block) (below : j < length blocks) (is : b ≡ get_or blocks j b) (is_too : field ≡ get_or fields j field) where
    pub field_below : j < length fields
    field_below = let many = fields_many in omega (arith, many, below)

    kind_at : get_or (kinds_in fields) j strings ≡ item_kind field.kind
    kind_at = get_or-map (λ (f : Field). item_kind f.kind) fields j field strings field_below ∙ ap (λ (f : Field). item_kind f.kind) (sym is_too)

    block_kind_at : get_or (block_kinds blocks) j strings ≡ kind_of b.column.items
    block_kind_at = get_or-map (λ (x : Block). kind_of x.column.items) blocks j b strings below ∙ ap (λ (x : Block). kind_of x.column.items) (sym is)

    kinds_below : j < length (block_kinds blocks)
    kinds_below = rw (length-map blocks (λ (x : Block). kind_of x.column.items)) below

    pub field_alike : IsAlike (kind_of b.column.items) (item_kind field.kind)
    field_alike =
        subst (λ (kind : ItemKind). IsAlike kind (item_kind field.kind)) block_kind_at
        (subst (λ (kind : ItemKind). IsAlike (get_or (block_kinds blocks) j strings) kind) kind_at (alike_at (block_kinds blocks) (kinds_in fields) j kinds_below alike))

    pub run_outside : (i n : ℕ) (found : Fault) → IsFieldOutside field b i n found → IsRunOutside fields blocks i n found
    run_outside i n found outside = record {
      j = j;
      field = field;
      of_cloud = slice_get_read fields (length fields) j field refl field_below is_too;
      block = b;
      of_block = slice_get_read blocks (length blocks) j b refl below is;
      outside = outside;
    }

    -- the items of this field are within its limits, and those of the later ones
    pub fits_on : (i n : ℕ) → AreItems (item_kind field.kind) (held_values b i n) → AreColumns (drop (j + 1) (kinds_in fields)) n (drop (j + 1) (held_columns blocks i n))
        → AreColumns (drop j (kinds_in fields)) n (drop j (held_columns blocks i n))
    fits_on i n are rest =
        let column : get_or (held_columns blocks i n) j [] ≡ held_values b i n =
        get_or-map (λ (x : Block). held_values x i n) blocks j b [] below ∙ ap (λ (x : Block). held_values x i n) (sym is) in
        let kinds_under : j < length (kinds_in fields) = rw (length-map fields (λ (f : Field). item_kind f.kind)) field_below in
        let columns_under : j < length (held_columns blocks i n) = rw (length-map blocks (λ (x : Block). held_values x i n)) below in
        let kinds : drop j (kinds_in fields) ≡ item_kind field.kind ∷ drop (j + 1) (kinds_in fields) =
        drop_more (kinds_in fields) j strings kinds_under ∙ ap (λ (kind : ItemKind). kind ∷ drop (j + 1) (kinds_in fields)) kind_at in
        let columns : drop j (held_columns blocks i n) ≡ held_values b i n ∷ drop (j + 1) (held_columns blocks i n) =
        drop_more (held_columns blocks i n) j [] columns_under ∙ ap (λ (values : List Value). values ∷ drop (j + 1) (held_columns blocks i n)) column in
        subst (λ (ks : List ItemKind). AreColumns ks n (drop j (held_columns blocks i n))) (sym kinds)
        (subst (λ (cs : List (List Value)). AreColumns (item_kind field.kind ∷ drop (j + 1) (kinds_in fields)) n cs) (sym columns) (length-held b i n, are, rest))

  -- there is no later one
  pub fits_end : (i n j : ℕ) → length blocks ≤ j → AreColumns (drop j (kinds_in fields)) n (drop j (held_columns blocks i n))
  fits_end i n j past =
      let many = fields_many in
      let kinds : drop j (kinds_in fields) ≡ [] = drop_all j (kinds_in fields) (rw (length-map fields (λ (f : Field). item_kind f.kind)) (omega (arith, many, past))) in
      let columns : drop j (held_columns blocks i n) ≡ [] = drop_all j (held_columns blocks i n) (rw (length-map blocks (λ (x : Block). held_values x i n)) past) in
      subst (λ (ks : List ItemKind). AreColumns ks n (drop j (held_columns blocks i n))) (sym kinds) (subst (λ (cs : List (List Value)). AreColumns [] n cs) (sym columns) tt)
