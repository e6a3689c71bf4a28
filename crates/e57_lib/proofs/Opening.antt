-- What a tree gives is as `open_section` and `Column::open` want it.
use Rattle.std.specs.Prelude.{IfSome}
use Rattle.std.specs.List.{AllByRecursion}
use Rattle.std.proofs.Common.{◌≡◌, ℕ, zero, suc, ◌+◌, ◌<◌, ◌≤◌, List, [], ◌∷◌, length, slice_index_or, Option, None, refl, sym, subst, arith, inl, inr}
use Rattle.e57_layout.specs.Values.{item_kind}
use Rattle.e57_layout.specs.declared.field.Field.{Field}
use Rattle.e57_layout.specs.declared.field.FieldKind.{FieldKind}
use Rattle.e57_layout.specs.declared.field.FieldKind.TheVariants.{Int, Scaled, Bits32, Bits64, Text}
use Rattle.e57_layout.specs.declared.field.Fixed.{Fixed}
use Rattle.e57_cloud.specs.Cloud.{float_from}
use Rattle.e57_section.specs.Opening.{most_records}
use Rattle.e57_ahead.specs.Counting.{IsWidth}
use Rattle.e57_elements.specs.Tree.{Element}
use Rattle.e57_nodes.specs.Shape.{shape_of, node_count}
use Rattle.e57_nodes.specs.Typed.{typed_fault}
use Rattle.e57_nodes.specs.Items.{StatedItem, stated_cloud, stated_blob, stated_items, leaves_of}
use Rattle.e57_nodes.specs.Places.{places_in}
use Rattle.e57_nodes.proofs.Laws.Sound.{IsSoundItem, sound_items}
use Rattle.e57_tree.specs.Held.{clouds_among, cloud_in, no_cloud}

few-among : (nodes : ℕ) (items : List StatedItem) (places : List ℕ) (k : ℕ) → AllByRecursion (IsSoundItem nodes) items → (slice_index_or (clouds_among items places) k no_cloud).count ≤ most_records
few-among nodes [] places k sound = omega arith
few-among nodes (x ∷ items) [] k sound = omega arith
few-among nodes (stated_cloud n count fields ∷ items) (place ∷ places) zero sound = sound.0.few_records
few-among nodes (stated_cloud n count fields ∷ items) (place ∷ places) (suc k) sound = few-among nodes items places k sound.1
few-among nodes (stated_blob n size ∷ items) (place ∷ places) k sound = few-among nodes items places k sound.1

-- a cloud of a tree has no more records than `open_section` takes
pub few_records : (e : Element) (k : ℕ) → typed_fault (shape_of e) ≡ None → (cloud_in e k).count ≤ most_records
few_records e k typed = few-among (node_count (shape_of e)) (stated_items (shape_of e)) (places_in e) k (sound_items e typed)

fits-from : (f count : ℕ) (fields : List Field) → f + length fields ≤ count → IfSome (float_from f (leaves_of fields)) (λ x. (x.field < count) × IsWidth x)
unfolding float_from
fits-from f count [] few = tt
fits-from f count (field ∷ fields) few = by_kind field.kind (fits-from (f + 1) count fields (omega (arith, few)))
  where
    by_kind : (kind : FieldKind) → IfSome (float_from (f + 1) (leaves_of fields)) (λ x. (x.field < count) × IsWidth x) → IfSome (float_from f ((record { node = field.node; kind = item_kind kind }) ∷ leaves_of fields)) (λ x. (x.field < count) × IsWidth x)
    by_kind (Int low high) later = later
    by_kind (Scaled low high scale offset) later = later
    by_kind Bits32 later = (omega (arith, few), inl refl)
    by_kind Bits64 later = (omega (arith, few), inr refl)
    by_kind Text later = later

-- the first Float field is one of so many fields, and has items of 4 or 8 bytes
pub fixed_fits : (fields : List Field) (count : ℕ) (fixed : Option Fixed) → length fields ≡ count → fixed ≡ float_from 0 (leaves_of fields) → IfSome fixed (λ x. (x.field < count) × IsWidth x)
fixed_fits fields count fixed many is = subst (λ (o : Option Fixed). IfSome o (λ x. (x.field < count) × IsWidth x)) (sym is) (fits-from 0 count fields (omega (arith, many)))
