-- Blocks of all fields of a section, and a new cloud of other fields.
use Rattle.std.proofs.Common.{◌≡◌, ℕ, zero, suc, ◌+◌, ◌<◌, ◌≤◌, List, [], ◌∷◌, length, map, Option, refl, sym, subst, ap, ◌∙◌, arith, inl, inr}
use Rattle.std.specs.Prelude.{IfSome}
use Rattle.std.specs.List.{AllByRecursion, range_with_len}
use Rattle.std.proofs.lemmas.List.{length-map}
use Rattle.e57_base.specs.Source.{SourceView}
use Rattle.e57_base.specs.Target.{TargetView}
use Rattle.e57_base.specs.declared.fault.RunFault.TheVariants.{Memory}
use Rattle.e57_base.proofs.Told.{told_all}
use Rattle.e57_layout.specs.Values.{ItemKind, item_kind}
use Rattle.e57_layout.specs.declared.field.Field.{Field}
use Rattle.e57_layout.specs.declared.field.FieldKind.{FieldKind}
use Rattle.e57_layout.specs.declared.field.FieldKind.TheVariants.{Int, Scaled, Bits32, Bits64, Text}
use Rattle.e57_layout.specs.declared.field.Fixed.{Fixed}
use Rattle.e57_layout.specs.declared.section.Section.{Section}
use Rattle.e57_page_out.specs.Writing.{Writing, IsBeingWritten}
use Rattle.e57_page_out.proofs.Sequences.{leaves_still}
use Rattle.e57_cloud.specs.Cloud.{Leaf, float_from}
use Rattle.e57_ahead.specs.Counting.{IsWidth}
use Rattle.e57_nodes.specs.Items.{leaves_of}
use Rattle.e57_stream.proofs.AskingLaws.{asks_met_none}
use Rattle.e57_blocks.specs.Block.{Holds}
use Rattle.e57_blocks.specs.Fields.{AreOf, asked_of, Blocks, field_at, field_of, leaf_of, no_field, OnSlice, OpensBlocks, Slice, slice_at}
use Rattle.e57_chunk_out.specs.CloudCalls.{kinds_in, new_cloud}
use Rattle.e57_chunk_out.specs.Standing.{Cloud}
use Rattle.e57_copy.specs.Adding.{block_kinds}
use Rattle.e57_copy.specs.Copying.{StandBefore}
use Rattle.e57_copy.specs.Found.{asked_kinds}
use Rattle.e57_copy.specs.Items.{AreAlike}
use Rattle.e57_copy.specs.Sections.{all_records, LosesSection}
use Rattle.e57_copy.proofs.Found.{kinds_asked}

-- ---- numbers of fields

all_below : (from n high : ℕ) → from + n ≤ high → AllByRecursion (λ f. f < high) (range_with_len from n)
all_below from zero high within = tt
all_below from (suc n) high within = (omega (arith, within), all_below (from + 1) n high (omega (arith, within)))

pub numbers_below : (fields : List Field) (numbers : List ℕ) → numbers ≡ range_with_len 0 (length fields) → AllByRecursion (λ f. f < length fields) numbers
numbers_below fields numbers is = subst (λ (xs : List ℕ). AllByRecursion (λ f. f < length fields) xs) (sym is) (all_below 0 (length fields) (length fields) (omega arith))

length_range : (from n : ℕ) → length (range_with_len from n) ≡ n
length_range from zero = refl
length_range from (suc n) = ap suc (length_range (from + 1) n)

-- ---- the first Float field

float_in : (f count : ℕ) (fields : List Field) → f + length fields ≤ count → IfSome (float_from f (leaves_of fields)) (λ x. (x.field < count) × IsWidth x)
unfolding float_from
float_in f count [] few = tt
float_in f count (field ∷ fields) few = by_kind field.kind (float_in (f + 1) count fields (omega (arith, few)))
  where
    by_kind : (kind : FieldKind) → IfSome (float_from (f + 1) (leaves_of fields)) (λ x. (x.field < count) × IsWidth x) → IfSome (float_from f ((record { node = field.node; kind = item_kind kind }) ∷ leaves_of fields)) (λ x. (x.field < count) × IsWidth x)
    by_kind (Int low high) later = later
    by_kind (Scaled low high scale offset) later = later
    by_kind Bits32 later = (omega (arith, few), inl refl)
    by_kind Bits64 later = (omega (arith, few), inr refl)
    by_kind Text later = later

pub fixed_in : (fields : List Field) (count : ℕ) (fixed : Option Fixed) → length fields ≡ count → fixed ≡ float_from 0 (leaves_of fields) → IfSome fixed (λ x. (x.field < count) × IsWidth x)
fixed_in fields count fixed many is = subst (λ (o : Option Fixed). IfSome o (λ x. (x.field < count) × IsWidth x)) (sym is) (float_in 0 count fields (omega (arith, many)))

-- ---- the kinds of all fields

-- field f of some fields, the first of which has this number
later_fields : (at_number : ℕ → Field) (from : ℕ) (fields : List Field) → ((k : ℕ) → k < length fields → at_number (from + k) ≡ field_at fields k) → asked_kinds (map (λ (f : ℕ). (f, leaf_of (at_number f))) (range_with_len from (length fields))) ≡ kinds_in fields
later_fields at_number from [] each = refl
later_fields at_number from (field ∷ fields) each =
    let here : at_number from ≡ field = let none : from + 0 ≡ from = omega arith in rw none at (each 0 (omega arith)) in
    let rest = later_fields at_number (from + 1) fields (λ k below. let place : from + suc k ≡ from + 1 + k = omega arith in rw place at (each (suc k) (omega (arith, below)))) in
    ap (λ (x : Field). item_kind x.kind ∷ asked_kinds (map (λ (f : ℕ). (f, leaf_of (at_number f))) (range_with_len (from + 1) (length fields)))) here
    ∙ ap (λ (ks : List ItemKind). item_kind field.kind ∷ ks) rest

pub all_kinds : (fields : List Field) → asked_kinds (asked_of fields (range_with_len 0 (length fields))) ≡ kinds_in fields
all_kinds fields = later_fields (field_at fields) 0 fields (λ k below. let none : 0 + k ≡ k = omega arith in ap (field_at fields) none)

-- ---- new blocks, over plain variables

module _ (section : Section) (fixed : Option Fixed) (fields : List Field) (numbers : List ℕ) (blocks : Blocks) (all : numbers ≡ range_with_len 0 (length fields)) (of : AreOf section fixed blocks) (opens : OpensBlocks section fixed (asked_of fields numbers) blocks.blocks) where
  fields_are : map field_of blocks.blocks ≡ asked_of fields (range_with_len 0 (length fields))
  fields_are = opens.are.fields ∙ ap (asked_of fields) all

  pub blocks_many : length blocks.blocks ≡ length fields
  blocks_many =
      sym (length-map blocks.blocks field_of)
      ∙ ap (λ (xs : List (ℕ × Leaf)). length xs) fields_are
      ∙ length-map (range_with_len 0 (length fields)) (λ (f : ℕ). (f, leaf_of (field_at fields f)))
      ∙ length_range 0 (length fields)

  pub blocks_kinds : block_kinds blocks.blocks ≡ kinds_in fields
  blocks_kinds = kinds_asked blocks.blocks ∙ ap asked_kinds fields_are ∙ all_kinds fields

  pub blocks_alike : (others : List ItemKind) → AreAlike (kinds_in fields) others → AreAlike (block_kinds blocks.blocks) others
  blocks_alike others alike = subst (λ (ks : List ItemKind). AreAlike ks others) (sym blocks_kinds) alike

  pub blocks_stand : (source : SourceView) → StandBefore blocks 0 source
  blocks_stand source = record {
    all = subst (λ (s : Section). AllByRecursion (Rattle.e57_blocks.specs.Fields.IsOf s blocks.fixed) blocks.blocks) (sym of.in_section)
        (subst (λ (x : Option Fixed). AllByRecursion (Rattle.e57_blocks.specs.Fields.IsOf section x) blocks.blocks) (sym of.with_fixed) opens.are.all);
    ready = opens.ready 0;
    holds = told_all (λ file. AllByRecursion (Holds file) blocks.blocks) source.held (λ file. opens.holds file);
  }

  pub slice_is : (count : ℕ) → count ≡ section.count → slice_at blocks 0 count ≡ all_records section fixed fields
  slice_is count is =
      ap (λ (s : Section). slice_with s blocks.fixed (map field_of blocks.blocks) count) of.in_section
      ∙ ap (λ (x : Option Fixed). slice_with section x (map field_of blocks.blocks) count) of.with_fixed
      ∙ ap (λ (xs : List (ℕ × Leaf)). slice_with section fixed xs count) fields_are
      ∙ ap (λ m. slice_with section fixed (asked_of fields (range_with_len 0 (length fields))) m) is
    where
      slice_with : Section → Option Fixed → List (ℕ × Leaf) → ℕ → Slice
      slice_with s x xs m = record { section = s; fixed = x; asked = xs; from = 0; count = m }

-- ---- a new cloud

pub new_again : (c : Cloud) (kinds : List ItemKind) (n most : ℕ) → c ≡ new_cloud kinds n most → c ≡ new_cloud kinds c.chunk c.at_most
new_again c kinds n most is = subst (λ (x : Cloud). x ≡ new_cloud kinds x.chunk x.at_most) (sym is) refl

-- memory ran out before anything was read
pub nothing_put : {T : Type 0} (view : T → TargetView) (a : Slice) (n : ℕ) (kinds : List ItemKind) (source : SourceView) (out : Writing T) → IsBeingWritten view out → LosesSection view a n kinds source source out Memory out
nothing_put view a n kinds source out state = record { met = asks_met_none (OnSlice a) source; left = leaves_still view out state; cause = tt }
