-- Blocks opened one after another.
use Rattle.std.specs.Prelude.{◌≡◌, ℕ, ◌+◌, ◌<◌, ◌≤◌, List, [], ◌∷◌, ◌++◌, length, take, get_or, Option}
use Rattle.std.specs.List.{AllByRecursion}
use Rattle.std.proofs.Common.{refl, sym, subst, ap, ◌∙◌, inl}
use Rattle.std.proofs.lemmas.List.{get_or_default, map-append, take_all}
use Rattle.e57_layout.specs.declared.field.Field.{Field}
use Rattle.e57_layout.specs.declared.field.Fixed.{Fixed}
use Rattle.e57_layout.specs.declared.section.Section.{Section}
use Rattle.e57_cloud.specs.Cloud.{Leaf}
use Rattle.e57_blocks.specs.Block.{Block, Holds}
use Rattle.e57_blocks.specs.Filling.{OpensBlock}
use Rattle.e57_blocks.specs.Fields.{asked_of, field_at, leaf_of, no_field, field_of, IsOf, IsReady, OpensBlocks}
use Rattle.e57_blocks.proofs.Parts.{all_at, map_more}
use Rattle.e57_base.proofs.Lists.{all_append}

pub opens_none : (s : Section) (fixed : Option Fixed) (fields : List Field) (asked : List ℕ) → OpensBlocks s fixed (asked_of fields (take 0 asked)) []
opens_none s fixed fields asked = record { are = record { fields = refl; all = tt }; ready = λ i. tt; holds = λ file. tt }

-- the field of a new block
field_opened : (s : Section) (fixed : Option Fixed) (f places : ℕ) (field : Field) (b : Block) → OpensBlock s f field fixed places b → field_of b ≡ (f, leaf_of field)
field_opened s fixed f places field b opens = rw (opens.column.stream, opens.column.kind) refl

is_opened : (s : Section) (fixed : Option Fixed) (f places : ℕ) (field : Field) (b : Block) → OpensBlock s f field fixed places b → IsOf s fixed b
is_opened s fixed f places field b opens = record { in_section = rw opens.column.stream refl; with_fixed = rw opens.column.stream refl }

-- one block more
pub opens_more : (s : Section) (fixed : Option Fixed) (fields : List Field) (asked : List ℕ) (k places : ℕ) (field : Field) (blocks : List Block) (b : Block) → k < length asked → AllByRecursion (λ f. f < length fields) asked → field ≡ get_or fields (get_or asked k 0) field
    → OpensBlocks s fixed (asked_of fields (take k asked)) blocks → OpensBlock s (get_or asked k 0) field fixed places b → OpensBlocks s fixed (asked_of fields (take (k + 1) asked)) (blocks ++ b ∷ [])
opens_more s fixed fields asked k places field blocks b below are is first opens =
    let f = get_or asked k 0 in
    let there = all_at (λ f. f < length fields) asked k 0 below are in
    let same : field ≡ field_at fields f = is ∙ get_or_default fields f field no_field there in
    let here : field_of b ≡ (f, leaf_of (field_at fields f)) = field_opened s fixed f places field b opens ∙ ap (λ (x : Field). (f, leaf_of x)) same in
    record {
      are = record {
        fields = map-append field_of blocks (b ∷ [])
            ∙ ap (λ (xs : List (ℕ × Leaf)). xs ++ field_of b ∷ []) first.are.fields
            ∙ ap (λ (x : ℕ × Leaf). asked_of fields (take k asked) ++ x ∷ []) here
            ∙ sym (map_more (λ (f : ℕ). (f, leaf_of (field_at fields f))) asked k 0 below);
        all = all_append (IsOf s fixed) blocks (b ∷ []) first.are.all (is_opened s fixed f places field b opens, tt);
      };
      ready = λ i. all_append (IsReady i) blocks (b ∷ []) (first.ready i) (inl (opens.is_new, opens.none), tt);
      holds = λ file. all_append (Holds file) blocks (b ∷ []) (first.holds file) (opens.holds file, tt);
    }

pub opens_all : (s : Section) (fixed : Option Fixed) (fields : List Field) (asked : List ℕ) (k : ℕ) (blocks : List Block) → length asked ≤ k → OpensBlocks s fixed (asked_of fields (take k asked)) blocks → OpensBlocks s fixed (asked_of fields asked) blocks
opens_all s fixed fields asked k blocks past opens = subst (λ (xs : List ℕ). OpensBlocks s fixed (asked_of fields xs) blocks) (take_all k asked past) opens
