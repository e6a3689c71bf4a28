-- What is saved of a cloud is a column of items for each of its fields, as long as there are records that are kept.
use Rattle.std.specs.Prelude.{◌≡◌, ℕ, suc, ◌+◌, ◌==◌, true, false, List, [], ◌∷◌, length, slice_get, Option, Some, None, Result, Ok, Err, ◌-◌}
use Rattle.std.specs.List.{AllByRecursion}
use Rattle.std.specs.Int.Signed.{≤ℤ_refl}
use Rattle.std.proofs.Common.{refl, subst, arith, ⊎_elim, add-zero}
use Rattle.std.proofs.lemmas.Bool.{cases_Bool}
use Rattle.std.proofs.lemmas.List.{length-map}
use Rattle.e57_base.specs.declared.fault.Fault.{Fault}
use Rattle.e57_layout.specs.Values.{ItemKind, integers, words, strings, Value, whole, Outcome, here, short, over_limit, out_of_range, IsKind}
use Rattle.e57_layout.specs.Widths.{width}
use Rattle.e57_layout.specs.Items.{item_at, IsItem, AreItems, AreColumns}
use Rattle.e57_layout.specs.declared.field.Fixed.{Fixed}
use Rattle.e57_layout.specs.declared.section.Section.{Section}
use Rattle.e57_layout.proofs.Laws.Found.{IfHere, item_at-item}
use Rattle.e57_cloud.specs.Section.{section_fault}
use Rattle.e57_cloud.specs.Chunks.{stream_of}
use Rattle.e57_cloud.specs.Cloud.{Leaf, Cloud, fixed_of, section_of, kinds_of}
use Rattle.e57_cloud.specs.PathItem.{ChunkAt, unless, and_then, path, chunk_at, stretch, ended_by, or_short, answer, item_in, constant_of, item_by, item_of, path_item, refusal}
use Rattle.e57_spans.specs.Judged.{IsSoundRecord}
use Rattle.e57_spans.specs.Lost.{kept_records, kept_count}
use Rattle.e57_spans.specs.Saved.{found_value, items_of, columns_from, saved_columns}
use Rattle.e57_spans.proofs.Laws.Items.{kept-sound}

-- ---- what is found is an item

-- the value of a result without a fault
abbrev IfFound : (Value → Type 0) → Result Value Fault → Type 0
IfFound P (Ok v) = P v
IfFound P (Err found) = Unit {0}

constant-item : (kind : ItemKind) (v : Value) → IsKind kind → constant_of kind ≡ Some v → IsItem kind v
constant-item (integers low high) v is constant =
    ⊎_elim
    (λ (fixed : (width low high == 0) ≡ true). subst (IsItem (integers low high)) (same (whole low) v (rw fixed at constant)) (≤ℤ_refl low, is.0))
    (λ (free : (width low high == 0) ≡ false). absurd (never v (rw free at constant)))
    (cases_Bool (width low high == 0))
  where
    same : (a b : Value) → ◌≡◌ {A = Option Value} (Some a) (Some b) → a ≡ b
    same a b e = cc

    never : (a : Value) → ◌≡◌ {A = Option Value} None (Some a) → ⊥
    never a e = cc
constant-item (words w) v is constant = cc
constant-item strings v is constant = cc

short-found : (P : Value → Type 0) (ended : Option Fault) (own : Fault) → IfFound P (or_short ended own)
short-found P None own = tt
short-found P (Some found) own = tt

answer-found : (P : Value → Type 0) (node first : ℕ) (ended : Option Fault) (outcome : Outcome) → IfHere P outcome → IfFound P (answer node first ended outcome)
answer-found P node first ended (here v) is = is
answer-found P node first ended (over_limit k) is = tt
answer-found P node first ended (out_of_range k) is = tt
answer-found P node first ended (short k) is = short-found P ended _

path-found : (P : Value → Type 0) (v : Value) (way : Result ChunkAt Fault) → P v → IfFound P (and_then way (λ chunk. Ok v))
path-found P v (Ok chunk) is = is
path-found P v (Err found) is = tt

chunk-found : (P : Value → Type 0) (way : Result ChunkAt Fault) (look : ChunkAt → Result Value Fault) → ((chunk : ChunkAt) → IfFound P (look chunk)) → IfFound P (and_then way look)
chunk-found P (Ok chunk) look each = each chunk
chunk-found P (Err found) look each = tt

item-found : (file : List ℕ) (s : Section) (fixed : Option Fixed) (f : ℕ) (leaf : Leaf) (i : ℕ) → IsKind leaf.kind → IfFound (IsItem leaf.kind) (item_of file s fixed f leaf i)
unfolding item_of item_in
item-found file s fixed f leaf i is = by_constant (constant_of leaf.kind) refl
  where
    by_constant : (o : Option Value) → constant_of leaf.kind ≡ o → IfFound (IsItem leaf.kind) (item_by file s fixed f leaf i o)
    by_constant (Some v) constant = path-found (IsItem leaf.kind) v (path file s i) (constant-item leaf.kind v is constant)
    by_constant None free =
        chunk-found (IsItem leaf.kind) (chunk_at file s fixed i) (item_in file s fixed f leaf.node (item_at leaf.kind) i)
        (λ chunk. answer-found (IsItem leaf.kind) leaf.node chunk.first (ended_by s fixed (stretch file s chunk.place)) (item_at leaf.kind (stream_of f (stretch file s chunk.place).packets) (i - chunk.first))
        (item_at-item leaf.kind (stream_of f (stretch file s chunk.place).packets) (i - chunk.first) is))

unless-found : (P : Value → Type 0) (found : Option Fault) (result : Result Value Fault) → IfFound P result → IfFound P (unless found result)
unless-found P None result is = is
unless-found P (Some x) result is = tt

value-of : (P : Value → Type 0) (result : Result Value Fault) → IfFound P result → refusal result ≡ None → P (found_value result)
value-of P (Ok v) is none = is
value-of P (Err found) is none = cc

-- An item that is found is one of its field.
pub path_item-item : (file : List ℕ) (c : Cloud) (f : ℕ) (leaf : Leaf) (i : ℕ) → IsKind leaf.kind → refusal (path_item file c f leaf i) ≡ None → IsItem leaf.kind (found_value (path_item file c f leaf i))
unfolding path_item
path_item-item file c f leaf i is none =
    value-of (IsItem leaf.kind) (unless (section_fault file c.node c.offset) (item_of file (section_of file c) (fixed_of c) f leaf i))
    (unless-found (IsItem leaf.kind) (section_fault file c.node c.offset) (item_of file (section_of file c) (fixed_of c) f leaf i) (item-found file (section_of file c) (fixed_of c) f leaf i is)) none

-- ---- columns

items-are : (file : List ℕ) (c : Cloud) (f : ℕ) (leaf : Leaf) (records : List ℕ) → slice_get c.leaves f ≡ Some leaf → IsKind leaf.kind → AllByRecursion (IsSoundRecord file c) records → AreItems leaf.kind (items_of file c f leaf records)
items-are file c f leaf [] there is sound = tt
items-are file c f leaf (i ∷ records) there is sound = (path_item-item file c f leaf i is (sound.0 f leaf there), items-are file c f leaf records there is sound.1)

columns-are : (file : List ℕ) (c : Cloud) (g : ℕ) (leaves : List Leaf) (records : List ℕ) → ((f : ℕ) (leaf : Leaf) → slice_get leaves f ≡ Some leaf → slice_get c.leaves (g + f) ≡ Some leaf) → AllByRecursion IsKind (kinds_of leaves)
    → AllByRecursion (IsSoundRecord file c) records → AreColumns (kinds_of leaves) (length records) (columns_from file c g leaves records)
unfolding columns_from
columns-are file c g [] records there are sound = tt
columns-are file c g (leaf ∷ leaves) records there are sound =
    let here_it_is : slice_get c.leaves g ≡ Some leaf = rw add-zero at (there 0 leaf refl) in (
      length-map records _,
      items-are file c g leaf records here_it_is are.0 sound,
      columns-are file c (g + 1) leaves records (λ f x is. let place : g + 1 + f ≡ g + suc f = omega arith in rw place (there (suc f) x is)) are.1 sound,
    )

-- What is saved of a cloud whose limits are in order are items of its fields.
pub saved-items : (file : List ℕ) (c : Cloud) → AllByRecursion IsKind (kinds_of c.leaves) → AreColumns (kinds_of c.leaves) (kept_count file c) (saved_columns file c)
unfolding saved_columns
saved-items file c are = columns-are file c 0 c.leaves (kept_records file c) (λ f leaf is. let place : 0 + f ≡ f = omega arith in rw place is) are (kept-sound file c)
