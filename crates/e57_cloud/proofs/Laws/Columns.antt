-- Laws of columns: the items of spelled chunks are found, and are those that were given.
use Rattle.std.specs.Prelude.{◌≡◌, ℕ, zero, suc, ◌+◌, ◌-◌, ◌<◌, ◌≤◌, Bool, true, false, List, [], ◌∷◌, ◌++◌, length, get_or, drop, None}
use Rattle.std.specs.List.{AllByRecursion}
use Rattle.std.proofs.Common.{refl, ap, subst, arith, add-zero, zero-add, add-one}
use Rattle.e57_layout.specs.Values.{ItemKind, Value, Outcome, here}
use Rattle.e57_layout.specs.Items.{item_at}
use Rattle.e57_layout.specs.Packing.{Block, stream_over, chunk_packets}
use Rattle.e57_layout.specs.Written.{records_packet, packet_bytes, packets_bytes, flagged, chunk_spelled}
use Rattle.e57_layout.proofs.Laws.Blocks.{column_over, columns-at}
use Rattle.e57_layout.proofs.Laws.Chunks.{IsChunk, chunk-item}
use Rattle.e57_cloud.specs.Chunks.{stream_of, Chunk}
use Rattle.e57_cloud.specs.Cloud.{Leaf, items_fault, items_from, field_fault, column_of, fields_fault, columns_of, kinds_of}
use Rattle.e57_cloud.proofs.Laws.Walks.{placed_from}
use Rattle.e57_cloud.proofs.Laws.Chunks.{spelled_chunks}

-- the streams of placed packets are those that were spelled
pub stream-placed : (f q : ℕ) (restart : Bool) (parts : List (List (List ℕ))) → stream_of f (placed_from q (flagged restart parts)) ≡ stream_over f parts
unfolding stream_of placed_from flagged
stream-placed f q restart [] = refl
stream-placed f q restart (streams ∷ parts) = ap (λ (later : List ℕ). get_or streams f [] ++ later) (stream-placed f (q + length (packet_bytes (records_packet restart streams))) false parts)

stream-chunk : (kinds : List ItemKind) (f q : ℕ) (chunk : Block) → stream_of f (placed_from q (chunk_spelled kinds chunk)) ≡ stream_over f (chunk_packets kinds chunk)
unfolding chunk_spelled
stream-chunk kinds f q chunk = stream-placed f q true (chunk_packets kinds chunk)

-- items that are found one after another
pub record AreFound (look : ℕ → Outcome) (node first k : ℕ) (column : List Value) : Type 0 where
  pub sound : items_fault look node first k (length column) ≡ None
  pub are : items_from look k (length column) ≡ column

pub items-found : (look : ℕ → Outcome) (node first k : ℕ) (column : List Value) (d : Value) → ((j : ℕ) → j < length column → look (k + j) ≡ here (get_or column j d)) → AreFound look node first k column
unfolding items_fault items_from
items-found look node first k [] d found = record { sound = refl; are = refl }
items-found look node first k (x ∷ column) d found =
    let this : look k ≡ here x = rw add-zero at (found 0 (omega arith)) in
    let later = items-found look node first (k + 1) column d (λ j under. let place : k + 1 + j ≡ k + suc j = omega arith in rw place (found (suc j) (omega arith))) in
    record { sound = rw (this, later.sound); are = rw (this, later.are) }

-- a field over spelled chunks
pub record IsColumn (f : ℕ) (leaf : Leaf) (chunks : List Chunk) (column : List Value) : Type 0 where
  pub sound : field_fault f leaf chunks ≡ None
  pub are : column_of f leaf.kind chunks ≡ column

chunk-found : (kinds : List ItemKind) (f first q : ℕ) (leaf : Leaf) (chunk : Block) (d : Value) → get_or kinds f leaf.kind ≡ leaf.kind → f < length kinds → IsChunk kinds chunk
    → AreFound (item_at leaf.kind (stream_of f (placed_from q (chunk_spelled kinds chunk)))) leaf.node first 0 (get_or chunk.columns f [])
chunk-found kinds f first q leaf chunk d kind below is =
    let at = columns-at kinds chunk.count chunk.columns f leaf.kind is.columns below in
    items-found (item_at leaf.kind (stream_of f (placed_from q (chunk_spelled kinds chunk)))) leaf.node first 0 (get_or chunk.columns f []) d
    (λ j under. rw (zero-add, stream-chunk kinds f q chunk) (subst (λ (k : ItemKind). item_at k (stream_over f (chunk_packets kinds chunk)) j ≡ here (get_or (get_or chunk.columns f []) j d)) kind (chunk-item kinds chunk f j leaf.kind d is below (omega (arith, at.0)))))

pub field-found : (kinds : List ItemKind) (f q first : ℕ) (leaf : Leaf) (chunks : List Block) (d : Value) → get_or kinds f leaf.kind ≡ leaf.kind → f < length kinds → AllByRecursion (IsChunk kinds) chunks
    → IsColumn f leaf (spelled_chunks kinds q first chunks) (column_over f chunks)
unfolding field_fault column_of spelled_chunks
field-found kinds f q first leaf [] d kind below are = record { sound = refl; are = refl }
field-found kinds f q first leaf (chunk ∷ chunks) d kind below are =
    let found = chunk-found kinds f first q leaf chunk d kind below are.0 in
    let at = columns-at kinds chunk.count chunk.columns f leaf.kind are.0.columns below in
    let count : first + chunk.count - first ≡ length (get_or chunk.columns f []) = omega (arith, at.0) in
    let later = field-found kinds f (q + length (packets_bytes (chunk_spelled kinds chunk))) (first + chunk.count) leaf chunks d kind below are.1 in
    record { sound = rw (count, found.sound, later.sound); are = rw (count, found.are, later.are) }

drop-step : {X : Type 0} (f : ℕ) (xs : List X) (x : X) (ys : List X) (d : X) → drop f xs ≡ x ∷ ys → (f < length xs) × (get_or xs f d ≡ x) × (drop (suc f) xs ≡ ys)
drop-step zero [] x ys d is = cc
drop-step {X = X} zero (z ∷ xs) x ys d is = (omega arith, ap (λ (all : List X). get_or all 0 d) is, ap (λ (all : List X). drop 1 all) is)
drop-step (suc f) [] x ys d is = cc
drop-step (suc f) (z ∷ xs) x ys d is = let rest = drop-step f xs x ys d is in (omega (arith, rest.0), rest.1, rest.2)

drop-none : {X : Type 0} (f : ℕ) (xs : List X) → drop f xs ≡ [] → length xs ≤ f
drop-none zero [] is = omega arith
drop-none zero (x ∷ xs) is = cc
drop-none (suc f) [] is = omega arith
drop-none (suc f) (x ∷ xs) is = let rest = drop-none f xs is in omega arith

-- all fields over chunks
pub record AreFields (f : ℕ) (leaves : List Leaf) (chunks : List Chunk) (columns : List (List Value)) : Type 0 where
  pub sound : fields_fault f leaves chunks ≡ None
  pub are : columns_of f leaves chunks ≡ columns

fields-from : (kinds : List ItemKind) (f q first : ℕ) (leaves : List Leaf) (chunks : List Block) (columns left : List (List Value)) (d : Value) → AllByRecursion (IsChunk kinds) chunks
    → length columns ≡ length kinds → ((g : ℕ) → g < length kinds → column_over g chunks ≡ get_or columns g []) → drop f kinds ≡ kinds_of leaves → drop f columns ≡ left
    → AreFields f leaves (spelled_chunks kinds q first chunks) left
unfolding fields_fault columns_of
fields-from kinds f q first [] chunks columns [] d are many all of_kinds of_columns = record { sound = refl; are = refl }
fields-from kinds f q first [] chunks columns (column ∷ left) d are many all of_kinds of_columns =
    let none = drop-none f kinds of_kinds in
    let some = drop-step f columns column left [] of_columns in
    absurd (omega (arith, some.0))
fields-from kinds f q first (leaf ∷ leaves) chunks columns [] d are many all of_kinds of_columns =
    let none = drop-none f columns of_columns in
    let some = drop-step f kinds leaf.kind (kinds_of leaves) leaf.kind of_kinds in
    absurd (omega (arith, some.0))
fields-from kinds f q first (leaf ∷ leaves) chunks columns (column ∷ left) d are many all of_kinds of_columns =
    let kind = drop-step f kinds leaf.kind (kinds_of leaves) leaf.kind of_kinds in
    let one = drop-step f columns column left [] of_columns in
    let this = field-found kinds f q first leaf chunks d kind.1 kind.0 are in
    let later = fields-from kinds (f + 1) q first leaves chunks columns left d are many all (rw (add-one f) kind.2) (rw (add-one f) one.2) in
    record { sound = rw (this.sound, later.sound); are = rw (this.are, later.are, all f kind.0, one.1) }

-- The fields over spelled chunks have no fault, and their columns are those that were cut into the chunks.
pub fields-found : (q first : ℕ) (leaves : List Leaf) (chunks : List Block) (columns : List (List Value)) (d : Value) → AllByRecursion (IsChunk (kinds_of leaves)) chunks → length columns ≡ length (kinds_of leaves)
    → ((g : ℕ) → g < length (kinds_of leaves) → column_over g chunks ≡ get_or columns g []) → AreFields 0 leaves (spelled_chunks (kinds_of leaves) q first chunks) columns
fields-found q first leaves chunks columns d are many all = fields-from (kinds_of leaves) 0 q first leaves chunks columns columns d are many all refl refl
