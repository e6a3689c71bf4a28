-- The records of a cloud without fault are items of its fields, and so are those of them that are kept.
use Rattle.std.proofs.Common.{◌≡◌, ℕ, zero, suc, ◌+◌, ◌-◌, ◌*◌, ◌<◌, ◌==◌, Bool, true, false, ltb, List, [], ◌∷◌, length, map, get_or, Option, Some, None, Result, Ok, Err, subst, arith}
use Rattle.std.specs.Prelude.{ℤ, pos, ◌+ℤ◌, ◌≤ℤ◌, IfSome}
use Rattle.std.specs.Int.{int_gap}
use Rattle.std.specs.Int.Signed.{≤ℤ_refl}
use Rattle.std.specs.List.{AllByRecursion, range_with_len}
use Rattle.std.proofs.lemmas.Bool.{cond_both, ltb-false}
use Rattle.std.proofs.lemmas.List.FromFn.{length-map-range_with_len, get_or-map-range_with_len}
use Rattle.e57_base.specs.declared.fault.Fault.{Fault}
use Rattle.e57_bits.specs.Bits.{number}
use Rattle.e57_layout.specs.Items.{above, bits_at, item_at, AreColumns, AreItems, IsItem}
use Rattle.e57_layout.specs.Values.{ItemKind, integers, words, strings, Value, whole, item_kind, Outcome, here, short, over_limit, out_of_range, AreLimits, IsValidField}
use Rattle.e57_layout.specs.Widths.{width}
use Rattle.e57_layout.specs.declared.field.Field.{Field}
use Rattle.e57_layout.specs.declared.field.Fixed.{Fixed}
use Rattle.e57_layout.specs.declared.section.Section.{Section}
use Rattle.e57_layout.proofs.Laws.Found.{IfHere, item_at-item}
use Rattle.e57_layout.proofs.Laws.Widths.{gap-above}
use Rattle.e57_cloud.specs.Cloud.{Leaf}
use Rattle.e57_cloud.specs.PathItem.{ChunkAt, and_then, answer, chunk_at, constant_of, ended_by, item_by, item_in, item_of, path, stretch}
use Rattle.e57_cloud.specs.Chunks.{stream_of}
use Rattle.e57_blocks.specs.Fields.{field_at}
use Rattle.e57_plain.specs.Kept.{chosen, passing, passing_count}
use Rattle.e57_plain.specs.Valid.{kinds_in}
use Rattle.e57_filter.specs.Marking.{AreMarks, mark_count}
use Rattle.e57_filter.proofs.Passing.{mark-passing, picked-passing}
use Rattle.e57_filter.proofs.Picking.{picked_columns}

-- ---- an item that is found

-- between the limits, if these are in order
integer-item : (low high : ℤ) (stream : List ℕ) (k : ℕ) → low ≤ℤ high → IfHere (IsItem (integers low high)) (item_at (integers low high) stream k)
unfolding item_at bits_at
integer-item low high stream k limits =
    let w = width low high in
    let n = number stream (w * k) w in
    cond_both (w == 0) (here (whole low)) (bits_at w (above low high k) stream k) (IfHere (IsItem (integers low high)))
    (λ none. (≤ℤ_refl low, limits))
    (λ some. cond_both (ltb (8 * length stream) (w * k + w)) (short k) (above low high k n) (IfHere (IsItem (integers low high)))
    (λ cut. tt)
    (λ all. cond_both (ltb (int_gap low high) n) (out_of_range k) (here (whole (low +ℤ pos n))) (IfHere (IsItem (integers low high))) (λ far. tt) (λ near. gap-above low high n limits (ltb-false (int_gap low high) n near))))

limited-item : (kind : ItemKind) (stream : List ℕ) (k : ℕ) → AreLimits kind → IfHere (IsItem kind) (item_at kind stream k)
limited-item (integers low high) stream k limits = integer-item low high stream k limits
limited-item (words w) stream k limits = item_at-item (words w) stream k tt
limited-item strings stream k limits = item_at-item strings stream k tt

constant-item : (kind : ItemKind) → AreLimits kind → IfSome (constant_of kind) (IsItem kind)
constant-item (integers low high) limits =
    cond_both (width low high == 0) (Some (whole low)) None (λ (o : Option Value). IfSome o (IsItem (integers low high))) (λ none. (≤ℤ_refl low, limits)) (λ some. tt)
constant-item (words w) limits = tt
constant-item strings limits = tt

same_value : (x v : Value) → ◌≡◌ {A = Result Value Fault} (Ok x) (Ok v) → x ≡ v
same_value x v is = cc

answered : (kind : ItemKind) (node first : ℕ) (ended : Option Fault) (outcome : Outcome) (v : Value) → IfHere (IsItem kind) outcome → answer node first ended outcome ≡ Ok v → IsItem kind v
answered kind node first ended (here x) v item is = subst (IsItem kind) (same_value x v is) item
answered kind node first None (short k) v item is = absurd cc
answered kind node first (Some fault) (short k) v item is = absurd cc
answered kind node first ended (over_limit k) v item is = absurd cc
answered kind node first ended (out_of_range k) v item is = absurd cc

module _ (file : List ℕ) (s : Section) (fixed : Option Fixed) (f : ℕ) (leaf : Leaf) (i : ℕ) (v : Value) (limits : AreLimits leaf.kind) where
  in_chunk : (chunk : ChunkAt) → item_in file s fixed f leaf.node (item_at leaf.kind) i chunk ≡ Ok v → IsItem leaf.kind v
  unfolding item_in
  in_chunk chunk is =
      let stream = stream_of f (stretch file s chunk.place).packets in
      answered leaf.kind leaf.node chunk.first (ended_by s fixed (stretch file s chunk.place)) (item_at leaf.kind stream (i - chunk.first)) v (limited-item leaf.kind stream (i - chunk.first) limits) is

  by_chunk : (r : Result ChunkAt Fault) → and_then r (item_in file s fixed f leaf.node (item_at leaf.kind) i) ≡ Ok v → IsItem leaf.kind v
  by_chunk (Ok chunk) is = in_chunk chunk is
  by_chunk (Err found) is = absurd cc

  by_path : (x : Value) (r : Result ChunkAt Fault) → IsItem leaf.kind x → and_then r (λ (chunk : ChunkAt). Ok x) ≡ Ok v → IsItem leaf.kind v
  by_path x (Ok chunk) item is = subst (IsItem leaf.kind) (same_value x v is) item
  by_path x (Err found) item is = absurd cc

  by_constant : (o : Option Value) → IfSome o (IsItem leaf.kind) → item_by file s fixed f leaf i o ≡ Ok v → IsItem leaf.kind v
  by_constant None item is = by_chunk (chunk_at file s fixed i) is
  by_constant (Some x) item is = by_path x (path file s i) item is

  -- it is of the field's kind
  pub found-item : item_of file s fixed f leaf i ≡ Ok v → IsItem leaf.kind v
  unfolding item_of
  found-item is = by_constant (constant_of leaf.kind) (constant-item leaf.kind limits) is

-- ---- columns

pub each-item : (kind : ItemKind) (xs : List Value) (d : Value) → ((k : ℕ) → k < length xs → IsItem kind (get_or xs k d)) → AreItems kind xs
each-item kind [] d each = tt
each-item kind (x ∷ xs) d each = (each 0 (omega arith), each-item kind xs d (λ k below. each (suc k) (omega (arith, below))))

pub each-column : (fields : List Field) (n : ℕ) (columns : List (List Value)) → length columns ≡ length fields
    → ((f : ℕ) → f < length fields → (length (get_or columns f []) ≡ n) × AreItems (item_kind (field_at fields f).kind) (get_or columns f []))
    → AreColumns (kinds_in fields) n columns
each-column [] n [] same each = tt
each-column [] n (column ∷ columns) same each = absurd (omega (arith, same))
each-column (field ∷ fields) n [] same each = absurd (omega (arith, same))
each-column (field ∷ fields) n (column ∷ columns) same each =
    let first = each 0 (omega arith) in
    (first.0, first.1, each-column fields n columns (omega (arith, same)) (λ f below. each (suc f) (omega (arith, below))))

pub valid_at : (fields : List Field) (f : ℕ) → f < length fields → AllByRecursion IsValidField fields → IsValidField (field_at fields f)
valid_at [] f below valid = absurd (omega (arith, below))
valid_at (field ∷ fields) zero below valid = valid.0
valid_at (field ∷ fields) (suc f) below valid = valid_at fields f (omega (arith, below)) valid.1

chosen-columns : (flags : List Bool) (kinds : List ItemKind) (n : ℕ) (columns : List (List Value)) → AreColumns kinds n columns → AreColumns (chosen flags kinds) n (chosen flags columns)
chosen-columns [] kinds n columns are = tt
chosen-columns (b ∷ flags) [] n [] are = tt
chosen-columns (b ∷ flags) [] n (column ∷ columns) are = absurd are
chosen-columns (b ∷ flags) (kind ∷ kinds) n [] are = absurd are
chosen-columns (true ∷ flags) (kind ∷ kinds) n (column ∷ columns) are = (are.0, are.1, chosen-columns flags kinds n columns are.2)
chosen-columns (false ∷ flags) (kind ∷ kinds) n (column ∷ columns) are = chosen-columns flags kinds n columns are.2

passing-columns : (pass : ℕ → Bool) (kinds : List ItemKind) (n : ℕ) (columns : List (List Value)) → AreColumns kinds n columns → AreColumns kinds (passing_count pass 0 n) (map (passing pass 0) columns)
passing-columns pass kinds n columns are =
    let flags = map pass (range_with_len 0 n) in
    let long : length flags ≡ n = length-map-range_with_len pass 0 n in
    let marks : AreMarks n pass flags = (long, λ k below. get_or-map-range_with_len pass 0 n k k false below (omega arith)) in
    subst (λ (m : ℕ). AreColumns kinds m (map (passing pass 0) columns)) (mark-passing n pass flags marks)
    (subst (λ (cs : List (List Value)). AreColumns kinds (mark_count flags) cs) (picked-passing kinds n pass flags columns are marks) (picked_columns kinds n flags columns long are))

-- those of some fields and of the records that pass
pub kept-columns : (flags : List Bool) (pass : ℕ → Bool) (kinds : List ItemKind) (n : ℕ) (columns : List (List Value)) → AreColumns kinds n columns
    → AreColumns (chosen flags kinds) (passing_count pass 0 n) (chosen flags (map (passing pass 0) columns))
kept-columns flags pass kinds n columns are = chosen-columns flags kinds (passing_count pass 0 n) (map (passing pass 0) columns) (passing-columns pass kinds n columns are)
