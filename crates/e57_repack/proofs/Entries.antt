-- Entries of nodes that are widened.
use Rattle.std.specs.Prelude.{◌≡◌, ℕ, ◌+◌, ◌<◌, ◌==◌, Bool, true, false, if◌then◌else◌, ℤ, List, [], ◌∷◌, ◌++◌, take, length, get_or, slice_set, slice_index_or, Option, Some, None}
use Rattle.std.proofs.Common.{refl, sym, ap, subst, ◌∙◌, arith, Bor}
use Rattle.std.proofs.lemmas.Bool.{eq-eqb, eqb-true}
use Rattle.std.proofs.lemmas.List.{get_or-set_same, get_or-set_other, append-nil, append_assoc, length-set}
use Rattle.e57_layout.specs.Packing.{join_columns}
use Rattle.e57_layout.specs.Values.{Value}
use Rattle.e57_layout.specs.declared.field.Field.{Field}
use Rattle.e57_plain.specs.Tight.{range_of, field_items}
use Rattle.e57_edits.specs.declared.limits.Range.{Range}
use Rattle.e57_edits.specs.Ranges.{limits_of, range_at, IsOrdered, IsSigned}
use Rattle.e57_blocks.specs.declared.block.Run.{Run}
use Rattle.e57_blocks.specs.declared.block.Run.TheVariants as a_run
use Rattle.std.proofs.lemmas.List.{take_more, length-take, length-map}
use Rattle.e57_blocks.specs.Block.{Block}
use Rattle.e57_blocks.specs.Runs.{run_values, held_values}
use Rattle.e57_copy.specs.Adding.{held_columns}
use Rattle.e57_copy.proofs.Lists.{map_append}
use Rattle.e57_repack.specs.Ranges.{AreLimits}
use Rattle.e57_repack.specs.Widening.{joined, AreWidened}
use Rattle.e57_repack.proofs.Joining.{joined-none, joined-assoc, joined-comm, range_of-append, words-none, strings-none}

-- ---- the entry of one node

module _ (ranges : List (Option Range)) (field : Field) (values : List Value) where
  at_node : (n : ℕ) (now : Option (ℤ × ℤ)) → ((field.node == n) ≡ true → now ≡ joined (range_at ranges n) (range_of values)) → ((field.node == n) ≡ false → now ≡ range_at ranges n)
      → now ≡ joined (range_at ranges n) (range_of (field_items n (field ∷ []) (values ∷ [])))
  at_node n now here other = by_test (field.node == n) here other
    where
      by_test : (b : Bool) → (b ≡ true → now ≡ joined (range_at ranges n) (range_of values)) → (b ≡ false → now ≡ range_at ranges n)
          → now ≡ joined (range_at ranges n) (range_of ((if b then values else []) ++ []))
      by_test true here other = here refl ∙ ap (λ (vs : List Value). joined (range_at ranges n) (range_of vs)) (sym (append-nil values))
      by_test false here other = other refl ∙ sym (joined-none (range_at ranges n))

  pub entry-widened : (new : Range) → field.node < length ranges → limits_of (Some new) ≡ joined (range_at ranges field.node) (range_of values) → AreWidened ranges (field ∷ []) (values ∷ []) (slice_set ranges field.node (Some new))
  entry-widened new there is n =
      at_node n (range_at (slice_set ranges field.node (Some new)) n)
      (λ same.
      subst (λ (k : ℕ). range_at (slice_set ranges field.node (Some new)) k ≡ joined (range_at ranges k) (range_of values)) (eqb-true field.node n same)
      (ap limits_of (get_or-set_same ranges field.node (Some new) None there) ∙ is))
      (λ differ. ap limits_of (get_or-set_other ranges field.node n (Some new) None (λ same. let e = eq-eqb field.node n (sym same) in absurd cc)))

  pub entry-same : range_of values ≡ None → AreWidened ranges (field ∷ []) (values ∷ []) ranges
  entry-same none n =
      at_node n (range_at ranges n) (λ same. sym (ap (joined (range_at ranges n)) none ∙ joined-none (range_at ranges n))) (λ differ. refl)

-- a run of words or of strings
pub run-none : (run : Run) → ((x : Bor (List ℤ)) → run ≡ a_run.Ints x → ⊥) → range_of (run_values run) ≡ None
run-none (a_run.Ints items) never = absurd (never items refl)
run-none (a_run.Bits32 items) never = words-none items.now
run-none (a_run.Bits64 items) never = words-none items.now
run-none (a_run.Texts bytes begin ends) never = strings-none bytes.now begin ends.now

-- every entry but that of this node is as before
each-set : (P : Option Range → Type 0) (ranges : List (Option Range)) (node : ℕ) (new : Option Range) → node < length ranges → P new → ((n : ℕ) → P (slice_index_or ranges n None)) → (n : ℕ) → P (slice_index_or (slice_set ranges node new) n None)
each-set P ranges node new there is all n = by_test (node == n) refl
  where
    by_test : (b : Bool) → (node == n) ≡ b → P (slice_index_or (slice_set ranges node new) n None)
    by_test true same = subst P (sym (subst (λ (k : ℕ). get_or (slice_set ranges node new) k None ≡ new) (eqb-true node n same) (get_or-set_same ranges node new None there))) is
    by_test false differ = subst P (sym (get_or-set_other ranges node n new None (λ same. let e = eq-eqb node n (sym same) in absurd cc))) (all n)

pub limits-set : (ranges : List (Option Range)) (node count : ℕ) (new : Range) → node < length ranges → AreLimits count ranges → IsOrdered (Some new) → IsSigned (Some new) → AreLimits count (slice_set ranges node (Some new))
limits-set ranges node count new there are ordered signed = record {
  all = length-set ranges node (Some new) ∙ are.all;
  ordered = each-set IsOrdered ranges node (Some new) there ordered are.ordered;
  signed = each-set IsSigned ranges node (Some new) there signed are.signed;
}

-- ---- several fields

pub widened-none : (ranges : List (Option Range)) → AreWidened ranges [] [] ranges
widened-none ranges n = sym (joined-none (range_at ranges n))

field_items-more : (n : ℕ) (fields : List Field) (columns : List (List Value)) (field : Field) (column : List Value) → length fields ≡ length columns
    → field_items n (fields ++ field ∷ []) (columns ++ column ∷ []) ≡ field_items n fields columns ++ field_items n (field ∷ []) (column ∷ [])
field_items-more n [] [] field column same = refl
field_items-more n [] (c ∷ columns) field column same = absurd (omega arith)
field_items-more n (f ∷ fields) [] field column same = absurd (omega arith)
field_items-more n (f ∷ fields) (c ∷ columns) field column same =
    ap (λ (vs : List Value). (if f.node == n then c else []) ++ vs) (field_items-more n fields columns field column (omega arith))
    ∙ sym (append_assoc (if f.node == n then c else []) (field_items n fields columns) (field_items n (field ∷ []) (column ∷ [])))

-- twice in a row
both : (a b c r s : Option (ℤ × ℤ)) → b ≡ joined a r → c ≡ joined b s → c ≡ joined a (joined r s)
both a b c r s first next = next ∙ ap (λ x. joined x s) first ∙ sym (joined-assoc a r s)

pub widened-more : (r s t : List (Option Range)) (fields : List Field) (columns : List (List Value)) (field : Field) (column : List Value) → length fields ≡ length columns → AreWidened r fields columns s → AreWidened s (field ∷ []) (column ∷ []) t
    → AreWidened r (fields ++ field ∷ []) (columns ++ column ∷ []) t
widened-more r s t fields columns field column same first next n =
    both (range_at r n) (range_at s n) (range_at t n) (range_of (field_items n fields columns)) (range_of (field_items n (field ∷ []) (column ∷ []))) (first n) (next n)
    ∙ ap (joined (range_at r n))
    (sym (range_of-append (field_items n fields columns) (field_items n (field ∷ []) (column ∷ []))) ∙ ap range_of (sym (field_items-more n fields columns field column same)))

-- ---- more records

crossed : (a b c d : Option (ℤ × ℤ)) → joined (joined a b) (joined c d) ≡ joined (joined a c) (joined b d)
crossed a b c d =
    sym (joined-assoc a b (joined c d))
    ∙ ap (joined a) (joined-assoc b c d ∙ ap (λ x. joined x d) (joined-comm b c) ∙ sym (joined-assoc c b d))
    ∙ joined-assoc a c (joined b d)

chosen : (b : Bool) (xs ys : List Value) → range_of (if b then xs ++ ys else []) ≡ joined (range_of (if b then xs else [])) (range_of (if b then ys else []))
chosen true xs ys = range_of-append xs ys
chosen false xs ys = refl

range-joined : (n : ℕ) (fields : List Field) (xs ys : List (List Value)) → length xs ≡ length ys
    → range_of (field_items n fields (join_columns xs ys)) ≡ joined (range_of (field_items n fields xs)) (range_of (field_items n fields ys))
unfolding join_columns
range-joined n [] xs ys same = refl
range-joined n (f ∷ fields) [] [] same = refl
range-joined n (f ∷ fields) [] (y ∷ ys) same = absurd (omega arith)
range-joined n (f ∷ fields) (x ∷ xs) [] same = absurd (omega arith)
range-joined n (f ∷ fields) (x ∷ xs) (y ∷ ys) same =
    range_of-append (if f.node == n then x ++ y else []) (field_items n fields (join_columns xs ys))
    ∙ ap (λ r. joined r (range_of (field_items n fields (join_columns xs ys)))) (chosen (f.node == n) x y)
    ∙ ap (joined (joined (range_of (if f.node == n then x else [])) (range_of (if f.node == n then y else [])))) (range-joined n fields xs ys (omega arith))
    ∙ crossed (range_of (if f.node == n then x else [])) (range_of (if f.node == n then y else [])) (range_of (field_items n fields xs)) (range_of (field_items n fields ys))
    ∙ ap (λ r. joined r (joined (range_of (if f.node == n then y else [])) (range_of (field_items n fields ys)))) (sym (range_of-append (if f.node == n then x else []) (field_items n fields xs)))
    ∙ ap (joined (range_of ((if f.node == n then x else []) ++ field_items n fields xs))) (sym (range_of-append (if f.node == n then y else []) (field_items n fields ys)))

pub widened-join : (r s t : List (Option Range)) (fields : List Field) (xs ys : List (List Value)) → length xs ≡ length ys → AreWidened r fields xs s → AreWidened s fields ys t → AreWidened r fields (join_columns xs ys) t
widened-join r s t fields xs ys same first next n =
    both (range_at r n) (range_at s n) (range_at t n) (range_of (field_items n fields xs)) (range_of (field_items n fields ys)) (first n) (next n)
    ∙ ap (joined (range_at r n)) (sym (range-joined n fields xs ys same))

-- ---- the run of one field more

pub run-more : (first now next : List (Option Range)) (fields : List Field) (blocks : List Block) (j i n : ℕ) (field : Field) (block : Block) (values : List Value) → j < length blocks → length blocks ≡ length fields
    → field ≡ get_or fields j field → block ≡ get_or blocks j block → values ≡ held_values block i n → AreWidened first (take j fields) (held_columns (take j blocks) i n) now → AreWidened now (field ∷ []) (values ∷ []) next
    → AreWidened first (take (j + 1) fields) (held_columns (take (j + 1) blocks) i n) next
run-more first now next fields blocks j i n field block values below many at_field at_block are before this =
    let of_fields : take (j + 1) fields ≡ take j fields ++ field ∷ [] = take_more fields j field (omega (arith, below, many)) ∙ ap (λ (f : Field). take j fields ++ f ∷ []) (sym at_field) in
    let of_blocks : take (j + 1) blocks ≡ take j blocks ++ block ∷ [] = take_more blocks j block below ∙ ap (λ (b : Block). take j blocks ++ b ∷ []) (sym at_block) in
    let of_columns : held_columns (take (j + 1) blocks) i n ≡ held_columns (take j blocks) i n ++ values ∷ [] =
    ap (λ (bs : List Block). held_columns bs i n) of_blocks
    ∙ map_append (λ (b : Block). held_values b i n) (take j blocks) (block ∷ [])
    ∙ ap (λ (vs : List Value). held_columns (take j blocks) i n ++ vs ∷ []) (sym are) in
    let first_fields = length-take j fields in
    let first_blocks = length-take j blocks in
    let first_columns = length-map (take j blocks) (λ (b : Block). held_values b i n) in
    subst (λ (fs : List Field). AreWidened first fs (held_columns (take (j + 1) blocks) i n) next) (sym of_fields)
    (subst (λ (cs : List (List Value)). AreWidened first (take j fields ++ field ∷ []) cs next) (sym of_columns)
    (widened-more first now next (take j fields) (held_columns (take j blocks) i n) field values (omega (arith, first_fields, first_blocks, first_columns, many, below)) before this))
