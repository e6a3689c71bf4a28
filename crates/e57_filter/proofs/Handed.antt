-- The records that are marked, handed to a cloud stretch after stretch.
use Rattle.std.proofs.Common.{◌≡◌, ℕ, zero, suc, ◌+◌, ◌-◌, ◌%◌, ◌≤◌, Bool, true, false, List, [], ◌∷◌, length, take, refl, sym, subst, ap, ◌∙◌, arith}
use Rattle.std.specs.List.{AllByRecursion}
use Rattle.std.proofs.lemmas.List.{append-nil, length-map}
use Rattle.e57_base.proofs.Lists.{all_map}
use Rattle.e57_layout.specs.Values.{ItemKind, Value}
use Rattle.e57_layout.specs.Items.{AreColumns}
use Rattle.e57_layout.specs.Packing.{join_columns}
use Rattle.e57_layout.proofs.Laws.Blocks.{columns-length}
use Rattle.e57_blocks.specs.Block.{Block}
use Rattle.e57_blocks.specs.Runs.{HasRecords}
use Rattle.e57_chunk_out.specs.CloudCalls.{most_of_block, IsBetween}
use Rattle.e57_chunk_out.specs.Standing.{Cloud}
use Rattle.e57_copy.specs.Adding.{block_kinds, held_columns, with_columns, HasRoom}
use Rattle.e57_copy.specs.Items.{AreAlike}
use Rattle.e57_copy.proofs.Columns.{columns_long, join_assoc, long_with, no_records, AreLong}
use Rattle.e57_plain.specs.Kept.{chosen}
use Rattle.e57_filter.specs.Marking.{picked}
use Rattle.e57_filter.proofs.Picking.{alike_all, chosen-few, columns_part, held_part, picked_first, picked_more, AreAll}

join_nothing : (xs held : List (List Value)) → length xs ≡ length held → join_columns xs (picked [] held) ≡ xs
unfolding join_columns
join_nothing [] [] same = refl
join_nothing [] (h ∷ held) same = absurd (omega (arith, same))
join_nothing (x ∷ xs) [] same = absurd (omega (arith, same))
join_nothing (x ∷ xs) (h ∷ held) same = rw (append-nil x, join_nothing xs held (omega (arith, same))) refl

length-join : (xs ys : List (List Value)) → length xs ≡ length ys → length (join_columns xs ys) ≡ length xs
unfolding join_columns
length-join [] [] same = refl
length-join [] (y ∷ ys) same = absurd (omega (arith, same))
length-join (x ∷ xs) [] same = refl
length-join (x ∷ xs) (y ∷ ys) same = ap suc (length-join xs ys (omega (arith, same)))

pub length-take_few : (j : ℕ) (bs : List Bool) → length (take j bs) ≤ j
length-take_few zero bs = omega arith
length-take_few (suc j) [] = omega arith
length-take_few (suc j) (b ∷ bs) = let less = length-take_few j bs in omega (arith, less)

pub is_false : (b : Bool) → (b ≡ true → ⊥) → b ≡ false
is_false true not = absurd (not refl)
is_false false not = refl

pub is_true : (b : Bool) → (b ≡ false → ⊥) → b ≡ true
is_true true not = refl
is_true false not = absurd (not refl)

module _ (c : Cloud) (blocks : List Block) (i n : ℕ) (flags : List Bool) (kinds : c.kinds ≡ block_kinds blocks) (fit : AreColumns (block_kinds blocks) n (held_columns blocks i n)) (long : length flags ≡ n) (many : length c.pending ≡ length c.kinds) where
  abbrev held : List (List Value)
  held = held_columns blocks i n

  as_many : length c.pending ≡ length held
  as_many = many ∙ ap (λ (ks : List ItemKind). length ks) kinds ∙ sym (columns-length (block_kinds blocks) n held fit)

  pub handed_none : c ≡ with_columns c (picked [] held)
  handed_none = ap (λ (waiting : List (List Value)). record c { pending = waiting }) (sym (join_nothing c.pending held as_many))

  module _ (k : ℕ) (now : Cloud) (is : now ≡ with_columns c (picked (take k flags) held)) where
    kinds_now : now.kinds ≡ block_kinds blocks
    kinds_now = ap (λ (x : Cloud). x.kinds) is ∙ kinds

    pub alike_now : AreAlike (block_kinds blocks) now.kinds
    alike_now = subst (AreAlike (block_kinds blocks)) (sym kinds_now) (alike_all (block_kinds blocks))

    length-picked : length (picked (take k flags) held) ≡ length held
    length-picked = length-map held (chosen (take k flags))

    pub pending_now : length now.pending ≡ length now.kinds
    pending_now =
        ap (λ (x : Cloud). length x.pending) is
        ∙ length-join c.pending (picked (take k flags) held) (as_many ∙ sym length-picked)
        ∙ many
        ∙ sym (ap (λ (x : Cloud). length x.kinds) is)

    pub room_now : IsBetween c → (m : ℕ) → k + m ≤ most_of_block → HasRoom now m
    room_now between m few =
        let number = length (chosen (take k flags) flags) in
        let below : number ≤ k = let most = chosen-few (take k flags) flags in let less = length-take_few k flags in omega (arith, most, less) in
        let are : AreLong (c.count % 8 + number) (join_columns c.pending (picked (take k flags) held)) =
        long_with (c.count % 8) number c.pending (picked (take k flags) held) between (columns_long (block_kinds blocks) number (picked (take k flags) held) (picked_first (block_kinds blocks) n k flags held long fit)) (as_many ∙ sym length-picked) in
        subst (λ (x : Cloud). HasRoom x m) (sym is)
        (all_map (λ (column : List Value). length column ≡ c.count % 8 + number) (λ (column : List Value). length column - c.count % 8 + m ≤ most_of_block) (join_columns c.pending (picked (take k flags) held))
        (λ column size. omega (arith, size, few, below)) are)

    module _ (a b : ℕ) (have : AllByRecursion (HasRecords i n) blocks) (low : k ≤ a) (mid : a ≤ b) (high : b ≤ n) where
      pub fit_now : AreColumns now.kinds (b - a) (held_columns blocks (i + a) (b - a))
      fit_now =
          subst (λ (ks : List ItemKind). AreColumns ks (b - a) (held_columns blocks (i + a) (b - a))) (sym kinds_now)
          (subst (AreColumns (block_kinds blocks) (b - a)) (sym (held_part blocks i n a (b - a) (omega (arith, mid, high)) have)) (columns_part (block_kinds blocks) n a (b - a) held (omega (arith, mid, high)) fit))

      pub handed_more : (new : Cloud) → AreAll false k a flags → AreAll true a b flags → new ≡ with_columns now (held_columns blocks (i + a) (b - a)) → new ≡ with_columns c (picked (take b flags) held)
      handed_more new off on more =
          more
          ∙ ap (λ (x : Cloud). with_columns x (held_columns blocks (i + a) (b - a))) is
          ∙ ap (λ (waiting : List (List Value)). record c { pending = waiting })
          (join_assoc c.pending (picked (take k flags) held) (held_columns blocks (i + a) (b - a))
          ∙ ap (λ (columns : List (List Value)). join_columns c.pending columns)
          (ap (λ (columns : List (List Value)). join_columns (picked (take k flags) held) columns) (held_part blocks i n a (b - a) (omega (arith, mid, high)) have)
          ∙ picked_more (block_kinds blocks) n k a b flags held long fit low mid high off on))

-- no record behind what waits
pub join_none_of : (kinds : List ItemKind) (xs : List (List Value)) → length xs ≡ length kinds → join_columns xs (no_records kinds) ≡ xs
unfolding join_columns
join_none_of [] [] same = refl
join_none_of [] (x ∷ xs) same = absurd (omega (arith, same))
join_none_of (kind ∷ kinds) [] same = absurd (omega (arith, same))
join_none_of (kind ∷ kinds) (x ∷ xs) same = rw (append-nil x, join_none_of kinds xs (omega (arith, same))) refl
