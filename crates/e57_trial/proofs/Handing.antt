-- The items of a block, handed to the cloud field by field.
use Rattle.std.proofs.Common.{◌≡◌, ℕ, zero, suc, ◌+◌, ◌-◌, ◌%◌, ◌<◌, ◌≤◌, true, false, List, [], ◌∷◌, length, get_or, map, pos, refl, sym, subst, ap, ◌∙◌, arith, lit<}
use Rattle.std.specs.Prelude.{Result, Ok, Err, MatchResult}
use Rattle.std.specs.List.{AllByRecursion, range_with_len}
use Rattle.e57_layout.specs.Values.{ItemKind, integers, strings, Value, whole, word, octets}
use Rattle.e57_layout.specs.Items.{AreColumns}
use Rattle.e57_chunk_out.specs.CloudCalls.{kind_of, most_of_block, waiting_of, with_items}
use Rattle.e57_chunk_out.specs.Standing.{Cloud}
use Rattle.e57_copy.specs.Adding.{with_columns, HasRoom}
use Rattle.e57_copy.proofs.Columns.{joined_all, joined_at, joined_more}
use Rattle.e57_copy.proofs.Handing.{handed, handed_none}
use Rattle.e57_trial.specs.Content.{columns_from, intensity_at, tag_at, z_at}
use Rattle.e57_trial.specs.Records.{coordinate_at, trial_kinds, HasRoomFor}
use Rattle.e57_trial.proofs.Columns.{columns_are}

room_in : (left n j : ℕ) (columns : List (List Value)) → AllByRecursion (λ (column : List Value). length column - left + n ≤ most_of_block) columns → j < length columns → length (get_or columns j []) - left + n ≤ most_of_block
room_in left n j [] all below = absurd (omega arith)
room_in left n zero (x ∷ columns) all below = all.0
room_in left n (suc j) (x ∷ columns) all below = room_in left n j columns all.1 (omega arith)

-- What the call for field j wants: j fields have their items.
pub record IsReady (n j : ℕ) (c : Cloud) : Type 0 where
  pub kinds : c.kinds ≡ trial_kinds
  pub unspent : c.is_spent ≡ false
  pub room : HasRoomFor c j n

module _ (c0 : Cloud) (start first n : ℕ) (kinds : c0.kinds ≡ trial_kinds) (many : length c0.pending ≡ length c0.kinds) (unspent : c0.is_spent ≡ false) (room : HasRoom c0 n) where
  abbrev columns : List (List Value)
  columns = columns_from start first n

  six : length c0.pending ≡ 6
  six = many ∙ ap (λ (ks : List ItemKind). length ks) kinds

  ready : (j : ℕ) (c : Cloud) → j < 6 → c ≡ handed c0 j columns → IsReady n j c
  ready j c below is =
      let waits : length (waiting_of (handed c0 j columns) j) ≡ length (get_or c0.pending j []) = ap (λ (column : List Value). length column) (joined_at j c0.pending columns) in
      let few = room_in (c0.count % 8) n j c0.pending room (omega (arith, below, six)) in
      subst (IsReady n j) (sym is) (record { kinds = kinds; unspent = unspent; room = omega (arith, waits, few) })

  more : (j : ℕ) (c c' : Cloud) (values : List Value) → j < 6 → get_or columns j [] ≡ values → c ≡ handed c0 j columns → c' ≡ with_items c j values → c' ≡ handed c0 (suc j) columns
  more j c c' values below at is next =
      next
      ∙ ap (λ (x : Cloud). with_items x j values) is
      ∙ ap (λ (vs : List Value). with_items (handed c0 j columns) j vs) (sym at)
      ∙ ap (λ (waiting : List (List Value)). record c0 { pending = waiting }) (joined_more j c0.pending columns (omega (arith, below, six)) six)

  pub ready_0 : IsReady n 0 c0
  ready_0 = ready 0 c0 (lit< tt) (handed_none c0 columns)

  module _ (c1 : Cloud) (h1 : c1 ≡ with_items c0 0 (map (λ i. whole (pos (coordinate_at start 3 i))) (range_with_len first n))) where
    is_1 : c1 ≡ handed c0 1 columns
    is_1 = more 0 c0 c1 _ (lit< tt) refl (handed_none c0 columns) h1

    pub ready_1 : IsReady n 1 c1
    ready_1 = ready 1 c1 (lit< tt) is_1

    module _ (c2 : Cloud) (h2 : c2 ≡ with_items c1 1 (map (λ i. whole (pos (coordinate_at start 5 i))) (range_with_len first n))) where
      is_2 : c2 ≡ handed c0 2 columns
      is_2 = more 1 c1 c2 _ (lit< tt) refl is_1 h2

      pub ready_2 : IsReady n 2 c2
      ready_2 = ready 2 c2 (lit< tt) is_2

      module _ (c3 : Cloud) (h3 : c3 ≡ with_items c2 2 (map (λ i. whole (pos (intensity_at i))) (range_with_len first n))) where
        is_3 : c3 ≡ handed c0 3 columns
        is_3 = more 2 c2 c3 _ (lit< tt) refl is_2 h3

        pub ready_3 : IsReady n 3 c3
        ready_3 = ready 3 c3 (lit< tt) is_3

        module _ (c4 : Cloud) (h4 : c4 ≡ with_items c3 3 (map (λ (i : ℕ). whole (pos 0)) (range_with_len first n))) where
          is_4 : c4 ≡ handed c0 4 columns
          is_4 = more 3 c3 c4 _ (lit< tt) refl is_3 h4

          pub ready_4 : IsReady n 4 c4
          ready_4 = ready 4 c4 (lit< tt) is_4

          module _ (c5 : Cloud) (h5 : c5 ≡ with_items c4 4 (map (λ i. word (z_at i)) (range_with_len first n))) where
            is_5 : c5 ≡ handed c0 5 columns
            is_5 = more 4 c4 c5 _ (lit< tt) refl is_4 h5

            pub ready_5 : IsReady n 5 c5
            ready_5 = ready 5 c5 (lit< tt) is_5

            pub handed_all : (c6 : Cloud) → c6 ≡ with_items c5 5 (map (λ i. octets (tag_at i)) (range_with_len first n)) → c6 ≡ with_columns c0 columns
            handed_all c6 h6 =
                more 5 c5 c6 _ (lit< tt) refl is_5 h6
                ∙ ap (λ (waiting : List (List Value)). record c0 { pending = waiting }) (joined_all 6 c0.pending columns (sym six) six)

            pub taken : {E : Type 0} (result : Result (Unit {0}) E) (c6 : Cloud) → MatchResult result (λ x. c6 ≡ with_items c5 5 (map (λ i. octets (tag_at i)) (range_with_len first n))) (λ x. c6.is_spent ≡ true)
                → MatchResult result (λ x. c6 ≡ with_columns c0 columns) (λ x. c6.is_spent ≡ true)
            taken (Ok x) c6 given = handed_all c6 given
            taken (Err e) c6 given = given

-- ---- kinds of fields

pub coordinate_kind : (c : Cloud) (f : ℕ) → c.kinds ≡ trial_kinds → f < 2 → kind_of c f ≡ integers (pos 0) (pos 1048575)
coordinate_kind c f kinds below = ap (λ (ks : List ItemKind). get_or ks f strings) kinds ∙ by_number f below
  where
    by_number : (f : ℕ) → f < 2 → get_or trial_kinds f strings ≡ integers (pos 0) (pos 1048575)
    by_number zero below = refl
    by_number (suc zero) below = refl
    by_number (suc (suc f)) below = absurd (omega arith)

pub kind_at : (c : Cloud) (f : ℕ) → c.kinds ≡ trial_kinds → kind_of c f ≡ get_or trial_kinds f strings
kind_at c f kinds = ap (λ (ks : List ItemKind). get_or ks f strings) kinds

-- the columns are the cloud's
pub fitting : (c : Cloud) (start first n : ℕ) → c.kinds ≡ trial_kinds → AreColumns c.kinds n (columns_from start first n)
fitting c start first n kinds = subst (λ (ks : List ItemKind). AreColumns ks n (columns_from start first n)) (sym kinds) (columns_are start first n)

pub some_kinds : (c : Cloud) → c.kinds ≡ trial_kinds → 0 < length c.kinds
some_kinds c kinds = let size = ap (λ (ks : List ItemKind). length ks) kinds in omega (arith, size)
