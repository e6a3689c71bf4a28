-- The items of some records in a row.
use Rattle.std.specs.Prelude.{◌≡◌, ℕ, zero, suc, ◌+◌, ◌-◌, ◌^◌, ◌<◌, ◌≤◌, ℤ, pos, List, ◌∷◌, map, length, take, drop, get_or}
use Rattle.std.specs.List.{range_with_len}
use Rattle.std.proofs.Common.{refl, sym, subst, ap, ◌∙◌, arith}
use Rattle.std.proofs.lemmas.List.{drop_more, length-take, length-drop}
use Rattle.e57_layout.specs.Strings.{string_limit}
use Rattle.e57_layout.specs.Values.{ItemKind, integers, words, strings, Value, whole, word, octets}
use Rattle.e57_layout.specs.Items.{IsItem, AreItems}
use Rattle.e57_texts.specs.Reading.{begin_of, end_of, string_held}
use Rattle.e57_column.specs.Column.{kind_of}
use Rattle.e57_column.specs.Reading.{AreWhole}
use Rattle.e57_blocks.specs.Block.{Block, IsBlock, IsKept, held_item, places_of, AreCut}
use Rattle.e57_blocks.specs.Runs.{strings_from, AreEndsFrom, HasRecords, held_values}

-- ---- a part of a list, item by item

part_values : {X : Type 0} (value : X → Value) (d : X) (xs : List X) (item : ℕ → Value) (a n : ℕ) → a + n ≤ length xs → ((k : ℕ) → item k ≡ value (get_or xs k d)) → map value (take n (drop a xs)) ≡ map item (range_with_len a n)
part_values value d xs item a zero within each = refl
part_values value d xs item a (suc n) within each =
    ap (λ ys. map value (take (suc n) ys)) (drop_more xs a d (omega (arith, within)))
    ∙ ap (λ (v : Value). v ∷ map value (take n (drop (a + 1) xs))) (sym (each a))
    ∙ ap (λ (vs : List Value). item a ∷ vs) (part_values value d xs item (a + 1) n (omega (arith, within)) each)

pub values_held : {X : Type 0} (value : X → Value) (d : X) (xs : List X) (b : Block) (i n : ℕ) → IsBlock b → HasRecords i n b → places_of b.buffer ≡ length xs → ((k : ℕ) → held_item b k ≡ value (get_or xs k d)) → map value (take n (drop (i - b.first) xs)) ≡ held_values b i n
values_held value d xs b i n is has places each =
    let low = has.0 in
    let high = has.1 in
    let few = is.few in
    part_values value d xs (held_item b) (i - b.first) n (omega (arith, low, high, few, places)) each

begin_next : (ends : List ℕ) (a : ℕ) → begin_of 0 ends (a + 1) ≡ get_or ends a 0
begin_next ends a = let next : a + 1 ≡ suc a = omega arith in ap (λ (k : ℕ). begin_of 0 ends k) next

part_strings : (bytes ends : List ℕ) (item : ℕ → Value) (a n : ℕ) → a + n ≤ length ends → ((k : ℕ) → item k ≡ octets (string_held 0 bytes ends k)) → strings_from bytes (begin_of 0 ends a) (take n (drop a ends)) ≡ map item (range_with_len a n)
unfolding strings_from
part_strings bytes ends item a zero within each = refl
part_strings bytes ends item a (suc n) within each =
    ap (λ ys. strings_from bytes (begin_of 0 ends a) (take (suc n) ys)) (drop_more ends a 0 (omega (arith, within)))
    ∙ ap (λ (v : Value). v ∷ strings_from bytes (get_or ends a 0) (take n (drop (a + 1) ends))) (sym (each a))
    ∙ ap (λ (vs : List Value). item a ∷ vs)
    (subst (λ (begin : ℕ). strings_from bytes begin (take n (drop (a + 1) ends)) ≡ map item (range_with_len (a + 1) n)) (begin_next ends a) (part_strings bytes ends item (a + 1) n (omega (arith, within)) each))

pub strings_held : (bytes ends : List ℕ) (b : Block) (i n : ℕ) → IsBlock b → HasRecords i n b → places_of b.buffer ≡ length ends → ((k : ℕ) → held_item b k ≡ octets (string_held 0 bytes ends k)) → strings_from bytes (begin_of 0 ends (i - b.first)) (take n (drop (i - b.first) ends)) ≡ held_values b i n
strings_held bytes ends b i n is has places each =
    let low = has.0 in
    let high = has.1 in
    let few = is.few in
    part_strings bytes ends (held_item b) (i - b.first) n (omega (arith, low, high, few, places)) each

-- ---- within the limits

each_item : (kind : ItemKind) (item : ℕ → Value) (a n : ℕ) → ((k : ℕ) → k < a + n → IsItem kind (item k)) → AreItems kind (map item (range_with_len a n))
each_item kind item a zero each = tt
each_item kind item a (suc n) each = (each a (omega arith), each_item kind item (a + 1) n (λ k below. each k (omega (arith, below))))

pub items_held : (b : Block) (i n : ℕ) → HasRecords i n b → ((k : ℕ) → k < b.count → IsItem (kind_of b.column.items) (held_item b k)) → AreItems (kind_of b.column.items) (held_values b i n)
items_held b i n has each =
    let low = has.0 in
    let high = has.1 in
    each_item (kind_of b.column.items) (held_item b) (i - b.first) n (λ k below. each k (omega (arith, low, high, below)))

kept_whole : (kind : ItemKind) (value : Value) → AreWhole kind → IsKept kind value → IsItem kind value
kept_whole (integers low high) (whole z) are kept = kept
kept_whole (integers low high) (word n) are kept = absurd kept
kept_whole (integers low high) (octets t) are kept = absurd kept
kept_whole (words w) value are kept = absurd are
kept_whole strings value are kept = absurd are

kept_string : (kind : ItemKind) (value : Value) → kind ≡ strings → IsKept kind value → IsItem kind value
kept_string (integers low high) value is kept = absurd cc
kept_string (words w) value is kept = absurd cc
kept_string strings (whole z) is kept = absurd kept
kept_string strings (word n) is kept = absurd kept
kept_string strings (octets t) is kept = kept

pub whole_held : (b : Block) (i n : ℕ) → IsBlock b → HasRecords i n b → AreWhole (kind_of b.column.items) → AreItems (kind_of b.column.items) (held_values b i n)
whole_held b i n is has are = items_held b i n has (λ k below. kept_whole (kind_of b.column.items) (held_item b k) are (is.kept k below))

pub texts_held : (b : Block) (i n : ℕ) → IsBlock b → HasRecords i n b → kind_of b.column.items ≡ strings → AreItems (kind_of b.column.items) (held_values b i n)
texts_held b i n is has are = items_held b i n has (λ k below. kept_string (kind_of b.column.items) (held_item b k) are (is.kept k below))

pub words_held : (b : Block) (i n w : ℕ) (xs : List ℕ) → HasRecords i n b → kind_of b.column.items ≡ words w → ((k : ℕ) → held_item b k ≡ word (get_or xs k 0)) → ((k : ℕ) → get_or xs k 0 < 2 ^ w) → AreItems (kind_of b.column.items) (held_values b i n)
words_held b i n w xs has are each small =
    items_held b i n has (λ k below. subst (λ (kind : ItemKind). IsItem kind (held_item b k)) (sym are) (subst (λ (v : Value). IsItem (words w) v) (sym (each k)) (small k)))

-- ---- strings one behind another

part_ends : (most : ℕ) (ends : List ℕ) (a n : ℕ) → a + n ≤ length ends → begin_of 0 ends a ≤ most → ((k : ℕ) → k < a + n → (begin_of 0 ends k ≤ end_of ends k) × (end_of ends k ≤ begin_of 0 ends k + string_limit) × (end_of ends k ≤ most)) → AreEndsFrom most (begin_of 0 ends a) (take n (drop a ends))
unfolding AreEndsFrom
part_ends most ends a zero within first each = first
part_ends most ends a (suc n) within first each =
    let here = each a (omega arith) in
    subst (λ ys. AreEndsFrom most (begin_of 0 ends a) (take (suc n) ys)) (sym (drop_more ends a 0 (omega (arith, within)))) (
      here.0,
      here.1,
      subst (λ (begin : ℕ). AreEndsFrom most begin (take n (drop (a + 1) ends))) (begin_next ends a)
          (part_ends most ends (a + 1) n (omega (arith, within)) (subst (λ (begin : ℕ). begin ≤ most) (sym (begin_next ends a)) here.2) (λ k below. each k (omega (arith, below)))),
    )

-- where a string begins that is read, or would be
begin_inside : (bytes ends : List ℕ) (count k : ℕ) → k ≤ count → AreCut count bytes ends → begin_of 0 ends k ≤ length bytes
begin_inside bytes ends count zero few cut = omega arith
begin_inside bytes ends count (suc k) few cut = (cut k (omega (arith, few))).1

long_string : (kind : ItemKind) (t : List ℕ) → kind ≡ strings → IsKept kind (octets t) → length t ≤ string_limit
long_string (integers low high) t is kept = absurd kept
long_string (words w) t is kept = absurd cc
long_string strings t is kept = kept

short_held : (bytes : List ℕ) (begin end : ℕ) → begin ≤ end → end ≤ length bytes → length (take (end - begin) (drop begin bytes)) ≡ end - begin
short_held bytes begin end order inside =
    let rest = length-drop begin bytes in
    let size = length-take (end - begin) (drop begin bytes) in
    omega (arith, rest, size, order, inside)

pub ends_held : (bytes ends : List ℕ) (b : Block) (i n : ℕ) → IsBlock b → HasRecords i n b → kind_of b.column.items ≡ strings → AreCut b.count bytes ends → places_of b.buffer ≡ length ends → ((k : ℕ) → held_item b k ≡ octets (string_held 0 bytes ends k))
    → AreEndsFrom (length bytes) (begin_of 0 ends (i - b.first)) (take n (drop (i - b.first) ends))
ends_held bytes ends b i n is has kind cut places each =
    let low = has.0 in
    let high = has.1 in
    let few = is.few in
    part_ends (length bytes) ends (i - b.first) n (omega (arith, low, high, few, places)) (begin_inside bytes ends b.count (i - b.first) (omega (arith, low, high)) cut)
    (λ k below.
    let here = cut k (omega (arith, low, high, below)) in
    let order = here.0 in
    let inside = here.1 in
    let size = short_held bytes (begin_of 0 ends k) (end_of ends k) order inside in
    let kept = long_string (kind_of b.column.items) (string_held 0 bytes ends k) kind (subst (λ (v : Value). IsKept (kind_of b.column.items) v) (each k) (is.kept k (omega (arith, low, high, below)))) in
    (order, omega (arith, size, kept, order), inside))

-- ---- as a block shows them

-- the block as it is kept, and as contracts see it
abbrev pub IsShown : Block → ℕ → ℕ → List Value → Type 0
IsShown now i n values = (values ≡ held_values now i n) × AreItems (kind_of now.column.items) values

shown : (b now : Block) (i n : ℕ) (values : List Value) → b ≡ now → values ≡ held_values b i n → AreItems (kind_of b.column.items) (held_values b i n) → IsShown now i n values
shown b now i n values same are items =
    subst (λ (x : Block). IsShown x i n values) same (are, subst (λ (vs : List Value). AreItems (kind_of b.column.items) vs) (sym are) items)

pub ints_run : (b now : Block) (i n m : ℕ) (xs : List ℤ) → b ≡ now → m ≡ n → IsBlock b → HasRecords i n now → AreWhole (kind_of b.column.items) → places_of b.buffer ≡ length xs → ((k : ℕ) → held_item b k ≡ whole (get_or xs k (pos 0))) → IsShown now i n (map whole (take m (drop (i - b.first) xs)))
ints_run b now i n m xs same size is has are places each =
    let held = subst (λ (x : Block). HasRecords i n x) (sym same) has in
    shown b now i n (map whole (take m (drop (i - b.first) xs))) same
    (ap (λ (m : ℕ). map whole (take m (drop (i - b.first) xs))) size ∙ values_held whole (pos 0) xs b i n is held places each)
    (whole_held b i n is held are)

pub words_run : (b now : Block) (i n w : ℕ) (xs part : List ℕ) → b ≡ now → part ≡ take n (drop (i - b.first) xs) → IsBlock b → HasRecords i n now → kind_of b.column.items ≡ words w → places_of b.buffer ≡ length xs → ((k : ℕ) → held_item b k ≡ word (get_or xs k 0)) → ((k : ℕ) → get_or xs k 0 < 2 ^ w) → IsShown now i n (map word part)
words_run b now i n w xs part same cut is has are places each small =
    let held = subst (λ (x : Block). HasRecords i n x) (sym same) has in
    shown b now i n (map word part) same (ap (map word) cut ∙ values_held word 0 xs b i n is held places each) (words_held b i n w xs held are each small)

-- strings, and where they end
pub texts_run : (b now : Block) (i n m begin : ℕ) (bytes ends : List ℕ) → b ≡ now → m ≡ n → begin ≡ begin_of 0 ends (i - b.first) → IsBlock b → HasRecords i n now → kind_of b.column.items ≡ strings → AreCut b.count bytes ends → places_of b.buffer ≡ length ends → ((k : ℕ) → held_item b k ≡ octets (string_held 0 bytes ends k))
    → IsShown now i n (strings_from bytes begin (take m (drop (i - b.first) ends))) × AreEndsFrom (length bytes) begin (take m (drop (i - b.first) ends))
texts_run b now i n m begin bytes ends same size first is has are cut places each =
    let held = subst (λ (x : Block). HasRecords i n x) (sym same) has in
    let all : strings_from bytes begin (take m (drop (i - b.first) ends)) ≡ held_values b i n =
    ap (λ (m : ℕ). strings_from bytes begin (take m (drop (i - b.first) ends))) size
    ∙ ap (λ (q : ℕ). strings_from bytes q (take n (drop (i - b.first) ends))) first
    ∙ strings_held bytes ends b i n is held places each in (
      shown b now i n (strings_from bytes begin (take m (drop (i - b.first) ends))) same all (texts_held b i n is held are),
      subst (λ (m : ℕ). AreEndsFrom (length bytes) begin (take m (drop (i - b.first) ends))) (sym size)
          (subst (λ (q : ℕ). AreEndsFrom (length bytes) q (take n (drop (i - b.first) ends))) (sym first) (ends_held bytes ends b i n is held are cut places each)),
    )
