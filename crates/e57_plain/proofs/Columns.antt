-- A test that computes, for columns of items: those that pass it are columns of these fields.
use Rattle.std.proofs.Common.{◌≡◌, ℕ, ℤ, ◌^◌, Bool, true, false, ◌&&◌, ◌==◌, List, [], ◌∷◌, length, sym, subst}
use Rattle.std.proofs.lemmas.Bool.{ltb-true, leb-true, eqb-true, and_parts}
use Rattle.std.specs.Prelude.{nat_lt, nat_le, int_le, ◌≤ℤ◌}
use Rattle.std.specs.List.{list_all}
use lib.Signed.{le_z_yes}
use lib.Dec.{T}
use Rattle.e57_layout.specs.Strings.{string_limit}
use Rattle.e57_layout.specs.Values.{ItemKind, integers, words, strings, Value, whole, word, octets}
use Rattle.e57_layout.specs.Items.{IsItem, AreItems, AreColumns}

abbrev pub is_item : ItemKind → Value → Bool
is_item (integers low high) (whole z) = int_le low z && int_le z high
is_item (integers low high) (word n) = false
is_item (integers low high) (octets t) = false
is_item (words w) (whole z) = false
is_item (words w) (word n) = nat_lt n (2 ^ w)
is_item (words w) (octets t) = false
is_item strings (whole z) = false
is_item strings (word n) = false
is_item strings (octets t) = nat_le (length t) string_limit

in_order : (a b : ℤ) → int_le a b ≡ true → a ≤ℤ b
in_order a b is = le_z_yes (subst T (sym is) tt)

item : (kind : ItemKind) (value : Value) → is_item kind value ≡ true → IsItem kind value
item (integers low high) (whole z) is = let parts = and_parts (int_le low z) (int_le z high) is in (in_order low z parts.0, in_order z high parts.1)
item (integers low high) (word n) is = absurd (cc)
item (integers low high) (octets t) is = absurd (cc)
item (words w) (whole z) is = absurd (cc)
item (words w) (word n) is = ltb-true _ _ is
item (words w) (octets t) is = absurd (cc)
item strings (whole z) is = absurd (cc)
item strings (word n) is = absurd (cc)
item strings (octets t) is = leb-true _ _ is

items : (kind : ItemKind) (values : List Value) → list_all (is_item kind) values ≡ true → AreItems kind values
items kind [] are = tt
items kind (value ∷ values) are =
    let parts = and_parts (is_item kind value) (list_all (is_item kind) values) are in
    (item kind value parts.0, items kind values parts.1)

abbrev pub are_columns : List ItemKind → ℕ → List (List Value) → Bool
are_columns [] n [] = true
are_columns [] n (column ∷ columns) = false
are_columns (kind ∷ kinds) n [] = false
are_columns (kind ∷ kinds) n (column ∷ columns) = length column == n && (list_all (is_item kind) column && are_columns kinds n columns)

pub valid-columns : (kinds : List ItemKind) (n : ℕ) (values : List (List Value)) → are_columns kinds n values ≡ true → AreColumns kinds n values
valid-columns [] n [] are = tt
valid-columns [] n (column ∷ later) are = absurd (cc)
valid-columns (kind ∷ kinds) n [] are = absurd (cc)
valid-columns (kind ∷ kinds) n (column ∷ later) are =
    let first = and_parts (length column == n) (list_all (is_item kind) column && are_columns kinds n later) are in
    let rest = and_parts (list_all (is_item kind) column) (are_columns kinds n later) first.1 in
    (eqb-true _ _ first.0, items kind column rest.0, valid-columns kinds n later rest.1)
