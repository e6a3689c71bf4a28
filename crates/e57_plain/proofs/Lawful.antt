-- A test that computes, for trees of ASCII text: those that pass it are lawful.
use Rattle.std.proofs.Common.{◌≡◌, ℕ, ◌<◌, ◌≤◌, Bool, true, false, ◌&&◌, List, [], ◌∷◌, ◌++◌, length, refl, ap, ◌∙◌, arith}
use Rattle.std.specs.Prelude.{nat_lt, nat_le}
use Rattle.std.specs.List.{list_all, AllByRecursion}
use Rattle.std.specs.Str.{encode_utf8_all}
use Rattle.std.proofs.lemmas.Bool.Decides.{nat_tests}
use Rattle.std.proofs.lemmas.Str.{encode_ascii}
use Rattle.e57_pieces.specs.declared.piece.Attr.{Attr}
use Rattle.e57_pieces.specs.Characters.{is_character, AreCharacters}
use Rattle.e57_pieces.specs.Grammar.{differ}
use Rattle.e57_pieces.specs.Words.{begins_name, goes_on_name, IsName, Each}
use Rattle.e57_elements.specs.declared.tree.RawNode.{RawNode}
use Rattle.e57_elements.specs.Lawful.{IsLawfulAttr, IsLawfulNode}
use Rattle.std.proofs.lemmas.Bool.{and_parts}

abbrev pub is_ascii : ℕ → Bool
is_ascii b = nat_lt b 128 && is_character b

ascii : (bytes : List ℕ) → list_all is_ascii bytes ≡ true → AreCharacters bytes
ascii bytes are = record { numbers = bytes; each = each bytes are; spelled = spelled bytes are }
  where
    each : (bs : List ℕ) → list_all is_ascii bs ≡ true → AllByRecursion (λ c. is_character c ≡ true) bs
    each [] h = tt
    each (b ∷ bs) h =
        let parts = and_parts (is_ascii b) (list_all is_ascii bs) h in
        ((and_parts (nat_lt b 128) (is_character b) parts.0).1, each bs parts.1)

    small : (b : ℕ) → nat_lt b 128 ≡ true → b < 128
    small b h = grind (arith, nat_tests)

    spelled : (bs : List ℕ) → list_all is_ascii bs ≡ true → encode_utf8_all bs ≡ bs
    spelled [] h = refl
    spelled (b ∷ bs) h =
        let parts = and_parts (is_ascii b) (list_all is_ascii bs) h in
        let below : b < 128 = small b (and_parts (nat_lt b 128) (is_character b) parts.0).0 in
        ap (λ front. front ++ encode_utf8_all bs) (encode_ascii b below) ∙ ap (λ rest. b ∷ rest) (spelled bs parts.1)

abbrev pub is_name : List ℕ → Bool
is_name [] = false
is_name (b ∷ bs) = begins_name b && list_all goes_on_name bs

name : (bytes : List ℕ) → is_name bytes ≡ true → IsName bytes
name [] is = absurd (cc)
name (b ∷ bs) is = let parts = and_parts (begins_name b) (list_all goes_on_name bs) is in (parts.0, each bs parts.1) where
  each : (cs : List ℕ) → list_all goes_on_name cs ≡ true → Each goes_on_name cs
  each [] h = tt
  each (c ∷ cs) h = let parts = and_parts (goes_on_name c) (list_all goes_on_name cs) h in (parts.0, each cs parts.1)

abbrev pub is_attr : Attr → Bool
is_attr attr = is_name attr.name && (list_all is_ascii attr.name && list_all is_ascii attr.value)

attr : (a : Attr) → is_attr a ≡ true → IsLawfulAttr a
attr a is =
    let first = and_parts (is_name a.name) (list_all is_ascii a.name && list_all is_ascii a.value) is in
    let rest = and_parts (list_all is_ascii a.name) (list_all is_ascii a.value) first.1 in
    record { is_name = name a.name first.0; name = ascii a.name rest.0; value = ascii a.value rest.1 }

attrs : (xs : List Attr) → list_all is_attr xs ≡ true → AllByRecursion IsLawfulAttr xs
attrs [] h = tt
attrs (a ∷ rest) h = let parts = and_parts (is_attr a) (list_all is_attr rest) h in (attr a parts.0, attrs rest parts.1)

abbrev pub is_empty : List ℕ → Bool
is_empty [] = true
is_empty (b ∷ bs) = false

-- a node without text
abbrev pub is_node : RawNode → Bool
is_node node = is_attr (record { name = node.name; value = [] }) && (list_all is_attr node.attrs && (differ node.attrs && (nat_le (length node.attrs) 64 && is_empty node.text)))

empty : (text : List ℕ) → is_empty text ≡ true → text ≡ []
empty [] is = refl
empty (b ∷ bs) is = absurd (cc)

few : (n : ℕ) → nat_le n 64 ≡ true → n ≤ 64
few n is = grind (arith, nat_tests)

no-text : (text : List ℕ) → text ≡ [] → AreCharacters text
no-text [] is = record { numbers = []; each = tt; spelled = refl }
no-text (b ∷ bs) is = absurd (cc)

node : (x : RawNode) → is_node x ≡ true → IsLawfulNode x
node x is =
    let a = and_parts (is_attr (record { name = x.name; value = [] })) (list_all is_attr x.attrs && (differ x.attrs && (nat_le (length x.attrs) 64 && is_empty x.text))) is in
    let b = and_parts (list_all is_attr x.attrs) (differ x.attrs && (nat_le (length x.attrs) 64 && is_empty x.text)) a.1 in
    let c = and_parts (differ x.attrs) (nat_le (length x.attrs) 64 && is_empty x.text) b.1 in
    let d = and_parts (nat_le (length x.attrs) 64) (is_empty x.text) c.1 in
    let own = attr (record { name = x.name; value = [] }) a.0 in
    let none = empty x.text d.1 in
    record {
      is_name = own.is_name;
      name = own.name;
      each = attrs x.attrs b.0;
      names_differ = c.0;
      few_attrs = few (length x.attrs) d.0;
      text = no-text x.text none;
      no_space = λ many space. none;
    }

pub nodes : (xs : List RawNode) → list_all is_node xs ≡ true → AllByRecursion IsLawfulNode xs
nodes [] h = tt
nodes (x ∷ xs) h = let parts = and_parts (is_node x) (list_all is_node xs) h in (node x parts.0, nodes xs parts.1)
