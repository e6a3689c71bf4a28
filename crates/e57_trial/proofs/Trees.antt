-- The tree is lawful and has no fault of its nodes; it states one cloud, which has no place.
use Rattle.std.proofs.Common.{◌≡◌, ℕ, ◌<◌, ◌≤◌, ◌^◌, List, [], ◌∷◌, Some, None, pos, refl, sym, subst, ap, ◌∙◌, arith, lit<, lit≤, le-ltb}
use Rattle.std.specs.Prelude.{◌++◌, codes, decimal, length, slice_get, Err, Option}
use Rattle.std.specs.Fmt.{digits}
use Rattle.std.proofs.lemmas.Fmt.{length-decimal-le}
use Rattle.std.proofs.lemmas.List.{length-append}
use Rattle.e57_layout.specs.declared.field.Field.{Field}
use Rattle.e57_layout.specs.declared.field.FieldKind.TheVariants.{Int, Scaled, Bits32, Text}
use Rattle.e57_layout.specs.Widths.{bit_length, width}
use Rattle.e57_pieces.specs.Characters.{is_character, AreCharacters}
use Rattle.e57_pieces.specs.Words.{is_space, is_decimal, numeral_from, begins_name, goes_on_name}
use Rattle.e57_elements.specs.Tree.{Element, preorder}
use Rattle.e57_base.specs.declared.fault.Fault.{Fault}
use Rattle.e57_base.specs.declared.fault.TextFault.{TextFault}
use Rattle.e57_base.specs.declared.fault.TextFault.TheVariants.{Refused}
use Rattle.e57_elements.specs.Fault.{HasNotBoth, IsReadFault}
use Rattle.e57_elements.specs.Lawful.{IsLawful, IsLawfulNode}
use Rattle.e57_elements.specs.Limits.{max_text}
use Rattle.e57_elements.specs.Spells.{Spells, Reads}
use Rattle.e57_tree.specs.Held.{cloud_fields, clouds_of, fields_among, items_among, items_of}
use Rattle.e57_tree.specs.Judged.{IsJudged}
use Rattle.e57_copy.proofs.OneTree.{one-tree, IsGoodTree}
use Rattle.e57_elements.specs.declared.tree.RawNode.{RawNode}
use Rattle.e57_nodes.specs.Facts.{facts_of, type_in, type_named, value_of, signed_in, unsigned_in, signed_from, digits_below, when_below, trimmed, without_space, precision_named, is_integer_text}
use Rattle.e57_nodes.specs.Fields.{fields_of, child_named}
use Rattle.e57_nodes.specs.Items.{StatedItem, stated_cloud, stated_item, stated_items}
use Rattle.e57_nodes.specs.Places.{stated_place, with_value, without_places}
use Rattle.e57_nodes.specs.Shape.{shape_of}
use Rattle.e57_nodes.specs.Typed.{typed_fault, type_fault, name_fault, child_fault, attr_fault, limits_fault, compressed_vector_fault, node_fault}
use Rattle.e57_nodes.proofs.Laws.Decimals.{AreCharacters-digits, decimal_writes, unsigned_in-decimal}
use Rattle.e57_plain.proofs.Lawful.{nodes}
use Rattle.e57_plain.proofs.Laws.Whole.{AreSpelled}
use Rattle.e57_trial.specs.Content.{attr, trial_tree, most_records}
use Rattle.e57_trial.specs.Text.{text_front, text_behind}
use Rattle.e57_trial.proofs.Texts.{tree_with, tree_is, spelled}

-- ---- lawful

-- the node of the cloud
abbrev points_node : List ℕ → RawNode
points_node text = record {
  name = codes "points";
  attrs = attr (codes "type") (codes "CompressedVector") ∷ attr (codes "fileOffset") (codes "0") ∷ attr (codes "recordCount") text ∷ [];
  text = [];
  size = 8;
}

points_lawful : (text : List ℕ) → AreCharacters text → IsLawfulNode (points_node text)
unfolding is_character begins_name goes_on_name
points_lawful text are =
    let like = (nodes (points_node [] ∷ []) refl).0 in
    record {
      is_name = like.is_name;
      name = like.name;
      each = (like.each.0, (like.each.1.0, (record { is_name = like.each.1.1.0.is_name; name = like.each.1.1.0.name; value = are }, tt)));
      names_differ = refl;
      few_attrs = like.few_attrs;
      text = like.text;
      no_space = λ many space. refl;
    }

lawful_with : (text : List ℕ) → AreCharacters text → IsLawful (tree_with (codes "0") text)
unfolding is_character begins_name goes_on_name
lawful_with text are =
    let all = nodes (preorder (tree_with (codes "0") [])) refl in
    record {
      each = (all.0, (all.1.0, (all.1.1.0, (points_lawful text are, all.1.1.1.1))));
      not_deep = lit≤ tt;
      not_large = lit≤ tt;
    }

pub lawful : (count : ℕ) → count < 2 ^ 64 → IsLawful (trial_tree count)
lawful count small = subst (λ (e : Element). IsLawful e) (sym (tree_is count)) (lawful_with (decimal count) (AreCharacters-digits (decimal count) (decimal_writes count small).digits))

-- ---- without fault

zero_read : unsigned_in (codes "0") ≡ Some 0
unfolding digits
zero_read = unsigned_in-decimal 0 (lit< tt)

typed_with : (text : List ℕ) (count : ℕ) → unsigned_in text ≡ Some count → count ≤ 2 ^ 40 → typed_fault (shape_of (tree_with (codes "0") text)) ≡ None
unfolding facts_of type_in type_named value_of signed_in signed_from digits_below when_below trimmed without_space is_space is_decimal numeral_from precision_named is_integer_text fields_of child_named type_fault name_fault child_fault attr_fault limits_fault compressed_vector_fault node_fault bit_length width
typed_with text count counted few = rw (zero_read, counted, le-ltb (2 ^ 40) count few) refl

pub typed : (count : ℕ) → count ≤ most_records → typed_fault (shape_of (trial_tree count)) ≡ None
typed count few = ap (λ (e : Element). typed_fault (shape_of e)) (tree_is count) ∙ typed_with (decimal count) count (unsigned_in-decimal count (omega (arith, few))) (omega (arith, few))

-- ---- one cloud

abbrev pub trial_fields : List Field
trial_fields =
    record { node = 5; path = codes "cartesianX"; kind = Scaled (pos 0) (pos 1048575) (codes "0.001") (codes "0"); width = 20 }
    ∷ record { node = 6; path = codes "cartesianY"; kind = Scaled (pos 0) (pos 1048575) (codes "0.001") (codes "0"); width = 20 }
    ∷ record { node = 7; path = codes "intensity"; kind = Int (pos 0) (pos 255); width = 8 }
    ∷ record { node = 8; path = codes "rowIndex"; kind = Int (pos 0) (pos 0); width = 0 }
    ∷ record { node = 9; path = codes "cartesianZ"; kind = Bits32; width = 32 }
    ∷ record { node = 10; path = codes "tag"; kind = Text; width = 0 }
    ∷ []

stated_with : (text : List ℕ) (count : ℕ) → unsigned_in text ≡ Some count → stated_items (shape_of (tree_with (codes "0") text)) ≡ stated_cloud 3 count trial_fields ∷ []
unfolding facts_of type_in type_named value_of signed_in signed_from digits_below when_below trimmed without_space is_space is_decimal numeral_from precision_named is_integer_text stated_item fields_of child_named bit_length width
stated_with text count counted = rw counted refl

pub stated : (count : ℕ) → count ≤ most_records → stated_items (shape_of (trial_tree count)) ≡ stated_cloud 3 count trial_fields ∷ []
stated count few = ap (λ (e : Element). stated_items (shape_of e)) (tree_is count) ∙ stated_with (decimal count) count (unsigned_in-decimal count (omega (arith, few)))

placeless_with : (text : List ℕ) → without_places (tree_with (codes "0") text) ≡ tree_with (codes "0") text
unfolding type_in type_named value_of stated_place with_value
placeless_with text = refl

pub placeless : (count : ℕ) → without_places (trial_tree count) ≡ trial_tree count
placeless count = ap without_places (tree_is count) ∙ placeless_with (decimal count) ∙ sym (tree_is count)

-- ---- as the tree's calls give it

clouds_with : (text : List ℕ) → length (clouds_of (tree_with (codes "0") text)) ≡ 1
unfolding facts_of type_in type_named value_of stated_item stated_place
clouds_with text = refl

cloud_count : (count : ℕ) → length (clouds_of (trial_tree count)) ≡ 1
cloud_count count = ap (λ (e : Element). length (clouds_of e)) (tree_is count) ∙ clouds_with (decimal count)

-- a tree with these nodes
module _ (count : ℕ) (few : count ≤ most_records) (nodes : List RawNode) (is : nodes ≡ preorder (trial_tree count)) where
  pub one_cloud : (e : Element) → nodes ≡ preorder e → 0 < length (clouds_of e)
  one_cloud e same = subst (λ (d : Element). 0 < length (clouds_of d)) (one-tree nodes (trial_tree count) e is same) (let one = cloud_count count in omega (arith, one))

  pub one_item : (e : Element) → nodes ≡ preorder e → 1 ≡ length (items_of e)
  one_item e same = subst (λ (d : Element). 1 ≡ length (items_of d)) (one-tree nodes (trial_tree count) e is same) (sym (ap (λ (items : List StatedItem). length (items_among 0 0 items)) (stated count few)))

  pub its_fields : (fields : List Field) → ((e : Element) → nodes ≡ preorder e → slice_get (cloud_fields e) 0 ≡ Some fields) → fields ≡ trial_fields
  its_fields fields at =
      let there : ◌≡◌ {A = Option (List Field)} (Some trial_fields) (Some fields) = sym (ap (λ (items : List StatedItem). slice_get (fields_among items) 0) (stated count few)) ∙ at (trial_tree count) is in
      sym cc

pub good : (count : ℕ) → count ≤ most_records → IsGoodTree (trial_tree count)
good count few = record { is_lawful = lawful count (omega (arith, few)); typed = typed count few }

-- ---- what reading its text gives

module _ (text : List ℕ) (count : ℕ) (few : count ≤ most_records) (is : text ≡ text_front ++ (decimal count ++ text_behind)) (all : AreSpelled) where
  small : count < 2 ^ 64
  small = omega (arith, few)

  spells : Spells text (trial_tree count)
  spells = subst (λ (t : List ℕ). Spells t (trial_tree count)) (spelled count small ∙ sym is) (all (trial_tree count) (lawful count small))

  pub text_short : length text ≤ max_text
  text_short =
      let digits = length-decimal-le 20 count (omega arith) (omega (arith, few)) small in
      let front : length text_front ≡ 230 = refl in
      let behind : length text_behind ≡ 430 = refl in
      subst (λ (t : List ℕ). length t ≤ max_text) (sym is) (omega (arith, digits, front, behind, length-append text_front (decimal count ++ text_behind), length-append (decimal count) text_behind))

  pub text_read : ((t : List ℕ) (a b : Element) → Spells t a → Spells t b → a ≡ b) → (nodes : List RawNode) → Reads text nodes → nodes ≡ preorder (trial_tree count)
  text_read one nodes reads = reads.in_preorder ∙ ap preorder (one text reads.tree (trial_tree count) reads.spells spells)

  pub text_unrefused : ((t : List ℕ) → HasNotBoth t) → (failure : TextFault) (found : Fault) → failure ≡ Refused found → IsReadFault text failure → ⊥
  text_unrefused either failure found is refused = either text (trial_tree count) found spells (lawful count small) (subst (λ (f : TextFault). IsReadFault text f) is refused)

pub tree_unrefused : (T : Type 0) (count : ℕ) (failure : TextFault) (found : Fault) → count ≤ most_records → failure ≡ Refused found → IsJudged {T = T} (Err failure) (typed_fault (shape_of (trial_tree count))) → ⊥
tree_unrefused T count failure found few is judged =
    let never : ◌≡◌ {A = Option Fault} None (Some found) = sym (typed count few) ∙ subst (λ (f : TextFault). IsJudged {T = T} (Err f) (typed_fault (shape_of (trial_tree count)))) is judged in
    absurd cc
