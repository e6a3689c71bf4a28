-- Other places in a tree: the nodes and what is read of them stay, and the places are those that were put.
use Rattle.std.proofs.Common.{◌≡◌, ℕ, zero, suc, ◌+◌, ◌^◌, ◌<◌, ◌≤◌, Bool, true, false, cond, List, [], ◌∷◌, ◌++◌, length, drop, map, Option, Some, None, is_some, refl, sym, ap, subst, ◌∙◌, arith, length-append, length-drop, max}
use Rattle.std.specs.Prelude.{codes, slice_index_or, unwrap_or, option_map, option_and_then, replicate}
use Rattle.std.specs.Fmt.{decimal}
use Rattle.std.specs.List.{AllByRecursion, filter_map, cons_option}
use Rattle.std.proofs.lemmas.List.Elements.{filter_map-append}
use Rattle.e57_pieces.specs.declared.piece.Attr.{Attr}
use Rattle.e57_elements.specs.declared.tree.RawNode.{RawNode}
use Rattle.e57_elements.specs.Tree.{Element, element, Elements, none, more, preorder, preorder_all, depth, depth_all}
use Rattle.e57_elements.specs.Lawful.{IsLawfulAttr, IsLawfulNode, IsLawful}
use Rattle.e57_pieces.specs.Characters.{AreCharacters}
use Rattle.e57_pieces.proofs.Laws.Characters.{AreCharacters-nil}
use Rattle.e57_nodes.specs.Facts.{value_of, unsigned_in, type_in, facts_of}
use Rattle.e57_nodes.specs.Shape.{shape, shapes, shape_of, shapes_of}
use Rattle.e57_nodes.specs.Places.{is_cloud_or_blob, place_name, stated_place, places_in, with_value, with_places, with_places_all, without_places, item_count, placed_node, texts_after, placed_nodes}
use Rattle.e57_nodes.proofs.Laws.Decimals.{unsigned_in-decimal, decimal_writes, AreCharacters-digits}
use Rattle.e57_nodes.proofs.Laws.Values.{value_of-with_value, value_of-with_other, with_value-twice, length-with_value, all-with_value, differ-with_value}
use Rattle.e57_nodes.specs.Places.{IsPlaced, ArePlaced, AreReadable, AreTexts}

-- ---- one element

-- the places of elements one after another
abbrev pub places_in_all : Elements → List ℕ
places_in_all es = filter_map stated_place (preorder_all es)

abbrev pub node_of : List ℕ → List Attr → List ℕ → Elements → RawNode
node_of name attrs text children = record { name = name; attrs = attrs; text = text; size = length (preorder_all children) + 1 }

stated-item : (node : RawNode) → is_cloud_or_blob node.attrs ≡ true → stated_place node ≡ Some (unwrap_or (option_and_then unsigned_in (value_of place_name node.attrs)) 0)
unfolding stated_place
stated-item node e = ap (λ (b : Bool). cond b (Some (unwrap_or (option_and_then unsigned_in (value_of place_name node.attrs)) 0)) None) e

pub stated-other : (node : RawNode) → is_cloud_or_blob node.attrs ≡ false → stated_place node ≡ None
unfolding stated_place
stated-other node e = ap (λ (b : Bool). cond b (Some (unwrap_or (option_and_then unsigned_in (value_of place_name node.attrs)) 0)) None) e

-- the attributes with a new place have the type that they had
pub type_in-with_place : (value : List ℕ) (attrs : List Attr) → type_in (with_value place_name value attrs) ≡ type_in attrs
unfolding type_in
type_in-with_place value attrs = rw (value_of-with_other place_name value (codes "type") attrs refl) refl

pub is_item-with_place : (value : List ℕ) (attrs : List Attr) → is_cloud_or_blob (with_value place_name value attrs) ≡ is_cloud_or_blob attrs
is_item-with_place value attrs = rw (type_in-with_place value attrs) refl

pub length-placed_nodes : (texts : List (List ℕ)) (nodes : List RawNode) → length (placed_nodes texts nodes) ≡ length nodes
length-placed_nodes texts [] = refl
length-placed_nodes texts (node ∷ nodes) = ap suc (length-placed_nodes (texts_after texts node) nodes)

drop_one : (k : ℕ) (texts : List (List ℕ)) → drop k (drop 1 texts) ≡ drop (suc k) texts
drop_one zero [] = refl
drop_one (suc k) [] = refl
drop_one k (t ∷ ts) = refl

item_count-item : (node : RawNode) (nodes : List RawNode) → is_cloud_or_blob node.attrs ≡ true → item_count (node ∷ nodes) ≡ suc (item_count nodes)
item_count-item node nodes e = ap (λ o. length (cons_option o (filter_map stated_place nodes))) (stated-item node e)

item_count-other : (node : RawNode) (nodes : List RawNode) → is_cloud_or_blob node.attrs ≡ false → item_count (node ∷ nodes) ≡ item_count nodes
item_count-other node nodes e = ap (λ o. length (cons_option o (filter_map stated_place nodes))) (stated-other node e)

-- the texts that are left after a node and others behind it
drop_after : (texts : List (List ℕ)) (node : RawNode) (nodes : List RawNode) → drop (item_count nodes) (texts_after texts node) ≡ drop (item_count (node ∷ nodes)) texts
drop_after texts node nodes = by_test (is_cloud_or_blob node.attrs) refl where
  by_test : (b : Bool) → is_cloud_or_blob node.attrs ≡ b → drop (item_count nodes) (texts_after texts node) ≡ drop (item_count (node ∷ nodes)) texts
  by_test true e =
      ap (λ (b : Bool). drop (item_count nodes) (cond b (drop 1 texts) texts)) e
      ∙ drop_one (item_count nodes) texts ∙ ap (λ k. drop k texts) (sym (item_count-item node nodes e))
  by_test false e =
      ap (λ (b : Bool). drop (item_count nodes) (cond b (drop 1 texts) texts)) e ∙ ap (λ k. drop k texts) (sym (item_count-other node nodes e))

pub placed_nodes-append : (texts : List (List ℕ)) (xs ys : List RawNode) → placed_nodes texts (xs ++ ys) ≡ placed_nodes texts xs ++ placed_nodes (drop (item_count xs) texts) ys
placed_nodes-append texts [] ys = refl
placed_nodes-append texts (node ∷ xs) ys =
    ap (λ rest. placed_node texts node ∷ rest) (placed_nodes-append (texts_after texts node) xs ys)
    ∙ ap (λ ts. placed_node texts node ∷ (placed_nodes (texts_after texts node) xs ++ placed_nodes ts ys)) (drop_after texts node xs)

-- ---- the tree

-- with_places, as one element whose attributes are those of its node
with_places-is : (texts : List (List ℕ)) (name : List ℕ) (attrs : List Attr) (text : List ℕ) (children : Elements)
    → with_places texts (element name attrs text children)
    ≡ element name (placed_node texts (node_of name attrs text children)).attrs text (with_places_all (texts_after texts (node_of name attrs text children)) children)
with_places-is texts name attrs text children = by_test (is_cloud_or_blob attrs) refl where
  by_test : (b : Bool) → is_cloud_or_blob attrs ≡ b
      → with_places texts (element name attrs text children)
      ≡ element name (placed_node texts (node_of name attrs text children)).attrs text (with_places_all (texts_after texts (node_of name attrs text children)) children)
  by_test true e = rw e refl
  by_test false e = rw e refl

-- a node and those below it
node_same : (texts : List (List ℕ)) (node : RawNode) (children : Elements) (below : List RawNode)
    → preorder_all children ≡ placed_nodes (texts_after texts node) below → node.size ≡ length below + 1
    → preorder (element node.name (placed_node texts node).attrs node.text children) ≡ placed_nodes texts (node ∷ below)
node_same texts node children below later size = by_test (is_cloud_or_blob node.attrs) refl where
  same_size : length (preorder_all children) + 1 ≡ node.size
  same_size = ap (λ ns. length ns + 1) later ∙ ap (λ n. n + 1) (length-placed_nodes (texts_after texts node) below) ∙ sym size

  by_test : (b : Bool) → is_cloud_or_blob node.attrs ≡ b
      → preorder (element node.name (placed_node texts node).attrs node.text children) ≡ placed_nodes texts (node ∷ below)
  by_test true e = rw (same_size, later, e) refl
  by_test false e = rw (same_size, later, e) refl

mutual
  -- The nodes are those of the tree, with the new places.
  pub preorder-with_places : (texts : List (List ℕ)) (e : Element) → preorder (with_places texts e) ≡ placed_nodes texts (preorder e)
  preorder-with_places texts (element name attrs text children) =
      let later = preorder-with_places_all (texts_after texts (node_of name attrs text children)) children in
      ap preorder (with_places-is texts name attrs text children)
      ∙ node_same texts (node_of name attrs text children) (with_places_all (texts_after texts (node_of name attrs text children)) children) (preorder_all children) later refl

  pub preorder-with_places_all : (texts : List (List ℕ)) (es : Elements) → preorder_all (with_places_all texts es) ≡ placed_nodes texts (preorder_all es)
  preorder-with_places_all texts none = refl
  preorder-with_places_all texts (more e es) =
      ap (λ ns. ns ++ preorder_all (with_places_all (drop (length (places_in e)) texts) es)) (preorder-with_places texts e)
      ∙ ap (λ ns. placed_nodes texts (preorder e) ++ ns) (preorder-with_places_all (drop (length (places_in e)) texts) es)
      ∙ sym (placed_nodes-append texts (preorder e) (preorder_all es))

readable_place : (found : Option (List ℕ)) (value : List ℕ) → is_some (option_and_then unsigned_in found) ≡ true → is_some (unsigned_in value) ≡ true
    → is_some (option_and_then unsigned_in (option_map (λ _. value) found)) ≡ is_some (option_and_then unsigned_in found)
readable_place None value e f = refl
readable_place (Some old) value e f = f ∙ sym e

facts_of-with_place : (name : List ℕ) (attrs : List Attr) (text value : List ℕ) → is_some (unsigned_in value) ≡ true → is_some (option_and_then unsigned_in (value_of place_name attrs)) ≡ true
    → facts_of name (with_value place_name value attrs) text ≡ facts_of name attrs text
unfolding facts_of
facts_of-with_place name attrs text value readable old =
    let place : is_some (option_and_then unsigned_in (value_of place_name (with_value place_name value attrs))) ≡ is_some (option_and_then unsigned_in (value_of place_name attrs)) =
    ap (λ o. is_some (option_and_then unsigned_in o)) (value_of-with_value place_name value attrs) ∙ readable_place (value_of place_name attrs) value old readable in
    rw (
      type_in-with_place value attrs,
      place,
      value_of-with_other place_name value (codes "minimum") attrs refl,
      value_of-with_other place_name value (codes "maximum") attrs refl,
      value_of-with_other place_name value (codes "scale") attrs refl,
      value_of-with_other place_name value (codes "offset") attrs refl,
      value_of-with_other place_name value (codes "precision") attrs refl,
      value_of-with_other place_name value (codes "recordCount") attrs refl,
      value_of-with_other place_name value (codes "length") attrs refl,
    ) refl

first_readable : (texts : List (List ℕ)) → 0 < length texts → AreReadable texts → is_some (unsigned_in (slice_index_or texts 0 [])) ≡ true
first_readable [] some all = absurd (omega arith)
first_readable (t ∷ ts) some all = all.0

drop_readable : (k : ℕ) (texts : List (List ℕ)) → AreReadable texts → AreReadable (drop k texts)
drop_readable zero texts all = all
drop_readable (suc k) [] all = tt
drop_readable (suc k) (t ∷ ts) all = drop_readable k ts all.1

texts_after_readable : (texts : List (List ℕ)) (node : RawNode) → AreReadable texts → AreReadable (texts_after texts node)
texts_after_readable texts node all = by_test (is_cloud_or_blob node.attrs) refl where
  by_test : (b : Bool) → is_cloud_or_blob node.attrs ≡ b → AreReadable (texts_after texts node)
  by_test true e = rw e (drop_readable 1 texts all)
  by_test false e = rw e all

-- as many texts are left as are needed
enough_after : (texts : List (List ℕ)) (node : RawNode) (nodes : List RawNode) → item_count (node ∷ nodes) ≤ length texts → item_count nodes ≤ length (texts_after texts node)
enough_after texts node nodes few = by_test (is_cloud_or_blob node.attrs) refl where
  by_test : (b : Bool) → is_cloud_or_blob node.attrs ≡ b → item_count nodes ≤ length (texts_after texts node)
  by_test true e = let n = item_count-item node nodes e in rw e (omega (arith, length-drop 1 texts))
  by_test false e = let n = item_count-other node nodes e in rw e (omega arith)

item_count-append : (xs ys : List RawNode) → item_count (xs ++ ys) ≡ item_count xs + item_count ys
item_count-append xs ys = ap length (filter_map-append stated_place xs ys) ∙ length-append (filter_map stated_place xs) (filter_map stated_place ys)

placed_facts : (texts : List (List ℕ)) (node : RawNode) (nodes : List RawNode) → item_count (node ∷ nodes) ≤ length texts → AreReadable texts → IsPlaced node
    → facts_of node.name (placed_node texts node).attrs node.text ≡ facts_of node.name node.attrs node.text
placed_facts texts node nodes enough readable placed = by_test (is_cloud_or_blob node.attrs) refl where
  by_test : (b : Bool) → is_cloud_or_blob node.attrs ≡ b → facts_of node.name (placed_node texts node).attrs node.text ≡ facts_of node.name node.attrs node.text
  by_test true e =
      let n = item_count-item node nodes e in
      ap (λ (b : Bool). facts_of node.name (cond b (record { name = node.name; attrs = with_value place_name (slice_index_or texts 0 []) node.attrs; text = node.text; size = node.size }) node).attrs node.text) e
      ∙ facts_of-with_place node.name node.attrs node.text (slice_index_or texts 0 []) (first_readable texts (omega arith) readable) (placed.readable e)
  by_test false e =
      ap (λ (b : Bool). facts_of node.name (cond b (record { name = node.name; attrs = with_value place_name (slice_index_or texts 0 []) node.attrs; text = node.text; size = node.size }) node).attrs node.text) e

parts_placed : (xs ys : List RawNode) → ArePlaced (xs ++ ys) → ArePlaced xs × ArePlaced ys
parts_placed [] ys all = (tt, all)
parts_placed (x ∷ xs) ys all = let parts = parts_placed xs ys all.1 in ((all.0, parts.0), parts.1)

mutual
  -- What is read of the elements stays.
  pub shape_of-with_places : (texts : List (List ℕ)) (e : Element) → item_count (preorder e) ≤ length texts → AreReadable texts → ArePlaced (preorder e) → shape_of (with_places texts e) ≡ shape_of e
  shape_of-with_places texts (element name attrs text children) enough readable placed =
      let node = node_of name attrs text children in
      ap shape_of (with_places-is texts name attrs text children)
      ∙ ap (λ below. shape (facts_of name (placed_node texts node).attrs text) below)
      (shapes_of-with_places_all (texts_after texts node) children (enough_after texts node (preorder_all children) enough) (texts_after_readable texts node readable) placed.1)
      ∙ ap (λ facts. shape facts (shapes_of children)) (placed_facts texts node (preorder_all children) enough readable placed.0)

  pub shapes_of-with_places_all : (texts : List (List ℕ)) (es : Elements) → item_count (preorder_all es) ≤ length texts → AreReadable texts → ArePlaced (preorder_all es)
      → shapes_of (with_places_all texts es) ≡ shapes_of es
  shapes_of-with_places_all texts none enough readable placed = refl
  shapes_of-with_places_all texts (more e es) enough readable placed =
      let parts = parts_placed (preorder e) (preorder_all es) placed in
      let count = item_count-append (preorder e) (preorder_all es) in
      ap (λ s. shapes s (shapes_of (with_places_all (drop (length (places_in e)) texts) es))) (shape_of-with_places texts e (omega arith) readable parts.0)
      ∙ ap (λ ss. shapes (shape_of e) ss)
      (shapes_of-with_places_all (drop (length (places_in e)) texts) es (omega (arith, length-drop (length (places_in e)) texts)) (drop_readable (length (places_in e)) texts readable) parts.1)

-- ---- how deep it reaches

mutual
  pub depth-with_places : (texts : List (List ℕ)) (e : Element) → depth (with_places texts e) ≡ depth e
  depth-with_places texts (element name attrs text children) =
      ap depth (with_places-is texts name attrs text children) ∙ ap (λ d. d + 1) (depth_all-with_places_all (texts_after texts (node_of name attrs text children)) children)

  pub depth_all-with_places_all : (texts : List (List ℕ)) (es : Elements) → depth_all (with_places_all texts es) ≡ depth_all es
  depth_all-with_places_all texts none = refl
  depth_all-with_places_all texts (more e es) =
      ap (λ d. max d (depth_all (with_places_all (drop (length (places_in e)) texts) es))) (depth-with_places texts e)
      ∙ ap (λ d. max (depth e) d) (depth_all-with_places_all (drop (length (places_in e)) texts) es)

first_characters : (texts : List (List ℕ)) → AreTexts texts → AreCharacters (slice_index_or texts 0 [])
first_characters [] all = AreCharacters-nil
first_characters (t ∷ ts) all = all.0

texts_after_characters : (texts : List (List ℕ)) (node : RawNode) → AreTexts texts → AreTexts (texts_after texts node)
texts_after_characters texts node all = by_test (is_cloud_or_blob node.attrs) refl where
  dropped : (ts : List (List ℕ)) → AreTexts ts → AreTexts (drop 1 ts)
  dropped [] all = tt
  dropped (t ∷ ts) all = all.1

  by_test : (b : Bool) → is_cloud_or_blob node.attrs ≡ b → AreTexts (texts_after texts node)
  by_test true e = rw e (dropped texts all)
  by_test false e = rw e all

placed_lawful : (texts : List (List ℕ)) (node : RawNode) → AreTexts texts → IsLawfulNode node → IsLawfulNode (placed_node texts node)
placed_lawful texts node all h = by_test (is_cloud_or_blob node.attrs) refl where
  value : List ℕ
  value = slice_index_or texts 0 []

  revalued_lawful : IsLawfulNode (record { name = node.name; attrs = with_value place_name value node.attrs; text = node.text; size = node.size })
  revalued_lawful = record {
    is_name = h.is_name;
    name = h.name;
    each = all-with_value IsLawfulAttr place_name value node.attrs (λ attr k. record { is_name = k.is_name; name = k.name; value = first_characters texts all }) h.each;
    names_differ = differ-with_value place_name value node.attrs ∙ h.names_differ;
    few_attrs = let same = length-with_value place_name value node.attrs in omega (arith, h.few_attrs);
    text = h.text;
    no_space = h.no_space;
  }

  by_test : (b : Bool) → is_cloud_or_blob node.attrs ≡ b → IsLawfulNode (placed_node texts node)
  by_test true e = rw e revalued_lawful
  by_test false e = rw e h

all_lawful : (texts : List (List ℕ)) (nodes : List RawNode) → AreTexts texts → AllByRecursion IsLawfulNode nodes → AllByRecursion IsLawfulNode (placed_nodes texts nodes)
all_lawful texts [] all h = tt
all_lawful texts (node ∷ nodes) all h = (placed_lawful texts node all h.0, all_lawful (texts_after texts node) nodes (texts_after_characters texts node all) h.1)

-- A lawful tree is lawful with other places.
pub IsLawful-with_places : (texts : List (List ℕ)) (e : Element) → AreTexts texts → IsLawful e → IsLawful (with_places texts e)
IsLawful-with_places texts e all h =
    let nodes = preorder-with_places texts e in
    record {
      each = subst (λ (ns : List RawNode). AllByRecursion IsLawfulNode ns) (sym nodes) (all_lawful texts (preorder e) all h.each);
      not_deep = let same = depth-with_places texts e in omega (arith, h.not_deep);
      not_large = let same = ap length nodes ∙ length-placed_nodes texts (preorder e) in omega (arith, h.not_large);
    }

-- Numbers in decimal are characters, and are read again.
pub AreTexts-decimals : (places : List ℕ) → AllByRecursion (λ n. n < 2 ^ 64) places → AreTexts (map decimal places)
AreTexts-decimals [] h = tt
AreTexts-decimals (n ∷ ns) h = (AreCharacters-digits (decimal n) (decimal_writes n h.0).digits, AreTexts-decimals ns h.1)

pub AreReadable-decimals : (places : List ℕ) → AllByRecursion (λ n. n < 2 ^ 64) places → AreReadable (map decimal places)
AreReadable-decimals [] h = tt
AreReadable-decimals (n ∷ ns) h = (ap (λ o. is_some o) (unsigned_in-decimal n h.0), AreReadable-decimals ns h.1)

-- ---- the places are those that were put

placed_number : (found : Option (List ℕ)) (n : ℕ) → n < 2 ^ 64 → is_some (option_and_then unsigned_in found) ≡ true
    → unwrap_or (option_and_then unsigned_in (option_map (λ _. decimal n) found)) 0 ≡ n
placed_number None n h e = absurd (cc)
placed_number (Some old) n h e = ap (λ o. unwrap_or o 0) (unsigned_in-decimal n h)

stated-placed : (node : RawNode) (n : ℕ) (texts : List (List ℕ)) → n < 2 ^ 64 → IsPlaced node → is_cloud_or_blob node.attrs ≡ true → stated_place (placed_node (decimal n ∷ texts) node) ≡ Some n
stated-placed node n texts h placed e =
    let new : RawNode = record { name = node.name; attrs = with_value place_name (decimal n) node.attrs; text = node.text; size = node.size } in
    ap (λ (b : Bool). stated_place (cond b new node)) e
    ∙ stated-item new (is_item-with_place (decimal n) node.attrs ∙ e)
    ∙ ap (λ o. Some (unwrap_or (option_and_then unsigned_in o) 0)) (value_of-with_value place_name (decimal n) node.attrs)
    ∙ ap (λ m. Some m) (placed_number (value_of place_name node.attrs) n h (placed.readable e))

places_back : (places : List ℕ) (nodes : List RawNode) → length places ≡ item_count nodes → AllByRecursion (λ n. n < 2 ^ 64) places → ArePlaced nodes
    → filter_map stated_place (placed_nodes (map decimal places) nodes) ≡ places
places_back [] [] same small placed = refl
places_back (p ∷ ps) [] same small placed = absurd (omega arith)
places_back places (node ∷ nodes) same small placed =
    by_test places same small (λ ps s m. places_back ps nodes s m placed.1) (is_cloud_or_blob node.attrs) refl
  where
    Back : List ℕ → Type 0
    Back ps = filter_map stated_place (placed_nodes (map decimal ps) (node ∷ nodes)) ≡ ps

    by_test : (ps : List ℕ) → length ps ≡ item_count (node ∷ nodes) → AllByRecursion (λ n. n < 2 ^ 64) ps
        → ((qs : List ℕ) → length qs ≡ item_count nodes → AllByRecursion (λ n. n < 2 ^ 64) qs → filter_map stated_place (placed_nodes (map decimal qs) nodes) ≡ qs)
        → (b : Bool) → is_cloud_or_blob node.attrs ≡ b → filter_map stated_place (placed_nodes (map decimal ps) (node ∷ nodes)) ≡ ps
    by_test [] s m ih true e = let n = item_count-item node nodes e in absurd (omega arith)
    by_test (p ∷ ps) s m ih true e =
        let n = item_count-item node nodes e in
        ap (λ o. cons_option o (filter_map stated_place (placed_nodes (texts_after (decimal p ∷ map decimal ps) node) nodes))) (stated-placed node p (map decimal ps) m.0 placed.0 e)
        ∙ ap (λ (b : Bool). p ∷ filter_map stated_place (placed_nodes (cond b (map decimal ps) (decimal p ∷ map decimal ps)) nodes)) e
        ∙ ap (λ qs. p ∷ qs) (ih ps (omega arith) m.1)
    by_test ps s m ih false e =
        let n = item_count-other node nodes e in
        let kept : placed_node (map decimal ps) node ≡ node = rw e refl in
        ap (λ (x : RawNode). cons_option (stated_place x) (filter_map stated_place (placed_nodes (texts_after (map decimal ps) node) nodes))) kept
        ∙ ap (λ o. cons_option o (filter_map stated_place (placed_nodes (texts_after (map decimal ps) node) nodes))) (stated-other node e)
        ∙ ap (λ (b : Bool). filter_map stated_place (placed_nodes (cond b (drop 1 (map decimal ps)) (map decimal ps)) nodes)) e
        ∙ ih ps (omega arith) m

-- The tree with these places states just them.
pub places_in-with_places : (places : List ℕ) (e : Element) → length places ≡ length (places_in e) → AllByRecursion (λ n. n < 2 ^ 64) places → ArePlaced (preorder e)
    → places_in (with_places (map decimal places) e) ≡ places
places_in-with_places places e same small placed = ap (filter_map stated_place) (preorder-with_places (map decimal places) e) ∙ places_back places (preorder e) same small placed

-- ---- the last places count

placed_count : (texts : List (List ℕ)) (nodes : List RawNode) → item_count (placed_nodes texts nodes) ≡ item_count nodes
placed_count texts [] = refl
placed_count texts (node ∷ nodes) = by_test (placed_count (texts_after texts node) nodes) (is_cloud_or_blob node.attrs) refl where
  rest : List RawNode
  rest = placed_nodes (texts_after texts node) nodes

  new : RawNode
  new = record { name = node.name; attrs = with_value place_name (slice_index_or texts 0 []) node.attrs; text = node.text; size = node.size }

  by_test : item_count rest ≡ item_count nodes → (b : Bool) → is_cloud_or_blob node.attrs ≡ b → item_count (placed_nodes texts (node ∷ nodes)) ≡ item_count (node ∷ nodes)
  by_test ih true e =
      ap (λ (b : Bool). item_count (cond b new node ∷ rest)) e ∙ item_count-item new rest (is_item-with_place (slice_index_or texts 0 []) node.attrs ∙ e)
      ∙ ap suc ih ∙ sym (item_count-item node nodes e)
  by_test ih false e = ap (λ (b : Bool). item_count (cond b new node ∷ rest)) e ∙ item_count-other node rest e ∙ ih ∙ sym (item_count-other node nodes e)

-- There are as many places.
pub length-places_in-with_places : (texts : List (List ℕ)) (e : Element) → length (places_in (with_places texts e)) ≡ length (places_in e)
length-places_in-with_places texts e = ap item_count (preorder-with_places texts e) ∙ placed_count texts (preorder e)

mutual
  -- Other places, and then others, are the last ones.
  pub with_places-twice : (first second : List (List ℕ)) (e : Element) → with_places second (with_places first e) ≡ with_places second e
  with_places-twice first second (element name attrs text children) =
      by_test (with_places_all-twice (drop 1 first) (drop 1 second) children) (with_places_all-twice first second children) (is_cloud_or_blob attrs) refl
    where
      new : List Attr
      new = with_value place_name (slice_index_or first 0 []) attrs

      by_test : with_places_all (drop 1 second) (with_places_all (drop 1 first) children) ≡ with_places_all (drop 1 second) children
          → with_places_all second (with_places_all first children) ≡ with_places_all second children
          → (b : Bool) → is_cloud_or_blob attrs ≡ b → with_places second (with_places first (element name attrs text children)) ≡ with_places second (element name attrs text children)
      by_test item other true e =
          let still : is_cloud_or_blob new ≡ true = is_item-with_place (slice_index_or first 0 []) attrs ∙ e in
          ap (λ (b : Bool). with_places second (cond b (element name new text (with_places_all (drop 1 first) children)) (element name attrs text (with_places_all first children)))) e
          ∙ ap (λ (b : Bool). cond b (element name (with_value place_name (slice_index_or second 0 []) new) text (with_places_all (drop 1 second) (with_places_all (drop 1 first) children))) (element name new text (with_places_all second (with_places_all (drop 1 first) children)))) still
          ∙ ap (λ cs. element name (with_value place_name (slice_index_or second 0 []) new) text cs) item
          ∙ ap (λ ys. element name ys text (with_places_all (drop 1 second) children)) (with_value-twice place_name (slice_index_or first 0 []) (slice_index_or second 0 []) attrs)
          ∙ sym (ap (λ (b : Bool). cond b (element name (with_value place_name (slice_index_or second 0 []) attrs) text (with_places_all (drop 1 second) children)) (element name attrs text (with_places_all second children))) e)
      by_test item other false e =
          ap (λ (b : Bool). with_places second (cond b (element name new text (with_places_all (drop 1 first) children)) (element name attrs text (with_places_all first children)))) e
          ∙ ap (λ (b : Bool). cond b (element name (with_value place_name (slice_index_or second 0 []) attrs) text (with_places_all (drop 1 second) (with_places_all first children))) (element name attrs text (with_places_all second (with_places_all first children)))) e
          ∙ ap (λ cs. element name attrs text cs) other
          ∙ sym (ap (λ (b : Bool). cond b (element name (with_value place_name (slice_index_or second 0 []) attrs) text (with_places_all (drop 1 second) children)) (element name attrs text (with_places_all second children))) e)

  pub with_places_all-twice : (first second : List (List ℕ)) (es : Elements) → with_places_all second (with_places_all first es) ≡ with_places_all second es
  with_places_all-twice first second none = refl
  with_places_all-twice first second (more e es) =
      ap (λ k. more (with_places second (with_places first e)) (with_places_all (drop k second) (with_places_all (drop (length (places_in e)) first) es))) (length-places_in-with_places first e)
      ∙ ap (λ x. more x (with_places_all (drop (length (places_in e)) second) (with_places_all (drop (length (places_in e)) first) es))) (with_places-twice first second e)
      ∙ ap (λ xs. more (with_places second e) xs) (with_places_all-twice (drop (length (places_in e)) first) (drop (length (places_in e)) second) es)

-- Without its places the tree with other places is the tree without its places.
pub without_places-with_places : (texts : List (List ℕ)) (e : Element) → without_places (with_places texts e) ≡ without_places e
without_places-with_places texts e =
    ap (λ n. with_places (replicate n (codes "0")) (with_places texts e)) (length-places_in-with_places texts e) ∙ with_places-twice texts (replicate (length (places_in e)) (codes "0")) e
