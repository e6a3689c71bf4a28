-- One cloud of a tree, by its number among the clouds and by the number of its node.
use Rattle.std.proofs.Common.{◌≡◌, ℕ, suc, ◌+◌, ◌-◌, ◌≤◌, ◌<◌, ◌==◌, Bool, true, false, cond, ◌&&◌, List, [], ◌∷◌, ◌++◌, length, drop, get_or, Option, Some, None, refl, sym, ap, subst, ◌∙◌, arith, append_assoc, length-append}
use Rattle.std.specs.Prelude.{codes, decimal, nat_lt}
use Rattle.std.specs.List.{filter_map, cons_option}
use Rattle.std.specs.Str.{bytes_eq}
use Rattle.std.proofs.lemmas.Bool.{ltb-true, ltb-false}
use Rattle.std.proofs.lemmas.Bool.Decides.{nat_tests}
use Rattle.std.proofs.lemmas.List.{drop-drop, length-replicate, replicate-append-replicate, get_or_append_left, get_or-append_right}
use Rattle.std.proofs.lemmas.List.Elements.{filter_map-append}
use Rattle.std.proofs.Math.Seq.{drop-append_seam}
use Rattle.e57_pieces.specs.declared.piece.Attr.{Attr}
use Rattle.e57_elements.specs.declared.tree.RawNode.{RawNode}
use Rattle.e57_elements.specs.Tree.{element, Elements, none, more, preorder, preorder_all}
use Rattle.e57_nodes.specs.declared.ElementType.{ElementType}
use Rattle.e57_nodes.specs.declared.ElementType.TheVariants as element_type
use Rattle.e57_nodes.specs.Facts.{type_in, facts_of}
use Rattle.e57_nodes.specs.Shape.{shape_of, shapes_of, node_count, Node, node_at, nodes_from, nodes_from_all}
use Rattle.e57_nodes.specs.Places.{with_value}
use Rattle.e57_nodes.specs.Items.{StatedItem, stated_cloud, stated_blob, stated_by, stated_item}
use Rattle.e57_nodes.proofs.Laws.Places.{node_of}
use Rattle.e57_plain.specs.Pruned.{is_cloud_type, own_cloud, clouds_in_all, count_name, with_prototype, with_cloud_all}
use Rattle.e57_tree.proofs.Laws.Flat.{node_count-shape_of}
use Rattle.e57_edits.specs.declared.changes.Change.{Change}
use Rattle.e57_edits.specs.declared.changes.Change.TheVariants.{Keep, Records}
use Rattle.e57_edits.specs.Changes.{first_change, edited_all, kept, choice_changes, prototype_changes}
use Rattle.e57_edits.proofs.Pruning.{AreKept, edited-more, kept-later, kept-all, kept-front, drop-kept, length-choices, edited-prototype}

-- ---- the changes of a tree's nodes

abbrev pub plan_all : ℕ → List Bool → ℕ → Elements → List Change
plan_all k chosen count none = []
plan_all k chosen count (more (element name attrs text children) es) =
    cond (nat_lt k (own_cloud attrs + clouds_in_all children))
    ((cond (is_cloud_type (type_in attrs) && k == 0) (Records count ∷ prototype_changes chosen children) (Keep ∷ plan_all (k - own_cloud attrs) chosen count children)) ++ kept (length (preorder_all es)))
    (kept (length (preorder_all children) + 1) ++ plan_all (k - (own_cloud attrs + clouds_in_all children)) chosen count es)

length-prototype : (chosen : List Bool) (es : Elements) → length (prototype_changes chosen es) ≡ length (preorder_all es)
length-prototype chosen none = refl
length-prototype chosen (more (element name attrs text children) es) = by_test (length-prototype chosen es) (bytes_eq name (codes "prototype")) where
  n : ℕ
  n = length (preorder_all children)

  sum : length (preorder_all children ++ preorder_all es) ≡ n + length (preorder_all es)
  sum = length-append (preorder_all children) (preorder_all es)

  by_test : length (prototype_changes chosen es) ≡ length (preorder_all es) → (b : Bool)
      → length (cond b (Keep ∷ (choice_changes chosen (preorder_all children) ++ kept (length (preorder_all es)))) (kept (n + 1) ++ prototype_changes chosen es)) ≡ suc (length (preorder_all children ++ preorder_all es))
  by_test later true =
      let joined = length-append (choice_changes chosen (preorder_all children)) (kept (length (preorder_all es))) in
      let choices = length-choices chosen (preorder_all children) in
      let rest = length-replicate (length (preorder_all es)) Keep in
      omega (arith, sum)
  by_test later false =
      let joined = length-append (kept (n + 1)) (prototype_changes chosen es) in
      let front = length-replicate (n + 1) Keep in
      omega (arith, sum)

pub length-plan : (k : ℕ) (chosen : List Bool) (count : ℕ) (es : Elements) → length (plan_all k chosen count es) ≡ length (preorder_all es)
length-plan k chosen count none = refl
length-plan k chosen count (more (element name attrs text children) es) =
    by_tests (length-plan (k - own_cloud attrs) chosen count children) (length-plan (k - (own_cloud attrs + clouds_in_all children)) chosen count es)
    (nat_lt k (own_cloud attrs + clouds_in_all children)) (is_cloud_type (type_in attrs) && k == 0)
  where
    n : ℕ
    n = length (preorder_all children)

    sum : length (preorder_all children ++ preorder_all es) ≡ n + length (preorder_all es)
    sum = length-append (preorder_all children) (preorder_all es)

    own : List Change → Bool → List Change
    own below b = cond b (Records count ∷ prototype_changes chosen children) (Keep ∷ below)

    length-own : (below : List Change) (b : Bool) → length below ≡ n → length (own below b) ≡ suc n
    length-own below true h = ap suc (length-prototype chosen children)
    length-own below false h = ap suc h

    by_tests : length (plan_all (k - own_cloud attrs) chosen count children) ≡ n → length (plan_all (k - (own_cloud attrs + clouds_in_all children)) chosen count es) ≡ length (preorder_all es) → (a b : Bool)
        → length (cond a (own (plan_all (k - own_cloud attrs) chosen count children) b ++ kept (length (preorder_all es))) (kept (n + 1) ++ plan_all (k - (own_cloud attrs + clouds_in_all children)) chosen count es))
        ≡ suc (length (preorder_all children ++ preorder_all es))
    by_tests below later true b =
        let joined = length-append (own (plan_all (k - own_cloud attrs) chosen count children) b) (kept (length (preorder_all es))) in
        let front = length-own (plan_all (k - own_cloud attrs) chosen count children) b below in
        let rest = length-replicate (length (preorder_all es)) Keep in
        omega (arith, sum)
    by_tests below later false b =
        let joined = length-append (kept (n + 1)) (plan_all (k - (own_cloud attrs + clouds_in_all children)) chosen count es) in
        let front = length-replicate (n + 1) Keep in
        omega (arith, sum)

-- with these changes it has the cloud changed
pub edited-plan : (k : ℕ) (chosen : List Bool) (count : ℕ) (es : Elements) (changes rest : List Change) → changes ≡ plan_all k chosen count es ++ rest → edited_all changes es ≡ with_cloud_all k chosen count es
edited-plan k chosen count none changes rest h = refl
edited-plan k chosen count (more (element name attrs text children) es) changes rest h =
    by_tests (edited-plan (k - own_cloud attrs) chosen count children (drop 1 changes)) (edited-plan (k - (own_cloud attrs + clouds_in_all children)) chosen count es (drop (n + 1) changes) rest)
    (nat_lt k (own_cloud attrs + clouds_in_all children)) (is_cloud_type (type_in attrs) && k == 0) h
  where
    n : ℕ
    n = length (preorder_all children)

    below : List Change
    below = plan_all (k - own_cloud attrs) chosen count children

    far : n + 1 ≡ 1 + n
    far = omega arith

    -- those behind stay as they are
    after : (change : Change) (inner : List Change) → length inner ≡ n → changes ≡ change ∷ (inner ++ (kept (length (preorder_all es)) ++ rest)) → edited_all (drop (n + 1) changes) es ≡ es
    after change inner many whole =
        let behind : drop (n + 1) changes ≡ kept (length (preorder_all es)) ++ rest =
        ap (λ j. drop j changes) far ∙ sym (drop-drop n 1 changes) ∙ ap (λ cs. drop n (drop 1 cs)) whole
        ∙ ap (λ j. drop j (inner ++ (kept (length (preorder_all es)) ++ rest))) (sym many) ∙ drop-append_seam inner (kept (length (preorder_all es)) ++ rest) in
        kept-all es (drop (n + 1) changes) (subst (λ (cs : List Change). AreKept cs (length (preorder_all es))) (sym behind) (kept-front (length (preorder_all es)) rest))

    by_tests : ((more_rest : List Change) → drop 1 changes ≡ below ++ more_rest → edited_all (drop 1 changes) children ≡ with_cloud_all (k - own_cloud attrs) chosen count children)
        → (drop (n + 1) changes ≡ plan_all (k - (own_cloud attrs + clouds_in_all children)) chosen count es ++ rest → edited_all (drop (n + 1) changes) es ≡ with_cloud_all (k - (own_cloud attrs + clouds_in_all children)) chosen count es)
        → (a b : Bool)
        → changes ≡ (cond a ((cond b (Records count ∷ prototype_changes chosen children) (Keep ∷ below)) ++ kept (length (preorder_all es))) (kept (n + 1) ++ plan_all (k - (own_cloud attrs + clouds_in_all children)) chosen count es)) ++ rest
        → edited_all changes (more (element name attrs text children) es)
        ≡ cond a (more (cond b (element name (with_value count_name (decimal count) attrs) text (with_prototype chosen children)) (element name attrs text (with_cloud_all (k - own_cloud attrs) chosen count children))) es)
        (more (element name attrs text children) (with_cloud_all (k - (own_cloud attrs + clouds_in_all children)) chosen count es))
    by_tests down later true true h =
        let whole : changes ≡ Records count ∷ (prototype_changes chosen children ++ (kept (length (preorder_all es)) ++ rest)) =
        h ∙ ap (λ cs. Records count ∷ cs) (append_assoc (prototype_changes chosen children) (kept (length (preorder_all es))) rest) in
        edited-more changes name attrs text children es (with_prototype chosen children) es (Records count) (ap first_change whole)
        (edited-prototype chosen children (drop 1 changes) (kept (length (preorder_all es)) ++ rest) (ap (drop 1) whole))
        (after (Records count) (prototype_changes chosen children) (length-prototype chosen children) whole)
    by_tests down later true false h =
        let whole : changes ≡ Keep ∷ (below ++ (kept (length (preorder_all es)) ++ rest)) = h ∙ ap (λ cs. Keep ∷ cs) (append_assoc below (kept (length (preorder_all es))) rest) in
        edited-more changes name attrs text children es (with_cloud_all (k - own_cloud attrs) chosen count children) es Keep (ap first_change whole)
        (down (kept (length (preorder_all es)) ++ rest) (ap (drop 1) whole))
        (after Keep below (length-plan (k - own_cloud attrs) chosen count children) whole)
    by_tests down later false b h =
        let tail = plan_all (k - (own_cloud attrs + clouds_in_all children)) chosen count es in
        let whole : changes ≡ kept (n + 1) ++ (tail ++ rest) = h ∙ append_assoc (kept (n + 1)) tail rest in
        let same : AreKept changes (n + 1) = subst (λ (cs : List Change). AreKept cs (n + 1)) (sym whole) (kept-front (n + 1) (tail ++ rest)) in
        edited-more changes name attrs text children es children (with_cloud_all (k - (own_cloud attrs + clouds_in_all children)) chosen count es) Keep (same 0 (omega arith))
        (kept-all children (drop 1 changes) (kept-later changes (n + 1) 1 n (omega arith) same))
        (later (ap (drop (n + 1)) whole ∙ drop-kept (n + 1) (tail ++ rest)))

-- ---- where the cloud stands

-- the numbers of the clouds' nodes
abbrev pub numbers_among : List StatedItem → List ℕ
numbers_among [] = []
numbers_among (stated_cloud n count fields ∷ items) = n ∷ numbers_among items
numbers_among (stated_blob n size ∷ items) = numbers_among items

abbrev pub numbers : ℕ → Elements → List ℕ
numbers n es = numbers_among (filter_map stated_item (nodes_from_all n (shapes_of es)))

numbers-append : (xs ys : List StatedItem) → numbers_among (xs ++ ys) ≡ numbers_among xs ++ numbers_among ys
numbers-append [] ys = refl
numbers-append (stated_cloud n count fields ∷ xs) ys = ap (λ ns. n ∷ ns) (numbers-append xs ys)
numbers-append (stated_blob n size ∷ xs) ys = numbers-append xs ys

own_number : (x : Node) (t : Option ElementType) (items : List StatedItem) → numbers_among (cons_option (stated_by x t) items) ≡ cond (is_cloud_type t) (x.number ∷ numbers_among items) (numbers_among items)
own_number x None items = refl
own_number x (Some element_type.Structure) items = refl
own_number x (Some element_type.Vector) items = refl
own_number x (Some element_type.CompressedVector) items = refl
own_number x (Some element_type.Integer) items = refl
own_number x (Some element_type.ScaledInteger) items = refl
own_number x (Some element_type.Float) items = refl
own_number x (Some element_type.String) items = refl
own_number x (Some element_type.Blob) items = refl

numbers_first : (n : ℕ) (name : List ℕ) (attrs : List Attr) (text : List ℕ) (children es : Elements)
    → numbers n (more (element name attrs text children) es) ≡ cond (is_cloud_type (type_in attrs)) (n ∷ numbers (n + 1) children) (numbers (n + 1) children) ++ numbers (n + (length (preorder_all children) + 1)) es
unfolding stated_item facts_of
numbers_first n name attrs text children es =
    let e = element name attrs text children in
    ap numbers_among (filter_map-append stated_item (nodes_from n (shape_of e)) (nodes_from_all (n + node_count (shape_of e)) (shapes_of es)))
    ∙ numbers-append (filter_map stated_item (nodes_from n (shape_of e))) (filter_map stated_item (nodes_from_all (n + node_count (shape_of e)) (shapes_of es)))
    ∙ ap (λ ns. ns ++ numbers (n + node_count (shape_of e)) es) (own_number (node_at n (shape_of e)) (type_in attrs) (filter_map stated_item (nodes_from_all (n + 1) (shapes_of children))))
    ∙ ap (λ k. cond (is_cloud_type (type_in attrs)) (n ∷ numbers (n + 1) children) (numbers (n + 1) children) ++ numbers (n + k) es) (node_count-shape_of e ∙ (let one : length (preorder e) ≡ length (preorder_all children) + 1 = omega arith in one))

pub length-numbers : (n : ℕ) (es : Elements) → length (numbers n es) ≡ clouds_in_all es
length-numbers n none = refl
length-numbers n (more (element name attrs text children) es) =
    let own = cond (is_cloud_type (type_in attrs)) (n ∷ numbers (n + 1) children) (numbers (n + 1) children) in
    let first = ap length (numbers_first n name attrs text children es) in
    let sum = length-append own (numbers (n + (length (preorder_all children) + 1)) es) in
    let here = by_type (is_cloud_type (type_in attrs)) (length-numbers (n + 1) children) in
    let later = length-numbers (n + (length (preorder_all children) + 1)) es in
    omega arith
  where
    by_type : (b : Bool) → length (numbers (n + 1) children) ≡ clouds_in_all children → length (cond b (n ∷ numbers (n + 1) children) (numbers (n + 1) children)) ≡ cond b 1 0 + clouds_in_all children
    by_type true h = omega arith
    by_type false h = omega arith

-- The node of cloud k, those before it and those behind those below it, and the changes of all.
pub record IsCloudAt (k n : ℕ) (chosen : List Bool) (count : ℕ) (es : Elements) : Type 0 where
  pub before : List RawNode
  pub node : RawNode
  pub children : Elements
  pub after : List RawNode
  pub size : node.size ≡ length (preorder_all children) + 1
  pub parts : preorder_all es ≡ before ++ (node ∷ (preorder_all children ++ after))
  pub number : get_or (numbers n es) k 0 ≡ n + length before
  pub plan : plan_all k chosen count es ≡ kept (length before) ++ (Records count ∷ (prototype_changes chosen children ++ kept (length after)))

pub cloud_at : (k n : ℕ) (chosen : List Bool) (count : ℕ) (es : Elements) → k < clouds_in_all es → IsCloudAt k n chosen count es
cloud_at k n chosen count none l = absurd (omega arith)
cloud_at k n chosen count (more (element name attrs text children) es) l =
    by_tests (cloud_at (k - own_cloud attrs) (n + 1) chosen count children) (cloud_at (k - (own_cloud attrs + clouds_in_all children)) (n + (size + 1)) chosen count es)
    (nat_lt k (own_cloud attrs + clouds_in_all children)) refl (is_cloud_type (type_in attrs)) refl (k == 0) refl
  where
    size : ℕ
    size = length (preorder_all children)

    own : Bool → List ℕ
    own a = cond a (n ∷ numbers (n + 1) children) (numbers (n + 1) children)

    many : (a : Bool) → length (own a) ≡ cond a 1 0 + clouds_in_all children
    many true = let h = length-numbers (n + 1) children in omega arith
    many false = let h = length-numbers (n + 1) children in omega arith

    now : RawNode
    now = node_of name attrs text children

    whole_number : (a : Bool) → is_cloud_type (type_in attrs) ≡ a → get_or (numbers n (more (element name attrs text children) es)) k 0 ≡ get_or (own a ++ numbers (n + (size + 1)) es) k 0
    whole_number a is = ap (λ ns. get_or ns k 0) (numbers_first n name attrs text children es ∙ ap (λ (b : Bool). own b ++ numbers (n + (size + 1)) es) is)

    own_is : (a : Bool) → is_cloud_type (type_in attrs) ≡ a → own_cloud attrs ≡ cond a 1 0
    own_is a is = ap (λ (b : Bool). cond b 1 0) is

    plan_of : Bool → Bool → List Change
    plan_of inside here =
        cond inside ((cond here (Records count ∷ prototype_changes chosen children) (Keep ∷ plan_all (k - own_cloud attrs) chosen count children)) ++ kept (length (preorder_all es)))
        (kept (size + 1) ++ plan_all (k - (own_cloud attrs + clouds_in_all children)) chosen count es)

    plan_is : (inside a b : Bool) → nat_lt k (own_cloud attrs + clouds_in_all children) ≡ inside → is_cloud_type (type_in attrs) ≡ a → (k == 0) ≡ b → plan_all k chosen count (more (element name attrs text children) es) ≡ plan_of inside (a && b)
    plan_is inside a b e is f =
        ap (λ (x : Bool). plan_of x (is_cloud_type (type_in attrs) && k == 0)) e ∙ ap (λ (x : Bool). plan_of inside (x && k == 0)) is ∙ ap (λ (x : Bool). plan_of inside (a && x)) f

    -- below the first element
    inner : (a b : Bool) → nat_lt k (own_cloud attrs + clouds_in_all children) ≡ true → is_cloud_type (type_in attrs) ≡ a → (k == 0) ≡ b → (a && b) ≡ false → get_or (own a) k 0 ≡ get_or (numbers (n + 1) children) (k - own_cloud attrs) 0
        → IsCloudAt (k - own_cloud attrs) (n + 1) chosen count children → IsCloudAt k n chosen count (more (element name attrs text children) es)
    inner a b e is f not number_is d =
        let inside = ltb-true k (own_cloud attrs + clouds_in_all children) e in
        let shorter = many a in
        let own_count = own_is a is in
        let far : n + 1 + length d.before ≡ n + suc (length d.before) = omega arith in
        record {
          before = now ∷ d.before;
          node = d.node;
          children = d.children;
          after = d.after ++ preorder_all es;
          size = d.size;
          parts =
              ap (λ ns. now ∷ (ns ++ preorder_all es)) d.parts
              ∙ ap (λ ns. now ∷ ns) (append_assoc d.before (d.node ∷ (preorder_all d.children ++ d.after)) (preorder_all es) ∙ ap (λ ns. d.before ++ (d.node ∷ ns)) (append_assoc (preorder_all d.children) d.after (preorder_all es)));
          number = whole_number a is ∙ get_or_append_left (own a) (numbers (n + (size + 1)) es) 0 k (omega arith) ∙ number_is ∙ d.number ∙ far;
          plan =
              plan_is true a b e is f ∙ ap (λ (x : Bool). plan_of true x) not
              ∙ ap (λ cs. Keep ∷ (cs ++ kept (length (preorder_all es)))) d.plan
              ∙ ap (λ cs. Keep ∷ cs) (append_assoc (kept (length d.before)) (Records count ∷ (prototype_changes chosen d.children ++ kept (length d.after))) (kept (length (preorder_all es))))
              ∙ ap (λ cs. Keep ∷ (kept (length d.before) ++ (Records count ∷ cs))) (append_assoc (prototype_changes chosen d.children) (kept (length d.after)) (kept (length (preorder_all es))))
              ∙ ap (λ cs. Keep ∷ (kept (length d.before) ++ (Records count ∷ (prototype_changes chosen d.children ++ cs))))
              (replicate-append-replicate (length d.after) (length (preorder_all es)) Keep ∙ ap (λ j. kept j) (sym (length-append d.after (preorder_all es))));
        }

    -- behind it
    outer : (a b : Bool) → nat_lt k (own_cloud attrs + clouds_in_all children) ≡ false → is_cloud_type (type_in attrs) ≡ a → (k == 0) ≡ b
        → IsCloudAt (k - (own_cloud attrs + clouds_in_all children)) (n + (size + 1)) chosen count es → IsCloudAt k n chosen count (more (element name attrs text children) es)
    outer a b e is f d =
        let outside = ltb-false k (own_cloud attrs + clouds_in_all children) e in
        let own_count = own_is a is in
        let shorter = many a in
        let longer = length-append (now ∷ preorder_all children) d.before in
        let far : n + (size + 1) + length d.before ≡ n + length ((now ∷ preorder_all children) ++ d.before) = omega arith in
        let left : k - length (own a) ≡ k - (own_cloud attrs + clouds_in_all children) = omega arith in
        let front : size + 1 + length d.before ≡ length ((now ∷ preorder_all children) ++ d.before) = omega arith in
        record {
          before = (now ∷ preorder_all children) ++ d.before;
          node = d.node;
          children = d.children;
          after = d.after;
          size = d.size;
          parts = ap (λ ns. (now ∷ preorder_all children) ++ ns) d.parts ∙ sym (append_assoc (now ∷ preorder_all children) d.before (d.node ∷ (preorder_all d.children ++ d.after)));
          number =
              whole_number a is ∙ get_or-append_right (own a) (numbers (n + (size + 1)) es) (length (own a)) k 0 refl (omega arith)
              ∙ ap (λ j. get_or (numbers (n + (size + 1)) es) j 0) left ∙ d.number ∙ far;
          plan =
              plan_is false a b e is f ∙ ap (λ cs. kept (size + 1) ++ cs) d.plan
              ∙ sym (append_assoc (kept (size + 1)) (kept (length d.before)) (Records count ∷ (prototype_changes chosen d.children ++ kept (length d.after))))
              ∙ ap (λ cs. cs ++ (Records count ∷ (prototype_changes chosen d.children ++ kept (length d.after)))) (replicate-append-replicate (size + 1) (length d.before) Keep ∙ ap (λ j. kept j) front);
        }

    by_tests : (k - own_cloud attrs < clouds_in_all children → IsCloudAt (k - own_cloud attrs) (n + 1) chosen count children)
        → (k - (own_cloud attrs + clouds_in_all children) < clouds_in_all es → IsCloudAt (k - (own_cloud attrs + clouds_in_all children)) (n + (size + 1)) chosen count es)
        → (inside : Bool) → nat_lt k (own_cloud attrs + clouds_in_all children) ≡ inside → (a : Bool) → is_cloud_type (type_in attrs) ≡ a → (b : Bool) → (k == 0) ≡ b
        → IsCloudAt k n chosen count (more (element name attrs text children) es)
    by_tests down later true e true is true first =
        let zero_is : k ≡ 0 = grind (arith, nat_tests) in
        record {
          before = [];
          node = now;
          children = children;
          after = preorder_all es;
          size = refl;
          parts = refl;
          number = whole_number true is ∙ ap (λ j. get_or (own true ++ numbers (n + (size + 1)) es) j 0) zero_is ∙ (let plain : n ≡ n + 0 = omega arith in plain);
          plan = plan_is true true true e is first;
        }
    by_tests down later true e true is false other =
        let some : 1 ≤ k = grind (arith, nat_tests) in
        let own_count = own_is true is in
        let inside = ltb-true k (own_cloud attrs + clouds_in_all children) e in
        let one : k ≡ suc (k - own_cloud attrs) = omega arith in
        inner true false e is other refl (ap (λ j. get_or (own true) j 0) one) (down (omega arith))
    by_tests down later true e false is b first =
        let own_count = own_is false is in
        let inside = ltb-true k (own_cloud attrs + clouds_in_all children) e in
        let same : k ≡ k - own_cloud attrs = omega arith in
        inner false b e is first refl (ap (λ j. get_or (own false) j 0) same) (down (omega arith))
    by_tests down later false e a is b first = let outside = ltb-false k (own_cloud attrs + clouds_in_all children) e in outer a b e is first (later (omega arith))
