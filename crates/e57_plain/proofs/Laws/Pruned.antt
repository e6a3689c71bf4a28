-- Elements of a prototype without those that hold no field that is kept.
use Rattle.std.specs.Prelude.{◌≡◌, ℕ, ◌+◌, ◌<◌, ◌≤◌, Bool, true, false, cond, ◌||◌, List, [], ◌∷◌, ◌++◌, length, take, drop, slice_index_or, Option, Some, None}
use Rattle.std.specs.List.{AllByRecursion, cons_option}
use Rattle.std.specs.Str.{bytes_eq}
use Rattle.std.proofs.Common.{refl, sym, ap, subst, ◌∙◌, arith, append-nil, length-append}
use Rattle.std.proofs.lemmas.List.Elements.{filter_map-append}
use Rattle.e57_pieces.specs.declared.piece.Attr.{Attr}
use Rattle.e57_elements.specs.declared.tree.RawNode.{RawNode}
use Rattle.e57_elements.specs.Tree.{Element, element, Elements, none, more, preorder, preorder_all, depth, depth_all}
use Rattle.e57_elements.specs.Lawful.{IsLawfulNode}
use Rattle.e57_layout.specs.Values.{ItemKind}
use Rattle.e57_nodes.specs.declared.ElementType.{ElementType}
use Rattle.e57_nodes.specs.declared.ElementType.TheVariants as element_type
use Rattle.e57_nodes.specs.Facts.{type_in, Facts, facts_of}
use Rattle.e57_nodes.specs.Shape.{Shape, shape, Shapes, no_shapes, shapes, shape_of, shapes_of}
use Rattle.e57_nodes.specs.Fields.{kind_of}
use Rattle.e57_nodes.specs.Places.{has_section, is_cloud_or_blob, place_name, stated_place, places_in, with_value, with_places, with_places_all}
use Rattle.e57_nodes.proofs.Laws.Places.{places_in_all, stated-other}
use Rattle.e57_plain.specs.Kept.{chosen}
use Rattle.e57_plain.specs.Pruned.{is_field_type, own_field, fields_in, fields_in_all, keeps_some, pruned, pruned_all}
use Rattle.e57_plain.proofs.Laws.LimitedTrees.{nodes-parts, nodes-append}
use Rattle.e57_plain.proofs.Laws.Forms.{Form, form_list, forms_at, forms_all}
use Rattle.e57_plain.proofs.Laws.Typing.{name_in, is_among, AreDistinct, kind_list, kinds_at, kinds_all, NoSection, NoSections, ChildRule, VectorRule, IsTypedNode, IsTyped, AreTyped}
use Rattle.std.proofs.lemmas.Bool.{or_parts, or_from}

-- ---- what is read of an element

pub facts-type : (name : List ℕ) (attrs : List Attr) (text : List ℕ) → (facts_of name attrs text).element_type ≡ type_in attrs
unfolding facts_of
facts-type name attrs text = refl

pub facts-name : (name : List ℕ) (attrs : List Attr) (text : List ℕ) → (facts_of name attrs text).name ≡ name
unfolding facts_of
facts-name name attrs text = refl

-- ---- elements without a section

-- this node has none
pub own-none : (name : List ℕ) (attrs : List Attr) (text : List ℕ) → has_section (facts_of name attrs text).element_type ≡ false → is_cloud_or_blob attrs ≡ false
own-none name attrs text free = ap has_section (sym (facts-type name attrs text)) ∙ free

mutual
  pub no-places : (e : Element) → NoSection (shape_of e) → places_in e ≡ []
  no-places (element name attrs text children) free =
      let node : RawNode = record { name = name; attrs = attrs; text = text; size = length (preorder_all children) + 1 } in
      ap (λ (found : Option ℕ). cons_option found (places_in_all children)) (stated-other node (own-none name attrs text free.0)) ∙ no-places_all children free.1

  pub no-places_all : (es : Elements) → NoSections (shapes_of es) → places_in_all es ≡ []
  no-places_all none free = refl
  no-places_all (more e es) free =
      filter_map-append stated_place (preorder e) (preorder_all es)
      ∙ ap (λ (qs : List ℕ). qs ++ places_in_all es) (no-places e free.0) ∙ no-places_all es free.1

mutual
  pub stays : (texts : List (List ℕ)) (e : Element) → NoSection (shape_of e) → with_places texts e ≡ e
  stays texts (element name attrs text children) free = by_test (stays_all texts children free.1) (is_cloud_or_blob attrs) (own-none name attrs text free.0) where
    by_test : with_places_all texts children ≡ children → (b : Bool) → b ≡ false
        → cond b (element name (with_value place_name (slice_index_or texts 0 []) attrs) text (with_places_all (drop 1 texts) children)) (element name attrs text (with_places_all texts children)) ≡ element name attrs text children
    by_test later true free = absurd (cc)
    by_test later false free = ap (λ (xs : Elements). element name attrs text xs) later

  pub stays_all : (texts : List (List ℕ)) (es : Elements) → NoSections (shapes_of es) → with_places_all texts es ≡ es
  stays_all texts none free = refl
  stays_all texts (more e es) free =
      ap (λ (x : Element). more x (with_places_all (drop (length (places_in e)) texts) es)) (stays texts e free.0)
      ∙ ap (λ (xs : Elements). more e xs) (stays_all (drop (length (places_in e)) texts) es free.1)

form-none : (facts : Facts) (below : Shapes) (t : Option ElementType) → has_section t ≡ false → form_list facts below t ≡ []
form-none facts below None free = refl
form-none facts below (Some element_type.Structure) free = refl
form-none facts below (Some element_type.Vector) free = refl
form-none facts below (Some element_type.CompressedVector) free = absurd (cc)
form-none facts below (Some element_type.Integer) free = refl
form-none facts below (Some element_type.ScaledInteger) free = refl
form-none facts below (Some element_type.Float) free = refl
form-none facts below (Some element_type.String) free = refl
form-none facts below (Some element_type.Blob) free = absurd (cc)

mutual
  pub no-forms : (s : Shape) → NoSection s → forms_at s ≡ []
  no-forms (shape facts below) free =
      ap (λ (forms : List Form). forms ++ forms_all below) (form-none facts below facts.element_type free.0) ∙ no-forms_all below free.1

  pub no-forms_all : (ss : Shapes) → NoSections ss → forms_all ss ≡ []
  no-forms_all no_shapes free = refl
  no-forms_all (shapes s ss) free = ap (λ (forms : List Form). forms ++ forms_all ss) (no-forms s free.0) ∙ no-forms_all ss free.1

-- ---- what is chosen of a list

pub chosen-append : {X : Type 0} (keep : List Bool) (xs ys : List X) → chosen keep (xs ++ ys) ≡ chosen (take (length xs) keep) xs ++ chosen (drop (length xs) keep) ys
chosen-append keep [] ys = refl
chosen-append [] (x ∷ xs) ys = refl
chosen-append {X = X} (b ∷ keep) (x ∷ xs) ys = by_test b (chosen-append keep xs ys) where
  by_test : (c : Bool) → chosen keep (xs ++ ys) ≡ chosen (take (length xs) keep) xs ++ chosen (drop (length xs) keep) ys
      → cond c (x ∷ chosen keep (xs ++ ys)) (chosen keep (xs ++ ys)) ≡ cond c (x ∷ chosen (take (length xs) keep) xs) (chosen (take (length xs) keep) xs) ++ chosen (drop (length xs) keep) ys
  by_test true later = ap (λ (rest : List X). x ∷ rest) later
  by_test false later = later

pub chosen-none : {X : Type 0} (keep : List Bool) (xs : List X) → keeps_some keep ≡ false → chosen keep xs ≡ []
chosen-none [] xs free = refl
chosen-none (b ∷ keep) [] free = refl
chosen-none {X = X} (true ∷ keep) (x ∷ xs) free = absurd (cc)
chosen-none (false ∷ keep) (x ∷ xs) free = chosen-none keep xs free

pub chosen-empty : {X : Type 0} (keep : List Bool) → chosen {X = X} keep [] ≡ []
chosen-empty [] = refl
chosen-empty (b ∷ keep) = refl

-- only as many flags count as there are items
pub chosen-front : {X : Type 0} (keep : List Bool) (xs : List X) (n : ℕ) → length xs ≡ n → chosen keep xs ≡ chosen (take n keep) xs
chosen-front {X = X} keep xs n many =
    ap (chosen keep) (sym (append-nil xs)) ∙ chosen-append keep xs [] ∙ ap (λ (ys : List X). chosen (take (length xs) keep) xs ++ ys) (chosen-empty (drop (length xs) keep))
    ∙ append-nil (chosen (take (length xs) keep) xs) ∙ ap (λ k. chosen (take k keep) xs) many

-- ---- kinds

own-kinds : (facts : Facts) (t : Option ElementType) → length (kind_list (kind_of facts t)) ≡ cond (is_field_type t) 1 0
own-kinds facts None = refl
own-kinds facts (Some element_type.Structure) = refl
own-kinds facts (Some element_type.Vector) = refl
own-kinds facts (Some element_type.CompressedVector) = refl
own-kinds facts (Some element_type.Integer) = refl
own-kinds facts (Some element_type.ScaledInteger) = refl
own-kinds facts (Some element_type.Float) = refl
own-kinds facts (Some element_type.String) = refl
own-kinds facts (Some element_type.Blob) = refl

-- the kind of an element's own field
abbrev own_list : List ℕ → List Attr → List ℕ → List ItemKind
own_list name attrs text = kind_list (kind_of (facts_of name attrs text) (facts_of name attrs text).element_type)

length-own : (name : List ℕ) (attrs : List Attr) (text : List ℕ) → length (own_list name attrs text) ≡ own_field attrs
length-own name attrs text =
    own-kinds (facts_of name attrs text) (facts_of name attrs text).element_type ∙ ap (λ (t : Option ElementType). cond (is_field_type t) 1 0) (facts-type name attrs text)

mutual
  pub length-kinds_at : (e : Element) → length (kinds_at (shape_of e)) ≡ fields_in e
  length-kinds_at (element name attrs text children) =
      length-append (own_list name attrs text) (kinds_all (shapes_of children))
      ∙ ap (λ k. k + length (kinds_all (shapes_of children))) (length-own name attrs text)
      ∙ ap (λ k. own_field attrs + k) (length-kinds_all children)

  pub length-kinds_all : (es : Elements) → length (kinds_all (shapes_of es)) ≡ fields_in_all es
  length-kinds_all none = refl
  length-kinds_all (more e es) =
      length-append (kinds_at (shape_of e)) (kinds_all (shapes_of es))
      ∙ ap (λ k. k + length (kinds_all (shapes_of es))) (length-kinds_at e) ∙ ap (λ k. fields_in e + k) (length-kinds_all es)

-- a field has no children
leaf-bare : (t : Option ElementType) (below : Shapes) → ChildRule t below → is_field_type t ≡ true → below ≡ no_shapes
leaf-bare None below rule field = absurd (cc)
leaf-bare (Some element_type.Structure) below rule field = absurd (cc)
leaf-bare (Some element_type.Vector) below rule field = absurd (cc)
leaf-bare (Some element_type.CompressedVector) below rule field = absurd (cc)
leaf-bare (Some element_type.Integer) below rule field = rule
leaf-bare (Some element_type.ScaledInteger) below rule field = rule
leaf-bare (Some element_type.Float) below rule field = rule
leaf-bare (Some element_type.String) below rule field = rule
leaf-bare (Some element_type.Blob) below rule field = absurd (cc)

-- an own field is kept where something is
own-kept : (own rest : List ItemKind) (keep : List Bool) (n : ℕ) → length own ≤ 1 → (0 < length own → n ≡ 1) → keeps_some (take n keep) ≡ true → chosen (take (length own) keep) own ≡ own
own-kept [] rest keep n few alone some = refl
own-kept (k ∷ []) rest [] n few alone some = absurd (let one = alone (omega arith) in let h : keeps_some (take 1 []) ≡ true = subst (λ m. keeps_some (take m []) ≡ true) one some in cc)
own-kept (k ∷ []) rest (b ∷ keep) n few alone some = by_flag b (subst (λ m. keeps_some (take m (b ∷ keep)) ≡ true) (alone (omega arith)) some) where
  by_flag : (c : Bool) → (c || false) ≡ true → cond c (k ∷ []) [] ≡ k ∷ []
  by_flag true some = refl
  by_flag false some = absurd (cc)
own-kept (k ∷ m ∷ own) rest keep n few alone some = absurd (omega arith)

own-few : (b : Bool) → cond b 1 0 ≤ 1
own-few true = omega arith
own-few false = omega arith

own-alone : (name : List ℕ) (attrs : List Attr) (text : List ℕ) (children : Elements) → IsTypedNode false (facts_of name attrs text) (shapes_of children) → 0 < length (own_list name attrs text) → fields_in (element name attrs text children) ≡ 1
own-alone name attrs text children node some = by_test (is_field_type (type_in attrs)) refl where
  bare : is_field_type (type_in attrs) ≡ true → shapes_of children ≡ no_shapes
  bare field = leaf-bare (facts_of name attrs text).element_type (shapes_of children) node.children (ap is_field_type (facts-type name attrs text) ∙ field)

  by_test : (b : Bool) → is_field_type (type_in attrs) ≡ b → fields_in (element name attrs text children) ≡ 1
  by_test true field = ap (λ (c : Bool). cond c 1 0 + fields_in_all children) field ∙ ap (λ k. 1 + k) (sym (length-kinds_all children) ∙ ap (λ (ss : Shapes). length (kinds_all ss)) (bare field))
  by_test false other = absurd (let own : length (own_list name attrs text) ≡ 0 = length-own name attrs text ∙ ap (λ (c : Bool). cond c 1 0) other in omega arith)

mutual
  pub pruned-kinds : (keep : List Bool) (e : Element) → IsTyped false (shape_of e) → keeps_some (take (fields_in e) keep) ≡ true → kinds_at (shape_of (pruned keep e)) ≡ chosen keep (kinds_at (shape_of e))
  pruned-kinds keep (element name attrs text children) is some =
      let own = own_list name attrs text in
      let many : length own ≡ own_field attrs = length-own name attrs text in
      let few : own_field attrs ≤ 1 = own-few (is_field_type (type_in attrs)) in
      let kept : chosen (take (length own) keep) own ≡ own = own-kept own (kinds_all (shapes_of children)) keep (fields_in (element name attrs text children)) (omega arith) (own-alone name attrs text children is.0) some in
      ap (λ (kinds : List ItemKind). own ++ kinds) (pruned-kinds_all (drop (own_field attrs) keep) children is.1)
      ∙ sym
      (chosen-append keep own (kinds_all (shapes_of children))
      ∙ ap (λ (kinds : List ItemKind). kinds ++ chosen (drop (length own) keep) (kinds_all (shapes_of children))) kept
      ∙ ap (λ k. own ++ chosen (drop k keep) (kinds_all (shapes_of children))) many)

  pub pruned-kinds_all : (keep : List Bool) (es : Elements) → AreTyped (shapes_of es) → kinds_all (shapes_of (pruned_all keep es)) ≡ chosen keep (kinds_all (shapes_of es))
  pruned-kinds_all keep none are = sym (chosen-empty keep)
  pruned-kinds_all keep (more e es) are =
      by_test (pruned-kinds keep e are.0) (pruned-kinds_all (drop (fields_in e) keep) es are.1) (keeps_some (take (fields_in e) keep)) refl
    where
      split : chosen keep (kinds_at (shape_of e) ++ kinds_all (shapes_of es)) ≡ chosen (take (fields_in e) keep) (kinds_at (shape_of e)) ++ chosen (drop (fields_in e) keep) (kinds_all (shapes_of es))
      split =
          chosen-append keep (kinds_at (shape_of e)) (kinds_all (shapes_of es))
          ∙ ap (λ k. chosen (take k keep) (kinds_at (shape_of e)) ++ chosen (drop k keep) (kinds_all (shapes_of es))) (length-kinds_at e)

      front : chosen keep (kinds_at (shape_of e)) ≡ chosen (take (fields_in e) keep) (kinds_at (shape_of e))
      front = chosen-front keep (kinds_at (shape_of e)) (fields_in e) (length-kinds_at e)

      by_test : (keeps_some (take (fields_in e) keep) ≡ true → kinds_at (shape_of (pruned keep e)) ≡ chosen keep (kinds_at (shape_of e)))
          → kinds_all (shapes_of (pruned_all (drop (fields_in e) keep) es)) ≡ chosen (drop (fields_in e) keep) (kinds_all (shapes_of es))
          → (b : Bool) → keeps_some (take (fields_in e) keep) ≡ b
          → kinds_all (shapes_of (cond b (more (pruned keep e) (pruned_all (drop (fields_in e) keep) es)) (pruned_all (drop (fields_in e) keep) es))) ≡ chosen keep (kinds_at (shape_of e) ++ kinds_all (shapes_of es))
      by_test here later true some =
          ap (λ (kinds : List ItemKind). kinds ++ kinds_all (shapes_of (pruned_all (drop (fields_in e) keep) es))) (here some ∙ front)
          ∙ ap (λ (kinds : List ItemKind). chosen (take (fields_in e) keep) (kinds_at (shape_of e)) ++ kinds) later
          ∙ sym split
      by_test here later false free =
          later
          ∙ ap (λ (kinds : List ItemKind). kinds ++ chosen (drop (fields_in e) keep) (kinds_all (shapes_of es))) (sym (chosen-none (take (fields_in e) keep) (kinds_at (shape_of e)) free))
          ∙ sym split

-- ---- no fault

sub_among : List (List ℕ) → List (List ℕ) → Type 0
sub_among fewer earlier = (name : List ℕ) → is_among earlier name ≡ false → is_among fewer name ≡ false

among-append : (xs : List (List ℕ)) (y name : List ℕ) → is_among (xs ++ y ∷ []) name ≡ (is_among xs name || bytes_eq y name)
among-append [] y name = or-none (bytes_eq y name) where
  or-none : (b : Bool) → (b || false) ≡ b
  or-none true = refl
  or-none false = refl
among-append (x ∷ xs) y name = ap (λ (b : Bool). bytes_eq x name || b) (among-append xs y name) ∙ or-or (bytes_eq x name) (is_among xs name) (bytes_eq y name) where
  or-or : (a b c : Bool) → (a || (b || c)) ≡ ((a || b) || c)
  or-or true b c = refl
  or-or false b c = refl

sub-more : (fewer earlier : List (List ℕ)) (y : List ℕ) → sub_among fewer earlier → sub_among fewer (earlier ++ y ∷ [])
unfolding sub_among
sub-more fewer earlier y sub name free = sub name (or_parts (is_among earlier name) (bytes_eq y name) (sym (among-append earlier y name) ∙ free)).0

sub-both : (fewer earlier : List (List ℕ)) (y : List ℕ) → sub_among fewer earlier → sub_among (fewer ++ y ∷ []) (earlier ++ y ∷ [])
unfolding sub_among
sub-both fewer earlier y sub name free =
    let parts = or_parts (is_among earlier name) (bytes_eq y name) (sym (among-append earlier y name) ∙ free) in
    among-append fewer y name ∙ or_from (is_among fewer name) (bytes_eq y name) (sub name parts.0) parts.1

pruned-name : (keep : List Bool) (e : Element) → name_in (shape_of (pruned keep e)) ≡ name_in (shape_of e)
pruned-name keep (element name attrs text children) = refl

pruned-distinct : (keep : List Bool) (es : Elements) (fewer earlier : List (List ℕ)) → sub_among fewer earlier → AreDistinct earlier (shapes_of es) → AreDistinct fewer (shapes_of (pruned_all keep es))
unfolding sub_among
pruned-distinct keep none fewer earlier sub are = tt
pruned-distinct keep (more e es) fewer earlier sub are =
    by_test (λ names inside. pruned-distinct (drop (fields_in e) keep) es names (earlier ++ name_in (shape_of e) ∷ []) inside are.1) (keeps_some (take (fields_in e) keep))
  where
    by_test : ((names : List (List ℕ)) → sub_among names (earlier ++ name_in (shape_of e) ∷ []) → AreDistinct names (shapes_of (pruned_all (drop (fields_in e) keep) es)))
        → (b : Bool) → AreDistinct fewer (shapes_of (cond b (more (pruned keep e) (pruned_all (drop (fields_in e) keep) es)) (pruned_all (drop (fields_in e) keep) es)))
    by_test later true = (
      subst (λ (name : List ℕ). is_among fewer name ≡ false) (sym (pruned-name keep e)) (sub (name_in (shape_of e)) are.0),
      subst (λ (name : List ℕ). AreDistinct (fewer ++ name ∷ []) (shapes_of (pruned_all (drop (fields_in e) keep) es))) (sym (pruned-name keep e))
          (later (fewer ++ name_in (shape_of e) ∷ []) (sub-both fewer earlier (name_in (shape_of e)) sub)),
    )
    by_test later false = later fewer (sub-more fewer earlier (name_in (shape_of e)) sub)

same-sub : (names : List (List ℕ)) → sub_among names names
unfolding sub_among
same-sub names name free = free

bare-pruned : (keep : List Bool) (es : Elements) → shapes_of es ≡ no_shapes → shapes_of (pruned_all keep es) ≡ no_shapes
bare-pruned keep none bare = refl
bare-pruned keep (more e es) bare = absurd (cc)

pruned-child : (keep : List Bool) (t : Option ElementType) (es : Elements) → has_section t ≡ false → ChildRule t (shapes_of es) → ChildRule t (shapes_of (pruned_all keep es))
pruned-child keep None es free rule = tt
pruned-child keep (Some element_type.Structure) es free rule = tt
pruned-child keep (Some element_type.Vector) es free rule = tt
pruned-child keep (Some element_type.CompressedVector) es free rule = absurd (cc)
pruned-child keep (Some element_type.Integer) es free rule = bare-pruned keep es rule
pruned-child keep (Some element_type.ScaledInteger) es free rule = bare-pruned keep es rule
pruned-child keep (Some element_type.Float) es free rule = bare-pruned keep es rule
pruned-child keep (Some element_type.String) es free rule = bare-pruned keep es rule
pruned-child keep (Some element_type.Blob) es free rule = absurd (cc)

no-vector : (facts : Facts) (below : Shapes) (t : Option ElementType) → has_section t ≡ false → VectorRule t facts below
no-vector facts below None free = tt
no-vector facts below (Some element_type.Structure) free = tt
no-vector facts below (Some element_type.Vector) free = tt
no-vector facts below (Some element_type.CompressedVector) free = absurd (cc)
no-vector facts below (Some element_type.Integer) free = tt
no-vector facts below (Some element_type.ScaledInteger) free = tt
no-vector facts below (Some element_type.Float) free = tt
no-vector facts below (Some element_type.String) free = tt
no-vector facts below (Some element_type.Blob) free = tt

mutual
  pub pruned-typed : (keep : List Bool) (e : Element) → IsTyped false (shape_of e) → NoSection (shape_of e) → IsTyped false (shape_of (pruned keep e)) × NoSection (shape_of (pruned keep e))
  pruned-typed keep (element name attrs text children) is free =
      let facts = facts_of name attrs text in
      let inner = drop (own_field attrs) keep in
      let later = pruned-typed_all inner children is.1 free.1 in (
        (
          record {
            has_type = is.0.has_type;
            root_type = is.0.root_type;
            root_name = is.0.root_name;
            children = pruned-child inner facts.element_type children free.0 is.0.children;
            attrs = is.0.attrs;
            limits = is.0.limits;
            vector = no-vector facts (shapes_of (pruned_all inner children)) facts.element_type free.0;
          },
          later.0,
          λ differs. pruned-distinct inner children [] [] (same-sub []) (is.2 differs),
        ),
        (free.0, later.1),
      )

  pub pruned-typed_all : (keep : List Bool) (es : Elements) → AreTyped (shapes_of es) → NoSections (shapes_of es) → AreTyped (shapes_of (pruned_all keep es)) × NoSections (shapes_of (pruned_all keep es))
  pruned-typed_all keep none are free = (tt, tt)
  pruned-typed_all keep (more e es) are free = by_test (pruned-typed keep e are.0 free.0) (pruned-typed_all (drop (fields_in e) keep) es are.1 free.1) (keeps_some (take (fields_in e) keep)) where
    by_test : IsTyped false (shape_of (pruned keep e)) × NoSection (shape_of (pruned keep e))
        → AreTyped (shapes_of (pruned_all (drop (fields_in e) keep) es)) × NoSections (shapes_of (pruned_all (drop (fields_in e) keep) es))
        → (b : Bool)
        → AreTyped (shapes_of (cond b (more (pruned keep e) (pruned_all (drop (fields_in e) keep) es)) (pruned_all (drop (fields_in e) keep) es)))
        × NoSections (shapes_of (cond b (more (pruned keep e) (pruned_all (drop (fields_in e) keep) es)) (pruned_all (drop (fields_in e) keep) es)))
    by_test here later true = ((here.0, later.0), (here.1, later.1))
    by_test here later false = later

-- ---- lawful

-- Elements are no more and no deeper, and their nodes are lawful.
pub record IsLess (nodes others : List RawNode) (deep other : ℕ) : Type 0 where
  pub size : length others ≤ length nodes
  pub depth : other ≤ deep
  pub each : AllByRecursion IsLawfulNode others

-- a node of fewer elements
pub smaller-node : (name : List ℕ) (attrs : List Attr) (text : List ℕ) (size other : ℕ) → other ≤ size → IsLawfulNode (record { name = name; attrs = attrs; text = text; size = size })
    → IsLawfulNode (record { name = name; attrs = attrs; text = text; size = other })
smaller-node name attrs text size other less h = record {
  is_name = h.is_name;
  name = h.name;
  each = h.each;
  names_differ = h.names_differ;
  few_attrs = h.few_attrs;
  text = h.text;
  no_space = λ many space. h.no_space (larger many) space;
}
  where
    larger : 1 < other → 1 < size
    larger many = omega arith

pub less-more : (e x : Element) (es xs : Elements) → IsLess (preorder e) (preorder x) (depth e) (depth x) → IsLess (preorder_all es) (preorder_all xs) (depth_all es) (depth_all xs)
    → IsLess (preorder_all (more e es)) (preorder_all (more x xs)) (depth_all (more e es)) (depth_all (more x xs))
less-more e x es xs here later = record {
  size = omega (arith, length-append (preorder e) (preorder_all es), length-append (preorder x) (preorder_all xs), here.size, later.size);
  depth = omega (arith, here.depth, later.depth);
  each = nodes-append (preorder x) (preorder_all xs) here.each later.each;
}

pub less-element : (name : List ℕ) (attrs : List Attr) (text : List ℕ) (es xs : Elements) → IsLawfulNode (record { name = name; attrs = attrs; text = text; size = length (preorder_all es) + 1 })
    → IsLess (preorder_all es) (preorder_all xs) (depth_all es) (depth_all xs)
    → IsLess (preorder (element name attrs text es)) (preorder (element name attrs text xs)) (depth (element name attrs text es)) (depth (element name attrs text xs))
less-element name attrs text es xs node later = record {
  size = omega (arith, later.size);
  depth = omega (arith, later.depth);
  each = (smaller-node name attrs text (length (preorder_all es) + 1) (length (preorder_all xs) + 1) (omega (arith, later.size)) node, later.each);
}

mutual
  pub pruned-less : (keep : List Bool) (e : Element) → AllByRecursion IsLawfulNode (preorder e) → IsLess (preorder e) (preorder (pruned keep e)) (depth e) (depth (pruned keep e))
  pruned-less keep (element name attrs text children) h =
      less-element name attrs text children (pruned_all (drop (own_field attrs) keep) children) h.0 (pruned-less_all (drop (own_field attrs) keep) children h.1)

  pub pruned-less_all : (keep : List Bool) (es : Elements) → AllByRecursion IsLawfulNode (preorder_all es) → IsLess (preorder_all es) (preorder_all (pruned_all keep es)) (depth_all es) (depth_all (pruned_all keep es))
  pruned-less_all keep none h = record { size = omega arith; depth = omega arith; each = tt }
  pruned-less_all keep (more e es) h =
      by_test (pruned-less keep e (nodes-parts (preorder e) (preorder_all es) h).0) (pruned-less_all (drop (fields_in e) keep) es (nodes-parts (preorder e) (preorder_all es) h).1) (keeps_some (take (fields_in e) keep))
    where
      by_test : IsLess (preorder e) (preorder (pruned keep e)) (depth e) (depth (pruned keep e))
          → IsLess (preorder_all es) (preorder_all (pruned_all (drop (fields_in e) keep) es)) (depth_all es) (depth_all (pruned_all (drop (fields_in e) keep) es))
          → (b : Bool)
          → IsLess (preorder_all (more e es)) (preorder_all (cond b (more (pruned keep e) (pruned_all (drop (fields_in e) keep) es)) (pruned_all (drop (fields_in e) keep) es)))
          (depth_all (more e es)) (depth_all (cond b (more (pruned keep e) (pruned_all (drop (fields_in e) keep) es)) (pruned_all (drop (fields_in e) keep) es)))
      by_test here later true = less-more e (pruned keep e) es (pruned_all (drop (fields_in e) keep) es) here later
      by_test here later false = record {
        size = omega (arith, length-append (preorder e) (preorder_all es), later.size);
        depth = omega (arith, later.depth);
        each = later.each;
      }
