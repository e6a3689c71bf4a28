-- The whole tree with one cloud changed.
use Rattle.std.specs.Prelude.{◌≡◌, ℕ, zero, suc, ◌+◌, ◌-◌, ◌^◌, ◌<◌, ◌≤◌, ◌==◌, nat_lt, Bool, true, false, cond, not, ◌&&◌, List, [], ◌∷◌, ◌++◌, length, drop, codes, slice_index_or, Option, Some, None, is_some}
use Rattle.std.specs.List.{list_all, AllByRecursion, cons_option}
use Rattle.std.proofs.Common.{refl, sym, ap, subst, ◌∙◌, arith, le-ltb}
use Rattle.std.proofs.lemmas.Bool.Decides.{nat_tests}
use Rattle.e57_base.specs.declared.kind.Kind.TheVariants as kind
use Rattle.e57_base.specs.Fault.{fault}
use Rattle.e57_pieces.specs.declared.piece.Attr.{Attr}
use Rattle.e57_elements.specs.Tree.{Element, element, Elements, none, more, preorder, preorder_all, depth, depth_all}
use Rattle.e57_elements.specs.Lawful.{IsLawfulNode}
use Rattle.e57_layout.specs.Values.{ItemKind}
use Rattle.e57_cloud.specs.Section.{when}
use Rattle.e57_nodes.specs.declared.ElementType.{ElementType}
use Rattle.e57_nodes.specs.declared.ElementType.TheVariants as element_type
use Rattle.e57_nodes.specs.Facts.{type_in, Facts, facts_of}
use Rattle.e57_nodes.specs.Shape.{Shape, shape, Shapes, no_shapes, shapes, shape_of, shapes_of}
use Rattle.e57_nodes.specs.Places.{is_cloud_or_blob, place_name, stated_place, places_in, with_value, with_places, with_places_all}
use Rattle.e57_nodes.specs.Typed.{unread, attr_fault, limits_fault}
use Rattle.e57_nodes.proofs.Laws.Places.{places_in_all}
use Rattle.e57_nodes.proofs.Laws.Sound.{option_or-none}
use Rattle.e57_plain.specs.Kept.{chosen}
use Rattle.e57_plain.specs.Pruned.{with_prototype, is_cloud_type, own_cloud, clouds_in, clouds_in_all, with_cloud, with_cloud_all}
use Rattle.e57_plain.proofs.Laws.Typing.{name_in, names_in, is_among, called, AreDistinct, is_expected, ChildRule, CodecsRule, IsVector, VectorRule, IsTyped, AreTyped, vector_kinds, none-or}
use Rattle.e57_plain.proofs.Laws.Forms.{Form, cloud_form, blob_form, form_list, forms_at, forms_all}
use Rattle.e57_plain.proofs.Laws.LimitedTrees.{nodes-parts}
use Rattle.e57_plain.proofs.Laws.Pruned.{facts-type, chosen-empty, IsLess, smaller-node, less-more, less-element}
use Rattle.e57_plain.proofs.Laws.WithCloud.{IsReduced, nodes-same, node-same, more-same, more-other, places-more, reduce, form_clouds, form_clouds-append, vector-clouds, with_count, counted_attrs, counted-facts, counted-section, counted-keeps, counted-stated, counted-node}
use Rattle.e57_cloud.proofs.Laws.Sections.{when-none}

-- ---- forms, one of which is changed

-- cloud k has this number of records, and the kinds that are kept
abbrev pub changed : ℕ → List Bool → ℕ → List Form → List Form
changed k keep count [] = []
changed k keep count (blob_form size ∷ forms) = blob_form size ∷ changed k keep count forms
changed zero keep count (cloud_form old kinds ∷ forms) = cloud_form count (chosen keep kinds) ∷ forms
changed (suc k) keep count (cloud_form old kinds ∷ forms) = cloud_form old kinds ∷ changed k keep count forms

-- the kinds of cloud k
abbrev pub form_kinds : ℕ → List Form → List ItemKind
form_kinds k [] = []
form_kinds k (blob_form size ∷ forms) = form_kinds k forms
form_kinds zero (cloud_form count kinds ∷ forms) = kinds
form_kinds (suc k) (cloud_form count kinds ∷ forms) = form_kinds k forms

changed-front : (k : ℕ) (keep : List Bool) (count : ℕ) (xs ys : List Form) → k < form_clouds xs → changed k keep count (xs ++ ys) ≡ changed k keep count xs ++ ys
changed-front k keep count [] ys below = absurd (omega arith)
changed-front k keep count (blob_form size ∷ xs) ys below = ap (λ (forms : List Form). blob_form size ∷ forms) (changed-front k keep count xs ys below)
changed-front zero keep count (cloud_form old kinds ∷ xs) ys below = refl
changed-front (suc k) keep count (cloud_form old kinds ∷ xs) ys below = ap (λ (forms : List Form). cloud_form old kinds ∷ forms) (changed-front k keep count xs ys (omega arith))

changed-back : (k : ℕ) (keep : List Bool) (count : ℕ) (xs ys : List Form) → form_clouds xs ≤ k → changed k keep count (xs ++ ys) ≡ xs ++ changed (k - form_clouds xs) keep count ys
changed-back k keep count [] ys above = let same : k ≡ k - 0 = omega arith in ap (λ j. changed j keep count ys) same
changed-back k keep count (blob_form size ∷ xs) ys above = ap (λ (forms : List Form). blob_form size ∷ forms) (changed-back k keep count xs ys above)
changed-back zero keep count (cloud_form old kinds ∷ xs) ys above = absurd (omega arith)
changed-back (suc k) keep count (cloud_form old kinds ∷ xs) ys above =
    let same : k - form_clouds xs ≡ suc k - suc (form_clouds xs) = omega arith in
    ap (λ (forms : List Form). cloud_form old kinds ∷ forms) (changed-back k keep count xs ys (omega arith) ∙ ap (λ j. xs ++ changed j keep count ys) same)

kinds-front : (k : ℕ) (xs ys : List Form) → k < form_clouds xs → form_kinds k (xs ++ ys) ≡ form_kinds k xs
kinds-front k [] ys below = absurd (omega arith)
kinds-front k (blob_form size ∷ xs) ys below = kinds-front k xs ys below
kinds-front zero (cloud_form old kinds ∷ xs) ys below = refl
kinds-front (suc k) (cloud_form old kinds ∷ xs) ys below = kinds-front k xs ys (omega arith)

kinds-back : (k : ℕ) (xs ys : List Form) → form_clouds xs ≤ k → form_kinds k (xs ++ ys) ≡ form_kinds (k - form_clouds xs) ys
kinds-back k [] ys above = let same : k ≡ k - 0 = omega arith in ap (λ j. form_kinds j ys) same
kinds-back k (blob_form size ∷ xs) ys above = kinds-back k xs ys above
kinds-back zero (cloud_form old kinds ∷ xs) ys above = absurd (omega arith)
kinds-back (suc k) (cloud_form old kinds ∷ xs) ys above =
    let same : k - form_clouds xs ≡ suc k - suc (form_clouds xs) = omega arith in
    kinds-back k xs ys (omega arith) ∙ ap (λ j. form_kinds j ys) same

kinds-none : (k : ℕ) (forms : List Form) → form_clouds forms ≡ 0 → form_kinds k forms ≡ []
kinds-none k [] free = refl
kinds-none k (blob_form size ∷ forms) free = kinds-none k forms free
kinds-none k (cloud_form old kinds ∷ forms) free = absurd (omega arith)

-- ---- how many clouds there are

own-clouds : (facts : Facts) (below : Shapes) (t : Option ElementType) → form_clouds (form_list facts below t) ≡ cond (is_cloud_type t) 1 0
own-clouds facts below None = refl
own-clouds facts below (Some element_type.Structure) = refl
own-clouds facts below (Some element_type.Vector) = refl
own-clouds facts below (Some element_type.CompressedVector) = refl
own-clouds facts below (Some element_type.Integer) = refl
own-clouds facts below (Some element_type.ScaledInteger) = refl
own-clouds facts below (Some element_type.Float) = refl
own-clouds facts below (Some element_type.String) = refl
own-clouds facts below (Some element_type.Blob) = refl

length-own : (name : List ℕ) (attrs : List Attr) (text : List ℕ) (below : Shapes) → form_clouds (form_list (facts_of name attrs text) below (facts_of name attrs text).element_type) ≡ own_cloud attrs
length-own name attrs text below =
    own-clouds (facts_of name attrs text) below (facts_of name attrs text).element_type ∙ ap (λ (t : Option ElementType). cond (is_cloud_type t) 1 0) (facts-type name attrs text)

mutual
  clouds-are : (e : Element) → form_clouds (forms_at (shape_of e)) ≡ clouds_in e
  clouds-are (element name attrs text children) =
      form_clouds-append (form_list (facts_of name attrs text) (shapes_of children) (facts_of name attrs text).element_type) (forms_all (shapes_of children))
      ∙ ap (λ k. k + form_clouds (forms_all (shapes_of children))) (length-own name attrs text (shapes_of children)) ∙ ap (λ k. own_cloud attrs + k) (clouds-are_all children)

  clouds-are_all : (es : Elements) → form_clouds (forms_all (shapes_of es)) ≡ clouds_in_all es
  clouds-are_all none = refl
  clouds-are_all (more e es) =
      form_clouds-append (forms_at (shape_of e)) (forms_all (shapes_of es)) ∙ ap (λ k. k + form_clouds (forms_all (shapes_of es))) (clouds-are e) ∙ ap (λ k. clouds_in e + k) (clouds-are_all es)

-- ---- what a change keeps

pub distinct-names : (ss ts : Shapes) (earlier : List (List ℕ)) → names_in ts ≡ names_in ss → AreDistinct earlier ss → AreDistinct earlier ts
distinct-names no_shapes no_shapes earlier same are = tt
distinct-names no_shapes (shapes t ts) earlier same are = absurd (cc)
distinct-names (shapes s ss) no_shapes earlier same are = absurd (cc)
distinct-names (shapes s ss) (shapes t ts) earlier same are =
    let first : name_in s ≡ name_in t = cc in
    let rest : names_in ts ≡ names_in ss = cc in
    (subst (λ (name : List ℕ). is_among earlier name ≡ false) first are.0, subst (λ (name : List ℕ). AreDistinct (earlier ++ name ∷ []) ts) first (distinct-names ss ts (earlier ++ name_in s ∷ []) rest are.1))

pub record IsChanged (k : ℕ) (keep : List Bool) (count : ℕ) (root : Bool) (e x : Element) : Type 0 where
  pub typed : IsTyped root (shape_of x)
  pub name : name_in (shape_of x) ≡ name_in (shape_of e)
  pub forms : forms_at (shape_of x) ≡ changed k keep count (forms_at (shape_of e))
  pub places : places_in x ≡ places_in e
  pub still : (texts : List (List ℕ)) → with_places texts e ≡ e → with_places texts x ≡ x
  pub less : IsLess (preorder e) (preorder x) (depth e) (depth x)

pub record AreChanged (k : ℕ) (keep : List Bool) (count : ℕ) (es xs : Elements) : Type 0 where
  pub typed : AreTyped (shapes_of xs)
  pub names : names_in (shapes_of xs) ≡ names_in (shapes_of es)
  pub bare : shapes_of es ≡ no_shapes → shapes_of xs ≡ no_shapes
  pub forms : forms_all (shapes_of xs) ≡ changed k keep count (forms_all (shapes_of es))
  pub places : places_in_all xs ≡ places_in_all es
  pub still : (texts : List (List ℕ)) → with_places_all texts es ≡ es → with_places_all texts xs ≡ xs
  pub less : IsLess (preorder_all es) (preorder_all xs) (depth_all es) (depth_all xs)

-- ---- the cloud itself

pub count-attrs : (count : ℕ) (t : Option ElementType) (facts : Facts) → attr_fault 0 t facts ≡ None → attr_fault 0 t (with_count count facts) ≡ None
unfolding attr_fault
count-attrs count None facts free = refl
count-attrs count (Some element_type.Structure) facts free = refl
count-attrs count (Some element_type.Vector) facts free = refl
count-attrs count (Some element_type.CompressedVector) facts free =
    none-or (when (not facts.has_place) (fault kind.NodeAttr 0 4)) None (option_or-none (when (not facts.has_place) (fault kind.NodeAttr 0 4)) (unread 0 5 facts.record_count) free).0 refl
count-attrs count (Some element_type.Integer) facts free = free
count-attrs count (Some element_type.ScaledInteger) facts free = free
count-attrs count (Some element_type.Float) facts free = free
count-attrs count (Some element_type.String) facts free = refl
count-attrs count (Some element_type.Blob) facts free = free

pub count-limits : (count : ℕ) (t : Option ElementType) (facts : Facts) → limits_fault 0 t facts ≡ None → limits_fault 0 t (with_count count facts) ≡ None
unfolding limits_fault
count-limits count None facts free = refl
count-limits count (Some element_type.Structure) facts free = refl
count-limits count (Some element_type.Vector) facts free = refl
count-limits count (Some element_type.CompressedVector) facts free = refl
count-limits count (Some element_type.Integer) facts free = free
count-limits count (Some element_type.ScaledInteger) facts free = free
count-limits count (Some element_type.Float) facts free = refl
count-limits count (Some element_type.String) facts free = refl
count-limits count (Some element_type.Blob) facts free = refl

not-false : (b : Bool) → not b ≡ false → b ≡ true
not-false true e = refl
not-false false e = absurd (cc)

pub count-there : (facts : Facts) → attr_fault 0 (Some element_type.CompressedVector) facts ≡ None → is_some facts.record_count ≡ true
unfolding attr_fault
count-there facts free =
    not-false (is_some facts.record_count) (when-none (not (is_some facts.record_count)) (fault kind.NodeAttr 0 5) (option_or-none (when (not facts.has_place) (fault kind.NodeAttr 0 4)) (unread 0 5 facts.record_count) free).1)

cloud_type : (t : Option ElementType) → is_cloud_type t ≡ true → t ≡ Some element_type.CompressedVector
cloud_type None is = absurd (cc)
cloud_type (Some element_type.Structure) is = absurd (cc)
cloud_type (Some element_type.Vector) is = absurd (cc)
cloud_type (Some element_type.CompressedVector) is = refl
cloud_type (Some element_type.Integer) is = absurd (cc)
cloud_type (Some element_type.ScaledInteger) is = absurd (cc)
cloud_type (Some element_type.Float) is = absurd (cc)
cloud_type (Some element_type.String) is = absurd (cc)
cloud_type (Some element_type.Blob) is = absurd (cc)

module _ (keep : List Bool) (count : ℕ) (root : Bool) (name : List ℕ) (attrs : List Attr) (text : List ℕ) (children : Elements) where
  abbrev cloud_facts : Facts
  cloud_facts = facts_of name attrs text

  abbrev cloud_old : Element
  cloud_old = element name attrs text children

  abbrev cloud_new : Element
  cloud_new = element name (counted_attrs count attrs) text (with_prototype keep children)

  -- the node of the cloud
  changed-node : count ≤ 2 ^ 40 → cloud_facts.element_type ≡ Some element_type.CompressedVector → IsTyped root (shape_of cloud_old) → IsReduced keep children (with_prototype keep children)
      → IsTyped root (shape (with_count count cloud_facts) (shapes_of (with_prototype keep children)))
  changed-node few is typed reduced =
      let xs = with_prototype keep children in
      let vector : IsVector cloud_facts (shapes_of children) = subst (λ (t : Option ElementType). VectorRule t cloud_facts (shapes_of children)) is typed.0.vector in
      let expected : list_all is_expected (names_in (shapes_of children)) ≡ true = subst (λ (t : Option ElementType). ChildRule t (shapes_of children)) is typed.0.children in
      let rule : IsVector (with_count count cloud_facts) (shapes_of xs) = record {
        few = le-ltb (2 ^ 40) count few;
        codecs = subst (λ (s : Option Shape). CodecsRule s) (sym reduced.codecs) vector.codecs;
        prototype = reduced.prototype;
      } in (
        record {
          has_type = typed.0.has_type;
          root_type = typed.0.root_type;
          root_name = typed.0.root_name;
          children = subst (λ (t : Option ElementType). ChildRule t (shapes_of xs)) (sym is) (ap (list_all is_expected) reduced.names ∙ expected);
          attrs = count-attrs count cloud_facts.element_type cloud_facts typed.0.attrs;
          limits = count-limits count cloud_facts.element_type cloud_facts typed.0.limits;
          vector = subst (λ (t : Option ElementType). VectorRule t (with_count count cloud_facts) (shapes_of xs)) (sym is) rule;
        },
        reduced.typed,
        λ differs. distinct-names (shapes_of children) (shapes_of xs) [] reduced.names (typed.2 differs),
      )

  changed-forms : cloud_facts.element_type ≡ Some element_type.CompressedVector → IsReduced keep children (with_prototype keep children)
      → forms_at (shape (with_count count cloud_facts) (shapes_of (with_prototype keep children))) ≡ changed 0 keep count (forms_at (shape_of cloud_old))
  changed-forms is reduced =
      let xs = with_prototype keep children in
      ap (λ (t : Option ElementType). form_list (with_count count cloud_facts) (shapes_of xs) t ++ forms_all (shapes_of xs)) is
      ∙ ap (λ (kinds : List ItemKind). cloud_form count kinds ∷ forms_all (shapes_of xs)) reduced.kinds
      ∙ ap (λ (forms : List Form). cloud_form count (chosen keep (vector_kinds (called (codes "prototype") (shapes_of children)))) ∷ forms) reduced.forms
      ∙ sym (ap (λ (t : Option ElementType). changed 0 keep count (form_list cloud_facts (shapes_of children) t ++ forms_all (shapes_of children))) is)

  changed-places : IsReduced keep children (with_prototype keep children) → places_in cloud_new ≡ places_in cloud_old
  changed-places reduced =
      let xs = with_prototype keep children in
      ap (λ (found : Option ℕ). cons_option found (places_in_all xs)) (counted-stated count name attrs text (length (preorder_all children) + 1) (length (preorder_all xs) + 1))
      ∙ ap (λ (qs : List ℕ). cons_option (stated_place (record { name = name; attrs = attrs; text = text; size = length (preorder_all children) + 1 })) qs) reduced.places

  changed-still : IsReduced keep children (with_prototype keep children) → (texts : List (List ℕ)) → with_places texts cloud_old ≡ cloud_old → with_places texts cloud_new ≡ cloud_new
  changed-still reduced texts same = by_test (is_cloud_or_blob attrs) (is_cloud_or_blob (counted_attrs count attrs)) (counted-section count attrs) same where
    value : List ℕ
    value = slice_index_or texts 0 []

    xs : Elements
    xs = with_prototype keep children

    by_test : (a b : Bool) → b ≡ a
        → cond a (element name (with_value place_name value attrs) text (with_places_all (drop 1 texts) children)) (element name attrs text (with_places_all texts children)) ≡ element name attrs text children
        → cond b (element name (with_value place_name value (counted_attrs count attrs)) text (with_places_all (drop 1 texts) xs)) (element name (counted_attrs count attrs) text (with_places_all texts xs))
        ≡ element name (counted_attrs count attrs) text xs
    by_test true true e same =
        let here : with_value place_name value attrs ≡ attrs = cc in
        let below : with_places_all (drop 1 texts) children ≡ children = cc in
        ap (λ (ys : List Attr). element name ys text (with_places_all (drop 1 texts) xs)) (counted-keeps count value attrs here)
        ∙ ap (λ (ys : Elements). element name (counted_attrs count attrs) text ys) (reduced.still (drop 1 texts) below)
    by_test true false e same = absurd (cc)
    by_test false true e same = absurd (cc)
    by_test false false e same =
        let below : with_places_all texts children ≡ children = cc in
        ap (λ (ys : Elements). element name (counted_attrs count attrs) text ys) (reduced.still texts below)

  changed-less : count ≤ 2 ^ 40 → AllByRecursion IsLawfulNode (preorder cloud_old) → IsReduced keep children (with_prototype keep children) → IsLess (preorder cloud_old) (preorder cloud_new) (depth cloud_old) (depth cloud_new)
  changed-less few h reduced =
      let xs = with_prototype keep children in
      record {
        size = omega (arith, reduced.less.size);
        depth = omega (arith, reduced.less.depth);
        each = (smaller-node name (counted_attrs count attrs) text (length (preorder_all children) + 1) (length (preorder_all xs) + 1) (omega (arith, reduced.less.size)) (counted-node count name attrs text (length (preorder_all children) + 1) (omega arith) h.0), reduced.less.each);
      }

  change-cloud : count ≤ 2 ^ 40 → cloud_facts.element_type ≡ Some element_type.CompressedVector → IsTyped root (shape_of cloud_old) → 0 < length (chosen keep (form_kinds 0 (forms_at (shape_of cloud_old)))) → AllByRecursion IsLawfulNode (preorder cloud_old)
      → IsChanged 0 keep count root cloud_old cloud_new
  change-cloud few is typed some h =
      let vector : IsVector cloud_facts (shapes_of children) = subst (λ (t : Option ElementType). VectorRule t cloud_facts (shapes_of children)) is typed.0.vector in
      let kinds : 0 < length (chosen keep (vector_kinds (called (codes "prototype") (shapes_of children)))) = subst (λ (t : Option ElementType). 0 < length (chosen keep (form_kinds 0 (form_list cloud_facts (shapes_of children) t ++ forms_all (shapes_of children))))) is some in
      let reduced = reduce keep children typed.1 vector.prototype kinds h.1 in
      let there = count-there cloud_facts (subst (λ (t : Option ElementType). attr_fault 0 t cloud_facts ≡ None) is typed.0.attrs) in
      let facts : facts_of name (counted_attrs count attrs) text ≡ with_count count cloud_facts = counted-facts count name attrs text (omega arith) there in
      record {
        typed = subst (λ (f : Facts). IsTyped root (shape f (shapes_of (with_prototype keep children)))) (sym facts) (changed-node few is typed reduced);
        name = ap (λ (f : Facts). f.name) facts;
        forms = ap (λ (f : Facts). forms_at (shape f (shapes_of (with_prototype keep children)))) facts ∙ changed-forms is reduced;
        places = changed-places reduced;
        still = changed-still reduced;
        less = changed-less few h reduced;
      }

-- ---- another node

other-child : (t : Option ElementType) (es xs : Elements) → is_cloud_type t ≡ false → (shapes_of es ≡ no_shapes → shapes_of xs ≡ no_shapes) → ChildRule t (shapes_of es) → ChildRule t (shapes_of xs)
other-child None es xs free bare rule = tt
other-child (Some element_type.Structure) es xs free bare rule = tt
other-child (Some element_type.Vector) es xs free bare rule = tt
other-child (Some element_type.CompressedVector) es xs free bare rule = absurd (cc)
other-child (Some element_type.Integer) es xs free bare rule = bare rule
other-child (Some element_type.ScaledInteger) es xs free bare rule = bare rule
other-child (Some element_type.Float) es xs free bare rule = bare rule
other-child (Some element_type.String) es xs free bare rule = bare rule
other-child (Some element_type.Blob) es xs free bare rule = bare rule

other-vector : (t : Option ElementType) (facts : Facts) (below : Shapes) → is_cloud_type t ≡ false → VectorRule t facts below
other-vector None facts below free = tt
other-vector (Some element_type.Structure) facts below free = tt
other-vector (Some element_type.Vector) facts below free = tt
other-vector (Some element_type.CompressedVector) facts below free = absurd (cc)
other-vector (Some element_type.Integer) facts below free = tt
other-vector (Some element_type.ScaledInteger) facts below free = tt
other-vector (Some element_type.Float) facts below free = tt
other-vector (Some element_type.String) facts below free = tt
other-vector (Some element_type.Blob) facts below free = tt

other-form : (t : Option ElementType) (facts : Facts) (below beneath : Shapes) → is_cloud_type t ≡ false → form_list facts beneath t ≡ form_list facts below t
other-form None facts below beneath free = refl
other-form (Some element_type.Structure) facts below beneath free = refl
other-form (Some element_type.Vector) facts below beneath free = refl
other-form (Some element_type.CompressedVector) facts below beneath free = absurd (cc)
other-form (Some element_type.Integer) facts below beneath free = refl
other-form (Some element_type.ScaledInteger) facts below beneath free = refl
other-form (Some element_type.Float) facts below beneath free = refl
other-form (Some element_type.String) facts below beneath free = refl
other-form (Some element_type.Blob) facts below beneath free = refl

stated-size : (name : List ℕ) (attrs : List Attr) (text : List ℕ) (size other : ℕ) → stated_place (record { name = name; attrs = attrs; text = text; size = other }) ≡ stated_place (record { name = name; attrs = attrs; text = text; size = size })
unfolding stated_place
stated-size name attrs text size other = refl

change-other : (k : ℕ) (keep : List Bool) (count : ℕ) (root : Bool) (name : List ℕ) (attrs : List Attr) (text : List ℕ) (es xs : Elements) → is_cloud_type (type_in attrs) ≡ false → IsTyped root (shape_of (element name attrs text es))
    → AllByRecursion IsLawfulNode (preorder (element name attrs text es)) → AreChanged (k - own_cloud attrs) keep count es xs → IsChanged k keep count root (element name attrs text es) (element name attrs text xs)
change-other k keep count root name attrs text es xs free is h later =
    let facts = facts_of name attrs text in
    let other : is_cloud_type facts.element_type ≡ false = ap is_cloud_type (facts-type name attrs text) ∙ free in
    let own : form_clouds (form_list facts (shapes_of es) facts.element_type) ≡ own_cloud attrs = length-own name attrs text (shapes_of es) in
    let nothing : own_cloud attrs ≡ 0 = ap (λ (b : Bool). cond b 1 0) free in
    record {
      typed = (
        record {
          has_type = is.0.has_type;
          root_type = is.0.root_type;
          root_name = is.0.root_name;
          children = other-child facts.element_type es xs other later.bare is.0.children;
          attrs = is.0.attrs;
          limits = is.0.limits;
          vector = other-vector facts.element_type facts (shapes_of xs) other;
        },
        later.typed,
        λ differs. distinct-names (shapes_of es) (shapes_of xs) [] later.names (is.2 differs),
      );
      name = refl;
      forms =
          ap (λ (forms : List Form). forms ++ forms_all (shapes_of xs)) (other-form facts.element_type facts (shapes_of es) (shapes_of xs) other)
          ∙ ap (λ (forms : List Form). form_list facts (shapes_of es) facts.element_type ++ forms) later.forms
          ∙ ap (λ j. form_list facts (shapes_of es) facts.element_type ++ changed (k - j) keep count (forms_all (shapes_of es))) (sym own)
          ∙ sym (changed-back k keep count (form_list facts (shapes_of es) facts.element_type) (forms_all (shapes_of es)) (omega arith));
      places =
          ap (λ (found : Option ℕ). cons_option found (places_in_all xs)) (stated-size name attrs text (length (preorder_all es) + 1) (length (preorder_all xs) + 1))
          ∙ ap (λ (qs : List ℕ). cons_option (stated_place (record { name = name; attrs = attrs; text = text; size = length (preorder_all es) + 1 })) qs) later.places;
      still = λ texts same. still texts (is_cloud_or_blob attrs) same;
      less = less-element name attrs text es xs h.0 later.less;
    }
  where
    still : (texts : List (List ℕ)) (b : Bool)
        → cond b (element name (with_value place_name (slice_index_or texts 0 []) attrs) text (with_places_all (drop 1 texts) es)) (element name attrs text (with_places_all texts es)) ≡ element name attrs text es
        → cond b (element name (with_value place_name (slice_index_or texts 0 []) attrs) text (with_places_all (drop 1 texts) xs)) (element name attrs text (with_places_all texts xs)) ≡ element name attrs text xs
    still texts true same =
        let here : with_value place_name (slice_index_or texts 0 []) attrs ≡ attrs = cc in
        let below : with_places_all (drop 1 texts) es ≡ es = cc in
        ap (λ (ys : List Attr). element name ys text (with_places_all (drop 1 texts) xs)) here ∙ ap (λ (ys : Elements). element name attrs text ys) (later.still (drop 1 texts) below)
    still texts false same =
        let below : with_places_all texts es ≡ es = cc in
        ap (λ (ys : Elements). element name attrs text ys) (later.still texts below)

-- ---- the whole tree

-- something is kept of cloud k
abbrev pub KeepsOf : ℕ → List Bool → List Form → Type 0
KeepsOf k keep forms = 0 < length (chosen keep (form_kinds k forms))

keeps-none : (k : ℕ) (keep : List Bool) (forms : List Form) → form_clouds forms ≡ 0 → KeepsOf k keep forms → ⊥
keeps-none k keep forms free some =
    let empty : length (chosen keep (form_kinds k forms)) ≡ 0 = ap (λ (kinds : List ItemKind). length (chosen keep kinds)) (kinds-none k forms free) ∙ ap length (chosen-empty keep) in
    omega arith

changed-first : (k : ℕ) (keep : List Bool) (count : ℕ) (e x : Element) (es : Elements) → k < form_clouds (forms_at (shape_of e)) → AreTyped (shapes_of es) → AllByRecursion IsLawfulNode (preorder_all es) → IsChanged k keep count false e x
    → AreChanged k keep count (more e es) (more x es)
changed-first k keep count e x es below are h one = record {
  typed = (one.typed, are);
  names = ap (λ (name : List ℕ). name ∷ names_in (shapes_of es)) one.name;
  bare = λ bare. absurd (cc);
  forms =
      ap (λ (forms : List Form). forms ++ forms_all (shapes_of es)) one.forms
      ∙ sym (changed-front k keep count (forms_at (shape_of e)) (forms_all (shapes_of es)) below);
  places = places-more x es ∙ ap (λ (qs : List ℕ). qs ++ places_in_all es) one.places ∙ sym (places-more e es);
  still = λ texts. more-other e x es texts one.places (one.still texts);
  less = less-more e x es es one.less (nodes-same es h);
}

changed-later : (k : ℕ) (keep : List Bool) (count : ℕ) (e : Element) (es xs : Elements) → form_clouds (forms_at (shape_of e)) ≤ k → IsTyped false (shape_of e) → AllByRecursion IsLawfulNode (preorder e) → AreChanged (k - clouds_in e) keep count es xs
    → AreChanged k keep count (more e es) (more e xs)
changed-later k keep count e es xs above is h later = record {
  typed = (is, later.typed);
  names = ap (λ (names : List (List ℕ)). name_in (shape_of e) ∷ names) later.names;
  bare = λ bare. absurd (cc);
  forms =
      ap (λ (forms : List Form). forms_at (shape_of e) ++ forms) later.forms
      ∙ ap (λ j. forms_at (shape_of e) ++ changed (k - j) keep count (forms_all (shapes_of es))) (sym (clouds-are e))
      ∙ sym (changed-back k keep count (forms_at (shape_of e)) (forms_all (shapes_of es)) above);
  places = places-more e xs ∙ ap (λ (qs : List ℕ). places_in e ++ qs) later.places ∙ sym (places-more e es);
  still = λ texts. more-same e es xs texts later.still;
  less = less-more e e es xs (node-same e h) later.less;
}

mutual
  pub with_cloud-changed : (k : ℕ) (keep : List Bool) (count : ℕ) (root : Bool) (e : Element) → count ≤ 2 ^ 40 → IsTyped root (shape_of e) → KeepsOf k keep (forms_at (shape_of e)) → AllByRecursion IsLawfulNode (preorder e)
      → IsChanged k keep count root e (with_cloud k keep count e)
  with_cloud-changed k keep count root (element name attrs text children) few is some h =
      by_test (λ s. with_cloud_all-changed (k - own_cloud attrs) keep count children few is.1 s h.1) (is_cloud_type (type_in attrs)) refl (k == 0) refl
    where
      facts : Facts
      facts = facts_of name attrs text

      own : form_clouds (form_list facts (shapes_of children) facts.element_type) ≡ own_cloud attrs
      own = length-own name attrs text (shapes_of children)

      -- what is kept is below, where the node has no cloud before it
      below : form_clouds (form_list facts (shapes_of children) facts.element_type) ≤ k → KeepsOf (k - own_cloud attrs) keep (forms_all (shapes_of children))
      below above =
          subst (λ (kinds : List ItemKind). 0 < length (chosen keep kinds)) (kinds-back k (form_list facts (shapes_of children) facts.element_type) (forms_all (shapes_of children)) above ∙ ap (λ j. form_kinds (k - j) (forms_all (shapes_of children))) own) some

      by_test : (KeepsOf (k - own_cloud attrs) keep (forms_all (shapes_of children)) → AreChanged (k - own_cloud attrs) keep count children (with_cloud_all (k - own_cloud attrs) keep count children))
          → (a : Bool) → is_cloud_type (type_in attrs) ≡ a → (b : Bool) → (k == 0) ≡ b
          → IsChanged k keep count root (element name attrs text children)
          (cond (a && b) (element name (counted_attrs count attrs) text (with_prototype keep children)) (element name attrs text (with_cloud_all (k - own_cloud attrs) keep count children)))
      by_test later true cloud true first =
          let zero_is : k ≡ 0 = grind (arith, nat_tests) in
          let kind = facts-type name attrs text ∙ cloud_type (type_in attrs) cloud in
          subst (λ j. IsChanged j keep count root (element name attrs text children) (element name (counted_attrs count attrs) text (with_prototype keep children))) (sym zero_is)
          (change-cloud keep count root name attrs text children few kind is (subst (λ j. KeepsOf j keep (forms_at (shape_of (element name attrs text children)))) zero_is some) h)
      by_test later true cloud false other =
          let one : own_cloud attrs ≡ 1 = ap (λ (c : Bool). cond c 1 0) cloud in
          let above : 1 ≤ k = grind (arith, nat_tests) in
          let none = vector-clouds root facts (shapes_of children) (facts-type name attrs text ∙ cloud_type (type_in attrs) cloud) is in
          absurd (keeps-none (k - own_cloud attrs) keep (forms_all (shapes_of children)) none (below (omega (arith, own))))
      by_test later false free b e =
          let nothing : own_cloud attrs ≡ 0 = ap (λ (c : Bool). cond c 1 0) free in
          change-other k keep count root name attrs text children (with_cloud_all (k - own_cloud attrs) keep count children) free is h (later (below (omega (arith, own))))

  pub with_cloud_all-changed : (k : ℕ) (keep : List Bool) (count : ℕ) (es : Elements) → count ≤ 2 ^ 40 → AreTyped (shapes_of es) → KeepsOf k keep (forms_all (shapes_of es)) → AllByRecursion IsLawfulNode (preorder_all es)
      → AreChanged k keep count es (with_cloud_all k keep count es)
  with_cloud_all-changed k keep count none few are some h = absurd (keeps-none k keep [] refl some)
  with_cloud_all-changed k keep count (more e es) few are some h =
      by_test (λ s. with_cloud-changed k keep count false e few are.0 s parts.0) (λ s. with_cloud_all-changed (k - clouds_in e) keep count es few are.1 s parts.1) (nat_lt k (clouds_in e)) refl
    where
      parts : AllByRecursion IsLawfulNode (preorder e) × AllByRecursion IsLawfulNode (preorder_all es)
      parts = nodes-parts (preorder e) (preorder_all es) h

      by_test : (KeepsOf k keep (forms_at (shape_of e)) → IsChanged k keep count false e (with_cloud k keep count e))
          → (KeepsOf (k - clouds_in e) keep (forms_all (shapes_of es)) → AreChanged (k - clouds_in e) keep count es (with_cloud_all (k - clouds_in e) keep count es))
          → (b : Bool) → nat_lt k (clouds_in e) ≡ b
          → AreChanged k keep count (more e es) (cond b (more (with_cloud k keep count e) es) (more e (with_cloud_all (k - clouds_in e) keep count es)))
      by_test here later true e' =
          let under : k < clouds_in e = grind (arith, nat_tests) in
          let below : k < form_clouds (forms_at (shape_of e)) = omega (arith, clouds-are e) in
          changed-first k keep count e (with_cloud k keep count e) es below are.1 parts.1
          (here (subst (λ (kinds : List ItemKind). 0 < length (chosen keep kinds)) (kinds-front k (forms_at (shape_of e)) (forms_all (shapes_of es)) below) some))
      by_test here later false e' =
          let over : clouds_in e ≤ k = grind (arith, nat_tests) in
          let above : form_clouds (forms_at (shape_of e)) ≤ k = omega (arith, clouds-are e) in
          changed-later k keep count e es (with_cloud_all (k - clouds_in e) keep count es) above are.0 parts.0
          (later (subst (λ (kinds : List ItemKind). 0 < length (chosen keep kinds)) (kinds-back k (forms_at (shape_of e)) (forms_all (shapes_of es)) above ∙ ap (λ j. form_kinds (k - j) (forms_all (shapes_of es))) (clouds-are e)) some))
