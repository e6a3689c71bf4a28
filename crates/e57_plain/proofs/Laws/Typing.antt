-- Which trees have no fault, said without the numbers of their nodes.
use Rattle.std.specs.Prelude.{◌≡◌, ℕ, suc, ◌+◌, ◌<◌, ◌≤◌, ◌||◌, nat_lt, Bool, true, false, cond, if◌then◌else◌, List, [], ◌∷◌, ◌++◌, length, map, find, codes, Option, Some, None, is_some, option_map, unwrap_or}
use Rattle.std.specs.List.{list_all}
use Rattle.std.specs.Option.{option_or}
use Rattle.std.specs.Str.{bytes_eq}
use Rattle.std.proofs.Common.{refl, ap, ◌∙◌}
use Rattle.e57_base.specs.declared.fault.Fault.{Fault}
use Rattle.e57_layout.specs.declared.field.Field.{Field}
use Rattle.e57_layout.specs.declared.field.FieldKind.{FieldKind}
use Rattle.e57_layout.specs.Values.{ItemKind, item_kind}
use Rattle.e57_cloud.specs.Section.{when}
use Rattle.e57_nodes.specs.declared.ElementType.{ElementType}
use Rattle.e57_nodes.specs.declared.ElementType.TheVariants as element_type
use Rattle.e57_nodes.specs.Facts.{Facts}
use Rattle.e57_nodes.specs.Shape.{Shape, shape, Shapes, no_shapes, shapes, node_count, Node, node_at, children_from, children_of, nodes_from, nodes_from_all}
use Rattle.e57_nodes.specs.Paths.{counts_children, child_path}
use Rattle.e57_nodes.specs.Places.{has_section}
use Rattle.e57_nodes.specs.Fields.{child_named, kind_of, field_at, fields_from, fields_from_all, fields_below, fields_of}
use Rattle.e57_nodes.specs.Typed.{max_records, attr_fault, limits_fault, is_structure, names_differ}
use Rattle.e57_plain.specs.Valid.{kinds_in}

-- ---- children by their names

abbrev pub name_in : Shape → List ℕ
name_in (shape facts below) = facts.name

abbrev pub names_in : Shapes → List (List ℕ)
names_in no_shapes = []
names_in (shapes s ss) = name_in s ∷ names_in ss

abbrev pub is_among : List (List ℕ) → List ℕ → Bool
is_among [] name = false
is_among (x ∷ xs) name = bytes_eq x name || is_among xs name

-- the first one of this name
abbrev pub called : List ℕ → Shapes → Option Shape
called name no_shapes = None
called name (shapes s ss) = if bytes_eq (name_in s) name then Some s else called name ss

-- none has the name of an earlier one
abbrev pub AreDistinct : List (List ℕ) → Shapes → Type 0
AreDistinct earlier no_shapes = Unit {0}
AreDistinct earlier (shapes s ss) = (is_among earlier (name_in s) ≡ false) × AreDistinct (earlier ++ name_in s ∷ []) ss

-- ---- kinds of fields

abbrev pub kind_list : Option FieldKind → List ItemKind
kind_list None = []
kind_list (Some kind) = item_kind kind ∷ []

-- what the items of the fields are, of a node and of those below it
abbrev mutual
  pub kinds_at : Shape → List ItemKind
  kinds_at (shape facts below) = kind_list (kind_of facts facts.element_type) ++ kinds_all below

  pub kinds_all : Shapes → List ItemKind
  kinds_all no_shapes = []
  kinds_all (shapes s ss) = kinds_at s ++ kinds_all ss

-- ---- the rules

-- neither a cloud nor a blob
abbrev mutual
  pub NoSection : Shape → Type 0
  NoSection (shape facts below) = (has_section facts.element_type ≡ false) × NoSections below

  pub NoSections : Shapes → Type 0
  NoSections no_shapes = Unit {0}
  NoSections (shapes s ss) = NoSection s × NoSections ss

abbrev pub is_expected : List ℕ → Bool
is_expected name = bytes_eq name (codes "prototype") || bytes_eq name (codes "codecs")

abbrev pub ChildRule : Option ElementType → Shapes → Type 0
ChildRule (Some element_type.CompressedVector) below = list_all is_expected (names_in below) ≡ true
ChildRule (Some element_type.Structure) below = Unit {0}
ChildRule (Some element_type.Vector) below = Unit {0}
ChildRule (Some leaf) below = below ≡ no_shapes
ChildRule None below = Unit {0}

abbrev pub CodecsRule : Option Shape → Type 0
CodecsRule None = Unit {0}
CodecsRule (Some (shape facts below)) = below ≡ no_shapes

pub record IsPrototype (facts : Facts) (below : Shapes) : Type 0 where
  pub is_structure : is_structure facts.element_type ≡ true
  pub no_section : NoSections below
  pub some : 0 < length (kinds_all below)
  pub few : length (kinds_all below) ≤ 512

abbrev pub PrototypeRule : Option Shape → Type 0
PrototypeRule None = ⊥
PrototypeRule (Some (shape facts below)) = IsPrototype facts below

pub record IsVector (facts : Facts) (below : Shapes) : Type 0 where
  pub few : nat_lt max_records (unwrap_or facts.record_count 0) ≡ false
  pub codecs : CodecsRule (called (codes "codecs") below)
  pub prototype : PrototypeRule (called (codes "prototype") below)

abbrev pub VectorRule : Option ElementType → Facts → Shapes → Type 0
VectorRule (Some element_type.CompressedVector) facts below = IsVector facts below
VectorRule other facts below = Unit {0}

-- A node has no fault, but perhaps that of a namesake.
pub record IsTypedNode (root : Bool) (facts : Facts) (below : Shapes) : Type 0 where
  pub has_type : is_some facts.element_type ≡ true
  pub root_type : root ≡ true → facts.element_type ≡ Some element_type.Structure
  pub root_name : root ≡ true → bytes_eq facts.name (codes "e57Root") ≡ true
  pub children : ChildRule facts.element_type below
  pub attrs : attr_fault 0 facts.element_type facts ≡ None
  pub limits : limits_fault 0 facts.element_type facts ≡ None
  pub vector : VectorRule facts.element_type facts below

-- A tree whose nodes have no fault.
abbrev mutual
  pub IsTyped : Bool → Shape → Type 0
  IsTyped root (shape facts below) = IsTypedNode root facts below × AreTyped below × (names_differ facts.element_type ≡ true → AreDistinct [] below)

  pub AreTyped : Shapes → Type 0
  AreTyped no_shapes = Unit {0}
  AreTyped (shapes s ss) = IsTyped false s × AreTyped ss

-- ---- what is found among nodes

pub none-or : {A : Type 0} (a b : Option A) → a ≡ None → b ≡ None → option_or a b ≡ None
none-or a b e f = rw (e, f)

pub when-other : (test : Bool) (found other : Fault) → when test found ≡ None → when test other ≡ None
when-other true found other e = absurd (cc)
when-other false found other e = refl

pub when-false : (test : Bool) (found : Fault) → test ≡ false → when test found ≡ None
when-false true found e = absurd (cc)
when-false false found e = refl

pub map-none : {A B : Type 0} (f : A → B) (found : Option A) → option_map f found ≡ None → found ≡ None
map-none f None e = refl
map-none f (Some x) e = absurd (cc)

pub none-map : {A B : Type 0} (f : A → B) (found : Option A) → found ≡ None → option_map f found ≡ None
none-map f None e = refl
none-map f (Some x) e = absurd (cc)

abbrev pub stripped : Node → Shape
stripped x = shape x.facts x.below

pub child-called : (name : List ℕ) (n : ℕ) (ss : Shapes) → option_map stripped (child_named name (children_from n ss)) ≡ called name ss
unfolding child_named
child-called name n no_shapes = refl
child-called name n (shapes (shape facts below) ss) = by_test (bytes_eq facts.name name) (child-called name (n + node_count (shape facts below)) ss) where
  by_test : (b : Bool) → option_map stripped (find (λ (x : Node). bytes_eq x.facts.name name) (children_from (n + node_count (shape facts below)) ss)) ≡ called name ss
      → option_map stripped (cond b (Some (node_at n (shape facts below))) (find (λ (x : Node). bytes_eq x.facts.name name) (children_from (n + node_count (shape facts below)) ss))) ≡ cond b (Some (shape facts below)) (called name ss)
  by_test true later = refl
  by_test false later = later

pub among-named : (name : List ℕ) (earlier : List Node) → is_some (child_named name earlier) ≡ is_among (map (λ (x : Node). x.facts.name) earlier) name
unfolding child_named
among-named name [] = refl
among-named name (x ∷ earlier) = by_test (bytes_eq x.facts.name name) (among-named name earlier) where
  by_test : (b : Bool) → is_some (find (λ (y : Node). bytes_eq y.facts.name name) earlier) ≡ is_among (map (λ (y : Node). y.facts.name) earlier) name
      → is_some (cond b (Some x) (find (λ (y : Node). bytes_eq y.facts.name name) earlier)) ≡ (b || is_among (map (λ (y : Node). y.facts.name) earlier) name)
  by_test true later = refl
  by_test false later = later

pub find-skip : (p : Node → Bool) (x : Node) (xs : List Node) → p x ≡ false → find p (x ∷ xs) ≡ find p xs
find-skip p x xs free = ap (λ b. cond b (Some x) (find p xs)) free

pub find-no : (p : Node → Bool) (x : Node) (xs : List Node) → find p (x ∷ xs) ≡ None → (p x ≡ false) × (find p xs ≡ None)
find-no p x xs none = by_test (p x) refl none where
  by_test : (b : Bool) → p x ≡ b → cond b (Some x) (find p xs) ≡ None → (p x ≡ false) × (find p xs ≡ None)
  by_test true e none = absurd (cc)
  by_test false e none = (e, none)

find-parts : (p : Node → Bool) (xs ys : List Node) → find p (xs ++ ys) ≡ None → (find p xs ≡ None) × (find p ys ≡ None)
find-parts p [] ys none = (refl, none)
find-parts p (x ∷ xs) ys none =
    let first = find-no p x (xs ++ ys) none in
    let rest = find-parts p xs ys first.1 in
    (find-skip p x xs first.0 ∙ rest.0, rest.1)

find-append : (p : Node → Bool) (xs ys : List Node) → find p xs ≡ None → find p ys ≡ None → find p (xs ++ ys) ≡ None
find-append p [] ys none none_too = none_too
find-append p (x ∷ xs) ys none none_too =
    let first = find-no p x xs none in
    find-skip p x (xs ++ ys) first.0 ∙ find-append p xs ys first.1 none_too

abbrev pub is_section : Node → Bool
is_section x = has_section x.facts.element_type

mutual
  pub no-section : (n : ℕ) (s : Shape) → find is_section (nodes_from n s) ≡ None → NoSection s
  no-section n (shape facts below) none =
      let first = find-no is_section (node_at n (shape facts below)) (nodes_from_all (n + 1) below) none in
      (first.0, no-sections (n + 1) below first.1)

  pub no-sections : (n : ℕ) (ss : Shapes) → find is_section (nodes_from_all n ss) ≡ None → NoSections ss
  no-sections n no_shapes none = tt
  no-sections n (shapes s ss) none =
      let parts = find-parts is_section (nodes_from n s) (nodes_from_all (n + node_count s) ss) none in
      (no-section n s parts.0, no-sections (n + node_count s) ss parts.1)

mutual
  pub section-none : (n : ℕ) (s : Shape) → NoSection s → find is_section (nodes_from n s) ≡ None
  section-none n (shape facts below) free =
      find-skip is_section (node_at n (shape facts below)) (nodes_from_all (n + 1) below) free.0 ∙ sections-none (n + 1) below free.1

  pub sections-none : (n : ℕ) (ss : Shapes) → NoSections ss → find is_section (nodes_from_all n ss) ≡ None
  sections-none n no_shapes free = refl
  sections-none n (shapes s ss) free =
      find-append is_section (nodes_from n s) (nodes_from_all (n + node_count s) ss) (section-none n s free.0) (sections-none (n + node_count s) ss free.1)

-- ---- kinds of fields by their nodes

kinds-append : (xs ys : List Field) → kinds_in (xs ++ ys) ≡ kinds_in xs ++ kinds_in ys
kinds-append [] ys = refl
kinds-append (x ∷ xs) ys = ap (λ (ks : List ItemKind). item_kind x.kind ∷ ks) (kinds-append xs ys)

field-kind : (n : ℕ) (path : List ℕ) (found : Option FieldKind) → kinds_in (field_at n path found) ≡ kind_list found
field-kind n path None = refl
field-kind n path (Some kind) = refl

mutual
  pub fields-kinds : (path : List ℕ) (n : ℕ) (s : Shape) → kinds_in (fields_from path n s) ≡ kinds_at s
  fields-kinds path n (shape facts below) =
      kinds-append (field_at n path (kind_of facts facts.element_type)) (fields_from_all (counts_children facts.element_type) path 0 (n + 1) below)
      ∙ ap (λ (ks : List ItemKind). ks ++ kinds_in (fields_from_all (counts_children facts.element_type) path 0 (n + 1) below)) (field-kind n path (kind_of facts facts.element_type))
      ∙ ap (λ (ks : List ItemKind). kind_list (kind_of facts facts.element_type) ++ ks) (fields-kinds_all (counts_children facts.element_type) path 0 (n + 1) below)

  pub fields-kinds_all : (counted : Bool) (path : List ℕ) (position n : ℕ) (ss : Shapes) → kinds_in (fields_from_all counted path position n ss) ≡ kinds_all ss
  fields-kinds_all counted path position n no_shapes = refl
  fields-kinds_all counted path position n (shapes s ss) =
      kinds-append (fields_from (child_path counted path position s) n s) (fields_from_all counted path (position + 1) (n + node_count s) ss)
      ∙ ap (λ (ks : List ItemKind). ks ++ kinds_in (fields_from_all counted path (position + 1) (n + node_count s) ss)) (fields-kinds (child_path counted path position s) n s)
      ∙ ap (λ (ks : List ItemKind). kinds_at s ++ ks) (fields-kinds_all counted path (position + 1) (n + node_count s) ss)

pub length-kinds : (fields : List Field) → length (kinds_in fields) ≡ length fields
length-kinds [] = refl
length-kinds (field ∷ fields) = ap suc (length-kinds fields)

-- the kinds of a cloud's fields
abbrev pub vector_kinds : Option Shape → List ItemKind
vector_kinds None = []
vector_kinds (Some (shape facts below)) = kinds_all below

pub fields_of-kinds : (x : Node) → kinds_in (fields_of x) ≡ vector_kinds (called (codes "prototype") x.below)
unfolding fields_of
fields_of-kinds x = by_found (child_named (codes "prototype") (children_of x)) ∙ ap vector_kinds (child-called (codes "prototype") (x.number + 1) x.below) where
  by_found : (found : Option Node) → kinds_in (fields_below found) ≡ vector_kinds (option_map stripped found)
  by_found None = refl
  by_found (Some p) = fields-kinds_all (counts_children p.facts.element_type) [] 0 (p.number + 1) p.below
