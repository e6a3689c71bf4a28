-- The call that changes one cloud of a tree.
use Rattle.std.proofs.Common.{◌≡◌, ℕ, zero, suc, ◌+◌, ◌^◌, ◌≤◌, ◌<◌, Bool, true, cond, List, [], ◌∷◌, ◌++◌, length, map, drop, get_or, Some, None, slice_get, refl, sym, ap, ◌∙◌, arith, length-append}
use Rattle.std.specs.List.{filter_map}
use Rattle.std.proofs.lemmas.Bool.{lt-ltb}
use Rattle.std.proofs.lemmas.List.{append-nil, drop-drop, get_or-drop, get_or-map}
use Rattle.std.proofs.Math.Seq.{drop-append_seam}
use Rattle.e57_elements.specs.declared.tree.RawNode.{RawNode}
use Rattle.e57_elements.specs.Tree.{Element, Elements, none, more, preorder, preorder_all}
use Rattle.e57_elements.specs.Lawful.{AreNodes}
use Rattle.e57_nodes.specs.Shape.{shape_of, nodes_from}
use Rattle.e57_nodes.specs.Typed.{typed_fault}
use Rattle.e57_nodes.specs.Places.{places_in}
use Rattle.e57_nodes.specs.Items.{StatedItem, stated_cloud, stated_blob, stated_item, stated_items}
use Rattle.e57_nodes.proofs.Laws.Stated.{length-stated_items}
use Rattle.e57_verdict.specs.Content.{Content}
use Rattle.e57_plain.specs.Pruned.{keeps_some, clouds_in, with_cloud}
use Rattle.e57_plain.specs.Kept.{Selection, cloud_fields as fields_of_cloud}
use Rattle.e57_plain.proofs.Laws.Typed.{whole-typed, typed-whole}
use Rattle.e57_plain.proofs.Laws.Changed.{IsChanged, KeepsOf, with_cloud-changed}
use Rattle.e57_plain.proofs.Laws.Kept.{keeps-of}
use Rattle.e57_plain.proofs.Laws.Forms.{forms_at}
use Rattle.e57_tree.specs.declared.items.Cloud.{Cloud}
use Rattle.e57_tree.specs.Flat.{no_node, raw_at, end_of}
use Rattle.e57_tree.specs.Held.{clouds_among, fields_among, clouds_of, cloud_fields}
use Rattle.e57_edits.specs.declared.changes.Change.{Change}
use Rattle.e57_edits.specs.declared.changes.Change.TheVariants.{Records}
use Rattle.e57_edits.specs.Choosing.{HasChoices}
use Rattle.e57_edits.specs.Changes.{edited_all, kept, prototype_changes, IsSoundEdit}
use Rattle.e57_edits.proofs.Clouds.{plan_all, length-plan, edited-plan, numbers_among, numbers, length-numbers, IsCloudAt, cloud_at}

abbrev pub no_cloud : Cloud
no_cloud = record { node = 0; place = 0; count = 0 }

-- ---- the number of its node

numbers_are : (items : List StatedItem) (places : List ℕ) → length items ≡ length places → map (λ (c : Cloud). c.node) (clouds_among items places) ≡ numbers_among items
numbers_are [] [] same = refl
numbers_are [] (p ∷ ps) same = refl
numbers_are (x ∷ xs) [] same = absurd (omega arith)
numbers_are (stated_cloud n count fields ∷ xs) (p ∷ ps) same = ap (λ ns. n ∷ ns) (numbers_are xs ps (omega arith))
numbers_are (stated_blob n size ∷ xs) (p ∷ ps) same = numbers_are xs ps (omega arith)

same_numbers : (e : Element) → map (λ (c : Cloud). c.node) (clouds_of e) ≡ numbers 0 (more e none)
same_numbers e = numbers_are (stated_items (shape_of e)) (places_in e) (length-stated_items e) ∙ ap (λ ns. numbers_among (filter_map stated_item ns)) (sym (append-nil (nodes_from 0 (shape_of e))))

length-mapped : {X Y : Type 0} (f : X → Y) (xs : List X) → length (map f xs) ≡ length xs
length-mapped f [] = refl
length-mapped f (x ∷ xs) = ap suc (length-mapped f xs)

as_many : (e : Element) → length (clouds_of e) ≡ clouds_in e
as_many e =
    let all = length-numbers 0 (more e none) in
    let same = ap length (same_numbers e) in
    let mapped = length-mapped (λ (c : Cloud). c.node) (clouds_of e) in
    omega arith

number_is : (e : Element) (k : ℕ) → k < length (clouds_of e) → (get_or (clouds_of e) k no_cloud).node ≡ get_or (numbers 0 (more e none)) k 0
number_is e k l = sym (get_or-map (λ (c : Cloud). c.node) (clouds_of e) k no_cloud 0 l) ∙ ap (λ ns. get_or ns k 0) (same_numbers e)

-- ---- its changes

-- The changes are those of all nodes, and the tree edited by them is the tree with the cloud changed.
pub record IsCloudEdit (k : ℕ) (chosen : List Bool) (count : ℕ) (nodes : List RawNode) (e : Element) (changes : List Change) : Type 0 where
  pub all : length changes ≡ length nodes
  pub edited : edited_all changes (more e none) ≡ more (with_cloud k chosen count e) none

-- what the changes are, by the number of the cloud's node
abbrev pub AreChangesAt : List RawNode → ℕ → List Bool → ℕ → List Change → Type 0
AreChangesAt nodes n chosen count changes =
    (es : Elements) (rest : List RawNode) → drop (n + 1) nodes ≡ preorder_all es ++ rest → n + 1 + length (preorder_all es) ≡ end_of nodes n
    → changes ≡ kept n ++ (Records count ∷ (prototype_changes chosen es ++ kept (length rest)))

module _ (nodes : List RawNode) (e : Element) (k : ℕ) (chosen : List Bool) (count n : ℕ) (same : nodes ≡ preorder e) (l : k < length (clouds_of e)) (is : n ≡ (get_or (clouds_of e) k no_cloud).node) where
  there : IsCloudAt k 0 chosen count (more e none)
  there = cloud_at k 0 chosen count (more e none) (let many = as_many e in omega arith)

  nodes_are : nodes ≡ there.before ++ (there.node ∷ (preorder_all there.children ++ there.after))
  nodes_are = same ∙ sym (append-nil (preorder e)) ∙ there.parts

  number : n ≡ length there.before
  number = is ∙ number_is e k l ∙ there.number ∙ (let plain : 0 + length there.before ≡ length there.before = omega arith in plain)

  pub cloud_within : n < length nodes
  cloud_within =
      let all = ap length nodes_are ∙ length-append there.before (there.node ∷ (preorder_all there.children ++ there.after)) in
      let at = number in
      omega arith

  from_there : drop n nodes ≡ there.node ∷ (preorder_all there.children ++ there.after)
  from_there = ap (λ j. drop j nodes) number ∙ ap (drop (length there.before)) nodes_are ∙ drop-append_seam there.before (there.node ∷ (preorder_all there.children ++ there.after))

  end_is : n + 1 + length (preorder_all there.children) ≡ end_of nodes n
  end_is =
      let plain : n ≡ n + 0 = omega arith in
      let here : raw_at nodes n ≡ there.node = ap (λ j. get_or nodes j no_node) plain ∙ sym (get_or-drop n nodes 0 no_node) ∙ ap (λ ns. get_or ns 0 no_node) from_there in
      let size = ap (λ (x : RawNode). x.size) here ∙ there.size in
      omega arith

  pub cloud_edit : (changes : List Change) → AreChangesAt nodes n chosen count changes → IsCloudEdit k chosen count nodes e changes
  cloud_edit changes h =
      let plan : changes ≡ plan_all k chosen count (more e none) =
      h there.children there.after (sym (drop-drop 1 n nodes) ∙ ap (drop 1) from_there) end_is
      ∙ ap (λ j. kept j ++ (Records count ∷ (prototype_changes chosen there.children ++ kept (length there.after)))) number ∙ sym there.plan in
      let below : k < clouds_in e = let many = as_many e in omega arith in
      record {
        all = ap length plan ∙ length-plan k chosen count (more e none) ∙ ap length (append-nil (preorder e)) ∙ ap length (sym same);
        edited =
            edited-plan k chosen count (more e none) changes [] (plan ∙ sym (append-nil (plan_all k chosen count (more e none))))
            ∙ ap (λ (b : Bool). cond b (more (with_cloud k chosen count e) none) (more e none)) (lt-ltb k (clouds_in e) below);
      }

-- ---- it is sound

fields_at : (k : ℕ) (items : List StatedItem) → k < length (fields_among items) → slice_get (fields_among items) k ≡ Some (fields_of_cloud k items)
fields_at k [] l = absurd (omega arith)
fields_at k (stated_blob n size ∷ items) l = fields_at k items l
fields_at zero (stated_cloud n count fields ∷ items) l = refl
fields_at (suc k) (stated_cloud n count fields ∷ items) l = fields_at k items (omega arith)

as_many_fields : (items : List StatedItem) → length (numbers_among items) ≡ length (fields_among items)
as_many_fields [] = refl
as_many_fields (stated_blob n size ∷ items) = as_many_fields items
as_many_fields (stated_cloud n count fields ∷ items) = ap suc (as_many_fields items)

pub cloud_sound : (nodes : List RawNode) (changes : List Change) (k : ℕ) (chosen : List Bool) (count : ℕ) (h : AreNodes nodes) → IsCloudEdit k chosen count nodes h.tree changes → ((e : Element) → nodes ≡ preorder e → typed_fault (shape_of e) ≡ None)
    → k < length (clouds_of h.tree) → HasChoices (cloud_fields h.tree) k chosen → keeps_some chosen ≡ true → count ≤ 2 ^ 40 → IsSoundEdit changes nodes
cloud_sound nodes changes k chosen count h edit typed l choices some few =
    let e = h.tree in
    let items = stated_items (shape_of e) in
    let numbered = ap length (numbers_are items (places_in e) (length-stated_items e)) in
    let mapped = length-mapped (λ (c : Cloud). c.node) (clouds_of e) in
    let fields = as_many_fields items in
    let selection : Selection = record { cloud = k; fields = chosen; from = 0; until = 0; every = 0; tests = [] } in
    let content : Content = record { tree = e; bodies = [] } in
    let keeps : KeepsOf k chosen (forms_at (shape_of e)) = keeps-of selection content (record { fields = choices (fields_of_cloud k items) (fields_at k items (omega arith)); some = some }) in
    let changed : IsChanged k chosen count true e (with_cloud k chosen count e) = with_cloud-changed k chosen count true e few (whole-typed (shape_of e) (typed e h.in_preorder)) keeps h.is_lawful.each in
    record {
      before = e;
      after = with_cloud k chosen count e;
      nodes_are = h.in_preorder;
      edited = edit.edited;
      is_lawful = record {
        each = changed.less.each;
        not_deep = omega (arith, changed.less.depth, h.is_lawful.not_deep);
        not_large = omega (arith, changed.less.size, h.is_lawful.not_large);
      };
      typed = typed-whole (shape_of (with_cloud k chosen count e)) changed.typed;
    }
