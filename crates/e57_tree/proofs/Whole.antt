-- The whole tree.
use Rattle.std.proofs.Common.{◌≡◌, ℕ, zero, suc, ◌+◌, ◌<◌, ◌≤◌, Bool, true, false, cond, ltb, drop, List, [], ◌∷◌, length, slice_get, Option, Some, None, Result, Ok, Err, refl, sym, ap, subst, ◌∙◌, arith}
use Rattle.std.specs.List.{AllByRecursion}
use Rattle.e57_base.specs.declared.fault.TextFault.{TextFault}
use Rattle.e57_elements.specs.declared.tree.RawNode.{RawNode}
use Rattle.e57_elements.specs.Tree.{Element, preorder}
use Rattle.std.specs.Result.{IfOk}
use Rattle.std.proofs.lemmas.Bool.{lt-ltb, le-ltb}
use Rattle.e57_layout.specs.declared.field.Field.{Field}
use Rattle.e57_layout.specs.declared.field.FieldKind.{FieldKind}
use Rattle.e57_layout.specs.declared.field.FieldKind.TheVariants.{Int, Scaled, Bits32, Bits64, Text}
use Rattle.e57_layout.specs.declared.field.Fixed.{Fixed}
use Rattle.e57_layout.specs.Values.{item_kind, IsValidField}
use Rattle.e57_cloud.specs.Cloud.{float_from}
use Rattle.e57_nodes.specs.Shape.{shape_of, node_count}
use Rattle.e57_nodes.specs.Paths.{path_of}
use Rattle.e57_nodes.specs.Places.{places_in, with_places, item_count, placed_nodes}
use Rattle.e57_nodes.specs.Items.{StatedItem, stated_cloud, stated_blob, stated_items, leaves_of}
use Rattle.e57_nodes.proofs.Laws.Places.{preorder-with_places}
use Rattle.e57_nodes.proofs.Laws.Sound.{IsSoundField, IsSoundItem, sound_items}
use Rattle.e57_nodes.proofs.Laws.Stated.{length-stated_items}
use Rattle.e57_tree.specs.declared.found.Found.{Found}
use Rattle.e57_tree.specs.Held.{clouds_among, fields_among, items_among, clouds_of, items_of, cloud_fields, AreCloudFields, IsTree, float_bytes}
use Rattle.e57_tree.specs.Paths.{path_in}
use Rattle.e57_tree.proofs.Leading.{path_in-root}
use Rattle.e57_tree.proofs.Lists.{drop-here, drop-all}
use Rattle.e57_nodes.specs.Typed.{tree_fault, typed_fault}
use Rattle.e57_tree.specs.Flat.{shape_in}
use Rattle.e57_tree.proofs.Laws.Flat.{shape_in-root}
use Rattle.e57_tree.specs.Judged.{IsJudged}
use Rattle.e57_tree.proofs.Judged.{carried}

pub root_fault : (nodes : List RawNode) (e : Element) → nodes ≡ preorder e → tree_fault None 0 (shape_in nodes 0) ≡ typed_fault (shape_of e)
root_fault nodes e same = ap (tree_fault None 0) (ap (λ ns. shape_in ns 0) same ∙ shape_in-root e)

pub refused_whole : (nodes : List RawNode) (error : TextFault) → IsJudged {T = Unit {0}} (Err error) (tree_fault None 0 (shape_in nodes 0))
    → (e : Element) → nodes ≡ preorder e → IsJudged {T = List RawNode} (Err error) (typed_fault (shape_of e))
refused_whole nodes error h e same =
    carried (Unit {0}) (List RawNode) error (tree_fault None 0 (shape_in nodes 0)) (typed_fault (shape_of e)) (λ f refused. sym (root_fault nodes e same) ∙ refused) h

pub none_whole : (nodes : List RawNode) → tree_fault None 0 (shape_in nodes 0) ≡ None → (e : Element) → nodes ≡ preorder e → typed_fault (shape_of e) ≡ None
none_whole nodes h e same = sym (root_fault nodes e same) ∙ h

-- ---- fields

as_many_clouds : (xs : List StatedItem) (places : List ℕ) → length xs ≡ length places → length (clouds_among xs places) ≡ length (fields_among xs)
as_many_clouds [] places e = refl
as_many_clouds (stated_cloud n count fields ∷ xs) [] e = absurd (omega arith)
as_many_clouds (stated_blob n size ∷ xs) [] e = absurd (omega arith)
as_many_clouds (stated_cloud n count fields ∷ xs) (p ∷ ps) e = let later = as_many_clouds xs ps (omega arith) in omega arith
as_many_clouds (stated_blob n size ∷ xs) (p ∷ ps) e = as_many_clouds xs ps (omega arith)

sound_valid : (nodes : ℕ) (fields : List Field) → AllByRecursion (IsSoundField nodes) fields → AllByRecursion IsValidField fields
sound_valid nodes [] h = tt
sound_valid nodes (f ∷ fs) h = (h.0.valid, sound_valid nodes fs h.1)

sound_lists : (nodes : ℕ) (xs : List StatedItem) → AllByRecursion (IsSoundItem nodes) xs → AllByRecursion AreCloudFields (fields_among xs)
sound_lists nodes [] h = tt
sound_lists nodes (stated_cloud n count fields ∷ xs) h = (record { some = h.0.some_field; few = h.0.few_fields; each = sound_valid nodes fields h.0.each }, sound_lists nodes xs h.1)
sound_lists nodes (stated_blob n size ∷ xs) h = sound_lists nodes xs h.1

each_at : (lists : List (List Field)) (k : ℕ) (fields : List Field) → AllByRecursion AreCloudFields lists → slice_get lists k ≡ Some fields → AreCloudFields fields
each_at [] k fields h e = absurd (cc)
each_at (x ∷ xs) zero fields h e = subst AreCloudFields (some_same x fields e) h.0 where
  some_same : (a b : List Field) → Some a ≡ Some b → a ≡ b
  some_same a b e = cc
each_at (x ∷ xs) (suc k) fields h e = each_at xs k fields h.1 e

pub enough_fields : (nodes : List RawNode) (found : Found) (k : ℕ) → IsTree nodes found → ((e : Element) → nodes ≡ preorder e → k < length (clouds_of e)) → k < length found.fields.items
enough_fields nodes found k h below =
    let e = h.are_nodes.tree in
    let same = h.are_nodes.in_preorder in
    let count = as_many_clouds (stated_items (shape_of e)) (places_in e) (length-stated_items e) in
    let fields = ap length (h.holds e same).fields in
    let l = below e same in
    omega arith

pub fields_at : (nodes : List RawNode) (found : Found) (k : ℕ) (fields : List Field) → IsTree nodes found → slice_get found.fields.items k ≡ Some fields → (e : Element) → nodes ≡ preorder e → slice_get (cloud_fields e) k ≡ Some fields
fields_at nodes found k fields h got e same = ap (λ xs. slice_get xs k) (sym (h.holds e same).fields) ∙ got

pub fields_valid : (nodes : List RawNode) (found : Found) (k : ℕ) (fields : List Field) → IsTree nodes found → slice_get found.fields.items k ≡ Some fields → AreCloudFields fields
fields_valid nodes found k fields h got =
    let e = h.are_nodes.tree in
    let same = h.are_nodes.in_preorder in
    each_at (cloud_fields e) k fields (sound_lists (node_count (shape_of e)) (stated_items (shape_of e)) (sound_items e (h.is_typed e same))) (fields_at nodes found k fields h got e same)

-- ---- paths and places

pub ok_same : {A E : Type 0} (r : Result A E) (a b : A) → a ≡ b → IfOk r (λ x. x ≡ a) → IfOk r (λ x. x ≡ b)
ok_same (Ok x) a b e h = h ∙ e
ok_same (Err x) a b e h = h

pub path_whole : (nodes : List RawNode) (e : Element) (n : ℕ) → nodes ≡ preorder e → path_in nodes 0 [] n ≡ path_of (shape_of e) n
path_whole nodes e n same = ap (λ ns. path_in ns 0 [] n) same ∙ path_in-root e n

length-items_among : (clouds blobs : ℕ) (xs : List StatedItem) → length (items_among clouds blobs xs) ≡ length xs
length-items_among clouds blobs [] = refl
length-items_among clouds blobs (stated_cloud n count fields ∷ xs) = ap suc (length-items_among (clouds + 1) blobs xs)
length-items_among clouds blobs (stated_blob n size ∷ xs) = ap suc (length-items_among clouds (blobs + 1) xs)

pub enough_places : (nodes : List RawNode) (found : Found) (count : ℕ) → IsTree nodes found → ((e : Element) → nodes ≡ preorder e → count ≡ length (items_of e)) → item_count nodes ≤ count
enough_places nodes found count h all =
    let e = h.are_nodes.tree in
    let same = h.are_nodes.in_preorder in
    let given = all e same in
    let items = length-items_among 0 0 (stated_items (shape_of e)) in
    let places = length-stated_items e in
    let nodes_count = ap item_count same in
    omega arith

pub places_whole : (texts : List (List ℕ)) (nodes : List RawNode) (e : Element) → nodes ≡ preorder e → placed_nodes texts nodes ≡ preorder (with_places texts e)
places_whole texts nodes e same = ap (placed_nodes texts) same ∙ sym (preorder-with_places texts e)

-- ---- the first Float

abbrev floats_left : List Field → ℕ → Option Fixed
floats_left fields i = float_from i (leaves_of (drop i fields))

float_by : (i : ℕ) (field : Field) (kind : FieldKind) (rest : List Field) → float_from i ((record { node = field.node; kind = item_kind kind }) ∷ leaves_of rest) ≡ cond (ltb 0 (float_bytes (item_kind kind))) (Some (record { field = i; bytes = float_bytes (item_kind kind) })) (float_from (i + 1) (leaves_of rest))
unfolding float_from
float_by i field (Int low high) rest = refl
float_by i field (Scaled low high scale offset) rest = refl
float_by i field Bits32 rest = refl
float_by i field Bits64 rest = refl
float_by i field Text rest = refl

floats_first : (fields : List Field) (i : ℕ) (field : Field) → slice_get fields i ≡ Some field
    → floats_left fields i ≡ cond (ltb 0 (float_bytes (item_kind field.kind))) (Some (record { field = i; bytes = float_bytes (item_kind field.kind) })) (floats_left fields (i + 1))
floats_first fields i field found = ap (λ fs. float_from i (leaves_of fs)) (drop-here fields i field found) ∙ float_by i field field.kind (drop (i + 1) fields)

pub float_here : (fields : List Field) (i bytes : ℕ) (field : Field) → slice_get fields i ≡ Some field → bytes ≡ float_bytes (item_kind field.kind) → 0 < bytes → float_from i (leaves_of (drop i fields)) ≡ Some (record { field = i; bytes = bytes })
float_here fields i bytes field found e some =
    let test : ltb 0 (float_bytes (item_kind field.kind)) ≡ true = lt-ltb 0 (float_bytes (item_kind field.kind)) (omega arith) in
    floats_first fields i field found ∙ ap (λ (b : Bool). cond b (Some (record { field = i; bytes = float_bytes (item_kind field.kind) })) (floats_left fields (i + 1))) test
    ∙ ap (λ b. Some (record { field = i; bytes = b })) (sym e)

pub float_later : (fields : List Field) (i bytes : ℕ) (field : Field) → slice_get fields i ≡ Some field → bytes ≡ float_bytes (item_kind field.kind) → bytes ≤ 0 → float_from (i + 1) (leaves_of (drop (i + 1) fields)) ≡ float_from i (leaves_of (drop i fields))
float_later fields i bytes field found e nothing =
    let test : ltb 0 (float_bytes (item_kind field.kind)) ≡ false = le-ltb 0 (float_bytes (item_kind field.kind)) (omega arith) in
    sym (floats_first fields i field found ∙ ap (λ (b : Bool). cond b (Some (record { field = i; bytes = float_bytes (item_kind field.kind) })) (floats_left fields (i + 1))) test)

pub float_nowhere : (fields : List Field) (i : ℕ) → length fields ≤ i → float_from i (leaves_of (drop i fields)) ≡ None
unfolding float_from
float_nowhere fields i l = ap (λ fs. float_from i (leaves_of fs)) (drop-all fields i l)
