-- What is asked of a tree, looked up step by step.
use Rattle.std.proofs.Common.{◌≡◌, ℕ, zero, suc, ◌+◌, ◌<◌, ◌≤◌, Bool, List, [], ◌∷◌, length, map, slice_get, Bor, Option, Some, None, Result, Ok, Err, refl, sym, subst, ap, ◌∙◌, arith}
use Rattle.std.specs.Prelude.{IfSome, option_map}
use Rattle.std.specs.List.{AllByRecursion}
use Rattle.std.proofs.lemmas.Bool.{lt-ltb, le-ltb}
use Rattle.std.proofs.lemmas.Option.{slice_get_past, slice_get_within, get_or_from_slice_get}
use Rattle.e57_base.specs.declared.fault.AskFault.{AskFault}
use Rattle.e57_base.specs.declared.fault.AskFault.TheVariants as ask
use Rattle.e57_base.specs.declared.fault.RunFault.{RunFault}
use Rattle.e57_base.specs.declared.fault.RunFault.TheVariants.{Refused, Source, Out, Memory, Ask}
use Rattle.e57_layout.specs.declared.field.Field.{Field}
use Rattle.e57_elements.specs.Tree.{Element, preorder}
use Rattle.e57_elements.specs.declared.tree.RawNode.{RawNode}
use Rattle.e57_nodes.specs.Shape.{shape_of}
use Rattle.e57_nodes.specs.Typed.{max_fields}
use Rattle.e57_nodes.specs.Items.{StatedItem, stated_cloud, stated_blob, stated_items}
use Rattle.e57_nodes.specs.Places.{places_in}
use Rattle.e57_nodes.proofs.Laws.Stated.{length-stated_items}
use Rattle.e57_tree.specs.declared.items.Cloud.{Cloud}
use Rattle.e57_tree.specs.Held.{clouds_among, fields_among, clouds_of, cloud_fields, cloud_in, fields_in, no_cloud}
use Rattle.e57_plain.specs.Kept.{Selection, Test}
use Rattle.e57_plain.specs.Pruned.{keeps_some}
use Rattle.e57_select.specs.Asking.{names_in, numbers_of, asked_end, asked_count}
use Rattle.e57_select.specs.Looking.{LacksName, LacksField}
use Rattle.e57_select.proofs.Looked.{some-listed, some-numbers, within-cloud, IsThere}
use Rattle.e57_filter.specs.Asking.{FilterAsked, stated_clouds, tests_from, chosen_of, select_range, select_fields, select_cloud, select_kept}
use Rattle.e57_filter.specs.declared.select.Selected.{Selected}
use Rattle.e57_filter.specs.Selecting.{field_test, IsIntegerField, chosen_numbers, IsSelected, IsUnselected, LacksTest}
use Rattle.e57_filter.proofs.Chosen.{chosen-length, keeps-chosen, some-numbered, numbers-within, few-numbers}

-- ---- the cloud

same_some : {X : Type 0} (a b : X) → ◌≡◌ {A = Option X} (Some a) (Some b) → a ≡ b
same_some a b is = cc

as-many-clouds : (items : List StatedItem) (places : List ℕ) → length items ≡ length places → length (clouds_among items places) ≡ length (stated_clouds items)
as-many-clouds [] places same = refl
as-many-clouds (x ∷ items) [] same = absurd cc
as-many-clouds (stated_cloud n count fields ∷ items) (place ∷ places) same = ap (λ (m : ℕ). suc m) (as-many-clouds items places (omega (arith, same)))
as-many-clouds (stated_blob n size ∷ items) (place ∷ places) same = as-many-clouds items places (omega (arith, same))

clouds-stated : (e : Element) → length (clouds_of e) ≡ length (stated_clouds (stated_items (shape_of e)))
clouds-stated e = as-many-clouds (stated_items (shape_of e)) (places_in e) (length-stated_items e)

cloud-among : (items : List StatedItem) (places : List ℕ) (k : ℕ) (cloud : Cloud) (fields : List Field) → slice_get (clouds_among items places) k ≡ Some cloud → slice_get (fields_among items) k ≡ Some fields → slice_get (stated_clouds items) k ≡ Some (cloud.count, fields)
cloud-among [] places k cloud fields at_cloud at_fields = absurd cc
cloud-among (x ∷ items) [] k cloud fields at_cloud at_fields = absurd cc
cloud-among (stated_cloud n count fs ∷ items) (p ∷ places) zero cloud fields at_cloud at_fields =
    let first : record { node = n; place = p; count = count } ≡ cloud = same_some (record { node = n; place = p; count = count }) cloud at_cloud in
    let second : fs ≡ fields = same_some fs fields at_fields in
    ap (λ (c : Cloud). Some (c.count, fs)) first ∙ ap (λ (x : List Field). Some (cloud.count, x)) second
cloud-among (stated_cloud n count fs ∷ items) (p ∷ places) (suc k) cloud fields at_cloud at_fields = cloud-among items places k cloud fields at_cloud at_fields
cloud-among (stated_blob n size ∷ items) (p ∷ places) k cloud fields at_cloud at_fields = cloud-among items places k cloud fields at_cloud at_fields

-- the cloud isn't there
pub cloud-lacking : (asked : FilterAsked) (nodes : List RawNode) (clouds : List Cloud) → ((e : Element) → nodes ≡ preorder e → clouds ≡ clouds_of e) → length clouds ≤ asked.cloud → (e : Element) → nodes ≡ preorder e → IsUnselected asked e (Ask (ask.Cloud asked.cloud (length clouds)))
unfolding select_kept
cloud-lacking asked nodes clouds of past e same =
    let stated = stated_clouds (stated_items (shape_of e)) in
    let long : length clouds ≡ length stated = ap (λ (cs : List Cloud). length cs) (of e same) ∙ clouds-stated e in
    ap (λ (o : Option (ℕ × List Field)). select_cloud asked (length stated) o) (slice_get_past stated asked.cloud (omega (arith, long, past)))
    ∙ ap (λ (n : ℕ). Err (ask.Cloud asked.cloud n)) (sym long)

-- it is, and these are its fields
kept-of : (asked : FilterAsked) (e : Element) (cloud : Cloud) (fields : List Field) → slice_get (clouds_of e) asked.cloud ≡ Some cloud → slice_get (cloud_fields e) asked.cloud ≡ Some fields
    → select_kept asked (stated_items (shape_of e)) ≡ select_fields asked cloud.count fields (numbers_of fields asked.names)
unfolding select_kept
kept-of asked e cloud fields at_cloud at_fields =
    ap (λ (o : Option (ℕ × List Field)). select_cloud asked (length (stated_clouds (stated_items (shape_of e)))) o)
    (cloud-among (stated_items (shape_of e)) (places_in e) asked.cloud cloud fields at_cloud at_fields)

-- ---- what it doesn't have

no-field : (asked : FilterAsked) (count : ℕ) (fields : List Field) (j : ℕ) (r : Result (List ℕ) ℕ) → r ≡ Err j → select_fields asked count fields r ≡ Err (ask.Field j (length fields))
no-field asked count fields j r is = rw is refl

some-fields : (asked : FilterAsked) (count : ℕ) (fields : List Field) (numbers : List ℕ) (r : Result (List ℕ) ℕ) → r ≡ Ok numbers → select_fields asked count fields r ≡ select_range asked count fields numbers (tests_from fields 0 asked.keeps)
some-fields asked count fields numbers r is = rw is refl

no-range : (asked : FilterAsked) (count : ℕ) (fields : List Field) (numbers : List ℕ) (tests : List Test) (r : Result (List Test) AskFault) → r ≡ Ok tests → count < asked_end asked.from asked.count
    → select_range asked count fields numbers r ≡ Err (ask.Range (asked_end asked.from asked.count) count)
no-range asked count fields numbers tests r is past = rw is (rw (lt-ltb count (asked_end asked.from asked.count) past) refl)

all-there : (asked : FilterAsked) (count : ℕ) (fields : List Field) (numbers : List ℕ) (tests : List Test) (r : Result (List Test) AskFault) → r ≡ Ok tests → asked_end asked.from asked.count ≤ count
    → select_range asked count fields numbers r ≡ Ok (record { cloud = asked.cloud; fields = chosen_of (length fields) numbers; from = asked.from; until = asked.from + asked_count count asked.from asked.count; every = asked.every; tests = tests })
all-there asked count fields numbers tests r is within = rw is (rw (le-ltb count (asked_end asked.from asked.count) within) refl)

pub field-lacking : (asked : FilterAsked) (nodes : List RawNode) (cloud : Cloud) (fields : List Field) (fault : RunFault) → IsThere nodes asked.cloud cloud fields → LacksField asked.names fields fault → (e : Element) → nodes ≡ preorder e → IsUnselected asked e fault
field-lacking asked nodes cloud fields fault there lacks e node = by_names asked.names refl lacks
  where
    by_fault : (names : List (List ℕ)) (fault : RunFault) → asked.names ≡ Some names → LacksName fields names fault → IsUnselected asked e fault
    by_fault names (Refused found) is never = absurd never
    by_fault names Source is never = absurd never
    by_fault names Out is never = absurd never
    by_fault names Memory is ok = tt
    by_fault names (Ask why) is (j, below, same, lacking) =
        let at = there e node in
        kept-of asked e cloud fields at.0 at.1 ∙ no-field asked cloud.count fields j (numbers_of fields asked.names) (ap (λ (o : Option (List (List ℕ))). numbers_of fields o) is ∙ lacking)
        ∙ ap (λ (w : AskFault). Err w) (sym same)

    by_names : (names : Option (List (List ℕ))) → asked.names ≡ names → LacksField names fields fault → IsUnselected asked e fault
    by_names None is same = subst (λ (f : RunFault). IsUnselected asked e f) (sym same) tt
    by_names (Some names) is lacks = by_fault names fault is lacks

pub test-lacking : (asked : FilterAsked) (nodes : List RawNode) (cloud : Cloud) (fields : List Field) (numbers : List ℕ) (fault : RunFault) → IsThere nodes asked.cloud cloud fields → numbers_of fields asked.names ≡ Ok numbers → LacksTest fields asked.keeps fault → (e : Element) → nodes ≡ preorder e → IsUnselected asked e fault
test-lacking asked nodes cloud fields numbers (Refused found) there is never e node = absurd never
test-lacking asked nodes cloud fields numbers Source there is never e node = absurd never
test-lacking asked nodes cloud fields numbers Out there is never e node = absurd never
test-lacking asked nodes cloud fields numbers Memory there is ok e node = tt
test-lacking asked nodes cloud fields numbers (Ask why) there is lacks e node =
    let at = there e node in
    kept-of asked e cloud fields at.0 at.1 ∙ some-fields asked cloud.count fields numbers (numbers_of fields asked.names) is ∙ ap (select_range asked cloud.count fields numbers) lacks

pub range-lacking : (asked : FilterAsked) (nodes : List RawNode) (cloud : Cloud) (fields : List Field) (numbers : List ℕ) (tests : List Test) (end : ℕ) → IsThere nodes asked.cloud cloud fields → numbers_of fields asked.names ≡ Ok numbers → tests_from fields 0 asked.keeps ≡ Ok tests
    → end ≡ asked_end asked.from asked.count → cloud.count < end → (e : Element) → nodes ≡ preorder e → IsUnselected asked e (Ask (ask.Range end cloud.count))
range-lacking asked nodes cloud fields numbers tests end there is made same past e node =
    let at = there e node in
    kept-of asked e cloud fields at.0 at.1 ∙ some-fields asked cloud.count fields numbers (numbers_of fields asked.names) is
    ∙ no-range asked cloud.count fields numbers tests (tests_from fields 0 asked.keeps) made (subst (λ (n : ℕ). cloud.count < n) same past)
    ∙ ap (λ (n : ℕ). Err (ask.Range n cloud.count)) (sym same)

-- ---- it has all

pub is-selected : (asked : FilterAsked) (nodes : List RawNode) (s : Selected) (fields : List Field) (named : List ℕ) (list : Option (Bor (List ℕ))) → IsThere nodes asked.cloud s.cloud fields
    → s.k ≡ asked.cloud → s.from ≡ asked.from → s.count ≡ asked_count s.cloud.count asked.from asked.count → asked.names ≡ option_map (λ text. names_in text.now) list → asked_end asked.from asked.count ≤ s.cloud.count → 0 < length fields → length fields ≤ max_fields
    → numbers_of fields asked.names ≡ Ok named → (tests_from fields 0 asked.keeps ≡ Ok (map field_test s.tests.items)) × AllByRecursion (IsIntegerField fields) s.tests.items
    → s.chosen.items ≡ chosen_of (length fields) named → s.numbers.items ≡ chosen_numbers s.chosen.items → (e : Element) → nodes ≡ preorder e → IsSelected asked e s
is-selected asked nodes s fields named list there is_k is_from is_count is_names within some most numbers made is_chosen is_numbers e node =
    let at = there e node in
    let listed = subst (λ (o : Option (List (List ℕ))). IfSome o (λ names. 0 < length names)) (sym is_names) (some-listed list) in
    let of_fields = some-numbers fields asked.names named some listed numbers in
    let is_fields : fields_in e s.k ≡ fields = ap (fields_in e) is_k ∙ get_or_from_slice_get (cloud_fields e) asked.cloud fields [] at.1 in
    let long : length s.chosen.items ≡ length fields = ap (λ (bs : List Bool). length bs) is_chosen ∙ chosen-length (length fields) named in
    record {
      selects =
          kept-of asked e s.cloud fields at.0 at.1 ∙ some-fields asked s.cloud.count fields named (numbers_of fields asked.names) numbers
          ∙ all-there asked s.cloud.count fields named (map field_test s.tests.items) (tests_from fields 0 asked.keeps) made.0 within
          ∙ parts s asked.cloud asked.from (asked_count s.cloud.count asked.from asked.count) (chosen_of (length fields) named) (sym is_k) (sym is_from) (sym is_count) (sym is_chosen);
      there = subst (λ (k : ℕ). k < length (clouds_of e)) (sym is_k) (slice_get_within (clouds_of e) asked.cloud s.cloud at.0);
      cloud = sym (ap (cloud_in e) is_k ∙ get_or_from_slice_get (clouds_of e) asked.cloud s.cloud no_cloud at.0);
      flags = long ∙ ap (λ (fs : List Field). length fs) (sym is_fields);
      keeps = ap (λ (bs : List Bool). keeps_some bs) is_chosen ∙ keeps-chosen (length fields) named of_fields.0 of_fields.1;
      numbers = is_numbers;
      some = subst (λ (ns : List ℕ). 0 < length ns) (sym (is_numbers ∙ ap chosen_numbers is_chosen)) (some-numbered (length fields) named of_fields.0 of_fields.1);
      few = subst (λ (ns : List ℕ). length ns ≤ max_fields) (sym is_numbers) (few-numbers (length fields) max_fields s.chosen.items long most);
      within =
          subst (λ (fs : List Field). AllByRecursion (λ f. f < length fs) s.numbers.items) (sym is_fields)
          (subst (λ (n : ℕ). AllByRecursion (λ f. f < n) s.numbers.items) long
          (subst (λ (ns : List ℕ). AllByRecursion (λ f. f < length s.chosen.items) ns) (sym is_numbers) (numbers-within s.chosen.items)));
      left = subst (λ (n : ℕ). n + s.count ≤ s.cloud.count) (sym is_from) (subst (λ (n : ℕ). asked.from + n ≤ s.cloud.count) (sym is_count) (within-cloud s.cloud.count asked.from asked.count within));
      tests = subst (λ (fs : List Field). AllByRecursion (IsIntegerField fs) s.tests.items) (sym is_fields) made.1;
    }
  where
    parts : (s : Selected) (k from count : ℕ) (chosen : List Bool) → k ≡ s.k → from ≡ s.from → count ≡ s.count → chosen ≡ s.chosen.items
        → ◌≡◌ {A = Result Selection AskFault} (Ok (record { cloud = k; fields = chosen; from = from; until = from + count; every = asked.every; tests = map field_test s.tests.items })) (Ok (record { cloud = s.k; fields = s.chosen.items; from = s.from; until = s.from + s.count; every = asked.every; tests = map field_test s.tests.items }))
    parts s k from count chosen at_k at_from at_count at_chosen = rw (at_k, at_from, at_count, at_chosen) refl
