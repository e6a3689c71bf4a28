-- What is asked of an accepted file, and the file that is written anew.
use Rattle.std.specs.Prelude.{◌≡◌, ℕ, suc, ◌+◌, ◌<◌, ◌≤◌, Bool, true, false, List, [], ◌∷◌, length, map, get_or, Option, Some, None, IfSome, Result, Ok, Err, slice_get, if◌then◌else◌, nat_lt}
use Rattle.std.specs.List.{AllByRecursion, range_with_len}
use Rattle.std.proofs.Common.{refl, sym, ap, subst, ◌∙◌, arith, inl}
use Rattle.std.proofs.lemmas.List.{length-map, map-id}
use Rattle.std.proofs.lemmas.List.FromFn.{get_or-map-range_with_len, length-map-range_with_len}
use Rattle.e57_base.proofs.Told.{told_map, told_both}
use Rattle.e57_base.specs.Source.{SourceView}
use Rattle.e57_base.specs.Target.{TargetView}
use Rattle.e57_base.specs.declared.fault.AskFault.{AskFault}
use Rattle.e57_base.specs.declared.fault.AskFault.TheVariants as ask
use Rattle.e57_base.specs.declared.fault.RunFault.{RunFault}
use Rattle.e57_base.specs.declared.fault.RunFault.TheVariants.{Refused, Source, Out, Memory, Ask}
use Rattle.e57_layout.specs.declared.field.Field.{Field}
use Rattle.e57_layout.specs.Values.{ItemKind, integers, words, strings, item_kind}
use Rattle.e57_column.specs.Reading.{AreWhole}
use Rattle.e57_blocks.specs.Fields.{field_at}
use Rattle.e57_elements.specs.Tree.{Element, preorder}
use Rattle.e57_elements.specs.declared.tree.RawNode.{RawNode}
use Rattle.e57_file.specs.Opened.{field_number}
use Rattle.e57_nodes.specs.Items.{StatedItem, stated_items}
use Rattle.e57_nodes.specs.Places.{without_places}
use Rattle.e57_nodes.specs.Shape.{Shape, shape_of}
use Rattle.e57_tree.specs.Held.{fields_in}
use Rattle.e57_verdict.specs.Content.{Content}
use Rattle.e57_verdict.specs.Things.{things_in}
use Rattle.e57_plain.specs.Kept.{Selection, Test, chosen, kept}
use Rattle.e57_plain.specs.Valid.{AreBodies, IsValid}
use Rattle.e57_plain.specs.Written.{Fits}
use Rattle.e57_plain.proofs.Laws.Accepted.{content-valid}
use Rattle.e57_select.specs.Asking.{numbers_of, asked_end, asked_count}
use Rattle.e57_check.specs.Checking.{HasSoundNodes}
use Rattle.e57_copy.specs.Rewriting.{Gives, FallsShort, IsAskCause, RewritesNot}
use Rattle.e57_copy.specs.Several.{bodies_in, content_in}
use Rattle.e57_copy.proofs.OneTree.{IsGoodTree}
use Rattle.e57_copy.proofs.Rewriting.{is-content, sound-things, sound-tree, Serves}
use Rattle.e57_copy.proofs.Valid.{plain-tree}
use Rattle.e57_verdict.specs.Verdict.{IsSoundFile}
use Rattle.e57_filter.specs.Asking.{chosen_of, filter_chunk, filtering, is_integer, select_cloud, select_fields, select_kept, select_range, stated_clouds, tests_from, test_before, with_test, FilterAsked, KeepAsked}
use Rattle.e57_filter.specs.Filtering.{filtered, AreRight, IsOfTree}
use Rattle.e57_filter.specs.Selecting.{chosen_numbers, field_test, selection_of, IsFieldTest, IsIntegerField, IsSelected, IsUnselected}
use Rattle.e57_filter.specs.declared.select.FieldTest.{FieldTest}
use Rattle.e57_filter.specs.declared.select.Selected.{Selected}
use Rattle.e57_filter.proofs.Chosen.{chosen-at, numbers-within}

-- ---- as many tests as are asked for

with-length : (test : Test) (r : Result (List Test) AskFault) (tests : List Test) (n : ℕ) → with_test test r ≡ Ok tests → ((others : List Test) → r ≡ Ok others → length others ≡ n) → length tests ≡ suc n
with-length test (Ok others) tests n is later = let same : test ∷ others ≡ tests = cc in ap (λ (xs : List Test). length xs) (sym same) ∙ ap suc (later others refl)
with-length test (Err why) tests n is later = absurd cc

before-length : (fields : List Field) (j : ℕ) (keep : KeepAsked) (found : Option ℕ) (r : Result (List Test) AskFault) (tests : List Test) (n : ℕ) → test_before fields j keep found r ≡ Ok tests → ((others : List Test) → r ≡ Ok others → length others ≡ n) → length tests ≡ suc n
before-length fields j keep None r tests n is later = absurd cc
before-length fields j keep (Some f) r tests n is later = by_test (is_integer (item_kind (field_at fields f).kind)) is where
  by_test : (b : Bool) → (if b then with_test (record { field = f; low = keep.low; high = keep.high }) r else Err (ask.NotInteger j (length fields))) ≡ Ok tests → length tests ≡ suc n
  by_test true is = with-length (record { field = f; low = keep.low; high = keep.high }) r tests n is later
  by_test false is = absurd cc

tests-length : (fields : List Field) (j : ℕ) (keeps : List KeepAsked) (tests : List Test) → tests_from fields j keeps ≡ Ok tests → length tests ≡ length keeps
unfolding tests_from
tests-length fields j [] tests is = let same : [] ≡ tests = cc in ap (λ (xs : List Test). length xs) (sym same)
tests-length fields j (keep ∷ keeps) tests is = before-length fields j keep (field_number keep.field fields) (tests_from fields (j + 1) keeps) tests (length keeps) is (λ others so. tests-length fields (j + 1) keeps others so)

-- the selection, where the records are there
abbrev the_selection : FilterAsked → ℕ → List Field → List ℕ → List Test → Selection
the_selection asked count fields numbers tests = record {
  cloud = asked.cloud;
  fields = chosen_of (length fields) numbers;
  from = asked.from;
  until = asked.from + asked_count count asked.from asked.count;
  every = asked.every;
  tests = tests;
}

range-length : (asked : FilterAsked) (count : ℕ) (fields : List Field) (numbers : List ℕ) (r : Result (List Test) AskFault) (selection : Selection) (n : ℕ) → select_range asked count fields numbers r ≡ Ok selection
    → ((tests : List Test) → r ≡ Ok tests → length tests ≡ n) → length selection.tests ≡ n
range-length asked count fields numbers (Err why) selection n is so = absurd cc
range-length asked count fields numbers (Ok tests) selection n is so = by_test (nat_lt count (asked_end asked.from asked.count)) is where
  by_test : (b : Bool)
      → (if b then Err (ask.Range (asked_end asked.from asked.count) count) else Ok (the_selection asked count fields numbers tests)) ≡ Ok selection
      → length selection.tests ≡ n
  by_test true is = absurd cc
  by_test false is = let same : tests ≡ selection.tests = cc in ap (λ (xs : List Test). length xs) (sym same) ∙ so tests refl

fields-length : (asked : FilterAsked) (count : ℕ) (fields : List Field) (r : Result (List ℕ) ℕ) (selection : Selection) → select_fields asked count fields r ≡ Ok selection → length selection.tests ≡ length asked.keeps
fields-length asked count fields (Err j) selection is = absurd cc
fields-length asked count fields (Ok numbers) selection is = range-length asked count fields numbers (tests_from fields 0 asked.keeps) selection (length asked.keeps) is (λ tests so. tests-length fields 0 asked.keeps tests so)

cloud-length : (asked : FilterAsked) (have : ℕ) (found : Option (ℕ × List Field)) (selection : Selection) → select_cloud asked have found ≡ Ok selection → length selection.tests ≡ length asked.keeps
cloud-length asked have None selection is = absurd cc
cloud-length asked have (Some (count, fields)) selection is = fields-length asked count fields (numbers_of fields asked.names) selection is

select-length : (asked : FilterAsked) (items : List StatedItem) (selection : Selection) → select_kept asked items ≡ Ok selection → length selection.tests ≡ length asked.keeps
unfolding select_kept
select-length asked items selection is = cloud-length asked (length (stated_clouds items)) (slice_get (stated_clouds items) asked.cloud) selection is

-- ---- what is selected is of the tree

whole-kind : (kind : ItemKind) → is_integer kind ≡ true → AreWhole kind
whole-kind (integers low high) is = tt
whole-kind (words w) is = absurd cc
whole-kind strings is = absurd cc

field-tests : (fields : List Field) (tests : List FieldTest) → AllByRecursion (IsIntegerField fields) tests → AllByRecursion (IsFieldTest fields) tests
field-tests fields [] all = tt
field-tests fields (test ∷ tests) all = (record { there = all.0.0; integers = whole-kind (item_kind (field_at fields test.field).kind) all.0.1 }, field-tests fields tests all.1)

number-there : (n f : ℕ) → f < n → get_or (range_with_len 0 n) f 0 ≡ f
number-there n f below = ap (λ (xs : List ℕ). get_or xs f 0) (sym (map-id (range_with_len 0 n))) ∙ get_or-map-range_with_len (λ (g : ℕ). g) 0 n f f 0 below (omega arith)

numbers-there : (n : ℕ) (numbers : List ℕ) → AllByRecursion (λ f. f < n) numbers → map (λ (f : ℕ). get_or (range_with_len 0 n) f 0) numbers ≡ numbers
numbers-there n [] all = refl
numbers-there n (f ∷ numbers) all = ap (λ k. k ∷ map (λ (f : ℕ). get_or (range_with_len 0 n) f 0) numbers) (number-there n f all.0) ∙ ap (λ (ks : List ℕ). f ∷ ks) (numbers-there n numbers all.1)

length-range : (n : ℕ) → length (range_with_len 0 n) ≡ n
length-range n = ap (λ (xs : List ℕ). length xs) (sym (map-id (range_with_len 0 n))) ∙ length-map-range_with_len (λ (g : ℕ). g) 0 n

numbers-chosen : (n : ℕ) (flags : List Bool) → length flags ≡ n → chosen_numbers flags ≡ chosen flags (range_with_len 0 n)
numbers-chosen n flags same =
    let within = subst (λ m. AllByRecursion (λ f. f < m) (chosen_numbers flags)) same (numbers-within flags) in
    sym (chosen-at 0 flags (range_with_len 0 n) (same ∙ sym (length-range n)) ∙ numbers-there n (chosen_numbers flags) within)

-- what was looked up is of the tree
pub selected-of : (asked : FilterAsked) (e : Element) (s : Selected) → length asked.keeps ≤ 8 → IsSelected asked e s → IsOfTree e s
selected-of asked e s few is = record {
  there = is.there;
  cloud = is.cloud;
  of_cloud = record {
    flags = is.flags;
    numbers = is.numbers ∙ numbers-chosen (length (fields_in e s.k)) s.chosen.items is.flags;
    some = is.some;
    few_tests =
        let tests = select-length asked (stated_items (shape_of e)) (selection_of asked.every s) is.selects in
        let same = length-map s.tests.items field_test in
        omega (arith, tests, same, few);
    tests = field-tests (fields_in e s.k) s.tests.items is.tests;
    within = is.left;
  };
  keeps = is.keeps;
}

-- ---- what isn't there

-- the new file isn't too large for an ask that can't be looked up
abbrev is_large : AskFault → Bool
is_large ask.Large = true
is_large why = false

with-large : (test : Test) (r : Result (List Test) AskFault) (why : AskFault) → with_test test r ≡ Err why → ((other : AskFault) → r ≡ Err other → is_large other ≡ false) → is_large why ≡ false
with-large test (Ok others) why is later = absurd cc
with-large test (Err other) why is later = let same : other ≡ why = cc in ap is_large (sym same) ∙ later other refl

before-large : (fields : List Field) (j : ℕ) (keep : KeepAsked) (found : Option ℕ) (r : Result (List Test) AskFault) (why : AskFault) → test_before fields j keep found r ≡ Err why → ((other : AskFault) → r ≡ Err other → is_large other ≡ false) → is_large why ≡ false
before-large fields j keep None r why is later = let same : ask.Keep j (length fields) ≡ why = cc in ap is_large (sym same)
before-large fields j keep (Some f) r why is later = by_test (is_integer (item_kind (field_at fields f).kind)) is where
  by_test : (b : Bool) → (if b then with_test (record { field = f; low = keep.low; high = keep.high }) r else Err (ask.NotInteger j (length fields))) ≡ Err why → is_large why ≡ false
  by_test true is = with-large (record { field = f; low = keep.low; high = keep.high }) r why is later
  by_test false is = let same : ask.NotInteger j (length fields) ≡ why = cc in ap is_large (sym same)

tests-large : (fields : List Field) (j : ℕ) (keeps : List KeepAsked) (why : AskFault) → tests_from fields j keeps ≡ Err why → is_large why ≡ false
unfolding tests_from
tests-large fields j [] why is = absurd cc
tests-large fields j (keep ∷ keeps) why is = before-large fields j keep (field_number keep.field fields) (tests_from fields (j + 1) keeps) why is (λ other so. tests-large fields (j + 1) keeps other so)

range-large : (asked : FilterAsked) (count : ℕ) (fields : List Field) (numbers : List ℕ) (r : Result (List Test) AskFault) (why : AskFault) → select_range asked count fields numbers r ≡ Err why
    → ((other : AskFault) → r ≡ Err other → is_large other ≡ false) → is_large why ≡ false
range-large asked count fields numbers (Err other) why is later = let same : other ≡ why = cc in ap is_large (sym same) ∙ later other refl
range-large asked count fields numbers (Ok tests) why is later = by_test (nat_lt count (asked_end asked.from asked.count)) is where
  by_test : (b : Bool)
      → (if b then Err (ask.Range (asked_end asked.from asked.count) count) else Ok (the_selection asked count fields numbers tests)) ≡ Err why
      → is_large why ≡ false
  by_test true is = let same : ask.Range (asked_end asked.from asked.count) count ≡ why = cc in ap is_large (sym same)
  by_test false is = absurd cc

fields-large : (asked : FilterAsked) (count : ℕ) (fields : List Field) (r : Result (List ℕ) ℕ) (why : AskFault) → select_fields asked count fields r ≡ Err why → is_large why ≡ false
fields-large asked count fields (Err j) why is = let same : ask.Field j (length fields) ≡ why = cc in ap is_large (sym same)
fields-large asked count fields (Ok numbers) why is = range-large asked count fields numbers (tests_from fields 0 asked.keeps) why is (λ other so. tests-large fields 0 asked.keeps other so)

cloud-large : (asked : FilterAsked) (have : ℕ) (found : Option (ℕ × List Field)) (why : AskFault) → select_cloud asked have found ≡ Err why → is_large why ≡ false
cloud-large asked have None why is = let same : ask.Cloud asked.cloud have ≡ why = cc in ap is_large (sym same)
cloud-large asked have (Some (count, fields)) why is = fields-large asked count fields (numbers_of fields asked.names) why is

select-large : (asked : FilterAsked) (items : List StatedItem) (why : AskFault) → select_kept asked items ≡ Err why → is_large why ≡ false
unfolding select_kept
select-large asked items why is = cloud-large asked (length (stated_clouds items)) (slice_get (stated_clouds items) asked.cloud) why is

-- ---- the accepted file

-- The file is accepted with this tree, and each cloud and blob has what is stated of it.
record IsAccepted (e : Element) (file : List ℕ) : Type 0 where
  sound : IsSoundFile file e
  right : AreRight (stated_items (shape_of e)) (things_in e) file

module _ (e : Element) (good : IsGoodTree e) where
  same-shape : shape_of (without_places e) ≡ shape_of e
  same-shape = (plain-tree e good.is_lawful good.typed).same_shape

  accepted : (nodes : List RawNode) (file : List ℕ) → nodes ≡ preorder e → HasSoundNodes file nodes → IsAccepted e file
  accepted nodes file same has =
      let sound = sound-tree file nodes e same has in
      let valid : IsValid (content_in file e) = content-valid file (content_in file e) (is-content file e sound) in
      record {
        sound = sound;
        right = record {
          sound = sound-things file e sound;
          bodies = subst (λ (s : Shape). AreBodies (stated_items s) (bodies_in file (things_in e))) same-shape valid.bodies;
        };
      }

  all-accepted : (held : Option (List ℕ)) (nodes : List RawNode) → nodes ≡ preorder e → IfSome held (λ file. HasSoundNodes file nodes) → IfSome held (IsAccepted e)
  all-accepted held nodes same has = told_map (λ file. HasSoundNodes file nodes) (IsAccepted e) held (λ file is. accepted nodes file same is) has

  module _ (asked : FilterAsked) (s : Selected) (is : IsSelected asked e s) where
    abbrev selection_so : Selection
    selection_so = selection_of asked.every s

    gives-kept : (file : List ℕ) (content : Content) → IsSoundFile file e → content ≡ kept selection_so (content_in file e) → Gives (filtering asked) file content
    gives-kept file content sound so = record {
      old = content_in file e;
      of_file = is-content file e sound;
      gives = record {
        selection = selection_so;
        selects = subst (λ (x : Shape). select_kept asked (stated_items x) ≡ Ok selection_so) (sym same-shape) is.selects;
        keeps = so;
      };
    }

    untold : (held : Option (List ℕ)) → IfSome held (IsAccepted e) → IfSome held (λ file. AreRight (stated_items (shape_of e)) (things_in e) file → ⊥) → held ≡ None
    untold None known never = refl
    untold (Some file) known never = absurd (never known.right)

    -- what is kept of the file's content is what is written of it
    pub serves-kept : (nodes : List RawNode) (old new : SourceView) → nodes ≡ preorder e → IfSome old.held (λ file. HasSoundNodes file nodes) → Serves (filtering asked) (filtered selection_so e old new) old new
    serves-kept nodes old new same has =
        let known = all-accepted old.held nodes same has in
        record {
          chunk = refl;
          gives = λ content meets writable.
              told_both (IsAccepted e) (λ file. AreRight (stated_items (shape_of e)) (things_in e) file → content ≡ kept selection_so (content_in file e)) (λ file. Gives (filtering asked) file content) old.held
              (λ file one two. gives-kept file content one.sound (two one.right)) known meets;
          refused = λ never. untold old.held known never;
          failed = λ rose. rose;
          large = λ never.
              told_both (IsAccepted e) (λ file. AreRight (stated_items (shape_of e)) (things_in e) file → Fits filter_chunk (kept selection_so (content_in file e)) → ⊥)
              (λ file. (content : Content) × Gives (filtering asked) file content × (Fits filter_chunk content → ⊥)) old.held
              (λ file one two. (kept selection_so (content_in file e), gives-kept file (kept selection_so (content_in file e)) one.sound refl, two one.right)) known never;
        }

  -- what isn't there in the tree isn't in the file
  falls-short : (asked : FilterAsked) (why : AskFault) (nodes : List RawNode) (held : Option (List ℕ)) → nodes ≡ preorder e → IfSome held (λ file. HasSoundNodes file nodes) → select_kept asked (stated_items (shape_of e)) ≡ Err why → IfSome held (λ file. FallsShort (filtering asked) file why)
  falls-short asked why nodes held same has lacks =
      told_map (λ file. HasSoundNodes file nodes) (λ file. FallsShort (filtering asked) file why) held
      (λ file is.
      let sound = sound-tree file nodes e same is in
      record {
        old = content_in file e;
        of_file = is-content file e sound;
        short = subst (λ (x : Shape). select_kept asked (stated_items x) ≡ Err why) (sym same-shape) lacks;
      })
      has

  module _ {T : Type 0} (view : T → TargetView) (asked : FilterAsked) (nodes : List RawNode) (old new : SourceView) (target : T) (name : List ℕ) (same : nodes ≡ preorder e) (has : IfSome old.held (λ file. HasSoundNodes file nodes)) where
    short-of : (why : AskFault) → is_large why ≡ false → IfSome old.held (λ file. FallsShort (filtering asked) file why) → IsAskCause view (filtering asked) old target name why target
    short-of ask.Large large lacks = absurd cc
    short-of why large lacks = (refl, lacks)

    pub not-selected : (fault : RunFault) → IsUnselected asked e fault → RewritesNot view (filtering asked) old new target name fault target
    not-selected (Refused found) lacks = absurd lacks
    not-selected Source lacks = absurd lacks
    not-selected Out lacks = absurd lacks
    not-selected Memory lacks = inl refl
    not-selected (Ask why) lacks = short-of why (select-large asked (stated_items (shape_of e)) why lacks) (falls-short asked why nodes old.held same has lacks)
