-- The items of a tree that are put one after another, with what is kept of one cloud: the first ones, one more, and all.
use Rattle.std.proofs.Common.{◌≡◌, ℕ, ◌+◌, ◌%◌, ◌==◌, ◌<◌, ◌≤◌, Bool, true, false, List, [], ◌∷◌, ◌++◌, length, take, drop, get_or, Some, None, slice_get, refl, sym, ap, subst, ◌∙◌, arith}
use Rattle.std.proofs.lemmas.Bool.Decides.{nat_tests}
use Rattle.std.proofs.lemmas.Option.{slice_get-get_or}
use Rattle.e57_base.specs.Source.{SourceView}
use Rattle.e57_base.specs.Target.{TargetView}
use Rattle.e57_base.specs.declared.fault.RunFault.{RunFault}
use Rattle.e57_page_out.specs.Writing.{Writing}
use Rattle.e57_elements.specs.Tree.{Element}
use Rattle.e57_nodes.specs.Items.{StatedItem, stated_items}
use Rattle.e57_nodes.specs.Shape.{shape_of}
use Rattle.e57_nodes.specs.Typed.{typed_fault}
use Rattle.e57_tree.specs.Held.{items_of, cloud_in, fields_in}
use Rattle.e57_tree.specs.declared.items.Item.{Item}
use Rattle.e57_tree.specs.declared.items.Item.TheVariants as item
use Rattle.e57_verdict.specs.Things.{Thing, things_in, cloud_count}
use Rattle.e57_plain.specs.Kept.{Selection}
use Rattle.e57_chunk_out.specs.declared.cloud_out.Written.{Written}
use Rattle.e57_check.specs.Checking.{thing_in}
use Rattle.e57_copy.specs.Items.{stated_in, CopiesItem, LosesItem}
use Rattle.e57_copy.proofs.Lists.{split_at, take_whole}
use Rattle.e57_copy.proofs.Walking.{IsAt, item-at, length-items_among, length-things_in}
use Rattle.e57_filter.specs.Filtering.{is_cloud, FiltersItem, FiltersItems, KeepsCloud, LosesItems, LosesOne}
use Rattle.e57_filter.specs.KeptSection.{LosesFiltered}
use Rattle.e57_filter.proofs.KeptLists.{is_here, here-blob, here-cloud, here-other, cloud-number}
use Rattle.e57_filter.proofs.FilteredItems.{filters-other, filters-cloud, loses-other, loses-cloud}

-- the first j items were put
abbrev pub FiltersFirst : {T : Type 0} → (T → TargetView) → ℕ → Element → Selection → ℕ → ℕ → SourceView → SourceView → Writing T → ℕ → List ℕ → Writing T → Type 0
FiltersFirst view n e selection j count old new a number offsets b =
    FiltersItems view n (take j (stated_items (shape_of e))) (take j (things_in e)) selection count old new a number offsets b

-- Item j of a tree, and whether it is cloud k.
pub record IsNext (e : Element) (k j : ℕ) (x : Item) : Type 0 where
  pub at : IsAt e j x
  pub got : slice_get (items_of e) j ≡ Some x
  pub here : is_here k (take j (stated_items (shape_of e))) (stated_in e x) ≡ is_cloud k x

here-at : (e : Element) (k j : ℕ) (x : Item) → slice_get (items_of e) j ≡ Some x → is_here k (take j (stated_items (shape_of e))) (stated_in e x) ≡ is_cloud k x
here-at e k j (item.Blob c) got = here-blob k (take j (stated_items (shape_of e))) _ _
here-at e k j (item.Cloud c) got = by_test (c == k) refl where
  is : c ≡ cloud_count (take j (stated_items (shape_of e)))
  is = cloud-number (stated_items (shape_of e)) j c got

  by_test : (b : Bool) → (c == k) ≡ b → is_here k (take j (stated_items (shape_of e))) (stated_in e (item.Cloud c)) ≡ b
  by_test true same =
      let one : c ≡ k = grind (arith, nat_tests) in
      here-cloud k (take j (stated_items (shape_of e))) _ _ _ (sym is ∙ one)
  by_test false other =
      let two : c ≡ k → ⊥ = grind (arith, nat_tests) in
      here-other k (take j (stated_items (shape_of e))) _ _ _ (λ same. two (is ∙ same))

-- item j of a list that is that of the tree
pub next-here : (e : Element) (k : ℕ) (xs : List Item) (j : ℕ) (none : Item) → typed_fault (shape_of e) ≡ None → xs ≡ items_of e → j < length xs → IsNext e k j (get_or xs j none)
next-here e k xs j none typed same below =
    let got = subst (λ (ys : List Item). slice_get ys j ≡ Some (get_or xs j none)) same (slice_get-get_or xs j none below) in
    record { at = item-at e j (get_or xs j none) typed got; got = got; here = here-at e k j (get_or xs j none) got }

module _ {T : Type 0} (view : T → TargetView) (n : ℕ) (e : Element) (selection : Selection) (j count : ℕ) (old mid new : SourceView) (a b c : Writing T) (number : ℕ) (offsets : List ℕ)
    (whole : a.size % 1020 ≡ 0) (first : FiltersFirst view n e selection j count old mid a number offsets b) where
  abbrev items_so : List StatedItem
  items_so = take j (stated_items (shape_of e))

  abbrev things_so : List Thing
  things_so = take j (things_in e)

  module _ (x : Item) (next : IsNext e selection.cloud j x) where
    same-count : length items_so ≡ length things_so
    same-count = (split_at (stated_items (shape_of e)) j (stated_in e x) next.at.stated).long ∙ sym (split_at (things_in e) j (thing_in e x) next.at.thing).long

    -- one item more, in terms of the tree
    more-of : (number : ℕ) (places : List ℕ) → FiltersItems view n (items_so ++ stated_in e x ∷ []) (things_so ++ thing_in e x ∷ []) selection count old new a number places c
        → FiltersFirst view n e selection (j + 1) count old new a number places c
    more-of number places filters =
        let items = split_at (stated_items (shape_of e)) j (stated_in e x) next.at.stated in
        let things = split_at (things_in e) j (thing_in e x) next.at.thing in
        subst (λ (xs : List StatedItem). FiltersItems view n xs (take (j + 1) (things_in e)) selection count old new a number places c) (sym items.more)
        (subst (λ (ys : List Thing). FiltersItems view n (items_so ++ stated_in e x ∷ []) ys selection count old new a number places c) (sym things.more) filters)

    whole-of : (fault : RunFault) → LosesItems view n (items_so ++ stated_in e x ∷ drop (j + 1) (stated_items (shape_of e))) (things_so ++ thing_in e x ∷ drop (j + 1) (things_in e)) selection count old new a fault c
        → LosesItems view n (stated_items (shape_of e)) (things_in e) selection count old new a fault c
    whole-of fault lost =
        let items = split_at (stated_items (shape_of e)) j (stated_in e x) next.at.stated in
        let things = split_at (things_in e) j (thing_in e x) next.at.thing in
        subst (λ (xs : List StatedItem). LosesItems view n xs (things_in e) selection count old new a fault c) (sym items.whole)
        (subst (λ (ys : List Thing). LosesItems view n (items_so ++ stated_in e x ∷ drop (j + 1) (stated_items (shape_of e))) ys selection count old new a fault c) (sym things.whole) lost)

  more-other : (x : Item) (next : IsNext e selection.cloud j x) (written : Written) → is_cloud selection.cloud x ≡ false → CopiesItem view n (stated_in e x) (thing_in e x) count mid new b written.place c → written.count ≡ number
      → FiltersFirst view n e selection (j + 1) count old new a written.count (offsets ++ written.place ∷ []) c
  more-other x next written other copies same =
      subst (λ m. FiltersFirst view n e selection (j + 1) count old new a m (offsets ++ written.place ∷ []) c) (sym same)
      (more-of x next number (offsets ++ written.place ∷ [])
      (filters-other view n count selection items_so things_so old mid new a b c number offsets whole (same-count x next) first (stated_in e x) (thing_in e x) written.place (next.here ∙ other) copies))

  more-cloud : (m : ℕ) (next : IsNext e selection.cloud j (item.Cloud m)) (written : Written) → (m == selection.cloud) ≡ true → KeepsCloud view n (cloud_in e selection.cloud) (fields_in e selection.cloud) selection count mid new b written c
      → FiltersFirst view n e selection (j + 1) count old new a written.count (offsets ++ written.place ∷ []) c
  more-cloud m next written chosen keeps =
      let one : m ≡ selection.cloud = grind (arith, nat_tests) in
      more-of (item.Cloud m) next written.count (offsets ++ written.place ∷ [])
      (filters-cloud view n count selection items_so things_so old mid new a b c number offsets whole (same-count (item.Cloud m) next) first (cloud_in e m).node (cloud_in e m) (fields_in e m) written (next.here ∙ chosen) next.at.is_item.few
      (subst (λ i. KeepsCloud view n (cloud_in e i) (fields_in e i) selection count mid new b written c) (sym one) keeps))

  pub first-more : (x : Item) (next : IsNext e selection.cloud j x) (written : Written) → FiltersItem view n e selection x (is_cloud selection.cloud x) number count mid new b written c
      → FiltersFirst view n e selection (j + 1) count old new a written.count (offsets ++ written.place ∷ []) c
  first-more (item.Blob m) next written put = more-other (item.Blob m) next written refl put.0 put.1
  first-more (item.Cloud m) next written put = by_test (m == selection.cloud) refl put where
    by_test : (h : Bool) → (m == selection.cloud) ≡ h → FiltersItem view n e selection (item.Cloud m) h number count mid new b written c
        → FiltersFirst view n e selection (j + 1) count old new a written.count (offsets ++ written.place ∷ []) c
    by_test true is put = more-cloud m next written is put
    by_test false is put = more-other (item.Cloud m) next written is put.0 put.1

  lost-other : (x : Item) (next : IsNext e selection.cloud j x) (fault : RunFault) → is_cloud selection.cloud x ≡ false → LosesItem view n (stated_in e x) (thing_in e x) count mid new b fault c
      → LosesItems view n (stated_items (shape_of e)) (things_in e) selection count old new a fault c
  lost-other x next fault other lost =
      whole-of x next fault
      (loses-other view n count selection items_so things_so (drop (j + 1) (stated_items (shape_of e))) (drop (j + 1) (things_in e)) old mid new a b c number offsets whole (same-count x next) first (stated_in e x) (thing_in e x) (next.here ∙ other) fault lost)

  lost-cloud : (m : ℕ) (next : IsNext e selection.cloud j (item.Cloud m)) (fault : RunFault) → (m == selection.cloud) ≡ true → LosesFiltered view n (cloud_in e selection.cloud) (fields_in e selection.cloud) selection count mid new b fault c
      → LosesItems view n (stated_items (shape_of e)) (things_in e) selection count old new a fault c
  lost-cloud m next fault chosen lost =
      let one : m ≡ selection.cloud = grind (arith, nat_tests) in
      whole-of (item.Cloud m) next fault
      (loses-cloud view n count selection items_so things_so (drop (j + 1) (stated_items (shape_of e))) (drop (j + 1) (things_in e)) old mid new a b c number offsets whole (same-count (item.Cloud m) next) first (cloud_in e m).node (cloud_in e m) (fields_in e m) (next.here ∙ chosen) fault
      (subst (λ i. LosesFiltered view n (cloud_in e i) (fields_in e i) selection count mid new b fault c) (sym one) lost))

  pub first-lost : (x : Item) (next : IsNext e selection.cloud j x) (fault : RunFault) → LosesOne view n e selection x (is_cloud selection.cloud x) count mid new b fault c
      → LosesItems view n (stated_items (shape_of e)) (things_in e) selection count old new a fault c
  first-lost (item.Blob m) next fault lost = lost-other (item.Blob m) next fault refl lost
  first-lost (item.Cloud m) next fault lost = by_test (m == selection.cloud) refl lost where
    by_test : (h : Bool) → (m == selection.cloud) ≡ h → LosesOne view n e selection (item.Cloud m) h count mid new b fault c
        → LosesItems view n (stated_items (shape_of e)) (things_in e) selection count old new a fault c
    by_test true is lost = lost-cloud m next fault is lost
    by_test false is lost = lost-other (item.Cloud m) next fault is lost

-- the whole of both lists is their first items, so many as there are
pub first-all : {T : Type 0} (view : T → TargetView) (n count : ℕ) (e : Element) (selection : Selection) (j : ℕ) (xs : List Item) (old new : SourceView) (a b : Writing T) (number : ℕ) (offsets : List ℕ)
    → xs ≡ items_of e → length xs ≤ j → FiltersFirst view n e selection j count old new a number offsets b
    → FiltersItems view n (stated_items (shape_of e)) (things_in e) selection count old new a number offsets b
first-all view n count e selection j xs old new a b number offsets same past first =
    let counted : length xs ≡ length (stated_items (shape_of e)) = ap (λ (ys : List Item). length ys) same ∙ length-items_among (stated_items (shape_of e)) 0 0 in
    let things = length-things_in e in
    subst (λ (ys : List StatedItem). FiltersItems view n ys (things_in e) selection count old new a number offsets b) (take_whole (stated_items (shape_of e)) j (omega (arith, counted, past)))
    (subst (λ (ts : List Thing). FiltersItems view n (take j (stated_items (shape_of e))) ts selection count old new a number offsets b) (take_whole (things_in e) j (omega (arith, counted, things, past))) first)
