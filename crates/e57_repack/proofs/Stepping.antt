-- The items of a tree that are copied one after another: the first ones, one more, and all.
use Rattle.std.proofs.Common.{◌≡◌, ℕ, ◌+◌, ◌%◌, ◌<◌, ◌≤◌, List, [], ◌∷◌, ◌++◌, length, take, drop, get_or, Some, None, false, slice_get, sym, ap, subst, ◌∙◌, arith}
use Rattle.std.proofs.lemmas.Option.{slice_get-get_or}
use Rattle.e57_base.specs.Source.{SourceView}
use Rattle.e57_base.specs.Target.{TargetView}
use Rattle.e57_base.specs.declared.fault.RunFault.{RunFault}
use Rattle.e57_page_out.specs.Writing.{Writing}
use Rattle.e57_elements.specs.Tree.{Element}
use Rattle.e57_nodes.specs.Items.{StatedItem, stated_items}
use Rattle.e57_nodes.specs.Shape.{shape_of}
use Rattle.e57_nodes.specs.Typed.{typed_fault}
use Rattle.e57_tree.specs.Held.{items_of}
use Rattle.e57_tree.specs.declared.items.Item.{Item}
use Rattle.e57_verdict.specs.Things.{Thing, things_in}
use Rattle.e57_check.specs.Checking.{thing_in}
use Rattle.e57_copy.specs.Items.{stated_in, CopiesItem, IsAlikeItem, LosesItem}
use Rattle.e57_copy.proofs.Lists.{split_at, take_whole}
use Rattle.e57_copy.proofs.Several.{ended}
use Rattle.e57_copy.proofs.Walking.{IsAt, item-at, length-items_among, length-things_in}
use Rattle.e57_repack.specs.Copying.{AreAlikeItems, CopiesItems, LosesItems}
use Rattle.e57_repack.proofs.Alike.{alike-among, alike-at, alike-count}
use Rattle.e57_repack.proofs.Several.{copies-more, copies-lost}

-- the first j items were copied
abbrev pub CopiesFirst : {T : Type 0} → (T → TargetView) → ℕ → Element → Element → ℕ → ℕ → SourceView → SourceView → Writing T → List ℕ → Writing T → Type 0
CopiesFirst view n e d j count old new a offsets b = CopiesItems view n (take j (stated_items (shape_of d))) (take j (things_in e)) count old new a offsets b

-- Both trees have item j, and it is alike in them.
pub record IsBoth (e d : Element) (j : ℕ) (x : Item) : Type 0 where
  pub old : IsAt e j x
  pub new : IsAt d j x
  pub alike : IsAlikeItem (stated_in e x) (stated_in d x)

pub both-at : (e d : Element) (j : ℕ) (x : Item) → AreAlikeItems (stated_items (shape_of e)) (stated_items (shape_of d)) → typed_fault (shape_of e) ≡ None → typed_fault (shape_of d) ≡ None
    → slice_get (items_of e) j ≡ Some x → IsBoth e d j x
both-at e d j x alike typed sound got =
    let same : items_of e ≡ items_of d = alike-among (stated_items (shape_of e)) (stated_items (shape_of d)) 0 0 alike in
    let old = item-at e j x typed got in
    let new = item-at d j x sound (subst (λ (xs : List Item). slice_get xs j ≡ Some x) same got) in
    record { old = old; new = new; alike = alike-at (stated_items (shape_of e)) (stated_items (shape_of d)) j (stated_in e x) (stated_in d x) alike old.stated new.stated }

-- item j of a list that is that of the tree
pub both-here : (e d : Element) (xs : List Item) (j : ℕ) (none : Item) → AreAlikeItems (stated_items (shape_of e)) (stated_items (shape_of d)) → typed_fault (shape_of e) ≡ None → typed_fault (shape_of d) ≡ None
    → xs ≡ items_of e → j < length xs → IsBoth e d j (get_or xs j none)
both-here e d xs j none alike typed sound same below =
    both-at e d j (get_or xs j none) alike typed sound (subst (λ (ys : List Item). slice_get ys j ≡ Some (get_or xs j none)) same (slice_get-get_or xs j none below))

pub first-more : {T : Type 0} (view : T → TargetView) (n count : ℕ) (e d : Element) (j : ℕ) (x : Item) (old mid new : SourceView) (a b c : Writing T) (offsets : List ℕ) (offset : ℕ)
    → IsBoth e d j x → a.size % 1020 ≡ 0 → CopiesFirst view n e d j count old mid a offsets b → CopiesItem view n (stated_in d x) (thing_in e x) count mid new b offset c
    → CopiesFirst view n e d (j + 1) count old new a (offsets ++ offset ∷ []) c
first-more view n count e d j x old mid new a b c offsets offset both whole first next =
    let items = split_at (stated_items (shape_of d)) j (stated_in d x) both.new.stated in
    let things = split_at (things_in e) j (thing_in e x) both.old.thing in
    subst (λ (xs : List StatedItem). CopiesItems view n xs (take (j + 1) (things_in e)) count old new a (offsets ++ offset ∷ []) c) (sym items.more)
    (subst (λ (ys : List Thing). CopiesItems view n (take j (stated_items (shape_of d)) ++ stated_in d x ∷ []) ys count old new a (offsets ++ offset ∷ []) c) (sym things.more)
    (copies-more view n count (take j (stated_items (shape_of d))) (take j (things_in e)) (stated_in d x) (thing_in e x) old mid new a b c offsets offset whole first next))

pub first-lost : {T : Type 0} (view : T → TargetView) (n count : ℕ) (e d : Element) (j : ℕ) (x : Item) (old mid new : SourceView) (a b c : Writing T) (offsets : List ℕ) (fault : RunFault)
    → IsBoth e d j x → a.size % 1020 ≡ 0 → CopiesFirst view n e d j count old mid a offsets b → LosesItem view n (stated_in d x) (thing_in e x) count mid new b fault c
    → LosesItems view n (stated_items (shape_of d)) (things_in e) count old new a fault c
first-lost view n count e d j x old mid new a b c offsets fault both whole first lost =
    let items = split_at (stated_items (shape_of d)) j (stated_in d x) both.new.stated in
    let things = split_at (things_in e) j (thing_in e x) both.old.thing in
    subst (λ (xs : List StatedItem). LosesItems view n xs (things_in e) count old new a fault c) (sym items.whole)
    (subst (λ (ys : List Thing). LosesItems view n (take j (stated_items (shape_of d)) ++ stated_in d x ∷ drop (j + 1) (stated_items (shape_of d))) ys count old new a fault c) (sym things.whole)
    (copies-lost view n count (take j (stated_items (shape_of d))) (take j (things_in e)) (stated_in d x) (thing_in e x) (drop (j + 1) (stated_items (shape_of d))) (drop (j + 1) (things_in e)) old mid new a b c offsets fault whole (items.long ∙ sym things.long) first lost))

-- the whole of both lists is their first items, so many as there are
pub first-all : {T : Type 0} (view : T → TargetView) (n count : ℕ) (e d : Element) (j : ℕ) (xs : List Item) (old new : SourceView) (a b : Writing T) (offsets : List ℕ)
    → AreAlikeItems (stated_items (shape_of e)) (stated_items (shape_of d)) → xs ≡ items_of e → length xs ≤ j → CopiesFirst view n e d j count old new a offsets b
    → CopiesItems view n (stated_items (shape_of d)) (things_in e) count old new a offsets b
first-all view n count e d j xs old new a b offsets alike same past first =
    let counted : length xs ≡ length (stated_items (shape_of e)) = ap (λ (ys : List Item). length ys) same ∙ length-items_among (stated_items (shape_of e)) 0 0 in
    let many = alike-count (stated_items (shape_of e)) (stated_items (shape_of d)) alike in
    let things = length-things_in e in
    subst (λ (ys : List StatedItem). CopiesItems view n ys (things_in e) count old new a offsets b) (take_whole (stated_items (shape_of d)) j (omega (arith, counted, many, past)))
    (subst (λ (ts : List Thing). CopiesItems view n (take j (stated_items (shape_of d))) ts count old new a offsets b) (take_whole (things_in e) j (omega (arith, counted, things, past))) first)

-- the new file can be written on, from a fresh page on
pub still-whole : {T : Type 0} (view : T → TargetView) (n count : ℕ) (items : List StatedItem) (things : List Thing) (old new : SourceView) (a b : Writing T) (offsets : List ℕ)
    → a.held ≡ None → a.size % 1020 ≡ 0 → CopiesItems view n items things count old new a offsets b → (b.is_spent ≡ false) × (b.held ≡ None) × (b.size % 1020 ≡ 0)
still-whole view n count items things old new a b offsets free whole first =
    (first.puts.wrote.state.unspent, first.puts.wrote.held ∙ free, (ended view n items first.bodies a b offsets whole first.puts).0)
