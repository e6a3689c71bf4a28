-- The items of a tree whose values widen ranges, one after another: the first ones, one more, and all.
use Rattle.std.proofs.Common.{◌≡◌, ℕ, zero, suc, ◌+◌, ◌<◌, ◌≤◌, List, [], ◌∷◌, ◌++◌, length, take, drop, get_or, replicate, Option, Some, None, slice_get, refl, sym, ap, subst, ◌∙◌, arith, append_assoc}
use Rattle.std.specs.Prelude.{IfSome, slice_index_or, MatchResult, Result}
use Rattle.std.specs.List.{AllByRecursion}
use Rattle.std.proofs.lemmas.List.{length-replicate, length-map}
use Rattle.std.proofs.lemmas.Option.{slice_get-get_or, get_or_from_slice_get}
use Rattle.e57_base.proofs.CountLaws.{rose_before}
use Rattle.e57_base.proofs.Lists.{all_map}
use Rattle.e57_base.proofs.Told.{told_all, told_both, told_here, told_map}
use Rattle.e57_base.specs.Source.{SourceView}
use Rattle.e57_base.specs.declared.fault.OpenFault.{OpenFault}
use Rattle.e57_base.specs.declared.fault.OpenFault.TheVariants.{Refused, Source, Memory}
use Rattle.e57_layout.specs.Values.{Value}
use Rattle.e57_layout.specs.declared.field.Field.{Field}
use Rattle.e57_elements.specs.Tree.{Element, preorder}
use Rattle.e57_elements.specs.declared.tree.RawNode.{RawNode}
use Rattle.e57_nodes.specs.Items.{StatedItem, stated_cloud, stated_blob, stated_items}
use Rattle.e57_nodes.specs.Shape.{Shape, shape_of, node_count}
use Rattle.e57_nodes.specs.Typed.{typed_fault}
use Rattle.e57_nodes.proofs.Laws.Sound.{IsSoundField, IsSoundItem, sound_items}
use Rattle.e57_tree.specs.Held.{cloud_fields, cloud_in, fields_in, fields_among, items_of}
use Rattle.e57_tree.specs.declared.items.Cloud.{Cloud as StatedCloud}
use Rattle.e57_copy.specs.Sections.{thing_of}
use Rattle.e57_tree.specs.declared.items.Item.{Item}
use Rattle.e57_tree.specs.declared.items.Item.TheVariants as item
use Rattle.e57_tree.proofs.Laws.Flat.{node_count-shape_of}
use Rattle.e57_verdict.specs.Things.{Body, Thing, records_body, bytes_body, body_of, things_in}
use Rattle.e57_check.specs.Asking.{AsksWhere}
use Rattle.e57_check.specs.Checking.{thing_in}
use Rattle.e57_check.proofs.AskingLaws.{asks_where_none, asks_where_on}
use Rattle.e57_copy.specs.Items.{stated_in, IsSoundThing}
use Rattle.e57_plain.specs.Tight.{range_of, range_in, field_items, node_items}
use Rattle.e57_edits.specs.declared.limits.Range.{Range}
use Rattle.e57_edits.specs.Ranges.{limits_of, range_at, IsOrdered, IsSigned}
use Rattle.e57_copy.specs.Several.{bodies_in, content_in, AreSound}
use Rattle.e57_copy.proofs.Lists.{map_append, sound_parts, split_at, take_whole}
use Rattle.e57_copy.proofs.OneTree.{IsGoodTree}
use Rattle.e57_copy.proofs.Valid.{plain-tree}
use Rattle.e57_copy.proofs.Walking.{IsAt, item-at, length-items_among, length-things_in}
use Rattle.e57_repack.specs.Ranges.{AreLimits, FindsNoRanges, FindsRanges, IsRangesCause}
use Rattle.e57_repack.specs.Widening.{joined, WidensByItem, WidensNotByItem, IsItemCause}
use Rattle.e57_repack.proofs.Joining.{joined-none, range_of-append}

-- ---- no entry yet

no-entry : (count n : ℕ) → slice_index_or (replicate {A = Option Range} count None) n None ≡ None
no-entry zero n = refl
no-entry (suc count) zero = refl
no-entry (suc count) (suc n) = no-entry count n

pub blank-limits : (count : ℕ) (ranges : List (Option Range)) → ranges ≡ replicate count None → AreLimits count ranges
blank-limits count ranges is = subst (λ (rs : List (Option Range)). AreLimits count rs) (sym is) (record {
  all = length-replicate count None;
  ordered = λ n. subst IsOrdered (sym (no-entry count n)) tt;
  signed = λ n. subst IsSigned (sym (no-entry count n)) tt;
})

-- ---- the items so far

-- Each entry is the least and the greatest item of its node among these clouds, where they have no fault.
pub record WidensItems (items : List StatedItem) (things : List Thing) (count : ℕ) (old new : SourceView) (ranges : List (Option Range)) : Type 0 where
  pub source : AsksWhere (λ file. Unit {0}) count old new
  pub of_file : IfSome old.held (λ file. AreSound things file → (n : ℕ) → range_at ranges n ≡ range_of (node_items n items (bodies_in file things)))

pub items-none : (count nodes : ℕ) (source : SourceView) (ranges : List (Option Range)) → ranges ≡ replicate nodes None → WidensItems [] [] count source source ranges
items-none count nodes source ranges is = record {
  source = asks_where_none (λ file. Unit {0}) count source;
  of_file = told_all (λ file. AreSound [] file → (n : ℕ) → range_at ranges n ≡ None) source.held (λ file sound n. subst (λ (rs : List (Option Range)). range_at rs n ≡ None) (sym is) (ap limits_of (no-entry nodes n)));
}

node_items-more : (n : ℕ) (items : List StatedItem) (bodies : List Body) (item : StatedItem) (body : Body) → length items ≡ length bodies
    → node_items n (items ++ item ∷ []) (bodies ++ body ∷ []) ≡ node_items n items bodies ++ node_items n (item ∷ []) (body ∷ [])
node_items-more n [] [] item body same = refl
node_items-more n [] (b ∷ bodies) item body same = absurd (omega arith)
node_items-more n (i ∷ items) [] item body same = absurd (omega arith)
node_items-more n (stated_cloud node count fields ∷ items) (records_body columns ∷ bodies) item body same =
    ap (λ (vs : List Value). field_items n fields columns ++ vs) (node_items-more n items bodies item body (omega arith))
    ∙ sym (append_assoc (field_items n fields columns) (node_items n items bodies) (node_items n (item ∷ []) (body ∷ [])))
node_items-more n (stated_cloud node count fields ∷ items) (bytes_body bytes ∷ bodies) item body same = node_items-more n items bodies item body (omega arith)
node_items-more n (stated_blob node size ∷ items) (b ∷ bodies) item body same = node_items-more n items bodies item body (omega arith)

items-more : (items : List StatedItem) (things : List Thing) (stated : StatedItem) (thing : Thing) (count : ℕ) (old mid new : SourceView) (a b : List (Option Range)) → length items ≡ length things
    → WidensItems items things count old mid a → WidensByItem stated thing count mid a new b → WidensItems (items ++ stated ∷ []) (things ++ thing ∷ []) count old new b
items-more items things stated thing count old mid new a b same first next = record {
  source = asks_where_on (λ file. Unit {0}) count old mid new first.source next.source;
  of_file = told_both (λ file. AreSound things file → (n : ℕ) → range_at a n ≡ range_of (node_items n items (bodies_in file things)))
      (λ file. IsSoundThing thing file → (n : ℕ) → range_at b n ≡ joined (range_at a n) (range_of (node_items n (stated ∷ []) (body_of file thing ∷ []))))
      (λ file. AreSound (things ++ thing ∷ []) file → (n : ℕ) → range_at b n ≡ range_of (node_items n (items ++ stated ∷ []) (bodies_in file (things ++ thing ∷ [])))) old.held
      (λ file before this sound n.
      let parts = sound_parts file things thing [] sound in
      let here = node_items n (stated ∷ []) (body_of file thing ∷ []) in
      let many = same ∙ sym (length-map things (body_of file)) in
      this parts.1 n
      ∙ ap (λ r. joined r (range_of here)) (before parts.0 n)
      ∙ sym (range_of-append (node_items n items (bodies_in file things)) here)
      ∙ ap range_of (sym (node_items-more n items (bodies_in file things) stated (body_of file thing) many))
      ∙ ap (λ (bs : List Body). range_of (node_items n (items ++ stated ∷ []) bs)) (sym (map_append (body_of file) things (thing ∷ []))))
      first.of_file
      (told_here (λ file. IsSoundThing thing file → (n : ℕ) → range_at b n ≡ joined (range_at a n) (range_of (node_items n (stated ∷ []) (body_of file thing ∷ [])))) mid.held old.held (sym first.source.asks.same.held) next.widened);
}

-- ---- by the items of a tree

-- the first j items have widened them
abbrev pub WidensTo : Element → ℕ → ℕ → SourceView → SourceView → List (Option Range) → Type 0
WidensTo e j count old new ranges = WidensItems (take j (stated_items (shape_of e))) (take j (things_in e)) count old new ranges

-- item j of a list that is that of the tree
pub item-here : (e : Element) (xs : List Item) (j : ℕ) (none : Item) → typed_fault (shape_of e) ≡ None → xs ≡ items_of e → j < length xs → IsAt e j (get_or xs j none)
item-here e xs j none typed same below =
    item-at e j (get_or xs j none) typed (subst (λ (ys : List Item). slice_get ys j ≡ Some (get_or xs j none)) same (slice_get-get_or xs j none below))

pub widened-to : (e : Element) (j : ℕ) (x : Item) (count : ℕ) (old mid new : SourceView) (a b : List (Option Range)) → IsAt e j x → WidensTo e j count old mid a → WidensByItem (stated_in e x) (thing_in e x) count mid a new b
    → WidensTo e (j + 1) count old new b
widened-to e j x count old mid new a b here first next =
    let items = split_at (stated_items (shape_of e)) j (stated_in e x) here.stated in
    let things = split_at (things_in e) j (thing_in e x) here.thing in
    subst (λ (xs : List StatedItem). WidensItems xs (take (j + 1) (things_in e)) count old new b) (sym items.more)
    (subst (λ (ys : List Thing). WidensItems (take j (stated_items (shape_of e)) ++ stated_in e x ∷ []) ys count old new b) (sym things.more)
    (items-more (take j (stated_items (shape_of e))) (take j (things_in e)) (stated_in e x) (thing_in e x) count old mid new a b (items.long ∙ sym things.long) first next))

pub not-found : (e : Element) (j : ℕ) (x : Item) (count : ℕ) (old mid new : SourceView) (a : List (Option Range)) (fault : OpenFault) → IsAt e j x → WidensTo e j count old mid a → WidensNotByItem (thing_in e x) count mid fault new
    → FindsNoRanges e count old fault new
not-found e j x count old mid new a fault here first lost = record {
  source = asks_where_on (λ file. Unit {0}) count old mid new first.source lost.source;
  cause = by_fault fault lost.cause;
}
  where
    by_fault : (fault : OpenFault) → IsItemCause (thing_in e x) mid fault new → IsRangesCause e old fault new
    by_fault (Refused found) never =
        told_map (λ file. IsSoundThing (thing_in e x) file → ⊥) (λ file. AreSound (things_in e) file → ⊥) old.held
        (λ file never sound.
        let things = split_at (things_in e) j (thing_in e x) here.thing in
        never (sound_parts file (take j (things_in e)) (thing_in e x) (drop (j + 1) (things_in e)) (subst (λ (ts : List Thing). AreSound ts file) things.whole sound)).1)
        (told_here (λ file. IsSoundThing (thing_in e x) file → ⊥) mid.held old.held (sym first.source.asks.same.held) never)
    by_fault Source rose = rose_before old.faults mid.faults new.faults first.source.asks.faults rose
    by_fault Memory x = tt

-- all of them have
pub found-all : (e : Element) (xs : List Item) (j count : ℕ) (old new : SourceView) (ranges : List (Option Range)) → IsGoodTree e → xs ≡ items_of e → length xs ≤ j → WidensTo e j count old new ranges → FindsRanges e count old ranges new
unfolding range_in
found-all e xs j count old new ranges good same past first =
    let counted : length xs ≡ length (stated_items (shape_of e)) = ap (λ (ys : List Item). length ys) same ∙ length-items_among (stated_items (shape_of e)) 0 0 in
    let many = length-things_in e in
    let items = take_whole (stated_items (shape_of e)) j (omega (arith, counted, past)) in
    let things = take_whole (things_in e) j (omega (arith, counted, many, past)) in
    let shape = (plain-tree e good.is_lawful good.typed).same_shape in
    let all = subst (λ (ys : List StatedItem). WidensItems ys (things_in e) count old new ranges) items (subst (λ (ts : List Thing). WidensItems (take j (stated_items (shape_of e))) ts count old new ranges) things first) in
    record {
      source = all.source;
      of_file = told_map (λ file. AreSound (things_in e) file → (n : ℕ) → range_at ranges n ≡ range_of (node_items n (stated_items (shape_of e)) (bodies_in file (things_in e))))
          (λ file. AreSound (things_in e) file → (n : ℕ) → range_at ranges n ≡ range_in (content_in file e) n) old.held
          (λ file found sound n. found sound n ∙ ap (λ (s : Shape). range_of (node_items n (stated_items s) (bodies_in file (things_in e)))) (sym shape)) all.of_file;
    }

-- ---- a blob, and the fields of a cloud

pub blob-none : (e : Element) (k count : ℕ) (source : SourceView) (ranges : List (Option Range)) → WidensByItem (stated_in e (item.Blob k)) (thing_in e (item.Blob k)) count source ranges source ranges
blob-none e k count source ranges = record {
  source = asks_where_none (λ file. Unit {0}) count source;
  widened = told_all (λ file. IsSoundThing (thing_in e (item.Blob k)) file → (n : ℕ) → range_at ranges n ≡ joined (range_at ranges n) None) source.held (λ file sound n. sym (joined-none (range_at ranges n)));
}

among-sound : (nodes k : ℕ) (items : List StatedItem) (fields : List Field) → AllByRecursion (IsSoundItem nodes) items → slice_get (fields_among items) k ≡ Some fields → AllByRecursion (IsSoundField nodes) fields
among-sound nodes k [] fields sound got = absurd cc
among-sound nodes k (stated_blob n size ∷ items) fields sound got = among-sound nodes k items fields sound.1 got
among-sound nodes zero (stated_cloud n count others ∷ items) fields sound got = let same : others ≡ fields = cc in subst (λ (fs : List Field). AllByRecursion (IsSoundField nodes) fs) same sound.0.each
among-sound nodes (suc k) (stated_cloud n count others ∷ items) fields sound got = among-sound nodes k items fields sound.1 got

-- their nodes are nodes of the tree
pub fields-there : (nodes : List RawNode) (e : Element) (k : ℕ) (fields : List Field) (size : ℕ) → nodes ≡ preorder e → typed_fault (shape_of e) ≡ None → slice_get (cloud_fields e) k ≡ Some fields → size ≡ length nodes
    → AllByRecursion (λ (field : Field). field.node < size) fields
fields-there nodes e k fields size same typed got all =
    let counted : node_count (shape_of e) ≡ size = node_count-shape_of e ∙ ap (λ (ns : List RawNode). length ns) (sym same) ∙ sym all in
    subst (λ n. AllByRecursion (λ (field : Field). field.node < n) fields) counted
    (all_map (IsSoundField (node_count (shape_of e))) (λ (field : Field). field.node < node_count (shape_of e)) fields (λ field sound. sound.number) (among-sound (node_count (shape_of e)) k (stated_items (shape_of e)) fields (sound_items e typed) got))

-- a cloud as it stands in the tree
pub of-tree : (e : Element) (k : ℕ) (cloud : StatedCloud) (fields : List Field) (count : ℕ) (old new : SourceView) (before after : List (Option Range)) (result : Result (Unit {0}) OpenFault) → cloud ≡ cloud_in e k → slice_get (cloud_fields e) k ≡ Some fields
    → MatchResult result (λ _. WidensByItem (stated_cloud cloud.node cloud.count fields) (thing_of cloud fields) count old before new after) (λ fault. WidensNotByItem (thing_of cloud fields) count old fault new)
    → MatchResult result (λ _. WidensByItem (stated_in e (item.Cloud k)) (thing_in e (item.Cloud k)) count old before new after) (λ fault. WidensNotByItem (thing_in e (item.Cloud k)) count old fault new)
of-tree e k cloud fields count old new before after result at_cloud got widens =
    subst (λ (x : StatedCloud). MatchResult result (λ _. WidensByItem (stated_cloud x.node x.count (fields_in e k)) (thing_of x (fields_in e k)) count old before new after) (λ fault. WidensNotByItem (thing_of x (fields_in e k)) count old fault new)) at_cloud
    (subst (λ (fs : List Field). MatchResult result (λ _. WidensByItem (stated_cloud cloud.node cloud.count fs) (thing_of cloud fs) count old before new after) (λ fault. WidensNotByItem (thing_of cloud fs) count old fault new))
    (sym (get_or_from_slice_get (cloud_fields e) k fields [] got)) widens)
