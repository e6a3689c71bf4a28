-- What is put behind page 0 of a file with what is kept of one cloud.
use Rattle.std.proofs.Common.{◌≡◌, inl, ℕ, List, length, IfSome, subst, arith}
use Rattle.e57_base.proofs.Told.{told_map}
use Rattle.e57_base.specs.Fault.{write_as_run}
use Rattle.e57_base.specs.Source.{SourceView}
use Rattle.e57_base.specs.Target.{TargetView}
use Rattle.e57_base.specs.declared.fault.AskFault.{AskFault}
use Rattle.e57_base.specs.declared.fault.AskFault.TheVariants as of_ask
use Rattle.e57_base.specs.declared.fault.RunFault.{RunFault}
use Rattle.e57_base.specs.declared.fault.RunFault.TheVariants.{Refused, Source, Out, Memory, Ask}
use Rattle.e57_base.specs.declared.fault.WriteFault.{WriteFault}
use Rattle.e57_page_out.specs.Writing.{Writing}
use Rattle.e57_page_out.proofs.Sequences.{leaves_later, leaves_still}
use Rattle.e57_elements.specs.Tree.{Element}
use Rattle.e57_nodes.specs.Items.{stated_items}
use Rattle.e57_nodes.specs.Shape.{shape_of}
use Rattle.e57_tree.specs.Held.{items_of}
use Rattle.e57_verdict.specs.Content.{Content}
use Rattle.e57_verdict.specs.Things.{things_in}
use Rattle.e57_plain.specs.Kept.{Selection, kept}
use Rattle.e57_plain.specs.Pruned.{with_cloud}
use Rattle.e57_plain.specs.Written.{Fits}
use Rattle.e57_file_out.specs.Closing.{ClosesFile, LeavesFile, xml_text}
use Rattle.e57_copy.specs.Ending.{EndsFile, EndsNot, IsLarge}
use Rattle.e57_copy.specs.Several.{bodies_in, content_in, content_with}
use Rattle.e57_copy.proofs.Closing.{file-closed, file-not-closed, offsets-count}
use Rattle.e57_copy.proofs.OneTree.{IsGoodTree}
use Rattle.e57_copy.proofs.Several.{bodies-same, puts-same}
use Rattle.e57_filter.specs.Asking.{filter_chunk}
use Rattle.e57_filter.specs.Filtering.{filtered, kept_bodies, kept_items, kept_number, AreRight, FillsFile, FillsKept, FiltersItems, IsKept, LosesItems}
use Rattle.e57_filter.proofs.KeptContent.{kept-content, kept-tree, unfit-kept, IsChoice}

module _ {T : Type 0} (view : T → TargetView) (count : ℕ) (selection : Selection) (e : Element) (old new : SourceView) (a b : Writing T) (choice : IsChoice selection e) (begun : a.size ≡ 1020) where
  module _ (number : ℕ) (offsets : List ℕ) (first : FiltersItems view filter_chunk (stated_items (shape_of e)) (things_in e) selection count old new a number offsets b) where
    -- the tree with what is kept
    abbrev tree_now : Element
    tree_now = with_cloud selection.cloud selection.fields number e

    meets : IfSome old.held (λ file. AreRight (stated_items (shape_of e)) (things_in e) file → content_with tree_now first.bodies ≡ kept selection (content_in file e))
    meets =
        told_map (λ file. AreRight (stated_items (shape_of e)) (things_in e) file → IsKept selection (bodies_in file (things_in e)) number first.bodies)
        (λ file. AreRight (stated_items (shape_of e)) (things_in e) file → content_with tree_now first.bodies ≡ kept selection (content_in file e)) old.held
        (λ file is right. kept-content selection e (bodies_in file (things_in e)) number first.bodies choice.good (is right)) first.of_file

    pub filtered-count : length offsets ≡ length (items_of tree_now)
    filtered-count =
        let forms = kept-tree selection e number choice first.few in
        offsets-count view filter_chunk tree_now first.bodies a b offsets
        (puts-same view filter_chunk (kept_items selection number (stated_items (shape_of e))) (stated_items (shape_of tree_now)) first.bodies a b offsets forms first.puts)
        (bodies-same (kept_items selection number (stated_items (shape_of e))) (stated_items (shape_of tree_now)) first.bodies forms first.are_bodies)

    -- no memory for the tree
    pub filtered-untreed : EndsNot view (filtered selection e old new) a Memory (view b.target)
    filtered-untreed = leaves_later view a b (view b.target) first.puts.wrote.target (leaves_still view b first.puts.wrote.state)

    module _ (c : Writing T) (good : IsGoodTree tree_now) (size : IfSome a.told_bytes (λ bytes. length bytes ≡ a.size)) where
      pub filtered-ended : (total : ℕ) → ClosesFile view b (xml_text tree_now offsets) total c → EndsFile view (filtered selection e old new) a total (view c.target)
      filtered-ended total closed =
          let forms = kept-tree selection e number choice first.few in
          file-closed view (filtered selection e old new) tree_now first.bodies a b c offsets total good (omega arith) begun size
          (puts-same view filter_chunk (kept_items selection number (stated_items (shape_of e))) (stated_items (shape_of tree_now)) first.bodies a b offsets forms first.puts)
          (bodies-same (kept_items selection number (stated_items (shape_of e))) (stated_items (shape_of tree_now)) first.bodies forms first.are_bodies)
          meets closed

      pub filtered-unended : (fault : WriteFault) → LeavesFile view b (xml_text tree_now offsets) fault (view c.target) → EndsNot view (filtered selection e old new) a (write_as_run fault) (view c.target)
      filtered-unended fault left =
          let forms = kept-tree selection e number choice first.few in
          file-not-closed view (filtered selection e old new) tree_now first.bodies a b c offsets fault good (omega arith) begun size
          (puts-same view filter_chunk (kept_items selection number (stated_items (shape_of e))) (stated_items (shape_of tree_now)) first.bodies a b offsets forms first.puts)
          (bodies-same (kept_items selection number (stated_items (shape_of e))) (stated_items (shape_of tree_now)) first.bodies forms first.are_bodies)
          meets
          (λ unfit. told_map (λ file. AreRight (stated_items (shape_of e)) (things_in e) file → content_with tree_now first.bodies ≡ kept selection (content_in file e))
          (λ file. AreRight (stated_items (shape_of e)) (things_in e) file → Fits filter_chunk (kept selection (content_in file e)) → ⊥) old.held
          (λ file is right. subst (λ (content : Content). Fits filter_chunk content → ⊥) (is right) unfit) meets)
          left

  -- ---- items that were not put

  ask-cause : (why : AskFault) → FillsKept filter_chunk (stated_items (shape_of e)) (things_in e) selection old a why → IsLarge (filtered selection e old new) why
  ask-cause of_ask.Large fills =
      told_map
      (λ file. AreRight (stated_items (shape_of e)) (things_in e) file
      → FillsFile filter_chunk a.size (kept_items selection (kept_number selection (bodies_in file (things_in e))) (stated_items (shape_of e))) (kept_bodies selection (bodies_in file (things_in e))))
      (λ file. AreRight (stated_items (shape_of e)) (things_in e) file → Fits filter_chunk (kept selection (content_in file e)) → ⊥) old.held
      (λ file is right. unfit-kept filter_chunk selection e (bodies_in file (things_in e)) a.size choice begun right.bodies (is right)) fills
  ask-cause why fills = absurd fills

  pub filtered-lost : (fault : RunFault) → LosesItems view filter_chunk (stated_items (shape_of e)) (things_in e) selection count old new a fault b → EndsNot view (filtered selection e old new) a fault (view b.target)
  filtered-lost (Refused found) lost = (lost.left, lost.cause)
  filtered-lost Source lost = (lost.cause, lost.left)
  filtered-lost Out lost = (lost.cause, inl lost.left)
  filtered-lost Memory lost = lost.left
  filtered-lost (Ask why) lost = (lost.left, ask-cause why lost.cause)
