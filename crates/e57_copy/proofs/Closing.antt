-- What is put behind page 0 of a new file: its items, its tree, and last the header.
use Rattle.std.proofs.Common.{◌≡◌, ◌⊎◌, inl, inr, ℕ, ◌+◌, ◌*◌, ◌/◌, ◌%◌, ◌<◌, List, ◌++◌, length, Option, Some, None, IfSome, refl, sym, ap, subst, ◌∙◌, arith}
use Rattle.std.specs.Option.{option_map}
use Rattle.e57_base.proofs.CountLaws.{rose_before}
use Rattle.e57_base.specs.Fault.{write_as_run}
use Rattle.e57_base.specs.Target.{TargetView}
use Rattle.e57_base.specs.declared.fault.WriteFault.{WriteFault}
use Rattle.e57_base.specs.declared.fault.WriteFault.TheVariants as of_write
use Rattle.e57_page_out.specs.Sealed.{pages_for}
use Rattle.e57_page_out.specs.Sequences.{Leaves}
use Rattle.e57_page_out.specs.Writing.{Writing, IsHeadless, IsUnfinished}
use Rattle.e57_page_out.proofs.Sequences.{leaves_later}
use Rattle.e57_page_out.proofs.WritingLaws.{keeps_both}
use Rattle.e57_elements.specs.Tree.{Element}
use Rattle.e57_nodes.specs.Items.{stated_items}
use Rattle.e57_nodes.specs.Places.{without_places}
use Rattle.e57_nodes.specs.Shape.{shape_of}
use Rattle.e57_tree.specs.Held.{items_of}
use Rattle.e57_verdict.specs.Content.{Content}
use Rattle.e57_verdict.specs.Things.{Body}
use Rattle.e57_plain.specs.Valid.{AreBodies}
use Rattle.e57_plain.specs.Written.{Fits, IsWritable, sections_from, offsets_from, sections_of, offsets_of, plain, written_text}
use Rattle.e57_plain.proofs.Laws.Sections.{length-sections, length-offsets}
use Rattle.e57_file_out.specs.Closing.{ClosesFile, HeadlessFile, IsTooLong, IsWithinFile, LeavesFile, whole_file, xml_text}
use Rattle.e57_file_out.proofs.InARow.{text-of, content_closed, fits_within, unfit_text, unfit_sections}
use Rattle.e57_copy.specs.Ending.{Aim, EndsFile, EndsNot, StaysHeadless}
use Rattle.e57_copy.specs.Rewriting.{LacksHeader}
use Rattle.e57_copy.specs.Several.{content_with, PassesFirst, PutsItems}
use Rattle.e57_copy.proofs.OneTree.{IsGoodTree}
use Rattle.e57_copy.proofs.Valid.{plain-tree, content-valid, sections-same, offsets-same, plain-size, whole_pages-count}
use Rattle.e57_copy.proofs.Walking.{length-items_among}

-- one offset for each cloud and blob of the tree
pub offsets-count : {T : Type 0} (view : T → TargetView) (n : ℕ) (d : Element) (bodies : List Body) (a b : Writing T) (offsets : List ℕ)
    → PutsItems view n (stated_items (shape_of d)) bodies a offsets b → AreBodies (stated_items (shape_of d)) bodies → length offsets ≡ length (items_of d)
offsets-count view n d bodies a b offsets puts are =
    ap (λ (xs : List ℕ). length xs) puts.begin
    ∙ length-offsets n (a.size / 1020) (stated_items (shape_of d)) bodies are
    ∙ sym (length-items_among (stated_items (shape_of d)) 0 0)

-- ---- what stands behind page 0, where the items were put

-- The sections and offsets of a content were put behind page 0.
record Stands {T : Type 0} (view : T → TargetView) (n : ℕ) (d : Element) (content : Content) (a : Writing T) (offsets : List ℕ) (b : Writing T) : Type 0 where
  same_tree : content.tree ≡ without_places d
  begin : offsets ≡ offsets_of n content
  size : b.size ≡ 1020 + length (sections_of n content)
  whole : length (sections_of n content) % 1020 ≡ 0
  told : b.told_bytes ≡ option_map (λ (xs : List ℕ). xs ++ sections_of n content) a.told_bytes
  text : xml_text d offsets ≡ written_text n content

stands : {T : Type 0} (view : T → TargetView) (n : ℕ) (d : Element) (bodies : List Body) (a b : Writing T) (offsets : List ℕ) → IsGoodTree d → a.size ≡ 1020
    → PutsItems view n (stated_items (shape_of d)) bodies a offsets b → Stands view n d (content_with d bodies) a offsets b
stands view n d bodies a b offsets good first puts =
    let content = content_with d bodies in
    let is = plain-tree d good.is_lawful good.typed in
    let page : a.size / 1020 ≡ 1 = omega (arith, first) in
    let sections : sections_from n (a.size / 1020) (stated_items (shape_of d)) bodies ≡ sections_of n content =
    ap (λ p. sections_from n p (stated_items (shape_of d)) bodies) page ∙ sym (sections-same n d bodies is) in
    let begin : offsets ≡ offsets_of n content =
    puts.begin ∙ ap (λ p. offsets_from n p (stated_items (shape_of d)) bodies) page ∙ sym (offsets-same n d bodies is) in
    record {
      same_tree = refl;
      begin = begin;
      size = puts.wrote.size ∙ ap (λ (xs : List ℕ). a.size + length xs) sections ∙ ap (λ k. k + length (sections_of n content)) first;
      whole = length-sections n 1 (stated_items (shape_of content.tree)) bodies;
      told = puts.wrote.bytes ∙ ap (λ (s : List ℕ). option_map (λ (xs : List ℕ). xs ++ s) a.told_bytes) sections;
      text = ap (λ (os : List ℕ). xml_text d os) begin ∙ text-of n content d refl;
    }

-- ---- its end

module _ {T : Type 0} (view : T → TargetView) (n : ℕ) (d : Element) (content : Content) (a b : Writing T) (offsets : List ℕ) (size : IfSome a.told_bytes (λ bytes. length bytes ≡ 1020)) (now : Stands view n d content a offsets b) where
  -- the whole file is the written form
  whole-is : (first : List ℕ) → length first ≡ 1020 → whole_file (first ++ sections_of n content) (xml_text d offsets) ≡ plain n content
  whole-is first long =
      ap (λ (os : List ℕ). whole_file (first ++ sections_of n content) (xml_text d os)) now.begin ∙ content_closed n content d first now.same_tree long

  told-plain : option_map (λ bytes. whole_file bytes (xml_text d offsets)) b.told_bytes ≡ option_map (λ _. plain n content) a.told_bytes
  told-plain = ap (option_map (λ bytes. whole_file bytes (xml_text d offsets))) now.told ∙ by_told a.told_bytes size
    where
      by_told : (told : Option (List ℕ)) → IfSome told (λ bytes. length bytes ≡ 1020)
          → option_map (λ bytes. whole_file bytes (xml_text d offsets)) (option_map (λ (xs : List ℕ). xs ++ sections_of n content) told) ≡ option_map (λ _. plain n content) told
      by_told None long = refl
      by_told (Some first) long = ap Some (whole-is first long)

  headless : (held : Option (List ℕ)) → HeadlessFile (xml_text d offsets) b.told_bytes held → LacksHeader (plain n content) a.told_bytes held
  headless held lacks = by_told a.told_bytes held size (subst (λ (told : Option (List ℕ)). HeadlessFile (xml_text d offsets) told held) now.told lacks)
    where
      by_told : (told held : Option (List ℕ)) → IfSome told (λ bytes. length bytes ≡ 1020)
          → HeadlessFile (xml_text d offsets) (option_map (λ (xs : List ℕ). xs ++ sections_of n content) told) held → LacksHeader (plain n content) told held
      by_told None held long lacks = lacks
      by_told (Some first) None long lacks = lacks
      by_told (Some first) (Some file) long lacks = subst (λ (whole : List ℕ). IsHeadless whole file) (whole-is first long) lacks

  within : IsWithinFile b.size (xml_text d offsets) → Fits n content
  within fits =
      fits_within n content
      (subst (λ (text : List ℕ). IsWithinFile (1020 + length (sections_of n content)) text) now.text (subst (λ k. IsWithinFile k (xml_text d offsets)) now.size fits))

  too-long : IsTooLong b.size (xml_text d offsets) → Fits n content → ⊥
  too-long long =
      unfit_text n content
      (subst (λ (text : List ℕ). IsTooLong (1020 + length (sections_of n content)) text) now.text (subst (λ k. IsTooLong k (xml_text d offsets)) now.size long))

  length-is : (total : ℕ) → total ≡ 1024 * (pages_for b.size + pages_for (length (xml_text d offsets))) → total ≡ length (plain n content)
  length-is total is =
      let pages = whole_pages-count b.size (length (sections_of n content)) now.size now.whole in
      is ∙ ap (λ k. 1024 * (k + pages_for (length (xml_text d offsets)))) pages
      ∙ ap (λ (text : List ℕ). 1024 * (1 + length (sections_of n content) / 1020 + pages_for (length text))) now.text
      ∙ sym (plain-size n content)

-- the content can be written
writable : (n : ℕ) (d : Element) (bodies : List Body) → IsGoodTree d → 0 < n → AreBodies (stated_items (shape_of d)) bodies → Fits n (content_with d bodies) → IsWritable n (content_with d bodies)
writable n d bodies good some are fits = record { chunk = some; valid = content-valid d bodies good.is_lawful good.typed are; fits = fits }

pub file-closed : {T : Type 0} (view : T → TargetView) (aim : Aim) (d : Element) (bodies : List Body) (a b c : Writing T) (offsets : List ℕ) (total : ℕ) → IsGoodTree d → 0 < aim.chunk
    → a.size ≡ 1020 → IfSome a.told_bytes (λ bytes. length bytes ≡ a.size) → PutsItems view aim.chunk (stated_items (shape_of d)) bodies a offsets b → AreBodies (stated_items (shape_of d)) bodies
    → aim.is (content_with d bodies) → ClosesFile view b (xml_text d offsets) total c → EndsFile view aim a total (view c.target)
file-closed view aim d bodies a b c offsets total good some begun size puts are meets closed =
    let n = aim.chunk in
    let content = content_with d bodies in
    let long = subst (λ k. IfSome a.told_bytes (λ bytes. length bytes ≡ k)) begun size in
    let now = stands view n d bodies a b offsets good begun puts in
    record {
      content = content;
      is = meets;
      writable = writable n d bodies good some are (within view n d content a b offsets long now closed.fits);
      held = closed.held ∙ told-plain view n d content a b offsets long now;
      total = length-is view n d content a b offsets long now total closed.total;
      ended = closed.ended;
      target = keeps_both (view a.target) (view b.target) (view c.target) puts.wrote.target closed.target;
    }

pub file-not-closed : {T : Type 0} (view : T → TargetView) (aim : Aim) (d : Element) (bodies : List Body) (a b c : Writing T) (offsets : List ℕ) (fault : WriteFault) → IsGoodTree d → 0 < aim.chunk
    → a.size ≡ 1020 → IfSome a.told_bytes (λ bytes. length bytes ≡ a.size) → PutsItems view aim.chunk (stated_items (shape_of d)) bodies a offsets b → AreBodies (stated_items (shape_of d)) bodies
    → aim.is (content_with d bodies) → ((Fits aim.chunk (content_with d bodies) → ⊥) → aim.large) → LeavesFile view b (xml_text d offsets) fault (view c.target)
    → EndsNot view aim a (write_as_run fault) (view c.target)
file-not-closed view aim d bodies a b c offsets of_write.Target good some begun size puts are meets large left =
    (rose_before (view a.target).faults (view b.target).faults (view c.target).faults puts.wrote.target.faults left.cause, by_state left.state)
  where
    by_state : (IfSome (view c.target).held IsUnfinished) ⊎ HeadlessFile (xml_text d offsets) b.told_bytes (view c.target).held
        → Leaves view a (view c.target) ⊎ StaysHeadless view aim a (view c.target)
    by_state (inl unfinished) = inl (leaves_later view a b (view c.target) puts.wrote.target (record { unended = left.unended; unfinished = unfinished; target = left.target }))
    by_state (inr lacks) =
        let n = aim.chunk in
        let content = content_with d bodies in
        let long = subst (λ k. IfSome a.told_bytes (λ bytes. length bytes ≡ k)) begun size in
        let now = stands view n d bodies a b offsets good begun puts in
        inr (record {
          content = content;
          is = meets;
          writable = writable n d bodies good some are (within view n d content a b offsets long now left.fits);
          held = headless view n d content a b offsets long now (view c.target).held lacks;
          unended = left.unended;
          target = keeps_both (view a.target) (view b.target) (view c.target) puts.wrote.target left.target;
        })
file-not-closed view aim d bodies a b c offsets of_write.Large good some begun size puts are meets large left =
    let n = aim.chunk in
    let content = content_with d bodies in
    let long = subst (λ k. IfSome a.told_bytes (λ bytes. length bytes ≡ k)) begun size in
    let now = stands view n d bodies a b offsets good begun puts in
    (leaves_later view a b (view c.target) puts.wrote.target left.0, large (too-long view n d content a b offsets long now left.2))
file-not-closed view aim d bodies a b c offsets of_write.Memory good some begun size puts are meets large left = leaves_later view a b (view c.target) puts.wrote.target left.0

-- ---- items that were not put

-- where the first sections pass the last page, the content can't be written
pub unfit-first : (n : ℕ) (d : Element) (bodies : List Body) (size : ℕ) → IsGoodTree d → size ≡ 1020 → PassesFirst n size (stated_items (shape_of d)) bodies → Fits n (content_with d bodies) → ⊥
unfit-first n d bodies size good begun first =
    let is = plain-tree d good.is_lawful good.typed in
    let page : size / 1020 ≡ 1 = omega (arith, begun) in
    let past = first.past in
    unfit_sections n (content_with d bodies) first.before first.after
    (sections-same n d bodies is ∙ sym (ap (λ p. sections_from n p (stated_items (shape_of d)) bodies) page) ∙ first.cut)
    (omega (arith, begun, past))
