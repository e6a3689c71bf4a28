-- What the verdict speaks of is what a tree's own calls give: its clouds and blobs are the items in order, and the tree that an
-- XML section spells is that of the file, where nothing has a fault before the text.
use Rattle.std.proofs.Common.{◌≡◌, ℕ, ◌+◌, List, [], ◌∷◌, length, map, drop, Option, None, refl, sym, ap, ◌∙◌, arith}
use Rattle.std.proofs.lemmas.Option.{get_or_from_slice_get}
use Rattle.std.specs.Option.{option_or}
use Rattle.e57_base.proofs.Lists.{stands_at}
use Rattle.e57_base.proofs.Options.{option_or_parts}
use Rattle.e57_base.specs.declared.fault.Fault.{Fault}
use Rattle.e57_elements.specs.Tree.{Element}
use Rattle.e57_layout.specs.declared.field.Field.{Field}
use Rattle.e57_page.specs.File.{length_fault, logical_size, opening_fault}
use Rattle.e57_page.specs.Header.{header_fault, header_of}
use Rattle.e57_page.specs.XmlSection.{xml_span_fault}
use Rattle.e57_nodes.specs.Shape.{shape_of}
use Rattle.e57_nodes.specs.Places.{places_in}
use Rattle.e57_nodes.specs.Items.{StatedItem, stated_cloud, stated_blob, stated_items, leaves_of}
use Rattle.e57_nodes.proofs.Laws.Stated.{length-stated_items}
use Rattle.e57_tree.specs.declared.items.Cloud.{Cloud}
use Rattle.e57_tree.specs.declared.items.Blob.{Blob}
use Rattle.e57_tree.specs.declared.items.Item.TheVariants as item
use Rattle.e57_tree.specs.Held.{clouds_among, blobs_among, items_among, fields_among, clouds_of, blobs_of, items_of, cloud_fields, no_cloud, no_blob, cloud_in, blob_in, fields_in}
use Rattle.e57_verdict.specs.Things.{Thing, cloud_thing, blob_thing, thing_at, things_at, things_in}
use Rattle.e57_verdict.specs.Verdict.{HasTree, all_pages_fault, fault_before_text}
use Rattle.e57_verdict.proofs.Laws.Opening.{before-section}
use Rattle.e57_file.specs.Text.{xml_fault}
use Rattle.e57_file.specs.Opened.{HasXmlTree}
use Rattle.e57_check.specs.Clouds.{cloud_of}
use Rattle.e57_check.specs.Checking.{thing_in}

-- ---- clouds and blobs

-- the items that are left, by their numbers
things-among : (e : Element) (xs : List StatedItem) (ps : List ℕ) (c b : ℕ) → length ps ≡ length xs → drop c (clouds_of e) ≡ clouds_among xs ps
    → drop b (blobs_of e) ≡ blobs_among xs ps → drop c (cloud_fields e) ≡ fields_among xs → map (thing_in e) (items_among c b xs) ≡ things_at xs ps
things-among e [] ps c b many clouds blobs rows = refl
things-among e (x ∷ xs) [] c b many clouds blobs rows = absurd (omega (arith, many))
things-among e (stated_cloud n count fields ∷ xs) (p ∷ ps) c b many clouds blobs rows =
    let cloud : Cloud = record { node = n; place = p; count = count } in
    let here = stands_at (clouds_of e) c cloud (clouds_among xs ps) clouds in
    let row = stands_at (cloud_fields e) c fields (fields_among xs) rows in
    let is : cloud_in e c ≡ cloud = get_or_from_slice_get (clouds_of e) c cloud no_cloud here.got in
    let of : fields_in e c ≡ fields = get_or_from_slice_get (cloud_fields e) c fields [] row.got in
    let same : thing_in e (item.Cloud c) ≡ thing_at (stated_cloud n count fields) p =
    ap (λ (x : Cloud). cloud_thing (cloud_of x (leaves_of (fields_in e c)))) is ∙ ap (λ (fs : List Field). cloud_thing (cloud_of cloud (leaves_of fs))) of in
    let later = things-among e xs ps (c + 1) b (omega (arith, many)) here.after blobs row.after in
    ap (λ (t : Thing). t ∷ map (thing_in e) (items_among (c + 1) b xs)) same ∙ ap (λ (ts : List Thing). thing_at (stated_cloud n count fields) p ∷ ts) later
things-among e (stated_blob n size ∷ xs) (p ∷ ps) c b many clouds blobs rows =
    let blob : Blob = record { node = n; place = p; length = size } in
    let here = stands_at (blobs_of e) b blob (blobs_among xs ps) blobs in
    let is : blob_in e b ≡ blob = get_or_from_slice_get (blobs_of e) b blob no_blob here.got in
    let same : thing_in e (item.Blob b) ≡ thing_at (stated_blob n size) p = ap (λ (x : Blob). blob_thing (record { node = x.node; offset = x.place; length = x.length })) is in
    let later = things-among e xs ps c (b + 1) (omega (arith, many)) clouds here.after rows in
    ap (λ (t : Thing). t ∷ map (thing_in e) (items_among c (b + 1) xs)) same ∙ ap (λ (ts : List Thing). thing_at (stated_blob n size) p ∷ ts) later

-- the things of a tree are its items in order
pub things-items : (e : Element) → map (thing_in e) (items_of e) ≡ things_in e
things-items e = things-among e (stated_items (shape_of e)) (places_in e) 0 0 (sym (length-stated_items e)) refl refl refl

-- ---- the tree of a file

-- nothing has a fault before the text: so neither has a page, nor the XML section
none-before : (file : List ℕ) → fault_before_text file ≡ None → (all_pages_fault file ≡ None) × (xml_fault file ≡ None)
unfolding fault_before_text
none-before file sound =
    let first = option_or_parts (length_fault (length file)) (option_or (header_fault file (length file)) (option_or (all_pages_fault file) (xml_span_fault (header_of file) (logical_size file)))) sound in
    let second = option_or_parts (header_fault file (length file)) (option_or (all_pages_fault file) (xml_span_fault (header_of file) (logical_size file))) first.1 in
    let pages = (option_or_parts (all_pages_fault file) (xml_span_fault (header_of file) (logical_size file)) second.1).0 in
    (pages, (option_or_parts (opening_fault file) (xml_fault file) (sym (before-section file pages) ∙ sound)).1)

pub has-xml_tree : (file : List ℕ) (tree : Element) → HasTree file tree → HasXmlTree file tree
has-xml_tree file tree has = record { sound = (none-before file has.sound).1; spells = has.spells; is_lawful = has.is_lawful }
