-- The content with what is kept of one cloud: its tree, its items and its written form.
use Rattle.std.specs.Prelude.{◌≡◌, ℕ, zero, suc, ◌+◌, ◌*◌, ◌/◌, ◌^◌, ◌<◌, ◌≤◌, true, List, [], ◌∷◌, ◌++◌, length, map, get_or, slice_index_or}
use Rattle.std.specs.List.{AllByRecursion}
use Rattle.std.proofs.Common.{refl, sym, ap, subst, ◌∙◌, arith, length-append}
use Rattle.e57_elements.specs.Tree.{Element}
use Rattle.e57_elements.specs.Spelling.{spelling}
use Rattle.e57_layout.specs.Items.{AreColumns}
use Rattle.e57_layout.specs.Values.{ItemKind, Value}
use Rattle.e57_layout.specs.declared.field.Field.{Field}
use Rattle.e57_page_out.specs.Sealed.{pages_for}
use Rattle.e57_page_out.specs.Writing.{most_bytes}
use Rattle.e57_nodes.specs.Items.{StatedItem, stated_cloud, stated_blob, stated_items}
use Rattle.e57_nodes.specs.Places.{without_places}
use Rattle.e57_nodes.specs.Shape.{Shape, shape_of, node_count}
use Rattle.e57_nodes.specs.Typed.{max_records, typed_fault}
use Rattle.e57_nodes.proofs.Laws.Sound.{IsSoundItem, sound_items}
use Rattle.e57_tree.specs.Held.{fields_among}
use Rattle.e57_verdict.specs.Content.{Content}
use Rattle.e57_verdict.specs.Things.{Body, records_body, bytes_body}
use Rattle.e57_plain.specs.Kept.{Selection, Selects, cloud_columns, cloud_fields, kept, passes}
use Rattle.e57_plain.specs.Pruned.{keeps_some, with_cloud}
use Rattle.e57_plain.specs.Valid.{AreBodies, items_in, kinds_in}
use Rattle.e57_plain.specs.Written.{Fits, sections_from, sections_of, written_text}
use Rattle.e57_plain.proofs.Laws.Changed.{changed, with_cloud-changed}
use Rattle.e57_plain.proofs.Laws.Forms.{form_of, stated-forms}
use Rattle.e57_plain.proofs.Laws.Kept.{keeps-of}
use Rattle.e57_plain.proofs.Laws.Sections.{length-sections}
use Rattle.e57_plain.proofs.Laws.Typed.{whole-typed}
use Rattle.e57_copy.specs.Several.{content_with}
use Rattle.e57_copy.proofs.OneTree.{IsGoodTree}
use Rattle.e57_copy.proofs.Several.{sections-forms}
use Rattle.e57_copy.proofs.Valid.{plain-tree, plain-size}
use Rattle.e57_filter.specs.Filtering.{kept_bodies, kept_items, kept_number, FillsFile, IsKept, IsOfTree}
use Rattle.e57_filter.specs.Selecting.{selection_of}
use Rattle.e57_filter.specs.declared.select.Selected.{Selected}
use Rattle.e57_filter.proofs.KeptLists.{kept-forms}
use Rattle.e57_filter.proofs.Passing.{number-few}
use Rattle.e57_filter.proofs.PlacedCloud.{without-cloud}

-- ---- what is selected

fields-same : (k : ℕ) (items : List StatedItem) → cloud_fields k items ≡ slice_index_or (fields_among items) k []
fields-same k [] = refl
fields-same k (stated_blob n size ∷ items) = fields-same k items
fields-same zero (stated_cloud n count fields ∷ items) = refl
fields-same (suc k) (stated_cloud n count fields ∷ items) = fields-same k items

-- A tree, and flags of the fields of one of its clouds, of which one is kept.
pub record IsChoice (selection : Selection) (e : Element) : Type 0 where
  pub good : IsGoodTree e
  pub flags : length selection.fields ≡ length (cloud_fields selection.cloud (stated_items (shape_of e)))
  pub keeps : keeps_some selection.fields ≡ true

pub choice-of : (every : ℕ) (s : Selected) (e : Element) → IsGoodTree e → IsOfTree e s → IsChoice (selection_of every s) e
choice-of every s e good of = record {
  good = good;
  flags = of.of_cloud.flags ∙ ap (λ (fields : List Field). length fields) (sym (fields-same s.k (stated_items (shape_of e))));
  keeps = of.keeps;
}

-- the tree alone, as that of a content
abbrev alone : Element → Content
alone e = record { tree = e; bodies = [] }

-- the items of the tree with the changed cloud have the forms of what is kept of its items
pub kept-tree : (selection : Selection) (e : Element) (number : ℕ) → IsChoice selection e → number ≤ max_records
    → map form_of (kept_items selection number (stated_items (shape_of e))) ≡ map form_of (stated_items (shape_of (with_cloud selection.cloud selection.fields number e)))
kept-tree selection e number choice few =
    let k = selection.cloud in
    let flags = selection.fields in
    let selects : Selects selection (alone e) = record { fields = choice.flags; some = choice.keeps } in
    let is = with_cloud-changed k flags number true e few (whole-typed (shape_of e) choice.good.typed) (keeps-of selection (alone e) selects) choice.good.is_lawful.each in
    sym (kept-forms k flags number (stated_items (shape_of e))) ∙ ap (changed k flags number) (stated-forms (shape_of e)) ∙ sym is.forms
    ∙ sym (stated-forms (shape_of (with_cloud k flags number e)))

-- ---- the content

abbrev content_of : Element → List Body → Content
content_of tree bodies = record { tree = tree; bodies = bodies }

-- the content of the tree with the changed cloud and the kept bodies
pub kept-content : (selection : Selection) (e : Element) (old : List Body) (number : ℕ) (bodies : List Body) → IsGoodTree e → IsKept selection old number bodies
    → content_with (with_cloud selection.cloud selection.fields number e) bodies ≡ kept selection (content_with e old)
unfolding kept
kept-content selection e old number bodies good is =
    let k = selection.cloud in
    let flags = selection.fields in
    ap (λ (tree : Element). content_of tree bodies) (without-cloud k flags number e (whole-typed (shape_of e) good.typed))
    ∙ ap (λ m. content_of (with_cloud k flags m (without_places e)) bodies) is.count
    ∙ ap (λ (bs : List Body). content_of (with_cloud k flags (kept_number selection old) (without_places e)) bs) is.are

-- no more records than a cloud may have
few-records : (nodes k : ℕ) (items : List StatedItem) (bodies : List Body) → AllByRecursion (IsSoundItem nodes) items → AreBodies items bodies → length (get_or (cloud_columns k bodies) 0 []) ≤ 2 ^ 40
few-records nodes k [] [] sound are = omega arith
few-records nodes k [] (body ∷ bodies) sound are = absurd are
few-records nodes k (item ∷ items) [] sound are = absurd are
few-records nodes k (stated_blob n size ∷ items) (records_body columns ∷ bodies) sound are = absurd are.0
few-records nodes k (stated_blob n size ∷ items) (bytes_body bytes ∷ bodies) sound are = few-records nodes k items bodies sound.1 are.1
few-records nodes k (stated_cloud n count fields ∷ items) (bytes_body bytes ∷ bodies) sound are = absurd are.0
few-records nodes (suc k) (stated_cloud n count fields ∷ items) (records_body columns ∷ bodies) sound are = few-records nodes k items bodies sound.1 are.1
few-records nodes zero (stated_cloud n count fields ∷ items) (records_body columns ∷ bodies) sound are = first (kinds_in fields) columns sound.0.few_records are.0 where
  first : (kinds : List ItemKind) (cs : List (List Value)) → count ≤ 2 ^ 40 → AreColumns kinds count cs → length (get_or cs 0 []) ≤ 2 ^ 40
  first [] [] few are = omega arith
  first [] (c ∷ cs) few are = absurd are
  first (kind ∷ kinds) [] few are = absurd are
  first (kind ∷ kinds) (c ∷ cs) few are = let size : length c ≡ count = are.0 in omega (arith, size, few)

few-kept : (selection : Selection) (e : Element) (bodies : List Body) → IsGoodTree e → AreBodies (stated_items (shape_of e)) bodies → kept_number selection bodies ≤ max_records
few-kept selection e bodies good are =
    let records = few-records (node_count (shape_of e)) selection.cloud (stated_items (shape_of e)) bodies (sound_items e good.typed) are in
    let fewer = number-few (passes selection (cloud_columns selection.cloud bodies)) 0 (length (get_or (cloud_columns selection.cloud bodies) 0 [])) in
    omega (arith, records, fewer)

-- ---- it can't be written where its sections leave no page

spelled : (tree : Element) → 0 < length (spelling tree)
spelled tree = omega arith

some-text : (n : ℕ) (content : Content) → 0 < length (written_text n content)
unfolding written_text
some-text n content = spelled _

some-pages : (size : ℕ) → 0 < size → 0 < pages_for size
unfolding pages_for
some-pages size some = omega (arith, some)

unfit-full : (n : ℕ) (content : Content) (before after : List ℕ) → sections_of n content ≡ before ++ after → most_bytes ≤ 1020 + length before → Fits n content → ⊥
unfit-full n content before after is full fits =
    let size = plain-size n content in
    let file = fits.file in
    let rows = length-sections n 1 (items_in content) content.bodies in
    let long = ap (λ (xs : List ℕ). length xs) is ∙ length-append before after in
    let text = some-pages (length (written_text n content)) (some-text n content) in
    let room : most_bytes ≡ 1020 * 2 ^ 38 = refl in
    omega (arith, size, file, rows, long, text, room, full)

kept-is : (selection : Selection) (e : Element) (bodies : List Body)
    → content_of (with_cloud selection.cloud selection.fields (kept_number selection bodies) (without_places e)) (kept_bodies selection bodies) ≡ kept selection (content_with e bodies)
unfolding kept
kept-is selection e bodies = refl

pub unfit-kept : (n : ℕ) (selection : Selection) (e : Element) (bodies : List Body) (size : ℕ) → IsChoice selection e → size ≡ 1020 → AreBodies (stated_items (shape_of e)) bodies
    → FillsFile n size (kept_items selection (kept_number selection bodies) (stated_items (shape_of e))) (kept_bodies selection bodies) → Fits n (kept selection (content_with e bodies)) → ⊥
unfit-kept n selection e bodies size choice begun are fills fits =
    let k = selection.cloud in
    let flags = selection.fields in
    let number = kept_number selection bodies in
    let new = kept_bodies selection bodies in
    let plainly = plain-tree e choice.good.is_lawful choice.good.typed in
    let content : Content = content_of (with_cloud k flags number (without_places e)) new in
    let same : content ≡ kept selection (content_with e bodies) = kept-is selection e bodies in
    let few = few-kept selection e bodies choice.good are in
    let bare : IsChoice selection (without_places e) = record {
      good = record { is_lawful = plainly.is_lawful; typed = ap typed_fault plainly.same_shape ∙ choice.good.typed };
      flags = subst (λ (s : Shape). length flags ≡ length (cloud_fields k (stated_items s))) (sym plainly.same_shape) choice.flags;
      keeps = choice.keeps;
    } in
    let forms = kept-tree selection (without_places e) number bare few in
    let stated = subst (λ (s : Shape). map form_of (kept_items selection number (stated_items s)) ≡ map form_of (items_in content)) plainly.same_shape forms in
    let page : size / 1020 ≡ 1 = omega (arith, begun) in
    let full = fills.full in
    unfit-full n content fills.before fills.after
    (sym (sections-forms n 1 (kept_items selection number (stated_items (shape_of e))) (items_in content) new stated)
    ∙ sym (ap (λ p. sections_from n p (kept_items selection number (stated_items (shape_of e))) new) page) ∙ fills.cut)
    (omega (arith, begun, full))
    (subst (λ (c : Content). Fits n c) (sym same) fits)
