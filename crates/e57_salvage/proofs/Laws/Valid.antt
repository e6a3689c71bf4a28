-- What is saved of a file is a valid content.
use Rattle.std.specs.Prelude.{◌≡◌, ℕ, zero, suc, ◌^◌, ◌<◌, List, ◌∷◌, length, map, replicate, codes, decimal, None}
use Rattle.std.specs.Fmt.{digits}
use Rattle.std.specs.List.{AllByRecursion}
use Rattle.std.proofs.Common.{refl, sym, ap, subst, ◌∙◌, lit<}
use Rattle.std.proofs.lemmas.List.{length-replicate}
use Rattle.e57_elements.specs.Tree.{Element}
use Rattle.e57_elements.specs.Lawful.{IsLawful}
use Rattle.e57_nodes.specs.Shape.{shape_of, node_count}
use Rattle.e57_nodes.specs.Typed.{typed_fault}
use Rattle.e57_nodes.specs.Items.{stated_items}
use Rattle.e57_nodes.specs.Places.{places_in, with_places, without_places}
use Rattle.e57_nodes.proofs.Laws.Places.{without_places-with_places}
use Rattle.e57_nodes.proofs.Laws.Sound.{sound_items}
use Rattle.e57_nodes.proofs.Laws.Stated.{length-stated_items}
use Rattle.e57_verdict.specs.Things.{things_in, record_count}
use Rattle.e57_verdict.specs.Content.{Content, IsContent}
use Rattle.e57_plain.specs.Valid.{AreBodies, IsValid, items_in}
use Rattle.e57_plain.specs.Written.{Fits, IsWritable, plain}
use Rattle.e57_plain.proofs.Laws.Forms.{Form, AreFormBodies, forms-bodies}
use Rattle.e57_plain.proofs.Laws.Typed.{whole-typed}
use Rattle.e57_plain.proofs.Laws.Whole.{placed-tree}
use Rattle.e57_edits.specs.Counts.{with_counts}
use Rattle.e57_salvage.specs.Lines.{records_kept}
use Rattle.e57_salvage.specs.Saved.{saved_body, saved_counts, saved, IsSaved}
use Rattle.e57_salvage.proofs.Laws.Recounted.{AreUnsigned, counts-lawful, counts-typed_fault}
use Rattle.e57_salvage.proofs.Laws.Counts.{recounted-forms}
use Rattle.e57_salvage.proofs.Laws.Bodies.{saved-bodies, few-saved, small-saved, form_records, records-forms, records-saved}

zeros : (n : ℕ) → map decimal (replicate n 0) ≡ replicate n (codes "0")
unfolding digits
zeros zero = refl
zeros (suc n) = ap (λ (texts : List (List ℕ)). codes "0" ∷ texts) (zeros n)

zeros-small : (n : ℕ) → AllByRecursion (λ k. k < 2 ^ 64) (replicate n 0)
zeros-small zero = tt
zeros-small (suc n) = (lit< tt, zeros-small n)

-- What is saved of a file whose tree is lawful, and whose nodes have no fault, is a valid content.
pub saved-valid : (file : List ℕ) (tree : Element) → IsLawful tree → typed_fault (shape_of tree) ≡ None → IsValid (saved file tree)
unfolding saved
saved-valid file tree lawful free =
    let counts = saved_counts file tree in
    let e = with_counts counts tree in
    let items = stated_items (shape_of tree) in
    let sound = sound_items tree free in
    let many = length-stated_items tree in
    let fits : AreUnsigned counts = small-saved file (node_count (shape_of tree)) items (places_in tree) many sound in
    let is_lawful = counts-lawful counts tree fits lawful in
    let typed = counts-typed_fault counts tree fits (few-saved file (node_count (shape_of tree)) items (places_in tree) many sound) free in
    let n = length (places_in e) in
    let as_many : length (replicate n 0) ≡ length (stated_items (shape_of e)) = length-replicate n 0 ∙ sym (length-stated_items e) in
    let placed = placed-tree e (replicate n 0) is_lawful typed (zeros-small n) as_many in
    let same : with_places (map decimal (replicate n 0)) e ≡ without_places e = ap (λ (texts : List (List ℕ)). with_places texts e) (zeros n) in
    let shape : shape_of (without_places e) ≡ shape_of e = ap shape_of (sym same) ∙ placed.same_shape in
    let held = saved-bodies file (node_count (shape_of tree)) items (places_in tree) many sound in
    let forms = recounted-forms counts tree fits (whole-typed (shape_of tree) free) in
    let bodies : AreBodies (stated_items (shape_of e)) (map (saved_body file) (things_in tree)) =
    forms-bodies (stated_items (shape_of e)) (map (saved_body file) (things_in tree)) (subst (λ (fs : List Form). AreFormBodies fs (map (saved_body file) (things_in tree))) (sym forms) held) in
    record {
      is_lawful = subst (λ (x : Element). IsLawful x) same placed.is_lawful;
      typed = ap typed_fault shape ∙ typed;
      no_places = without_places-with_places (replicate n (codes "0")) e;
      bodies = subst (λ s. AreBodies (stated_items s) (map (saved_body file) (things_in tree))) (sym shape) bodies;
    }

pub file-valid : (file : List ℕ) (content : Content) → IsSaved file content → IsValid content
file-valid file content is = subst (λ (x : Content). IsValid x) (sym is.same) (saved-valid file is.tree is.has.is_lawful is.typed)

-- It states as many records as are kept.
pub saved-records : (file : List ℕ) (tree : Element) → IsLawful tree → typed_fault (shape_of tree) ≡ None → record_count (items_in (saved file tree)) ≡ records_kept file (things_in tree)
unfolding saved
saved-records file tree lawful free =
    let counts = saved_counts file tree in
    let e = with_counts counts tree in
    let items = stated_items (shape_of tree) in
    let sound = sound_items tree free in
    let many = length-stated_items tree in
    let fits : AreUnsigned counts = small-saved file (node_count (shape_of tree)) items (places_in tree) many sound in
    let typed = counts-typed_fault counts tree fits (few-saved file (node_count (shape_of tree)) items (places_in tree) many sound) free in
    let n = length (places_in e) in
    let as_many : length (replicate n 0) ≡ length (stated_items (shape_of e)) = length-replicate n 0 ∙ sym (length-stated_items e) in
    let placed = placed-tree e (replicate n 0) (counts-lawful counts tree fits lawful) typed (zeros-small n) as_many in
    let same : with_places (map decimal (replicate n 0)) e ≡ without_places e = ap (λ (texts : List (List ℕ)). with_places texts e) (zeros n) in
    let shape : shape_of (without_places e) ≡ shape_of e = ap shape_of (sym same) ∙ placed.same_shape in
    ap (λ s. record_count (stated_items s)) shape ∙ records-forms (stated_items (shape_of e))
    ∙ ap form_records (recounted-forms counts tree fits (whole-typed (shape_of tree) free)) ∙ records-saved file items (places_in tree) many

pub saved-content : ((n : ℕ) (content : Content) → IsWritable n content → IsContent (plain n content) content) → (n : ℕ) (file : List ℕ) (content : Content) → 0 < n → IsSaved file content → Fits n content → IsContent (plain n content) content
saved-content written n file content some is fits = written n content (record { chunk = some; valid = file-valid file content is; fits = fits })
