-- The content of a lawful tree and of bodies of its items is valid.
use Rattle.std.specs.Prelude.{◌≡◌, ℕ, zero, suc, ◌+◌, ◌*◌, ◌/◌, ◌%◌, ◌^◌, ◌<◌, List, ◌∷◌, length, map, replicate, codes, decimal, None}
use Rattle.std.specs.Fmt.{digits}
use Rattle.std.specs.List.{AllByRecursion}
use Rattle.std.proofs.Common.{refl, sym, ap, subst, ◌∙◌, arith, lit<}
use Rattle.std.proofs.lemmas.List.{length-replicate}
use Rattle.e57_elements.specs.Tree.{Element}
use Rattle.e57_elements.specs.Lawful.{IsLawful}
use Rattle.e57_nodes.specs.Shape.{Shape, shape_of}
use Rattle.e57_nodes.specs.Typed.{typed_fault}
use Rattle.e57_nodes.specs.Items.{stated_items}
use Rattle.e57_nodes.specs.Places.{places_in, with_places, without_places}
use Rattle.e57_nodes.proofs.Laws.Places.{without_places-with_places}
use Rattle.e57_nodes.proofs.Laws.Stated.{length-stated_items}
use Rattle.e57_verdict.specs.Content.{Content}
use Rattle.e57_verdict.specs.Things.{Body}
use Rattle.e57_plain.specs.Valid.{AreBodies, IsValid, items_in}
use Rattle.e57_plain.specs.Written.{sections_of, sections_from, offsets_of, offsets_from, plain, written_text, page_count, xml_page}
use Rattle.e57_plain.proofs.Laws.Whole.{placed-tree, plain-is}
use Rattle.e57_plain.proofs.Laws.Pages.{length-finished}
use Rattle.e57_plain.proofs.Laws.Sections.{length-sections}
use Rattle.e57_page_out.specs.Sealed.{pages_for}
use Rattle.e57_copy.specs.Several.{content_with}

zeros : (n : ℕ) → map decimal (replicate n 0) ≡ replicate n (codes "0")
unfolding digits
zeros zero = refl
zeros (suc n) = ap (λ (texts : List (List ℕ)). codes "0" ∷ texts) (zeros n)

zeros-small : (n : ℕ) → AllByRecursion (λ k. k < 2 ^ 64) (replicate n 0)
zeros-small zero = tt
zeros-small (suc n) = (lit< tt, zeros-small n)

-- The tree without its places is lawful, and states the same items.
pub record IsPlain (d : Element) : Type 0 where
  pub is_lawful : IsLawful (without_places d)
  pub same_shape : shape_of (without_places d) ≡ shape_of d

pub plain-tree : (d : Element) → IsLawful d → typed_fault (shape_of d) ≡ None → IsPlain d
plain-tree d lawful typed =
    let n = length (places_in d) in
    let many : length (replicate n 0) ≡ length (stated_items (shape_of d)) = length-replicate n 0 ∙ sym (length-stated_items d) in
    let placed = placed-tree d (replicate n 0) lawful typed (zeros-small n) many in
    let tree : with_places (map decimal (replicate n 0)) d ≡ without_places d = ap (λ (texts : List (List ℕ)). with_places texts d) (zeros n) in
    record { is_lawful = subst (λ (x : Element). IsLawful x) tree placed.is_lawful; same_shape = ap shape_of (sym tree) ∙ placed.same_shape }

pub content-valid : (d : Element) (bodies : List Body) → IsLawful d → typed_fault (shape_of d) ≡ None → AreBodies (stated_items (shape_of d)) bodies → IsValid (content_with d bodies)
content-valid d bodies lawful typed are =
    let is = plain-tree d lawful typed in
    record {
      is_lawful = is.is_lawful;
      typed = ap typed_fault is.same_shape ∙ typed;
      no_places = without_places-with_places _ d;
      bodies = subst (λ (s : Shape). AreBodies (stated_items s) bodies) (sym is.same_shape) are;
    }

-- its sections and their offsets are those of the tree's items
pub sections-same : (n : ℕ) (d : Element) (bodies : List Body) → IsPlain d → sections_of n (content_with d bodies) ≡ sections_from n 1 (stated_items (shape_of d)) bodies
sections-same n d bodies is = ap (λ (s : Shape). sections_from n 1 (stated_items s) bodies) is.same_shape

pub offsets-same : (n : ℕ) (d : Element) (bodies : List Body) → IsPlain d → offsets_of n (content_with d bodies) ≡ offsets_from n 1 (stated_items (shape_of d)) bodies
offsets-same n d bodies is = ap (λ (s : Shape). offsets_from n 1 (stated_items s) bodies) is.same_shape

-- ---- how long the written form is

pub plain-size : (n : ℕ) (content : Content) → length (plain n content) ≡ 1024 * (1 + length (sections_of n content) / 1020 + pages_for (length (written_text n content)))
unfolding page_count xml_page
plain-size n content = ap (λ (xs : List ℕ). length xs) (plain-is n content) ∙ length-finished (sections_of n content) (written_text n content) (length-sections n 1 (items_in content) content.bodies)

pub whole_pages-count : (size rows : ℕ) → size ≡ 1020 + rows → rows % 1020 ≡ 0 → pages_for size ≡ 1 + rows / 1020
unfolding pages_for
whole_pages-count size rows is whole = omega arith
