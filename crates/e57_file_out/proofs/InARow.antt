-- Laws of sections in a row: one more of them, and those of a content.
use Rattle.std.proofs.Common.{◌≡◌, ◌⊎◌, inl, inr, ℕ, suc, ◌+◌, ◌-◌, ◌*◌, ◌/◌, ◌%◌, ◌^◌, ◌<◌, ◌≤◌, List, [], ◌∷◌, ◌++◌, length, drop, map, refl, sym, ap, subst, ◌∙◌, arith, append_assoc, append-nil, length-append, length-drop, add-zero}
use Rattle.std.specs.Prelude.{decimal}
use Rattle.std.proofs.lemmas.List.{drop_at}
use Rattle.e57_elements.specs.Spelling.{spelling}
use Rattle.e57_elements.specs.Tree.{Element}
use Rattle.e57_nodes.specs.Items.{StatedItem}
use Rattle.e57_nodes.specs.Places.{with_places, without_places}
use Rattle.e57_nodes.proofs.Laws.Places.{with_places-twice}
use Rattle.e57_page_out.specs.Sealed.{filled, pages_for}
use Rattle.e57_page_out.specs.Writing.{most_bytes}
use Rattle.e57_page_out.proofs.WritingLaws.{filled_whole, pages_whole}
use Rattle.e57_verdict.specs.Content.{Content}
use Rattle.e57_verdict.specs.Things.{Body}
use Rattle.e57_plain.specs.Valid.{items_in}
use Rattle.e57_plain.specs.Written.{whole_pages, page_behind, body_section, section_offset, sections_from, offsets_from, sections_of, offsets_of, written_tree, written_text, plain, finished, xml_page, page_count, Fits}
use Rattle.e57_plain.proofs.Laws.Pages.{length-whole_pages, length-finished}
use Rattle.e57_plain.proofs.Laws.Sections.{length-sections}
use Rattle.e57_plain.proofs.Laws.Whole.{plain-is}
use Rattle.e57_file_out.specs.Closing.{xml_text, whole_file, IsTooLong, IsWithinFile}
use Rattle.e57_file_out.specs.InARow.{next_page}

-- ---- one item more

next_page-nil : (n p : ℕ) → p ≡ next_page n p [] []
unfolding next_page sections_from
next_page-nil n p = let none : 0 / 1020 ≡ 0 = refl in sym (ap (λ k. p + k) none ∙ add-zero p)

next_page-cons : (n p : ℕ) (item : StatedItem) (body : Body) (items : List StatedItem) (bodies : List Body) → next_page n (page_behind p (body_section n (1020 * p) item body)) items bodies ≡ next_page n p (item ∷ items) (body ∷ bodies)
unfolding next_page sections_from
next_page-cons n p item body items bodies =
    let first = body_section n (1020 * p) item body in
    let whole = length-whole_pages first in
    let both = length-append (whole_pages first) (sections_from n (page_behind p first) items bodies) in
    omega arith

pub sections_more : (n p : ℕ) (items : List StatedItem) (bodies : List Body) (item : StatedItem) (body : Body) → length items ≡ length bodies
    → sections_from n p (items ++ item ∷ []) (bodies ++ body ∷ []) ≡ sections_from n p items bodies ++ whole_pages (body_section n (1020 * next_page n p items bodies) item body)
unfolding sections_from
sections_more n p [] [] item body same =
    append-nil (whole_pages (body_section n (1020 * p) item body)) ∙ ap (λ r. whole_pages (body_section n (1020 * r) item body)) (next_page-nil n p)
sections_more n p [] (b ∷ bodies) item body same = absurd cc
sections_more n p (i ∷ items) [] item body same = absurd cc
sections_more n p (i ∷ items) (b ∷ bodies) item body same =
    let first = body_section n (1020 * p) i b in
    let last = λ (r : ℕ). whole_pages (body_section n (1020 * r) item body) in
    let rest = sections_from n (page_behind p first) items bodies in
    ap (λ (xs : List ℕ). whole_pages first ++ xs) (sections_more n (page_behind p first) items bodies item body (omega arith))
    ∙ ap (λ r. whole_pages first ++ (rest ++ last r)) (next_page-cons n p i b items bodies)
    ∙ sym (append_assoc (whole_pages first) rest (last (next_page n p (i ∷ items) (b ∷ bodies))))

pub offsets_more : (n p : ℕ) (items : List StatedItem) (bodies : List Body) (item : StatedItem) (body : Body) → length items ≡ length bodies
    → offsets_from n p (items ++ item ∷ []) (bodies ++ body ∷ []) ≡ offsets_from n p items bodies ++ section_offset (next_page n p items bodies) (body_section n (1020 * next_page n p items bodies) item body) ∷ []
unfolding offsets_from
offsets_more n p [] [] item body same = ap (λ r. section_offset r (body_section n (1020 * r) item body) ∷ []) (next_page-nil n p)
offsets_more n p [] (b ∷ bodies) item body same = absurd cc
offsets_more n p (i ∷ items) [] item body same = absurd cc
offsets_more n p (i ∷ items) (b ∷ bodies) item body same =
    let first = body_section n (1020 * p) i b in
    ap (λ xs. section_offset p first ∷ xs) (offsets_more n (page_behind p first) items bodies item body (omega arith))
    ∙ ap (λ r. section_offset p first ∷ (offsets_from n (page_behind p first) items bodies ++ section_offset r (body_section n (1020 * r) item body) ∷ [])) (next_page-cons n p i b items bodies)

-- ---- a content

-- the text of a content, by each tree that has its elements but for the offsets
pub text-of : (n : ℕ) (content : Content) (tree : Element) → content.tree ≡ without_places tree → xml_text tree (offsets_of n content) ≡ written_text n content
unfolding xml_text written_text written_tree
text-of n content tree same =
    sym (ap (λ (e : Element). spelling (with_places (map decimal (offsets_of n content)) e)) same ∙ ap spelling (with_places-twice _ (map decimal (offsets_of n content)) tree))

-- behind a first page the sections of a content are closed as its written form
pub content_closed : (n : ℕ) (content : Content) (tree : Element) (first : List ℕ) → content.tree ≡ without_places tree → length first ≡ 1020 → whole_file (first ++ sections_of n content) (xml_text tree (offsets_of n content)) ≡ plain n content
unfolding whole_file whole_pages
content_closed n content tree first same size =
    let sections = sections_of n content in
    let rows = length-sections n 1 (items_in content) content.bodies in
    let both = length-append first sections in
    let k = 1 + length sections / 1020 in
    let whole : length (first ++ sections) ≡ 1020 * k = omega arith in
    let count : pages_for (length (first ++ sections)) ≡ k = ap pages_for whole ∙ pages_whole k in
    ap (λ i. finished (drop 1020 (filled i (first ++ sections))) (xml_text tree (offsets_of n content))) count
    ∙ ap (λ (xs : List ℕ). finished (drop 1020 xs) (xml_text tree (offsets_of n content))) (filled_whole k (first ++ sections) whole)
    ∙ ap (λ (xs : List ℕ). finished xs (xml_text tree (offsets_of n content))) (drop_at first sections 1020 size)
    ∙ ap (finished sections) (text-of n content tree same)
    ∙ sym (plain-is n content)

-- how long its written form is
plain-size : (n : ℕ) (content : Content) → length (plain n content) ≡ 1024 * (1 + length (sections_of n content) / 1020 + pages_for (length (written_text n content)))
unfolding page_count xml_page
plain-size n content = ap (λ (xs : List ℕ). length xs) (plain-is n content) ∙ length-finished (sections_of n content) (written_text n content) (length-sections n 1 (items_in content) content.bodies)

pages_least : (n k : ℕ) → n ≤ 1020 * k → pages_for n ≤ k
unfolding pages_for
pages_least n k within = omega arith

pages_cover : (n : ℕ) → n ≤ 1020 * pages_for n
unfolding pages_for
pages_cover n = omega arith

sections_pages : (n : ℕ) (content : Content) → pages_for (1020 + length (sections_of n content)) ≡ 1 + length (sections_of n content) / 1020
sections_pages n content =
    let rows = length-sections n 1 (items_in content) content.bodies in
    let k = 1 + length (sections_of n content) / 1020 in
    let whole : 1020 + length (sections_of n content) ≡ 1020 * k = omega arith in
    ap pages_for whole ∙ pages_whole k

-- what fits into a file fits for its written form, and nothing else
pub fits_within : (n : ℕ) (content : Content) → IsWithinFile (1020 + length (sections_of n content)) (written_text n content) → Fits n content
fits_within n content within =
    let pages = sections_pages n content in
    let size = plain-size n content in
    let file = within.room in
    let room : most_bytes ≡ 1020 * 2 ^ 38 = refl in
    let text = pages_least (length (written_text n content)) (2 ^ 38 - (1 + length (sections_of n content) / 1020)) (omega arith) in
    record { text = within.short; file = omega arith }

pub unfit_text : (n : ℕ) (content : Content) → IsTooLong (1020 + length (sections_of n content)) (written_text n content) → Fits n content → ⊥
unfit_text n content (inl long) fits = let text = fits.text in absurd (omega arith)
unfit_text n content (inr past) fits =
    let pages = sections_pages n content in
    let size = plain-size n content in
    let file = fits.file in
    let cover = pages_cover (length (written_text n content)) in
    absurd (omega arith)

pub unfit_sections : (n : ℕ) (content : Content) (before after : List ℕ) → sections_of n content ≡ before ++ after → most_bytes < 1020 + length before → Fits n content → ⊥
unfit_sections n content before after is past fits =
    let size = plain-size n content in
    let file = fits.file in
    let rows = length-sections n 1 (items_in content) content.bodies in
    let long = ap (λ (xs : List ℕ). length xs) is ∙ length-append before after in
    absurd (omega arith)
