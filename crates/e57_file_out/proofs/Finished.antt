-- Laws: a closed file is the finished one of its sections and its text.
use Rattle.std.proofs.Common.{◌≡◌, ℕ, ◌+◌, ◌-◌, ◌*◌, ◌/◌, ◌%◌, ◌≤◌, List, ◌++◌, length, take, drop, replicate, refl, sym, ap, subst, ◌∙◌, arith, lit<, lit≤, append_assoc, length-append, length-drop}
use Rattle.std.proofs.lemmas.List.{length-take-le, take-append-drop}
use Rattle.e57_layout.specs.Written.{physical}
use Rattle.e57_page.specs.declared.header.Header.{Header}
use Rattle.e57_page_out.specs.Sealed.{sealed, filled, pages_for}
use Rattle.e57_page_out.specs.HeaderBytes.{header_bytes}
use Rattle.e57_page_out.proofs.HeaderLaws.{length-header_bytes}
use Rattle.e57_page_out.specs.Writing.{closed_file}
use Rattle.e57_page_out.proofs.WritingLaws.{closed_behind}
use Rattle.e57_plain.specs.Written.{whole_pages, xml_page, page_count, file_header, finished}
use Rattle.e57_plain.proofs.Laws.Pages.{length-whole_pages, finished_bytes-is, pages_for-small}
use Rattle.e57_file_out.specs.Closing.{whole_file}

-- ---- numbers of pages

pages_more : (s n : ℕ) → s % 1020 ≡ 0 → pages_for (s + n) ≡ s / 1020 + pages_for n
unfolding pages_for
pages_more s n whole = omega arith

padding_more : (s n : ℕ) → s % 1020 ≡ 0 → 1020 * pages_for (s + n) - (s + n) ≡ 1020 * pages_for n - n
unfolding pages_for
padding_more s n whole = omega arith

page_count-is : (sections text : List ℕ) → page_count sections text ≡ 1 + length sections / 1020 + pages_for (length text)
unfolding page_count xml_page
page_count-is sections text = refl

xml_page-is : (sections : List ℕ) → xml_page sections ≡ 1 + length sections / 1020
unfolding xml_page
xml_page-is sections = refl

-- whole pages, and bytes behind them
filled-behind : (sections text : List ℕ) → length sections % 1020 ≡ 0 → filled (pages_for (length (sections ++ text))) (sections ++ text) ≡ sections ++ whole_pages text
unfolding filled whole_pages
filled-behind sections text whole =
    let total = length-append sections text in
    let padding : 1020 * pages_for (length (sections ++ text)) - length (sections ++ text) ≡ 1020 * pages_for (length text) - length text = ap (λ n. 1020 * pages_for n - n) total ∙ padding_more (length sections) (length text) whole in
    ap (λ n. (sections ++ text) ++ replicate n 0) padding ∙ append_assoc sections text (replicate (1020 * pages_for (length text) - length text) 0)

header_page : (h : Header) → filled 1 (header_bytes h) ≡ whole_pages (header_bytes h)
unfolding whole_pages
header_page h = sym (ap (λ n. filled n (header_bytes h)) (ap pages_for (length-header_bytes h) ∙ pages_for-small 48 (lit< tt) (lit≤ tt)))

-- a first page, whole pages of sections and a text
pub closed-finished : (first sections text : List ℕ) → length first ≡ 1020 → length sections % 1020 ≡ 0 → closed_file (file_header sections text) (first ++ (sections ++ text)) ≡ finished sections text
unfolding finished
closed-finished first sections text size whole =
    let h = file_header sections text in
    let rest = sections ++ text in
    let count : 1 + pages_for (length rest) ≡ page_count sections text =
    ap (λ n. 1 + pages_for n) (length-append sections text)
    ∙ ap (λ n. 1 + n) (pages_more (length sections) (length text) whole)
    ∙ sym (page_count-is sections text ∙ one_more (length sections / 1020) (pages_for (length text))) in
    closed_behind h first rest size
    ∙ ap (λ n. sealed n (filled 1 (header_bytes h) ++ filled (pages_for (length rest)) rest)) count
    ∙ ap (λ (xs : List ℕ). sealed (page_count sections text) (xs ++ filled (pages_for (length rest)) rest)) (header_page h)
    ∙ ap (λ (xs : List ℕ). sealed (page_count sections text) (whole_pages (header_bytes h) ++ xs)) (filled-behind sections text whole)
    ∙ ap (sealed (page_count sections text)) (sym (finished_bytes-is sections text))
  where
    one_more : (a b : ℕ) → 1 + a + b ≡ 1 + (a + b)
    one_more a b = omega arith

-- its header, where the sections end before page p
header-at : (sections text : List ℕ) (p : ℕ) → 1 + length sections / 1020 ≡ p → file_header sections text ≡ record { length = 1024 * (p + pages_for (length text)); xml_place = physical (1020 * p); xml_length = length text }
unfolding file_header
header-at sections text p is =
    let count : page_count sections text ≡ p + pages_for (length text) = page_count-is sections text ∙ ap (λ n. n + pages_for (length text)) is in
    let page : xml_page sections ≡ p = xml_page-is sections ∙ is in
    ap (λ n. record { length = 1024 * n; xml_place = physical (1020 * xml_page sections); xml_length = length text }) count
    ∙ ap (λ n. record { length = 1024 * (p + pages_for (length text)); xml_place = physical (1020 * n); xml_length = length text }) page

whole_size : (bytes : List ℕ) → length (filled (pages_for (length bytes)) bytes) ≡ 1020 * pages_for (length bytes)
unfolding whole_pages
whole_size bytes = length-whole_pages bytes

some_page : (n p : ℕ) → 1020 ≤ n → p ≡ pages_for n → 1 ≤ p
unfolding pages_for
some_page n p first is = omega arith

-- a text behind the whole pages of some bytes
pub closed-whole : (bytes text : List ℕ) (p : ℕ) (header : Header) → 1020 ≤ length bytes → p ≡ pages_for (length bytes)
    → header ≡ record { length = 1024 * (p + pages_for (length text)); xml_place = physical (1020 * p); xml_length = length text }
    → closed_file header (filled p bytes ++ text) ≡ whole_file bytes text
unfolding whole_file whole_pages
closed-whole bytes text p header some is same =
    let all = filled p bytes in
    let first = take 1020 all in
    let sections = drop 1020 all in
    let pages = some_page (length bytes) p some is in
    let size : length all ≡ 1020 * p = ap (λ n. length (filled n bytes)) is ∙ whole_size bytes ∙ ap (λ n. 1020 * n) (sym is) in
    let front : length first ≡ 1020 = length-take-le 1020 all (omega arith) in
    let back : length sections ≡ length all - 1020 = length-drop 1020 all in
    let count : 1 + length sections / 1020 ≡ p = omega arith in
    let whole : length sections % 1020 ≡ 0 = omega arith in
    let cut : all ++ text ≡ first ++ (sections ++ text) = ap (λ (xs : List ℕ). xs ++ text) (sym (take-append-drop 1020 all)) ∙ append_assoc first sections text in
    ap (λ (xs : List ℕ). closed_file header xs) cut
    ∙ ap (λ (h : Header). closed_file h (first ++ (sections ++ text))) (same ∙ sym (header-at sections text p count))
    ∙ closed-finished first sections text front whole
    ∙ ap (λ n. finished (drop 1020 (filled n bytes)) text) is
